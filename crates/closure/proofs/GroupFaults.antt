-- What is wrong with a list of operations modulo a Lattice is wrong with it modulo L.
use Rattle.std.proofs.Common.{◌≡◌, ℕ, ◌-◌, ◌↔◌, arith, refl, sym, ap, subst, ◌∙◌, List}
use Rattle.std.specs.Prelude.{Contains}
use Rattle.std.proofs.lemmas.List.Elements.{Contains-get_or}
use Rattle.quotient.specs.declared.check.GroupFault.{GroupFault}
use Rattle.quotient.specs.declared.check.GroupFault.TheVariants.{NoIdentity, ShiftMoved, NotClosed, NoInverse}
use Rattle.quotient.specs.Kind.{IsEquivalence}
use Rattle.quotient.specs.Lists.{AreFirst, IsListed}
use Rattle.quotient.specs.Groups.{AllKeep, IsFault, IsPosition, motion_at, HasInverse as HasInverseModulo, IsClosed as IsClosedModulo, IsFirstOpen as IsFirstOpenModulo}
use Rattle.quotient.proofs.Firsts.{Contains-from_firsts, firsts_cover}
use Rattle.symmetry.specs.Vectors.{Vector, origin, image, minus, opposite, plus}
use Rattle.symmetry.proofs.VectorLaws.{opposite-origin, opposite-plus, plus-origin}
use Rattle.symmetry.specs.Motions.{Motion, followed_by, identity}
use Rattle.symmetry.specs.Groups.{Listing, IsInLattice, SameModulo, IsMember}
use Rattle.symmetry.proofs.LatticeLaws.{lattice-opposite, same_refl, same_sym, same_trans, same_member, same-followed_by, listed_member}
use Rattle.symmetry.proofs.MotionLaws.{inverse_by, followed_by-inverse_by, inverse_by-followed_by}
use Rattle.closure.specs.declared.lattice.Lattice.{Lattice}
use Rattle.closure.specs.Lattices.{IsLatticeOf}
use Rattle.closure.specs.Laws.ShiftLaws.{modulo}
use Rattle.closure.specs.GroupErrors.{KeepsLattice, HasInverse, IsFirstOpen, AllKeepLattice, IsClosed, IsFaultAt}
use Rattle.closure.proofs.Members.{same_modulo, member_is, keeps_lattice}
use Rattle.closure.proofs.Firsts.{kept_listing, kept_lattice, kept_member}

pub same_is_equivalence : (g : Listing) → IsEquivalence (SameModulo g)
same_is_equivalence g = record { reflexive = same_refl g; symmetric = same_sym g; transitive = same_trans g }

-- -((v + w) - 0) is -v - w
taken_back : (v w : Vector) → opposite (minus (plus v w) origin) ≡ minus (opposite v) w
taken_back v w = ap (λ u. opposite (plus (plus v w) u)) opposite-origin ∙ ap opposite (plus-origin (plus v w)) ∙ opposite-plus v w

module _ (g : Listing) (lattice : Lattice) (h : IsLatticeOf g lattice) (ops : List Motion) (f : AreFirst (SameModulo g) g.ops ops) where
  listed_is : (m : Motion) → IsListed (modulo lattice) ops m ↔ IsMember g m
  listed_is m = (
    λ l. (kept_member g lattice h ops f m).1 ((member_is (kept_listing g lattice h ops f) lattice (kept_lattice g lattice h ops f) m).0 l),
    λ l. (member_is (kept_listing g lattice h ops f) lattice (kept_lattice g lattice h ops f) m).1 ((kept_member g lattice h ops f m).0 l),
  )

  -- a listed operation is the same as one of the first
  cover : (m : Motion) → Contains g.ops m → (n : Motion) × Contains ops n × SameModulo g m n
  cover m is = let (k, n, within, at, s) = firsts_cover (same_is_equivalence g) g.ops ops f m is in (n, (k, within, at), s)

  all_keep : AllKeep (modulo lattice) ops → AllKeepLattice g
  all_keep k m is =
      let c = cover m is in
      subst (λ w. (t : Vector) → IsInLattice g t → IsInLattice g (image w t)) (sym c.2.matrix) ((keeps_lattice g lattice h c.0).0 (k c.0 c.1))

  all_closed : AllKeep (modulo lattice) ops → IsClosedModulo (modulo lattice) ops → IsClosed g
  all_closed k c m n p q =
      let a = cover m p in
      let b = cover n q in
      same_member g (followed_by m n) (followed_by a.0 b.0)
      (same-followed_by g m n a.0 b.0 ((keeps_lattice g lattice h b.0).0 (k b.0 b.1)) a.2 b.2)
      ((listed_is (followed_by a.0 b.0)).0 (c a.0 b.0 a.1 b.1))

  first_open : (i j : ℕ) → IsFirstOpenModulo (modulo lattice) ops i j → IsFirstOpen g ops i j
  first_open i j o = record {
    first = o.first;
    second = o.second;
    lacks = λ p. o.lacks ((listed_is _).1 p);
    before = λ k l p q b. (listed_is _).0 (o.before k l p q b);
  }

  -- an inverse modulo the lattice, and an inverse that is one
  inverse_from : (m : Motion) → HasInverseModulo (modulo lattice) ops m → HasInverse g m
  inverse_from m i =
      let n = i.inverse in
      let a = (same_modulo g lattice h (followed_by m n) identity).0 i.undoes.after in
      let b = (same_modulo g lattice h (followed_by n m) identity).0 i.undoes.before in
      let back = inverse_by n.matrix m in
      let near : SameModulo g back n = record {
        matrix = refl;
        translation = subst (IsInLattice g) (taken_back (image n.matrix m.translation) n.translation) (lattice-opposite g (minus (plus (image n.matrix m.translation) n.translation) origin) a.translation);
      } in (
        back,
        same_member g back n near (listed_member g n (Contains-from_firsts g.ops ops f n i.listed)),
        followed_by-inverse_by n.matrix m a.matrix,
        inverse_by-followed_by n.matrix m b.matrix,
      )

  inverse_to : AllKeep (modulo lattice) ops → (m : Motion) → KeepsLattice g m → HasInverse g m → HasInverseModulo (modulo lattice) ops m
  inverse_to k m keeps (n, p, after, before) =
      let c = cover p.of p.listed in
      let back = c.0 in
      let near = same_trans g n p.of back p.same c.2 in
      let kept = (keeps_lattice g lattice h back).0 (k back c.1) in
      record {
        inverse = back;
        listed = c.1;
        undoes = record {
          after = (same_modulo g lattice h (followed_by m back) identity).1
              (subst (SameModulo g (followed_by m back)) after (same_sym g (followed_by m n) (followed_by m back) (same-followed_by g m n m back kept (same_refl g m) near)));
          before = (same_modulo g lattice h (followed_by back m) identity).1
              (subst (SameModulo g (followed_by back m)) before (same_sym g (followed_by n m) (followed_by back m) (same-followed_by g n m back m keeps near (same_refl g m))));
        };
      }

  -- a position of the list holds a motion of it
  at_position : (i : ℕ) → IsPosition (modulo lattice) ops i → Contains ops (motion_at (modulo lattice) ops i)
  at_position i p = let low = p.0 in let high = p.1 in Contains-get_or ops (i - 1) identity (omega arith)

  pub fault_is : (fault : GroupFault) → IsFault (modulo lattice) ops fault → IsFaultAt g ops fault
  fault_is NoIdentity n = λ p. n ((listed_is identity).1 p)
  fault_is (ShiftMoved i) (one, w) = (
    (listed_is identity).0 one,
    record {
      position = w.position;
      lacks = λ k. w.lacks ((keeps_lattice g lattice h _).1 k);
      before = λ k p l. (keeps_lattice g lattice h _).0 (w.before k p l);
    },
  )
  fault_is (NotClosed i j) (one, k, o) = ((listed_is identity).0 one, all_keep k, first_open i j o)
  fault_is (NoInverse i) (one, k, c, w) = (
    (listed_is identity).0 one,
    all_keep k,
    all_closed k c,
    record {
      position = w.position;
      lacks = λ p. w.lacks (inverse_to k (motion_at (modulo lattice) ops i) ((keeps_lattice g lattice h (motion_at (modulo lattice) ops i)).0 (k (motion_at (modulo lattice) ops i) (at_position i w.position))) p);
      before = λ j p l. inverse_from _ (w.before j p l);
    },
  )
