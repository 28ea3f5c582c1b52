-- The listing of what is generated is a group, with the members that are generated.
use Rattle.std.proofs.Common.{◌≡◌, ◌↔◌, ◌<◌, ◌≤◌, inl, inr, arith, refl, sym, subst, List, length, map}
use Rattle.std.specs.Prelude.{Contains}
use Rattle.std.proofs.lemmas.Bool.{cases_lt}
use Rattle.std.proofs.lemmas.List.{length-map}
use Rattle.std.proofs.lemmas.List.Elements.{All-map, All-contains, All-contains_itself, All-weaker}
use Rattle.quotient.specs.Closure.IsFactor.{generator}
use Rattle.quotient.specs.Closure.IsProduct.{empty, further}
use Rattle.symmetry.specs.Vectors.{Matrix, image, minus, product}
use Rattle.symmetry.specs.Motions.{Motion, followed_by, identity}
use Rattle.symmetry.specs.Groups.{Listing, IsInLattice, IsMember, IsGroup, SameModulo}
use Rattle.quotient.proofs.ListLaws.{AllPairs-map}
use Rattle.closure.specs.Generated.{InGeneratedLattice, IsTooLarge, IsTooLarge.{many}, IsGenerated, IsGeneratedMatrix, IsGeneratedMatrix.{one_more}, AllInvertible, IsDerivedListing}
use Rattle.closure.specs.Fineness.{IsTooFine}
use Rattle.closure.specs.GroupErrors.{IsWithinLimits}
use Rattle.closure.specs.Derived.{GeneratesWithinLimits}
use Rattle.closure.specs.ClosedLists.{HasMatrixOf, IsMatrixClosed, IsLatticeClosed}
use Rattle.closure.proofs.GeneratedLemma.{generated_products, generated_is_covered}
use Rattle.closure.proofs.GeneratedGroup.{generated_inverse, generated_shift, difference_generated, image_generated}
use Rattle.closure.proofs.OneDerived.{headed}

module _ (g h : Listing) (invertible : AllInvertible g) (d : IsDerivedListing g h) where
  first : Contains h.ops identity
  first = let a = headed g h.ops d.ops in subst (λ l. Contains l identity) (sym a.is) (0, omega arith, refl)

  covered : (m k : Motion) → Contains h.ops m → Contains g.ops k → HasMatrixOf h.ops (followed_by m k)
  covered m k is listed = d.ops.covers (product k.matrix m.matrix) (one_more m.matrix k (d.ops.matrices m is) listed)

  is_generated : (m : Motion) → Contains h.ops m → IsGenerated g m
  is_generated m is = All-contains (IsGenerated g) h.ops m d.ops.inside is

  closed : IsMatrixClosed g h.ops
  closed = record {
    first = first;
    inside = d.ops.inside;
    matrices = All-weaker (Contains h.ops) (λ m. IsGeneratedMatrix g m.matrix) d.ops.matrices h.ops (All-contains_itself h.ops);
    once = d.ops.once;
    closed = covered;
  }

  differs : (m k : Motion) → Contains h.ops m → Contains g.ops k → (n : Motion) × Contains h.ops n × SameModulo h (followed_by m k) n
  differs m k is listed =
      let (n, stands, e) = covered m k is listed in
      let in_k : IsGenerated g (followed_by m k) = further m k (is_generated m is) (generator listed) in (
        n,
        stands,
        record {
          matrix = sym e;
          translation = (d.lattice (minus (followed_by m k).translation n.translation)).0 (difference_generated g invertible (followed_by m k) n in_k (is_generated n stands) (sym e));
        },
      )

  closed_lattice : IsLatticeClosed g h.ops h
  closed_lattice = record {
    inside = λ v. (d.lattice v).1;
    centrings = λ v p. (d.lattice v).0 (generated_shift g v p);
    differences = differs;
    keeps = λ m is v p. (d.lattice (image m.matrix v)).0 (image_generated g invertible m v (is_generated m is) ((d.lattice v).1 p));
  }

  pub derived_members : (m : Motion) → IsGenerated g m ↔ IsMember h m
  derived_members m =
      let c = generated_is_covered g h.ops h closed closed_lattice m in (
        λ p. let q = c.0 p in record { of = q.of; listed = q.listed; same = q.same },
        λ p. c.1 (record { of = p.of; listed = p.listed; same = p.same }),
      )

  pub derived_group : IsGroup h
  derived_group = record {
    has_identity = (derived_members identity).0 empty;
    products = λ m n p q. (derived_members (followed_by m n)).0 (generated_products g m n ((derived_members m).1 p) ((derived_members n).1 q));
    inverses = λ m p.
        let (n, q, after, before) = generated_inverse g invertible m ((derived_members m).1 p) in
        (n, (derived_members n).0 q, after, before);
  }

-- it is within the limits of a listing where what is listed is within those of generators
pub derived_within : (g h : Listing) → GeneratesWithinLimits g → IsDerivedListing g h → IsWithinLimits h
derived_within g h limits d = record { few = few; fine = fine }
  where
    matrices : List Matrix
    matrices = map (λ (m : Motion). m.matrix) h.ops

    large : 192 < length h.ops → IsTooLarge g
    large more =
        many matrices (omega (arith, length-map h.ops (λ (m : Motion). m.matrix)))
        (All-map (IsGeneratedMatrix g) (λ (m : Motion). m.matrix) h.ops
        (All-weaker (Contains h.ops) (λ m. IsGeneratedMatrix g m.matrix) d.ops.matrices h.ops (All-contains_itself h.ops)))
        (AllPairs-map (λ (m : Motion). m.matrix) (λ v w. ¬ (v ≡ w)) h.ops d.ops.once)

    few : length h.ops ≤ 192
    few = elim (cases_lt 192 (length h.ops)) [ inl more ↦ absurd (limits.not_large (large more)) | inr le ↦ le ]

    fine : ¬ IsTooFine h
    fine f = limits.fine (record {
      members = f.members;
      many = f.many;
      inside = All-weaker (IsInLattice h) (InGeneratedLattice g) (λ v p. (d.lattice v).1 p) f.members f.inside;
      apart = f.apart;
    })
