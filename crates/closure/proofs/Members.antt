-- A Lattice as the lattice of what is listed: sameness, members and groups modulo the one are those modulo the other.
use Rattle.std.proofs.Common.{◌↔◌}
use Rattle.quotient.specs.Kind.{IsSame, Keeps}
use Rattle.quotient.specs.Lists.{IsListed}
use Rattle.quotient.specs.Groups.{IsGroup as IsGroupModulo}
use Rattle.symmetry.specs.Vectors.{image, minus}
use Rattle.symmetry.specs.Motions.{Motion, followed_by, identity}
use Rattle.symmetry.specs.Groups.{Listing, SameModulo, IsMember, IsGroup, IsListedGroup}
use Rattle.symmetry.proofs.LatticeLaws.{lattice-made, lattice-image, same_sym}
use Rattle.symmetry.proofs.GroupLaws.{group_by_listed}
use Rattle.closure.specs.declared.lattice.Lattice.{Lattice}
use Rattle.closure.specs.Lattices.{IsLatticeOf}
use Rattle.closure.specs.GroupErrors.{KeepsLattice}
use Rattle.closure.specs.Laws.ShiftLaws.{modulo, same_is, keeps_vectors}

module _ (g : Listing) (lattice : Lattice) (h : IsLatticeOf g lattice) where
  pub same_modulo : (m n : Motion) → IsSame (modulo lattice) m n ↔ SameModulo g m n
  same_modulo m n = (
    λ s. let p = (same_is lattice m n).0 s in record { matrix = p.0; translation = (h (minus m.translation n.translation)).0 p.1 },
    λ s. (same_is lattice m n).1 (s.matrix, (h (minus m.translation n.translation)).1 s.translation),
  )

  pub member_is : (m : Motion) → IsListed (modulo lattice) g.ops m ↔ IsMember g m
  member_is m = (
    λ l. record { of = l.of; listed = l.listed; same = (same_modulo m l.of).0 l.same },
    λ l. record { of = l.of; listed = l.listed; same = (same_modulo m l.of).1 l.same },
  )

  pub keeps_lattice : (m : Motion) → Keeps (modulo lattice) m ↔ KeepsLattice g m
  keeps_lattice m = (
    λ k t is. (h (image m.matrix t)).0 ((keeps_vectors lattice m).0 k t ((h t).1 is)),
    λ k. (keeps_vectors lattice m).1 (λ t is. (h (image m.matrix t)).1 (k t ((h t).0 is))),
  )

  to_listed : IsGroupModulo (modulo lattice) g.ops → IsListedGroup g
  to_listed k = record {
    has_identity = let i = k.identity in (i.of, i.listed, same_sym g identity i.of ((same_modulo identity i.of).0 i.same));
    keeps_lattice = λ m is v made. (keeps_lattice m).0 (k.keeps m is) v (lattice-made g v made);
    products = λ m n p q. let i = k.closed m n p q in (i.of, i.listed, (same_modulo (followed_by m n) i.of).0 i.same);
    inverses = λ m is.
        let i = k.inverses m is in
        let n = i.inverse in
        (n, i.listed, (same_modulo (followed_by m n) identity).0 i.undoes.after, (same_modulo (followed_by n m) identity).0 i.undoes.before);
  }

  from_listed : IsListedGroup g → IsGroupModulo (modulo lattice) g.ops
  from_listed k = record {
    identity = let i = k.has_identity in record { of = i.0; listed = i.1; same = (same_modulo identity i.0).1 (same_sym g i.0 identity i.2) };
    keeps = λ m is. (keeps_lattice m).1 (λ t in'. lattice-image g m.matrix (k.keeps_lattice m is) t in');
    closed = λ m n p q. let i = k.products m n p q in record { of = i.0; listed = i.1; same = (same_modulo (followed_by m n) i.0).1 i.2 };
    inverses = λ m is.
        let i = k.inverses m is in
        record {
          inverse = i.0;
          listed = i.1;
          undoes = record { after = (same_modulo (followed_by m i.0) identity).1 i.2; before = (same_modulo (followed_by i.0 m) identity).1 i.3 };
        };
  }

  -- a group modulo the Lattice is a group modulo L
  pub group_is : IsGroupModulo (modulo lattice) g.ops ↔ IsGroup g
  group_is = (λ k. (group_by_listed g).0 (to_listed k), λ k. from_listed ((group_by_listed g).1 k))
