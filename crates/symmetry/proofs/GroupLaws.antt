-- A group of motions is told by its listed operations, and its matrices keep the lattice.
use Rattle.std.proofs.Common.{◌≡◌, ◌↔◌, inr, refl, sym, ◌∙◌, ap, subst}
use Rattle.std.specs.Prelude.{Contains}
use Rattle.symmetry.specs.Vectors.{Vector, Matrix, origin, plus, opposite, minus, image, product, unit_matrix}
use Rattle.symmetry.specs.Motions.{Motion, followed_by, identity, translation}
use Rattle.symmetry.specs.Groups.{Listing, IsInLattice, SameModulo, IsMember, IsGroup, IsListedGroup}
use Rattle.symmetry.proofs.VectorLaws.{plus_assoc, plus_comm, plus-origin, origin-plus, minus-plus}
use Rattle.symmetry.proofs.MatrixLaws.{image-plus, image-unit, product-unit_left}
use Rattle.symmetry.proofs.MotionLaws.{motion_path, followed_by-assoc, followed_by-identity, identity-followed_by, inverse_by, followed_by-inverse_by, inverse_by-followed_by}
use Rattle.symmetry.proofs.LatticeLaws.{lattice-plus, lattice-made, lattice-image, same_refl, same_sym, same_trans, same-followed_by, listed_member}

-- the matrix takes the lattice into itself
abbrev pub KeepsLattice : Listing → Matrix → Type 0
KeepsLattice g w = (t : Vector) → IsInLattice g t → IsInLattice g (image w t)

unit_keeps : (g : Listing) → KeepsLattice g unit_matrix
unit_keeps g t h = subst (IsInLattice g) (sym (image-unit t)) h

-- ---- from the listed operations to the group

module _ (g : Listing) (listed : IsListedGroup g) where
  listed_keeps : (m : Motion) → Contains g.ops m → KeepsLattice g m.matrix
  listed_keeps m is = lattice-image g m.matrix (listed.keeps_lattice m is)

  member_product : (m n : Motion) → IsMember g m → IsMember g n → IsMember g (followed_by m n)
  member_product m n p q =
      let k = listed.products p.of q.of p.listed q.listed in record {
        of = k.0;
        listed = k.1;
        same = same_trans g (followed_by m n) (followed_by p.of q.of) k.0 (same-followed_by g m n p.of q.of (listed_keeps q.of q.listed) p.same q.same) k.2;
      }

  member_inverse : (m : Motion) → IsMember g m
      → (n : Motion) × IsMember g n × (followed_by m n ≡ identity) × (followed_by n m ≡ identity)
  member_inverse m p = (n, record { of = k; listed = found.1; same = n_same }, there, back)
    where
      found : (k : Motion) × Contains g.ops k × SameModulo g (followed_by p.of k) identity × SameModulo g (followed_by k p.of) identity
      found = listed.inverses p.of p.listed

      k : Motion
      k = found.0

      n : Motion
      n = inverse_by k.matrix m

      there : followed_by m n ≡ identity
      there = followed_by-inverse_by k.matrix m (ap (product k.matrix) p.same.matrix ∙ found.2.matrix)

      back : followed_by n m ≡ identity
      back = inverse_by-followed_by k.matrix m (ap (λ w. product w k.matrix) p.same.matrix ∙ found.3.matrix)

      -- n, then the listed operation, then k: n is the same as this, and so is k
      through : Motion
      through = followed_by n (followed_by p.of k)

      n_through : SameModulo g through n
      n_through =
          subst (SameModulo g through) (followed_by-identity n)
          (same-followed_by g n (followed_by p.of k) n identity (unit_keeps g) (same_refl g n) found.2)

      k_through : SameModulo g k through
      k_through =
          subst (λ (x : Motion). SameModulo g x through) (ap (λ x. followed_by x k) back ∙ identity-followed_by k)
          (subst (SameModulo g (followed_by (followed_by n m) k)) (followed_by-assoc n p.of k)
          (same-followed_by g (followed_by n m) k (followed_by n p.of) k (listed_keeps k found.1)
          (same-followed_by g n m n p.of (listed_keeps p.of p.listed) (same_refl g n) p.same) (same_refl g k)))

      n_same : SameModulo g n k
      n_same = same_sym g k n (same_trans g k through n k_through n_through)

  pub group_from_listed : IsGroup g
  group_from_listed = record {
    has_identity = let k = listed.has_identity in record { of = k.0; listed = k.1; same = same_sym g k.0 identity k.2 };
    products = member_product;
    inverses = member_inverse;
  }

-- ---- and what a group says of its listed operations

module _ (g : Listing) (group : IsGroup g) where
  -- the translation by a lattice vector is a member
  pub translation_member : (t : Vector) → IsInLattice g t → IsMember g (translation t)
  translation_member t h =
      let one = group.has_identity in record {
        of = one.of;
        listed = one.listed;
        same = record {
          matrix = one.same.matrix;
          translation = subst (IsInLattice g) (ap (plus t) (origin-plus (opposite one.of.translation)))
              (lattice-plus g t (minus origin one.of.translation) h one.same.translation);
        };
      }

  -- a translation that is a member is by a lattice vector
  pub member_translation : (t : Vector) → IsMember g (translation t) → IsInLattice g t
  member_translation t p =
      subst (IsInLattice g) (minus-plus t p.of.translation) (lattice-plus g (minus t p.of.translation) p.of.translation p.same.translation of_in)
    where
      of_is : p.of ≡ translation p.of.translation
      of_is = motion_path (sym p.same.matrix) refl

      of_in : IsInLattice g p.of.translation
      of_in = lattice-made g p.of.translation (inr (inr (subst (Contains g.ops) of_is p.listed)))

  -- a member's matrix takes the lattice into itself
  pub member_keeps : (m : Motion) → IsMember g m → KeepsLattice g m.matrix
  member_keeps m p t h =
      member_translation (image m.matrix t)
      (subst (IsMember g) conjugated
      (group.products (followed_by n (translation t)) m (group.products n (translation t) i.1 (translation_member t h)) p))
    where
      i : (n : Motion) × IsMember g n × (followed_by m n ≡ identity) × (followed_by n m ≡ identity)
      i = group.inverses m p

      n : Motion
      n = i.0

      shifts : plus (image m.matrix (plus (image unit_matrix n.translation) t)) m.translation ≡ image m.matrix t
      shifts =
          ap (λ v. plus (image m.matrix v) m.translation) (ap (λ v. plus v t) (image-unit n.translation) ∙ plus_comm n.translation t)
          ∙ ap (λ v. plus v m.translation) (image-plus m.matrix t n.translation)
          ∙ plus_assoc (image m.matrix t) (image m.matrix n.translation) m.translation
          ∙ ap (λ (k : Motion). plus (image m.matrix t) k.translation) i.3
          ∙ plus-origin (image m.matrix t)

      conjugated : followed_by (followed_by n (translation t)) m ≡ translation (image m.matrix t)
      conjugated = motion_path (ap (product m.matrix) (product-unit_left n.matrix) ∙ ap (λ (k : Motion). k.matrix) i.3) shifts

  pub listed_from_group : IsListedGroup g
  listed_from_group = record {
    has_identity = let k = group.has_identity in (k.of, k.listed, same_sym g identity k.of k.same);
    keeps_lattice = λ m is v made. member_keeps m (listed_member g m is) v (lattice-made g v made);
    products = λ m n p q. let k = group.products m n (listed_member g m p) (listed_member g n q) in (k.of, k.listed, k.same);
    inverses = λ m is.
        let p = listed_member g m is in
        let i = group.inverses m p in
        let n = i.1.of in
        let q = listed_member g n i.1.listed in (
          n,
          i.1.listed,
          subst (SameModulo g (followed_by m n)) i.2 (same-followed_by g m n m i.0 (member_keeps i.0 i.1) (same_refl g m) (same_sym g i.0 n i.1.same)),
          subst (SameModulo g (followed_by n m)) i.3 (same-followed_by g n m i.0 m (member_keeps m p) (same_sym g i.0 n i.1.same) (same_refl g m)),
        );
  }

pub group_by_listed : (g : Listing) → IsListedGroup g ↔ IsGroup g
group_by_listed g = (group_from_listed g, listed_from_group g)
