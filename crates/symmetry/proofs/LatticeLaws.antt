-- The lattice is a group of vectors, and sameness modulo it an equivalence.
use Rattle.std.proofs.Common.{◌≡◌, zero, suc, ℤ, pos, negsuc, refl, sym, ◌∙◌, ap, subst}
use Rattle.std.specs.Prelude.{Contains}
use Rattle.symmetry.specs.Vectors.{Vector, Matrix, origin, plus, minus, multiple, opposite, image, product}
use Rattle.symmetry.specs.Motions.{Motion, followed_by}
use Rattle.symmetry.specs.Groups.{Listing, Generates, IsInLattice, zero_vector, added, subtracted, SameModulo, IsMember}
use Rattle.symmetry.proofs.VectorLaws.{multiple-zero, multiple-suc, multiple-negsuc_suc, plus_assoc, plus_comm, plus-origin, origin-plus, opposite-origin, opposite-plus, opposite-minus, minus-same, minus-plus-minus, minus-exchange}
use Rattle.symmetry.proofs.MatrixLaws.{image-plus, image-minus, image-origin}

-- ---- the lattice

pub lattice-plus : (g : Listing) (s t : Vector) → IsInLattice g s → IsInLattice g t → IsInLattice g (plus s t)
lattice-plus g s _ h zero_vector = subst (IsInLattice g) (sym (plus-origin s)) h
lattice-plus g s _ h (added t v k made) = subst (IsInLattice g) (plus_assoc s t v) (added (plus s t) v (lattice-plus g s t h k) made)
lattice-plus g s _ h (subtracted t v k made) = subst (IsInLattice g) (plus_assoc s t (opposite v)) (subtracted (plus s t) v (lattice-plus g s t h k) made)

pub lattice-opposite : (g : Listing) (t : Vector) → IsInLattice g t → IsInLattice g (opposite t)
lattice-opposite g _ zero_vector = subst (IsInLattice g) (sym opposite-origin) zero_vector
lattice-opposite g _ (added t v k made) = subst (IsInLattice g) (sym (opposite-plus t v)) (subtracted (opposite t) v (lattice-opposite g t k) made)
lattice-opposite g _ (subtracted t v k made) =
    subst (IsInLattice g) (plus_comm (opposite t) v ∙ sym (opposite-minus t v)) (added (opposite t) v (lattice-opposite g t k) made)

pub lattice-minus : (g : Listing) (s t : Vector) → IsInLattice g s → IsInLattice g t → IsInLattice g (minus s t)
lattice-minus g s t h k = lattice-plus g s (opposite t) h (lattice-opposite g t k)

-- whole multiples of members are members
pub lattice-multiple : (g : Listing) (c : ℤ) (v : Vector) → IsInLattice g v → IsInLattice g (multiple c v)
lattice-multiple g (pos zero) v h = subst (IsInLattice g) (sym (multiple-zero v)) zero_vector
lattice-multiple g (pos (suc n)) v h =
    subst (IsInLattice g) (sym (multiple-suc n v)) (lattice-plus g (multiple (pos n) v) v (lattice-multiple g (pos n) v h) h)
lattice-multiple g (negsuc zero) v h = lattice-opposite g v h
lattice-multiple g (negsuc (suc n)) v h =
    subst (IsInLattice g) (sym (multiple-negsuc_suc n v)) (lattice-minus g (multiple (negsuc n) v) v (lattice-multiple g (negsuc n) v h) h)

-- a vector that the lattice is made of is in it
pub lattice-made : (g : Listing) (v : Vector) → Generates g v → IsInLattice g v
lattice-made g v made = subst (IsInLattice g) (origin-plus v) (added origin v zero_vector made)

-- a matrix that takes what the lattice is made of into it takes the lattice into it
pub lattice-image : (g : Listing) (m : Matrix) → ((v : Vector) → Generates g v → IsInLattice g (image m v))
    → (t : Vector) → IsInLattice g t → IsInLattice g (image m t)
lattice-image g m keeps _ zero_vector = subst (IsInLattice g) (sym (image-origin m)) zero_vector
lattice-image g m keeps _ (added t v k made) =
    subst (IsInLattice g) (sym (image-plus m t v)) (lattice-plus g (image m t) (image m v) (lattice-image g m keeps t k) (keeps v made))
lattice-image g m keeps _ (subtracted t v k made) =
    subst (IsInLattice g) (sym (image-minus m t v)) (lattice-minus g (image m t) (image m v) (lattice-image g m keeps t k) (keeps v made))

-- ---- sameness

pub same_refl : (g : Listing) (m : Motion) → SameModulo g m m
same_refl g m = record { matrix = refl; translation = subst (IsInLattice g) (sym (minus-same m.translation)) zero_vector }

pub same_sym : (g : Listing) (m n : Motion) → SameModulo g m n → SameModulo g n m
same_sym g m n p = record {
  matrix = sym p.matrix;
  translation = subst (IsInLattice g) (opposite-minus m.translation n.translation) (lattice-opposite g (minus m.translation n.translation) p.translation);
}

pub same_trans : (g : Listing) (k m n : Motion) → SameModulo g k m → SameModulo g m n → SameModulo g k n
same_trans g k m n p q = record {
  matrix = p.matrix ∙ q.matrix;
  translation = subst (IsInLattice g) (minus-plus-minus k.translation m.translation n.translation) (lattice-plus g (minus k.translation m.translation) (minus m.translation n.translation) p.translation q.translation);
}

-- a listed motion is a member, and so is what is the same as a member
pub listed_member : (g : Listing) (m : Motion) → Contains g.ops m → IsMember g m
listed_member g m is = record { of = m; listed = is; same = same_refl g m }

pub same_member : (g : Listing) (m n : Motion) → SameModulo g m n → IsMember g n → IsMember g m
same_member g m n p q = record { of = q.of; listed = q.listed; same = same_trans g m n q.of p q.same }

-- products of motions that are the same are the same, where the matrix of the last keeps the lattice
pub same-followed_by : (g : Listing) (m n m' n' : Motion)
    → ((t : Vector) → IsInLattice g t → IsInLattice g (image n'.matrix t))
    → SameModulo g m m' → SameModulo g n n' → SameModulo g (followed_by m n) (followed_by m' n')
same-followed_by g m n m' n' keeps p q = record {
  matrix = λ i. product (q.matrix i) (p.matrix i);
  translation = subst (IsInLattice g) shifts
      (lattice-plus g (image n'.matrix (minus m.translation m'.translation)) (minus n.translation n'.translation) (keeps (minus m.translation m'.translation) p.translation) q.translation);
}
  where
    shifts : plus (image n'.matrix (minus m.translation m'.translation)) (minus n.translation n'.translation)
        ≡ minus (plus (image n.matrix m.translation) n.translation) (plus (image n'.matrix m'.translation) n'.translation)
    shifts =
        ap (λ v. plus v (minus n.translation n'.translation)) (image-minus n'.matrix m.translation m'.translation)
        ∙ minus-exchange (image n'.matrix m.translation) (image n'.matrix m'.translation) n.translation n'.translation
        ∙ ap (λ w. minus (plus (image w m.translation) n.translation) (plus (image n'.matrix m'.translation) n'.translation)) (sym q.matrix)
