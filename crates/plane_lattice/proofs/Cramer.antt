-- Coordinates in three vectors, by Cramer's rule.
use Rattle.std.proofs.Common.{◌≡◌, ◌↔◌, ℤ, pos, ◌*ℤ◌, ◌≤ℤ◌, Bool, true, false, not, refl, subst, FitsSigned, IsTrue, nat_eq, of_z, to_z, eq-eqb, sym, ap, ◌∙◌, arith}
use Rattle.std.specs.Int.{w128}
use borrow.Author.Tests.{eqb-true}
use Rattle.std.proofs.lemmas.Int.{ints, to_z-of_z}
use Rattle.integers.proofs.Ring.{mul_left_cancel}
use Rattle.symmetry.specs.Vectors.{Vector, multiple}
use Rattle.symmetry.specs.Frames.{Basis, combination}
use Rattle.symmetry.specs.Sizes.{IsVectorWithin}
use Rattle.plane_lattice.specs.Skews.{IsFar}
use Rattle.symmetry.proofs.VectorLaws.{vector_path}
use Rattle.symmetry.proofs.FrameLaws.{combination-multiple, cramer}
use Rattle.plane_lattice.specs.Coordinates.{volume, scaled, IsPlaneCombination}
use Rattle.plane_lattice.specs.Laws.QuotientLaws.{scaled-combination}

-- a common factor other than zero
pub multiple_cancel : (k : ℤ) (v w : Vector) → ¬ (k ≡ pos 0) → multiple k v ≡ multiple k w → v ≡ w
unfolding multiple
multiple_cancel k v w n e =
    vector_path (mul_left_cancel k v.x w.x n (λ i. (e i).x)) (mul_left_cancel k v.y w.y n (λ i. (e i).y)) (mul_left_cancel k v.z w.z n (λ i. (e i).z))

-- with a volume, a vector is one combination at the most
pub combination_once : (f : Basis) → ¬ (volume f ≡ pos 0) → (c c' : Vector) → combination f c ≡ combination f c' → c ≡ c'
combination_once f n c c' e =
    multiple_cancel (volume f) c c' n (sym (scaled-combination f c) ∙ ap (scaled f) e ∙ scaled-combination f c')

module _ (f : Basis) (v : Vector) where
  -- the vector that is a whole combination has whole coordinates
  pub whole_x : (c : Vector) → combination f c ≡ v → volume f *ℤ c.x ≡ (scaled f v).x
  unfolding multiple
  whole_x c e = ap (λ (u : Vector). u.x) (sym (scaled-combination f c) ∙ ap (scaled f) e)

  pub whole_y : (c : Vector) → combination f c ≡ v → volume f *ℤ c.y ≡ (scaled f v).y
  unfolding multiple
  whole_y c e = ap (λ (u : Vector). u.y) (sym (scaled-combination f c) ∙ ap (scaled f) e)

  pub whole_z : (c : Vector) → combination f c ≡ v → volume f *ℤ c.z ≡ (scaled f v).z
  unfolding multiple
  whole_z c e = ap (λ (u : Vector). u.z) (sym (scaled-combination f c) ∙ ap (scaled f) e)

  -- and the other way round
  pub combination_of : pos 1 ≤ℤ volume f → (x y z : ℤ)
      → volume f *ℤ x ≡ (scaled f v).x → volume f *ℤ y ≡ (scaled f v).y → volume f *ℤ z ≡ (scaled f v).z
      → combination f (record { x = x; y = y; z = z }) ≡ v
  unfolding multiple
  combination_of h x y z p q s =
      let c : Vector = record { x = x; y = y; z = z } in
      multiple_cancel (volume f) (combination f c) v (λ e. absurd (omega (arith, ints)))
      (sym (combination-multiple f (volume f) c) ∙ ap (combination f) (vector_path p q s) ∙ cramer f v)

-- a vector with whole coordinates is a whole combination of the first two exactly where the third coordinate is 0
pub in_plane_by_third : (f : Basis) (v c : Vector) → FitsSigned w128 c.z → pos 1 ≤ℤ volume f → combination f c ≡ v
    → IsTrue (nat_eq (of_z w128 c.z) 0) ↔ IsPlaneCombination f v
in_plane_by_third f v c fits h is = (
  λ t. (c, is, sym (to_z-of_z w128 c.z fits) ∙ ap (to_z w128) (eqb-true (of_z w128 c.z) 0 t)),
  λ (k, e, flat). eq-eqb (of_z w128 c.z) 0
      (ap (of_z w128) (ap (λ (u : Vector). u.z) (combination_once f (λ z. absurd (omega (arith, ints))) c k (is ∙ sym e)) ∙ flat)),
)

-- a vector with whole coordinates is far exactly where one of these is above 500 in size
pub far_by_coordinates : (f : Basis) (v c : Vector) (b : Bool) → pos 1 ≤ℤ volume f → combination f c ≡ v → IsTrue b ↔ IsVectorWithin 500 c → IsTrue (not b) ↔ IsFar f v
far_by_coordinates f v c true h is tells = (
  λ (t : false ≡ true). absurd (cc t),
  λ (k, e, far).
      let only : c ≡ k = combination_once f (λ z. absurd (omega (arith, ints))) c k (is ∙ sym e) in
      absurd (far (subst (IsVectorWithin 500) only (tells.0 refl))),
)
far_by_coordinates f v c false h is tells = (λ _. (c, is, λ w. absurd (cc (tells.1 w))), λ _. refl)
