-- Multiples of the first vector of a basis, as the code finds them.
use Rattle.std.proofs.Common.{◌≡◌, ℕ, ◌*◌, ◌≤◌, ℤ, pos, ◌+ℤ◌, ◌*ℤ◌, ◌≤ℤ◌, [], ◌∷◌, sym, ap, ◌∙◌, arith, inl, inr}
use Rattle.std.proofs.lemmas.Int.{ints}
use Rattle.integers.specs.Size.{IsWithin}
use Rattle.integers.proofs.Solver.{Expr.{var, num, ◌⊕◌, ◌⊝◌, ◌⊗◌}, linear, given}
use Rattle.integers.proofs.Order.{zero_or_not}
use Rattle.integers.proofs.Sizes.{multiplier_within}
use Rattle.symmetry.specs.Vectors.{Vector, cross, dot, multiple, plus}
use Rattle.symmetry.specs.Frames.{Basis, combination}
use Rattle.symmetry.specs.Sizes.{IsVectorWithin}
use Rattle.symmetry.proofs.VectorLaws.{vector_path}
use Rattle.plane_lattice.specs.Coordinates.{IsCombination, volume}
use Rattle.plane_lattice.proofs.Cramer.{combination_once}

-- x a
abbrev only_a : ℤ → Vector
only_a k = record { x = k; y = pos 0; z = pos 0 }

multiple_of_first : (f : Basis) (k : ℤ) → combination f (only_a k) ≡ multiple k f.a
unfolding plus multiple
multiple_of_first f k = vector_path (entry k f.a.x f.b.x f.tau.x) (entry k f.a.y f.b.y f.tau.y) (entry k f.a.z f.b.z f.tau.z)
  where
    entry : (k x y z : ℤ) → k *ℤ x +ℤ pos 0 *ℤ y +ℤ pos 0 *ℤ z ≡ k *ℤ x
    entry k x y z = omega (arith, ints)

none_of_none : (f : Basis) → f.a.x ≡ pos 0 → f.a.y ≡ pos 0 → f.a.z ≡ pos 0 → volume f ≡ pos 0
unfolding dot cross
none_of_none f p q s =
    linear (f.a.x ∷ f.a.y ∷ f.a.z ∷ f.b.x ∷ f.b.y ∷ f.b.z ∷ f.tau.x ∷ f.tau.y ∷ f.tau.z ∷ [])
    ((var 1 ⊗ var 5 ⊝ var 2 ⊗ var 4) ⊗ var 6 ⊕ (var 2 ⊗ var 3 ⊝ var 0 ⊗ var 5) ⊗ var 7 ⊕ (var 0 ⊗ var 4 ⊝ var 1 ⊗ var 3) ⊗ var 8) (num (pos 0))
    (given (var 4 ⊗ var 8 ⊝ var 5 ⊗ var 7) (var 0) (num (pos 0)) ∷ given (var 5 ⊗ var 6 ⊝ var 3 ⊗ var 8) (var 1) (num (pos 0))
    ∷ given (var 3 ⊗ var 7 ⊝ var 4 ⊗ var 6) (var 2) (num (pos 0)) ∷ []) tt (p, (q, (s, tt)))

module _ (f : Basis) (above : pos 1 ≤ℤ volume f) where
  not_flat : ¬ (volume f ≡ pos 0)
  not_flat e = absurd (omega (arith, ints, above, e))

  -- a vector by which a is multiplied only by one number
  pub first_once : (k l : ℤ) → multiple k f.a ≡ multiple l f.a → k ≡ l
  first_once k l e =
      ap (λ (c : Vector). c.x) (combination_once f not_flat (only_a k) (only_a l) (multiple_of_first f k ∙ e ∙ sym (multiple_of_first f l)))

  module _ (v : Vector) (some : (k : ℤ) × (multiple k f.a ≡ v)) where
    pub is_combination : IsCombination f v
    is_combination = (only_a some.0, multiple_of_first f some.0 ∙ some.1)

    pub first_is : (c : Vector) → combination f c ≡ v → multiple c.x f.a ≡ v
    first_is c e =
        let one : c ≡ only_a some.0 = combination_once f not_flat c (only_a some.0) (e ∙ sym some.1 ∙ sym (multiple_of_first f some.0)) in
        ap (λ (k : Vector). multiple k.x f.a) one ∙ some.1

    pub first_within : (n : ℕ) → IsVectorWithin n v → (c : Vector) → combination f c ≡ v → IsWithin n c.x
    unfolding multiple
    first_within n within c e =
        let is = first_is c e in
        elim (zero_or_not f.a.x) [
          | inr h ↦ multiplier_within n c.x f.a.x v.x h (λ i. (is i).x) within.x
          | inl x ↦ elim (zero_or_not f.a.y) [
            | inr h ↦ multiplier_within n c.x f.a.y v.y h (λ i. (is i).y) within.y
            | inl y ↦ elim (zero_or_not f.a.z) [
              | inr h ↦ multiplier_within n c.x f.a.z v.z h (λ i. (is i).z) within.z
              | inl z ↦ absurd (not_flat (none_of_none f x y z))
            ]
          ]
        ]
