-- What it means that no multiple of a vector makes another shorter.
use Rattle.std.proofs.Common.{◌≡◌, inl, inr, zero, suc, ℤ, pos, negsuc, ◌+ℤ◌, ◌*ℤ◌, ◌≤ℤ◌, refl, sym, ap, subst, ◌∙◌, arith}
use Rattle.std.proofs.lemmas.Int.{ints}
use Rattle.integers.proofs.Order.{zero-le-square, le_trans, positive_or_not}
use Rattle.symmetry.specs.Vectors.{Vector, Matrix, origin, dot}
use Rattle.symmetry.proofs.VectorLaws.{vector_path, dot-origin}
use Rattle.symmetry.proofs.MatrixLaws.{image-origin}
use Rattle.reduction.specs.Forms.{by_form, IsForm, IsUnshortened}
use Rattle.reduction.specs.LatticeBases.{combined}
use Rattle.reduction.proofs.Shortening.{form-combined}

square_zero : (x : ℤ) → (x *ℤ x) ≤ℤ pos 0 → x ≡ pos 0
square_zero (pos zero) h = refl
square_zero (pos (suc n)) h = absurd (omega (arith, ints))
square_zero (negsuc n) h = absurd (omega (arith, ints))

-- a vector whose squares add up to nothing is 0
pub no_squares : (v : Vector) → dot v v ≤ℤ pos 0 → v ≡ origin
unfolding dot
no_squares v h =
    let x = zero-le-square v.x in
    let y = zero-le-square v.y in
    let z = zero-le-square v.z in
    vector_path (square_zero v.x (omega (arith, ints))) (square_zero v.y (omega (arith, ints))) (square_zero v.z (omega (arith, ints)))

form-origin : (g : Matrix) (v : Vector) → by_form g v origin ≡ pos 0
form-origin g v = ap (dot v) (image-origin g) ∙ dot-origin v

module _ (g : Matrix) (form : IsForm g) (v w : Vector) (h : IsUnshortened g v w) where
  no_length : by_form g w w ≤ℤ pos 0 → w ≡ origin
  no_length none = let p = form.positive w in no_squares w (le_trans _ _ _ p none)

  -- the two bounds, of a w that is 0 too
  pub above : (pos 2 *ℤ by_form g v w) ≤ℤ by_form g w w
  above = elim (positive_or_not (by_form g w w)) [
    | inl some ↦ h.above some
    | inr none ↦ subst (λ (u : Vector). (pos 2 *ℤ by_form g v u) ≤ℤ by_form g u u) (sym (no_length none))
        (let e = form-origin g v in let e' = form-origin g origin in omega (arith, ints, e, e'))
  ]

  pub below : (negsuc 1 *ℤ by_form g v w) ≤ℤ by_form g w w
  below = elim (positive_or_not (by_form g w w)) [
    | inl some ↦ h.below some
    | inr none ↦ subst (λ (u : Vector). (negsuc 1 *ℤ by_form g v u) ≤ℤ by_form g u u) (sym (no_length none))
        (let e = form-origin g v in let e' = form-origin g origin in omega (arith, ints, e, e'))
  ]

  -- neither v + w nor v - w is shorter than v
  pub no_shorter_sum : by_form g v v ≤ℤ by_form g (combined (pos 1) v (pos 1) w) (combined (pos 1) v (pos 1) w)
  no_shorter_sum =
      subst (λ z. by_form g v v ≤ℤ z) (sym (form-combined g form v w (pos 1)))
      (go (by_form g v v) (by_form g v w) (by_form g w w) below)
    where
      go : (p q r : ℤ) → (negsuc 1 *ℤ q) ≤ℤ r → p ≤ℤ (p +ℤ pos 1 *ℤ (pos 2 *ℤ q +ℤ pos 1 *ℤ r))
      go p q r h = omega (arith, ints)

  pub no_shorter_difference : by_form g v v ≤ℤ by_form g (combined (pos 1) v (negsuc 0) w) (combined (pos 1) v (negsuc 0) w)
  no_shorter_difference =
      subst (λ z. by_form g v v ≤ℤ z) (sym (form-combined g form v w (negsuc 0)))
      (go (by_form g v v) (by_form g v w) (by_form g w w) above)
    where
      go : (p q r : ℤ) → (pos 2 *ℤ q) ≤ℤ r → p ≤ℤ (p +ℤ negsuc 0 *ℤ (pos 2 *ℤ q +ℤ negsuc 0 *ℤ r))
      go p q r h = omega (arith, ints)
