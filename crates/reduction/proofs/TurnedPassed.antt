-- The opposite of a vector, and what shortens by it.
use Rattle.std.proofs.Common.{◌≡◌, ◌*◌, ℕ, ℤ, pos, negsuc, ◌-ℤ◌, ◌*ℤ◌, ◌≤ℤ◌, [], ◌∷◌, sym, ap, subst, ◌∙◌, arith}
use Rattle.std.specs.Prelude.{Option, Some, None, MatchOption}
use Rattle.std.proofs.lemmas.Int.{ints}
use Rattle.integers.specs.Size.{IsWithin}
use Rattle.integers.proofs.Coded.{again, code_is}
use Rattle.integers.proofs.Solver.{Expr.{var, num, ◌⊝◌}}
use Rattle.symmetry.specs.Sizes.{IsVectorWithin}
use Rattle.symmetry.specs.Vectors.{Vector, Matrix, plus, multiple, opposite}
use Rattle.symmetry.proofs.VectorLaws.{multiple-multiple}
use Rattle.reduction.specs.Bounds.{largest_short}
use Rattle.reduction.specs.Forms.{by_form, IsShort, IsUnshortened, Shortens}
use Rattle.reduction.specs.LatticeBases.{combined}
use Rattle.reduction.proofs.Shortening.{form-multiple, multiple-form}

pub neg_short : (x : ℤ) → IsWithin largest_short x → again (pos 0 -ℤ again x) ≡ negsuc 0 *ℤ x
neg_short x h = code_is (largest_short ∷ []) (x ∷ []) (num (pos 0) ⊝ var 0) tt (h, tt) ∙ omega (arith, ints)

pub opposite_within : (n : ℕ) (x : ℤ) → IsWithin n x → IsWithin n (negsuc 0 *ℤ x)
opposite_within n x h = let m = h.most in record { most = omega (arith, ints) }

pub opposite_vector_within : (n : ℕ) (v : Vector) → IsVectorWithin n v → IsVectorWithin n (opposite v)
unfolding multiple
opposite_vector_within n v h = record { x = opposite_within n v.x h.x; y = opposite_within n v.y h.y; z = opposite_within n v.z h.z }

module _ (g : Matrix) (v w : Vector) where
  to_opposite : by_form g v (opposite w) ≡ negsuc 0 *ℤ by_form g v w
  to_opposite = form-multiple g v (negsuc 0) w

  pub of_opposite : by_form g (opposite w) (opposite w) ≡ by_form g w w
  of_opposite = multiple-form g (negsuc 0) w (opposite w) ∙ ap (λ z. negsuc 0 *ℤ z) (form-multiple g w (negsuc 0) w) ∙ omega (arith, ints)

  pub opposite_short : IsShort g w → (t : Vector) → t ≡ opposite w → IsShort g t
  opposite_short h t e = let m = h.most in subst (IsShort g) (sym e) (record { most = subst (λ z. z ≤ℤ pos (largest_short * largest_short)) (sym of_opposite) m })

  -- neither w nor its opposite
  pub unshortened : (t : Vector) → t ≡ opposite w
      → (pos 1 ≤ℤ by_form g w w → (pos 2 *ℤ by_form g v w) ≤ℤ by_form g w w)
      → (pos 1 ≤ℤ by_form g t t → (pos 2 *ℤ by_form g v t) ≤ℤ by_form g t t) → IsUnshortened g v w
  unshortened t e h k =
      let k' = subst (λ (s : Vector). pos 1 ≤ℤ by_form g s s → (pos 2 *ℤ by_form g v s) ≤ℤ by_form g s s) e k in
      record {
        above = h;
        below = λ some.
            let l : (pos 2 *ℤ (negsuc 0 *ℤ by_form g v w)) ≤ℤ by_form g w w =
            subst (λ z. (pos 2 *ℤ z) ≤ℤ by_form g w w) to_opposite
            (subst (λ z. (pos 2 *ℤ by_form g v (opposite w)) ≤ℤ z) of_opposite (k' (subst (λ z. pos 1 ≤ℤ z) (sym of_opposite) some))) in
            omega (arith, ints, l);
      }

  turned_combined : (k : ℤ) → combined (pos 1) v k (opposite w) ≡ combined (pos 1) v (k *ℤ negsuc 0) w
  turned_combined k = ap (plus (multiple (pos 1) v)) (multiple-multiple k (negsuc 0) w)

  pub shortens_turned : (t : Vector) → t ≡ opposite w → (u : Vector) → Shortens g v t u → Shortens g v w u
  shortens_turned t e u h =
      let k : Shortens g v (opposite w) u = subst (λ (s : Vector). Shortens g v s u) e h in
      record { times = k.times *ℤ negsuc 0; is = k.is ∙ turned_combined k.times; less = k.less }

-- what an option tells, told in other words
pub match_more : {A : Type 0} (P P' : Type 0) (Q Q' : A → Type 0) (o : Option A) → (P → P') → ((x : A) → Q x → Q' x) → MatchOption o P Q → MatchOption o P' Q'
match_more P P' Q Q' (Some x) f h m = h x m
match_more P P' Q Q' None f h m = f m
