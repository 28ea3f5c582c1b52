-- Multiples taken away, from the numbers that the code passes.
use Rattle.std.proofs.Common.{◌≡◌, ◌^◌, ℕ, ℤ, pos, ◌+ℤ◌, ◌-ℤ◌, ◌*ℤ◌, ◌≤ℤ◌, ◌<ℤ◌, List, [], ◌∷◌, sym, ap, subst, ◌∙◌, lit<, arith, FitsSigned, w64}
use Rattle.std.specs.Int.{w128}
use Rattle.std.proofs.lemmas.Int.{ints}
use Rattle.integers.specs.Size.{IsWithin}
use Rattle.integers.proofs.Coded.{again, fits_within}
use Rattle.integers.proofs.Solver.{Expr, Expr.{var, num, ◌⊕◌, ◌⊝◌, ◌⊗◌}, ring}
use Rattle.integers.proofs.Wide.{wide, wide_is, code_fits, code_is}
use Rattle.integers.proofs.Order.{lt-le_trans}
use Rattle.symmetry.specs.Vectors.{Vector, Matrix, plus, multiple}
use Rattle.symmetry.specs.Sizes.{IsVectorWithin}
use Rattle.symmetry.proofs.VectorLaws.{vector_path}
use Rattle.reduction.specs.Bounds.{largest_short, largest_form_value}
use Rattle.reduction.specs.Forms.{by_form, IsForm, IsShort, Shortens}
use Rattle.reduction.specs.LatticeBases.{combined}
use Rattle.reduction.proofs.FormPassed.{short_again, short_again_within, value_wide}
use Rattle.reduction.proofs.Shortening.{shorter_less, short_within}

abbrev step : ℕ
step = 2 ^ 44

abbrev bounds : List ℕ
bounds = largest_short ∷ step ∷ largest_short ∷ []

abbrev code : Expr
code = var 0 ⊝ var 1 ⊗ var 2

module _ (v k w : ℤ) (hv : IsWithin largest_short v) (hk : IsWithin step k) (hw : IsWithin largest_short w) where
  abbrev env : List ℤ
  env = again v ∷ k ∷ again w ∷ []

  pub fits_product : FitsSigned w128 (wide k *ℤ wide (again w))
  fits_product = code_fits bounds env (var 1 ⊗ var 2) tt (short_again_within v hv, (hk, (short_again_within w hw, tt)))

  pub fits_less : FitsSigned w128 (wide (again v) -ℤ wide (wide k *ℤ wide (again w)))
  fits_less = code_fits bounds env code tt (short_again_within v hv, (hk, (short_again_within w hw, tt)))

  less_is : wide (wide (again v) -ℤ wide (wide k *ℤ wide (again w))) ≡ v -ℤ k *ℤ w
  less_is = code_is bounds env code tt (short_again_within v hv, (hk, (short_again_within w hw, tt))) ∙ (λ i. short_again v hv i -ℤ k *ℤ short_again w hw i)

  module _ (rest : IsWithin largest_short (v -ℤ k *ℤ w)) where
    pub fits_cast : FitsSigned w64 (wide (wide (again v) -ℤ wide (wide k *ℤ wide (again w))))
    fits_cast = let P : ℤ → Type 0 = FitsSigned w64 in subst P (sym less_is) (fits_within (v -ℤ k *ℤ w) largest_short rest (lit< tt))

    pub cast_is : again (wide (wide (again v) -ℤ wide (wide k *ℤ wide (again w)))) ≡ v -ℤ k *ℤ w
    cast_is = ap again less_is ∙ short_again (v -ℤ k *ℤ w) rest

    pub cast_small : IsWithin largest_short (again (wide (wide (again v) -ℤ wide (wide k *ℤ wide (again w)))))
    cast_small = let P : ℤ → Type 0 = IsWithin largest_short in subst P (sym cast_is) rest

-- an entry of x u + y v
as_combined : (v k w : ℤ) → v -ℤ k *ℤ w ≡ pos 1 *ℤ v +ℤ (pos 0 -ℤ k) *ℤ w
as_combined v k w = ring (v ∷ k ∷ w ∷ []) (var 0 ⊝ var 1 ⊗ var 2) (num (pos 1) ⊗ var 0 ⊕ (num (pos 0) ⊝ var 1) ⊗ var 2) tt

module _ (k : ℤ) (hk : IsWithin step k) where
  pub k_wide : wide k ≡ k
  k_wide = wide_is step k (lit< tt) hk

  pub k_again_within : IsWithin step (wide k)
  k_again_within = let P : ℤ → Type 0 = IsWithin step in subst P (sym k_wide) hk

  read : (v w : ℤ) → IsWithin largest_short v → IsWithin largest_short w → again v -ℤ wide k *ℤ again w ≡ pos 1 *ℤ v +ℤ (pos 0 -ℤ k) *ℤ w
  read v w hv hw = (λ i. short_again v hv i -ℤ k_wide i *ℤ short_again w hw i) ∙ as_combined v k w

  module _ (v w : Vector) (hv : IsVectorWithin largest_short v) (hw : IsVectorWithin largest_short w) where
    pub rests : IsVectorWithin largest_short (combined (pos 1) v (pos 0 -ℤ k) w)
        → IsVectorWithin largest_short (record { x = again v.x -ℤ wide k *ℤ again w.x; y = again v.y -ℤ wide k *ℤ again w.y; z = again v.z -ℤ wide k *ℤ again w.z })
    unfolding plus multiple
    rests h =
        let P : ℤ → Type 0 = IsWithin largest_short in
        record { x = subst P (sym (read v.x w.x hv.x hw.x)) h.x; y = subst P (sym (read v.y w.y hv.y hw.y)) h.y; z = subst P (sym (read v.z w.z hv.z hw.z)) h.z }

    pub without_is : (x y z : ℤ) → IsWithin largest_short x → IsWithin largest_short y → IsWithin largest_short z
        → x ≡ again v.x -ℤ wide k *ℤ again w.x → y ≡ again v.y -ℤ wide k *ℤ again w.y → z ≡ again v.z -ℤ wide k *ℤ again w.z
        → record { x = again x; y = again y; z = again z } ≡ combined (pos 1) v (pos 0 -ℤ k) w
    unfolding plus multiple
    without_is x y z hx hy hz e e' e'' =
        vector_path (short_again x hx ∙ e ∙ read v.x w.x hv.x hw.x) (short_again y hy ∙ e' ∙ read v.y w.y hv.y hw.y) (short_again z hz ∙ e'' ∙ read v.z w.z hv.z hw.z)

-- one step of the reduction
module _ (g : Matrix) (form : IsForm g) (v w : Vector) (hv : IsShort g v) (a h k : ℤ) (a_is : a ≡ by_form g w w) (h_is : h ≡ by_form g v w)
    (ha : IsWithin largest_form_value a) (hh : IsWithin largest_form_value h) (from : pos 1 ≤ℤ k) (most : k ≤ℤ pos step)
    (below : (k *ℤ wide a) <ℤ (pos 2 *ℤ wide h)) where
  pub k_small : IsWithin step k
  k_small = record { most = omega (arith, ints) }

  pub step_less : by_form g (combined (pos 1) v (pos 0 -ℤ wide k) w) (combined (pos 1) v (pos 0 -ℤ wide k) w) <ℤ by_form g v v
  step_less =
      let e : wide k ≡ k = k_wide k k_small in
      let back : pos 0 -ℤ (pos 0 -ℤ wide k) ≡ k = omega (arith, ints) in
      let l : (k *ℤ by_form g w w) <ℤ (pos 2 *ℤ by_form g v w) =
      subst (λ z. (k *ℤ by_form g w w) <ℤ (pos 2 *ℤ z)) (value_wide h hh ∙ h_is) (subst (λ z. (k *ℤ z) <ℤ (pos 2 *ℤ wide h)) (value_wide a ha ∙ a_is) below) in
      shorter_less g form v w (pos 0 -ℤ wide k) (subst (λ z. pos 1 ≤ℤ z) (sym back) from) (subst (λ z. (z *ℤ by_form g w w) <ℤ (pos 2 *ℤ by_form g v w)) (sym back) l)

  pub step_small : IsVectorWithin largest_short (combined (pos 1) v (pos 0 -ℤ wide k) w)
  step_small = let l = step_less in let m = hv.most in short_within g form _ (record { most = lt-le_trans _ _ _ l m })

  pub step_shortens : (u : Vector) → u ≡ combined (pos 1) v (pos 0 -ℤ wide k) w → Shortens g v w u
  step_shortens u e = record { times = pos 0 -ℤ wide k; is = e; less = subst (λ (t : Vector). by_form g t t <ℤ by_form g v v) (sym e) step_less }
