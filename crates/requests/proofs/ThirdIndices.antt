-- The third of four indices, as 128-bit code tests it.
use Rattle.std.proofs.Common.{◌≡◌, ◌+◌, ◌^◌, ◌<◌, ℤ, ◌+ℤ◌, pos, FitsSigned, w64, of_z, ap, ◌∙◌, arith}
use Rattle.std.specs.Prelude.{◌==◌}
use Rattle.std.specs.Int.{w128}
use Rattle.std.specs.Ordering.{int_eq}
use Rattle.std.proofs.lemmas.Int.{ints}
use Rattle.std.proofs.lemmas.Bool.Decides.{Decides-eqb, Decides-int_eq, Decides-like, same_from_decides}
use Rattle.integers.specs.Size.{IsWithin}
use Rattle.integers.proofs.Wide.{wide, wide_sum, wide_zero, within_sum}

within : (z : ℤ) → FitsSigned w64 z → IsWithin (2 ^ 63) z
within z fits = record { most = omega (arith, ints, fits) }

module _ (h k i : ℤ) (h_fits : FitsSigned w64 h) (k_fits : FitsSigned w64 k) (i_fits : FitsSigned w64 i) where
  abbrev pub sum : ℤ
  sum = h +ℤ k +ℤ i

  below : 2 ^ 63 + 2 ^ 63 + 2 ^ 63 < 2 ^ 127
  below = omega arith

  -- the sum is 0 exactly where its bits are
  pub zero_sum : of_z w128 (wide (wide h +ℤ wide k) +ℤ wide i) == 0 ≡ int_eq sum (pos 0)
  zero_sum =
      let is = wide_sum (2 ^ 63) h k i below (within h h_fits) (within k k_fits) (within i i_fits) in
      let small = within_sum (2 ^ 63) h k i below (within h h_fits) (within k k_fits) (within i i_fits) in
      ap (λ z. of_z w128 z == 0) is
      ∙ same_from_decides (of_z w128 sum == 0) (int_eq sum (pos 0))
      (Decides-like (of_z w128 sum == 0) (wide_zero (2 ^ 63 + 2 ^ 63 + 2 ^ 63) sum below small) (λ e. ap (of_z w128) e) (Decides-eqb (of_z w128 sum) 0))
      (Decides-int_eq sum (pos 0))
