-- What a multiple leaves.
use Rattle.std.proofs.Common.{◌≡◌, ◌<◌, ℤ, pos, ◌+ℤ◌, ◌-ℤ◌, ◌*ℤ◌, ◌≤ℤ◌, unsigned_abs, sym, ap, ◌∙◌, arith}
use Rattle.std.specs.Prelude.{int_div, int_rem}
use Rattle.std.proofs.lemmas.Int.{ints, quot-rem, rem_below}
use Rattle.integers.proofs.Order.{small_multiple}
use Rattle.integers.proofs.Ring.{mul_zero}
use Rattle.integers.proofs.Spread.{spread}

-- a multiple of d leaves nothing
pub rem-multiple : (d q : ℤ) → pos 1 ≤ℤ d → int_rem (d *ℤ q) d ≡ pos 0
rem-multiple d q h =
    let rest : d *ℤ (q -ℤ int_div (d *ℤ q) d) ≡ int_rem (d *ℤ q) d = left d q (int_div (d *ℤ q) d) (int_rem (d *ℤ q) d) (quot-rem (d *ℤ q) d) in
    let below : unsigned_abs (int_rem (d *ℤ q) d) < unsigned_abs d = rem_below (d *ℤ q) d (omega (arith, ints)) in
    sym rest ∙ ap (λ k. d *ℤ k) (small_multiple d (q -ℤ int_div (d *ℤ q) d) (omega (arith, ints)) (omega (arith, ints))) ∙ mul_zero d
  where
    left : (d q k r : ℤ) → k *ℤ d +ℤ r ≡ d *ℤ q → d *ℤ (q -ℤ k) ≡ r
    left d q k r e = simp spread (omega (arith, ints))
