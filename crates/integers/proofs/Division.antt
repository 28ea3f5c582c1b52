-- Quotients rounded down.
use Rattle.std.proofs.Common.{◌≡◌, zero, suc, ◌/◌, arith, ℤ, pos, negsuc, ◌+ℤ◌, ◌-ℤ◌, ◌*ℤ◌, ◌≤ℤ◌, ◌<ℤ◌}
use Rattle.std.proofs.lemmas.Int.{ints}
use Rattle.integers.proofs.Ring.{add_mul}
use Rattle.integers.proofs.Order.{mul-le-mul_right, zero-le-mul, small_multiple}

-- the quotient, and the remainder that it leaves
pub floor : (x d : ℤ) → pos 1 ≤ℤ d → (q : ℤ) × (pos 0 ≤ℤ (x -ℤ d *ℤ q)) × ((x -ℤ d *ℤ q) <ℤ d)
floor (pos a) (pos zero) h = absurd (omega (arith, ints))
floor (pos a) (pos (suc b)) h = (pos (a / suc b), omega (arith, ints), omega (arith, ints))
floor (negsuc a) (pos zero) h = absurd (omega (arith, ints))
floor (negsuc a) (pos (suc b)) h = (negsuc (a / suc b), omega (arith, ints), omega (arith, ints))
floor x (negsuc b) h = absurd (omega (arith, ints))

-- two fractions in [0, 1) differ by a whole number only where it is 0
pub fractional_parts : (o o' x x' k : ℤ) → pos 0 ≤ℤ x → x <ℤ o → pos 0 ≤ℤ x' → x' <ℤ o'
    → o' *ℤ x -ℤ o *ℤ x' ≡ o *ℤ o' *ℤ k → k ≡ pos 0
fractional_parts o o' x x' k h l h' l' e =
    let above = mul-le-mul_right (x +ℤ pos 1) o o' (omega (arith, ints)) (omega (arith, ints)) in
    let above' = mul-le-mul_right (x' +ℤ pos 1) o' o (omega (arith, ints)) (omega (arith, ints)) in
    let sum = add_mul x (pos 1) o' in
    let sum' = add_mul x' (pos 1) o in
    let not_below = zero-le-mul o' x (omega (arith, ints)) h in
    let not_below' = zero-le-mul o x' (omega (arith, ints)) h' in
    small_multiple (o *ℤ o') k (omega (arith, ints)) (omega (arith, ints))
