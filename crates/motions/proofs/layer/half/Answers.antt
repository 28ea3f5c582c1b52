-- A number that leaves a remainder is odd.
use Rattle.std.proofs.Common.{◌≡◌, ℤ, pos, negsuc, neg_ℤ, suc, ◌/◌, ◌%◌, ap, ◌∙◌, arith, of_z, w64}
use Rattle.std.proofs.lemmas.Int.{ints, to_z-of_z}
use lib.Signed.{rem_z}
use Rattle.motions.specs.Layers.{IsOdd}
use Rattle.motions.proofs.layer.half.Goals as goal

odd : (n : ℤ) → ¬ (rem_z n (pos 2) ≡ pos 0) → IsOdd n
odd (pos a) h =
    let k : ¬ (a % 2 ≡ 0) = λ e. h (ap pos e) in
    (pos (a / 2), ap pos (omega arith))
odd (negsuc a) h =
    let k : ¬ (suc a % 2 ≡ 0) = λ e. h (ap (λ r. neg_ℤ (pos r)) e) in
    (negsuc (suc a / 2), omega (arith, ints))

pub returns-else-n-eq0 : goal.returns-else-n-eq0
returns-else-n-eq0 c =
    odd c.args.n (λ e. c.if-n-eq0.false (ap (λ z. of_z w64 (rem_z z (pos 2))) (to_z-of_z w64 c.args.n c.ranges.n) ∙ ap (of_z w64) e))
