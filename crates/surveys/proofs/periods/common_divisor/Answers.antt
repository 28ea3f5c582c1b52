-- The divisor is within the period, so its type holds it.
use Rattle.std.proofs.Common.{◌≡◌, ℕ, ◌<◌, ◌≤◌, ◌∙◌, ℤ, pos, ◌≤ℤ◌, ap, subst, arith, unsigned_abs, w64, to_z}
use Rattle.std.specs.Int.{IsGcd}
use Rattle.std.proofs.Math.Nat.{pos_of_dvd_of_pos}
use Rattle.std.proofs.lemmas.Int.{ints, to_z-of_z}
use Rattle.std.proofs.lemmas.Nat.Gcd.{le_of_dvd}
use Rattle.fractions.specs.declared.part.TheConstants.{UNIT}
use Rattle.surveys.proofs.periods.common_divisor.Goals as goal
use Rattle.surveys.proofs.periods.common_divisor.Goals.{After-greatest_common_divisor}

of_sizes : {a b a' b' g : ℕ} → a ≡ a' → b ≡ b' → IsGcd a b g → IsGcd a' b' g
of_sizes {a} {b} {a'} {b'} {g} e f h = subst (λ x. IsGcd x b' g) e (subst (λ y. IsGcd a y g) f h)

divisor : (c : After-greatest_common_divisor) → IsGcd (unsigned_abs c.args.period) (unsigned_abs c.args.height) c.greatest_common_divisor.result
divisor c =
    of_sizes (c.into.ensures ∙ c.unsigned_abs.ensures.value ∙ ap unsigned_abs (to_z-of_z w64 c.args.period c.ranges.period))
    (c.into-2.ensures ∙ c.unsigned_abs-2.ensures.value ∙ ap unsigned_abs (to_z-of_z w64 c.args.height c.ranges.height)) c.greatest_common_divisor.ensures.greatest

record IsInUnit (g : ℕ) : Type 0 where
  from : 1 ≤ g
  most : pos g ≤ℤ UNIT

in_unit : (a : ℤ) (b g : ℕ) → pos 1 ≤ℤ a → a ≤ℤ UNIT → IsGcd (unsigned_abs a) b g → IsInUnit g
in_unit a b g from most h =
    let above : 0 < unsigned_abs a = omega (arith, ints, from) in
    let le = le_of_dvd above h.0 in
    let least = pos_of_dvd_of_pos h.0 above in
    record { from = omega (arith, least); most = omega (arith, ints, le, from, most) }

small : (c : After-greatest_common_divisor) → IsInUnit c.greatest_common_divisor.result
small c = in_unit c.args.period (unsigned_abs c.args.height) c.greatest_common_divisor.result c.requires.from c.requires.most (divisor c)

pub overflow_cast-result : goal.overflow_cast-result
overflow_cast-result c = let s = small c in omega (arith, ints, s.from, s.most)

pub returns-clause-is : goal.returns-clause-is
returns-clause-is c =
    let e : c.greatest_common_divisor.result ≡ unsigned_abs (to_z w64 c.greatest_common_divisor.result) = omega (arith, ints, (small c).most) in
    subst (IsGcd (unsigned_abs c.args.period) (unsigned_abs c.args.height)) e (divisor c)

pub returns-clause-from : goal.returns-clause-from
returns-clause-from c = let s = small c in omega (arith, ints, s.from, s.most)

pub returns-clause-most : goal.returns-clause-most
returns-clause-most c = let s = small c in omega (arith, ints, s.from, s.most)
