-- By the sign of the factor.
use Rattle.std.proofs.Common.{◌≡◌, sym, subst, ℤ, pos, ◌-ℤ◌, ◌<ℤ◌, ◌≤ℤ◌, lit<, ◌^◌, true, false, arith, refl, w64, to_z, of_z}
use Rattle.std.specs.Bool.{passes, fails}
use Rattle.std.proofs.lemmas.Int.{ints}
use lib.Signed.{lt_z, lt_z_yes, lt_z_no}
use Rattle.integers.specs.Size.{IsWithin}
use Rattle.integers.proofs.Coded.{again_is}
use Rattle.recognition.specs.Grid.{grid}
use Rattle.motions.specs.Rationals.{IsMultiple}
use Rattle.recognition.proofs.Dividing.{wanted_if, wanted_else}
use Rattle.recognition.proofs.classes.wanted.Goals as goal

is_negative : (a b : ℤ) → b ≡ a → lt_z b (pos 0) ≡ true → a <ℤ pos 0
is_negative a b e h = subst (λ z. z <ℤ pos 0) e (lt_z_yes (passes (lt_z b (pos 0)) h))

is_not : (a b : ℤ) → b ≡ a → lt_z b (pos 0) ≡ false → ¬ (a <ℤ pos 0)
is_not a b e h n =
    let l : pos 0 ≤ℤ b = lt_z_no (fails (lt_z b (pos 0)) h) in
    let m : b <ℤ pos 0 = subst (λ z. z <ℤ pos 0) (sym e) n in absurd (omega (arith, ints))

negative_small : (c : ℤ) → IsWithin (2 ^ 55) c → IsWithin (2 ^ 55) (pos 0 -ℤ c)
negative_small c h = let m = h.most in record { most = omega (arith, ints) }

pub returns-then-r-lt0-clause-tells : goal.returns-then-r-lt0-clause-tells
returns-then-r-lt0-clause-tells c =
    let r = c.args.r.now in
    let a = again_is r.a 501 r.a_small (lit< tt) in
    let b = again_is r.c (2 ^ 55) r.c_small (lit< tt) in
    let P : ℤ → Type 0 = λ z. IsMultiple (pos grid) (z -ℤ pos c.rest_of.result) in
    wanted_if r.c r.a c.rest_of.result (is_negative r.a _ a c.if-r-lt0.true) (subst P b c.rest_of.ensures.rest)

pub returns-else-r-lt0-clause-tells : goal.returns-else-r-lt0-clause-tells
returns-else-r-lt0-clause-tells c =
    let r = c.args.r.now in
    let rest = c.rest_of-else-r-lt0.result in
    let a = again_is r.a 501 r.a_small (lit< tt) in
    let b = again_is r.c (2 ^ 55) r.c_small (lit< tt) in
    let small : IsWithin (2 ^ 55) (pos 0 -ℤ r.c) = negative_small r.c r.c_small in
    let d = again_is (pos 0 -ℤ r.c) (2 ^ 55) small (lit< tt) in
    let P : ℤ → Type 0 = λ z. IsMultiple (pos grid) (z -ℤ pos rest) in
    let Q : ℤ → Type 0 = λ z. P (to_z w64 (of_z w64 (pos 0 -ℤ z))) in
    wanted_else r.c (pos 0 -ℤ r.c) r.a rest (is_not r.a _ a c.if-r-lt0.false) refl (subst P d (subst Q b c.rest_of-else-r-lt0.ensures.rest))
