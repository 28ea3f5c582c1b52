-- Remainders of multiples.
use Rattle.std.proofs.Common.{◌≡◌, ℕ, ◌≤◌, ℤ, zero, suc, pos, negsuc, ◌+ℤ◌, ◌-ℤ◌, ◌*ℤ◌, ◌≤ℤ◌, nat_abs, sym, ap, ◌∙◌, arith}
use Rattle.std.proofs.Math.Nat.{div-le_self}
use Rattle.integers.specs.Size.{IsWithin}
use Rattle.std.specs.Int.{int_div_euclid, int_rem_euclid}
use Rattle.std.proofs.lemmas.Int.{ints}
use Rattle.integers.proofs.Ring.{zero_add}
use Rattle.plane_lattice.specs.Laws.QuotientLaws.{div_euclid-multiple}

-- the remainder is what the quotient leaves
pub rem_euclid_is : (x d : ℤ) → pos 1 ≤ℤ d → int_rem_euclid x d ≡ x -ℤ d *ℤ int_div_euclid x d
rem_euclid_is (pos a) (pos zero) h = absurd (omega (arith, ints))
rem_euclid_is (pos a) (pos (suc b)) h = omega (arith, ints)
rem_euclid_is (negsuc a) (pos zero) h = absurd (omega (arith, ints))
rem_euclid_is (negsuc a) (pos (suc b)) h = omega (arith, ints)
rem_euclid_is x (negsuc b) h = absurd (omega (arith, ints))

-- a multiple of d leaves nothing
pub rem-multiple : (d q : ℤ) → pos 1 ≤ℤ d → int_rem_euclid (d *ℤ q) d ≡ pos 0
rem-multiple d q h =
    let none : int_div_euclid (pos 0) d ≡ pos 0 = nothing d h in
    let quotient : int_div_euclid (pos 0 +ℤ d *ℤ q) d ≡ int_div_euclid (pos 0) d +ℤ q = div_euclid-multiple (pos 0) d q h in
    let sum : pos 0 +ℤ d *ℤ q ≡ d *ℤ q = omega (arith, ints) in
    let whole : int_div_euclid (d *ℤ q) d ≡ q =
    ap (λ x. int_div_euclid x d) (sym sum) ∙ quotient ∙ ap (λ z. z +ℤ q) none ∙ zero_add q in
    rem_euclid_is (d *ℤ q) d h ∙ ap (λ z. d *ℤ q -ℤ d *ℤ z) whole ∙ same (d *ℤ q)
  where
    nothing : (d : ℤ) → pos 1 ≤ℤ d → int_div_euclid (pos 0) d ≡ pos 0
    nothing (pos zero) h = absurd (omega (arith, ints))
    nothing (pos (suc b)) h = omega (arith, ints)
    nothing (negsuc b) h = absurd (omega (arith, ints))

    same : (x : ℤ) → x -ℤ x ≡ pos 0
    same x = omega (arith, ints)

-- a quotient is no larger in size than the number
pub abs-div_euclid-le : (x d : ℤ) → pos 1 ≤ℤ d → nat_abs (int_div_euclid x d) ≤ nat_abs x
abs-div_euclid-le (pos a) (pos zero) h = absurd (omega (arith, ints))
abs-div_euclid-le (pos a) (pos (suc b)) h = div-le_self a (suc b)
abs-div_euclid-le (negsuc a) (pos zero) h = absurd (omega (arith, ints))
abs-div_euclid-le (negsuc a) (pos (suc b)) h = let le = div-le_self a (suc b) in omega arith
abs-div_euclid-le x (negsuc b) h = absurd (omega (arith, ints))

pub IsWithin-div_euclid : (n : ℕ) (x d : ℤ) → pos 1 ≤ℤ d → IsWithin n x → IsWithin n (int_div_euclid x d)
IsWithin-div_euclid n x d h k = let le = abs-div_euclid-le x d h in record { most = omega arith }

-- a quotient that leaves nothing
pub exact_quotient : (x d : ℤ) → pos 1 ≤ℤ d → int_rem_euclid x d ≡ pos 0 → d *ℤ int_div_euclid x d ≡ x
exact_quotient x d h e = let is = sym (rem_euclid_is x d h) ∙ e in omega (arith, ints)
