-- What the code computes of the divisor and of the quotients by it: none of it overflows.
use Rattle.std.proofs.Common.{◌≡◌, ℕ, ◌^◌, ◌<◌, ◌≤◌, sym, subst, ap, ◌∙◌, ℤ, pos, negsuc, ◌-ℤ◌, ◌≤ℤ◌, ◌<ℤ◌, nat_abs, arith, FitsSigned, to_z, of_z}
use Rattle.std.specs.Prelude.{int_div}
use Rattle.std.specs.Int.{w128}
use Rattle.std.proofs.lemmas.Int.{ints, to_z-of_z, quot_is, fits_signed_from_abs}
use Rattle.std.proofs.lemmas.Nat.Gcd.{le_of_dvd}
use Rattle.integers.specs.Size.{IsWithin}
use Rattle.fractions.specs.Fraction.{Fraction}
use Rattle.fractions.specs.LowestTerms.{gcd, signed_gcd, lowest_terms, IsLowestForm, IsNoLarger}
use Rattle.fractions.proofs.Gcd.{IsGcd-gcd}
use Rattle.fractions.proofs.Lowest.{abs-int_div-le, abs-signed_gcd, positive_size, positive_gcd, IsLowestForm-lowest_terms, IsNoLarger-lowest_terms}

-- ---- the divisor

pub gcd_small : (num den : ℤ) → ¬ (den ≡ pos 0) → IsWithin (2 ^ 120) den → gcd (nat_abs num) (nat_abs den) ≤ 2 ^ 120
gcd_small num den n small =
    let le = le_of_dvd (positive_size den n) (IsGcd-gcd (nat_abs num) (nat_abs den)).1 in
    omega arith

-- the numbers of the code: g is the divisor without a sign
pub record AreSizes (num den : ℤ) (a b g : ℕ) : Type 0 where
  pub num_fits : FitsSigned w128 num
  pub den_fits : FitsSigned w128 den
  pub num_size : a ≡ nat_abs (to_z w128 (of_z w128 num))
  pub den_size : b ≡ nat_abs (to_z w128 (of_z w128 den))
  pub divisor : g ≡ gcd a b
  pub small : IsWithin (2 ^ 120) den
  pub nonzero : ¬ (den ≡ pos 0)

pub divisor_is : (num den : ℤ) (a b g : ℕ) → AreSizes num den a b g → (g ≡ gcd (nat_abs num) (nat_abs den)) × (g ≤ 2 ^ 120)
divisor_is num den a b g h =
    let first = h.num_size ∙ ap nat_abs (to_z-of_z w128 num h.num_fits) in
    let second = h.den_size ∙ ap nat_abs (to_z-of_z w128 den h.den_fits) in
    let e : g ≡ gcd (nat_abs num) (nat_abs den) = h.divisor ∙ (λ i. gcd (first i) (second i)) in
    let small = gcd_small num den h.nonzero h.small in
    (e, omega arith)

pub divisor_fits : (num den : ℤ) (a b g : ℕ) → AreSizes num den a b g → FitsSigned w128 (pos g)
divisor_fits num den a b g h = let k = divisor_is num den a b g h in fits_signed_from_abs w128 (pos g) (omega arith)

pub negative_fits : (num den : ℤ) (a b g : ℕ) → AreSizes num den a b g → FitsSigned w128 (pos 0 -ℤ to_z w128 g)
negative_fits num den a b g h = let k = divisor_is num den a b g h in fits_signed_from_abs w128 _ (omega (arith, ints))

pub negative_divisor : (num den : ℤ) (a b g : ℕ) → AreSizes num den a b g → den <ℤ pos 0 → to_z w128 (of_z w128 (pos 0 -ℤ to_z w128 g)) ≡ signed_gcd num den
unfolding signed_gcd
negative_divisor num (pos den) a b g h less = absurd (omega (arith, ints))
negative_divisor num (negsuc den) a b g h less = let k = divisor_is num (negsuc den) a b g h in omega (arith, ints)

pub positive_divisor : (num den : ℤ) (a b g : ℕ) → AreSizes num den a b g → pos 0 ≤ℤ den → to_z w128 g ≡ signed_gcd num den
unfolding signed_gcd
positive_divisor num (pos den) a b g h above = let k = divisor_is num (pos den) a b g h in omega (arith, ints)
positive_divisor num (negsuc den) a b g h above = absurd (omega (arith, ints))

-- ---- the quotients

-- the numbers of the code, d with the divisor's sign
pub record AreDivided (num den d : ℤ) : Type 0 where
  pub num_fits : FitsSigned w128 num
  pub den_fits : FitsSigned w128 den
  pub num_small : IsWithin (2 ^ 120) num
  pub den_small : IsWithin (2 ^ 120) den
  pub nonzero : ¬ (den ≡ pos 0)
  pub divisor : d ≡ signed_gcd (to_z w128 (of_z w128 num)) (to_z w128 (of_z w128 den))

plain_divisor : (num den d : ℤ) → AreDivided num den d → d ≡ signed_gcd num den
plain_divisor num den d h = h.divisor ∙ (λ i. signed_gcd (to_z-of_z w128 num h.num_fits i) (to_z-of_z w128 den h.den_fits i))

-- what the code's a / d is
abbrev pub coded_quotient : ℤ → ℤ → ℤ
coded_quotient a d = int_div (to_z w128 (of_z w128 a)) (to_z w128 (of_z w128 d))

record IsDivisor (d : ℤ) : Type 0 where
  fits : FitsSigned w128 d
  above : 0 < nat_abs d

is_divisor : (num den d : ℤ) → AreDivided num den d → IsDivisor d
is_divisor num den d h =
    let size = ap nat_abs (plain_divisor num den d h) ∙ abs-signed_gcd num den in
    let small = gcd_small num den h.nonzero h.den_small in
    let above = positive_gcd (nat_abs num) (nat_abs den) (gcd (nat_abs num) (nat_abs den)) (IsGcd-gcd (nat_abs num) (nat_abs den)) (positive_size den h.nonzero) in
    record { fits = fits_signed_from_abs w128 d (omega arith); above = omega arith }

bits_above : (d : ℤ) → IsDivisor d → 0 < of_z w128 d
bits_above (pos n) h = h.above
bits_above (negsuc n) h = let fits = h.fits in omega (arith, ints)

quotient_fits : (a d : ℤ) → FitsSigned w128 a → IsWithin (2 ^ 120) a → IsDivisor d → FitsSigned w128 (coded_quotient a d)
quotient_fits a d fits small h =
    rw (to_z-of_z w128 a fits, to_z-of_z w128 d h.fits)
    (let le = abs-int_div-le a d in fits_signed_from_abs w128 (int_div a d) (omega arith))

quotient_is : (a d : ℤ) → FitsSigned w128 a → IsWithin (2 ^ 120) a → IsDivisor d → to_z w128 (of_z w128 (coded_quotient a d)) ≡ int_div a d
quotient_is a d fits small h =
    let le = abs-int_div-le a d in
    quot_is w128 a d fits h.fits (fits_signed_from_abs w128 (int_div a d) (omega arith))

pub can_divide_num : (num den d : ℤ) → AreDivided num den d → (0 < of_z w128 d) × FitsSigned w128 (coded_quotient num d)
can_divide_num num den d h = let k = is_divisor num den d h in (bits_above d k, quotient_fits num d h.num_fits h.num_small k)

pub can_divide_den : (num den d : ℤ) → AreDivided num den d → (0 < of_z w128 d) × FitsSigned w128 (coded_quotient den d)
can_divide_den num den d h = let k = is_divisor num den d h in (bits_above d k, quotient_fits den d h.den_fits h.den_small k)

abbrev pub coded_fraction : ℤ → ℤ → ℤ → Fraction
coded_fraction num den d = record { num = to_z w128 (of_z w128 (coded_quotient num d)); den = to_z w128 (of_z w128 (coded_quotient den d)) }

pub coded_fraction_is : (num den d : ℤ) → AreDivided num den d → coded_fraction num den d ≡ lowest_terms num den
unfolding lowest_terms
coded_fraction_is num den d h =
    let k = is_divisor num den d h in
    let first = quotient_is num d h.num_fits h.num_small k ∙ ap (int_div num) (plain_divisor num den d h) in
    let second = quotient_is den d h.den_fits h.den_small k ∙ ap (int_div den) (plain_divisor num den d h) in
    λ i. record { num = first i; den = second i }

pub IsLowestForm-coded : (num den d : ℤ) → AreDivided num den d → IsLowestForm (coded_fraction num den d) num den
IsLowestForm-coded num den d h =
    subst (λ (q : Fraction). IsLowestForm q num den) (sym (coded_fraction_is num den d h)) (IsLowestForm-lowest_terms num den h.nonzero)

pub IsNoLarger-coded : (num den d : ℤ) → AreDivided num den d → IsNoLarger (coded_fraction num den d) num den
IsNoLarger-coded num den d h =
    subst (λ (q : Fraction). IsNoLarger q num den) (sym (coded_fraction_is num den d h)) (IsNoLarger-lowest_terms num den)
