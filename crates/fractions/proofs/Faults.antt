-- What is wrong with a denominator, from what was read of it.
use Rattle.std.proofs.Common.{◌≡◌, ℕ, ◌+◌, List, drop, slice_index}
use Rattle.std.specs.Prelude.{Some, None}
use Rattle.std.proofs.lemmas.Bool.{eq-eqb}
use Rattle.fractions.specs.declared.read.FractionFault.TheVariants.{ZeroDenominator}
use Rattle.fractions.specs.WrittenRatio.{digits_at, number_at, run_fault, fault_behind}
use Rattle.fractions.proofs.Digits.{AllDigits-take_while, digits_value_zeros, no_zeros}

pub fault_of_zeros : (bytes : List ℕ) (slash : ℕ) → slice_index bytes slash ≡ 47 → run_fault bytes (slash + 1) ≡ None
    → number_at bytes (slash + 1) ≡ 0 → fault_behind bytes slash ≡ Some (ZeroDenominator (slash + 1))
fault_of_zeros bytes slash is_slash good zero =
    let stands = eq-eqb (slice_index bytes slash) 47 is_slash in
    let zeros = (digits_value_zeros 0 (digits_at bytes (slash + 1)) (AllDigits-take_while (drop (slash + 1) bytes)) zero).1 in
    rw (stands, good, zeros)

pub no_fault : (bytes : List ℕ) (slash : ℕ) → slice_index bytes slash ≡ 47 → run_fault bytes (slash + 1) ≡ None
    → ¬ (number_at bytes (slash + 1) ≡ 0) → fault_behind bytes slash ≡ None
no_fault bytes slash is_slash good nonzero =
    let stands = eq-eqb (slice_index bytes slash) 47 is_slash in
    let zeros = no_zeros (digits_at bytes (slash + 1)) nonzero in
    rw (stands, good, zeros)
