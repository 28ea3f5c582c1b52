-- The fractions of an array of ratios.
use Rattle.std.proofs.Common.{ℕ, zero, suc, List, [], ◌∷◌, arith}
use Rattle.std.proofs.lemmas.Int.{ints}
use Rattle.std.proofs.Math.Nat.{eq-one_of_dvd-one}
use Rattle.fractions.specs.declared.ratio.Ratio.{Ratio}
use Rattle.fractions.specs.Fraction.{IsFraction, IsInLowestTerms}
use Rattle.fractions.specs.Fractions.{fraction_at}

pub fraction_at-positive : (c : List Ratio) (i : ℕ) → IsFraction (fraction_at c i)
fraction_at-positive [] i = omega (arith, ints)
fraction_at-positive (q ∷ c) zero = q.positive
fraction_at-positive (q ∷ c) (suc i) = fraction_at-positive c i

pub fraction_at-lowest : (c : List Ratio) (i : ℕ) → IsInLowestTerms (fraction_at c i)
fraction_at-lowest [] i = λ d _ h. eq-one_of_dvd-one h
fraction_at-lowest (q ∷ c) zero = q.lowest
fraction_at-lowest (q ∷ c) (suc i) = fraction_at-lowest c i
