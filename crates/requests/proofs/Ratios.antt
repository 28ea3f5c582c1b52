-- The ratios of a word.
use Rattle.std.proofs.Common.{◌≡◌, ℕ, ◌+◌, List, length, Option, Some, None, Result, Ok, Err, IfOk, Bool, slice_index, refl, sym, ap, ◌∙◌}
use Rattle.std.specs.Prelude.{option_map, is_none, ◌==◌, if◌then◌else◌}
use Rattle.std.specs.Result.{result_ok, result_err}
use Rattle.fractions.specs.declared.ratio.Ratio.{Ratio}
use Rattle.fractions.specs.declared.read.FractionFault.{FractionFault}
use Rattle.fractions.specs.FractionOf.{fraction_of}
use Rattle.fractions.specs.LowestTerms.{lowest_terms}
use Rattle.fractions.specs.WrittenRatio.{numerator, denominator, ratio_end, ratio_fault}
use Rattle.requests.specs.Words.{Placed, ratio_at, ratio_before_comma, ratio_to_end}
use Rattle.requests.specs.Views.{placed}

abbrev there : List ℕ → ℕ → Placed
there word at = record { ratio = lowest_terms (numerator word at) (denominator word at); behind = ratio_end word at }

pub ratio_result : (word : List ℕ) (at : ℕ) (r : Result (Ratio × ℕ) FractionFault)
    → IfOk r (λ read. fraction_of read.0 ≡ lowest_terms (numerator word at) (denominator word at))
    → IfOk r (λ read. read.1 ≡ ratio_end word at)
    → result_err r ≡ ratio_fault word at → option_map placed (result_ok r) ≡ ratio_at word at
unfolding ratio_at
ratio_result word at (Ok read) value end fault =
    (λ i. Some (record { ratio = value i; behind = end i }))
    ∙ ap (λ (f : Option FractionFault). if is_none f then Some (there word at) else None) fault
ratio_result word at (Err e) value end fault = ap (λ (f : Option FractionFault). if is_none f then Some (there word at) else None) fault

module _ (word : List ℕ) (at : ℕ) where
  pub no_ratio_before_comma : None ≡ ratio_at word at → None ≡ ratio_before_comma word at
  unfolding ratio_before_comma
  no_ratio_before_comma none = rw (sym none) refl

  pub no_ratio_to_end : None ≡ ratio_at word at → None ≡ ratio_to_end word at
  unfolding ratio_to_end
  no_ratio_to_end none = rw (sym none) refl

  pub before_comma : (r : Placed) (b : Bool) → Some r ≡ ratio_at word at → (slice_index word r.behind == 44) ≡ b
      → (if b then Some (record { ratio = r.ratio; behind = r.behind + 1 }) else None) ≡ ratio_before_comma word at
  unfolding ratio_before_comma
  before_comma r b is comma = rw (sym is, comma) refl

  pub to_end : (r : Placed) (b : Bool) → Some r ≡ ratio_at word at → (r.behind == length word) ≡ b
      → (if b then Some r.ratio else None) ≡ ratio_to_end word at
  unfolding ratio_to_end
  to_end r b is all = rw (sym is, all) refl
