-- What the tests of words tell.
use Rattle.std.proofs.Common.{◌≡◌, ℕ, ◌<◌, ◌≤◌, List, [], ◌∷◌, length, Some, None, Bool, true, false, refl, sym, arith}
use Rattle.std.specs.Prelude.{nat_lt, nat_le, if◌then◌else◌}
use Rattle.std.specs.Bool.{Decides}
use Rattle.std.specs.List.{list_all}
use Rattle.std.specs.Char.{digit_value, is_ascii_digit}
use Rattle.std.specs.Str.Parse.{AllDigits, IsNumeral}
use Rattle.std.proofs.lemmas.Bool.{leb-true, le-leb, ltb-true, lt-ltb, true≢false}
use Rattle.std.proofs.lemmas.Bool.Decides.{Decides-and, nat_tests}
use Rattle.requests.specs.Words.{is_numeral}

pub Decides-le : (m n : ℕ) → Decides (nat_le m n) (m ≤ n)
Decides-le m n = (leb-true m n, le-leb m n)

digit : (x : ℕ) → Decides (is_ascii_digit x) (digit_value x < 10)
digit x = (λ e. grind (arith, nat_tests), λ h. grind (arith, nat_tests))

digits : (ds : List ℕ) → Decides (list_all is_ascii_digit ds) (AllDigits 10 ds)
digits [] = (λ e. tt, λ h. refl)
digits (x ∷ xs) = Decides-and (is_ascii_digit x) (list_all is_ascii_digit xs) (digit x) (digits xs)

pub numeral : (word : List ℕ) → Decides (is_numeral word) (IsNumeral 10 word)
numeral word = Decides-and (nat_lt 0 (length word)) (list_all is_ascii_digit word) (ltb-true 0 (length word), lt-ltb 0 (length word)) (digits word)

-- a value that is there where the test holds
pub some_if : {A P : Type 0} (a : A) (b : Bool) → Decides b P → P → Some a ≡ (if b then Some a else None)
some_if a true d p = refl
some_if a false d p = absurd (true≢false (sym (d.1 p)))

pub none_if : {A P : Type 0} (a : A) (b : Bool) → Decides b P → ¬ P → None ≡ (if b then Some a else None)
none_if a true d p = absurd (p (d.0 refl))
none_if a false d p = refl
