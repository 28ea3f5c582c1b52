-- The words of a request.
use Rattle.std.specs.Prelude.{ℕ, ◌+◌, ℤ, pos, List, [], ◌∷◌, length, slice_index, Bool, not, ◌&&◌, ◌==◌, nat_lt, nat_le, if◌then◌else◌, Option, Some, None, option_map, option_and_then, is_none, codes}
use Rattle.std.specs.List.{list_all}
use Rattle.std.specs.Char.{is_ascii_digit}
use Rattle.std.specs.Str.{bytes_eq}
use Rattle.std.specs.Str.Parse.{without_leading_sign, signed_digits_value}
use Rattle.fractions.specs.Fraction.{Fraction}
use Rattle.fractions.specs.LowestTerms.{lowest_terms}
use Rattle.fractions.specs.WrittenRatio.{numerator, denominator, ratio_end, ratio_fault}
use Rattle.fractions.specs.Fractions.{Fractions}
use Rattle.symmetry.specs.Vectors.{Vector}
use Rattle.requests.specs.declared.request.Form.{Form}
use Rattle.requests.specs.declared.request.Form.TheVariants.{Text, Json}
use Rattle.triplets.specs.declared.notation.Notation.TheVariants.{Triplets}
use Rattle.requests.specs.declared.request.Format.{Format}
use Rattle.requests.specs.declared.request.Format.TheVariants.{GroupText, Cif}

-- what three words say together, where each says something
abbrev pub all_three : {A B C D : Type 0} → (A → B → C → D) → Option A → Option B → Option C → Option D
all_three f (Some a) (Some b) (Some c) = Some (f a b c)
all_three f _ _ _ = None

-- one digit or more, and nothing else
abbrev pub is_numeral : List ℕ → Bool
is_numeral word = nat_lt 0 (length word) && list_all is_ascii_digit word

-- the index that a word is: an optional hyphen, and one to nine digits. It does not begin with a plus sign (43)
unfoldable pub index_of : List ℕ → Option ℤ
index_of word =
    let digits = without_leading_sign word in
    if not (slice_index word 0 == 43) && is_numeral digits && nat_le (length digits) 9 then Some (signed_digits_value 10 word) else None

-- a ratio in a word, and the place behind it
pub record Placed : Type 0 where
  pub ratio : Fraction
  pub behind : ℕ

-- the ratio that stands at a place
unfoldable pub ratio_at : List ℕ → ℕ → Option Placed
ratio_at word at =
    if is_none (ratio_fault word at)
    then Some (record { ratio = lowest_terms (numerator word at) (denominator word at); behind = ratio_end word at })
    else None

-- the same with a comma (44) behind it
unfoldable pub ratio_before_comma : List ℕ → ℕ → Option Placed
ratio_before_comma word at =
    option_and_then (λ r. if slice_index word r.behind == 44 then Some (record { ratio = r.ratio; behind = r.behind + 1 }) else None) (ratio_at word at)

-- the same to the end of the word
unfoldable pub ratio_to_end : List ℕ → ℕ → Option Fraction
ratio_to_end word at = option_and_then (λ r. if r.behind == length word then Some r.ratio else None) (ratio_at word at)

-- the vector that a word is: three ratios joined by commas
abbrev pub vector_word : List ℕ → Option Fractions
vector_word word =
    option_and_then (λ x. option_and_then (λ y. option_map (λ z. record { x = x.ratio; y = y.ratio; z = z })
    (ratio_to_end word y.behind)) (ratio_before_comma word x.behind)) (ratio_before_comma word 0)

-- the vectors a, b and tau of a frame
pub record FrameWords : Type 0 where
  pub a : Fractions
  pub b : Fractions
  pub tau : Fractions

-- ---- from the first word on: what is read, and the words behind it

-- the first word, as what it is read as
abbrev pub first_word : {A : Type 0} → (List ℕ → Option A) → List (List ℕ) → Option (A × List (List ℕ))
first_word read [] = None
first_word read (word ∷ others) = option_map (λ a. (a, others)) (read word)

-- nothing is left
abbrev pub at_end : {A : Type 0} → A × List (List ℕ) → Option A
at_end (a, []) = Some a
at_end (a, word ∷ others) = None

-- indices: three of them, and the third of four
pub record Indices : Type 0 where
  pub row : Vector
  pub third : Option ℤ

-- `h k l`
abbrev pub three_indices : List (List ℕ) → Option (Indices × List (List ℕ))
three_indices words =
    option_and_then (λ h. option_and_then (λ k. option_map (λ l. (record { row = record { x = h.0; y = k.0; z = l.0 }; third = None }, l.1))
    (first_word index_of k.1)) (first_word index_of h.1)) (first_word index_of words)

-- `h k`, the indices of a line: those of the plane (h k 0)
abbrev pub two_indices : List (List ℕ) → Option (Indices × List (List ℕ))
two_indices words =
    option_and_then (λ h. option_map (λ k. (record { row = record { x = h.0; y = k.0; z = pos 0 }; third = None }, k.1))
    (first_word index_of h.1)) (first_word index_of words)

-- a further index behind three of them: these are then h, k and i
abbrev pub with_fourth : Indices × List (List ℕ) → Option (ℤ × List (List ℕ)) → Indices × List (List ℕ)
with_fourth three None = three
with_fourth three (Some l) =
    (record { row = record { x = three.0.row.x; y = three.0.row.y; z = l.0 }; third = Some three.0.row.z }, l.1)

-- `h k l` or `h k i l`
abbrev pub indices_first : List (List ℕ) → Option (Indices × List (List ℕ))
indices_first words = option_map (λ three. with_fourth three (first_word index_of three.1)) (three_indices words)

-- the vectors a, b and tau
abbrev pub three_vectors : List (List ℕ) → Option (FrameWords × List (List ℕ))
three_vectors words =
    option_and_then (λ a. option_and_then (λ b. option_map (λ t. (record { a = a.0; b = b.0; tau = t.0 }, t.1))
    (first_word vector_word b.1)) (first_word vector_word a.1)) (first_word vector_word words)

-- the frame that the next words give: `--frame a b t`, or none
abbrev pub frame_first : List (List ℕ) → Option (Option FrameWords × List (List ℕ))
frame_first [] = Some (None, [])
frame_first (word ∷ others) =
    if bytes_eq word (codes "--frame") then option_map (λ f. (Some f.0, f.1)) (three_vectors others) else Some (None, word ∷ others)

-- the form that the next word gives: `--json`, or text
abbrev pub form_first : List (List ℕ) → Form × List (List ℕ)
form_first [] = (Text, [])
form_first (word ∷ others) = if bytes_eq word (codes "--json") then (Json, others) else (Text, word ∷ others)

-- the format that the next word gives: `--cif`, or a group text
abbrev pub format_first : List (List ℕ) → Format × List (List ℕ)
format_first [] = (GroupText Triplets, [])
format_first (word ∷ others) = if bytes_eq word (codes "--cif") then (Cif, others) else (GroupText Triplets, word ∷ others)
