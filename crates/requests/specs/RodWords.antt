-- The words of a line and of a rod frame.
use Rattle.std.specs.Prelude.{ℕ, List, [], ◌∷◌, if◌then◌else◌, Option, Some, None, option_map, option_and_then, codes}
use Rattle.std.specs.Str.{bytes_eq}
use Rattle.fractions.specs.Fraction.{Fraction}
use Rattle.fractions.specs.Fractions.{Fractions}
use Rattle.symmetry.specs.Vectors.{Vector}
use Rattle.requests.specs.Words.{first_word, ratio_to_end, three_indices, vector_word}

-- the direction `u v w`
abbrev pub direction_first : List (List ℕ) → Option (Vector × List (List ℕ))
direction_first words = option_map (λ three. (three.0.row, three.1)) (three_indices words)

-- the next word as a ratio
abbrev pub ratio_first : List (List ℕ) → Option (Fraction × List (List ℕ))
ratio_first words = first_word (λ word. ratio_to_end word 0) words

-- the point `x y z`
abbrev pub point_first : List (List ℕ) → Option (Fractions × List (List ℕ))
point_first words =
    option_and_then (λ x. option_and_then (λ y. option_map (λ z. (record { x = x.0; y = y.0; z = z.0 }, z.1))
    (ratio_first y.1)) (ratio_first x.1)) (ratio_first words)

-- the vectors a and b of a rod frame
pub record RodFrameWords : Type 0 where
  pub a : Fractions
  pub b : Fractions

-- the vectors a and b
abbrev pub two_vectors : List (List ℕ) → Option (RodFrameWords × List (List ℕ))
two_vectors words =
    option_and_then (λ a. option_map (λ b. (record { a = a.0; b = b.0 }, b.1)) (first_word vector_word a.1)) (first_word vector_word words)

-- the rod frame that the next words give: `--frame a b`, or none
abbrev pub rod_frame_first : List (List ℕ) → Option (Option RodFrameWords × List (List ℕ))
rod_frame_first [] = Some (None, [])
rod_frame_first (word ∷ others) =
    if bytes_eq word (codes "--frame") then option_map (λ f. (Some f.0, f.1)) (two_vectors others) else Some (None, word ∷ others)
