-- The one written form of a motion as a coordinate triplet or pair, and of a frieze motion as two parts of one.
use Rattle.std.specs.Prelude.{Bool, true, false, ℕ, zero, suc, ℤ, pos, negsuc, List, [], ◌∷◌, ◌++◌, codes, decimal}
use Rattle.std.specs.Fmt.{signed_decimal}
use Rattle.std.specs.Str.Parse.{without_leading_plus}
use Rattle.fractions.specs.declared.part.TheConstants.{UNIT}
use Rattle.fractions.specs.LowestTerms.{lowest_terms}
use Rattle.fractions.specs.RatioText.{ratio_text}
use Rattle.symmetry.specs.Vectors.{Vector}
use Rattle.symmetry.specs.Motions.{Motion}
use Rattle.motions.specs.FriezeMotions.{FriezeOperation}
use Rattle.motions.specs.PlaneMatrices.{Pair}
use Rattle.motions.specs.Signs.{sign_value}
use Rattle.plane_motions.specs.PlaneMotions.{PlaneMotion}
use Rattle.triplets.specs.declared.marks.Axis.{Axis}
use Rattle.triplets.specs.declared.marks.Axis.TheVariants.{X, Y, Z}

-- a number of parts, as a ratio of the cell edge in lowest terms
abbrev pub number_text : ℤ → List ℕ
number_text t = ratio_text (lowest_terms t UNIT)

-- a coefficient in decimal, of which 1 and -1 show the sign alone
abbrev pub coefficient_text : ℤ → List ℕ
coefficient_text (pos (suc zero)) = []
coefficient_text (negsuc zero) = codes "-"
coefficient_text c = signed_decimal c

-- the letter of an axis
abbrev pub axis_text : Axis → List ℕ
axis_text X = codes "x"
axis_text Y = codes "y"
axis_text Z = codes "z"

-- a term behind others: nothing at 0, and a `+` before what is positive
abbrev pub further_term : ℤ → List ℕ → List ℕ
further_term (pos zero) text = []
further_term (pos (suc n)) text = codes "+" ++ text
further_term (negsuc n) text = text

-- the term of a coefficient and its letter
abbrev pub letter_term : ℤ → List ℕ → List ℕ
letter_term c letter = further_term c (coefficient_text c ++ letter)

-- the term of a number of parts
abbrev pub number_term : ℤ → List ℕ
number_term t = further_term t (number_text t)

-- the letters in order, then the number
abbrev pub terms_text : Vector → ℤ → List ℕ
terms_text r t = letter_term r.x (codes "x") ++ letter_term r.y (codes "y") ++ letter_term r.z (codes "z") ++ number_term t

-- where no term shows, `0` stands
abbrev pub or_zero : List ℕ → List ℕ
or_zero [] = codes "0"
or_zero (b ∷ bs) = b ∷ bs

-- a row of the matrix part with the number beside it: its terms, with no `+` first
abbrev pub row_text : Vector → ℤ → List ℕ
row_text r t = or_zero (without_leading_plus (terms_text r t))

-- the three rows, joined by commas
abbrev pub triplet_text : Motion → List ℕ
triplet_text m =
    row_text m.matrix.first m.translation.x ++ codes "," ++
    row_text m.matrix.second m.translation.y ++ codes "," ++
    row_text m.matrix.third m.translation.z

-- a row of two, as one without z
abbrev pub pair_row_text : Pair → ℤ → List ℕ
pair_row_text r t = row_text (record { x = r.x; y = r.y; z = pos 0 }) t

-- the two rows of a motion of the plane, joined by a comma
abbrev pub pair_text : PlaneMotion → List ℕ
pair_text m = pair_row_text m.matrix.first m.translation.x ++ codes "," ++ pair_row_text m.matrix.second m.translation.y

-- the two rows of a frieze motion, along the axis x and across it, joined by a comma
abbrev pub frieze_text : FriezeOperation → List ℕ
frieze_text m =
    row_text (record { x = sign_value m.along; y = pos 0; z = pos 0 }) m.translation ++ codes "," ++
    row_text (record { x = pos 0; y = sign_value m.across; z = pos 0 }) (pos 0)

-- a term as it stands in its part, the first or a further one
abbrev pub placed : Bool → List ℕ → List ℕ
placed true text = without_leading_plus text
placed false text = text

-- the line of the number and the symbol of a type
unfoldable pub number_line : ℕ → List ℕ → List ℕ
number_line n symbol = codes "type " ++ decimal n ++ codes " " ++ symbol ++ codes "\n"
