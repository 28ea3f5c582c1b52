-- The grammar of a line.
use Rattle.std.specs.Prelude.{◌≡◌, ℕ, ℤ, List, [], ◌∷◌, ◌++◌, Option, Some, None, pos}
use Rattle.triplets.specs.Bytes.{opening, closing, comma, plus_sign, hash}
use Rattle.symmetry.specs.Vectors.{Vector}
use Rattle.symmetry.specs.Groups.{Listing}
use Rattle.triplets.specs.Grammar.{Blank, blanks_text, Numerator, numerator_text, Term, letter, multiple, whole, fraction, Lead, bare, sign, more, Written, part_text, part_row, ThirdPart, third_text, third_row}
use Rattle.triplets.specs.declared.notation.Notation.{Notation}
use Rattle.triplets.specs.declared.notation.Notation.TheVariants.{Triplets, Pairs}
use Rattle.triplets.specs.Rows.{motion_with}

-- at most a sign
abbrev pub IsFirst : Lead → Type 0
IsFirst (bare bs) = Unit {0}
IsFirst (sign bs s cs) = Unit {0}
IsFirst (more l t bs s cs) = ⊥

-- the term is a number
abbrev pub IsNumber : Term → Type 0
IsNumber (letter a c) = ⊥
IsNumber (multiple d h a c) = ⊥
IsNumber (whole n) = Unit {0}
IsNumber (fraction n u) = Unit {0}

-- a coordinate: a number with an optional sign, and blanks around them
pub record Coordinate (notation : Notation) : Type 0 where
  pub part : Written notation
  pub first : IsFirst part.lead
  pub number : IsNumber part.last

-- as it is written
abbrev pub coordinate_text : (notation : Notation) → Coordinate notation → List ℕ
coordinate_text notation c = part_text notation c.part

-- how many parts it is
abbrev pub coordinate_value : (notation : Notation) → Coordinate notation → ℤ
coordinate_value notation c = (part_row notation c.part).translation

-- what the third coordinate is: the vectors of triplets have one, those of pairs have none
abbrev pub ThirdCoordinate : Notation → Type 0
ThirdCoordinate Triplets = Coordinate Triplets
ThirdCoordinate Pairs = Unit {0}

-- as it is written, behind a comma
abbrev pub third_coordinate_text : (notation : Notation) → ThirdCoordinate notation → List ℕ
third_coordinate_text Triplets c = comma ∷ coordinate_text Triplets c
third_coordinate_text Pairs c = []

-- how many parts it is
abbrev pub third_coordinate_value : (notation : Notation) → ThirdCoordinate notation → ℤ
third_coordinate_value Triplets c = coordinate_value Triplets c
third_coordinate_value Pairs c = pos 0

-- a centring vector, with blanks before it and before its +
pub record Centring (notation : Notation) : Type 0 where
  pub before : List Blank
  pub one : Coordinate notation
  pub two : Coordinate notation
  pub three : ThirdCoordinate notation
  pub between : List Blank

-- as it is written
abbrev pub centring_text : (notation : Notation) → Centring notation → List ℕ
centring_text notation v = blanks_text v.before ++ (opening ∷ (coordinate_text notation v.one ++ (comma ∷ (coordinate_text notation v.two ++ (third_coordinate_text notation v.three ++ (closing ∷ (blanks_text v.between ++ plus_sign ∷ [])))))))

-- the vector
abbrev pub centring_value : (notation : Notation) → Centring notation → Vector
centring_value notation v = record { x = coordinate_value notation v.one; y = coordinate_value notation v.two; z = third_coordinate_value notation v.three }

-- one or more
pub data Centrings (notation : Notation) : Type 0 where
  one : Centring notation → Centrings notation
  further : Centrings notation → Centring notation → Centrings notation

-- as they are written
abbrev pub centrings_text : (notation : Notation) → Centrings notation → List ℕ
centrings_text notation (one v) = centring_text notation v
centrings_text notation (further vs v) = centrings_text notation vs ++ centring_text notation v

-- the vectors in their order
abbrev pub centrings_value : (notation : Notation) → Centrings notation → List Vector
centrings_value notation (one v) = centring_value notation v ∷ []
centrings_value notation (further vs v) = centrings_value notation vs ++ centring_value notation v ∷ []

-- a label, with blanks before it
pub record Label : Type 0 where
  pub before : List Blank
  pub number : Numerator

-- as it is written
abbrev pub label_text : Option Label → List ℕ
label_text None = []
label_text (Some l) = blanks_text l.before ++ (opening ∷ (numerator_text l.number ++ closing ∷ []))

-- the form of a line
pub data Form (notation : Notation) : Type 0 where
  empty : List Blank → Form notation
  operation : Option Label → Written notation → Written notation → ThirdPart notation → Form notation
  row : Centrings notation → List Blank → Form notation

-- as it is written
abbrev pub form_text : (notation : Notation) → Form notation → List ℕ
form_text notation (empty bs) = blanks_text bs
form_text notation (operation l v w x) = label_text l ++ (part_text notation v ++ (comma ∷ (part_text notation w ++ third_text notation x)))
form_text notation (row vs bs) = centrings_text notation vs ++ blanks_text bs

-- what it lists
abbrev pub form_value : (notation : Notation) → Form notation → Listing
form_value notation (empty bs) = record { ops = []; centrings = [] }
form_value notation (operation l v w x) = record { ops = motion_with (part_row notation v) (part_row notation w) (third_row notation x) ∷ []; centrings = [] }
form_value notation (row vs bs) = record { ops = []; centrings = centrings_value notation vs }

-- a comment as it is written
abbrev pub comment_text : Option (List ℕ) → List ℕ
comment_text None = []
comment_text (Some bs) = hash ∷ bs

-- a line and what it says
pub record IsLine (notation : Notation) (bytes : List ℕ) (listing : Listing) : Type 0 where
  pub form : Form notation
  pub comment : Option (List ℕ)
  pub text : bytes ≡ form_text notation form ++ comment_text comment
  pub value : listing ≡ form_value notation form
