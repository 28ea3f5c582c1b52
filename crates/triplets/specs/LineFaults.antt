-- The place and the kind of the fault of a line.
use Rattle.std.specs.Prelude.{◌≡◌, ◌⊎◌, ℕ, ◌+◌, ◌≤◌, ◌==◌, ◌||◌, Bool, true, false, if◌then◌else◌, IsTrue, List, [], ◌∷◌}
use Rattle.triplets.specs.Bytes.{comma, hash, slash, opening, closing}
use Rattle.triplets.specs.declared.marks.Axis.{Axis}
use Rattle.triplets.specs.declared.marks.Axis.TheVariants.{X, Y, Z}
use Rattle.triplets.specs.declared.fault.TextKind.{TextKind}
use Rattle.triplets.specs.declared.fault.TextKind.TheVariants as kinds
use Rattle.triplets.specs.declared.notation.Notation.{Notation}
use Rattle.triplets.specs.Marks.{has_axis}
use Rattle.triplets.specs.declared.notation.Notation.TheVariants.{Triplets, Pairs}
use Rattle.triplets.specs.Faults.{is_digit, is_letter, last_mark, last_other, digits_at_end, TableRow, IsLetter}
use Rattle.symmetry.specs.Groups.{Listing}
use Rattle.triplets.specs.Lines.{IsLine}
use Rattle.triplets.specs.Headings.{IsHeading}
use Rattle.triplets.specs.Places.{IsPrefixIn, IsFaultBy}

-- the bytes are a line of the grammar
abbrev pub IsGoodLine : Notation → List ℕ → Type 0
IsGoodLine notation bytes = (listing : Listing) × IsLine notation bytes listing

-- they are the beginning of one
abbrev pub IsPrefixOfGoodLine : Notation → List ℕ → Type 0
IsPrefixOfGoodLine notation = IsPrefixIn (IsGoodLine notation)

-- they may be line 1: a line of the grammar, or the heading
abbrev pub IsGoodFirstLine : Notation → List ℕ → Type 0
IsGoodFirstLine notation bytes = IsGoodLine notation bytes ⊎ IsHeading bytes

-- the last bracket; n if there is none
abbrev pub last_bracket : ℕ → List ℕ → ℕ
last_bracket n [] = n
last_bracket n (b ∷ bs) = last_bracket (if b == opening || b == closing then b else n) bs

-- how many commas stand behind the last opening bracket, with n before the text
abbrev pub commas : ℕ → List ℕ → ℕ
commas n [] = n
commas n (b ∷ bs) = commas (if b == opening then 0 else (if b == comma then n + 1 else n)) bs

-- whether a letter stands behind the last comma or bracket
abbrev pub line_stands : Axis → Bool → List ℕ → Bool
line_stands a h [] = h
line_stands a h (b ∷ bs) = line_stands a (if b == comma || (b == opening || b == closing) then false else (if is_letter a b then true else h)) bs

-- a part or a coordinate is complete, but for blanks: its last mark is a letter or a digit
abbrev pub is_end_of_part : ℕ → Bool
is_end_of_part b = is_digit b || (is_letter X b || (is_letter Y b || is_letter Z b))

-- nothing of a part or a coordinate but blanks: before it stands nothing, a comma, the bracket of a vector, or that of a label
abbrev pub IsFresh : List ℕ → Type 0
IsFresh before = (last_mark comma before ≡ comma) ⊎ ((last_mark comma before ≡ opening) ⊎ ((last_mark comma before ≡ closing) × (commas 0 before ≡ 0)))

-- how many commas stand in an operation or a vector
abbrev pub commas_within : Notation → ℕ
commas_within Triplets = 2
commas_within Pairs = 1

-- the table of kinds: the first row that applies
abbrev pub HasLineKind : Notation → List ℕ → ℕ → TextKind → Type 0
HasLineKind notation before b kind =
    TableRow (b ≡ hash) kinds.MissingPart kind (
    TableRow ((b ≡ closing) × (last_bracket 0 before ≡ opening) × IsTrue (is_digit (last_mark comma before))) kinds.MissingPart kind (
    TableRow ((b ≡ comma) × (commas_within notation ≤ commas 0 before) × IsTrue (is_end_of_part (last_mark comma before))) kinds.ExtraPart kind (
    TableRow ((b ≡ comma) × IsFresh before) kinds.Empty kind (
    TableRow ((a : Axis) × IsTrue (is_letter a b) × (has_axis notation a ≡ true) × IsTrue (line_stands a false before)) kinds.Repeated kind (
    TableRow (IsLetter notation b × (1 ≤ digits_at_end 0 before)) kinds.Coefficient kind (
    TableRow (IsTrue (is_digit b) × (last_other 0 before ≡ slash)) kinds.Denominator kind (
    TableRow (IsTrue (is_digit b) × (3 ≤ digits_at_end 0 before)) kinds.Coefficient kind (
    kind ≡ kinds.UnknownSign))))))))

-- the place of the fault, counted from 0, and its kind, where it is known which lines are good
abbrev pub IsFaultIn : Notation → (List ℕ → Type 0) → List ℕ → ℕ → TextKind → Type 0
IsFaultIn notation = IsFaultBy (HasLineKind notation)

-- the fault of a line behind line 1
abbrev pub IsLineFault : Notation → List ℕ → ℕ → TextKind → Type 0
IsLineFault notation = IsFaultIn notation (IsGoodLine notation)
