-- The place and the kind of a fault of an operation.
use Rattle.std.specs.Prelude.{◌≡◌, ◌⊎◌, ℕ, ◌+◌, ◌≤◌, ◌==◌, ◌&&◌, ◌||◌, nat_le, Bool, true, false, if◌then◌else◌, IsTrue, List, [], ◌∷◌}
use Rattle.triplets.specs.Bytes.{comma, hash, slash}
use Rattle.triplets.specs.Places.{IsPrefixIn, IsFaultBy}
use Rattle.triplets.specs.declared.marks.Axis.{Axis}
use Rattle.triplets.specs.declared.marks.Axis.TheVariants.{X, Y, Z}
use Rattle.triplets.specs.declared.fault.TextKind.{TextKind}
use Rattle.triplets.specs.declared.fault.TextKind.TheVariants as kinds
use Rattle.symmetry.specs.Motions.{Motion}
use Rattle.triplets.specs.declared.notation.Notation.{Notation}
use Rattle.triplets.specs.Marks.{has_axis}
use Rattle.triplets.specs.Grammar.{IsOperation}

-- the bytes are an operation
abbrev pub IsGood : Notation → List ℕ → Type 0
IsGood notation bytes = (value : Motion) × IsOperation notation bytes value

-- they are the beginning of one
abbrev pub IsPrefixOfGood : Notation → List ℕ → Type 0
IsPrefixOfGood notation = IsPrefixIn (IsGood notation)

-- Words on what stands before a place.

-- 0 to 9
abbrev pub is_digit : ℕ → Bool
is_digit b = nat_le 48 b && nat_le b 57

-- space, tab and CR
abbrev pub is_blank : ℕ → Bool
is_blank b = b == 32 || (b == 9 || b == 13)

-- the letter, small or capital
abbrev pub is_letter : Axis → ℕ → Bool
is_letter X b = b == 120 || b == 88
is_letter Y b = b == 121 || b == 89
is_letter Z b = b == 122 || b == 90

-- the last byte that is no blank; n if there is none
abbrev pub last_mark : ℕ → List ℕ → ℕ
last_mark n [] = n
last_mark n (b ∷ bs) = last_mark (if is_blank b then n else b) bs

-- the last byte that is no digit; n if there is none
abbrev pub last_other : ℕ → List ℕ → ℕ
last_other n [] = n
last_other n (b ∷ bs) = last_other (if is_digit b then n else b) bs

-- how many digits stand at the end, with n before the text
abbrev pub digits_at_end : ℕ → List ℕ → ℕ
digits_at_end n [] = n
digits_at_end n (b ∷ bs) = digits_at_end (if is_digit b then n + 1 else 0) bs

-- whether a letter stands behind the last comma; before the text it does if h
abbrev pub stands : Axis → Bool → List ℕ → Bool
stands a h [] = h
stands a h (b ∷ bs) = stands a (if b == comma then false else (if is_letter a b then true else h)) bs

-- The table: the first row that applies.
abbrev pub TableRow : Type 0 → TextKind → TextKind → Type 0 → Type 0
TableRow applies named kind otherwise = (applies × (kind ≡ named)) ⊎ ((applies → ⊥) × otherwise)

-- a letter that stands in this part already
abbrev pub IsRepeated : Notation → List ℕ → ℕ → Type 0
IsRepeated notation before b = (a : Axis) × IsTrue (is_letter a b) × (has_axis notation a ≡ true) × IsTrue (stands a false before)

-- a letter of the notation, small or capital
abbrev pub IsLetter : Notation → ℕ → Type 0
IsLetter notation b = (a : Axis) × IsTrue (is_letter a b) × (has_axis notation a ≡ true)

-- the kind at the byte b
abbrev pub HasKind : Notation → List ℕ → ℕ → TextKind → Type 0
HasKind notation before b kind =
    TableRow ((b ≡ hash) × ¬ IsGood notation before) kinds.MissingPart kind (
    TableRow ((b ≡ comma) × IsGood notation before) kinds.ExtraPart kind (
    TableRow ((b ≡ comma) × (last_mark comma before ≡ comma)) kinds.Empty kind (
    TableRow (IsRepeated notation before b) kinds.Repeated kind (
    TableRow (IsLetter notation b × (1 ≤ digits_at_end 0 before)) kinds.Coefficient kind (
    TableRow (IsTrue (is_digit b) × (last_other 0 before ≡ slash)) kinds.Denominator kind (
    TableRow (IsTrue (is_digit b) × (3 ≤ digits_at_end 0 before)) kinds.Coefficient kind (
    kind ≡ kinds.UnknownSign)))))))

-- the place of the fault, counted from 0, and its kind
abbrev pub IsFault : Notation → List ℕ → ℕ → TextKind → Type 0
IsFault notation = IsFaultBy (HasKind notation) (IsGood notation)
