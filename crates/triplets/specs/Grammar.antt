-- The grammar of an operation, a triplet or a pair: what is written, how it is spelled, and what it means.
use Rattle.std.specs.Prelude.{◌≡◌, ℕ, ◌+◌, ◌-◌, ◌*◌, ◌≤◌, Bool, true, false, List, [], ◌∷◌, ◌++◌, map, length}
use Rattle.triplets.specs.Bytes.{comma, slash}
use Rattle.triplets.specs.declared.notation.Notation.{Notation}
use Rattle.triplets.specs.declared.notation.Notation.TheVariants.{Triplets, Pairs}
use Rattle.triplets.specs.declared.marks.Axis.{Axis}
use Rattle.triplets.specs.declared.marks.Axis.TheVariants.{X, Y, Z}
use Rattle.motions.specs.declared.motion.Sign.{Sign}
use Rattle.motions.specs.declared.motion.Sign.TheVariants.{Plus, Minus}
use Rattle.triplets.specs.declared.part.Row.{Row}
use Rattle.triplets.specs.declared.part.Used.{Used}
use Rattle.symmetry.specs.Motions.{Motion}
use Rattle.triplets.specs.Marks.{has_axis}
use Rattle.triplets.specs.Rows.{zero_row, axis_row, unused, with_entry, with_translation, signed, uses, with_used, motion_with}
use Rattle.triplets.specs.Denominators.{unit, parts, Denominator, denominator_text}

-- a byte that may stand between the words
pub data Blank : Type 0 where
  space : Blank
  tab : Blank
  carriage_return : Blank

-- as it is written
abbrev pub blank_byte : Blank → ℕ
blank_byte space = 32
blank_byte tab = 9
blank_byte carriage_return = 13

-- blanks as they are written
abbrev pub blanks_text : List Blank → List ℕ
blanks_text = map blank_byte

-- a sign as it is written
abbrev pub sign_byte : Sign → ℕ
sign_byte Plus = 43
sign_byte Minus = 45

-- a letter, small or capital
abbrev pub letter_byte : Axis → Bool → ℕ
letter_byte X false = 120
letter_byte X true = 88
letter_byte Y false = 121
letter_byte Y true = 89
letter_byte Z false = 122
letter_byte Z true = 90

-- a digit as it is written
pub record Digit : Type 0 where
  pub byte : ℕ
  pub low : 48 ≤ byte
  pub high : byte ≤ 57

-- what it is
abbrev pub digit_value : Digit → ℕ
digit_value d = d.byte - 48

-- digits as they are written
abbrev pub digits_text : List Digit → List ℕ
digits_text = map (λ d. d.byte)

-- the number that n followed by these digits is
abbrev pub decimal : ℕ → List Digit → ℕ
decimal n [] = n
decimal n (d ∷ ds) = decimal (10 * n + digit_value d) ds

-- one to three digits
pub record Numerator : Type 0 where
  pub first : Digit
  pub others : List Digit
  pub short : length others ≤ 2

-- a numerator as it is written
abbrev pub numerator_text : Numerator → List ℕ
numerator_text n = n.first.byte ∷ digits_text n.others

-- what it is
abbrev pub numerator_value : Numerator → ℕ
numerator_value n = decimal (digit_value n.first) n.others

-- a letter; a digit 1 to 9 directly followed by a letter; a number, which may have a denominator
pub data Term : Type 0 where
  letter : Axis → Bool → Term
  multiple : (d : Digit) → 49 ≤ d.byte → Axis → Bool → Term
  whole : Numerator → Term
  fraction : Numerator → Denominator → Term

-- a term as it is written
abbrev pub term_text : Term → List ℕ
term_text (letter a c) = letter_byte a c ∷ []
term_text (multiple d _ a c) = d.byte ∷ letter_byte a c ∷ []
term_text (whole n) = numerator_text n
term_text (fraction n d) = numerator_text n ++ slash ∷ denominator_text d

-- the row with the term added
abbrev pub with_term : Sign → Term → Row → Row
with_term s (letter a c) r = with_entry a (signed s 1) r
with_term s (multiple d _ a c) r = with_entry a (signed s (digit_value d)) r
with_term s (whole n) r = with_translation s (unit * numerator_value n) r
with_term s (fraction n d) r = with_translation s (parts d.number * numerator_value n) r

-- the letters that stand there, with those of the term
abbrev pub with_letters : Term → Used → Used
with_letters (letter a c) u = with_used a u
with_letters (multiple d _ a c) u = with_used a u
with_letters _ u = u

-- the term's letter is one of the notation and none of these
abbrev pub IsNew : Notation → Term → Used → Type 0
IsNew notation (letter a c) u = (has_axis notation a ≡ true) × (uses a u ≡ false)
IsNew notation (multiple d _ a c) u = (has_axis notation a ≡ true) × (uses a u ≡ false)
IsNew notation _ u = Unit {0}

-- What stands in a part before a term: nothing or a sign, or terms and a sign behind them
pub data Lead : Type 0 where
  bare : List Blank → Lead
  sign : List Blank → Sign → List Blank → Lead
  more : Lead → Term → List Blank → Sign → List Blank → Lead

-- as it is written
abbrev pub lead_text : Lead → List ℕ
lead_text (bare bs) = blanks_text bs
lead_text (sign bs s cs) = blanks_text bs ++ sign_byte s ∷ blanks_text cs
lead_text (more l t bs s cs) = lead_text l ++ (term_text t ++ (blanks_text bs ++ sign_byte s ∷ blanks_text cs))

-- the sign of the next term
abbrev pub lead_sign : Lead → Sign
lead_sign (bare bs) = Plus
lead_sign (sign bs s cs) = s
lead_sign (more l t bs s cs) = s

-- the value of the terms in it
abbrev pub lead_row : Lead → Row
lead_row (bare bs) = zero_row
lead_row (sign bs s cs) = zero_row
lead_row (more l t bs s cs) = with_term (lead_sign l) t (lead_row l)

-- the letters that stand in it
abbrev pub lead_letters : Lead → Used
lead_letters (bare bs) = unused
lead_letters (sign bs s cs) = unused
lead_letters (more l t bs s cs) = with_letters t (lead_letters l)

-- each letter stands at most once
abbrev pub IsLead : Notation → Lead → Type 0
IsLead notation (bare bs) = Unit {0}
IsLead notation (sign bs s cs) = Unit {0}
IsLead notation (more l t bs s cs) = IsLead notation l × IsNew notation t (lead_letters l)

-- a part: what stands before its last term, this term, and blanks
pub record Written (notation : Notation) : Type 0 where
  pub lead : Lead
  pub last : Term
  pub after : List Blank
  pub good : IsLead notation lead
  pub new : IsNew notation last (lead_letters lead)

-- a part as it is written
abbrev pub part_text : (notation : Notation) → Written notation → List ℕ
part_text notation w = lead_text w.lead ++ (term_text w.last ++ blanks_text w.after)

-- its value: a row of W, and an entry of w
abbrev pub part_row : (notation : Notation) → Written notation → Row
part_row notation w = with_term (lead_sign w.lead) w.last (lead_row w.lead)

-- what the third part is: a triplet has one, a pair has none
abbrev pub ThirdPart : Notation → Type 0
ThirdPart Triplets = Written Triplets
ThirdPart Pairs = Unit {0}

-- as it is written, behind a comma
abbrev pub third_text : (notation : Notation) → ThirdPart notation → List ℕ
third_text Triplets w = comma ∷ part_text Triplets w
third_text Pairs w = []

-- its value: in a pair the third coordinate stays as it is
abbrev pub third_row : (notation : Notation) → ThirdPart notation → Row
third_row Triplets w = part_row Triplets w
third_row Pairs w = axis_row

-- three parts with two commas between them, or two parts with one
pub record IsOperation (notation : Notation) (bytes : List ℕ) (value : Motion) : Type 0 where
  pub one : Written notation
  pub two : Written notation
  pub three : ThirdPart notation
  pub text : bytes ≡ part_text notation one ++ (comma ∷ (part_text notation two ++ third_text notation three))
  pub rows : value ≡ motion_with (part_row notation one) (part_row notation two) (third_row notation three)

-- the bytes are a triplet with this value
abbrev pub IsTriplet : List ℕ → Motion → Type 0
IsTriplet = IsOperation Triplets
