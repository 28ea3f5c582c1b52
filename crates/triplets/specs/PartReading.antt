-- What the reader of a part does.
use Rattle.std.specs.Prelude.{ℕ, ◌+◌, ◌*◌, ◌<◌, ◌≤◌, ◌&&◌, ◌==◌, nat_lt, nat_le, if◌then◌else◌, Option, Some, None, Result, Ok, Err}
use Rattle.triplets.specs.declared.marks.Axis.{Axis}
use Rattle.motions.specs.declared.motion.Sign.{Sign}
use Rattle.motions.specs.declared.motion.Sign.TheVariants.{Plus}
use Rattle.triplets.specs.declared.marks.Mark.{Mark}
use Rattle.triplets.specs.declared.marks.Mark.TheVariants as marks
use Rattle.triplets.specs.declared.fault.TextKind.{TextKind}
use Rattle.triplets.specs.declared.fault.TextKind.TheVariants as kinds
use Rattle.triplets.specs.declared.part.PartReader.{PartReader}
use Rattle.triplets.specs.declared.part.Spot.{Spot}
use Rattle.triplets.specs.declared.part.Spot.TheVariants.{Begin, Signed, Digits, Divided, Below, Behind}
use Rattle.triplets.specs.Rows.{zero_row, unused, with_entry, with_translation, signed, uses, with_used, IsRoomy}
use Rattle.triplets.specs.Denominators.{unit, parts, further_digit}

-- before the first byte of a part
abbrev pub begin : PartReader
begin = record { row = zero_row; used = unused; sign = Plus; spot = Begin }

-- the reader at this spot
abbrev pub with_spot : Spot → PartReader → PartReader
with_spot s p = record p { spot = s }

-- a number was read
abbrev pub with_number : ℕ → PartReader → PartReader
with_number n p = record p { row = with_translation p.sign n p.row; spot = Behind }

-- a letter with its coefficient was read
abbrev pub with_letter : Axis → ℕ → PartReader → PartReader
with_letter a n p = record p { row = with_entry a (signed p.sign n) p.row; used = with_used a p.used; spot = Behind }

-- a sign was read
abbrev pub with_sign : Sign → PartReader → PartReader
with_sign s p = record p { sign = s; spot = Signed }

-- the part with its last term whole, at a spot
abbrev pub settled_at : Spot → PartReader → Option PartReader
settled_at Begin p = None
settled_at Signed p = None
settled_at (Digits n v) p = Some (with_number (unit * v) p)
settled_at (Divided v) p = None
settled_at (Below v d) p = Some (with_number (parts d * v) p)
settled_at Behind p = Some p

-- the part with its last term whole, unless a term is still to come
abbrev pub settled : PartReader → Option PartReader
settled p = settled_at p.spot p

-- the part, or this kind of fault
abbrev pub some_or : Option PartReader → TextKind → Result PartReader TextKind
some_or None k = Err k
some_or (Some p) k = Ok p

-- a sign behind a whole term
abbrev pub signed_or : Sign → Option PartReader → Result PartReader TextKind
signed_or s None = Err kinds.UnknownSign
signed_or s (Some p) = Ok (with_sign s p)

-- a blank, at a spot
abbrev pub on_blank_at : Spot → PartReader → Result PartReader TextKind
on_blank_at Begin p = Ok p
on_blank_at Signed p = Ok p
on_blank_at s p = some_or (settled_at s p) kinds.UnknownSign

-- a blank
abbrev pub on_blank : PartReader → Result PartReader TextKind
on_blank p = on_blank_at p.spot p

-- a sign, at a spot
abbrev pub on_sign_at : Sign → Spot → PartReader → Result PartReader TextKind
on_sign_at s Begin p = Ok (with_sign s p)
on_sign_at s q p = signed_or s (settled_at q p)

-- a sign
abbrev pub on_sign : Sign → PartReader → Result PartReader TextKind
on_sign s p = on_sign_at s p.spot p

-- a letter that does not stand in the part yet, at a spot
abbrev pub on_new_letter_at : Axis → Spot → PartReader → Result PartReader TextKind
on_new_letter_at a Begin p = Ok (with_letter a 1 p)
on_new_letter_at a Signed p = Ok (with_letter a 1 p)
on_new_letter_at a (Digits n v) p = if n == 1 && nat_lt 0 v then Ok (with_letter a v p) else Err kinds.Coefficient
on_new_letter_at a (Divided v) p = Err kinds.UnknownSign
on_new_letter_at a (Below v d) p = Err kinds.Coefficient
on_new_letter_at a Behind p = Err kinds.UnknownSign

-- a letter
abbrev pub on_letter : Axis → PartReader → Result PartReader TextKind
on_letter a p = if uses a p.used then Err kinds.Repeated else on_new_letter_at a p.spot p

-- a denominator, if it is one
abbrev pub below_or : ℕ → Option ℕ → PartReader → Result PartReader TextKind
below_or v None p = Err kinds.Denominator
below_or v (Some d) p = Ok (with_spot (Below v d) p)

-- a digit, at a spot
abbrev pub on_digit_at : ℕ → Spot → PartReader → Result PartReader TextKind
on_digit_at d Begin p = Ok (with_spot (Digits 1 d) p)
on_digit_at d Signed p = Ok (with_spot (Digits 1 d) p)
on_digit_at d (Digits n v) p = if nat_le 3 n then Err kinds.Coefficient else Ok (with_spot (Digits (n + 1) (10 * v + d)) p)
on_digit_at d (Divided v) p = below_or v (further_digit 0 d) p
on_digit_at d (Below v u) p = below_or v (further_digit u d) p
on_digit_at d Behind p = Err kinds.UnknownSign

-- a digit
abbrev pub on_digit : ℕ → PartReader → Result PartReader TextKind
on_digit d p = on_digit_at d p.spot p

-- a slash, at a spot
abbrev pub on_slash_at : Spot → PartReader → Result PartReader TextKind
on_slash_at (Digits n v) p = Ok (with_spot (Divided v) p)
on_slash_at _ p = Err kinds.UnknownSign

-- a slash
abbrev pub on_slash : PartReader → Result PartReader TextKind
on_slash p = on_slash_at p.spot p

-- a byte of a part
abbrev pub part_step : Mark → PartReader → Result PartReader TextKind
part_step marks.Blank p = on_blank p
part_step (marks.Signs s) p = on_sign s p
part_step (marks.Letter a) p = on_letter a p
part_step (marks.Digit d) p = on_digit d p
part_step marks.Slash p = on_slash p
part_step marks.Comma p = Err kinds.UnknownSign
part_step marks.Hash p = Err kinds.MissingPart
part_step marks.Open p = Err kinds.UnknownSign
part_step marks.Close p = Err kinds.UnknownSign
part_step marks.Other p = Err kinds.UnknownSign

-- the numerator so far is below a thousand, and the denominator at most the parts of a cell edge
abbrev pub IsSpotSmall : Spot → Type 0
IsSpotSmall (Digits n v) = (n ≤ 3) × (v < 1000)
IsSpotSmall (Divided v) = v < 1000
IsSpotSmall (Below v d) = (v < 1000) × ((1 ≤ d) × (d ≤ unit))
IsSpotSmall _ = Unit {0}

-- the next byte leads to no number that is too large
pub record IsSmall (p : PartReader) : Type 0 where
  pub row : IsRoomy p.row
  pub spot : IsSpotSmall p.spot
