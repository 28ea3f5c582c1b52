-- What a byte means.
use Rattle.std.specs.Prelude.{ℕ, ◌-◌, ◌<◌, ◌&&◌, ◌==◌, nat_le, Bool, true, false, if◌then◌else◌}
use Rattle.triplets.specs.declared.notation.Notation.{Notation}
use Rattle.triplets.specs.declared.notation.Notation.TheVariants.{Triplets, Pairs}
use Rattle.triplets.specs.declared.marks.Axis.{Axis}
use Rattle.triplets.specs.declared.marks.Axis.TheVariants.{X, Y, Z}
use Rattle.motions.specs.declared.motion.Sign.TheVariants.{Plus, Minus}
use Rattle.triplets.specs.declared.marks.Mark.{Mark}
use Rattle.triplets.specs.declared.marks.Mark.TheVariants.{Blank, Signs, Letter, Digit, Slash, Comma, Hash, Open, Close, Other}

-- the letters of a notation: x, y and z, or x and y
abbrev pub has_axis : Notation → Axis → Bool
has_axis notation X = true
has_axis notation Y = true
has_axis Triplets Z = true
has_axis Pairs Z = false

-- the mark of the letter z
abbrev pub third_letter : Notation → Mark
third_letter Triplets = Letter Z
third_letter Pairs = Other

-- the mark of a byte
abbrev pub mark : Notation → ℕ → Mark
mark notation b =
    if nat_le 48 b && nat_le b 57 then Digit (b - 48) else (
    if b == 32 then Blank else (
    if b == 9 then Blank else (
    if b == 13 then Blank else (
    if b == 43 then Signs Plus else (
    if b == 45 then Signs Minus else (
    if b == 120 then Letter X else (
    if b == 88 then Letter X else (
    if b == 121 then Letter Y else (
    if b == 89 then Letter Y else (
    if b == 122 then third_letter notation else (
    if b == 90 then third_letter notation else (
    if b == 47 then Slash else (
    if b == 44 then Comma else (
    if b == 35 then Hash else (
    if b == 40 then Open else (
    if b == 41 then Close else Other))))))))))))))))

-- a digit is below ten
abbrev pub IsMarkInRange : Mark → Type 0
IsMarkInRange (Digit d) = d < 10
IsMarkInRange _ = Unit {0}
