-- What the reader of an operation does.
use Rattle.std.specs.Prelude.{ℕ, List, Option, Some, None, Result, Ok, Err}
use Rattle.triplets.specs.declared.marks.Mark.{Mark}
use Rattle.triplets.specs.declared.marks.Mark.TheVariants as marks
use Rattle.triplets.specs.declared.fault.TextKind.{TextKind}
use Rattle.triplets.specs.declared.fault.TextKind.TheVariants as kinds
use Rattle.triplets.specs.declared.part.Row.{Row}
use Rattle.triplets.specs.declared.part.PartReader.{PartReader}
use Rattle.triplets.specs.declared.part.Spot.{Spot}
use Rattle.triplets.specs.declared.part.Spot.TheVariants as spots
use Rattle.triplets.specs.declared.triplet.Nth.{Nth}
use Rattle.triplets.specs.declared.triplet.Nth.TheVariants.{First, Second, Third}
use Rattle.motions.specs.declared.motion.Motion3.{Motion3}
use Rattle.triplets.specs.declared.triplet.TripletReader.{TripletReader}
use Rattle.triplets.specs.Marks.{mark}
use Rattle.triplets.specs.Runs.{run_by}
use Rattle.triplets.specs.declared.notation.Notation.{Notation}
use Rattle.triplets.specs.declared.notation.Notation.TheVariants.{Triplets, Pairs}
use Rattle.triplets.specs.Rows.{zero_row, axis_row, motion3_with}
use Rattle.triplets.specs.PartReading.{begin, settled, part_step}

-- before the first byte
abbrev pub start : TripletReader
start = record { nth = First; first = zero_row; second = zero_row; part = begin }

-- the reader with this part
abbrev pub with_part : PartReader → TripletReader → TripletReader
with_part p s = record s { part = p }

-- the step of a part, in a triplet
abbrev pub in_part : TripletReader → Result PartReader TextKind → Result TripletReader TextKind
in_part s (Ok p) = Ok (with_part p s)
in_part s (Err k) = Err k

-- a comma where no part is whole
abbrev pub early_comma : Spot → TextKind
early_comma spots.Begin = kinds.Empty
early_comma _ = kinds.UnknownSign

-- the comma behind a part
abbrev pub next_part : Notation → Nth → TripletReader → Row → Result TripletReader TextKind
next_part notation First s r = Ok (record { nth = Second; first = r; second = s.second; part = begin })
next_part Triplets Second s r = Ok (record { nth = Third; first = s.first; second = r; part = begin })
next_part Pairs Second s r = Err kinds.ExtraPart
next_part notation Third s r = Err kinds.ExtraPart

-- a comma
abbrev pub comma_at : Notation → Option PartReader → TripletReader → Result TripletReader TextKind
comma_at notation None s = Err (early_comma s.part.spot)
comma_at notation (Some p) s = next_part notation s.nth s p.row

-- a comma
abbrev pub on_comma : Notation → TripletReader → Result TripletReader TextKind
on_comma notation s = comma_at notation (settled s.part) s

-- the triplet, at the end of its last part
abbrev pub value_at : Notation → Nth → Option PartReader → TripletReader → Option Motion3
value_at notation First o s = None
value_at notation Second None s = None
value_at Triplets Second (Some p) s = None
value_at Pairs Second (Some p) s = Some (motion3_with s.first p.row axis_row)
value_at notation Third None s = None
value_at Triplets Third (Some p) s = Some (motion3_with s.first s.second p.row)
value_at Pairs Third (Some p) s = None

-- the triplet, if it is whole
abbrev pub value : Notation → TripletReader → Option Motion3
value notation s = value_at notation s.nth (settled s.part) s

-- a comment in a triplet
abbrev pub hash_kind : Option Motion3 → TextKind
hash_kind None = kinds.MissingPart
hash_kind (Some _) = kinds.UnknownSign

-- a byte of a triplet
abbrev pub step : Notation → Mark → TripletReader → Result TripletReader TextKind
step notation marks.Comma s = on_comma notation s
step notation marks.Hash s = Err (hash_kind (value notation s))
step notation m s = in_part s (part_step m s.part)

-- a byte, by its mark
abbrev pub operation_byte : Notation → ℕ → TripletReader → Result TripletReader TextKind
operation_byte notation b s = step notation (mark notation b) s

-- the bytes one by one
abbrev pub run : Notation → Result TripletReader TextKind → List ℕ → Result TripletReader TextKind
run notation = run_by (operation_byte notation)
