-- What the reader of a line does.
use Rattle.std.specs.Prelude.{ℕ, Bool, true, false, ◌&&◌, if◌then◌else◌, List, [], ◌∷◌, ◌++◌, Option, Some, None, Result, Ok, Err, ℤ, pos}
use Rattle.triplets.specs.declared.marks.Mark.{Mark}
use Rattle.triplets.specs.declared.marks.Mark.TheVariants as marks
use Rattle.motions.specs.declared.motion.Sign.{Sign}
use Rattle.motions.specs.declared.motion.Sign.TheVariants.{Plus}
use Rattle.triplets.specs.declared.fault.TextKind.{TextKind}
use Rattle.triplets.specs.declared.fault.TextKind.TheVariants as kinds
use Rattle.triplets.specs.declared.part.PartReader.{PartReader}
use Rattle.triplets.specs.declared.part.Spot.{Spot}
use Rattle.triplets.specs.declared.part.Spot.TheVariants as spots
use Rattle.triplets.specs.declared.triplet.Nth.{Nth}
use Rattle.triplets.specs.declared.triplet.Nth.TheVariants.{First, Second, Third}
use Rattle.motions.specs.declared.motion.Motion3.{Motion3}
use Rattle.triplets.specs.declared.triplet.TripletReader.{TripletReader}
use Rattle.fractions.specs.declared.part.Part.{Part}
use Rattle.triplets.specs.declared.line.VectorReader.{VectorReader}
use Rattle.triplets.specs.declared.line.LinePlace.{LinePlace}
use Rattle.triplets.specs.declared.line.LinePlace.TheVariants as places
use Rattle.triplets.specs.declared.notation.Notation.{Notation}
use Rattle.triplets.specs.declared.notation.Notation.TheVariants.{Triplets, Pairs}
use Rattle.triplets.specs.Marks.{mark}
use Rattle.triplets.specs.Runs.{run_by}
use Rattle.triplets.specs.PartReading.{begin, settled, part_step, with_sign, IsSmall}
use Rattle.triplets.specs.TripletReading.{start, step, value, early_comma}
use Rattle.symmetry.specs.Motions.{Motion}
use Rattle.symmetry.specs.Vectors.{Vector}
use Rattle.symmetry.specs.Groups.{Listing}
use Rattle.motions.specs.Views.{motion_of, parts}
use Rattle.triplets.specs.Rows.{parts_with}

-- a vector whose bracket was read; whether it may still be a label
abbrev pub opened : Bool → VectorReader
opened label = record { nth = First; first = pos 0; second = pos 0; part = begin; label = label }

-- the step of a triplet, in a line
abbrev pub in_operation : Result TripletReader TextKind → Result LinePlace TextKind
in_operation (Ok t) = Ok (places.Operation t)
in_operation (Err k) = Err k

-- the step of a part, in a vector
abbrev pub in_coordinate : Bool → VectorReader → Result PartReader TextKind → Result LinePlace TextKind
in_coordinate label v (Ok p) = Ok (places.Coordinates (record v { part = p; label = label }))
in_coordinate label v (Err k) = Err k

-- the comma behind a coordinate
abbrev pub next_coordinate : Notation → Nth → VectorReader → ℤ → Result LinePlace TextKind
next_coordinate notation First v x = Ok (places.Coordinates (record { nth = Second; first = x; second = v.second; part = begin; label = false }))
next_coordinate Triplets Second v x = Ok (places.Coordinates (record { nth = Third; first = v.first; second = x; part = begin; label = false }))
next_coordinate Pairs Second v x = Err kinds.ExtraPart
next_coordinate notation Third v x = Err kinds.ExtraPart

-- a comma in a vector
abbrev pub coordinate_comma : Notation → Option PartReader → VectorReader → Result LinePlace TextKind
coordinate_comma notation None v = Err (early_comma v.part.spot)
coordinate_comma notation (Some p) v = next_coordinate notation v.nth v p.row.translation

-- the digits of a numerator are being read
abbrev pub is_digits : Spot → Bool
is_digits (spots.Digits n v) = true
is_digits _ = false

-- a vector is closed
abbrev pub closed_at : Notation → Nth → Option PartReader → VectorReader → Result LinePlace TextKind
closed_at notation _ None v = Err kinds.UnknownSign
closed_at notation First (Some p) v = Err kinds.MissingPart
closed_at Triplets Second (Some p) v = Err kinds.MissingPart
closed_at Pairs Second (Some p) v = Ok (places.Closed (parts_with v.first p.row.translation (pos 0)))
closed_at Triplets Third (Some p) v = Ok (places.Closed (parts_with v.first v.second p.row.translation))
closed_at Pairs Third (Some p) v = Err kinds.MissingPart

-- a closing bracket: of a label, or of a vector
abbrev pub on_close : Notation → VectorReader → Result LinePlace TextKind
on_close notation v = if v.label && is_digits v.part.spot then Ok (places.Operation start) else closed_at notation v.nth (settled v.part) v

-- a letter in a vector
abbrev pub behind_number : Spot → TextKind
behind_number (spots.Digits n v) = kinds.Coefficient
behind_number (spots.Below v d) = kinds.Coefficient
behind_number _ = kinds.UnknownSign

-- a sign in a vector
abbrev pub coordinate_sign : Sign → Spot → VectorReader → Result LinePlace TextKind
coordinate_sign s spots.Begin v = Ok (places.Coordinates (record v { part = with_sign s v.part; label = false }))
coordinate_sign s _ v = Err kinds.UnknownSign

-- a byte behind an opening bracket
abbrev pub vector_step : Notation → Mark → VectorReader → Result LinePlace TextKind
vector_step notation (marks.Letter a) v = Err (behind_number v.part.spot)
vector_step notation (marks.Signs s) v = coordinate_sign s v.part.spot v
vector_step notation marks.Comma v = coordinate_comma notation (settled v.part) v
vector_step notation marks.Close v = on_close notation v
vector_step notation (marks.Digit d) v = in_coordinate v.label v (part_step (marks.Digit d) v.part)
vector_step notation m v = in_coordinate false v (part_step m v.part)

-- the first byte that is no blank
abbrev pub start_step : Notation → Mark → Result LinePlace TextKind
start_step notation marks.Blank = Ok places.Start
start_step notation marks.Open = Ok (places.Coordinates (opened true))
start_step notation marks.Hash = Ok (places.Comment None)
start_step notation m = in_operation (step notation m start)

-- a comment behind a triplet
abbrev pub comment_behind : Option Motion3 → Result LinePlace TextKind
comment_behind None = Err kinds.MissingPart
comment_behind (Some t) = Ok (places.Comment (Some t))

-- a byte of an operation
abbrev pub operation_step : Notation → Mark → TripletReader → Result LinePlace TextKind
operation_step notation marks.Hash t = comment_behind (value notation t)
operation_step notation m t = in_operation (step notation m t)

-- a byte behind a closed vector
abbrev pub closed_step : Mark → List Part → Result LinePlace TextKind
closed_step marks.Blank v = Ok (places.Closed v)
closed_step (marks.Signs Plus) v = Ok places.Behind
closed_step marks.Hash v = Err kinds.MissingPart
closed_step _ v = Err kinds.UnknownSign

-- a byte behind the + of a vector
abbrev pub behind_step : Mark → Result LinePlace TextKind
behind_step marks.Blank = Ok places.Behind
behind_step marks.Open = Ok (places.Coordinates (opened false))
behind_step marks.Hash = Ok (places.Comment None)
behind_step _ = Err kinds.UnknownSign

-- a byte of a line
abbrev pub place_step : Notation → Mark → LinePlace → Result LinePlace TextKind
place_step notation m places.Start = start_step notation m
place_step notation m (places.Operation t) = operation_step notation m t
place_step notation m (places.Coordinates v) = vector_step notation m v
place_step notation m (places.Closed v) = closed_step m v
place_step notation m places.Behind = behind_step m
place_step notation m (places.Comment o) = Ok (places.Comment o)

-- the vector that the mark completes
abbrev pub completed_by : Mark → List Part → Option (List Part)
completed_by (marks.Signs Plus) v = Some v
completed_by _ v = None

-- the vector that the byte completes
abbrev pub completed : Mark → LinePlace → Option (List Part)
completed m (places.Closed v) = completed_by m v
completed m _ = None

-- the vectors so far, with this one
abbrev pub with_vector : Option (List Part) → List Vector → List Vector
with_vector None vs = vs
with_vector (Some v) vs = vs ++ parts v ∷ []

-- where the reader is in a line, and the vectors of the line so far
pub record LineState : Type 0 where
  pub place : LinePlace
  pub vectors : List Vector

-- before the first byte of a line
abbrev pub line_start : LineState
line_start = record { place = places.Start; vectors = [] }

-- the place that a step led to
abbrev pub at_place : Result LinePlace TextKind → List Vector → Result LineState TextKind
at_place (Ok p) vs = Ok (record { place = p; vectors = vs })
at_place (Err k) vs = Err k

-- a byte of a line
abbrev pub line_step : Notation → Mark → LineState → Result LineState TextKind
line_step notation m s = at_place (place_step notation m s.place) (with_vector (completed m s.place) s.vectors)

-- a byte, by its mark
abbrev pub line_byte : Notation → ℕ → LineState → Result LineState TextKind
line_byte notation b s = line_step notation (mark notation b) s

-- the bytes of a line one by one
abbrev pub line_run : Notation → Result LineState TextKind → List ℕ → Result LineState TextKind
line_run notation = run_by (line_byte notation)

-- the operation of the line, if it may end here
abbrev pub some_operation : Option Motion3 → Option (Option Motion3)
some_operation None = None
some_operation (Some t) = Some (Some t)

-- where a line may end, the operation that stands in it
abbrev pub ending : Notation → LinePlace → Option (Option Motion3)
ending notation places.Start = Some None
ending notation (places.Operation t) = some_operation (value notation t)
ending notation (places.Coordinates v) = None
ending notation (places.Closed v) = None
ending notation places.Behind = Some None
ending notation (places.Comment o) = Some o

-- the motion that is listed, if there is one
abbrev pub operations_of : Option Motion3 → List Motion
operations_of None = []
operations_of (Some t) = motion_of t ∷ []

-- what a line lists that may end
abbrev pub listing_by : Option (Option Motion3) → List Vector → Option Listing
listing_by None vs = None
listing_by (Some o) vs = Some (record { ops = operations_of o; centrings = vs })

-- what the line lists, if it may end here
abbrev pub line_value : Notation → LineState → Option Listing
line_value notation s = listing_by (ending notation s.place) s.vectors

-- the numbers are small
abbrev pub IsPlaceSmall : LinePlace → Type 0
IsPlaceSmall (places.Operation t) = IsSmall t.part
IsPlaceSmall (places.Coordinates v) = IsSmall v.part
IsPlaceSmall _ = Unit {0}
