-- The limits of a slab.
use Rattle.std.specs.Prelude.{◌*ℤ◌, ◌&&◌, int_lt, Bool, true, false, Option, None, Result, Ok, Err}
use Rattle.fractions.specs.Fraction.{Fraction}
use Rattle.slabs.specs.Slabs.{IsAtMost, half_sum}
use Rattle.requests.specs.declared.refusal.Refusal.{Refusal}
use Rattle.requests.specs.declared.refusal.Refusal.TheVariants.{HeightLimit, EmptySlab}
use Rattle.requests.specs.Words.{FrameWords, Indices}
use Rattle.requests.specs.Limits.{IsHeightInRange, is_height_in_range, Planes, within_limits}

-- what words say of a slab: its indices, the vectors of a frame where they have them, and its two heights
pub record SlabWords : Type 0 where
  pub indices : Indices
  pub frame : Option FrameWords
  pub low : Fraction
  pub high : Fraction

-- the heights and half their sum are within the limits
pub record AreHeightsInRange (low high : Fraction) : Type 0 where
  pub from : IsHeightInRange low
  pub to : IsHeightInRange high
  pub middle : IsHeightInRange (half_sum low high)

-- and the first is at most the second
pub record IsSlabInRange (low high : Fraction) : Type 0 where
  pub heights : AreHeightsInRange low high
  pub order : IsAtMost low high

-- whether the heights and half their sum are within the limits
abbrev pub are_heights_in_range : Fraction → Fraction → Bool
are_heights_in_range low high = is_height_in_range low && is_height_in_range high && is_height_in_range (half_sum low high)

-- whether the first is above the second
abbrev pub is_empty_slab : Fraction → Fraction → Bool
is_empty_slab low high = int_lt (high.num *ℤ low.den) (low.num *ℤ high.den)

-- the orientation and the frame, if the heights are in range and the slab is not empty, else the first that is wrong
abbrev pub with_heights : Result Planes Refusal → Bool → Bool → Result Planes Refusal
with_heights (Err refusal) range empty = Err refusal
with_heights (Ok planes) false empty = Err HeightLimit
with_heights (Ok planes) true true = Err EmptySlab
with_heights (Ok planes) true false = Ok planes

-- the orientation and the frame of the words, or the first limit that they pass
abbrev pub within_slab_limits : SlabWords → Result Planes Refusal
within_slab_limits w =
    with_heights (within_limits (record { indices = w.indices; frame = w.frame; height = None }))
    (are_heights_in_range w.low w.high) (is_empty_slab w.low w.high)
