-- The special heights that are made of levels.
use Rattle.std.specs.Prelude.{ℤ, pos, ◌*ℤ◌, List, Some, All, map}
use Rattle.std.specs.List.{AllZip}
use Rattle.fractions.specs.FractionOf.{fraction_of}
use Rattle.fractions.specs.LowestTerms.{IsLowestForm}
use Rattle.fractions.specs.declared.part.TheConstants.{UNIT}
use Rattle.symmetry.specs.Motions.{Motion}
use Rattle.symmetry.specs.Groups.{Listing, IsMember, SameModulo}
use Rattle.symmetry.specs.Frames.{IsAtHome}
use Rattle.symmetry.specs.Lists.{AreChosen}
use Rattle.motions.specs.Views.{motion_of, row_of}
use Rattle.plane_lattice.specs.declared.frame.Frame.{Frame}
use Rattle.plane_lattice.specs.FrameView.{basis_of_frame}
use Rattle.scanning.specs.declared.height.Height.{Height}
use Rattle.scanning.specs.Levels.{IsInTwoPeriods, AreLevels}
use Rattle.scanning.specs.Members.{InRows}
use Rattle.plane_lattice.specs.FrameOf.{HasFrame}

-- the height of a level, and what is chosen of the motions there
pub record IsHeightAt (frame : Frame) (ms : List Motion) (t : ℤ) (h : Height) : Type 0 where
  pub within : IsInTwoPeriods frame.period.0 t
  pub form : IsLowestForm (fraction_of h.s) t (pos 2 *ℤ UNIT)
  pub chosen : (g : Listing) → HasFrame g frame → All (IsMember g) ms
      → AreChosen (SameModulo g) (IsAtHome (basis_of_frame frame)) (InRows g (row_of frame.plane) (Some t)) ms (map motion_of h.ops.items)

-- one for each level of the motions
pub record AreHeights (frame : Frame) (ms : List Motion) (hs : List Height) : Type 0 where
  pub levels : List ℤ
  pub are : AreLevels (row_of frame.plane) frame.period.0 ms levels
  pub each : AllZip (IsHeightAt frame ms) levels hs
