-- What the motions of planes of the code say.
use Rattle.std.specs.Prelude.{ℤ, pos, ◌≤ℤ◌, ◌<ℤ◌, Option, Some, None}
use Rattle.symmetry.specs.Vectors.{Vector}
use Rattle.symmetry.specs.Motions.{Motion}
use Rattle.symmetry.specs.Frames.{KeepsOrientation}
use Rattle.symmetry.specs.HeightMotions.{HeightMotion as MotionOfHeights, MovesPlanes}
use Rattle.motions.specs.Signs.{sign_value}
use Rattle.orbits.specs.declared.height_motion.HeightMotion.{HeightMotion}

-- the sign as a number, and the shift
abbrev pub height_motion_of : HeightMotion → MotionOfHeights
height_motion_of h = record { sign = sign_value h.sign; shift = h.shift }

-- what an operation does to the planes, with a shift from 0 to below the period; nothing where it does not keep the orientation
abbrev pub IsChosen : Vector → ℤ → Motion → Option HeightMotion → Type 0
IsChosen r d m None = ¬ KeepsOrientation r m
IsChosen r d m (Some h) = MovesPlanes r d m (height_motion_of h) × (pos 0 ≤ℤ h.shift) × (h.shift <ℤ d)
