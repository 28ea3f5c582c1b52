-- Motions modulo the axis of a rod frame, and the one of each coset that is at home.
use Rattle.std.specs.Prelude.{◌≡◌, ◌^◌, ℤ, pos, ◌-ℤ◌, ◌*ℤ◌, ◌≤ℤ◌, ◌<ℤ◌, unsigned_abs}
use Rattle.std.specs.Int.{int_div_euclid}
use Rattle.motions.specs.declared.motion.Motion3.{Motion3}
use Rattle.motions.specs.ListedSizes.{IsSmallWithin}
use Rattle.motions.specs.Views.{parts, array_of}
use Rattle.motions.specs.Translations.{IsTranslationBy}
use Rattle.closure.specs.declared.group.TheConstants.{MAX_ENTRY}
use Rattle.symmetry.specs.Vectors.{Vector, minus, multiple}
use Rattle.symmetry.specs.Motions.{Motion}
use Rattle.symmetry.specs.Frames.{Basis, combination}
use Rattle.symmetry.specs.Sizes.{IsVectorWithin}
use Rattle.plane_lattice.specs.Coordinates.{scaled, volume}
use Rattle.penetration.specs.RodFrames.{coefficient}
use Rattle.penetration.specs.RodSections.{drift}

-- at home: the translation is x a + y b + k c with rational x, y and k, and 0 <= k < 1
pub record IsAtRodHome (f : Basis) (m : Motion) : Type 0 where
  pub over : ℤ
  pub positive : pos 1 ≤ℤ over
  pub by : Vector
  pub is : combination f by ≡ multiple over m.translation
  pub z_from : pos 0 ≤ℤ by.z
  pub z_below : by.z <ℤ over

-- near: it moves the points of a line by at least 0 and less than 1 times the axis, that with these coordinates among them
pub record IsNear (f : Basis) (at : Vector) (m : Motion) : Type 0 where
  pub over : ℤ
  pub positive : pos 1 ≤ℤ over
  pub by : ℤ
  pub is : multiple over (drift m at) ≡ multiple by f.tau
  pub from : pos 0 ≤ℤ by
  pub below : by <ℤ over

-- the coordinates of the vector along a and b are whole
abbrev pub HasWholeSteps : Basis → Vector → Type 0
HasWholeSteps f v = ((q : ℤ) × (volume f *ℤ q ≡ (scaled f v).x)) × ((q : ℤ) × (volume f *ℤ q ≡ (scaled f v).y))

-- these coordinates, and the one along the axis rounded down
pub record AreStepsBack (f : Basis) (v c : Vector) : Type 0 where
  pub x : volume f *ℤ c.x ≡ (scaled f v).x
  pub y : volume f *ℤ c.y ≡ (scaled f v).y
  pub from : pos 0 ≤ℤ ((scaled f v).z -ℤ volume f *ℤ c.z)
  pub below : ((scaled f v).z -ℤ volume f *ℤ c.z) <ℤ volume f

-- the vector is a whole multiple of the axis
abbrev pub IsAlongAxis : Basis → Vector → Type 0
IsAlongAxis f v = (k : ℤ) × (multiple k f.tau ≡ v)

-- the motion is the translation by a whole multiple of the axis
abbrev pub IsAxisShift : Basis → Motion → Type 0
IsAxisShift f m = IsTranslationBy (IsAlongAxis f) m

-- how often the vector has a whole axis: its coordinate along the axis, rounded down
abbrev pub whole_turns : Basis → Vector → ℤ
whole_turns f v = int_div_euclid (coefficient f v).num (coefficient f v).den

-- the vector without these: its coordinate along the axis is from 0 to below 1
abbrev pub rod_home_shift : Basis → Vector → Vector
rod_home_shift f v = minus v (multiple (whole_turns f v) f.tau)

-- the motion with its translation so reduced
abbrev pub rod_home : Basis → Motion → Motion
rod_home f m = record { matrix = m.matrix; translation = rod_home_shift f m.translation }

-- the code's motion for the same
abbrev pub rod_home_of : Basis → Motion3 → Motion3
rod_home_of f m = record { w = m.w; t = array_of (rod_home_shift f (parts m.t)) }

-- a near motion is small: its matrix entries are at most MAX_ENTRY, and its translations at most 2^23 parts in size
pub record IsNearSmall (m : Motion) : Type 0 where
  pub motion : IsSmallWithin (unsigned_abs MAX_ENTRY) m
  pub translation : IsVectorWithin (2 ^ 23) m.translation
