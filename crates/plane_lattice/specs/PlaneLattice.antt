-- Motions modulo the whole combinations of a and b, and the motion at home.
use Rattle.motions.specs.declared.motion.Motion3.{Motion3}
use Rattle.motions.specs.Views.{parts, array_of}
use Rattle.symmetry.specs.Vectors.{Vector, minus}
use Rattle.motions.specs.Translations.{IsTranslationBy}
use Rattle.symmetry.specs.Motions.{Motion}
use Rattle.symmetry.specs.Frames.{Basis, combination}
use Rattle.plane_lattice.specs.Coordinates.{floors, volume, scaled, IsPlaneCombination}

-- the motion is the translation by a whole combination of a and b
abbrev pub IsPlaneShift : Basis → Motion → Type 0
IsPlaneShift f m = IsTranslationBy (IsPlaneCombination f) m

-- how often the vector has a whole a and a whole b: its first two coordinates, rounded down
abbrev pub whole_part : Basis → Vector → Vector
whole_part f v = floors (scaled f v) (volume f)

-- the vector without these
abbrev pub home_shift : Basis → Vector → Vector
home_shift f v = minus v (combination f (whole_part f v))

-- the motion with its translation so reduced
abbrev pub home_motion : Basis → Motion → Motion
home_motion f m = record { matrix = m.matrix; translation = home_shift f m.translation }

-- the code's motion for the same
abbrev pub home_of_motion : Basis → Motion3 → Motion3
home_of_motion f m = record { w = m.w; t = array_of (home_shift f (parts m.t)) }
