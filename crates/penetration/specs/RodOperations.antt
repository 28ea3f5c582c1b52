-- The rod operations of a list, and what each adds to the mean.
use Rattle.std.specs.Prelude.{ℕ, ◌^◌, pos, ◌*ℤ◌, Bool, ◌||◌, if◌then◌else◌, List, [], ℤ, slice_index_or}
use Rattle.std.specs.List.{filter}
use Rattle.fractions.specs.declared.ratio.Ratio.{Ratio}
use Rattle.integers.specs.Size.{IsWithin}
use Rattle.fractions.specs.Fraction.{Fraction}
use Rattle.fractions.specs.Fractions.{Fractions, fractions_of}
use Rattle.symmetry.specs.Vectors.{Vector, opposite, image}
use Rattle.symmetry.specs.Motions.{Motion, Point}
use Rattle.symmetry.specs.Frames.{Basis, same_vector}
use Rattle.plane_lattice.specs.Scanning.{IsPointOf}
use Rattle.penetration.specs.RodFrames.{coefficient, sign_along}

-- whether the motion keeps the direction
abbrev pub keeps_along : Vector → Motion → Bool
keeps_along u m = same_vector (image m.matrix u) u || same_vector (image m.matrix u) (opposite u)

-- the operations of the list that keep the direction
abbrev pub rod_ops : Vector → List Motion → List Motion
rod_ops u ops = filter (keeps_along u) ops

-- e k(W v), above the number below of k, at a motion that keeps the direction, and 0 at any other
abbrev pub signed_coefficient : Vector → Basis → Motion → Vector → ℤ
signed_coefficient u f m v = (if keeps_along u m then sign_along u m *ℤ (coefficient f (image m.matrix v)).num else pos 0)

-- the two arrays of fractions are the two points
pub record ArePointsOf (p q : Point) (across : List (List Ratio)) : Type 0 where
  pub first : IsPointOf p (slice_index_or across 0 [])
  pub second : IsPointOf q (slice_index_or across 1 [])

-- the numerator is at most 2^40 in size, and the denominator 2^20
pub record IsAcrossFraction (q : Fraction) : Type 0 where
  pub num : IsWithin (2 ^ 40) q.num
  pub den : IsWithin (2 ^ 20) q.den

-- so are those of three fractions
pub record AreAcrossFractions (v : Fractions) : Type 0 where
  pub x : IsAcrossFraction v.x
  pub y : IsAcrossFraction v.y
  pub z : IsAcrossFraction v.z

-- the vector at a place of two, in cell edges
abbrev pub vector_across : List (List Ratio) → ℕ → Fractions
vector_across across i = fractions_of (slice_index_or across i [])

-- so are those of two vectors
pub record IsAcrossWithin (across : List (List Ratio)) : Type 0 where
  pub first : AreAcrossFractions (vector_across across 0)
  pub second : AreAcrossFractions (vector_across across 1)
