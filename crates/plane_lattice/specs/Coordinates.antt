-- Coordinates of vectors in three others, and the vectors that are whole combinations of these.
use Rattle.std.specs.Prelude.{◌≡◌, ℤ, pos, List, [], ◌∷◌, FitsSigned}
use Rattle.std.specs.Int.{int_div_euclid, w64}
use Rattle.fractions.specs.declared.part.Part.{Part}
use Rattle.fractions.specs.declared.part.TheConstants.{UNIT}
use Rattle.motions.specs.Views.{parts}
use Rattle.symmetry.specs.Vectors.{Vector, Matrix, dot, cross}
use Rattle.symmetry.specs.Groups.{Listing}
use Rattle.symmetry.specs.Frames.{Basis, combination}
use Rattle.closure.specs.Fineness.{centrings_alone}

-- three arrays of parts as three vectors
abbrev pub vectors : List Part → List Part → List Part → Basis
vectors a b tau = record { a = parts a; b = parts b; tau = parts tau }

-- what three vectors list: no operations, and these as centring vectors
abbrev pub listing_of_basis : Basis → Listing
listing_of_basis f = centrings_alone (f.a ∷ f.b ∷ f.tau ∷ [])

-- the volume of the cell that the three vectors span
abbrev pub volume : Basis → ℤ
volume f = dot (cross f.a f.b) f.tau

-- the dual basis times the volume: three cross products as rows
abbrev pub dual_rows : Basis → Matrix
dual_rows f = record { first = cross f.b f.tau; second = cross f.tau f.a; third = cross f.a f.b }

-- the coordinates of a vector, times the volume (Cramer's rule)
abbrev pub scaled : Basis → Vector → Vector
scaled f v = record { x = dot (cross f.b f.tau) v; y = dot (cross f.tau f.a) v; z = dot (cross f.a f.b) v }

-- the first two of three numbers divided by d and rounded down, and 0
abbrev pub floors : Vector → ℤ → Vector
floors v d = record { x = int_div_euclid v.x d; y = int_div_euclid v.y d; z = pos 0 }

-- the vector is a whole combination of a, b and tau
abbrev pub IsCombination : Basis → Vector → Type 0
IsCombination f v = (c : Vector) × (combination f c ≡ v)

-- the vector is a whole combination of a and b
abbrev pub IsPlaneCombination : Basis → Vector → Type 0
IsPlaneCombination f v = (c : Vector) × (combination f c ≡ v) × (c.z ≡ pos 0)

-- the three edges of the cell are whole combinations
pub record HoldsEdges (f : Basis) : Type 0 where
  pub first : IsCombination f (record { x = UNIT; y = pos 0; z = pos 0 })
  pub second : IsCombination f (record { x = pos 0; y = UNIT; z = pos 0 })
  pub third : IsCombination f (record { x = pos 0; y = pos 0; z = UNIT })

-- each entry fits an `i64`
pub record FitsWord (v : Vector) : Type 0 where
  pub x : FitsSigned w64 v.x
  pub y : FitsSigned w64 v.y
  pub z : FitsSigned w64 v.z
