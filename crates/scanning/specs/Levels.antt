-- Twice a height, in parts: the (hkl).w of the motions that turn the row and map the plane to itself.
use Rattle.std.specs.Prelude.{◌≡◌, ℤ, pos, ◌+ℤ◌, ◌*ℤ◌, ◌≤ℤ◌, ◌<ℤ◌, List, All, AllPairs, Contains}
use Rattle.fractions.specs.declared.part.TheConstants.{UNIT}
use Rattle.symmetry.specs.Vectors.{Vector, dot, opposite, row_times}
use Rattle.symmetry.specs.Motions.{Motion}
use Rattle.symmetry.specs.Planes.{Height}

-- twice the height is t parts
abbrev pub IsLevel : Height → ℤ → Type 0
IsLevel s t = s.den *ℤ t ≡ pos 2 *ℤ s.num *ℤ UNIT

-- t is whole periods from the (hkl).w of a listed motion that turns the row
pub record IsTurned (r : Vector) (d : ℤ) (ops : List Motion) (t : ℤ) : Type 0 where
  pub op : Motion
  pub listed : Contains ops op
  pub row : row_times r op.matrix ≡ opposite r
  pub periods : ℤ
  pub is : t ≡ dot r op.translation +ℤ periods *ℤ d

-- from 0 to below two periods
pub record IsInTwoPeriods (d t : ℤ) : Type 0 where
  pub from : pos 0 ≤ℤ t
  pub below : t <ℤ (pos 2 *ℤ d)

-- these numbers from 0 to below two periods, each at least once
pub record AreTurned (r : Vector) (d : ℤ) (ops : List Motion) (ts : List ℤ) : Type 0 where
  pub within : All (IsInTwoPeriods d) ts
  pub each : All (IsTurned r d ops) ts
  pub whole : (t : ℤ) → IsInTwoPeriods d t → IsTurned r d ops t → Contains ts t

-- and rising
pub record AreLevels (r : Vector) (d : ℤ) (ops : List Motion) (ts : List ℤ) : Type 0 where
  pub turned : AreTurned r d ops ts
  pub rising : AllPairs (λ t u. t <ℤ u) ts
