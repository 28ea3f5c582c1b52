-- The scanning operations of a list, and their mean.
use Rattle.std.specs.Prelude.{Bool, ◌||◌, List}
use Rattle.std.specs.List.{filter}
use Rattle.fractions.specs.declared.ratio.Ratio.{Ratio}
use Rattle.fractions.specs.Fraction.{SameFraction}
use Rattle.fractions.specs.Fractions.{fraction_at}
use Rattle.symmetry.specs.Vectors.{Vector, opposite, row_times}
use Rattle.symmetry.specs.Motions.{Motion, Point}
use Rattle.symmetry.specs.Frames.{same_vector}

-- whether the motion keeps the orientation
abbrev pub keeps_orientation : Vector → Motion → Bool
keeps_orientation r m = same_vector (row_times r m.matrix) r || same_vector (row_times r m.matrix) (opposite r)

-- the operations of the list that keep the orientation
abbrev pub scanning_ops : Vector → List Motion → List Motion
scanning_ops r ops = filter (keeps_orientation r) ops

-- the three fractions are the point
pub record IsPointOf (p : Point) (c : List Ratio) : Type 0 where
  pub x : SameFraction (fraction_at c 0) (record { num = p.at.x; den = p.over })
  pub y : SameFraction (fraction_at c 1) (record { num = p.at.y; den = p.over })
  pub z : SameFraction (fraction_at c 2) (record { num = p.at.z; den = p.over })
