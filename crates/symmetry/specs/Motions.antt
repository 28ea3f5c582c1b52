-- Motions of space, and what they do to points.
use Rattle.std.specs.Prelude.{◌≡◌, ℤ, pos, ◌*ℤ◌, ◌≤ℤ◌}
use Rattle.fractions.specs.declared.part.TheConstants.{UNIT}
use Rattle.symmetry.specs.Vectors.{Vector, Matrix, origin, plus, multiple, image, product, unit_matrix}

-- nine whole numbers W, and three whole numbers w of parts, of which a cell edge has UNIT
pub record Motion : Type 0 where
  pub matrix : Matrix
  pub translation : Vector

-- first (V,v), then (W,w): the motion (W V, W v + w)
abbrev pub followed_by : Motion → Motion → Motion
followed_by first next = record {
  matrix = product next.matrix first.matrix;
  translation = plus (image next.matrix first.translation) next.translation;
}

-- the motion that moves nothing
abbrev pub identity : Motion
identity = record { matrix = unit_matrix; translation = origin }

-- the translation by a vector
abbrev pub translation : Vector → Motion
translation t = record { matrix = unit_matrix; translation = t }

-- the rational point (X,Y,Z) over n
pub record Point : Type 0 where
  pub at : Vector
  pub over : ℤ

-- the number below is at least 1
abbrev pub IsPoint : Point → Type 0
IsPoint p = pos 1 ≤ℤ p.over

-- the two points are one
abbrev pub SamePoint : Point → Point → Type 0
SamePoint x y = multiple y.over x.at ≡ multiple x.over y.at

-- where a motion takes a point: UNIT W (X,Y,Z) + n w over UNIT n
abbrev pub moved : Motion → Point → Point
moved g p = record {
  at = plus (multiple UNIT (image g.matrix p.at)) (multiple p.over g.translation);
  over = UNIT *ℤ p.over;
}
