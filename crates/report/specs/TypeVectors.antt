-- The vectors and the origin of a type, by the change that was found.
use Rattle.std.specs.Prelude.{ℤ, pos, ◌*ℤ◌, int_lt, neg_ℤ, if◌then◌else◌}
use Rattle.fractions.specs.declared.part.TheConstants.{UNIT}
use Rattle.fractions.specs.Fraction.{Fraction}
use Rattle.fractions.specs.Fractions.{Fractions}
use Rattle.fractions.specs.LowestTerms.{lowest_terms}
use Rattle.symmetry.specs.Vectors.{Vector, multiple, plus}
use Rattle.symmetry.specs.Motions.{Point}
use Rattle.symmetry.specs.Planes.{Height}
use Rattle.symmetry.specs.Frames.{Basis}
use Rattle.motions.specs.PlaneMatrices.{determinant2}
use Rattle.plane_lattice.specs.Sections.{in_cell, point_at}
use Rattle.recognition.specs.Grid.{grid}
use Rattle.recognition.specs.Order.{Change}

-- the type's first vector in the plane: p00 a + p10 b
abbrev pub first_vector : Basis → Change → Vector
first_vector f c = plus (multiple c.matrix.first.x f.a) (multiple c.matrix.second.x f.b)

-- the second: p01 a + p11 b
abbrev pub second_vector : Basis → Change → Vector
second_vector f c = plus (multiple c.matrix.first.y f.a) (multiple c.matrix.second.y f.b)

-- the fraction with the other sign
abbrev pub opposite_fraction : Fraction → Fraction
opposite_fraction q = record { num = neg_ℤ q.num; den = q.den }

abbrev pub opposite_fractions : Fractions → Fractions
opposite_fractions v = record { x = opposite_fraction v.x; y = opposite_fraction v.y; z = opposite_fraction v.z }

-- the third vector: c', or -c' where the determinant p00 p11 - p01 p10 is negative
abbrev pub third_vector : Fractions → Change → Fractions
third_vector mean c = if int_lt (determinant2 c.matrix) (pos 0) then opposite_fractions mean else mean

-- (x/grid) a + (y/grid) b
abbrev pub origin_in_plane : Basis → Change → Point
origin_in_plane f c = record { at = plus (multiple (pos c.x) f.a) (multiple (pos c.y) f.b); over = pos grid *ℤ UNIT }

-- the sum of two points
abbrev pub point_plus : Point → Point → Point
point_plus p q = record { at = plus (multiple q.over p.at) (multiple p.over q.at); over = p.over *ℤ q.over }

-- (s/d) tau + (x/grid) a + (y/grid) b, where the period d is counted in parts
abbrev pub origin_at_height : ℤ → Height → Basis → Change → Point
origin_at_height d s f c = point_plus (point_at d s (in_cell f.tau)) (origin_in_plane f c)

-- a point in lowest terms
abbrev pub lowest_point : Point → Fractions
lowest_point p = record { x = lowest_terms p.at.x p.over; y = lowest_terms p.at.y p.over; z = lowest_terms p.at.z p.over }
