-- The origin of the type of a section, by the change that was found.
use Rattle.std.specs.Prelude.{ℤ, ◌*ℤ◌}
use Rattle.fractions.specs.declared.part.TheConstants.{UNIT}
use Rattle.fractions.specs.LowestTerms.{lowest_terms}
use Rattle.symmetry.specs.Planes.{Height}
use Rattle.motions.specs.PlaneMatrices.{Pair, plus2}
use Rattle.friezes.specs.Changes.{grid_part}
use Rattle.friezes.specs.Order.{Change}
use Rattle.line_frames.specs.Lines.{times2}
use Rattle.line_scans.specs.Lines.{PlanePoint}
use Rattle.line_scans.specs.LineScans.{TwoFractions}
use Rattle.line_scans.specs.LineSections.{in_edges2, point_at2}

-- (x/grid) a
abbrev pub origin_along : Pair → Change → PlanePoint
origin_along a c =
    let q = grid_part c.x in
    record { at = times2 q.num a; over = q.den *ℤ UNIT }

-- the sum of two points
abbrev pub point_plus2 : PlanePoint → PlanePoint → PlanePoint
point_plus2 p q = record { at = plus2 (times2 q.over p.at) (times2 p.over q.at); over = p.over *ℤ q.over }

-- (s/d) tau + (x/grid) a, where the period d is counted in parts
abbrev pub origin_at_height : ℤ → Height → Pair → Pair → Change → PlanePoint
origin_at_height d s a tau c = point_plus2 (point_at2 d s (in_edges2 tau)) (origin_along a c)

-- a point in lowest terms
abbrev pub lowest_point2 : PlanePoint → TwoFractions
lowest_point2 p = record { x = lowest_terms p.at.x p.over; y = lowest_terms p.at.y p.over }
