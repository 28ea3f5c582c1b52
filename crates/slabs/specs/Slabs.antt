-- Slabs of space between two planes of an orientation, and the motions that map them to themselves.
use Rattle.std.specs.Prelude.{pos, ◌+ℤ◌, ◌*ℤ◌, ◌≤ℤ◌}
use Rattle.fractions.specs.LowestTerms.{lowest_terms}
use Rattle.symmetry.specs.Vectors.{Vector, dot}
use Rattle.symmetry.specs.Motions.{Motion, Point, IsPoint, moved}
use Rattle.symmetry.specs.Planes.{Height}
use Rattle.symmetry.specs.Groups.{Listing, IsMember}

-- the one height is at most the other
abbrev pub IsAtMost : Height → Height → Type 0
IsAtMost s t = (s.num *ℤ t.den) ≤ℤ (t.num *ℤ s.den)

-- the height (h X + k Y + l Z)/n of the point (X,Y,Z) over n
abbrev pub height_of_point : Vector → Point → Height
height_of_point r p = record { num = dot r p.at; den = p.over }

-- the point lies in the slab: its height is at least low and at most high
pub record IsInSlab (r : Vector) (low high : Height) (p : Point) : Type 0 where
  pub from : IsAtMost low (height_of_point r p)
  pub to : IsAtMost (height_of_point r p) high

-- the motion takes every point of the slab to a point of the slab
abbrev pub KeepsSlab : Vector → Height → Height → Motion → Type 0
KeepsSlab r low high m = (p : Point) → IsPoint p → IsInSlab r low high p → IsInSlab r low high (moved m p)

-- the members that map the slab to itself
abbrev pub InSlabStabiliser : Listing → Vector → Height → Height → Motion → Type 0
InSlabStabiliser g r low high m = IsMember g m × KeepsSlab r low high m

-- half the sum of two heights, in lowest terms: the middle of the slab
abbrev pub half_sum : Height → Height → Height
half_sum low high = lowest_terms (low.num *ℤ high.den +ℤ high.num *ℤ low.den) (pos 2 *ℤ low.den *ℤ high.den)
