-- What the motions that map a line to itself do along it, and the first change onto a frieze type.
use Rattle.std.specs.Prelude.{◌≡◌, ℤ, pos, negsuc, ◌*ℤ◌, if◌then◌else◌, List, [], ◌∷◌, length}
use Rattle.fractions.specs.declared.part.TheConstants.{UNIT}
use Rattle.symmetry.specs.Planes.{Height}
use Rattle.symmetry.specs.Groups.{Listing}
use Rattle.motions.specs.PlaneMatrices.{Pair, image2, minus2, origin2, plus2, row_times2, same_pair}
use Rattle.motions.specs.Signs.{sign_value}
use Rattle.plane_motions.specs.PlaneMotions.{PlaneMotion}
use Rattle.friezes.specs.RationalLines.{RationalLine}
use Rattle.friezes.specs.Changes.{CarriesOnto, grid_part}
use Rattle.friezes.specs.Order.{Change, IsFirst}
use Rattle.friezes.specs.Types.{IsOfFriezeType}
use Rattle.line_frames.specs.Lines.{times2}
use Rattle.line_scans.specs.Lines.{FixesEveryLine, InLineStabiliser, PlanePoint, moved2}

-- the sign e for which (hk) W = e (hk), at a motion that keeps the orientation
abbrev pub sign_of_lines : Pair → PlaneMotion → ℤ
sign_of_lines r m = (if same_pair (row_times2 r m.matrix) r then pos 1 else negsuc 0)

-- the sum of the vectors e W tau over a list of motions
abbrev pub line_total : Pair → Pair → List PlaneMotion → Pair
line_total r tau [] = origin2
line_total r tau (m ∷ ms) = plus2 (times2 (sign_of_lines r m) (image2 m.matrix tau)) (line_total r tau ms)

-- the vector c' over the scanning operations: the mean of e W tau
abbrev pub line_mean : Pair → Pair → List PlaneMotion → PlanePoint
line_mean r tau ms = record { at = line_total r tau ms; over = UNIT *ℤ pos (length ms) }

-- a vector that is counted in parts, in cell edges
abbrev pub in_edges2 : Pair → PlanePoint
in_edges2 v = record { at = v; over = UNIT }

-- (s/d) v, where the period d is counted in parts
abbrev pub point_at2 : ℤ → Height → PlanePoint → PlanePoint
point_at2 d s v = record { at = times2 (s.num *ℤ UNIT) v.at; over = s.den *ℤ d *ℤ v.over }

-- in the coordinates a and c' from the point o the motion is (f,e,t): W a = f a, W c' = e c' and W o + w - o = t a
pub record ActsAlong (a : Pair) (c o : PlanePoint) (m : PlaneMotion) (op : RationalLine) : Type 0 where
  pub along : image2 m.matrix a ≡ times2 (sign_value op.along) a
  pub across : image2 m.matrix c.at ≡ times2 (sign_value op.across) c.at
  pub translation : times2 op.translation.den (minus2 (moved2 m o).at (times2 UNIT o.at)) ≡ times2 (o.over *ℤ op.translation.num) a

-- some motion of the set is (f,e,t), seen from the point o
pub record ActsFrom (S : PlaneMotion → Type 0) (a : Pair) (c o : PlanePoint) (op : RationalLine) : Type 0 where
  pub motion : PlaneMotion
  pub in_set : S motion
  pub acts : ActsAlong a c o motion op

-- the section of the height s: the motions that map the line to itself, seen from (s/d) tau
abbrev pub InLineSectionAt : Listing → Pair → Pair → Pair → ℤ → PlanePoint → Height → RationalLine → Type 0
InLineSectionAt g r a tau d c s = ActsFrom (InLineStabiliser g r s) a c (point_at2 d s (in_edges2 tau))

-- the general section, taken at the height s: the motions that map every line to itself, seen from (s/d) c'
abbrev pub InGeneralLineSection : Listing → Pair → Pair → ℤ → PlanePoint → Height → RationalLine → Type 0
InGeneralLineSection g r a d c s = ActsFrom (FixesEveryLine g r) a c (point_at2 d s c)

-- the first change of the set onto one of the seven frieze types
abbrev pub IsFirstFrieze : (RationalLine → Type 0) → Change → Type 0
IsFirstFrieze InSection = IsFirst (λ c. CarriesOnto InSection (IsOfFriezeType c.number) (grid_part c.x))
