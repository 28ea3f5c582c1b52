-- The planes of an orientation, and the motions that map them to themselves.
use Rattle.std.specs.Prelude.{◌+ℤ◌, ◌≡◌, ℕ, ℤ, pos, ◌*ℤ◌, unsigned_abs}
use Rattle.std.specs.Int.{◌∣◌}
use Rattle.fractions.specs.declared.part.TheConstants.{UNIT}
use Rattle.fractions.specs.Fraction.{Fraction, IsFraction}
use Rattle.symmetry.specs.Vectors.{multiple, Vector, Matrix, dot, row_times, opposite, product, unit_matrix}
use Rattle.symmetry.specs.Motions.{Motion, Point, IsPoint, moved}

-- the rational height p over q of a plane h x + k y + l z = p/q
abbrev pub Height : Type 0
Height = Fraction

-- q is at least 1
abbrev pub IsHeight : Height → Type 0
IsHeight = IsFraction

-- no whole number above 1 divides all three indices
abbrev pub IsCoprime : Vector → Type 0
IsCoprime r = (d : ℕ) → d ∣ unsigned_abs r.x → d ∣ unsigned_abs r.y → d ∣ unsigned_abs r.z → d ≡ 1

-- the point (X,Y,Z) over n lies on the plane of height p/q: (h X + k Y + l Z) q = p n
abbrev pub IsOn : Vector → Height → Point → Type 0
IsOn r s p = dot r p.at *ℤ s.den ≡ s.num *ℤ p.over

-- the motion takes every point of the plane s to a point of the plane s'
abbrev pub MapsPlane : Vector → Height → Height → Motion → Type 0
MapsPlane r s s' g = (p : Point) → IsPoint p → IsOn r s p → IsOn r s' (moved g p)

-- the motion maps the plane s to itself
abbrev pub KeepsPlane : Vector → Height → Motion → Type 0
KeepsPlane r s g = MapsPlane r s s g

-- (hkl) W = (hkl) and (hkl).w = 0
abbrev pub KeepsRow : Vector → Motion → Type 0
KeepsRow r g = (row_times r g.matrix ≡ r) × (dot r g.translation ≡ pos 0)

-- (hkl) W = -(hkl) and 2 p/q = (hkl).w, which is counted in parts
abbrev pub TurnsRow : Vector → Height → Motion → Type 0
TurnsRow r s g =
    (row_times r g.matrix ≡ opposite r) × (pos 2 *ℤ s.num *ℤ UNIT ≡ s.den *ℤ dot r g.translation)

-- (hkl) W = e (hkl) and e p/q + (hkl).w = p'/q'
abbrev pub MovesRow : Vector → Height → Height → ℤ → Motion → Type 0
MovesRow r s s' e g =
    (row_times r g.matrix ≡ multiple e r)
    × ((e *ℤ s.num *ℤ UNIT +ℤ s.den *ℤ dot r g.translation) *ℤ s'.den ≡ s'.num *ℤ (UNIT *ℤ s.den))

-- the matrix has an inverse of whole entries
pub record IsInvertible (w : Matrix) : Type 0 where
  pub inverse : Matrix
  pub right : product w inverse ≡ unit_matrix
  pub left : product inverse w ≡ unit_matrix
