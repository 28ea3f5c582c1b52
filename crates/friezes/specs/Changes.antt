-- Changes of the origin along a line.
use Rattle.std.specs.Prelude.{◌≡◌, ◌↔◌, ℕ, ℤ, pos, ◌-ℤ◌, ◌*ℤ◌}
use Rattle.fractions.specs.Fraction.{Fraction, IsWhole, fraction_minus}
use Rattle.motions.specs.Signs.{sign_value}
use Rattle.friezes.specs.declared.found_frieze.TheConstants.{GRID}
use Rattle.friezes.specs.RationalLines.{RationalLine, IsRationalLine}

-- r - f r, how far a motion with the sign f moves the origin
abbrev pub origin_moved : ℤ → Fraction → Fraction
origin_moved f r = record { num = r.num -ℤ f *ℤ r.num; den = r.den }

-- a motion of the section is, after the change of the origin by r, this motion of the type: f = f', e = e', and
-- t - t' - (r - f r) is whole
pub record IsCarried (r : Fraction) (op like : RationalLine) : Type 0 where
  pub along : op.along ≡ like.along
  pub across : op.across ≡ like.across
  pub translation : IsWhole (fraction_minus (fraction_minus op.translation like.translation) (origin_moved (sign_value op.along) r))

-- the change by r carries the one set of motions onto the other: a motion is in the one set exactly where some motion of
-- the other is, after the change, the same
abbrev pub CarriesOnto : (RationalLine → Type 0) → (RationalLine → Type 0) → Fraction → Type 0
CarriesOnto InSection IsOfType r =
    (op : RationalLine) → IsRationalLine op
    → InSection op ↔ ((like : RationalLine) × IsRationalLine like × IsOfType like × IsCarried r op like)

-- a point of the grid, as a part of the cell edge
abbrev pub grid_part : ℕ → Fraction
grid_part x = record { num = pos x; den = pos GRID }
