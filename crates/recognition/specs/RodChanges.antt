-- Changes of basis and origin that carry a section onto a rod type.
use Rattle.std.specs.Prelude.{◌≡◌, ◌↔◌, ℕ, ℤ, pos, ◌-ℤ◌, ◌*ℤ◌, List}
use Rattle.integers.specs.Size.{sign_number}
use Rattle.fractions.specs.Fraction.{Fraction, IsWhole, fraction_minus}
use Rattle.motions.specs.declared.rod.RodMotion.{RodMotion}
use Rattle.motions.specs.Signs.{sign_value}
use Rattle.motions.specs.PlaneMatrices.{Matrix2, product2, determinant2}
use Rattle.recognition.specs.declared.found_rod.TheConstants.{ROD_GRID}
use Rattle.recognition.specs.RationalRods.{RationalRod, IsRationalRod, IsListedRod, multiple2}

-- how a change turns the axis, so that the basis stays right-handed: n = 1 where its cross number is positive, -1 where it is negative
abbrev pub hand : Matrix2 → ℤ
hand p = sign_number (determinant2 p)

-- t - n t' - (r - e r)
abbrev pub rest_along : ℤ → ℤ → Fraction → Fraction → Fraction → Fraction
rest_along n e r t t' =
    fraction_minus (fraction_minus t (record { num = n *ℤ t'.num; den = t'.den })) (record { num = r.num -ℤ e *ℤ r.num; den = r.den })

-- an operation of the section is, after the change by P and r, this operation of the type: e = e', A P = P A', and
-- t - n t' - (r - e r) is whole
pub record IsCarried (p : Matrix2) (r : Fraction) (op like : RationalRod) : Type 0 where
  pub along : op.along ≡ like.along
  pub matrix : multiple2 like.over (product2 op.matrix p) ≡ multiple2 op.over (product2 p like.matrix)
  pub translation : IsWhole (rest_along (hand p) (sign_value op.along) r op.translation like.translation)

-- the change by P and r carries the one set of operations onto the other: its cross number is not 0, and an operation is
-- in the one set exactly where some operation of the other is, after the change, the same
pub record CarriesOnto (InSection IsOfType : RationalRod → Type 0) (p : Matrix2) (r : Fraction) : Type 0 where
  pub crossed : ¬ (determinant2 p ≡ pos 0)
  pub operations : (op : RationalRod) → IsRationalRod op
      → InSection op ↔ ((like : RationalRod) × IsRationalRod like × IsOfType like × IsCarried p r op like)

-- a point of the grid, as a part of the axis
abbrev pub grid_part : ℕ → Fraction
grid_part z = record { num = pos z; den = ROD_GRID }

-- the change by P and the point z of the grid carries what one list stands for onto what the other does
abbrev pub Carries : List RodMotion → List RodMotion → Matrix2 → ℕ → Type 0
Carries section ops p z = CarriesOnto (IsListedRod section) (IsListedRod ops) p (grid_part z)
