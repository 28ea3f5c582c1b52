-- Motions along a line with rational translations, and the sets that lists of them stand for.
use Rattle.std.specs.Prelude.{◌≡◌, ℤ, List, Contains}
use Rattle.fractions.specs.Fraction.{Fraction, IsFraction, IsWhole, fraction_minus}
use Rattle.fractions.specs.Parts.{edge}
use Rattle.motions.specs.declared.motion.Sign.{Sign}
use Rattle.friezes.specs.declared.line_op.LineOp.{LineOp}

-- (f, e, t): the sign f along the line, the sign e across it, and a rational part t of the cell edge along it
pub record RationalLine : Type 0 where
  pub along : Sign
  pub across : Sign
  pub translation : Fraction

-- the number below is at least 1
abbrev pub IsRationalLine : RationalLine → Type 0
IsRationalLine op = IsFraction op.translation

-- a translation in half parts, as a part of the cell edge
abbrev pub half_parts : ℤ → Fraction
half_parts t = record { num = t; den = edge }

-- a listed motion, but for a whole number of cell edges
pub record IsListedLine (list : List LineOp) (op : RationalLine) : Type 0 where
  pub motion : LineOp
  pub listed : Contains list motion
  pub along : op.along ≡ motion.f
  pub across : op.across ≡ motion.e
  pub translation : IsWhole (fraction_minus op.translation (half_parts motion.t))
