-- What motions do along a line, and the lattice along it.
use Rattle.std.specs.Prelude.{◌≡◌, ℤ, ◌*ℤ◌}
use Rattle.fractions.specs.Parts.{edge, rest_of_edge}
use Rattle.quotient.specs.Kind.{Kind, kind_of}
use Rattle.motions.specs.FriezeMotions.{FriezeOperation, frieze_followed_by, frieze_identity, frieze_translation}
use Rattle.friezes.specs.declared.line_op.LineOp.{LineOp}

-- the operation that a LineOp is, with its translation in half parts
abbrev pub line_of : LineOp → FriezeOperation
line_of m = record { along = m.f; across = m.e; translation = m.t }

-- the translation by a whole number of cell edges
pub record IsLineShift (m : LineOp) : Type 0 where
  pub times : ℤ
  pub is : line_of m ≡ frieze_translation (times *ℤ edge)

-- the motions modulo these
abbrev pub line_kind : Kind
line_kind = kind_of line_of frieze_followed_by frieze_identity IsLineShift

-- the motion with its translation from 0 to below the cell edge
abbrev pub line_home : LineOp → LineOp
line_home m = record m { t = rest_of_edge m.t }
