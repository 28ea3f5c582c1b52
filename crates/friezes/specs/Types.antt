-- The motions of a frieze type, and the changes that carry a section onto it.
use Rattle.std.specs.Prelude.{◌≡◌, ℕ, List}
use Rattle.fractions.specs.Fraction.{Fraction, SameFraction}
use Rattle.fractions.specs.Parts.{part_of_edge}
use Rattle.quotient.specs.Closure.{IsProduct}
use Rattle.motions.specs.FriezeMotions.{FriezeOperation}
use Rattle.line_types.specs.Lines.{modulo_lattice}
use Rattle.line_types.specs.Friezes.{frieze_line}
use Rattle.line_types.specs.FriezeRows.{frieze_row}
use Rattle.friezes.specs.declared.line_op.LineOp.{LineOp}
use Rattle.friezes.specs.declared.found_frieze.FoundFrieze.{FoundFrieze}
use Rattle.friezes.specs.RationalLines.{IsListedLine, RationalLine}
use Rattle.friezes.specs.Changes.{CarriesOnto, grid_part}
use Rattle.friezes.specs.Order.{Change}

-- a motion of the frieze type of the number n: a product of its generators, their inverses and whole cell edges
pub record IsOfFriezeType (n : ℕ) (op : RationalLine) : Type 0 where
  pub operation : FriezeOperation
  pub product : IsProduct (modulo_lattice frieze_line) (frieze_row n).generators operation
  pub along : op.along ≡ operation.along
  pub across : op.across ≡ operation.across
  pub translation : SameFraction op.translation (part_of_edge operation.translation)

-- the change carries the section that a list stands for onto the frieze type of its number
abbrev pub HasChange : List LineOp → Change → Type 0
HasChange section c = CarriesOnto (IsListedLine section) (IsOfFriezeType c.number) (grid_part c.x)

-- the change that a FoundFrieze is
abbrev pub change_of : FoundFrieze → Change
change_of f = record { number = f.number; x = f.x }
