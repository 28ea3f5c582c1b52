-- The operations of a rod type, and the changes that carry a section onto it.
use Rattle.std.specs.Prelude.{ℕ, List, ◌≡◌}
use Rattle.fractions.specs.Fraction.{SameFraction}
use Rattle.fractions.specs.Parts.{part_of_edge}
use Rattle.quotient.specs.Closure.{IsProduct}
use Rattle.motions.specs.declared.rod.RodMotion.{RodMotion}
use Rattle.motions.specs.RodMotions.{RodOperation}
use Rattle.motions.specs.PlaneMatrices.{Matrix2}
use Rattle.motions.specs.PlaneViews.{matrix2_of}
use Rattle.line_types.specs.Lines.{modulo_lattice}
use Rattle.line_types.specs.Rods.{rod_line}
use Rattle.line_types.specs.RodRows.{rod_row}
use Rattle.recognition.specs.declared.found_rod.FoundRod.{FoundRod}
use Rattle.recognition.specs.RationalRods.{IsListedRod, RationalRod, multiple2}
use Rattle.recognition.specs.RodChanges.{CarriesOnto, grid_part}
use Rattle.recognition.specs.RodOrder.{Change}

-- an operation of the rod type of the number n: a product of its generators, their inverses and whole multiples of the axis
pub record IsOfRodType (n : ℕ) (op : RationalRod) : Type 0 where
  pub operation : RodOperation
  pub product : IsProduct (modulo_lattice rod_line) (rod_row n).generators operation
  pub matrix : op.matrix ≡ multiple2 op.over operation.matrix
  pub along : op.along ≡ operation.along
  pub translation : SameFraction op.translation (part_of_edge operation.translation)

-- the change by P and the point z of the grid carries the section that a list stands for onto the rod type of the number n
abbrev pub HasChangeOnto : List RodMotion → ℕ → Matrix2 → ℕ → Type 0
HasChangeOnto section n p z = CarriesOnto (IsListedRod section) (IsOfRodType n) p (grid_part z)

-- the change carries the section onto the rod type of its number
abbrev pub HasChange : List RodMotion → Change → Type 0
HasChange section c = HasChangeOnto section c.number c.matrix c.z

-- the change that a FoundRod is
abbrev pub change_of : FoundRod → Change
change_of f = record { number = f.number; matrix = matrix2_of f.p; z = f.z }
