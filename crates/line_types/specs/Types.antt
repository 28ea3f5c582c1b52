-- What the types of a kind of operations along a line are.
use Prim.Native.String.{String}
use Rattle.std.specs.Prelude.{◌≡◌, ℕ, ◌≤◌, pos, ◌≤ℤ◌, ◌<ℤ◌, codes, List, length, map, All, AllPairs}
use Rattle.integers.specs.Size.{IsWithin}
use Rattle.fractions.specs.declared.part.TheConstants.{UNIT}
use Rattle.quotient.specs.Closure.{IsClosure}
use Rattle.quotient.specs.Groups.{AllKeep}
use Rattle.quotient.specs.Order.{Form, IsInOrder}
use Rattle.line_types.specs.Lines.{Line, modulo_lattice}

-- a row of the table that defines the types: a symbol, and generators
pub record Row (A : Type 0) : Type 0 where
  pub symbol : List ℕ
  pub generators : List A

-- as it is written
abbrev pub row : String → List String → Row (List ℕ)
row symbol generators = record { symbol = codes symbol; generators = map codes generators }

-- with the motions that the texts write
abbrev pub with_motions : {A : Type 0} → (List ℕ → A) → Row (List ℕ) → Row A
with_motions written r = record { symbol = r.symbol; generators = map written r.generators }

-- a type, as the code has it: its number, its symbol and its operations
pub record LineType (A : Type 0) : Type 0 where
  pub number : ℕ
  pub symbol : List ℕ
  pub ops : List A

-- the entries of the matrix row by row, and a translation from 0 to below the cell edge
abbrev pub form_of : (L : Line) → Form (modulo_lattice L)
form_of L = record { entries = L.entries; IsHome = λ m. (pos 0 ≤ℤ L.translation m) × (L.translation m <ℤ UNIT) }

-- how many operations modulo its lattice a type has at most: as many as the crystal class 6/mmm
abbrev pub largest_order : ℕ
largest_order = 24

-- the type of the number n: the symbol is the row's, and the operations with the lattice are the closure of the row's
-- generators, each once and in order. They have matrices that differ, with entries of at most 1 in size; they are
-- small, carry the lattice into itself, and are few
pub record IsLineType (L : Line) (row : Row L.Operation) (n : ℕ) (t : LineType L.Operation) : Type 0 where
  pub number : t.number ≡ n
  pub symbol : t.symbol ≡ row.symbol
  pub closure : IsClosure (modulo_lattice L) row.generators t.ops
  pub order : IsInOrder (modulo_lattice L) (form_of L) t.ops
  pub matrices : AllPairs (λ m n. ¬ (L.entries m ≡ L.entries n)) t.ops
  pub entries : All (λ m. All (IsWithin 1) (L.entries m)) t.ops
  pub small : All L.IsSmall t.ops
  pub keeps : AllKeep (modulo_lattice L) t.ops
  pub few : length t.ops ≤ largest_order
