-- Operations that map a line to itself, of any kind, and the lattice along the line.
use Rattle.std.specs.Prelude.{◌≡◌, ℤ, ◌*ℤ◌, List, Bool}
use Rattle.fractions.specs.declared.part.TheConstants.{UNIT}
use Rattle.fractions.specs.Parts.{reduced_parts}
use Rattle.quotient.specs.Kind.{Kind, kind_of}
use Rattle.motions.specs.declared.motion.Sign.{Sign}

-- a kind of such operations: the code's values and what they stand for; the product and the identity; the sign along the
-- line; the translation along it, and the operation with another one; the translation by so many parts as a value; the
-- entries of the matrix row by row; equality as a test; which operations are small
pub record Line : Type 1 where
  pub Value : Type 0
  pub Operation : Type 0
  pub of : Value → Operation
  pub then : Operation → Operation → Operation
  pub one : Operation
  pub along : Operation → Sign
  pub translation : Operation → ℤ
  pub with_translation : Operation → ℤ → Operation
  pub translation_by : ℤ → Value
  pub entries : Operation → List ℤ
  pub same : Operation → Operation → Bool
  pub IsSmall : Operation → Type 0

-- a lattice translation: by a whole multiple of the cell edge along the line
pub record IsLatticeTranslation (L : Line) (m : L.Value) : Type 0 where
  pub times : ℤ
  pub is : L.of m ≡ L.of (L.translation_by (times *ℤ UNIT))

-- the operations modulo these
abbrev pub modulo_lattice : Line → Kind
modulo_lattice L = kind_of L.of L.then L.one (IsLatticeTranslation L)

-- the operation with its translation from 0 to below the cell edge
abbrev pub at_home : (L : Line) → L.Operation → L.Operation
at_home L m = L.with_translation m (reduced_parts (L.translation m))
