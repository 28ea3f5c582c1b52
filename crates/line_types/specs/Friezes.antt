-- Frieze motions as operations along a line, and the frieze types.
use Rattle.std.specs.Prelude.{ℕ, ℤ, pos, ◌^◌, List, [], ◌∷◌, map}
use Rattle.integers.specs.Size.{IsWithin}
use Rattle.fractions.specs.Parts.{reduced_parts}
use Rattle.motions.specs.declared.frieze.FriezeMotion.{FriezeMotion}
use Rattle.motions.specs.declared.motion.Sign.TheVariants.{Plus}
use Rattle.motions.specs.Signs.{sign_value}
use Rattle.motions.specs.FriezeMotions.{FriezeOperation, frieze_followed_by, frieze_identity, frieze_of, same_frieze}
use Rattle.line_types.specs.declared.friezes.FriezeType.{FriezeType}
use Rattle.line_types.specs.Lines.{Line}
use Rattle.line_types.specs.Types.{IsLineType, LineType}
use Rattle.line_types.specs.FriezeRows.{frieze_row}

-- the four entries of the matrix, row by row
abbrev pub frieze_entries : FriezeOperation → List ℤ
frieze_entries m = sign_value m.along ∷ pos 0 ∷ pos 0 ∷ sign_value m.across ∷ []

-- along the axis x
abbrev pub frieze_line : Line
frieze_line = record {
  Value = FriezeMotion;
  Operation = FriezeOperation;
  of = frieze_of;
  then = frieze_followed_by;
  one = frieze_identity;
  along = λ m. m.along;
  translation = λ m. m.translation;
  with_translation = λ m t. record m { translation = t };
  translation_by = λ t. record { f = Plus; e = Plus; t = t };
  entries = frieze_entries;
  same = same_frieze;
  IsSmall = λ m. IsWithin (2 ^ 40) m.translation;
}

-- the motion with its translation from 0 to below the cell edge
abbrev pub frieze_home : FriezeMotion → FriezeMotion
frieze_home m = record m { t = reduced_parts m.t }

abbrev pub frieze_type_of : FriezeType → LineType FriezeOperation
frieze_type_of t = record { number = t.number; symbol = t.symbol.now; ops = map frieze_of t.ops.now }

-- the frieze type of the number n
abbrev pub IsFriezeType : ℕ → FriezeType → Type 0
IsFriezeType n t = IsLineType frieze_line (frieze_row n) n (frieze_type_of t)
