-- Rod motions as operations along a line, and the rod types.
use Rattle.std.specs.Prelude.{ℕ, ℤ, pos, List, [], ◌∷◌, map}
use Rattle.fractions.specs.Parts.{reduced_parts}
use Rattle.motions.specs.declared.rod.RodMotion.{RodMotion}
use Rattle.motions.specs.declared.motion.Sign.TheVariants.{Plus}
use Rattle.motions.specs.Signs.{sign_value}
use Rattle.motions.specs.RodMotions.{IsRodSmall, RodOperation, rod_followed_by, rod_identity, rod_of, same_rod}
use Rattle.line_types.specs.declared.rods.RodType.{RodType}
use Rattle.line_types.specs.Lines.{Line}
use Rattle.line_types.specs.Types.{IsLineType, LineType}
use Rattle.line_types.specs.RodRows.{rod_row}

-- the nine entries of the matrix of the block form, row by row
abbrev pub rod_entries : RodOperation → List ℤ
rod_entries m =
    m.matrix.first.x ∷ m.matrix.first.y ∷ pos 0 ∷
    m.matrix.second.x ∷ m.matrix.second.y ∷ pos 0 ∷
    pos 0 ∷ pos 0 ∷ sign_value m.along ∷ []

-- along the axis z
abbrev pub rod_line : Line
rod_line = record {
  Value = RodMotion;
  Operation = RodOperation;
  of = rod_of;
  then = rod_followed_by;
  one = rod_identity;
  along = λ m. m.along;
  translation = λ m. m.translation;
  with_translation = λ m t. record m { translation = t };
  translation_by = λ t. record { a = (pos 1 ∷ pos 0 ∷ []) ∷ (pos 0 ∷ pos 1 ∷ []) ∷ []; e = Plus; t = t };
  entries = rod_entries;
  same = same_rod;
  IsSmall = IsRodSmall;
}

-- the motion with its translation from 0 to below the cell edge
abbrev pub rod_home : RodMotion → RodMotion
rod_home m = record m { t = reduced_parts m.t }

abbrev pub rod_type_of : RodType → LineType RodOperation
rod_type_of t = record { number = t.number; symbol = t.symbol.now; ops = map rod_of t.ops.now }

-- the rod type of the number n
abbrev pub IsRodType : ℕ → RodType → Type 0
IsRodType n t = IsLineType rod_line (rod_row n) n (rod_type_of t)
