-- The generators that the tables of types write, as texts of the grammar.
use Rattle.std.specs.Prelude.{ℕ, List}
use Rattle.symmetry.specs.Motions.{Motion}
use Rattle.motions.specs.Layers.{IsBlockForm}
use Rattle.motions.specs.RodMotions.{rod_block}
use Rattle.motions.specs.FriezeMotions.{frieze_block}
use Rattle.motions.specs.WrittenMotions.{frieze_written, planar_written, rod_written}
use Rattle.triplets.specs.declared.notation.Notation.TheVariants.{Pairs}
use Rattle.triplets.specs.Grammar.{IsOperation, IsTriplet}

-- a triplet whose value is the block form of the motion of a layer that the table takes it for
pub record IsLayerGenerator (text : List ℕ) : Type 0 where
  pub value : Motion
  pub is_triplet : IsTriplet text value
  pub is_block : IsBlockForm (planar_written text) value

-- a triplet whose value is the block form of the motion of a rod that the table takes it for
abbrev pub IsRodGenerator : List ℕ → Type 0
IsRodGenerator text = IsTriplet text (rod_block (rod_written text))

-- a pair whose value is the motion of space that the table takes it for
abbrev pub IsFriezeGenerator : List ℕ → Type 0
IsFriezeGenerator text = IsOperation Pairs text (frieze_block (frieze_written text))
