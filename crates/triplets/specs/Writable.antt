-- The motions that the grammar can say, and what it is to be the text of one motion alone.
use Rattle.std.specs.Prelude.{◌≡◌, ℕ, List}
use Rattle.integers.specs.Size.{IsWithin}
use Rattle.fractions.specs.declared.part.TheConstants.{UNIT}
use Rattle.fractions.specs.LowestTerms.{lowest_terms}
use Rattle.symmetry.specs.Motions.{Motion}
use Rattle.symmetry.specs.Sizes.{IsMatrixWithin}
use Rattle.triplets.specs.Grammar.{IsTriplet}

-- matrix entries at most 9 in size, and translations with a numerator of at most 999 in size in lowest terms
pub record IsWritable (m : Motion) : Type 0 where
  pub matrix : IsMatrixWithin 9 m.matrix
  pub x : IsWithin 999 (lowest_terms m.translation.x UNIT).num
  pub y : IsWithin 999 (lowest_terms m.translation.y UNIT).num
  pub z : IsWithin 999 (lowest_terms m.translation.z UNIT).num

-- the bytes are a triplet with this value, and with no other value
pub record IsTripletOf (bytes : List ℕ) (m : Motion) : Type 0 where
  pub is : IsTriplet bytes m
  pub only : (n : Motion) → IsTriplet bytes n → n ≡ m
