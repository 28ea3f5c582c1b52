-- How large what a group text lists is.
use Rattle.std.specs.Prelude.{ℕ, ◌^◌}
use Rattle.std.specs.List.{All}
use Rattle.motions.specs.declared.listed.Listed.{Listed}
use Rattle.symmetry.specs.Motions.{Motion}
use Rattle.symmetry.specs.Sizes.{IsVectorWithin, IsMatrixWithin, IsSmall}
use Rattle.motions.specs.Views.{motion_of, parts}

-- a small motion whose matrix entries are at most the bound in size
pub record IsSmallWithin (bound : ℕ) (m : Motion) : Type 0 where
  pub small : IsSmall m
  pub matrix : IsMatrixWithin bound m.matrix

-- each operation is so, and each centring vector has entries of at most 2^40 parts
pub record IsListedSmall (bound : ℕ) (l : Listed) : Type 0 where
  pub ops : All (λ m. IsSmallWithin bound (motion_of m)) l.ops.items
  pub centrings : All (λ v. IsVectorWithin (2 ^ 40) (parts v)) l.centrings.items
