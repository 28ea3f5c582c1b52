-- Lists of motions that are sections.
use Rattle.std.specs.Prelude.{List, All, AllPairs}
use Rattle.motions.specs.declared.layer.LayerMotion.{LayerMotion}
use Rattle.motions.specs.Layers.{IsPlanarSmall, planar_of}
use Rattle.motions.specs.Rationals.{DifferByWhole}

-- a small motion
abbrev pub IsSmallMotion : LayerMotion → Type 0
IsSmallMotion m = IsPlanarSmall (planar_of m)

-- small motions, each once modulo whole vectors. That they are a group is not needed
pub record IsSection (section : List LayerMotion) : Type 0 where
  pub small : All IsSmallMotion section
  pub once : AllPairs (λ m n. ¬ DifferByWhole m n) section
