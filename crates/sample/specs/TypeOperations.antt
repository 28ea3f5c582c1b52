-- The operations of layer types, one by one.
use Rattle.motions.specs.Layers.{HasHalfPart, PlanarMotion}
use Rattle.motions.specs.PlaneSizes.{IsMatrix2Within}
use Rattle.layer_types.specs.Lattices.{IsReduced}

-- the matrix has entries at most 1 in size, and the translation is whole parts from 0 to below an edge
pub record IsTypeOperation (m : PlanarMotion) : Type 0 where
  pub entries : IsMatrix2Within 1 m.matrix
  pub reduced : IsReduced m.translation
  pub parts : ¬ HasHalfPart m
