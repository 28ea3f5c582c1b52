-- What the layer type of a number is.
use Rattle.std.specs.Prelude.{◌≡◌, ℕ, ℤ, ◌≤◌, Bool, List, [], ◌∷◌, All, AllPairs, length, map}
use Rattle.quotient.specs.Kind.{Keeps}
use Rattle.quotient.specs.Closure.{IsClosure}
use Rattle.quotient.specs.Order.{Form, IsInOrder}
use Rattle.motions.specs.Layers.{HasHalfPart, IsPlanarSmall, PlanarMotion, block_matrix, planar_of}
use Rattle.motions.specs.PlaneSizes.{IsMatrix2Within}
use Rattle.layer_types.specs.declared.layer_type.LayerType.{LayerType}
use Rattle.layer_types.specs.Lattices.{IsHome, IsReduced, layer_kind}
use Rattle.layer_types.specs.Rows.{layer_row}

-- the nine entries of the block form's matrix, row by row
abbrev pub block_entries : PlanarMotion → List ℤ
block_entries m =
    let block = block_matrix m in
    block.first.x ∷ block.first.y ∷ block.first.z ∷ block.second.x ∷ block.second.y ∷ block.second.z
    ∷ block.third.x ∷ block.third.y ∷ block.third.z ∷ []

-- how a type lists its operations: the greatest matrix first, and each translation at home
abbrev pub layer_form : (centred : Bool) → Form (layer_kind centred)
layer_form centred = record { entries = block_entries; IsHome = λ m. IsHome centred m.translation m.translation }

-- two motions have one matrix and one sign
abbrev pub HaveOneBlock : PlanarMotion → PlanarMotion → Type 0
HaveOneBlock m n = (m.matrix ≡ n.matrix) × (m.side ≡ n.side)

-- the fields are those of the row of n; the operations with the lattice are the closure of the row's generators, each once
-- and in order. Beside that, each operation is small, has matrix entries at most 1 in size and a translation of whole parts
-- from 0 to below an edge, and carries the lattice into itself; no two have one matrix and one sign; there are at most 24
pub record IsLayerType (n : ℕ) (t : LayerType) : Type 0 where
  pub number : t.number ≡ n
  pub symbol : t.symbol.now ≡ (layer_row n).symbol
  pub centred : t.centred ≡ (layer_row n).centred
  pub closure : IsClosure (layer_kind (layer_row n).centred) (layer_row n).generators (map planar_of t.ops.now)
  pub order : IsInOrder (layer_kind (layer_row n).centred) (layer_form (layer_row n).centred) (map planar_of t.ops.now)
  pub small : All IsPlanarSmall (map planar_of t.ops.now)
  pub entries : All (λ m. IsMatrix2Within 1 m.matrix) (map planar_of t.ops.now)
  pub reduced : All (λ m. IsReduced m.translation) (map planar_of t.ops.now)
  pub parts : All (λ m. ¬ HasHalfPart m) (map planar_of t.ops.now)
  pub keeps : All (Keeps (layer_kind (layer_row n).centred)) (map planar_of t.ops.now)
  pub apart : AllPairs (λ l m. ¬ HaveOneBlock l m) (map planar_of t.ops.now)
  pub count : length t.ops.now ≤ 24
