-- What is listed of a layer type, operation by operation.
use Rattle.std.proofs.Common.{◌≡◌, ℕ, ◌+◌, ◌<◌, ℤ, List, [], ◌∷◌, ◌++◌, get_or, length, map, take, sym, ap, ◌∙◌}
use Rattle.std.specs.Prelude.{All}
use Rattle.std.proofs.lemmas.List.{map-append, map_more}
use Rattle.std.proofs.lemmas.List.Elements.{All-contains, Contains-get_or}
use Rattle.quotient.proofs.ListLaws.{Contains-map}
use Rattle.motions.specs.declared.layer.LayerMotion.{LayerMotion}
use Rattle.motions.specs.declared.motion.Motion3.{Motion3}
use Rattle.motions.specs.Layers.{HasHalfPart, planar_of}
use Rattle.motions.specs.PlaneSizes.{IsMatrix2Within}
use Rattle.motions.specs.Views.{motion_of}
use Rattle.layer_types.specs.declared.layer_type.LayerType.{LayerType}
use Rattle.layer_types.specs.Lattices.{IsReduced}
use Rattle.layer_types.specs.LayerTypes.{IsLayerType}
use Rattle.report.specs.TypeTexts.{block_of_layer}
use Rattle.sample.specs.Shears.{sheared}
use Rattle.sample.specs.TypeOperations.{IsTypeOperation}

pub type_operations : (n : ℕ) (t : LayerType) → IsLayerType n t → All (λ m. IsTypeOperation (planar_of m)) t.ops.now
type_operations n t h k d within =
    let ms = map planar_of t.ops.now in
    let m = get_or t.ops.now k d in
    let is = Contains-map planar_of t.ops.now m (Contains-get_or t.ops.now k d within) in
    record {
      entries = All-contains (λ p. IsMatrix2Within 1 p.matrix) ms (planar_of m) h.entries is;
      reduced = All-contains (λ p. IsReduced p.translation) ms (planar_of m) h.reduced is;
      parts = All-contains (λ p. ¬ HasHalfPart p) ms (planar_of m) h.parts is;
    }

-- one operation more
pub one_more : (j j' : ℤ) → j' ≡ j → (motions more : List Motion3) (op : Motion3) (ops : List LayerMotion) (i : ℕ) (d : LayerMotion) → i < length ops
    → map motion_of motions ≡ map (λ m. sheared j (block_of_layer m)) (take i ops) → more ≡ motions ++ op ∷ []
    → motion_of op ≡ sheared j' (block_of_layer (get_or ops i d))
    → map motion_of more ≡ map (λ m. sheared j (block_of_layer m)) (take (i + 1) ops)
one_more j j' same motions more op ops i d within so_far pushed is =
    ap (map motion_of) pushed ∙ map-append motion_of motions (op ∷ [])
    ∙ (λ k. so_far k ++ (is ∙ ap (λ x. sheared x (block_of_layer (get_or ops i d))) same) k ∷ [])
    ∙ sym (map_more (λ m. sheared j (block_of_layer m)) ops i d within)
