-- How the types are written.
use Rattle.std.specs.Prelude.{◌≡◌, ℕ, pos, Bool, true, false, int_div, List, [], ◌++◌, codes, decimal, flat_map, map}
use Rattle.symmetry.specs.Motions.{Motion}
use Rattle.motions.specs.declared.layer.LayerMotion.{LayerMotion}
use Rattle.motions.specs.declared.rod.RodMotion.{RodMotion}
use Rattle.motions.specs.FriezeMotions.{FriezeOperation, frieze_of}
use Rattle.motions.specs.Layers.{block_matrix, planar_of}
use Rattle.motions.specs.RodMotions.{rod_block, rod_of}
use Rattle.triplets.specs.Writing.{frieze_text}
use Rattle.layer_types.specs.declared.layer_type.LayerType.{LayerType}
use Rattle.layer_types.specs.LayerTypes.{IsLayerType}
use Rattle.line_types.specs.declared.friezes.FriezeType.{FriezeType}
use Rattle.line_types.specs.declared.rods.RodType.{RodType}
use Rattle.line_types.specs.Friezes.{IsFriezeType}
use Rattle.line_types.specs.Rods.{IsRodType}
use Rattle.report.specs.Texts.{operation_line}
use Rattle.report.specs.declared.types.Kind.{Kind}
use Rattle.report.specs.declared.types.Kind.TheVariants.{Layer, Rod, Frieze}

-- the number and the symbol of a type
abbrev pub type_line : List ℕ → ℕ → List ℕ → List ℕ
type_line kind number symbol = kind ++ codes " " ++ decimal number ++ codes " " ++ symbol ++ codes "\n"

-- the line of the centring vector, at a type that is centred
abbrev pub centring_line : Bool → List ℕ
centring_line true = codes "centring 1/2,1/2,0\n"
centring_line false = []

-- the block form of a motion of a layer, whose translation is counted in half parts: two of these are a part
abbrev pub block_of_layer : LayerMotion → Motion
block_of_layer m = record {
  matrix = block_matrix (planar_of m);
  translation = record { x = int_div (planar_of m).translation.x (pos 2); y = int_div (planar_of m).translation.y (pos 2); z = pos 0 };
}

-- the block form of a motion of a rod
abbrev pub block_of_rod : RodMotion → Motion
block_of_rod m = rod_block (rod_of m)

-- the line of an operation of a frieze type
abbrev pub frieze_line : FriezeOperation → List ℕ
frieze_line m = codes "op " ++ frieze_text m ++ codes "\n"

-- a layer type: its number and symbol, its centring, its operations in the block form, and the end
abbrev pub layer_type_text : LayerType → List ℕ
layer_type_text t =
    type_line (codes "layer") t.number t.symbol.now ++ centring_line t.centred ++
    flat_map operation_line (map block_of_layer t.ops.now) ++ codes "end\n"

-- a rod type: its number and symbol, its operations in the block form along z, and the end
abbrev pub rod_type_text : RodType → List ℕ
rod_type_text t =
    type_line (codes "rod") t.number t.symbol.now ++ flat_map operation_line (map block_of_rod t.ops.now) ++ codes "end\n"

-- a frieze type: its number and symbol, its operations, and the end
abbrev pub frieze_type_text : FriezeType → List ℕ
frieze_type_text t =
    type_line (codes "frieze") t.number t.symbol.now ++ flat_map frieze_line (map frieze_of t.ops.now) ++ codes "end\n"

-- the text of the type of this kind and number
abbrev pub IsTypeText : Kind → ℕ → List ℕ → Type 0
IsTypeText Layer n text = (t : LayerType) × IsLayerType n t × (text ≡ layer_type_text t)
IsTypeText Rod n text = (t : RodType) × IsRodType n t × (text ≡ rod_type_text t)
IsTypeText Frieze n text = (t : FriezeType) × IsFriezeType n t × (text ≡ frieze_type_text t)
