-- The groups of the sample, and their frames.
use Rattle.std.specs.Prelude.{ℕ, ℤ, pos, neg_ℤ, ◌+◌, ◌%◌, ◌-ℤ◌, Bool, cond, List, [], ◌∷◌, map}
use Rattle.fractions.specs.declared.part.TheConstants.{UNIT}
use Rattle.fractions.specs.Parts.{half_an_edge}
use Rattle.symmetry.specs.Vectors.{Vector}
use Rattle.symmetry.specs.Groups.{Listing}
use Rattle.symmetry.specs.Frames.{Basis}
use Rattle.layer_types.specs.declared.layer_type.LayerType.{LayerType}
use Rattle.report.specs.TypeTexts.{block_of_layer}
use Rattle.sample.specs.Shears.{sheared}

-- the number of the layer type that the group i is made from
abbrev pub type_number : ℕ → ℕ
type_number i = i % 80 + 1

-- the number j of the change of x to x + j z
abbrev pub shear_number : ℕ → ℤ
shear_number i = pos (i % 5) -ℤ pos 2

-- the centring vector (1/2,1/2,0)
abbrev pub centring : Vector
centring = record { x = half_an_edge; y = half_an_edge; z = pos 0 }

-- those of a layer type, centred or not
abbrev pub centrings : Bool → List Vector
centrings centred = cond centred (centring ∷ []) []

-- the space group of a layer type, its operations in the block form and the edge 0,0,1 one more translation, in the
-- coordinates x + j z, y, z, which leave the centring vector as it is
abbrev pub sheared_group : ℤ → LayerType → Listing
sheared_group j t = record { ops = map (λ m. sheared j (block_of_layer m)) t.ops.now; centrings = centrings t.centred }

-- the row (0 0 1)
abbrev pub upright : Vector
upright = record { x = pos 0; y = pos 0; z = pos 1 }

-- a and b: 1,0,0 and 0,1,0, or for a centred type 1/2,1/2,0 and -1/2,1/2,0; tau: 0,0,1
abbrev pub sample_frame : Bool → Basis
sample_frame centred = record {
  a = cond centred centring (record { x = UNIT; y = pos 0; z = pos 0 });
  b = cond centred (record { x = neg_ℤ half_an_edge; y = half_an_edge; z = pos 0 }) (record { x = pos 0; y = UNIT; z = pos 0 });
  tau = record { x = pos 0; y = pos 0; z = UNIT };
}
