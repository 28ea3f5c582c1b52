-- The lattice of a layer type, the motions modulo it, and the motion at home.
use Rattle.std.specs.Prelude.{◌≡◌, ℤ, pos, ◌+ℤ◌, ◌-ℤ◌, ◌*ℤ◌, ◌≤ℤ◌, ◌<ℤ◌, ◌⊎◌, IsTrue, Bool, cond, ◌&&◌, ◌||◌, not, int_lt, List, [], ◌∷◌}
use Rattle.std.specs.Ordering.{int_eq}
use Rattle.fractions.specs.declared.part.TheConstants.{UNIT}
use Rattle.fractions.specs.Parts.{edge, rest_of_edge}
use Rattle.quotient.specs.Kind.{Kind, kind_of}
use Rattle.motions.specs.declared.motion.Sign.TheVariants.{Plus}
use Rattle.motions.specs.declared.layer.LayerMotion.{LayerMotion}
use Rattle.motions.specs.PlaneMatrices.{Matrix2, Pair, image2, minus2, unit2}
use Rattle.motions.specs.Layers.{planar_followed_by, planar_identity, planar_of}

-- half a cell edge, in half parts
abbrev pub half_edge : ℤ
half_edge = UNIT

-- the centring vector (1/2, 1/2)
abbrev pub centring : Pair
centring = record { x = half_edge; y = half_edge }

-- a and b edges along the two axes
pub record IsWholeVector (v : Pair) : Type 0 where
  pub a : ℤ
  pub b : ℤ
  pub x : v.x ≡ edge *ℤ a
  pub y : v.y ≡ edge *ℤ b

-- the whole vectors, and for a centred type those with the centring vector added besides
abbrev pub InLattice : Bool → Pair → Type 0
InLattice centred v = IsWholeVector v ⊎ (IsTrue centred × IsWholeVector (minus2 v centring))

-- the translation by a vector of the lattice
pub record IsLayerShift (centred : Bool) (m : LayerMotion) : Type 0 where
  pub matrix : (planar_of m).matrix ≡ unit2
  pub side : (planar_of m).side ≡ Plus
  pub translation : InLattice centred (planar_of m).translation

-- motions of a layer modulo the lattice
abbrev pub layer_kind : Bool → Kind
layer_kind centred = kind_of planar_of planar_followed_by planar_identity (IsLayerShift centred)

-- each entry is from 0 to below an edge
pub record IsReduced (v : Pair) : Type 0 where
  pub x_least : pos 0 ≤ℤ v.x
  pub x_below : v.x <ℤ edge
  pub y_least : pos 0 ≤ℤ v.y
  pub y_below : v.y <ℤ edge

-- v is w, or comes before it in lexicographic order
abbrev pub IsLexAtMost : Pair → Pair → Type 0
IsLexAtMost v w = (v.x <ℤ w.x) ⊎ ((v.x ≡ w.x) × (v.y ≤ℤ w.y))

-- of the vectors with entries from 0 to below an edge that differ from v by a vector of the lattice, h is the first
pub record IsHome (centred : Bool) (v h : Pair) : Type 0 where
  pub same : InLattice centred (minus2 h v)
  pub reduced : IsReduced h
  pub first : (u : Pair) → IsReduced u → InLattice centred (minus2 u v) → IsLexAtMost h u

-- ---- what the code computes

-- whether no centring takes half an edge off the first entry of a vector
abbrev pub is_near : Bool → ℤ → Bool
is_near centred x = not centred || int_lt (rest_of_edge x) half_edge

abbrev pub home_vector : Bool → Pair → Pair
home_vector centred v =
    cond (is_near centred v.x)
    (record { x = rest_of_edge v.x; y = rest_of_edge v.y })
    (record { x = rest_of_edge v.x -ℤ half_edge; y = rest_of_edge (v.y +ℤ half_edge) })

abbrev pub array_of : Pair → List ℤ
array_of v = v.x ∷ v.y ∷ []

-- the motion at home that is the same as m
abbrev pub layer_home : Bool → LayerMotion → LayerMotion
layer_home centred m = record { a = m.a; e = m.e; t = array_of (home_vector centred (planar_of m).translation) }

-- whether both entries leave this rest of an edge
abbrev pub leaves : ℤ → Pair → Bool
leaves rest v = int_eq (rest_of_edge v.x) rest && int_eq (rest_of_edge v.y) rest

-- whether a vector is in the lattice
abbrev pub in_lattice : Bool → Pair → Bool
in_lattice centred v = leaves (pos 0) v || (centred && leaves half_edge v)

-- whether a matrix takes the lattice into the lattice
abbrev pub keeps_lattice : Bool → Matrix2 → Bool
keeps_lattice centred m = not centred || in_lattice centred (image2 m centring)
