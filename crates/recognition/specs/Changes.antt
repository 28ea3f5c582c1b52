-- Changes of basis and origin that carry a section onto a layer type.
use Rattle.std.specs.Prelude.{◌≡◌, ◌↔◌, ℕ, ◌+ℤ◌, ◌-ℤ◌, ◌*ℤ◌, List}
use Rattle.quotient.specs.Closure.{IsProduct}
use Rattle.motions.specs.declared.layer.LayerMotion.{LayerMotion}
use Rattle.motions.specs.PlaneMatrices.{Matrix2, Pair, product2}
use Rattle.motions.specs.Layers.{PlanarMotion}
use Rattle.motions.specs.Rationals.{InSection, IsRationalPair, IsWhole, RationalMotion, RationalPair, SameRationals, in_edges, rational_minus}
use Rattle.layer_types.specs.Lattices.{InLattice, layer_kind}
use Rattle.layer_types.specs.Rows.{layer_row}

-- a matrix times two rationals
abbrev pub rational_image : Matrix2 → RationalPair → RationalPair
rational_image m v = record {
  x = m.first.x *ℤ v.x +ℤ m.first.y *ℤ v.y;
  y = m.second.x *ℤ v.x +ℤ m.second.y *ℤ v.y;
  over = v.over;
}

-- o - A o
abbrev pub moved_by : Matrix2 → RationalPair → RationalPair
moved_by m o = record { x = o.x -ℤ (rational_image m o).x; y = o.y -ℤ (rational_image m o).y; over = o.over }

-- ---- a layer type

-- an operation of the layer type n: a product of its generators, their inverses and the translations of its lattice
pub record IsOperation (n : ℕ) (op : RationalMotion) : Type 0 where
  pub motion : PlanarMotion
  pub product : IsProduct (layer_kind (layer_row n).centred) (layer_row n).generators motion
  pub matrix : op.matrix ≡ motion.matrix
  pub side : op.side ≡ motion.side
  pub translation : SameRationals op.translation (in_edges motion.translation)

-- a vector of its lattice
pub record IsLatticeVector (n : ℕ) (u : RationalPair) : Type 0 where
  pub vector : Pair
  pub inside : InLattice (layer_row n).centred vector
  pub is : SameRationals u (in_edges vector)

-- ---- a change

-- by the change with the matrix P and the origin o, (A, e, t) is (A', e', t'): e = e', A P = P A', and t - P t' - (o - A o) is
-- whole
pub record IsCarried (p : Matrix2) (o : RationalPair) (op like : RationalMotion) : Type 0 where
  pub side : op.side ≡ like.side
  pub matrix : product2 op.matrix p ≡ product2 p like.matrix
  pub translation : IsWhole (rational_minus (rational_minus op.translation (rational_image p like.translation)) (moved_by op.matrix o))

-- the matrix takes the set of vectors onto the whole vectors
pub record TakesOnto (IsVector : RationalPair → Type 0) (p : Matrix2) : Type 0 where
  pub whole : (u : RationalPair) → IsRationalPair u → IsVector u → IsWhole (rational_image p u)
  pub every : (v : RationalPair) → IsRationalPair v → IsWhole v
      → (u : RationalPair) × IsRationalPair u × IsVector u × SameRationals v (rational_image p u)

-- the change carries the one set of motions onto the other, which has these vectors: the matrix takes the vectors onto the
-- whole ones, and each motion is in the one set exactly if it is, by the change, some motion of the other
pub record CarriesSet (Has : RationalMotion → Type 0) (IsVector : RationalPair → Type 0) (HasOther : RationalMotion → Type 0) (p : Matrix2) (o : RationalPair) : Type 0 where
  pub lattice : TakesOnto IsVector p
  pub operations : (op : RationalMotion) → IsRationalPair op.translation
      → Has op ↔ ((like : RationalMotion) × IsRationalPair like.translation × HasOther like × IsCarried p o op like)

-- the change with the matrix P and the origin o carries the section onto the layer type n
abbrev pub Carries : List LayerMotion → ℕ → Matrix2 → RationalPair → Type 0
Carries section n p o = CarriesSet (InSection section) (IsLatticeVector n) (IsOperation n) p o
