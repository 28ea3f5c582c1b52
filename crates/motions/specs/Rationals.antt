-- Pairs of rationals, and motions of a layer with rational translations.
use Rattle.std.specs.Prelude.{◌≡◌, ℤ, pos, ◌-ℤ◌, ◌*ℤ◌, ◌≤ℤ◌, List, Contains}
use Rattle.fractions.specs.declared.part.TheConstants.{UNIT}
use Rattle.motions.specs.declared.motion.Sign.{Sign}
use Rattle.motions.specs.declared.layer.LayerMotion.{LayerMotion}
use Rattle.motions.specs.PlaneMatrices.{Matrix2, Pair}
use Rattle.motions.specs.PlaneViews.{matrix2_of, pair_of}
use Rattle.motions.specs.Layers.{PlanarMotion}

-- two rationals: x and y over one number
pub record RationalPair : Type 0 where
  pub x : ℤ
  pub y : ℤ
  pub over : ℤ

-- the number below is at least 1
abbrev pub IsRationalPair : RationalPair → Type 0
IsRationalPair v = pos 1 ≤ℤ v.over

-- (A, e, t) with two rationals t, counted in cell edges
pub record RationalMotion : Type 0 where
  pub matrix : Matrix2
  pub side : Sign
  pub translation : RationalPair

-- the difference of two pairs
abbrev pub rational_minus : RationalPair → RationalPair → RationalPair
rational_minus v w = record {
  x = v.x *ℤ w.over -ℤ w.x *ℤ v.over;
  y = v.y *ℤ w.over -ℤ w.y *ℤ v.over;
  over = v.over *ℤ w.over;
}

-- z is n times a whole number
abbrev pub IsMultiple : ℤ → ℤ → Type 0
IsMultiple n z = (k : ℤ) × (z ≡ n *ℤ k)

-- both rationals are whole
pub record IsWhole (v : RationalPair) : Type 0 where
  pub x : IsMultiple v.over v.x
  pub y : IsMultiple v.over v.y

-- the two pairs are equal
pub record SameRationals (v w : RationalPair) : Type 0 where
  pub x : v.x *ℤ w.over ≡ w.x *ℤ v.over
  pub y : v.y *ℤ w.over ≡ w.y *ℤ v.over

-- a vector that is counted in half parts, in cell edges
abbrev pub in_edges : Pair → RationalPair
in_edges v = record { x = v.x; y = v.y; over = pos 2 *ℤ UNIT }

-- a motion whose translation is counted in half parts, in cell edges
abbrev pub rational_of : PlanarMotion → RationalMotion
rational_of m = record { matrix = m.matrix; side = m.side; translation = in_edges m.translation }

-- a motion is a listed one followed by the translation by a vector of a lattice
pub record IsListed (IsVector : RationalPair → Type 0) (list : List LayerMotion) (op : RationalMotion) : Type 0 where
  pub motion : LayerMotion
  pub listed : Contains list motion
  pub matrix : op.matrix ≡ matrix2_of motion.a
  pub side : op.side ≡ motion.e
  pub translation : IsVector (rational_minus op.translation (in_edges (pair_of motion.t)))

-- the section that a list stands for: the listed motions, and what differs from them by a whole vector
abbrev pub InSection : List LayerMotion → RationalMotion → Type 0
InSection section = IsListed IsWhole section

-- the motions differ by a translation by a whole vector
pub record DifferByWhole (m n : LayerMotion) : Type 0 where
  pub matrix : matrix2_of m.a ≡ matrix2_of n.a
  pub side : m.e ≡ n.e
  pub translation : IsWhole (rational_minus (in_edges (pair_of m.t)) (in_edges (pair_of n.t)))
