-- The finite tests that tell whether a change carries a section onto a type.
use Rattle.std.specs.Prelude.{◌≡◌, ◌⊎◌, ℕ, ℤ, pos, ◌+ℤ◌, ◌-ℤ◌, ◌*ℤ◌, ◌<◌, List, length, All, Any, Bool, true, false, IsTrue, slice_index_or}
use Rattle.symmetry.specs.HeightMotions.{IsSign}
use Rattle.motions.specs.declared.layer.LayerMotion.{LayerMotion}
use Rattle.motions.specs.PlaneMatrices.{Matrix2, determinant2, product2}
use Rattle.motions.specs.PlaneViews.{matrix2_of, pair_of}
use Rattle.layer_types.specs.declared.layer_type.LayerType.{LayerType}
use Rattle.recognition.specs.Grid.{grid}
use Rattle.motions.specs.Rationals.{InSection, IsListed, IsMultiple, IsWhole, RationalPair, rational_minus}
use Rattle.recognition.specs.Changes.{CarriesSet}
use Rattle.recognition.specs.Order.{origin_at}
use Rattle.recognition.specs.Sections.{IsSection, IsSmallMotion}

-- ---- lattices

-- (1/2, 1/2)
abbrev pub half : RationalPair
half = record { x = pos 1; y = pos 1; over = pos 2 }

-- a vector of a type's lattice, by the centring alone
abbrev pub IsInLattice : Bool → RationalPair → Type 0
IsInLattice centred u = IsWhole u ⊎ (IsTrue centred × IsWhole (rational_minus u half))

-- for a centred type: P (1/2, 1/2) is (a, b), and with the second column it has the determinant 1 or -1
pub record TakesCentred (p : Matrix2) : Type 0 where
  pub a : ℤ
  pub b : ℤ
  pub first : p.first.x +ℤ p.first.y ≡ pos 2 *ℤ a
  pub second : p.second.x +ℤ p.second.y ≡ pos 2 *ℤ b
  pub unit : IsSign (a *ℤ p.second.y -ℤ p.first.y *ℤ b)

-- P takes the type's lattice onto the whole vectors
abbrev pub TakesLattice : Bool → Matrix2 → Type 0
TakesLattice true p = TakesCentred p
TakesLattice false p = IsSign (determinant2 p)

-- ---- listed motions

-- the sign, and the matrix: A P = P A'
pub record IsLike (p : Matrix2) (m n : LayerMotion) : Type 0 where
  pub side : m.e ≡ n.e
  pub matrix : product2 (matrix2_of m.a) p ≡ product2 p (matrix2_of n.a)

-- in parts of the grid of origins: t - P t' - (o - A o)
abbrev pub first_rest : Matrix2 → ℕ → ℕ → LayerMotion → LayerMotion → ℤ
first_rest p x y m n =
    pos 6 *ℤ ((pair_of m.t).x -ℤ (p.first.x *ℤ (pair_of n.t).x +ℤ p.first.y *ℤ (pair_of n.t).y))
    -ℤ (pos x -ℤ ((matrix2_of m.a).first.x *ℤ pos x +ℤ (matrix2_of m.a).first.y *ℤ pos y))

abbrev pub second_rest : Matrix2 → ℕ → ℕ → LayerMotion → LayerMotion → ℤ
second_rest p x y m n =
    pos 6 *ℤ ((pair_of m.t).y -ℤ (p.second.x *ℤ (pair_of n.t).x +ℤ p.second.y *ℤ (pair_of n.t).y))
    -ℤ (pos y -ℤ ((matrix2_of m.a).second.x *ℤ pos x +ℤ (matrix2_of m.a).second.y *ℤ pos y))

-- the translations agree up to a whole vector
pub record IsClose (p : Matrix2) (x y : ℕ) (m n : LayerMotion) : Type 0 where
  pub first : IsMultiple (pos grid) (first_rest p x y m n)
  pub second : IsMultiple (pos grid) (second_rest p x y m n)

-- the listed motions are one, after the change
pub record IsPaired (p : Matrix2) (x y : ℕ) (m n : LayerMotion) : Type 0 where
  pub like : IsLike p m n
  pub close : IsClose p x y m n

-- each listed motion of the section has one of the type, and each of the type has one of the section
pub record Fits (section : List LayerMotion) (t : LayerType) (p : Matrix2) (x y : ℕ) : Type 0 where
  pub lattice : TakesLattice t.centred p
  pub forth : All (λ m. Any (λ n. IsPaired p x y m n) t.ops.now) section
  pub back : All (λ n. Any (λ m. IsPaired p x y m n) section) t.ops.now

-- the matrix agrees with the section and the type: the lattice, and the motions without their translations
pub record Agrees (section : List LayerMotion) (t : LayerType) (p : Matrix2) : Type 0 where
  pub lattice : TakesLattice t.centred p
  pub forth : All (λ m. Any (λ n. IsLike p m n) t.ops.now) section
  pub back : All (λ n. Any (λ m. IsLike p m n) section) t.ops.now

-- the change carries the section onto the listed operations of the type, and its lattice
abbrev pub CarriesListed : List LayerMotion → LayerType → Matrix2 → ℕ → ℕ → Type 0
CarriesListed section t p x y =
    CarriesSet (InSection section) (IsInLattice t.centred) (IsListed (IsInLattice t.centred) t.ops.now) p (origin_at x y)

-- ---- types

-- no two have one matrix and one sign
abbrev pub AreDistinct : List LayerMotion → Type 0
AreDistinct ops =
    (i j : ℕ) (d e : LayerMotion) → i < length ops → j < length ops → (slice_index_or ops i d).e ≡ (slice_index_or ops j e).e
    → matrix2_of (slice_index_or ops i d).a ≡ matrix2_of (slice_index_or ops j e).a → i ≡ j

-- A' takes (1/2, 1/2) to a vector of the centred lattice
abbrev pub KeepsCentring : Matrix2 → Type 0
KeepsCentring a = IsMultiple (pos 2) (a.first.x +ℤ a.first.y -ℤ (a.second.x +ℤ a.second.y))

-- each operation of the type keeps the type's lattice
abbrev pub KeepsLattice : LayerType → Type 0
KeepsLattice t = IsTrue t.centred → All (λ n. KeepsCentring (matrix2_of n.a)) t.ops.now

-- what the tests use of a section and a type
pub record IsReady (section : List LayerMotion) (t : LayerType) : Type 0 where
  pub motions : IsSection section
  pub ops : All IsSmallMotion t.ops.now
  pub keeps : KeepsLattice t
  pub distinct : AreDistinct t.ops.now
