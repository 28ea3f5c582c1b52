-- Types and matrices that agree with a section but for the translations, and how many steps they allow.
use Rattle.std.specs.Prelude.{◌≡◌, ◌↔◌, ◌⊎◌, ℕ, ◌+◌, ◌*◌, ◌≤◌, ◌<◌, List, All, AllPairs, length, unsigned_abs}
use Rattle.fractions.specs.declared.part.TheConstants.{UNIT}
use Rattle.motions.specs.declared.motion.Sign.{Sign}
use Rattle.motions.specs.declared.layer.LayerMotion.{LayerMotion}
use Rattle.motions.specs.PlaneMatrices.{Matrix2, product2}
use Rattle.motions.specs.Rationals.{InSection, IsRationalPair, RationalMotion}
use Rattle.recognition.specs.Changes.{IsLatticeVector, IsOperation, TakesOnto}
use Rattle.recognition.specs.Order.{IsBoundedMatrix, IsMatrixBefore, IsTypeNumber}

-- the set has a motion with this matrix and this sign
abbrev pub HasBlock : (RationalMotion → Type 0) → Matrix2 → Sign → Type 0
HasBlock Has a e = (op : RationalMotion) × IsRationalPair op.translation × Has op × (op.matrix ≡ a) × (op.side ≡ e)

-- the matrix P takes the lattice of the type n onto the whole vectors, and for every A and every sign e the section has a
-- motion with A and e exactly if the type has an operation (A', e, t') with A P = P A'
pub record AgreesWith (section : List LayerMotion) (n : ℕ) (p : Matrix2) : Type 0 where
  pub lattice : TakesOnto (IsLatticeVector n) p
  pub blocks : (a : Matrix2) (e : Sign)
      → HasBlock (InSection section) a e ↔ ((a' : Matrix2) × HasBlock (IsOperation n) a' e × (product2 a p ≡ product2 p a'))

-- the number of a type, and a matrix
pub record Pairing : Type 0 where
  pub number : ℕ
  pub matrix : Matrix2

-- an agreeing pair of the section
pub record IsAgreeing (section : List LayerMotion) (a : Pairing) : Type 0 where
  pub number : IsTypeNumber a.number
  pub bounded : IsBoundedMatrix a.matrix
  pub agrees : AgreesWith section a.number a.matrix

-- a stands before b in the order of changes
abbrev pub IsPairingBefore : Pairing → Pairing → Type 0
IsPairingBefore a b = (a.number < b.number) ⊎ ((a.number ≡ b.number) × IsMatrixBefore a.matrix b.matrix)

-- how many origins are judged for one agreeing pair at most
abbrev pub steps_of_pair : ℕ
steps_of_pair = 48 * unsigned_abs UNIT

-- the count rose by at most so many steps for each of some pairs that count, no two of them equal
pub record IsWithinSteps (IsCounted : Pairing → Type 0) (old new : ℕ) : Type 0 where
  pub pairs : List Pairing
  pub counted : All IsCounted pairs
  pub once : AllPairs (λ a b. ¬ (a ≡ b)) pairs
  pub bound : new ≤ old + steps_of_pair * length pairs
