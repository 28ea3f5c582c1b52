-- Motions modulo shifts, for any kind of motion.
use Rattle.std.specs.Prelude.{◌≡◌}

-- a kind of motion: the product, first the left one and then the right one; the identity; which motions are shifts
pub record Kind : Type 1 where
  pub Motion : Type 0
  pub then : Motion → Motion → Motion
  pub one : Motion
  pub IsShift : Motion → Type 0

-- the kind of the motions that values of M stand for, where the shifts are those that some shift of M stands for
abbrev pub kind_of : {M Meaning : Type 0} → (M → Meaning) → (Meaning → Meaning → Meaning) → Meaning → (M → Type 0) → Kind
kind_of {M} {Meaning} meaning product one IsShift = record {
  Motion = Meaning;
  then = product;
  one = one;
  IsShift = λ x. (s : M) × IsShift s × (meaning s ≡ x);
}

-- the product is associative, and the identity is a unit on both sides
pub record IsMonoid {Meaning : Type 0} (product : Meaning → Meaning → Meaning) (one : Meaning) : Type 0 where
  pub assoc : (a b c : Meaning) → product (product a b) c ≡ product a (product b c)
  pub one_left : (a : Meaning) → product one a ≡ a
  pub one_right : (a : Meaning) → product a one ≡ a

-- n undoes m on both sides
pub record IsInverse (K : Kind) (m n : K.Motion) : Type 0 where
  pub after : K.then m n ≡ K.one
  pub before : K.then n m ≡ K.one

-- the shifts are a group
pub record AreShiftsGroup (K : Kind) : Type 0 where
  pub identity : K.IsShift K.one
  pub products : (s t : K.Motion) → K.IsShift s → K.IsShift t → K.IsShift (K.then s t)
  pub inverses : (s : K.Motion) → K.IsShift s → (t : K.Motion) × K.IsShift t × IsInverse K s t

-- m is n followed by a shift
pub record IsSame (K : Kind) (m n : K.Motion) : Type 0 where
  pub shift : K.Motion
  pub is_shift : K.IsShift shift
  pub is : m ≡ K.then n shift

-- m carries shifts into shifts: first a shift and then m is first m and then some shift
abbrev pub Keeps : (K : Kind) → K.Motion → Type 0
Keeps K m = (t : K.Motion) → K.IsShift t → (t' : K.Motion) × K.IsShift t' × (K.then t m ≡ K.then m t')

-- a relation that is an equivalence
pub record IsEquivalence {A : Type 0} (Same : A → A → Type 0) : Type 0 where
  pub reflexive : (a : A) → Same a a
  pub symmetric : (a b : A) → Same a b → Same b a
  pub transitive : (a b c : A) → Same a b → Same b c → Same a c
