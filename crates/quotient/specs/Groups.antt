-- Lists of motions that are groups modulo shifts, and the first thing that is wrong with any other list.
use Rattle.std.specs.Prelude.{◌≡◌, ℕ, ◌-◌, ◌<◌, ◌≤◌, ◌⊎◌, List, length, slice_index_or, Contains}
use Rattle.quotient.specs.declared.check.GroupFault.{GroupFault}
use Rattle.quotient.specs.declared.check.GroupFault.TheVariants.{NoIdentity, ShiftMoved, NotClosed, NoInverse}
use Rattle.quotient.specs.Kind.{Kind, IsSame, Keeps}
use Rattle.quotient.specs.Lists.{IsListed}

-- m and then n, and n and then m, are the same as the identity
pub record AreInverse (K : Kind) (m n : K.Motion) : Type 0 where
  pub after : IsSame K (K.then m n) K.one
  pub before : IsSame K (K.then n m) K.one

-- some motion of the list is an inverse of m modulo shifts
pub record HasInverse (K : Kind) (list : List K.Motion) (m : K.Motion) : Type 0 where
  pub inverse : K.Motion
  pub listed : Contains list inverse
  pub undoes : AreInverse K m inverse

-- each motion of the list carries shifts into shifts
abbrev pub AllKeep : (K : Kind) → List K.Motion → Type 0
AllKeep K list = (m : K.Motion) → Contains list m → Keeps K m

-- each product of two motions of the list is the same as one of them
abbrev pub IsClosed : (K : Kind) → List K.Motion → Type 0
IsClosed K list = (m n : K.Motion) → Contains list m → Contains list n → IsListed K list (K.then m n)

-- each motion of the list has an inverse in it
abbrev pub AllHaveInverse : (K : Kind) → List K.Motion → Type 0
AllHaveInverse K list = (m : K.Motion) → Contains list m → HasInverse K list m

-- the list is a group modulo the shifts
pub record IsGroup (K : Kind) (list : List K.Motion) : Type 0 where
  pub identity : IsListed K list K.one
  pub keeps : AllKeep K list
  pub closed : IsClosed K list
  pub inverses : AllHaveInverse K list

-- the motion at a position of the list: positions count from 1
abbrev pub motion_at : (K : Kind) → List K.Motion → ℕ → K.Motion
motion_at K list i = slice_index_or list (i - 1) K.one

-- a position of the list
abbrev pub IsPosition : (K : Kind) → List K.Motion → ℕ → Type 0
IsPosition K list i = (1 ≤ i) × (i ≤ length list)

-- i is the first position of a motion without this property
pub record IsFirstWithout (K : Kind) (Has : K.Motion → Type 0) (list : List K.Motion) (i : ℕ) : Type 0 where
  pub position : IsPosition K list i
  pub lacks : ¬ Has (motion_at K list i)
  pub before : (k : ℕ) → IsPosition K list k → k < i → Has (motion_at K list k)

-- the product of the motions at two positions is the same as a listed one
abbrev pub HasProduct : (K : Kind) → List K.Motion → ℕ → ℕ → Type 0
HasProduct K list i j = IsListed K list (K.then (motion_at K list i) (motion_at K list j))

-- the pair of positions (k, l) comes before (i, j)
abbrev pub ComesBefore : ℕ → ℕ → ℕ → ℕ → Type 0
ComesBefore k l i j = (k < i) ⊎ ((k ≡ i) × (l < j))

-- (i, j) is the first pair of positions whose product is the same as no listed motion
pub record IsFirstOpen (K : Kind) (list : List K.Motion) (i j : ℕ) : Type 0 where
  pub first : IsPosition K list i
  pub second : IsPosition K list j
  pub lacks : ¬ HasProduct K list i j
  pub before : (k l : ℕ) → IsPosition K list k → IsPosition K list l → ComesBefore k l i j → HasProduct K list k l

-- what is wrong with the list, where nothing that is asked before is wrong with it
abbrev pub IsFault : (K : Kind) → List K.Motion → GroupFault → Type 0
IsFault K list NoIdentity = ¬ IsListed K list K.one
IsFault K list (ShiftMoved i) = IsListed K list K.one × IsFirstWithout K (Keeps K) list i
IsFault K list (NotClosed i j) = IsListed K list K.one × AllKeep K list × IsFirstOpen K list i j
IsFault K list (NoInverse i) =
    IsListed K list K.one × AllKeep K list × IsClosed K list × IsFirstWithout K (HasInverse K list) list i
