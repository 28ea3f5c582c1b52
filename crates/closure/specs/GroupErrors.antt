-- Why what is listed is no group.
use Rattle.std.specs.Prelude.{◌≡◌, ℕ, ◌<◌, ◌≤◌, List, length, Contains}
use Rattle.quotient.specs.declared.check.GroupFault.{GroupFault}
use Rattle.quotient.specs.declared.check.GroupFault.TheVariants.{NoIdentity, ShiftMoved, NotClosed, NoInverse}
use Rattle.quotient.specs.Kind.{Kind}
use Rattle.quotient.specs.Groups.{IsPosition, IsFirstWithout, motion_at, ComesBefore}
use Rattle.quotient.specs.Lists.{AreFirst}
use Rattle.symmetry.specs.Vectors.{Vector, image, unit_matrix}
use Rattle.symmetry.specs.Motions.{Motion, followed_by, identity}
use Rattle.symmetry.specs.Groups.{Listing, IsInLattice, IsMember, SameModulo}
use Rattle.closure.specs.declared.group_error.GroupError.{GroupError}
use Rattle.closure.specs.declared.group_error.GroupError.TheVariants.{TooMany, TooFine, Fault, NoMemory}
use Rattle.closure.specs.Fineness.{IsTooFine}

-- motions of space, with the translations by vectors of L as shifts
abbrev pub space_modulo : Listing → Kind
space_modulo g = record {
  Motion = Motion;
  then = followed_by;
  one = identity;
  IsShift = λ m. (m.matrix ≡ unit_matrix) × IsInLattice g m.translation;
}

-- the matrix takes each vector of L to a vector of L
abbrev pub KeepsLattice : Listing → Motion → Type 0
KeepsLattice g m = (t : Vector) → IsInLattice g t → IsInLattice g (image m.matrix t)

-- a member of G undoes m on both sides
abbrev pub HasInverse : Listing → Motion → Type 0
HasInverse g m = (n : Motion) × IsMember g n × (followed_by m n ≡ identity) × (followed_by n m ≡ identity)

-- first the motion at one position, then that at another is a member of G
abbrev pub HasProduct : Listing → List Motion → ℕ → ℕ → Type 0
HasProduct g ops i j = IsMember g (followed_by (motion_at (space_modulo g) ops i) (motion_at (space_modulo g) ops j))

-- (i, j) is the first pair of positions, row by row, whose product is no member of G
pub record IsFirstOpen (g : Listing) (ops : List Motion) (i j : ℕ) : Type 0 where
  pub first : IsPosition (space_modulo g) ops i
  pub second : IsPosition (space_modulo g) ops j
  pub lacks : ¬ HasProduct g ops i j
  pub before : (k l : ℕ) → IsPosition (space_modulo g) ops k → IsPosition (space_modulo g) ops l → ComesBefore k l i j → HasProduct g ops k l

-- each listed operation takes the lattice into itself
abbrev pub AllKeepLattice : Listing → Type 0
AllKeepLattice g = (m : Motion) → Contains g.ops m → KeepsLattice g m

-- each product of two listed operations is a member of G
abbrev pub IsClosed : Listing → Type 0
IsClosed g = (m n : Motion) → Contains g.ops m → Contains g.ops n → IsMember g (followed_by m n)

-- what is wrong at positions of these operations, where nothing that is asked before is wrong
abbrev pub IsFaultAt : Listing → List Motion → GroupFault → Type 0
IsFaultAt g ops NoIdentity = ¬ IsMember g identity
IsFaultAt g ops (ShiftMoved i) = IsMember g identity × IsFirstWithout (space_modulo g) (KeepsLattice g) ops i
IsFaultAt g ops (NotClosed i j) = IsMember g identity × AllKeepLattice g × IsFirstOpen g ops i j
IsFaultAt g ops (NoInverse i) =
    IsMember g identity × AllKeepLattice g × IsClosed g × IsFirstWithout (space_modulo g) (HasInverse g) ops i

-- positions count those of the listed operations that are the same as no earlier one, from 1
abbrev pub IsGroupFault : Listing → GroupFault → Type 0
IsGroupFault g fault = (ops : List Motion) × AreFirst (SameModulo g) g.ops ops × IsFaultAt g ops fault

-- within the limits: no more than 192 listed operations, and a lattice that is not too fine
pub record IsWithinLimits (g : Listing) : Type 0 where
  pub few : length g.ops ≤ 192
  pub fine : ¬ IsTooFine g

-- why there is no Group of what is listed; want of memory has no cause
abbrev pub IsGroupError : Listing → GroupError → Type 0
IsGroupError g (TooMany n) = (n ≡ length g.ops) × (192 < n)
IsGroupError g TooFine = (length g.ops ≤ 192) × IsTooFine g
IsGroupError g (Fault fault) = IsWithinLimits g × IsGroupFault g fault
IsGroupError g NoMemory = Unit {0}
