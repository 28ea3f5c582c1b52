-- What is listed has one error at most, but for want of memory, and a group within the limits has none.
use Rattle.std.proofs.Common.{◌≡◌, ◌≢◌, ℕ, ◌-◌, inl, inr, arith, refl, sym, ap, subst, ◌∙◌, List}
use Rattle.std.specs.Prelude.{Contains}
use Rattle.std.proofs.lemmas.List.Elements.{Contains-get_or}
use Rattle.quotient.specs.declared.check.GroupFault.{GroupFault}
use Rattle.quotient.specs.declared.check.GroupFault.TheVariants.{NoIdentity, ShiftMoved, NotClosed, NoInverse}
use Rattle.quotient.specs.Groups.{IsFirstWithout, IsPosition, motion_at}
use Rattle.quotient.proofs.Faults.{same_number, one_first, none_first}
use Rattle.quotient.proofs.Firsts.{Contains-from_firsts, one_list}
use Rattle.symmetry.specs.Motions.{Motion, identity}
use Rattle.symmetry.specs.Groups.{Listing, IsGroup}
use Rattle.symmetry.proofs.LatticeLaws.{listed_member}
use Rattle.symmetry.proofs.GroupLaws.{member_keeps}
use Rattle.closure.specs.declared.group_error.GroupError.{GroupError}
use Rattle.closure.specs.declared.group_error.GroupError.TheVariants.{TooMany, TooFine, Fault, NoMemory}
use Rattle.closure.specs.GroupErrors.{space_modulo, KeepsLattice, HasInverse, IsFirstOpen, IsClosed, IsFaultAt, IsGroupFault, IsWithinLimits, IsGroupError}

module _ (g : Listing) (ops : List Motion) where
  one_open : (i j k l : ℕ) → IsFirstOpen g ops i j → IsFirstOpen g ops k l → NotClosed i j ≡ NotClosed k l
  one_open i j k l a b =
      let row : i ≡ k = same_number i k
      (λ h. a.lacks (b.before i j a.first a.second (inl h))) (λ h. b.lacks (a.before k l b.first b.second (inl h))) in
      let column : j ≡ l = same_number j l
      (λ h. a.lacks (b.before i j a.first a.second (inr (row, h)))) (λ h. b.lacks (a.before k l b.first b.second (inr (sym row, h)))) in
      cc

  module _ (listed : (m : Motion) → Contains ops m → Contains g.ops m) where
    none_without : (Has : Motion → Type 0) (i : ℕ) → ((m : Motion) → Contains g.ops m → Has m) → ¬ IsFirstWithout (space_modulo g) Has ops i
    none_without Has i all a = none_first (space_modulo g) ops Has i (λ m is. all m (listed m is)) a

    at_position : (i : ℕ) → IsPosition (space_modulo g) ops i → Contains g.ops (motion_at (space_modulo g) ops i)
    at_position i p = let low = p.0 in let high = p.1 in listed _ (Contains-get_or ops (i - 1) identity (omega arith))

    none_open : (i j : ℕ) → IsClosed g → ¬ IsFirstOpen g ops i j
    none_open i j all a = a.lacks (all _ _ (at_position i a.first) (at_position j a.second))

    one_fault_at : (a b : GroupFault) → IsFaultAt g ops a → IsFaultAt g ops b → a ≡ b
    one_fault_at NoIdentity NoIdentity f h = refl
    one_fault_at NoIdentity (ShiftMoved i) f h = absurd (f h.0)
    one_fault_at NoIdentity (NotClosed i j) f h = absurd (f h.0)
    one_fault_at NoIdentity (NoInverse i) f h = absurd (f h.0)
    one_fault_at (ShiftMoved i) NoIdentity f h = absurd (h f.0)
    one_fault_at (ShiftMoved i) (ShiftMoved j) f h = ap ShiftMoved (one_first (space_modulo g) ops (KeepsLattice g) i j f.1 h.1)
    one_fault_at (ShiftMoved i) (NotClosed j k) f h = absurd (none_without (KeepsLattice g) i h.1 f.1)
    one_fault_at (ShiftMoved i) (NoInverse j) f h = absurd (none_without (KeepsLattice g) i h.1 f.1)
    one_fault_at (NotClosed i j) NoIdentity f h = absurd (h f.0)
    one_fault_at (NotClosed i j) (ShiftMoved k) f h = absurd (none_without (KeepsLattice g) k f.1 h.1)
    one_fault_at (NotClosed i j) (NotClosed k l) f h = one_open i j k l f.2 h.2
    one_fault_at (NotClosed i j) (NoInverse k) f h = absurd (none_open i j h.2 f.2)
    one_fault_at (NoInverse i) NoIdentity f h = absurd (h f.0)
    one_fault_at (NoInverse i) (ShiftMoved j) f h = absurd (none_without (KeepsLattice g) j f.1 h.1)
    one_fault_at (NoInverse i) (NotClosed j k) f h = absurd (none_open j k f.2 h.2)
    one_fault_at (NoInverse i) (NoInverse j) f h = ap NoInverse (one_first (space_modulo g) ops (HasInverse g) i j f.3 h.3)

    no_fault_at : (a : GroupFault) → IsGroup g → ¬ IsFaultAt g ops a
    no_fault_at NoIdentity h f = f h.has_identity
    no_fault_at (ShiftMoved i) h f = none_without (KeepsLattice g) i (λ m is. member_keeps g h m (listed_member g m is)) f.1
    no_fault_at (NotClosed i j) h f = none_open i j (λ m n p q. h.products m n (listed_member g m p) (listed_member g n q)) f.2
    no_fault_at (NoInverse i) h f = none_without (HasInverse g) i (λ m is. h.inverses m (listed_member g m is)) f.3

-- the distinct operations are one list, so positions count the same
one_group_fault : (g : Listing) (a b : GroupFault) → IsGroupFault g a → IsGroupFault g b → a ≡ b
one_group_fault g a b (ops, first, f) (others, also, h) =
    one_fault_at g ops (Contains-from_firsts g.ops ops first) a b f (subst (λ l. IsFaultAt g l b) (sym (one_list g.ops ops others first also)) h)

no_group_fault : (g : Listing) (a : GroupFault) → IsGroup g → ¬ IsGroupFault g a
no_group_fault g a h (ops, first, f) = no_fault_at g ops (Contains-from_firsts g.ops ops first) a h f

pub one_group_error : (g : Listing) (error error' : GroupError) → error ≢ NoMemory → error' ≢ NoMemory → IsGroupError g error → IsGroupError g error' → error ≡ error'
one_group_error g NoMemory b n m f h = absurd (n refl)
one_group_error g a NoMemory n m f h = absurd (m refl)
one_group_error g (TooMany i) (TooMany j) n m f h = ap TooMany (f.0 ∙ sym h.0)
one_group_error g (TooMany i) TooFine n m f h = absurd (omega (arith, f.0, f.1, h.0))
one_group_error g (TooMany i) (Fault b) n m f h = absurd (omega (arith, f.0, f.1, h.0.few))
one_group_error g TooFine (TooMany j) n m f h = absurd (omega (arith, h.0, h.1, f.0))
one_group_error g TooFine TooFine n m f h = refl
one_group_error g TooFine (Fault b) n m f h = absurd (h.0.fine f.1)
one_group_error g (Fault a) (TooMany j) n m f h = absurd (omega (arith, h.0, h.1, f.0.few))
one_group_error g (Fault a) TooFine n m f h = absurd (f.0.fine h.1)
one_group_error g (Fault a) (Fault b) n m f h = ap Fault (one_group_fault g a b f.1 h.1)

pub no_group_and_error : (g : Listing) (error : GroupError) → IsWithinLimits g → IsGroup g → IsGroupError g error → error ≡ NoMemory
no_group_and_error g (TooMany i) within group f = absurd (omega (arith, f.0, f.1, within.few))
no_group_and_error g TooFine within group f = absurd (within.fine f.1)
no_group_and_error g (Fault a) within group f = absurd (no_group_fault g a group f.1)
no_group_and_error g NoMemory within group f = refl
