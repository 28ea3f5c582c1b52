-- From what the code of `Group::make` is told to what it says of the listed operations.
use Rattle.std.proofs.Common.{◌≡◌, ℕ, ◌≤◌, ◌^◌, ◌↔◌, arith, refl, sym, subst, List, [], ◌∷◌, length, get_or, map, lit≤}
use Rattle.std.specs.Prelude.{All, Contains}
use Rattle.std.proofs.lemmas.List.{length-append}
use Rattle.std.proofs.lemmas.List.Elements.{All-map, All-weaker, All-contains, All-contains_itself}
use Rattle.quotient.specs.declared.check.GroupFault.{GroupFault}
use Rattle.quotient.specs.Kind.{IsSame}
use Rattle.quotient.specs.Lists.{AreFirst}
use Rattle.quotient.specs.Lists.AreFirst.{none, kept, left_out}
use Rattle.quotient.specs.Groups.{IsFault, IsGroup as IsGroupModulo}
use Rattle.quotient.proofs.Firsts.{Contains-from_firsts, firsts_apart}
use Rattle.fractions.specs.declared.part.Part.{Part}
use Rattle.symmetry.specs.Vectors.{Vector}
use Rattle.symmetry.specs.Motions.{Motion}
use Rattle.symmetry.specs.Groups.{Listing, Generates, IsInLattice, SameModulo, IsMember, IsGroup}
use Rattle.symmetry.specs.Lists.{ComesBefore}
use Rattle.symmetry.specs.Listings.{AreAlike}
use Rattle.symmetry.specs.Sizes.{IsSmall, IsVectorWithin}
use Rattle.motions.specs.declared.motion.Motion3.{Motion3}
use Rattle.symmetry.proofs.Sizes.{IsVectorWithin-more}
use Rattle.motions.specs.ListedSizes.{IsSmallWithin}
use Rattle.motions.specs.Views.{motion_of, parts}
use Rattle.symmetry.proofs.LatticeLaws.{same_sym}
use Rattle.closure.specs.declared.lattice.Lattice.{Lattice}
use Rattle.closure.specs.declared.lattice_fault.LatticeFault.{LatticeFault}
use Rattle.closure.specs.declared.lattice_fault.LatticeFault.TheVariants.{TooFine, NoMemory}
use Rattle.closure.specs.declared.group_error.GroupError.TheVariants.{Fault, NoMemory as OutOfMemory}
use Rattle.closure.specs.Faults.{IsLatticeFault}
use Rattle.closure.specs.Fineness.{centrings_alone, IsTooFine}
use Rattle.closure.specs.FromLattice.{error_of}
use Rattle.closure.specs.GroupErrors.{IsGroupError, IsWithinLimits}
use Rattle.closure.specs.Lattices.{IsLatticeOf, residues_of}
use Rattle.closure.specs.Laws.ResidueLaws.{has_residue-is}
use Rattle.closure.specs.Operations.{listing_with, AreApart, HasSmallEntries, HoldsTranslations}
use Rattle.closure.specs.Laws.ShiftLaws.{modulo}
use Rattle.closure.proofs.FirstOrder.{same_order}
use Rattle.closure.proofs.Firsts.{lattice_of_listed, too_fine_is, first_listed, kept_lattice, kept_member, kept_group}
use Rattle.closure.proofs.GroupFaults.{fault_is, same_is_equivalence}
use Rattle.closure.proofs.Members.{same_modulo, group_is}

-- ---- sizes

-- what the quotient asks of the listed motions
pub moves_little : (bound : ℕ) (list : List Motion3) → All (λ m. IsSmallWithin bound (motion_of m)) list
    → All (λ m. IsVectorWithin (2 ^ 52) m.translation) (map motion_of list)
moves_little bound list h = All-map (λ m. IsVectorWithin (2 ^ 52) m.translation) motion_of list (λ k d l. IsVectorWithin-more (h k d l).small.translation (lit≤ tt))

pub moves_little_after : (ops now : List Motion3) → now ≡ ops → All HasSmallEntries (map motion_of ops) → All (λ m. IsVectorWithin (2 ^ 52) m.translation) (map motion_of now)
moves_little_after ops now read small = subst (λ l. All (λ m. IsVectorWithin (2 ^ 52) m.translation) (map motion_of l)) (sym read)
    (All-weaker HasSmallEntries (λ m. IsVectorWithin (2 ^ 52) m.translation) (λ m s. IsVectorWithin-more s.small.translation (lit≤ tt)) (map motion_of ops) small)

module _ (bound : ℕ) (g : Listing) (ops : List Motion) (f : AreFirst (SameModulo g) g.ops ops) (h : All (IsSmallWithin bound) g.ops) where
  pub firsts_within : All (IsSmallWithin bound) ops
  firsts_within =
      All-weaker (Contains ops) (IsSmallWithin bound) (λ m is. All-contains (IsSmallWithin bound) g.ops m h (Contains-from_firsts g.ops ops f m is)) ops (All-contains_itself ops)

  pub firsts_small : All IsSmall ops
  firsts_small = All-weaker (IsSmallWithin bound) IsSmall (λ m s. s.small) ops firsts_within

pub length-firsts : {A : Type 0} (Same : A → A → Type 0) (list firsts : List A) → AreFirst Same list firsts → length firsts ≤ length list
length-firsts Same _ _ none = omega arith
length-firsts Same _ _ (kept list firsts x f new) =
    let l = length-firsts Same list firsts f in omega (arith, length-append list (x ∷ []), length-append firsts (x ∷ []))
length-firsts Same _ _ (left_out list firsts x f old) =
    let l = length-firsts Same list firsts f in omega (arith, length-append list (x ∷ []))

-- ---- the lattice

module _ (g : Listing) (vectors : List (List Part)) (same : (v : Vector) → Generates (centrings_alone (map parts vectors)) v ↔ Generates g v)
    (now : List (List Part)) (read : now ≡ vectors) where
  same_now : (v : Vector) → Generates (centrings_alone (map parts now)) v ↔ Generates g v
  same_now = subst (λ vs. (v : Vector) → Generates (centrings_alone (map parts vs)) v ↔ Generates g v) (sym read) same

  pub listed_lattice : (lattice : Lattice) → IsLatticeOf (centrings_alone (map parts now)) lattice → IsLatticeOf g lattice
  listed_lattice = lattice_of_listed g (map parts now) same_now

  pub listed_fine : ¬ IsTooFine (centrings_alone (map parts now)) → ¬ IsTooFine g
  listed_fine n f = n ((too_fine_is g (map parts now) same_now).1 f)

  pub listed_fault : (fault : LatticeFault) → IsLatticeFault (centrings_alone (map parts now)) fault → IsLatticeFault g fault
  listed_fault TooFine f = (too_fine_is g (map parts now) same_now).0 f
  listed_fault NoMemory f = tt

-- a fault of the lattice is one of the group
pub lattice_refused : (g : Listing) → length g.ops ≤ 192 → (fault : LatticeFault) → IsLatticeFault g fault → IsGroupError g (error_of fault)
lattice_refused g few TooFine f = (few, f)
lattice_refused g few NoMemory f = tt

pub lattice_accepted : (g : Listing) (fault : LatticeFault) → IsLatticeFault g fault → IsWithinLimits g → error_of fault ≡ OutOfMemory
lattice_accepted g TooFine f limits = absurd (limits.fine f)
lattice_accepted g NoMemory f limits = refl

-- ---- the operations that are kept

-- the code's list of the first motions, read as a slice
pub kept_first : (g : Listing) (lattice : Lattice) → IsLatticeOf g lattice → (list now firsts : List Motion3) → now ≡ list
    → AreFirst (λ m n. IsSame (modulo lattice) (motion_of m) (motion_of n)) now firsts → AreFirst (SameModulo g) (map motion_of list) (map motion_of firsts)
kept_first g lattice h list now firsts read f =
    subst (λ ms. AreFirst (SameModulo g) (map motion_of ms) (map motion_of firsts)) read (first_listed g lattice h now firsts f)

module _ (g : Listing) (lattice : Lattice) (h : IsLatticeOf g lattice) (ops : List Motion3) (f : AreFirst (SameModulo g) g.ops (map motion_of ops)) where
  pub kept_apart : AreApart (listing_with ops lattice)
  kept_apart i j d less within s =
      let k = kept_lattice g lattice h (map motion_of ops) f in
      firsts_apart g.ops (map motion_of ops) f i j d less within
      ((same_modulo g lattice h (get_or (map motion_of ops) j d) (get_or (map motion_of ops) i d)).0
      ((same_modulo (listing_with ops lattice) lattice k (get_or (map motion_of ops) j d) (get_or (map motion_of ops) i d)).1
      (same_sym (listing_with ops lattice) (get_or (map motion_of ops) i d) (get_or (map motion_of ops) j d) s)))

  pub kept_translations : HoldsTranslations (listing_with ops lattice) lattice
  kept_translations v is = (has_residue-is (residues_of lattice) v).1 ((kept_lattice g lattice h (map motion_of ops) f v).1 is)

  module _ (now : List Motion3) (read : now ≡ ops) where
    -- what was accepted is a group, and so is what is kept
    checked : IsGroupModulo (modulo lattice) (map motion_of now) → IsGroupModulo (modulo lattice) (map motion_of ops)
    checked = subst (λ ms. IsGroupModulo (modulo lattice) (map motion_of ms)) read

    pub accepted_group : IsGroupModulo (modulo lattice) (map motion_of now) → IsGroup g
    accepted_group k = (kept_group g lattice h (map motion_of ops) f).1 (checked k)

    pub kept_is_group : IsGroupModulo (modulo lattice) (map motion_of now) → IsGroup (listing_with ops lattice)
    kept_is_group k = (group_is (listing_with ops lattice) lattice (kept_lattice g lattice h (map motion_of ops) f)).0 (checked k)

    -- what was refused is no group, by a cause
    pub refused_group : IsGroup g → IsGroupModulo (modulo lattice) (map motion_of now)
    refused_group k = subst (λ ms. IsGroupModulo (modulo lattice) (map motion_of ms)) (sym read) ((kept_group g lattice h (map motion_of ops) f).0 k)

    pub refused_fault : IsWithinLimits g → (fault : GroupFault) → IsFault (modulo lattice) (map motion_of now) fault → IsGroupError g (Fault fault)
    refused_fault limits fault is =
        (limits, (map motion_of ops, f, fault_is g lattice h (map motion_of ops) f fault (subst (λ ms. IsFault (modulo lattice) (map motion_of ms) fault) read is)))

  pub kept_vectors : (v : Vector) → IsInLattice g v ↔ IsInLattice (listing_with ops lattice) v
  kept_vectors v = (
    λ is. (kept_lattice g lattice h (map motion_of ops) f v).0 ((h v).1 is),
    λ is. (h v).0 ((kept_lattice g lattice h (map motion_of ops) f v).1 is),
  )

  pub kept_members : (m : Motion) → IsMember g m ↔ IsMember (listing_with ops lattice) m
  kept_members = kept_member g lattice h (map motion_of ops) f

  pub kept_order : (m n : Motion) → ComesBefore (SameModulo g) g.ops m n ↔ ComesBefore (SameModulo g) (map motion_of ops) m n
  kept_order = same_order (SameModulo g) (same_is_equivalence g) g.ops (map motion_of ops) f

  pub kept_alike : AreAlike g (listing_with ops lattice)
  kept_alike = record { lattice = kept_vectors; members = kept_members; order = kept_order }
