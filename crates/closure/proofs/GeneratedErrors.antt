-- Why nothing is generated.
use Rattle.std.proofs.Common.{◌≡◌, ◌≤◌, ◌-◌, ℕ, arith, refl, sym, subst, List, length, map, slice_index_or}
use Rattle.std.specs.Prelude.{All}
use Rattle.std.proofs.lemmas.List.Elements.{All-contains, All-map, All-weaker, Contains-get_or}
use Rattle.symmetry.specs.Motions.{Motion, identity}
use Rattle.symmetry.specs.Groups.{Listing}
use Rattle.symmetry.specs.Sizes.{IsSmall}
use Rattle.motions.specs.declared.listed.Listed.{Listed}
use Rattle.motions.specs.declared.motion.Motion3.{Motion3}
use Rattle.motions.specs.ListedSizes.{IsSmallWithin}
use Rattle.motions.specs.Views.{listing_of, motion_of}
use Rattle.closure.specs.declared.lattice_fault.LatticeFault.{LatticeFault}
use Rattle.closure.specs.declared.lattice_fault.LatticeFault.TheVariants.{TooFine as LatticeTooFine, NoMemory as LatticeNoMemory}
use Rattle.closure.specs.declared.generated_error.GeneratedError.{GeneratedError}
use Rattle.closure.specs.declared.generated_error.GeneratedError.TheVariants.{TooMany, NoInverse, TooLarge, TooFine, NoMemory}
use Rattle.closure.specs.FromLatticeFault.{generated_error_of}
use Rattle.closure.specs.Generated.{AllInvertible, IsInvertible, IsTooLarge}
use Rattle.closure.specs.Searches.{IsSearchFault, IsGeneratedLatticeFault}
use Rattle.closure.specs.Derived.{GeneratesWithinLimits, IsGeneratedError}

pub search_refused : (g : Listing) → length g.ops ≤ 192 → AllInvertible g → (error : GeneratedError) → IsSearchFault g error → IsGeneratedError g error
search_refused g few invertible (TooMany n) f = absurd f
search_refused g few invertible (NoInverse i) f = absurd f
search_refused g few invertible TooLarge f = (few, invertible, f)
search_refused g few invertible TooFine f = absurd f
search_refused g few invertible NoMemory f = tt

pub lattice_refused : (g : Listing) → length g.ops ≤ 192 → AllInvertible g → ¬ IsTooLarge g → (fault : LatticeFault) → IsGeneratedLatticeFault g fault
    → IsGeneratedError g (generated_error_of fault)
lattice_refused g few invertible small LatticeTooFine f = (few, invertible, small, f)
lattice_refused g few invertible small LatticeNoMemory f = tt

-- within the limits there is no error but want of memory
pub no_error : (g : Listing) → GeneratesWithinLimits g → (error : GeneratedError) → IsGeneratedError g error → error ≡ NoMemory
no_error g limits (TooMany n) (e, more) = let few = limits.few in absurd (omega arith)
no_error g limits (NoInverse i) (few, f) =
    absurd (f.lacks (limits.invertible (slice_index_or g.ops (i - 1) identity) (Contains-get_or g.ops (i - 1) identity (let a = f.least in let b = f.within in omega arith))))
no_error g limits TooLarge (few, invertible, f) = absurd (limits.not_large f)
no_error g limits TooFine (few, invertible, small, f) = absurd (limits.fine f)
no_error g limits NoMemory f = refl

pub all_invertible : (g : Listing) → All (λ (m : Motion). IsInvertible m.matrix) g.ops → AllInvertible g
all_invertible g all m is = All-contains (λ (m : Motion). IsInvertible m.matrix) g.ops m all is

-- what the code has tested of the operations, as it reads them
pub read_invertible : (l : Listed) (now : List Motion3) → now ≡ l.ops.items → All (λ (m : Motion). IsInvertible m.matrix) (map motion_of now) → AllInvertible (listing_of l)
read_invertible l now read all = all_invertible (listing_of l) (subst (λ (ms : List Motion3). All (λ (m : Motion). IsInvertible m.matrix) (map motion_of ms)) read all)

pub read_small : (bound : ℕ) (items now : List Motion3) → now ≡ items → All (λ m. IsSmallWithin bound (motion_of m)) items → All IsSmall (map motion_of now)
read_small bound items now read all =
    subst (λ (ms : List Motion3). All IsSmall (map motion_of ms)) (sym read)
    (All-map IsSmall motion_of items (All-weaker (λ m. IsSmallWithin bound (motion_of m)) (λ m. IsSmall (motion_of m)) (λ m s. s.small) items all))
