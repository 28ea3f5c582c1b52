-- The lattice of a generated group is made of residues that enlarging has found.
use Rattle.std.proofs.Common.{◌≡◌, ◌<◌, inl, inr, arith, sym, subst, List, length, map}
use Rattle.std.specs.Prelude.{All, Contains}
use Rattle.std.proofs.lemmas.List.{length-map}
use Rattle.std.proofs.lemmas.List.Elements.{All-contains, All-contains_itself, All-weaker}
use Rattle.fractions.specs.declared.part.Part.{Part}
use Rattle.symmetry.specs.Vectors.{Vector, origin, image}
use Rattle.symmetry.specs.Motions.{Motion, followed_by}
use Rattle.symmetry.specs.Groups.{Listing, Generates, IsInLattice, zero_vector}
use Rattle.symmetry.proofs.LatticeLaws.{lattice-made, lattice-image}
use Rattle.quotient.proofs.ListLaws.{nothing_contained}
use Rattle.motions.specs.Views.{parts}
use Rattle.closure.specs.declared.lattice_fault.LatticeFault.{LatticeFault}
use Rattle.closure.specs.declared.lattice_fault.LatticeFault.TheVariants.{TooFine, NoMemory}
use Rattle.closure.specs.Residues.{residue}
use Rattle.closure.specs.Laws.ResidueLaws.{whole-image, residue-residue}
use Rattle.closure.specs.Spans.{AreResiduesOf}
use Rattle.closure.specs.Fineness.{centrings_alone, IsTooFine}
use Rattle.closure.specs.Faults.{IsLatticeFault}
use Rattle.closure.specs.Generated.{InGeneratedLattice, AllInvertible, GeneratesTooFine}
use Rattle.closure.specs.ClosedLists.{IsLatticeClosed, IsMatrixClosed}
use Rattle.closure.specs.Searches.{IsMoreThan, HasSame, KeepsResidues, IsGeneratedLatticeFault}
use Rattle.closure.proofs.Made.{edge-whole}
use Rattle.closure.proofs.Spans.{lattice-whole, lattice-by_residue}
use Rattle.closure.proofs.GeneratedGroup.{generated_shift, made_generated}
use Rattle.closure.proofs.GeneratedLemma.{lattice_is}
use Rattle.closure.proofs.Enlarging.{own_span}
use Rattle.closure.proofs.Images.{still_same}

-- there is at least one residue
pub some_residue : (h : Listing) (rs : List (List Part)) → AreResiduesOf h (map parts rs) → 0 < length rs
some_residue h rs a =
    let (k, within, is) = (a.same origin).1 zero_vector in
    omega (arith, length-map rs parts)

-- the residues of the cell edges and the centring vectors are in L
pub first_inside : (g : Listing) (rs : List Vector) → AreResiduesOf (centrings_alone g.centrings) rs → All (InGeneratedLattice g) rs
first_inside g rs a =
    All-weaker (Contains rs) (InGeneratedLattice g)
    (λ r is. generated_shift g r ((a.same r).0 (subst (Contains rs) (sym (All-contains (λ r. residue r ≡ r) rs r a.reduced is)) is))) rs (All-contains_itself rs)

module _ (g : Listing) (invertible : AllInvertible g) where
  -- what residues in L make is in L
  pub span_inside : (rs : List Vector) → All (InGeneratedLattice g) rs → (v : Vector) → IsInLattice (centrings_alone rs) v → InGeneratedLattice g v
  span_inside rs inside = made_generated g invertible (centrings_alone rs) makes
    where
      makes : (u : Vector) → Generates (centrings_alone rs) u → InGeneratedLattice g u
      makes u (inl edge) = generated_shift g u (lattice-made (centrings_alone g.centrings) u (inl edge))
      makes u (inr (inl is)) = All-contains (InGeneratedLattice g) rs u inside is
      makes u (inr (inr none)) = absurd (nothing_contained _ none)

  pub span_fault : (rs : List Vector) → All (InGeneratedLattice g) rs → (fault : LatticeFault) → IsLatticeFault (centrings_alone rs) fault → IsGeneratedLatticeFault g fault
  span_fault rs inside TooFine f = record {
    members = f.members;
    many = f.many;
    inside = All-weaker (IsInLattice (centrings_alone rs)) (InGeneratedLattice g) (span_inside rs inside) f.members f.inside;
    apart = f.apart;
  }
  span_fault rs inside NoMemory f = tt

-- why the edges and the centring vectors have no lattice
pub first_fault : (g : Listing) (fault : LatticeFault) → IsLatticeFault (centrings_alone g.centrings) fault → IsGeneratedLatticeFault g fault
first_fault g TooFine f = record {
  members = f.members;
  many = f.many;
  inside = All-weaker (IsInLattice (centrings_alone g.centrings)) (InGeneratedLattice g) (generated_shift g) f.members f.inside;
  apart = f.apart;
}
first_fault g NoMemory f = tt

-- a matrix that keeps residues keeps what they make
keeps_span : (rs : List Vector) (m : Motion) → KeepsResidues rs m → (v : Vector) → IsInLattice (centrings_alone rs) v → IsInLattice (centrings_alone rs) (image m.matrix v)
keeps_span rs m keeps = lattice-image (centrings_alone rs) m.matrix makes
  where
    makes : (u : Vector) → Generates (centrings_alone rs) u → IsInLattice (centrings_alone rs) (image m.matrix u)
    makes u (inl edge) = lattice-whole (centrings_alone rs) (image m.matrix u) (whole-image m.matrix u (edge-whole u edge))
    makes u (inr (inl is)) =
        let v = image m.matrix u in
        lattice-by_residue (centrings_alone rs) v (residue v) (sym (residue-residue v))
        (lattice-made (centrings_alone rs) (residue v) (inr (inl (All-contains (λ r. Contains rs (residue (image m.matrix r))) rs u keeps is))))
    makes u (inr (inr none)) = absurd (nothing_contained _ none)

-- what enlarging has found is closed
pub found_lattice : (g : Listing) → AllInvertible g → (list : List Motion) (first mid last : List Vector) → AreResiduesOf (centrings_alone g.centrings) first
    → IsMoreThan first mid → IsMoreThan mid last
    → ((m k : Motion) → Contains list m → Contains g.ops k → HasSame list mid (followed_by m k))
    → ((m : Motion) → Contains list m → KeepsResidues last m) → All (InGeneratedLattice g) last
    → IsLatticeClosed g list (centrings_alone last)
found_lattice g invertible list first mid last a p q same keeps inside = record {
  inside = span_inside g invertible last inside;
  centrings = λ v h. q v (p v (((own_span (centrings_alone g.centrings) first a).same v).0 ((a.same v).1 h)));
  differences = λ m k stands is. still_same list mid last q (followed_by m k) (same m k stands is);
  keeps = λ m is. keeps_span last m (keeps m is);
}

pub found_fine : (g : Listing) (list : List Motion) (h : Listing) → IsMatrixClosed g list → IsLatticeClosed g list h → ¬ IsTooFine h → ¬ GeneratesTooFine g
found_fine g list h C L fine f = fine (record {
  members = f.members;
  many = f.many;
  inside = All-weaker (InGeneratedLattice g) (IsInLattice h) (λ v p. (lattice_is g list h C L v).0 p) f.members f.inside;
  apart = f.apart;
})
