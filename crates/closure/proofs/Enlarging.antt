-- Residues of a lattice that grows by vectors of L.
use Rattle.std.proofs.Common.{◌≡◌, ◌<◌, ◌≤◌, suc, inl, inr, arith, sym, subst, List, ◌∷◌, length}
use Rattle.std.specs.Prelude.{All, AllPairs, Contains}
use Rattle.std.proofs.lemmas.List.Elements.{All-contains, All-contains_itself, All-weaker, All-cons}
use Rattle.std.proofs.lemmas.List.Kept.{AllPairs-cons}
use Rattle.symmetry.specs.Vectors.{Vector, origin}
use Rattle.symmetry.specs.Groups.{Listing, Generates, IsInLattice}
use Rattle.symmetry.proofs.LatticeLaws.{lattice-made}
use Rattle.quotient.proofs.ListLaws.{nothing_contained}
use Rattle.closure.specs.declared.lattice_fault.LatticeFault.{LatticeFault}
use Rattle.closure.specs.declared.lattice_fault.LatticeFault.TheVariants.{TooFine, NoMemory}
use Rattle.closure.specs.Residues.{residue}
use Rattle.closure.specs.Laws.ResidueLaws.{residue-residue}
use Rattle.closure.specs.Spans.{AreResiduesOf, with_centring}
use Rattle.closure.specs.Fineness.{centrings_alone}
use Rattle.closure.specs.Faults.{IsLatticeFault}
use Rattle.closure.specs.Generated.{InGeneratedLattice, AllInvertible}
use Rattle.closure.specs.Searches.{IsMoreThan, IsGeneratedLatticeFault, IsSpan}
use Rattle.closure.proofs.Spans.{lattice-more, lattice-by_residue, lattice-with, lattice-centring, generates_with}
use Rattle.closure.proofs.Pigeonhole.{no_longer}
use Rattle.closure.proofs.GeneratedGroup.{generated_shift, made_generated}

-- residues of a lattice are those of the lattice that they make
pub own_span : (g : Listing) (rs : List Vector) → AreResiduesOf g rs → IsSpan rs
own_span g rs h = record {
  reduced = h.reduced;
  apart = h.apart;
  same = λ v. (
    λ is. lattice-by_residue (centrings_alone rs) v (residue v) (sym (residue-residue v)) (lattice-made (centrings_alone rs) (residue v) (inr (inl is))),
    λ in_own. (h.same v).1 (lattice-more (centrings_alone rs) g makes v in_own),
  );
}
  where
    makes : (v : Vector) → Generates (centrings_alone rs) v → IsInLattice g v
    makes v (inl edge) = lattice-made g v (inl edge)
    makes v (inr (inl is)) =
        let e : residue v ≡ v = All-contains (λ r. residue r ≡ r) rs v h.reduced is in
        (h.same v).0 (subst (Contains rs) (sym e) is)
    makes v (inr (inr none)) = absurd (nothing_contained _ none)

module _ (old new : List Vector) (v : Vector) (before : IsSpan old) (h : AreResiduesOf (with_centring (centrings_alone old) v) new) where
  pub larger_span : IsSpan new
  larger_span = own_span (with_centring (centrings_alone old) v) new h

  pub larger_more : IsMoreThan old new
  larger_more u in_old = (larger_span.same u).0 ((h.same u).1 (lattice-with (centrings_alone old) v u in_old))

  pub larger_has : IsInLattice (centrings_alone new) v
  larger_has = (larger_span.same v).0 ((h.same v).1 (lattice-centring (centrings_alone old) v))

  pub larger_length : ¬ Contains old (residue v) → length old < length new
  larger_length outside =
      let all : All (Contains new) (residue v ∷ old) =
      All-cons (Contains new) (residue v) old ((larger_span.same v).1 larger_has)
      (All-weaker (Contains old) (Contains new) still old (All-contains_itself old)) in
      let apart : AllPairs (λ x y. ¬ (x ≡ y)) (residue v ∷ old) =
      AllPairs-cons (λ x y. ¬ (x ≡ y)) (residue v) old
      (All-weaker (Contains old) (λ u. ¬ (residue v ≡ u)) (λ u is e. outside (subst (Contains old) (sym e) is)) old (All-contains_itself old)) before.apart in
      let most : suc (length old) ≤ length new = no_longer origin new (residue v ∷ old) all apart in
      omega arith
    where
      still : (u : Vector) → Contains old u → Contains new u
      still u is =
          let e : residue u ≡ u = All-contains (λ r. residue r ≡ r) old u before.reduced is in
          subst (Contains new) e ((larger_span.same u).1 (larger_more u ((before.same u).0 (subst (Contains old) (sym e) is))))

module _ (g : Listing) (invertible : AllInvertible g) (old : List Vector) (v : Vector) (inside : All (InGeneratedLattice g) old) (in_v : InGeneratedLattice g v) where
  pub larger_within : (u : Vector) → IsInLattice (with_centring (centrings_alone old) v) u → InGeneratedLattice g u
  larger_within = made_generated g invertible (with_centring (centrings_alone old) v) makes
    where
      makes : (u : Vector) → Generates (with_centring (centrings_alone old) v) u → InGeneratedLattice g u
      makes u made = elim (generates_with (centrings_alone old) v u made) [
        | inl (inl edge) ↦ generated_shift g u (lattice-made (centrings_alone g.centrings) u (inl edge))
        | inl (inr (inl is)) ↦ All-contains (InGeneratedLattice g) old u inside is
        | inl (inr (inr none)) ↦ absurd (nothing_contained _ none)
        | inr e ↦ subst (InGeneratedLattice g) e in_v
      ]

  pub larger_inside : (new : List Vector) → AreResiduesOf (with_centring (centrings_alone old) v) new → All (InGeneratedLattice g) new
  larger_inside new h =
      All-weaker (Contains new) (InGeneratedLattice g)
      (λ u is. larger_within u ((h.same u).0 (subst (Contains new) (sym (All-contains (λ r. residue r ≡ r) new u h.reduced is)) is))) new (All-contains_itself new)

  pub larger_fault : (fault : LatticeFault) → IsLatticeFault (with_centring (centrings_alone old) v) fault → IsGeneratedLatticeFault g fault
  larger_fault TooFine f = record {
    members = f.members;
    many = f.many;
    inside = All-weaker (IsInLattice (with_centring (centrings_alone old) v)) (InGeneratedLattice g) larger_within f.members f.inside;
    apart = f.apart;
  }
  larger_fault NoMemory f = tt
