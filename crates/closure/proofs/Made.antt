-- The lattice that vectors make, residues in another order, and lattices with too many of them.
use Rattle.std.proofs.Common.{◌≡◌, ℕ, zero, suc, ◌+◌, ◌<◌, inl, inr, arith, refl, sym, ap, subst, ◌∙◌, List, [], ◌∷◌, ◌++◌, length, get_or, map, take, drop, pos}
use Rattle.std.specs.Prelude.{All, Contains, unsigned_abs}
use Rattle.std.proofs.lemmas.List.{map_more, map-append, take-append-drop}
use Rattle.std.proofs.lemmas.List.Elements.{All-weaker, All-cons, All-nil, Contains-append_left}
use Rattle.std.proofs.lemmas.Int.{ints}
use Rattle.fractions.specs.declared.part.Part.{Part}
use Rattle.fractions.specs.declared.part.TheConstants.{UNIT}
use Rattle.motions.specs.Views.{parts}
use Rattle.symmetry.specs.Vectors.{Vector, origin}
use Rattle.symmetry.specs.Groups.{Listing, Generates, IsInLattice, zero_vector, added, subtracted, edges}
use Rattle.symmetry.proofs.LatticeLaws.{lattice-made}
use Rattle.closure.specs.Residues.{IsWhole, residue, IsResidue, IsResidueEntry}
use Rattle.closure.specs.declared.lattice_fault.LatticeFault.{LatticeFault}
use Rattle.closure.specs.declared.lattice_fault.LatticeFault.TheVariants.{TooFine, NoMemory}
use Rattle.closure.specs.Faults.{IsLatticeFault}
use Rattle.integers.proofs.Remainders.{Divides-zero, Divides-self}
use Rattle.symmetry.proofs.VectorLaws.{minus-origin}
use Rattle.quotient.proofs.ListLaws.{nothing_contained}
use Rattle.closure.specs.Fineness.{centrings_alone, IsTooFine}
use Rattle.closure.specs.Spans.{AreResiduesOf, with_centring}
use Rattle.closure.specs.Laws.ResidueLaws.{whole-origin, whole-plus, whole-minus, whole_from_residues, residue-same, residue-origin}
use Rattle.closure.proofs.Spans.{lattice-whole, lattice-more}

-- ---- no vectors: the cell edges alone

pub edge-whole : (v : Vector) → Contains edges v → IsWhole v
edge-whole v (zero, within, is) = subst IsWhole is (record { x = Divides-self (unsigned_abs UNIT); y = Divides-zero (unsigned_abs UNIT); z = Divides-zero (unsigned_abs UNIT) })
edge-whole v (suc zero, within, is) = subst IsWhole is (record { x = Divides-zero (unsigned_abs UNIT); y = Divides-self (unsigned_abs UNIT); z = Divides-zero (unsigned_abs UNIT) })
edge-whole v (suc (suc zero), within, is) = subst IsWhole is (record { x = Divides-zero (unsigned_abs UNIT); y = Divides-zero (unsigned_abs UNIT); z = Divides-self (unsigned_abs UNIT) })
edge-whole v (suc (suc (suc k)), within, is) = absurd (omega arith)

made_whole : (v : Vector) → Generates (centrings_alone []) v → IsWhole v
made_whole v (inl edge) = edge-whole v edge
made_whole v (inr (inl none)) = absurd (nothing_contained v none)
made_whole v (inr (inr none)) = absurd (nothing_contained _ none)

edges-whole : (v : Vector) → IsInLattice (centrings_alone []) v → IsWhole v
edges-whole _ zero_vector = whole-origin
edges-whole _ (added t v k made) = whole-plus t v (edges-whole t k) (made_whole v made)
edges-whole _ (subtracted t v k made) = whole-minus t v (edges-whole t k) (made_whole v made)

pub residues-none : AreResiduesOf (centrings_alone []) (origin ∷ [])
residues-none = record {
  reduced = λ k d l. one k d (omega arith);
  apart = λ i j d less within. absurd (omega arith);
  same = λ v. (
    λ (k, within, is). lattice-whole (centrings_alone []) v (subst IsWhole (minus-origin v) (whole_from_residues v origin (at_origin v k within is))),
    λ h. (0, omega arith, sym (residue-same v origin (subst IsWhole (sym (minus-origin v)) (edges-whole v h)) ∙ residue-origin)),
  );
}
  where
    one : (k : ℕ) (d : Vector) → k < 1 → residue (get_or (origin ∷ []) k d) ≡ get_or (origin ∷ []) k d
    one zero d l = residue-origin
    one (suc k) d l = absurd (omega arith)

    at_origin : (v : Vector) (k : ℕ) → k < 1 → get_or (origin ∷ []) k (residue v) ≡ residue v → residue v ≡ residue origin
    at_origin v zero l is = sym is ∙ sym residue-origin
    at_origin v (suc k) l is = absurd (omega arith)

-- ---- one more vector of a list

pub centrings-more : (vs : List (List Part)) (i : ℕ) → i < length vs
    → with_centring (centrings_alone (map parts (take i vs))) (parts (get_or vs i [])) ≡ centrings_alone (map parts (take (i + 1) vs))
centrings-more vs i within = ap centrings_alone (sym (map_more parts vs i [] within))

abbrev zero_array : List Part
zero_array = record { 0 = pos 0 } ∷ record { 0 = pos 0 } ∷ record { 0 = pos 0 } ∷ []

-- a list with the vector 0 alone
pub zero_alone : (before rs : List (List Part)) → before ≡ [] → rs ≡ before ++ zero_array ∷ []
    → All IsResidue rs × AreResiduesOf (centrings_alone []) (map parts rs)
zero_alone before rs none pushed =
    let is : rs ≡ zero_array ∷ [] = pushed ∙ ap (λ rs. rs ++ zero_array ∷ []) none in (
      subst (All IsResidue) (sym is) (All-cons IsResidue zero_array [] zero_residue (All-nil IsResidue)),
      subst (λ rs. AreResiduesOf (centrings_alone []) (map parts rs)) (sym is) residues-none,
    )
  where
    zero_entry : IsResidueEntry (record { 0 = pos 0 })
    zero_entry = record { least = omega (arith, ints); below = omega (arith, ints) }

    zero_residue : IsResidue zero_array
    zero_residue = record { three = refl; x = zero_entry; y = zero_entry; z = zero_entry }

-- what the first vectors make, all of them make
first-made : (vs : List (List Part)) (i : ℕ) (v : Vector) → Generates (centrings_alone (map parts (take i vs))) v → Generates (centrings_alone (map parts vs)) v
first-made vs i v (inl edge) = inl edge
first-made vs i v (inr (inl is)) =
    inr (inl (subst (λ ws. Contains ws v) (sym (map-append parts (take i vs) (drop i vs)) ∙ ap (map parts) (take-append-drop i vs))
    (Contains-append_left (map parts (take i vs)) (map parts (drop i vs)) v is)))
first-made vs i v (inr (inr none)) = inr (inr none)

-- ---- lattices with too many residues

pub too_fine-more : (g h : Listing) → ((v : Vector) → IsInLattice g v → IsInLattice h v) → IsTooFine g → IsTooFine h
too_fine-more g h inside f = record {
  members = f.members;
  many = f.many;
  inside = All-weaker (IsInLattice g) (IsInLattice h) inside f.members f.inside;
  apart = f.apart;
}

pub fault-first : (vs : List (List Part)) (i : ℕ) (fault : LatticeFault) → IsLatticeFault (centrings_alone (map parts (take i vs))) fault
    → IsLatticeFault (centrings_alone (map parts vs)) fault
fault-first vs i TooFine f =
    let g = centrings_alone (map parts (take i vs)) in
    let h = centrings_alone (map parts vs) in
    too_fine-more g h (lattice-more g h (λ v made. lattice-made h v (first-made vs i v made))) f
fault-first vs i NoMemory f = tt
