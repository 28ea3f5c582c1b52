-- A basis that spans the cell edges and the residues of a lattice spans the lattice.
use Rattle.std.proofs.Common.{◌≡◌, ℕ, zero, suc, ◌<◌, ◌*ℤ◌, List, [], length, map, get_or, inl, inr, refl, sym, subst, ◌∙◌, arith, lit<, lit≤, ◌^◌}
use Rattle.std.specs.Prelude.{Contains, unsigned_abs}
use Rattle.std.specs.List.{All}
use Rattle.std.proofs.lemmas.Int.{ints}
use Rattle.std.proofs.lemmas.List.{get_or-map, length-map}
use lib.IntN.{*ℤ_comm}
use Rattle.fractions.specs.declared.part.Part.{Part}
use Rattle.fractions.specs.declared.part.TheConstants.{UNIT}
use Rattle.integers.specs.Size.{IsWithin}
use Rattle.symmetry.specs.Sizes.{IsVectorWithin}
use Rattle.symmetry.specs.Vectors.{Vector, minus, multiple}
use Rattle.symmetry.specs.Groups.{Listing, Generates, IsInLattice, zero_vector, added, subtracted}
use Rattle.symmetry.specs.Frames.{Basis}
use Rattle.symmetry.proofs.LatticeLaws.{lattice-made, lattice-minus, lattice-plus}
use Rattle.symmetry.proofs.VectorLaws.{vector_path, minus-plus}
use Rattle.symmetry.proofs.Sizes.{IsVectorWithin-more}
use Rattle.motions.specs.Views.{parts}
use Rattle.closure.specs.Fineness.{IsTooFine}
use Rattle.closure.specs.Residues.{residue, IsResidue, IsResidueEntry, IsWhole}
use Rattle.closure.specs.Laws.ResidueLaws.{whole-minus_residue}
use Rattle.plane_lattice.specs.Coordinates.{IsCombination, HoldsEdges, listing_of_basis}
use Rattle.plane_lattice.proofs.Edges.{combination-sum, whole_edges}

-- a vector of whole edges is UNIT times a vector
whole_vector : (v : Vector) → IsWhole v → (k : Vector) × (multiple UNIT k ≡ v)
unfolding multiple
whole_vector v h = (
  record { x = h.x.times; y = h.y.times; z = h.z.times },
  vector_path (*ℤ_comm UNIT h.x.times ∙ sym h.x.is) (*ℤ_comm UNIT h.y.times ∙ sym h.y.is) (*ℤ_comm UNIT h.z.times ∙ sym h.z.is),
)

module _ (f : Basis) (rs : List (List Part)) (edges : HoldsEdges f) (held : All (λ v. IsCombination f (parts v)) rs) where
  residue_held : (v : Vector) → Contains (map parts rs) v → IsCombination f v
  residue_held v (k, within, is) =
      let h : k < length rs = subst (λ (n : ℕ). k < n) (length-map rs parts) within in
      subst (IsCombination f) (sym (get_or-map parts rs k [] v h) ∙ is) (held k [] h)

  pub spanned : (v : Vector) → Contains (map parts rs) (residue v) → IsCombination f v
  spanned v h =
      let (k, e) = whole_vector (minus v (residue v)) (whole-minus_residue v) in
      subst (IsCombination f) (minus-plus v (residue v))
      (combination-sum f (minus v (residue v)) (residue v) (subst (IsCombination f) e (whole_edges f edges k)) (residue_held (residue v) h))

-- a residue is small
pub residue_within : (v : List Part) → IsResidue v → IsVectorWithin (2 ^ 52) (parts v)
residue_within v is = IsVectorWithin-more (record { x = entry _ is.x; y = entry _ is.y; z = entry _ is.z }) (lit≤ tt)
  where
    entry : (part : Part) → IsResidueEntry part → IsWithin (unsigned_abs UNIT) part.0
    entry part is = let least = is.least in let below = is.below in record { most = omega (arith, ints) }

-- and the other way round
module _ (g : Listing) (f : Basis) (spans : (v : Vector) → IsInLattice g v → IsCombination f v) where
  pub edges_held : HoldsEdges f
  edges_held = record {
    first = spans _ (lattice-made g _ (inl (0, lit< tt, refl)));
    second = spans _ (lattice-made g _ (inl (1, lit< tt, refl)));
    third = spans _ (lattice-made g _ (inl (2, lit< tt, refl)));
  }

  pub residues_held : (rs : List (List Part)) → map parts rs ≡ g.centrings → All (λ v. IsCombination f (parts v)) rs
  residues_held rs e k d h =
      spans (parts (get_or rs k d)) (lattice-made g (parts (get_or rs k d)) (inr (inl (subst (λ vs. Contains vs (parts (get_or rs k d))) e (
        k,
        subst (λ (n : ℕ). k < n) (sym (length-map rs parts)) h,
        get_or-map parts rs k d (parts (get_or rs k d)) h,
      )))))

-- ---- the lattice of three vectors

module _ (g : Listing) (f : Basis) (a : IsInLattice g f.a) (b : IsInLattice g f.b) (tau : IsInLattice g f.tau) where
  made_in : (v : Vector) → Generates (listing_of_basis f) v → IsInLattice g v
  made_in v (inl edge) = lattice-made g v (inl edge)
  made_in v (inr (inl (zero, _, is))) = subst (IsInLattice g) is a
  made_in v (inr (inl (suc zero, _, is))) = subst (IsInLattice g) is b
  made_in v (inr (inl (suc (suc zero), _, is))) = subst (IsInLattice g) is tau
  made_in v (inr (inl (suc (suc (suc k)), within, _))) = absurd (omega arith)
  made_in v (inr (inr (k, within, _))) = absurd (omega arith)

  all_in : (v : Vector) → IsInLattice (listing_of_basis f) v → IsInLattice g v
  all_in _ zero_vector = zero_vector
  all_in _ (added t v h made) = lattice-plus g t v (all_in t h) (made_in v made)
  all_in _ (subtracted t v h made) = lattice-minus g t v (all_in t h) (made_in v made)

  -- it is no finer than the lattice that they are in
  pub fine_as : ¬ IsTooFine g → ¬ IsTooFine (listing_of_basis f)
  fine_as fine too_fine =
      fine (record { members = too_fine.members; many = too_fine.many; inside = λ k d h. all_in _ (too_fine.inside k d h); apart = too_fine.apart })
