-- The least vector along an axis is in the lattice, and small.
use Rattle.std.proofs.Common.{◌≡◌, ℕ, zero, suc, ◌<◌, inl, inr, List, [], length, get_or, map, arith, refl, sym, subst, ◌∙◌, lit<}
use Rattle.std.specs.Prelude.{Contains, All}
use Rattle.std.proofs.lemmas.Int.{ints}
use Rattle.std.proofs.lemmas.List.{get_or-map, length-map}
use Rattle.integers.specs.Size.{IsWithin}
use Rattle.fractions.specs.declared.part.Part.{Part}
use Rattle.symmetry.specs.Vectors.{Vector}
use Rattle.symmetry.specs.Groups.{Listing, IsInLattice}
use Rattle.symmetry.specs.Sizes.{IsVectorWithin}
use Rattle.symmetry.proofs.LatticeLaws.{lattice-made}
use Rattle.motions.specs.Views.{parts}
use Rattle.closure.specs.Residues.{IsResidue, IsResidueEntry}
use Rattle.reduction.specs.Bounds.{largest_first}
use Rattle.reduction.specs.LeadingEntries.{edge_at}
use Rattle.reduction.proofs.FirstBasis.{IsLeastAlong}

edge_in : (g : Listing) (p : ℕ) → IsInLattice g (edge_at p)
edge_in g zero = lattice-made g _ (inl (0, lit< tt, refl))
edge_in g (suc zero) = lattice-made g _ (inl (1, lit< tt, refl))
edge_in g (suc (suc p)) = lattice-made g _ (inl (2, lit< tt, refl))

edge_small : (p : ℕ) → IsVectorWithin largest_first (edge_at p)
edge_small zero = record { x = record { most = omega arith }; y = record { most = omega arith }; z = record { most = omega arith } }
edge_small (suc zero) = record { x = record { most = omega arith }; y = record { most = omega arith }; z = record { most = omega arith } }
edge_small (suc (suc p)) = record { x = record { most = omega arith }; y = record { most = omega arith }; z = record { most = omega arith } }

entry_small : (part : Part) → IsResidueEntry part → IsWithin largest_first part.0
entry_small part h = let l = h.least in let b = h.below in record { most = omega (arith, ints) }

residue_small : (r : List Part) → IsResidue r → IsVectorWithin largest_first (parts r)
residue_small r h = record { x = entry_small _ h.x; y = entry_small _ h.y; z = entry_small _ h.z }

module _ (g : Listing) (rs : List (List Part)) (p : ℕ) (w : Vector) (h : IsLeastAlong rs p w) where
  pub least_in : map parts rs ≡ g.centrings → IsInLattice g w
  least_in e = elim h.one [
    | inl edge ↦ subst (IsInLattice g) (sym edge) (edge_in g p)
    | inr is ↦ lattice-made g w (inr (inl (subst (λ vs. Contains vs w) e is)))
  ]

  pub least_small : All IsResidue rs → IsVectorWithin largest_first w
  least_small reduced = elim h.one [
    | inl edge ↦ subst (IsVectorWithin largest_first) (sym edge) (edge_small p)
    | inr listed ↦ (
        let (k, within, is) = listed in
        let l : k < length rs = subst (λ (n : ℕ). k < n) (length-map rs parts) within in
        subst (IsVectorWithin largest_first) (sym (get_or-map parts rs k [] w l) ∙ is) (residue_small (get_or rs k []) (reduced k [] l)))
  ]
