-- What a Group knows of itself: its lattice is all of L and not too fine, and it is a group, that of its own listing.
use Rattle.std.proofs.Common.{◌≡◌, ◌↔◌, Bool, IsTrue, arith, inl, inr, sym, ap, subst, ◌∙◌, List, map}
use Rattle.std.proofs.lemmas.List.{length-map}
use Rattle.std.specs.declared.cmp.Ordering.{Ordering}
use Rattle.std.specs.declared.cmp.Ordering.TheVariants.{Less, Equal, Greater}
use Rattle.std.specs.Ordering.{is_lt, ordering_reverse}
use Rattle.fractions.specs.declared.part.Part.{Part}
use Rattle.symmetry.specs.Vectors.{Vector}
use Rattle.symmetry.specs.Groups.{IsInLattice, IsGroup, SameModulo}
use Rattle.symmetry.proofs.LatticeLaws.{lattice-made, same_sym}
use Rattle.symmetry.proofs.Alike.{alike_refl}
use Rattle.motions.specs.Views.{parts}
use Rattle.closure.specs.declared.group.Group.{Group}
use Rattle.closure.specs.Fineness.{IsTooFine}
use Rattle.closure.specs.Residues.{residue, has_residue, vector_cmp, is_before}
use Rattle.closure.specs.Spans.{AreResiduesOf}
use Rattle.closure.specs.Laws.ResidueLaws.{has_residue-is, residue-residue}
use Rattle.closure.specs.Laws.ShiftLaws.{residues-reduced}
use Rattle.closure.specs.Laws.VectorOrder.{vector_cmp_total}
use Rattle.closure.specs.Lattices.{residues_of, IsLatticeOf}
use Rattle.closure.specs.Groups.{group_listing, lattice_of, IsGroupOf}
use Rattle.closure.proofs.Counting.{not_too_fine}
use Rattle.closure.proofs.FirstOrder.{firsts_of_distinct}
use Rattle.closure.proofs.Spans.{lattice-by_residue}
use Rattle.closure.proofs.Untruncated.{group_is_known}

-- no vector comes before itself
before_apart : (v w : Vector) → IsTrue (is_before v w) → ¬ (v ≡ w)
before_apart v w before e = go (vector_cmp v v) (vector_cmp_total.antisymm v v) (subst (λ u. IsTrue (is_before v u)) (sym e) before)
  where
    go : (o : Ordering) → o ≡ ordering_reverse o → ¬ IsTrue (is_lt o)
    go Less q t = cc
    go Equal q t = cc
    go Greater q t = cc

module _ (group : Group) where
  pub own_lattice : IsLatticeOf (group_listing group) (lattice_of group)
  own_lattice v = (
    λ is. lattice-by_residue (group_listing group) v (residue v) (sym (residue-residue v)) (lattice-made (group_listing group) (residue v) (inr (inl is))),
    λ is. (has_residue-is (residues_of group.lattice) v).0 (group.translations v is),
  )

  pub own_group : IsGroup (group_listing group)
  own_group = group_is_known (group_listing group) group.lattice own_lattice group.group

  own_residues : AreResiduesOf (group_listing group) (residues_of group.lattice)
  own_residues = record {
    reduced = residues-reduced group.lattice;
    apart = λ i j d less within e. before_apart _ _ (group.lattice.ordered i j d less within) e;
    same = own_lattice;
  }

  pub own_fine : ¬ IsTooFine (group_listing group)
  own_fine = not_too_fine (group_listing group) (residues_of group.lattice) own_residues
      (let few = group.lattice.few in omega (arith, length-map group.lattice.residues.items parts))

  pub own_listing : IsGroupOf (group_listing group) group
  own_listing = record {
    is_group = own_group;
    alike = alike_refl (group_listing group);
    firsts = firsts_of_distinct (SameModulo (group_listing group)) (group_listing group).ops
        (λ i j d less within s. group.apart i j d less within (same_sym (group_listing group) _ _ s));
  }

  -- what the test of a vector's residue tells
  pub has_told : (now : List (List Part)) → map parts now ≡ residues_of group.lattice → (v : Vector) (b : Bool) → b ≡ has_residue (map parts now) v
      → IsTrue b ↔ IsInLattice (group_listing group) v
  has_told now is v b e = (
    λ t. (own_lattice v).0 ((has_residue-is (residues_of group.lattice) v).0 (sym told ∙ t)),
    λ h. told ∙ (has_residue-is (residues_of group.lattice) v).1 ((own_lattice v).1 h),
  )
    where
      told : b ≡ has_residue (residues_of group.lattice) v
      told = e ∙ ap (λ rs. has_residue rs v) is
