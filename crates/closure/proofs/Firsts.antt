-- The lattice of what is listed by the vectors that were collected, and the first of the listed operations.
use Rattle.std.proofs.Common.{◌≡◌, ◌↔◌, inl, inr, sym, subst, List, map}
use Rattle.std.specs.Prelude.{Contains}
use Rattle.std.proofs.lemmas.List.Elements.{All-contains}
use Rattle.quotient.specs.Kind.{IsSame}
use Rattle.quotient.specs.Lists.{AreFirst}
use Rattle.quotient.specs.Lists.AreFirst.{none, kept, left_out}
use Rattle.quotient.specs.Groups.{IsGroup as IsGroupModulo}
use Rattle.quotient.proofs.Firsts.{AreFirst-map, Contains-from_firsts}
use Rattle.quotient.proofs.Parts.{firsts_are_listed, group_of_firsts}
use Rattle.symmetry.specs.Vectors.{Vector}
use Rattle.symmetry.specs.Motions.{Motion, translation}
use Rattle.symmetry.specs.Groups.{Listing, Generates, IsInLattice, SameModulo, IsMember, IsGroup}
use Rattle.symmetry.proofs.LatticeLaws.{lattice-made}
use Rattle.motions.specs.Laws.MotionLaws.{followed_by_laws}
use Rattle.motions.specs.declared.motion.Motion3.{Motion3}
use Rattle.motions.specs.Views.{motion_of}
use Rattle.closure.specs.declared.lattice.Lattice.{Lattice}
use Rattle.closure.specs.Fineness.{centrings_alone, IsTooFine}
use Rattle.closure.specs.Lattices.{residues_of, IsLatticeOf}
use Rattle.closure.specs.Laws.ResidueLaws.{residue-residue}
use Rattle.closure.specs.Residues.{residue}
use Rattle.closure.specs.Laws.ShiftLaws.{modulo, shifts_lem, residues-reduced}
use Rattle.closure.proofs.Spans.{lattice-more, lattice-by_residue}
use Rattle.closure.proofs.Made.{too_fine-more}
use Rattle.closure.proofs.Members.{same_modulo, member_is, group_is}

-- ---- the lattice, by the collected vectors

module _ (g : Listing) (vectors : List Vector) (same : (v : Vector) → Generates (centrings_alone vectors) v ↔ Generates g v) where
  inside : (v : Vector) → IsInLattice (centrings_alone vectors) v ↔ IsInLattice g v
  inside v = (
    lattice-more (centrings_alone vectors) g (λ u made. lattice-made g u ((same u).0 made)) v,
    lattice-more g (centrings_alone vectors) (λ u made. lattice-made (centrings_alone vectors) u ((same u).1 made)) v,
  )

  pub lattice_of_listed : (lattice : Lattice) → IsLatticeOf (centrings_alone vectors) lattice → IsLatticeOf g lattice
  lattice_of_listed lattice h v = (λ is. (inside v).0 ((h v).0 is), λ is. (h v).1 ((inside v).1 is))

  pub too_fine_is : IsTooFine (centrings_alone vectors) ↔ IsTooFine g
  too_fine_is = (too_fine-more (centrings_alone vectors) g (λ v. (inside v).0), too_fine-more g (centrings_alone vectors) (λ v. (inside v).1))

-- ---- the first operations

-- the same by another relation that holds of the same pairs
pub AreFirst-by : {A : Type 0} (Same Other : A → A → Type 0) → ((x y : A) → Same x y ↔ Other x y) → (list firsts : List A) → AreFirst Same list firsts → AreFirst Other list firsts
AreFirst-by Same Other e _ _ none = none
AreFirst-by Same Other e _ _ (kept list firsts x f new) =
    kept list firsts x (AreFirst-by Same Other e list firsts f) (λ (k, y, within, is, s). new (k, y, within, is, (e x y).1 s))
AreFirst-by Same Other e _ _ (left_out list firsts x f (k, y, within, is, s)) =
    left_out list firsts x (AreFirst-by Same Other e list firsts f) (k, y, within, is, (e x y).0 s)

module _ (g : Listing) (lattice : Lattice) (h : IsLatticeOf g lattice) where
  -- what the code keeps are the first operations modulo L
  pub first_listed : (list firsts : List Motion3) → AreFirst (λ m n. IsSame (modulo lattice) (motion_of m) (motion_of n)) list firsts
      → AreFirst (SameModulo g) (map motion_of list) (map motion_of firsts)
  first_listed list firsts f =
      AreFirst-by (IsSame (modulo lattice)) (SameModulo g) (same_modulo g lattice h) (map motion_of list) (map motion_of firsts) (AreFirst-map motion_of list firsts f)

  module _ (ops : List Motion) (f : AreFirst (SameModulo g) g.ops ops) where
    -- the first operations, with the lattice's residues as centring vectors
    abbrev pub kept_listing : Listing
    kept_listing = record { ops = ops; centrings = residues_of lattice }

    by_quotient : AreFirst (IsSame (modulo lattice)) g.ops ops
    by_quotient = AreFirst-by (SameModulo g) (IsSame (modulo lattice)) (λ m n. ((same_modulo g lattice h m n).1, (same_modulo g lattice h m n).0)) g.ops ops f

    generates_kept : (v : Vector) → Generates kept_listing v → IsInLattice g v
    generates_kept v (inl edge) = lattice-made g v (inl edge)
    generates_kept v (inr (inl is)) = (h v).0 (subst (Contains (residues_of lattice)) (sym (All-contains (λ r. residue r ≡ r) (residues_of lattice) v (residues-reduced lattice) is)) is)
    generates_kept v (inr (inr is)) = lattice-made g v (inr (inr (Contains-from_firsts g.ops ops f (translation v) is)))

    pub kept_lattice : IsLatticeOf kept_listing lattice
    kept_lattice v = (
      λ is. lattice-by_residue kept_listing v (residue v) (sym (residue-residue v)) (lattice-made kept_listing (residue v) (inr (inl is))),
      λ is. (h v).1 (lattice-more kept_listing g generates_kept v is),
    )

    pub kept_member : (m : Motion) → IsMember g m ↔ IsMember kept_listing m
    kept_member m = (
      λ is. (member_is kept_listing lattice kept_lattice m).0 ((firsts_are_listed (modulo lattice) followed_by_laws (shifts_lem lattice) g.ops ops by_quotient m).0 ((member_is g lattice h m).1 is)),
      λ is. (member_is g lattice h m).0 ((firsts_are_listed (modulo lattice) followed_by_laws (shifts_lem lattice) g.ops ops by_quotient m).1 ((member_is kept_listing lattice kept_lattice m).1 is)),
    )

    pub kept_group : IsGroup g ↔ IsGroupModulo (modulo lattice) ops
    kept_group = (
      λ k. (group_of_firsts (modulo lattice) followed_by_laws (shifts_lem lattice) g.ops ops by_quotient).0 ((group_is g lattice h).1 k),
      λ k. (group_is g lattice h).0 ((group_of_firsts (modulo lattice) followed_by_laws (shifts_lem lattice) g.ops ops by_quotient).1 k),
    )
