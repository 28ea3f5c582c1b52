-- The plane lattice is a group of vectors; to differ by it is an equivalence, which the stabilisers respect.
use Rattle.std.proofs.Common.{◌≡◌, negsuc, ◌+ℤ◌, ◌*ℤ◌, refl, sym, ◌∙◌, ap, subst}
use Rattle.fractions.specs.declared.part.TheConstants.{UNIT}
use Rattle.integers.proofs.Ring.{zero_add}
use Rattle.symmetry.specs.Vectors.{Vector, plus, minus, opposite, dot, row_times}
use Rattle.symmetry.specs.Motions.{Motion}
use Rattle.symmetry.specs.Planes.{Height, MapsPlane}
use Rattle.symmetry.specs.Groups.{Listing, SameModulo, IsMember, InStabiliser, FixesEveryPlane}
use Rattle.symmetry.specs.Frames.{InPlaneLattice, DiffersInPlane}
use Rattle.symmetry.proofs.VectorLaws.{dot-origin, dot-plus, dot-multiple, minus-same, minus-plus, minus-plus-minus, opposite-minus}
use Rattle.symmetry.proofs.LatticeLaws.{lattice-plus, lattice-opposite, same_refl, same_sym, same_member}
use Rattle.symmetry.proofs.PlaneImages.{dot-moved}

plane_lattice-plus : (g : Listing) (r s t : Vector) → InPlaneLattice g r s → InPlaneLattice g r t → InPlaneLattice g r (plus s t)
plane_lattice-plus g r s t p q = (lattice-plus g s t p.0 q.0, dot-plus r s t ∙ (λ i. p.1 i +ℤ q.1 i))

plane_lattice-opposite : (g : Listing) (r t : Vector) → InPlaneLattice g r t → InPlaneLattice g r (opposite t)
plane_lattice-opposite g r t p = (lattice-opposite g t p.0, dot-multiple r (negsuc 0) t ∙ ap (λ x. negsuc 0 *ℤ x) p.1)

-- ---- motions that differ by the plane lattice

pub differs_in_lattice : (g : Listing) (r : Vector) (m n : Motion) → DiffersInPlane g r m n → SameModulo g m n
differs_in_lattice g r m n p = record { matrix = p.matrix; translation = p.translation.0 }

pub differs_refl : (g : Listing) (r : Vector) (m : Motion) → DiffersInPlane g r m m
differs_refl g r m = record { matrix = refl; translation = ((same_refl g m).translation, ap (dot r) (minus-same m.translation) ∙ dot-origin r) }

pub differs_sym : (g : Listing) (r : Vector) (m n : Motion) → DiffersInPlane g r m n → DiffersInPlane g r n m
differs_sym g r m n p = record {
  matrix = sym p.matrix;
  translation = subst (InPlaneLattice g r) (opposite-minus m.translation n.translation) (plane_lattice-opposite g r (minus m.translation n.translation) p.translation);
}

pub differs_trans : (g : Listing) (r : Vector) (k m n : Motion) → DiffersInPlane g r k m → DiffersInPlane g r m n → DiffersInPlane g r k n
differs_trans g r k m n p q = record {
  matrix = p.matrix ∙ q.matrix;
  translation = subst (InPlaneLattice g r) (minus-plus-minus k.translation m.translation n.translation)
      (plane_lattice-plus g r (minus k.translation m.translation) (minus m.translation n.translation) p.translation q.translation);
}

-- ---- what the stabilisers have with each motion

pub differs_member : (g : Listing) (r : Vector) (m n : Motion) → DiffersInPlane g r m n → IsMember g m → IsMember g n
differs_member g r m n p = same_member g n m (same_sym g m n (differs_in_lattice g r m n p))

-- (hkl).w is one number
pub differs_shift : (g : Listing) (r : Vector) (m n : Motion) → DiffersInPlane g r m n → dot r m.translation ≡ dot r n.translation
differs_shift g r m n p =
    ap (dot r) (sym (minus-plus m.translation n.translation)) ∙ dot-plus r (minus m.translation n.translation) n.translation
    ∙ ap (λ x. x +ℤ dot r n.translation) p.translation.1 ∙ zero_add (dot r n.translation)

pub differs_maps : (g : Listing) (r : Vector) (s s' : Height) (m n : Motion) → DiffersInPlane g r m n → MapsPlane r s s' m → MapsPlane r s s' n
differs_maps g r s s' m n differs maps p h on =
    ap (λ x. x *ℤ s'.den)
    (dot-moved r n p
    ∙ (λ i. UNIT *ℤ dot (row_times r (sym differs.matrix i)) p.at +ℤ p.over *ℤ sym (differs_shift g r m n differs) i)
    ∙ sym (dot-moved r m p))
    ∙ maps p h on

pub differs_stabiliser : (g : Listing) (r : Vector) (s : Height) (m n : Motion) → DiffersInPlane g r m n → InStabiliser g r s m → InStabiliser g r s n
differs_stabiliser g r s m n p in_it = (differs_member g r m n p in_it.0, differs_maps g r s s m n p in_it.1)

pub differs_all : (g : Listing) (r : Vector) (m n : Motion) → DiffersInPlane g r m n → FixesEveryPlane g r m → FixesEveryPlane g r n
differs_all g r m n p in_it = (differs_member g r m n p in_it.0, λ s high. differs_maps g r s s m n p (in_it.1 s high))
