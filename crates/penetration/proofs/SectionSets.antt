-- The section of a line is what the sections of a list of its stabiliser stand for.
use Rattle.std.proofs.Common.{◌≡◌, ◌↔◌, ℤ, pos, negsuc, ◌+ℤ◌, ◌*ℤ◌, refl, sym, ◌∙◌, ap, subst, List, [], ◌∷◌, map}
use Rattle.fractions.specs.declared.part.TheConstants.{UNIT}
use Rattle.fractions.specs.Fraction.{Fraction, SameFraction}
use Rattle.integers.proofs.Solver.{Expr.{var, num, neg, ◌⊕◌, ◌⊗◌}, linear, given}
use Rattle.fractions.specs.Parts.{part_of_edge}
use Rattle.symmetry.specs.Vectors.{Vector, Matrix, plus, multiple, image}
use Rattle.symmetry.specs.Motions.{Motion, moved, SamePoint}
use Rattle.symmetry.specs.Planes.{IsCoprime}
use Rattle.symmetry.specs.Groups.{Listing, IsInLattice, IsMember, IsGroup}
use Rattle.symmetry.specs.Frames.{Basis}
use Rattle.symmetry.proofs.VectorLaws.{vector_path, plus-minus_first}
use Rattle.symmetry.proofs.LatticeLaws.{same_member, lattice-multiple}
use Rattle.motions.specs.declared.rod.RodMotion.{RodMotion}
use Rattle.motions.specs.PlaneMatrices.{Matrix2}
use Rattle.motions.specs.Signs.{sign_value}
use Rattle.motions.specs.RodMotions.{RodOperation, rod_of}
use Rattle.quotient.proofs.ListLaws.{Contains-from_map, Contains-map}
use Rattle.recognition.specs.RationalRods.{RationalRod, IsRationalRod, IsListedRod, multiple2}
use Rattle.recognition.proofs.RodTypeLemma.{from_list, to_list}
use Rattle.penetration.specs.RodFrames.{IsRodFrame, AreRodOperations, IsAcross, levelled}
use Rattle.penetration.specs.RodSections.{AreSections, InRodSection, ListsAlong, counted, drift, point_on_axis}
use Rattle.penetration.proofs.RodActions.{shift_is, acts, acts_once}
use Rattle.penetration.proofs.RodGroups.{in_stabiliser, listed_op, motion_of_op}

-- the motion, and then so many times the axis
abbrev further : Basis → Motion → ℤ → Motion
further f m k = record { matrix = m.matrix; translation = plus m.translation (multiple k f.tau) }

-- one coordinate: the translation in rationals, from that in parts
rational : (n t s d wx w x c : ℤ) → n *ℤ ((wx +ℤ w) +ℤ negsuc 0 *ℤ x) ≡ t *ℤ c → s *ℤ n ≡ t *ℤ d
    → ((d *ℤ n) *ℤ n) *ℤ (n *ℤ wx +ℤ n *ℤ w) ≡ (n *ℤ n) *ℤ ((d *ℤ n) *ℤ x +ℤ (s *ℤ n) *ℤ c)
rational n t s d wx w x c e f =
    linear (n ∷ t ∷ s ∷ d ∷ wx ∷ w ∷ x ∷ c ∷ [])
    (((var 3 ⊗ var 0) ⊗ var 0) ⊗ (var 0 ⊗ var 4 ⊕ var 0 ⊗ var 5)) ((var 0 ⊗ var 0) ⊗ ((var 3 ⊗ var 0) ⊗ var 6 ⊕ (var 2 ⊗ var 0) ⊗ var 7))
    (given (var 3 ⊗ var 0 ⊗ var 0) (var 0 ⊗ ((var 4 ⊕ var 5) ⊕ num (negsuc 0) ⊗ var 6)) (var 1 ⊗ var 7)
    ∷ given (neg (var 0 ⊗ var 0 ⊗ var 7)) (var 2 ⊗ var 0) (var 1 ⊗ var 3) ∷ []) tt (e, (f, tt))

pub rational_shift : (f : Basis) (at : Vector) (m : Motion) (t : ℤ) (q : Fraction) → multiple UNIT (drift m at) ≡ multiple t f.tau → SameFraction q (part_of_edge t)
    → SamePoint (moved m (counted at)) (point_on_axis f (counted at) q)
unfolding plus multiple
rational_shift f at m t q e h =
    vector_path
    (rational UNIT t q.num q.den (image m.matrix at).x m.translation.x at.x f.tau.x (λ i. (e i).x) h)
    (rational UNIT t q.num q.den (image m.matrix at).y m.translation.y at.y f.tau.y (λ i. (e i).y) h)
    (rational UNIT t q.num q.den (image m.matrix at).z m.translation.z at.z f.tau.z (λ i. (e i).z) h)

-- the matrix across the axis, written over another number
scaled_across : (u : Vector) (f : Basis) (rods : List Motion) (w : Matrix) (a : Matrix2) (n : ℤ) → IsAcross u f rods w a (pos 1) → IsAcross u f rods w (multiple2 n a) n
unfolding plus multiple
scaled_across u f rods w a n h = record {
  first = column (image w (levelled u f rods f.a).at) a.first.x a.second.x h.first;
  second = column (image w (levelled u f rods f.b).at) a.first.y a.second.y h.second;
}
  where
    one : (n x y p q v : ℤ) → pos 1 *ℤ v ≡ x *ℤ p +ℤ y *ℤ q → n *ℤ v ≡ (n *ℤ x) *ℤ p +ℤ (n *ℤ y) *ℤ q
    one n x y p q v e =
        linear (n ∷ x ∷ y ∷ p ∷ q ∷ v ∷ []) (var 0 ⊗ var 5) ((var 0 ⊗ var 1) ⊗ var 3 ⊕ (var 0 ⊗ var 2) ⊗ var 4)
        (given (var 0) (num (pos 1) ⊗ var 5) (var 1 ⊗ var 3 ⊕ var 2 ⊗ var 4) ∷ []) tt (e, tt)

    column : (v : Vector) (x y : ℤ) → multiple (pos 1) v ≡ plus (multiple x (levelled u f rods f.a).at) (multiple y (levelled u f rods f.b).at)
        → multiple n v ≡ plus (multiple (n *ℤ x) (levelled u f rods f.a).at) (multiple (n *ℤ y) (levelled u f rods f.b).at)
    column v x y e =
        let p = (levelled u f rods f.a).at in
        let q = (levelled u f rods f.b).at in
        vector_path (one n x y p.x q.x v.x (λ i. (e i).x)) (one n x y p.y q.y v.y (λ i. (e i).y)) (one n x y p.z q.z v.z (λ i. (e i).z))

module _ (g : Listing) (u : Vector) (f : Basis) (rods : List Motion) (group : IsGroup g) (coprime : IsCoprime u) (frame : IsRodFrame g u f) (are_rods : AreRodOperations g u rods) (at : Vector) where
  further_member : (m : Motion) (k : ℤ) → IsMember g m → IsMember g (further f m k)
  further_member m k member =
      same_member g (further f m k) m
      (record { matrix = refl; translation = subst (IsInLattice g) (sym (plus-minus_first m.translation (multiple k f.tau))) (lattice-multiple g k f.tau frame.axis.inside) }) member

  further_drift : (m : Motion) (t k : ℤ) → multiple UNIT (drift m at) ≡ multiple t f.tau → multiple UNIT (drift (further f m k) at) ≡ multiple (t +ℤ k *ℤ UNIT) f.tau
  unfolding plus multiple
  further_drift m t k e =
      vector_path
      (one UNIT (image m.matrix at).x m.translation.x at.x t k f.tau.x (λ i. (e i).x))
      (one UNIT (image m.matrix at).y m.translation.y at.y t k f.tau.y (λ i. (e i).y))
      (one UNIT (image m.matrix at).z m.translation.z at.z t k f.tau.z (λ i. (e i).z))
    where
      one : (n wx w x t k c : ℤ) → n *ℤ ((wx +ℤ w) +ℤ negsuc 0 *ℤ x) ≡ t *ℤ c → n *ℤ ((wx +ℤ (w +ℤ k *ℤ c)) +ℤ negsuc 0 *ℤ x) ≡ (t +ℤ k *ℤ n) *ℤ c
      one n wx w x t k c e =
          linear (n ∷ wx ∷ w ∷ x ∷ t ∷ k ∷ c ∷ []) (var 0 ⊗ ((var 1 ⊕ (var 2 ⊕ var 5 ⊗ var 6)) ⊕ num (negsuc 0) ⊗ var 3)) ((var 4 ⊕ var 5 ⊗ var 0) ⊗ var 6)
          (given (num (pos 1)) (var 0 ⊗ ((var 1 ⊕ var 2) ⊕ num (negsuc 0) ⊗ var 3)) (var 4 ⊗ var 6) ∷ []) tt (e, tt)

  module _ (ms : List Motion) (section : List RodMotion) (lists : ListsAlong g u f (counted at) ms) (sections : AreSections u f rods (counted at) ms (map rod_of section)) where
    to_listed : (op : RationalRod) → IsRationalRod op → InRodSection g u f rods (counted at) op → IsListedRod section op
    to_listed op rational h =
        let (one, acts_one) = acts g u f rods group coprime frame are_rods at h.motion h.in_stabiliser in
        let (matrix, along, shift) = acts_once g u f rods group coprime frame are_rods at h.motion one op rational acts_one h.acts in
        let (like, in_ops, same) = listed_op g u f rods group coprime frame are_rods at ms (map rod_of section) lists sections h.motion one h.in_stabiliser acts_one in
        let (r, listed, is) = Contains-from_map rod_of section like in_ops in
        record {
          motion = r;
          listed = listed;
          matrix = matrix ∙ ap (multiple2 op.over) (same.matrix ∙ ap (λ (o : RodOperation). o.matrix) (sym is));
          along = along ∙ same.along ∙ ap (λ (o : RodOperation). o.along) (sym is);
          translation = (
            same.times,
            to_list UNIT (rod_of r).translation op.translation.num op.translation.den same.times
                (shift ∙ ap (λ x. x *ℤ op.translation.den) (same.translation ∙ ap (λ (o : RodOperation). o.translation +ℤ same.times *ℤ UNIT) (sym is))),
          );
        }

    from_listed : (op : RationalRod) → IsListedRod section op → InRodSection g u f rods (counted at) op
    from_listed op h =
        let like = rod_of h.motion in
        let (m, in_it, acts_m) = motion_of_op g u f rods group coprime frame are_rods at ms (map rod_of section) lists sections like (Contains-map rod_of section h.motion h.listed) in
        let (k, e) = h.translation in
        let n = further f m k in
        let drifts = further_drift m like.translation k ((shift_is f at m like.translation).0 acts_m.translation) in
        record {
          motion = n;
          in_stabiliser = in_stabiliser g u f rods group coprime frame are_rods at n (record like { translation = like.translation +ℤ k *ℤ UNIT }) (further_member m k in_it.0)
              (record { across = acts_m.across; axis = acts_m.axis; translation = (shift_is f at n (like.translation +ℤ k *ℤ UNIT)).1 drifts });
          acts = record {
            across = subst (λ a. IsAcross u f rods m.matrix a op.over) (sym h.matrix) (scaled_across u f rods m.matrix like.matrix op.over acts_m.across);
            axis = acts_m.axis ∙ ap (λ s. multiple (sign_value s) f.tau) (sym h.along);
            translation = rational_shift f at n (like.translation +ℤ k *ℤ UNIT) op.translation drifts (from_list UNIT like.translation op.translation.num op.translation.den k e);
          };
        }

    pub section_by_list : (op : RationalRod) → IsRationalRod op → InRodSection g u f rods (counted at) op ↔ IsListedRod section op
    section_by_list op rational = (to_listed op rational, from_listed op)
