-- A, e and t by the sign, the drift and coordinates in a and b.
use Rattle.std.proofs.Common.{rules, ◌≡◌, inl, inr, ℤ, pos, ◌∙◌, sym, ap, subst, FitsSigned, w64}
use Rattle.std.proofs.lemmas.Int.{to_z-of_z}
use Rattle.fractions.specs.declared.part.TheConstants.{UNIT}
use Rattle.integers.proofs.Coded.{again}
use Rattle.symmetry.specs.Frames.{Basis, combination}
use Rattle.symmetry.specs.Vectors.{Vector, image, multiple}
use Rattle.motions.specs.BasisView.{basis_of}
use Rattle.motions.specs.PlaneViews.{pair_of}
use Rattle.motions.specs.Signs.{sign_value}
use Rattle.motions.specs.Views.{motion_of, parts}
use Rattle.motions.specs.Laws.SignLaws.{sign_is_sign}
use Rattle.closure.proofs.OwnLattice.{own_group}
use Rattle.closure.specs.Groups.{group_listing}
use Rattle.plane_lattice.specs.Coordinates.{IsCombination}
use Rattle.penetration.specs.DirectionView.{direction_of}
use Rattle.penetration.specs.RodFrameView.{basis_of_rod}
use Rattle.penetration.specs.RodFrames.{IsAcross}
use Rattle.penetration.specs.RodHomes.{IsAlongAxis}
use Rattle.penetration.specs.RodSections.{drift}
use Rattle.penetration.proofs.DirectionSigns.{keeps_by_sign, multiple_turned}
use Rattle.penetration.proofs.LineMembers.{in_by_drift, keeps_direction_of}
use Rattle.penetration.proofs.MadeRodFrames.{drift_in_parts, made_rod_frame, made_rod_not_skewed, rod_turned_near, turned_a, turned_b}
use Rattle.penetration.proofs.RodAcross.{image-level}
use Rattle.penetration.proofs.RodActions.{shift_is, unit_positive}
use Rattle.penetration.proofs.frame.RodFrame.section.Goals as goal

-- what is told by the code's basis and vector of what is meant
module _ (f b : Basis) (same : b ≡ f) (image_of : Basis → Vector) (u : Vector) (is : u ≡ image_of b) where
  meant : (c : Vector) → combination b c ≡ u → combination f c ≡ image_of f
  meant c e = (λ i. combination (sym same i) c) ∙ e ∙ is ∙ ap image_of same

  meant_not : ¬ IsCombination b u → ¬ IsCombination f (image_of f)
  meant_not none (c, e) = none (c, (λ i. combination (same i) c) ∙ e ∙ sym (is ∙ ap image_of same))

-- the same for multiples of the axis
along_not : (f b : Basis) (v w : Vector) → b ≡ f → v ≡ w → ¬ IsAlongAxis b (multiple UNIT v) → ¬ IsAlongAxis f (multiple UNIT w)
along_not f b v w same is none =
    subst (λ (x : Basis). ¬ IsAlongAxis x (multiple UNIT w)) same (subst (λ (x : Vector). ¬ IsAlongAxis b (multiple UNIT x)) is none)

along_is : (f b : Basis) (v w : Vector) → b ≡ f → v ≡ w → (t : ℤ) → multiple t b.tau ≡ multiple UNIT v → multiple t f.tau ≡ multiple UNIT w
along_is f b v w same is t e = ap (λ (x : Basis). multiple t x.tau) (sym same) ∙ e ∙ ap (multiple UNIT) is

pub returns-in_err-e-clause-exact : goal.returns-in_err-e-clause-exact
returns-in_err-e-clause-exact c =
    let q = c.args.self.now in
    let m = motion_of c.args.m.now in
    let not : ¬ _ = λ keeps. c.in_err-e.ensures
    (keeps_direction_of (group_listing c.args.group.now) (direction_of q.direction) (basis_of_rod q) (own_group c.args.group.now) q.direction.coprime
    (made_rod_frame c.args.group.now q c.requires.made) (parts c.args.point) m (c.requires.member, keeps)) in
    rw c.from_residual.ensures not

pub returns-in_err-t-clause-exact : goal.returns-in_err-t-clause-exact
returns-in_err-t-clause-exact c =
    let q = c.args.self.now in
    let m = motion_of c.args.m.now in
    let none = along_not (basis_of_rod q) (basis_of c.dual-dual.result.basis) (parts c.drift.result) (drift m (parts c.args.point)) c.dual-dual.ensures c.drift.ensures.is c.in_err-t.ensures in
    let not : ¬ _ = λ keeps. none
    (drift_in_parts (group_listing c.args.group.now) (direction_of q.direction) (basis_of_rod q) (own_group c.args.group.now) q.direction.coprime
    (made_rod_frame c.args.group.now q c.requires.made) m (parts c.args.point) (c.requires.member, keeps)) in
    rw c.from_residual-in_err-t.ensures not

pub coordinates_across-requires-clause-near : goal.coordinates_across-requires-clause-near
coordinates_across-requires-clause-near c v e =
    let q = c.args.self.now in
    let m = motion_of c.args.m.now in
    let keeps = keeps_by_sign (direction_of q.direction) m (sign_value c.in_ok-e.e) (sign_is_sign c.in_ok-e.e) c.in_ok-e.ensures in
    rod_turned_near (group_listing c.args.group.now) (direction_of q.direction) (basis_of_rod q) m (made_rod_not_skewed c.args.group.now q c.requires.made) c.requires.member keeps v
    (inl (meant (basis_of_rod q) (basis_of c.dual-dual.result.basis) c.dual-dual.ensures (λ b. image m.matrix b.a) (parts c.image.result) c.image.ensures.is v e))

pub returns-in_err-first-clause-exact : goal.returns-in_err-first-clause-exact
returns-in_err-first-clause-exact c =
    let q = c.args.self.now in
    let m = motion_of c.args.m.now in
    absurd (meant_not (basis_of_rod q) (basis_of c.dual-dual.result.basis) c.dual-dual.ensures (λ b. image m.matrix b.a) (parts c.image.result) c.image.ensures.is c.in_err-first.ensures.is
    (turned_a (group_listing c.args.group.now) (direction_of q.direction) (basis_of_rod q) (own_group c.args.group.now) q.direction.coprime
    (made_rod_frame c.args.group.now q c.requires.made) m c.requires.member))

pub coordinates_across-requires-2-clause-near : goal.coordinates_across-requires-2-clause-near
coordinates_across-requires-2-clause-near c v e =
    let q = c.args.self.now in
    let m = motion_of c.args.m.now in
    let keeps = keeps_by_sign (direction_of q.direction) m (sign_value c.in_ok-e.e) (sign_is_sign c.in_ok-e.e) c.in_ok-e.ensures in
    rod_turned_near (group_listing c.args.group.now) (direction_of q.direction) (basis_of_rod q) m (made_rod_not_skewed c.args.group.now q c.requires.made) c.requires.member keeps v
    (inr (inl (meant (basis_of_rod q) (basis_of c.dual-dual.result.basis) c.dual-dual.ensures (λ b. image m.matrix b.b) (parts c.image-2.result) c.image-2.ensures.is v e)))

pub returns-in_err-second-clause-exact : goal.returns-in_err-second-clause-exact
returns-in_err-second-clause-exact c =
    let q = c.args.self.now in
    let m = motion_of c.args.m.now in
    absurd (meant_not (basis_of_rod q) (basis_of c.dual-dual.result.basis) c.dual-dual.ensures (λ b. image m.matrix b.b) (parts c.image-2.result) c.image-2.ensures.is c.in_err-second.ensures.is
    (turned_b (group_listing c.args.group.now) (direction_of q.direction) (basis_of_rod q) (own_group c.args.group.now) q.direction.coprime
    (made_rod_frame c.args.group.now q c.requires.made) m c.requires.member))

pub returns-clause-exact : goal.returns-clause-exact
returns-clause-exact c =
    let q = c.args.self.now in
    let m = motion_of c.args.m.now in
    let keeps = keeps_by_sign (direction_of q.direction) m (sign_value c.in_ok-e.e) (sign_is_sign c.in_ok-e.e) c.in_ok-e.ensures in
    (in_by_drift (group_listing c.args.group.now) (direction_of q.direction) (basis_of_rod q) (own_group c.args.group.now) q.direction.coprime
    (made_rod_frame c.args.group.now q c.requires.made) (parts c.args.point) m UNIT c.in_ok-t.t c.requires.member keeps unit_positive
    (sym (along_is (basis_of_rod q) (basis_of c.dual-dual.result.basis) (parts c.drift.result) (drift m (parts c.args.point)) c.dual-dual.ensures c.drift.ensures.is c.in_ok-t.t c.in_ok-t.ensures))).1

pub returns-clause-acts : goal.returns-clause-acts
returns-clause-acts c = λ rods are.
    let q = c.args.self.now in
    let g = group_listing c.args.group.now in
    let u = direction_of q.direction in
    let f = basis_of_rod q in
    let b = basis_of c.dual-dual.result.basis in
    let m = motion_of c.args.m.now in
    let frame = made_rod_frame c.args.group.now q c.requires.made in
    let fits : FitsSigned w64 c.in_ok-t.t = search rules in
    let keeps = keeps_by_sign u m (sign_value c.in_ok-e.e) (sign_is_sign c.in_ok-e.e) c.in_ok-e.ensures in
    let v : Vector = record { x = (pair_of c.in_ok-first.first).x; y = (pair_of c.in_ok-first.first).y; z = c.in_ok-first.ensures.is.0 } in
    let w : Vector = record { x = (pair_of c.in_ok-second.second).x; y = (pair_of c.in_ok-second.second).y; z = c.in_ok-second.ensures.is.0 } in
    let first = image-level g u f rods (own_group c.args.group.now) q.direction.coprime frame are m c.requires.member keeps f.a v
    (meant f b c.dual-dual.ensures (λ b. image m.matrix b.a) (parts c.image.result) c.image.ensures.is v c.in_ok-first.ensures.is.1) in
    let second = image-level g u f rods (own_group c.args.group.now) q.direction.coprime frame are m c.requires.member keeps f.b w
    (meant f b c.dual-dual.ensures (λ b. image m.matrix b.b) (parts c.image-2.result) c.image-2.ensures.is w c.in_ok-second.ensures.is.1) in
    record {
      across = subst (λ a. IsAcross u f rods m.matrix a (pos 1)) (sym c.matrix_of_columns.ensures) (record { first = first; second = second });
      axis = multiple_turned u f.tau m.matrix frame.axis.times (sign_value c.in_ok-e.e) frame.axis.is c.in_ok-e.ensures;
      translation = (shift_is f (parts c.args.point) m (again c.in_ok-t.t)).1
          (sym (along_is f b (parts c.drift.result) (drift m (parts c.args.point)) c.dual-dual.ensures c.drift.ensures.is (again c.in_ok-t.t)
          (ap (λ k. multiple k b.tau) (to_z-of_z w64 c.in_ok-t.t fits) ∙ c.in_ok-t.ensures)));
    }
