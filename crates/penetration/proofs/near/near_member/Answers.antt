-- The motion is taken back to the line, where its coordinates along a and b are whole.
use Rattle.std.proofs.Common.{◌≡◌, ◌^◌, ◌∙◌, None, Some, refl, sym, ap, subst, lit≤}
use Rattle.symmetry.specs.Frames.{Basis, combination}
use Rattle.symmetry.specs.Groups.{SameModulo}
use Rattle.symmetry.specs.Lists.{IsChoice}
use Rattle.symmetry.specs.Motions.{Motion}
use Rattle.symmetry.specs.Sizes.{IsMatrixWithin, IsVectorWithin}
use Rattle.symmetry.specs.Vectors.{Vector, minus}
use Rattle.symmetry.proofs.MotionLaws.{motion_path}
use Rattle.motions.specs.BasisView.{basis_of}
use Rattle.symmetry.proofs.Sizes.{IsVectorWithin-more}
use Rattle.motions.specs.Views.{motion_of, parts, vector_of}
use Rattle.plane_lattice.specs.Bounds.{largest_entry}
use Rattle.penetration.specs.declared.frame.RodFrame.{RodFrame}
use Rattle.penetration.specs.DirectionView.{direction_of}
use Rattle.penetration.specs.Lines.{InLineStabiliser}
use Rattle.penetration.specs.RodFrameView.{basis_of_rod}
use Rattle.penetration.specs.RodHomes.{AreStepsBack, HasWholeSteps, IsNear}
use Rattle.penetration.specs.RodSections.{counted, drift}
use Rattle.penetration.proofs.LineMembers.{apart_choice, back_choice, taken_back, turned_choice}
use Rattle.penetration.proofs.StepsBack.{near_within}
use Rattle.penetration.proofs.near.near_member.Goals as goal

-- the steps, by the vectors that they were computed from
steps : (q : RodFrame) (m : Motion) (at v d : Vector) (b : Basis) → b ≡ basis_of_rod q → d ≡ drift m at → AreStepsBack b d v
    → AreStepsBack (basis_of_rod q) (drift m at) v
steps q m at v d b same is h = subst (λ (x : Basis). AreStepsBack x (drift m at) v) same (subst (λ (x : Vector). AreStepsBack b x v) is h)

within : (q : RodFrame) (m : Motion) (at v : Vector) (b : Basis) → b ≡ basis_of_rod q → AreStepsBack (basis_of_rod q) (drift m at) v
    → IsMatrixWithin 50 m.matrix → IsVectorWithin largest_entry at → IsVectorWithin (2 ^ 23) (minus m.translation (combination b v))
within q m at v b same h matrix point =
    let P : Vector → Type 0 = IsVectorWithin (2 ^ 23) in
    subst P (ap (λ (x : Basis). minus m.translation (combination x v)) (sym same)) (near_within (basis_of_rod q) at v m h matrix point q.axis_in_range)

pub returns-then-not-keeps_direction-clause-choice : goal.returns-then-not-keeps_direction-clause-choice
returns-then-not-keeps_direction-clause-choice c = λ g group frame member.
    let q = c.args.frame.now in
    turned_choice g (direction_of q.direction) (basis_of_rod q) group q.direction.coprime frame (parts c.args.point.now) (motion_of c.args.m.now)
    (λ k. absurd (cc (c.if-not-keeps_direction.true, c.keeps_direction.ensures.1 k)))

pub returns-in_err-back-clause-choice : goal.returns-in_err-back-clause-choice
returns-in_err-back-clause-choice c = λ g group frame member.
    let q = c.args.frame.now in
    let at = parts c.args.point.now in
    let m = motion_of c.args.m.now in
    let none : ¬ HasWholeSteps (basis_of_rod q) (drift m at) =
    subst (λ (b : Basis). ¬ HasWholeSteps b (drift m at)) c.dual-dual.ensures
    (subst (λ (d : Vector). ¬ HasWholeSteps (basis_of c.dual-dual.result.basis) d) c.drift.ensures.is c.in_err-back.ensures.is) in
    let choice : IsChoice (SameModulo g) (IsNear (basis_of_rod q) at) (InLineStabiliser g (direction_of q.direction) (counted at)) m None =
    apart_choice g (direction_of q.direction) (basis_of_rod q) group q.direction.coprime frame at m none in
    rw c.from_residual.ensures choice

pub without-requires-clause-rest : goal.without-requires-clause-rest
without-requires-clause-rest c = IsVectorWithin-more (within c.args.frame.now (motion_of c.args.m.now) (parts c.args.point.now) (vector_of c.in_ok-back.back) (basis_of c.dual-dual.result.basis) c.dual-dual.ensures
    (steps c.args.frame.now (motion_of c.args.m.now) (parts c.args.point.now) (vector_of c.in_ok-back.back) (parts c.drift.result) (basis_of c.dual-dual.result.basis) c.dual-dual.ensures c.drift.ensures.is c.in_ok-back.ensures.is)
    c.requires.motion.matrix c.requires.point) (lit≤ tt)

pub returns-clause-choice : goal.returns-clause-choice
returns-clause-choice c = λ g group frame member.
    let q = c.args.frame.now in
    let f = basis_of_rod q in
    let at = parts c.args.point.now in
    let m = motion_of c.args.m.now in
    let v = vector_of c.in_ok-back.back in
    let is : motion_of (record { w = c.args.m.now.w; t = c.without.result }) ≡ taken_back f v m =
    motion_path refl (c.without.ensures ∙ ap (λ (b : Basis). minus m.translation (combination b v)) c.dual-dual.ensures) in
    subst (λ (x : Motion). IsChoice (SameModulo g) (IsNear f at) (InLineStabiliser g (direction_of q.direction) (counted at)) m (Some x)) (sym is)
    (back_choice g (direction_of q.direction) f group q.direction.coprime frame at m v member (c.keeps_direction.ensures.0 c.if-not-keeps_direction.false) (steps q m at v (parts c.drift.result) (basis_of c.dual-dual.result.basis) c.dual-dual.ensures c.drift.ensures.is c.in_ok-back.ensures.is))

pub returns-clause-small : goal.returns-clause-small
returns-clause-small c =
    let P : Vector → Type 0 = IsVectorWithin (2 ^ 23) in
    let near : IsVectorWithin (2 ^ 23) (parts c.without.result) = subst P (sym c.without.ensures)
    (within c.args.frame.now (motion_of c.args.m.now) (parts c.args.point.now) (vector_of c.in_ok-back.back) (basis_of c.dual-dual.result.basis) c.dual-dual.ensures
    (steps c.args.frame.now (motion_of c.args.m.now) (parts c.args.point.now) (vector_of c.in_ok-back.back) (parts c.drift.result) (basis_of c.dual-dual.result.basis) c.dual-dual.ensures c.drift.ensures.is c.in_ok-back.ensures.is)
    c.requires.motion.matrix c.requires.point) in
    record {
      motion = record { small = record { matrix = c.requires.motion.small.matrix; translation = IsVectorWithin-more near (lit≤ tt) }; matrix = c.requires.motion.matrix };
      translation = near;
    }
