-- One operation after the other.
use Rattle.std.proofs.Common.{◌≡◌, ℕ, [], ◌∙◌, subst, sym, refl, below_more, get_or, arith}
use Rattle.std.proofs.lemmas.List.{get_or_default}
use Rattle.symmetry.specs.Frames.{KeepsOrientation, sign_at}
use Rattle.symmetry.specs.Sizes.{IsSmall}
use Rattle.symmetry.specs.Vectors.{image, multiple}
use Rattle.motions.specs.Views.{motion_of, parts, row_of}
use Rattle.motions.specs.declared.motion.Motion3.{Motion3}
use Rattle.line_frames.specs.Searches.{other, same}
use Rattle.line_frames.proofs.Listed.{each_up, up_at_place}
use Rattle.line_frames.proofs.means.other_up.Goals as goal
use Rattle.line_frames.proofs.means.other_up.Goals.{in-Some+else-not-is_same, in_default}
use Rattle.quotient.proofs.Items.{All-item_at}

pub up_by-requires-clause-motion : goal.up_by-requires-clause-motion
up_by-requires-clause-motion c = All-item_at motion_of c.args.ops.now IsSmall c.loop-m.m-index _ c.requires.operations c.loop-m-test.true

pub returns-then-not-is_same-clause-is : goal.returns-then-not-is_same-clause-is
returns-then-not-is_same-clause-is c =
    other (up_at_place (row_of c.args.plane.now) (parts c.args.tau.now) c.args.ops.now c.loop-m.m-index _ (parts c.in-Some.up) c.loop-m-test.true
    c.in-Some.ensures.is.0 c.in-Some.ensures.is.1)
    (λ e. cc (c.if-not-is_same.true, c.is_same.ensures.1 e))

pub loop-m-preserved : goal.loop-m-preserved
loop-m-preserved c k d =
    let r = row_of c.args.plane.now in
    let tau = parts c.args.tau.now in
    let ops = c.args.ops.now in
    let Kept : Motion3 → Type 0 = λ m. KeepsOrientation r (motion_of m) → multiple (sign_at r (motion_of m)) (image (motion_of m).matrix tau) ≡ tau in
    let last : Kept (get_or ops c.loop-m.m-index (record { w = []; t = [] })) =
    elim c.match-up_by.branch [
      | in-Some+else-not-is_same w ↦ λ keeps. sym w.in-Some.ensures.is.1 ∙ w.is_same.ensures.0 w.if-not-is_same.false
      | in_default w ↦ λ keeps. absurd (w.in_default.ensures.is keeps)
    ] in
    below_more (λ (k : ℕ). Kept (get_or ops k d)) c.loop-m.m-index (λ k. c.loop-m.invariant k d)
    (subst Kept (sym (get_or_default ops c.loop-m.m-index d _ c.loop-m-test.true)) last) k

pub returns-clause-is : goal.returns-clause-is
returns-clause-is c =
    same refl (each_up (row_of c.args.plane.now) (parts c.args.tau.now) c.args.ops.now (λ k d h. c.loop-m.invariant k d (omega (arith, h, c.loop-m-test.false))))
