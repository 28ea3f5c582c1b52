-- Each operation is moved.
use Rattle.std.proofs.Common.{ℤ, subst}
use Rattle.std.specs.Int.{w64}
use Rattle.std.specs.List.{AllZip}
use Rattle.std.proofs.lemmas.Int.{to_z-of_z}
use Rattle.std.proofs.lemmas.List.{take_more}
use Rattle.quotient.proofs.Zips.{zip_all, zip_more}
use Rattle.motions.specs.Views.{motion_of, row_of}
use Rattle.motions.specs.declared.motion.Motion3.{Motion3}
use Rattle.plane_lattice.specs.FrameView.{basis_of_frame}
use Rattle.plane_lattice.specs.declared.frame.Frame.{Frame}
use Rattle.scanning.specs.Conjugates.{IsMoved}
use Rattle.scanning.proofs.at.moved.Goals as goal

abbrev Moves : Frame → ℤ → Motion3 → Motion3 → Type 0
Moves q k m n = IsMoved (row_of q.plane) (basis_of_frame q) k (motion_of m) (motion_of n)

pub loop-m-preserved : goal.loop-m-preserved
loop-m-preserved c =
    let q = c.args.frame.now in
    zip_more (Moves q _) _ _ _ _ _ _ (take_more c.args.ops.now c.loop-m.m-index _ c.loop-m-test.true) c.in_ok-push.ensures.items c.loop-m.invariant c.moved_by.ensures

pub returns : goal.returns
returns c =
    let q = c.args.frame.now in
    let P : ℤ → Type 0 = λ k. AllZip (Moves q k) c.args.ops.now c.loop-m.moved.items in
    subst P (to_z-of_z w64 c.args.k c.ranges.k) (zip_all (Moves q _) c.args.ops.now c.loop-m.moved.items c.loop-m.m-index c.loop-m-test.false c.loop-m.invariant)
