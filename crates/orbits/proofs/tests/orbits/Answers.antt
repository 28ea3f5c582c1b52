use Rattle.std.proofs.Common.{subst, sym}
use Rattle.symmetry.specs.Frames.{IsFrame}
use Rattle.motions.specs.Views.{row_of}
use Rattle.closure.specs.Groups.{group_listing}
use Rattle.closure.proofs.OwnLattice.{own_listing}
use Rattle.plane_lattice.specs.FrameView.{basis_of_frame}
use Rattle.plane_lattice.specs.declared.frame.Frame.{Frame}
use Rattle.plane_lattice.proofs.MadeFrames.{made_frame}
use Rattle.orbits.proofs.tests.orbits.Goals as goal

pub make-requires-2 : goal.make-requires-2
make-requires-2 c =
    let group = c.args.group.now in
    made_frame group c.in_ok-frame.frame (c.args.plane, c.args.basis, c.in_ok-frame.ensures.made (group_listing group) (own_listing group))

pub height_orbits-requires : goal.height_orbits-requires
height_orbits-requires c =
    let group = c.args.group.now in
    let made = c.in_ok-frame.ensures.made (group_listing group) (own_listing group) in
    subst (λ (f : Frame). IsFrame (group_listing group) (row_of f.plane) (basis_of_frame f))
    (sym (c.in_ok-scan.ensures (group_listing group) (own_listing group)).frame_is)
    (made_frame group c.in_ok-frame.frame (c.args.plane, c.args.basis, made))
