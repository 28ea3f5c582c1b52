-- A frame that is made is one.
use Rattle.closure.specs.Groups.{group_listing}
use Rattle.closure.proofs.OwnLattice.{own_listing}
use Rattle.plane_lattice.proofs.MadeFrames.{made_frame}
use Rattle.slabs.proofs.tests.scan_along.Goals as goal

pub make-requires-2 : goal.make-requires-2
make-requires-2 c =
    let group = c.args.group.now in
    made_frame group c.in_ok-frame.frame (c.args.plane, c.args.basis, c.in_ok-frame.ensures.made (group_listing group) (own_listing group))
