use Rattle.closure.specs.Groups.{group_listing}
use Rattle.closure.proofs.OwnLattice.{own_listing}
use Rattle.report.proofs.report_tests.report_of.Goals as goal

pub make-requires-2 : goal.make-requires-2
make-requires-2 c = (c.args.plane, c.args.basis, c.in_ok-frame.ensures.made (group_listing c.args.group.now) (own_listing c.args.group.now))
