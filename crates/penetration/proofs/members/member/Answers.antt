-- The operation is reduced modulo the lattice first.
use Rattle.std.proofs.Common.{sym, subst}
use Rattle.std.specs.Option.{option_map}
use Rattle.symmetry.specs.Sizes.{IsMatrixWithin}
use Rattle.symmetry.proofs.LatticeLaws.{same_member}
use Rattle.motions.specs.Views.{motion_of, parts}
use Rattle.closure.proofs.OwnLattice.{own_group}
use Rattle.closure.specs.Groups.{group_listing}
use Rattle.scanning.proofs.ReducedMotions.{reduced_same, reduced_small, residue_within}
use Rattle.penetration.specs.DirectionView.{direction_of}
use Rattle.penetration.specs.Lines.{InLineStabiliser}
use Rattle.penetration.specs.RodFrameView.{basis_of_rod}
use Rattle.penetration.specs.RodHomes.{IsNear}
use Rattle.penetration.specs.RodSections.{counted}
use Rattle.penetration.proofs.MadeRodFrames.{made_rod_frame}
use Rattle.penetration.proofs.NearLists.{choice_same}
use Rattle.penetration.proofs.members.member.Goals as goal

pub near_member-requires-clause-motion : goal.near_member-requires-clause-motion
near_member-requires-clause-motion c = record {
  small = reduced_small c.lattice.result.now (motion_of c.args.m.now) (motion_of c.home.result) c.home.ensures.matrix c.home.ensures.first c.requires.motion.small;
  matrix = subst (IsMatrixWithin 50) (sym c.home.ensures.matrix) c.requires.motion.matrix;
}

pub near_member-requires-clause-reduced : goal.near_member-requires-clause-reduced
near_member-requires-clause-reduced c = residue_within _ c.home.ensures.first.reduced

pub returns-clause-choice : goal.returns-clause-choice
returns-clause-choice c =
    let g = group_listing c.args.group.now in
    let q = c.args.frame.now in
    let at = parts c.args.point.now in
    let m = motion_of c.args.m.now in
    let n = motion_of c.home.result in
    let same = reduced_same c.lattice.result.now m n c.home.ensures.matrix c.home.ensures.first g c.lattice.ensures.same in
    choice_same g (IsNear (basis_of_rod q) at) (InLineStabiliser g (direction_of q.direction) (counted at)) n m same (option_map motion_of c.near_member.result)
    (c.near_member.ensures.choice g (own_group c.args.group.now) (made_rod_frame c.args.group.now q c.requires.made) (same_member g n m same c.requires.member))
