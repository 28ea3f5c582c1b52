-- Reduced modulo the lattice, and then brought home.
use Rattle.motions.specs.Views.{motion_of, row_of}
use Rattle.closure.specs.Groups.{group_listing}
use Rattle.plane_lattice.specs.FrameView.{basis_of_frame}
use Rattle.scanning.proofs.HomeMotions.{home_same, home_motion}
use Rattle.scanning.proofs.ReducedMotions.{reduced_near, reduced_same, residue_within}
use Rattle.scanning.proofs.homes.home.Goals as goal

pub home-requires-2 : goal.home-requires-2
home-requires-2 c = reduced_near c.lattice.result.now (motion_of c.args.m.now) (motion_of c.home.result) c.home.ensures.matrix c.home.ensures.first

pub returns-clause-same : goal.returns-clause-same
returns-clause-same c =
    let g = group_listing c.args.group.now in
    let q = c.args.frame.now in
    let m = motion_of c.args.m.now in
    let n = motion_of c.home.result in
    home_same g (row_of q.plane) (basis_of_frame q) c.requires.frame m n (motion_of c.home-2.result)
    (reduced_same c.lattice.result.now m n c.home.ensures.matrix c.home.ensures.first g c.lattice.ensures.same)
    c.home-2.ensures.matrix c.home-2.ensures.differs

pub returns-clause-home : goal.returns-clause-home
returns-clause-home c =
    let q = c.args.frame.now in
    home_motion (group_listing c.args.group.now) (row_of q.plane) (basis_of_frame q) c.requires.frame (motion_of c.args.m.now) (motion_of c.home.result) (motion_of c.home-2.result)
    q.plane.in_range q.a_in_range q.b_in_range q.tau_in_range c.requires.small
    c.home.ensures.matrix (residue_within _ c.home.ensures.first.reduced)
    c.home-2.ensures.matrix c.home-2.ensures.level c.home-2.ensures.at_home
