-- Each coordinate is a whole number where the volume divides it.
use Rattle.std.proofs.Common.{rules, FitsSigned}
use Rattle.std.specs.Int.{w128}
use Rattle.motions.specs.BasisView.{basis_of}
use Rattle.motions.specs.Views.{parts, vector_of}
use Rattle.plane_lattice.proofs.Passed.{no_x, no_y, no_z, all_whole}
use Rattle.plane_lattice.proofs.dual_basis.DualBasis.coordinates.Goals as goal

pub returns-in_err-whole_quotient : goal.returns-in_err-whole_quotient
returns-in_err-whole_quotient c =
    rw c.from_residual.ensures
    (no_x (basis_of c.args.self.now.basis) (parts c.args.v.now) c.args.self.now.volume (vector_of c.scaled.result)
    c.args.self.now.volume_small c.args.self.now.volume_is c.scaled.ensures.small c.scaled.ensures.is c.in_err-whole_quotient.ensures.is)

pub returns-in_err-whole_quotient-2 : goal.returns-in_err-whole_quotient-2
returns-in_err-whole_quotient-2 c =
    rw c.from_residual-in_err-whole_quotient-2.ensures
    (no_y (basis_of c.args.self.now.basis) (parts c.args.v.now) c.args.self.now.volume (vector_of c.scaled.result)
    c.args.self.now.volume_small c.args.self.now.volume_is c.scaled.ensures.small c.scaled.ensures.is c.in_err-whole_quotient-2.ensures.is)

pub returns-in_err-whole_quotient-3 : goal.returns-in_err-whole_quotient-3
returns-in_err-whole_quotient-3 c =
    rw c.from_residual-in_err-whole_quotient-3.ensures
    (no_z (basis_of c.args.self.now.basis) (parts c.args.v.now) c.args.self.now.volume (vector_of c.scaled.result)
    c.args.self.now.volume_small c.args.self.now.volume_is c.scaled.ensures.small c.scaled.ensures.is c.in_err-whole_quotient-3.ensures.is)

pub returns : goal.returns
returns c =
    let p : FitsSigned w128 c.in_ok-whole_quotient.field-0 = search rules in
    let q : FitsSigned w128 c.in_ok-whole_quotient-2.field-0 = search rules in
    let s : FitsSigned w128 c.in_ok-whole_quotient-3.field-0 = search rules in
    all_whole (basis_of c.args.self.now.basis) (parts c.args.v.now) c.args.self.now.volume (vector_of c.scaled.result)
    c.args.self.now.volume_small c.args.self.now.volume_is c.scaled.ensures.small c.scaled.ensures.is c.requires.volume
    c.in_ok-whole_quotient.field-0 c.in_ok-whole_quotient-2.field-0 c.in_ok-whole_quotient-3.field-0 p q s
    c.in_ok-whole_quotient.ensures.is c.in_ok-whole_quotient-2.ensures.is c.in_ok-whole_quotient-3.ensures.is
