-- The coordinates along a and b are whole, or there is none.
use Rattle.std.proofs.Common.{rules, FitsSigned}
use Rattle.std.specs.Int.{w128}
use Rattle.motions.specs.BasisView.{basis_of}
use Rattle.motions.specs.Views.{parts, vector_of}
use Rattle.penetration.proofs.StepsBack.{no_first, no_second, steps_back}
use Rattle.penetration.proofs.near.steps_back.Goals as goal

pub returns-in_err-first-clause-is : goal.returns-in_err-first-clause-is
returns-in_err-first-clause-is c =
    let d = c.args.dual.now in
    rw c.from_residual.ensures
    (no_first (basis_of d.basis) (parts c.args.v.now) d.volume (vector_of c.scaled.result) d.volume_small d.volume_is c.scaled.ensures.small c.scaled.ensures.is c.in_err-first.ensures.is)

pub returns-in_err-second-clause-is : goal.returns-in_err-second-clause-is
returns-in_err-second-clause-is c =
    let d = c.args.dual.now in
    rw c.from_residual-in_err-second.ensures
    (no_second (basis_of d.basis) (parts c.args.v.now) d.volume (vector_of c.scaled.result) d.volume_small d.volume_is c.scaled.ensures.small c.scaled.ensures.is c.in_err-second.ensures.is)

pub returns-clause-is : goal.returns-clause-is
returns-clause-is c =
    let d = c.args.dual.now in
    let p : FitsSigned w128 c.in_ok-first.first = search rules in
    let q : FitsSigned w128 c.in_ok-second.second = search rules in
    steps_back (basis_of d.basis) (parts c.args.v.now) d.volume (vector_of c.scaled.result) d.volume_small d.volume_is c.scaled.ensures.small c.scaled.ensures.is
    c.requires.volume c.in_ok-first.first c.in_ok-second.second c.floor.result p q c.floor.ensures.small c.in_ok-first.ensures.is c.in_ok-second.ensures.is c.floor.ensures.is
