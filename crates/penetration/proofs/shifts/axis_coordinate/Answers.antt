-- The first two coordinates tell, and the third is the number.
use Rattle.std.proofs.Common.{rules, FitsSigned, pos, of_z, ap, ◌∙◌}
use Rattle.std.specs.Int.{w128}
use Rattle.std.proofs.lemmas.Int.{to_z-of_z}
use Rattle.integers.proofs.Wide.{zero_is}
use Rattle.symmetry.specs.Vectors.{multiple}
use Rattle.motions.specs.BasisView.{basis_of}
use Rattle.motions.specs.Views.{parts, vector_of}
use Rattle.penetration.proofs.AxisTests.{along_by_coordinates, on_axis}
use Rattle.penetration.proofs.LineMembers.{only_axis}
use Rattle.penetration.proofs.shifts.axis_coordinate.Goals as goal
use Rattle.penetration.proofs.shifts.axis_coordinate.Goals.{else-c-eq0-via-then-c-eq0+else-c-eq0-2, else-c-eq0-via-else-c-eq0}

pub returns-then-c-eq0-2 : goal.returns-then-c-eq0-2
returns-then-c-eq0-2 c =
    let v = vector_of c.in-Some.c in
    let f = basis_of c.args.dual.now.basis in
    let x : FitsSigned w128 v.x = search rules in
    let y : FitsSigned w128 v.y = search rules in
    let z : FitsSigned w128 v.z = search rules in
    ap (λ k. multiple k f.tau) (to_z-of_z w128 v.z z) ∙ on_axis f (parts c.args.v.now) v (zero_is v.x x c.if-c-eq0.true) (zero_is v.y y c.if-c-eq0-2.true) c.in-Some.ensures

pub returns-else-c-eq0 : goal.returns-else-c-eq0
returns-else-c-eq0 c h =
    let v = vector_of c.in-Some.c in
    let zeros = (along_by_coordinates (basis_of c.args.dual.now.basis) (parts c.args.v.now) v c.requires.volume c.in-Some.ensures).1 h in
    elim c.else-c-eq0.branch [
      | else-c-eq0-via-then-c-eq0+else-c-eq0-2 w ↦ w.if-c-eq0-2.false (ap (of_z w128) zeros.1)
      | else-c-eq0-via-else-c-eq0 w ↦ w.if-c-eq0.false (ap (of_z w128) zeros.0)
    ]

pub returns-in-None : goal.returns-in-None
returns-in-None c (k, e) = c.in-None.ensures (record { x = pos 0; y = pos 0; z = k }, only_axis (basis_of c.args.dual.now.basis) k ∙ e)
