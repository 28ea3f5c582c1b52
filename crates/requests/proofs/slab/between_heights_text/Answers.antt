use Rattle.std.proofs.Common.{map, ◌∙◌, ap, List, Err, refl}
use Rattle.std.proofs.lemmas.Result.{err_from_is_err_and}
use Rattle.fractions.specs.FractionOf.{fraction_of}
use Rattle.motions.specs.BasisView.{basis_of}
use Rattle.motions.specs.Views.{motion_of, row_of}
use Rattle.motions.specs.declared.motion.Motion3.{Motion3}
use Rattle.closure.specs.Groups.{group_listing}
use Rattle.closure.proofs.OwnLattice.{own_listing}
use Rattle.plane_lattice.proofs.MadeFrames.{made_frame}
use Rattle.report.specs.SlabTexts.{slab_text}
use Rattle.requests.proofs.SlabAnswers.{slab_answer, slab_obstacle}
use Rattle.requests.proofs.slab.between_heights_text.Goals as goal

pub make-requires-2 : goal.make-requires-2
make-requires-2 c =
    let group = c.args.group.now in
    made_frame group c.in_ok-frame.frame (c.args.plane, c.args.basis, c.in_ok-frame.ensures.made (group_listing group) (own_listing group))

pub returns-in_err-frame-clause-obstacle : goal.returns-in_err-frame-clause-obstacle
returns-in_err-frame-clause-obstacle c =
    let p = err_from_is_err_and c.from_residual.result c.from_residual.ensures.1 in
    rw (p.1, p.2) (λ g of. (c.in_err-frame.field-0.0, (c.in_err-frame.ensures.refused g of c.in_err-frame.field-0.0).0 refl, refl))

pub returns-in_err-operations-clause-obstacle : goal.returns-in_err-operations-clause-obstacle
returns-in_err-operations-clause-obstacle c =
    let p = err_from_is_err_and c.from_residual-in_err-operations.result c.from_residual-in_err-operations.ensures.1 in
    rw (p.1, p.2) (slab_obstacle (row_of c.args.plane) (basis_of c.args.basis) (fraction_of c.args.low) (fraction_of c.args.high)
    c.args.group.now c.in_err-operations.field-0.0 c.requires (λ e. c.in_err-operations.ensures.large.0 (ap Err e)))

pub returns-clause-text : goal.returns-clause-text
returns-clause-text c = λ g of. slab_answer g c.args.plane c.args.basis c.in_ok-frame.frame (c.in_ok-frame.ensures.made g of) c.args.group.now of
    (fraction_of c.args.low) (fraction_of c.args.high) c.in_ok-scan.scan (map motion_of c.in_ok-operations.operations.items)
    c.in_ok-slab_text.field-0.items (c.in_ok-scan.ensures g of) c.in_ok-operations.ensures.list
    (c.in_ok-slab_text.ensures
    ∙ ap (λ (ops : List Motion3). slab_text (fraction_of c.args.low) (fraction_of c.args.high) (map motion_of ops)) c.deref.ensures.value)
