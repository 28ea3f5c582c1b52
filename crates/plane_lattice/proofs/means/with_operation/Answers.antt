-- The sign of the operation.
use Rattle.std.proofs.Common.{refl, sym, ap, ◌∙◌}
use Rattle.symmetry.specs.Vectors.{image, plus, minus}
use Rattle.motions.specs.Signs.{sign_value}
use Rattle.motions.specs.Views.{motion_of, parts, row_of}
use Rattle.plane_lattice.proofs.Scanning.{with_plus, with_minus, with_none}
use Rattle.plane_lattice.proofs.means.with_operation.Goals as goal

pub returns-in-Some-Plus : goal.returns-in-Some-Plus
returns-in-Some-Plus c =
    let m = motion_of c.args.m.now in
    with_plus (row_of c.args.plane.now) m (parts c.sum.result) (parts c.args.total.now) (image m.matrix (parts c.args.tau.now))
    (c.in-Some-Plus.ensures.keeps.0 refl) (sym (ap sign_value c.in-Some-Plus.field-0-is) ∙ c.in-Some-Plus.ensures.value)
    (c.sum.ensures ∙ ap (plus (parts c.args.total.now)) c.image.ensures.is)

pub returns-in-Some-Minus : goal.returns-in-Some-Minus
returns-in-Some-Minus c =
    let m = motion_of c.args.m.now in
    with_minus (row_of c.args.plane.now) m (parts c.difference.result) (parts c.args.total.now) (image m.matrix (parts c.args.tau.now))
    (c.in-Some-Minus.ensures.keeps.0 refl) (sym (ap sign_value c.in-Some-Minus.field-0-is) ∙ c.in-Some-Minus.ensures.value)
    (c.difference.ensures ∙ ap (minus (parts c.args.total.now)) c.image-in-Some-Minus.ensures.is)

pub returns-in-None : goal.returns-in-None
returns-in-None c =
    let m = motion_of c.args.m.now in
    with_none (row_of c.args.plane.now) m _ (parts c.args.total.now) (image m.matrix (parts c.args.tau.now))
    (λ k. cc (c.in-None.ensures.keeps.1 k)) refl
