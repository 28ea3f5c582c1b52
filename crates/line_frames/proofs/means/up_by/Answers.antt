-- By the sign.
use Rattle.std.proofs.Common.{refl, sym, ap, ◌∙◌}
use Rattle.symmetry.specs.Vectors.{image, multiple}
use Rattle.symmetry.proofs.VectorLaws.{multiple-one}
use Rattle.motions.specs.Signs.{sign_value}
use Rattle.motions.specs.Views.{motion_of, parts}
use Rattle.line_frames.proofs.means.up_by.Goals as goal

pub returns-in-Plus-clause-is : goal.returns-in-Plus-clause-is
returns-in-Plus-clause-is c =
    let v = image (motion_of c.args.m.now).matrix (parts c.args.tau.now) in (
      c.in_ok-side.ensures.keeps.0 refl,
      c.image-turned.ensures.is ∙ sym (multiple-one v) ∙ ap (λ e. multiple e v) (sym (ap sign_value c.in-Plus.is) ∙ c.in_ok-side.ensures.value),
    )
