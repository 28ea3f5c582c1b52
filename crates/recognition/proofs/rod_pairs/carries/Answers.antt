use Rattle.std.proofs.Common.{refl, ap, ◌∙◌, of_z, w64}
use Rattle.motions.specs.PlaneViews.{matrix2_of}
use Rattle.recognition.proofs.RodCarries.{fits_carries, carries_fits}
use Rattle.recognition.proofs.rod_pairs.carries.Goals as goal

pub returns-then-not-all_have_like : goal.returns-then-not-all_have_like
returns-then-not-all_have_like c =
    (λ t. absurd (cc), λ h. c.if-not-all_have_like.ensures.1 (carries_fits c.args.section.now c.args.ops.now (matrix2_of c.args.p.now) c.args.z h).forth)

pub returns : goal.returns
returns c =
    let section = c.args.section.now in
    let ops = c.args.ops.now in
    let p = matrix2_of c.args.p.now in (
      λ t. fits_carries section ops p c.args.z
          (record {
            crossed = λ e. c.if-determinant-eq0.false (ap (of_z w64) (c.determinant.ensures ∙ e));
            forth = c.if-not-all_have_like.ensures.0 refl;
            back = c.all_have_source.ensures.0 t;
          }),
      λ h. c.all_have_source.ensures.1 (carries_fits section ops p c.args.z h).back,
    )
