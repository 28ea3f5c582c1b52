-- The matrix is compared with that of the identity.
use Rattle.std.proofs.Common.{IsTrue, ◌∙◌, subst, sym}
use Rattle.symmetry.specs.Vectors.{unit_matrix}
use Rattle.motions.specs.Equality.{same_matrix}
use Rattle.motions.specs.Laws.MotionLaws.{same_matrix-is}
use Rattle.motions.specs.Views.{matrix_of}
use Rattle.motions.proofs.motion.Motion3.is_translation.Goals as goal

pub returns : goal.returns
returns c =
    let w = matrix_of c.args.self.now.w in
    let e = c.is_same_matrix.ensures ∙ (λ i. same_matrix w (c.identity.ensures i).matrix) in
    (λ t. (same_matrix-is w unit_matrix).0 (subst IsTrue e t), λ q. subst IsTrue (sym e) ((same_matrix-is w unit_matrix).1 q))
