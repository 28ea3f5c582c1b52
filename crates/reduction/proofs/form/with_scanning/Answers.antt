-- The sign tells whether the operation keeps the orientation.
use Rattle.std.proofs.Common.{◌≡◌, refl, sym, ap, ◌∙◌, cond, Bool}
use Rattle.symmetry.specs.Frames.{KeepsOrientation}
use Rattle.symmetry.specs.Motions.{Motion}
use Rattle.symmetry.specs.Vectors.{Matrix, Vector}
use Rattle.motions.specs.Views.{motion_of, row_of}
use Rattle.plane_lattice.specs.Scanning.{keeps_orientation}
use Rattle.plane_lattice.proofs.Scanning.{keeps_true, keeps_false}
use Rattle.reduction.specs.Forms.{form_matrix, with_square}
use Rattle.reduction.proofs.form.with_scanning.Goals as goal

module _ (r : Vector) (m : Motion) (q a : Matrix) where
  with_scanning : (b : Matrix) → KeepsOrientation r m → b ≡ a → b ≡ cond (keeps_orientation r m) a q
  with_scanning b keeps is = is ∙ ap (λ (t : Bool). cond t a q) (sym (keeps_true r m keeps))

  without : ¬ KeepsOrientation r m → q ≡ cond (keeps_orientation r m) a q
  without none = ap (λ (t : Bool). cond t a q) (sym (keeps_false r m none))

pub returns-in-Some : goal.returns-in-Some
returns-in-Some c =
    let m = motion_of c.args.m.now in
    let q = form_matrix c.args.form.now in
    with_scanning (row_of c.args.plane.now) m q (with_square q m.matrix) (form_matrix c.with_operation.result)
    (c.in-Some.ensures.keeps.0 refl) c.with_operation.ensures

pub returns-in-None : goal.returns-in-None
returns-in-None c =
    let m = motion_of c.args.m.now in
    let q = form_matrix c.args.form.now in
    without (row_of c.args.plane.now) m q (with_square q m.matrix) (λ k. absurd (cc (c.in-None.ensures.keeps.1 k)))
