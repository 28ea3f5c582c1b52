use Rattle.std.proofs.Common.{◌≡◌, ◌+ℤ◌, ◌*ℤ◌, ◌∙◌}
use Rattle.std.specs.Int.{w64}
use Rattle.std.proofs.lemmas.Int.{to_z-of_z}
use Rattle.integers.proofs.Coded.{again}
use Rattle.symmetry.specs.Vectors.{multiple, plus}
use Rattle.symmetry.proofs.VectorLaws.{vector_path}
use Rattle.motions.specs.Views.{parts}
use Rattle.report.proofs.named.in_plane.Goals as goal

pub returns-clause-is : goal.returns-clause-is
unfolding plus multiple
returns-clause-is c =
    let a = parts c.args.frame.now.a in
    let b = parts c.args.frame.now.b in
    let x : again c.args.x ≡ c.args.x = to_z-of_z w64 c.args.x c.ranges.x in
    let y : again c.args.y ≡ c.args.y = to_z-of_z w64 c.args.y c.ranges.y in
    vector_path (c.entry_in_plane.ensures.is ∙ (λ i. x i *ℤ a.x +ℤ y i *ℤ b.x)) (c.entry_in_plane-2.ensures.is ∙ (λ i. x i *ℤ a.y +ℤ y i *ℤ b.y))
    (c.entry_in_plane-3.ensures.is ∙ (λ i. x i *ℤ a.z +ℤ y i *ℤ b.z))
