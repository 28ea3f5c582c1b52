-- Where k is 0, h is not.
use Rattle.std.proofs.Common.{◌≡◌, pos, ◌<ℤ◌, arith, lit<}
use Rattle.std.specs.Prelude.{unsigned_abs}
use Rattle.motions.specs.declared.miller.TheConstants.{INDEX}
use Rattle.std.proofs.lemmas.Int.{ints}
use Rattle.integers.proofs.Coded.{again_is}
use Rattle.motions.specs.Views.{row_of}
use Rattle.line_frames.specs.Searches.{along_y}
use Rattle.line_frames.proofs.Senses.{first_is_above}
use Rattle.line_frames.proofs.directions.sense.Goals as goal

pub returns-else-plane-lt0-2-clause-forward : goal.returns-else-plane-lt0-2-clause-forward
returns-else-plane-lt0-2-clause-forward c =
    let r = c.args.plane.now in
    let h = again_is r.h (unsigned_abs INDEX) r.in_range.x (lit< tt) in
    let k = again_is r.k (unsigned_abs INDEX) r.in_range.y (lit< tt) in
    let none : r.k ≡ pos 0 = omega (arith, ints, k, c.if-plane-gt0.false, c.if-plane-lt0.false) in
    let above : pos 0 <ℤ r.h = first_is_above (row_of r) r.coprime c.requires none (λ l. absurd (omega (arith, ints, h, l, c.if-plane-lt0-2.false))) in
    along_y none (omega (arith, ints, above))
