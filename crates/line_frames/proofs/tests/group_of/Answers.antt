-- The listed arrays are flat.
use Rattle.std.proofs.Common.{◌≡◌, pos, subst, sym}
use Rattle.std.specs.Prelude.{All}
use Rattle.std.proofs.lemmas.Result.{IfOk-weaker}
use Rattle.motions.specs.Views.{motion_of, parts}
use Rattle.plane_motions.specs.PlaneMotions.{IsFlat}
use Rattle.line_frames.proofs.FlatListings.{code_listing_flat}
use Rattle.line_frames.proofs.tests.group_of.Goals as goal

pub returns : goal.returns
returns c =
    let flat = subst (All (λ m. IsFlat (motion_of m))) (sym c.in_ok-ops.ensures.items) c.requires.flat in
    let whole = subst (All (λ v. (parts v).z ≡ pos 0)) (sym c.in_ok-centrings.ensures.items) c.requires.centrings_flat in
    IfOk-weaker c.make.result _ _ (λ group of. code_listing_flat c.in_ok-ops.ops.items c.in_ok-centrings.centrings.items group flat whole of) c.make.ensures.made
