use Rattle.std.proofs.Common.{◌≡◌, pos, subst, sym}
use Rattle.std.proofs.lemmas.List.Elements.{All-nil}
use Rattle.std.specs.Prelude.{All}
use Rattle.std.proofs.lemmas.Result.{IfOk-weaker}
use Rattle.motions.specs.Views.{motion_of, parts}
use Rattle.plane_motions.specs.PlaneMotions.{IsFlat}
use Rattle.line_frames.proofs.FlatListings.{code_listing_flat}
use Rattle.line_scans.proofs.tests.group_of.Goals as goal

pub returns : goal.returns
returns c =
    let flat = subst (All (λ m. IsFlat (motion_of m))) (sym c.in_ok-ops.ensures.items) c.requires.flat in
    let level = subst (All (λ v. (parts v).z ≡ pos 0)) (sym c.new.ensures.items) (All-nil (λ v. (parts v).z ≡ pos 0)) in
    IfOk-weaker c.make.result _ _ (λ group of. code_listing_flat c.in_ok-ops.ops.items c.new.result.items group flat level of) c.make.ensures.made
