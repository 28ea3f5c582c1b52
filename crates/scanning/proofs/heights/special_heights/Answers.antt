-- Each level gives its height.
use Rattle.std.proofs.Common.{ℤ, pos, FitsSigned, get_or, map, rules, subst}
use Rattle.std.specs.Int.{w64}
use Rattle.std.proofs.lemmas.Int.{to_z-of_z}
use Rattle.std.proofs.lemmas.List.{take_more}
use Rattle.quotient.proofs.Zips.{zip_more}
use Rattle.motions.specs.Views.{motion_of}
use Rattle.scanning.specs.SpecialHeights.{IsHeightAt}
use Rattle.scanning.proofs.heights.special_heights.Goals as goal

pub loop-level-preserved : goal.loop-level-preserved
loop-level-preserved c =
    let level = get_or c.deref-level-items.result.now c.loop-level.level-index (pos 0) in
    let fits : FitsSigned w64 level = search rules in
    let P : ℤ → Type 0 = λ t. IsHeightAt c.args.frame.now (map motion_of c.args.homes.now) t c.in_ok-height_at.field-0 in
    zip_more (IsHeightAt c.args.frame.now (map motion_of c.args.homes.now)) _ _ _ _ _ _
    (take_more c.deref-level-items.result.now c.loop-level.level-index (pos 0) c.loop-level-test.true) c.in_ok-push.ensures.items c.loop-level.invariant (subst P (to_z-of_z w64 level fits) c.in_ok-height_at.ensures)
