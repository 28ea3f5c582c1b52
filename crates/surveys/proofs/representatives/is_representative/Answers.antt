use Rattle.std.proofs.Common.{rules, subst, sym, tests}
use Rattle.std.proofs.iter.Serving.{serving}
use Rattle.std.specs.Prelude.{All, Contains}
use Rattle.std.proofs.lemmas.Iterator.{cases_from_all, YieldsList-from_slice}
use Rattle.std.proofs.lemmas.List.Elements.{All-contains, All-map}
use Rattle.symmetry.specs.Motions.{Motion}
use Rattle.symmetry.specs.Sizes.{IsSmall}
use Rattle.motions.specs.Views.{motion_of, row_of}
use Rattle.closure.specs.Groups.{group_listing}
use Rattle.orbits.proofs.RowLists.{motion_is_small}
use Rattle.quotient.proofs.Searches.{all_are}
use Rattle.surveys.specs.Places.{HasGreaterImage}
use Rattle.surveys.proofs.GreaterImages.{representative_by_images, surpassed}
use Rattle.surveys.proofs.representatives.is_representative.Goals as goal

pub all-requires-clause-callable : goal.all-requires-clause-callable
all-requires-clause-callable c =
    let small : All (λ m. IsSmall (motion_of m)) c.ops.result.now = λ i d. motion_is_small _ c.ops.result.now i d c.ops.ensures.small in
    grind serving

pub returns : goal.returns
returns c =
    let r = row_of c.args.plane.now in
    let g = group_listing c.args.group.now in
    let ops = c.ops.result.now in
    let Less : Motion → Type 0 = λ m. ¬ HasGreaterImage c.args.largest r m in
    let told = all_are (λ m. Less (motion_of m)) ops c.all.result
    (cases_from_all _ _ _ (λ m. Less (motion_of m)) (λ m. ¬ Less (motion_of m)) c.all.ensures.ran (YieldsList-from_slice ops cc) (λ x q k. search (rules, tests)) (λ x q k. search (rules, tests))) in (
      λ t. representative_by_images g c.args.largest r (record { coprime = c.args.plane.now.coprime; size = c.requires })
          (λ m listed. All-contains Less _ m (All-map Less motion_of ops (told.0 t)) (subst (λ l. Contains l m) (sym c.ops.ensures.ops) listed)),
      λ is. told.1 (λ i d within greater. surpassed g ops c.ops.ensures.ops c.ops.ensures.group i d within c.args.largest r greater is),
    )
