use Rattle.std.proofs.Common.{◌≡◌, ◌+◌, ◌<◌, ◌++◌, ◌∷◌, ◌∙◌, lit≤, arith, sym, ap, subst, get_or, map, take, length, List, [], vec_len}
use Rattle.std.proofs.lemmas.Bool.{true≢false}
use Rattle.std.proofs.lemmas.List.Elements.{All-contains}
use Rattle.motions.specs.declared.motion.Motion3.{Motion3}
use Rattle.closure.specs.Operations.{HasSmallEntries}
use Rattle.symmetry.proofs.Sizes.{IsVectorWithin-more}
use Rattle.motions.specs.Views.{motion_of}
use Rattle.closure.specs.Derived.{AreOthersAtHome}
use Rattle.closure.proofs.Taken.{item_contained}
use Rattle.closure.proofs.DerivedLists.{homes_turn, homes_pass}
use Rattle.closure.proofs.derived.others_at_home.Goals as goal
use Rattle.closure.proofs.derived.others_at_home.Goals.{then-not-is_translation+in_ok-push, else-not-is_translation}

abbrev none : Motion3
none = record { w = []; t = [] }

pub home-requires : goal.home-requires
home-requires c =
    let m = motion_of (get_or c.args.list.now c.loop-m.m-index none) in
    let s = All-contains HasSmallEntries (map motion_of c.args.list.now) m c.requires.list (item_contained motion_of c.args.list.now c.loop-m.m-index none (omega arith)) in
    IsVectorWithin-more s.small.translation (lit≤ tt)

pub loop-m-preserved : goal.loop-m-preserved
loop-m-preserved c =
    let kept = c.loop-m.invariant in
    let list = c.args.list.now in
    let i = c.loop-m.m-index in
    let here : i < length list = omega arith in
    elim c.if-not-is_translation.branch [
      | then-not-is_translation+in_ok-push w ↦
          let pushed : c.if-not-is_translation.others.items ≡ c.loop-m.others.items ++ w.home.result ∷ [] = ap (λ v. v.items) w.others-is ∙ w.in_ok-push.ensures.items in
          let long = w.in_ok-push.ensures.len in
          let same = ap (λ v. vec_len v) w.others-is in
          record {
            few = omega arith;
            homes = homes_turn c.args.lattice.now list i none here c.loop-m.others.items kept.homes c.requires.once w.home.result
                (λ e. true≢false (sym (c.is_translation.ensures.1 e) ∙ w.if-not-is_translation.true)) w.home.ensures.matrix w.home.ensures.first
                c.if-not-is_translation.others.items pushed;
          }
      | else-not-is_translation w ↦
          let same : c.if-not-is_translation.others.items ≡ c.loop-m.others.items = ap (λ v. v.items) w.others-is in
          let long = ap (λ v. vec_len v) w.others-is in
          record {
            few = omega arith;
            homes = subst (λ (l : List Motion3). AreOthersAtHome c.args.lattice.now (map motion_of (take (i + 1) list)) (map motion_of l)) (sym same)
                (homes_pass c.args.lattice.now list i none here c.loop-m.others.items kept.homes (c.is_translation.ensures.0 w.if-not-is_translation.false));
          }
    ]
