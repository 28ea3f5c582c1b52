use Rattle.std.proofs.Common.{◌≡◌, ◌+◌, ◌<◌, ◌≤◌, ◌^◌, All, sym, ap, subst, ◌∙◌, arith, map, take, length, get_or, [], ◌∷◌, ◌++◌, List}
use Rattle.std.proofs.lemmas.Bool.{true≢false}
use Rattle.std.proofs.lemmas.List.{get_or_default, take_all}
use Rattle.std.proofs.lemmas.List.Elements.{All-push}
use Rattle.symmetry.specs.Sizes.{IsVectorWithin}
use Rattle.motions.specs.declared.motion.Motion3.{Motion3}
use Rattle.motions.specs.Views.{parts, motion_of, listing_of}
use Rattle.closure.proofs.Generators.{CollectsTranslations, collects_turn, collects_pass, collects_generators}
use Rattle.closure.proofs.translations.lattice_vectors.Goals as goal
use Rattle.closure.proofs.translations.lattice_vectors.Goals.{then-is_translation+in_ok-push, else-is_translation}

pub loop-m-preserved : goal.loop-m-preserved
loop-m-preserved c =
    let kept = c.loop-m.invariant in
    let ops = c.args.listed.now.ops.items in
    let read = c.deref-m-items.result.now in
    let i = c.loop-m.m-index in
    let m : Motion3 = get_or read i (record { w = []; t = [] }) in
    let here : i < length read = omega arith in
    let within : i < length ops = subst (λ (l : List Motion3). i < length l) c.deref-m-items.ensures.value here in
    let at : get_or ops i m ≡ m = ap (λ (l : List Motion3). get_or l i m) (sym c.deref-m-items.ensures.value) ∙ get_or_default read i m (record { w = []; t = [] }) here in
    let shift : IsVectorWithin (2 ^ 40) (parts m.t) = subst (λ (n : Motion3). IsVectorWithin (2 ^ 40) (parts n.t)) at (c.requires.ops i m within).small.translation in
    elim c.if-is_translation.branch [
      | then-is_translation+in_ok-push w ↦
          let pushed : c.if-is_translation.vectors.items ≡ c.loop-m.vectors.items ++ m.t ∷ [] = ap (λ v. v.items) w.vectors-is ∙ w.in_ok-push.ensures.items in
          record {
            small = subst (All (λ v. IsVectorWithin (2 ^ 40) (parts v))) (sym pushed)
                (All-push (λ v. IsVectorWithin (2 ^ 40) (parts v)) c.loop-m.vectors.items m.t kept.small shift);
            collected = collects_turn (map parts c.args.listed.now.centrings.items) ops i m c.loop-m.vectors.items within at kept.collected
                (c.is_translation.ensures.0 w.if-is_translation.true) c.if-is_translation.vectors.items pushed;
          }
      | else-is_translation w ↦
          let same : c.if-is_translation.vectors.items ≡ c.loop-m.vectors.items = ap (λ v. v.items) w.vectors-is in
          record {
            small = subst (All (λ v. IsVectorWithin (2 ^ 40) (parts v))) (sym same) kept.small;
            collected = subst (λ vs. CollectsTranslations (map parts c.args.listed.now.centrings.items) (map motion_of (take (i + 1) ops)) (map parts vs)) (sym same)
                (collects_pass (map parts c.args.listed.now.centrings.items) ops i m c.loop-m.vectors.items within at kept.collected
                (λ e. true≢false (sym (c.is_translation.ensures.1 e) ∙ w.if-is_translation.false)));
          }
    ]

pub returns-clause-same : goal.returns-clause-same
returns-clause-same c =
    let kept = c.loop-m.invariant in
    collects_generators (listing_of c.args.listed.now) (map parts c.loop-m.vectors.items)
    (subst (λ ops. CollectsTranslations (map parts c.args.listed.now.centrings.items) (map motion_of ops) (map parts c.loop-m.vectors.items))
    (take_all c.loop-m.m-index c.args.listed.now.ops.items (subst (λ (l : List Motion3). length l ≤ c.loop-m.m-index) c.deref-m-items.ensures.value (omega arith))) kept.collected)
