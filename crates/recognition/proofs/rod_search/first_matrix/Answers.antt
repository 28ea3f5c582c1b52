use Rattle.std.proofs.Common.{below_more, arith}
use Rattle.recognition.specs.RodChanges.{Carries}
use Rattle.recognition.specs.RodSearch.{IsOfNoPlace}
use Rattle.recognition.proofs.RodKindLemma.{AllHaveKin, no_matrix_without_kin, no_matrix_without_kin_back}
use Rattle.recognition.proofs.RodOrders.{first_matrix, no_matrix}
use Rattle.recognition.proofs.rod_search.first_matrix.Goals as goal

pub returns-in-Some : goal.returns-in-Some
returns-in-Some c =
    let f = c.in-Some.found in
    let h = c.in-Some.ensures in
    (h.within, first_matrix (Carries c.args.section.now c.args.ops.now) c.loop-size.size f.index f.z c.loop-size.invariant h)

pub loop-size-preserved : goal.loop-size-preserved
loop-size-preserved c = below_more (IsOfNoPlace (Carries c.args.section.now c.args.ops.now)) c.loop-size.size c.loop-size.invariant c.in_default.ensures

pub returns : goal.returns
returns c = no_matrix (Carries c.args.section.now c.args.ops.now) (λ s h. c.loop-size.invariant s (omega arith))

pub returns-then-not-all_have_kin : goal.returns-then-not-all_have_kin
returns-then-not-all_have_kin c =
    let not : ¬ (AllHaveKin c.args.section.now c.args.ops.now) = λ h. absurd (cc (c.if-not-all_have_kin.ensures.1 h)) in
    no_matrix_without_kin c.args.section.now c.args.ops.now not

pub returns-then-not-all_have_kin-2 : goal.returns-then-not-all_have_kin-2
returns-then-not-all_have_kin-2 c =
    let not : ¬ (AllHaveKin c.args.ops.now c.args.section.now) = λ h. absurd (cc (c.if-not-all_have_kin-2.ensures.1 h)) in
    no_matrix_without_kin_back c.args.section.now c.args.ops.now not
