-- One more condition at each turn.
use Rattle.std.proofs.Common.{◌↔◌, ◌∙◌, ℕ, arith}
use Rattle.std.specs.Prelude.{Any}
use Rattle.std.proofs.lemmas.List.{length-set}
use Rattle.motions.specs.declared.layer.LayerMotion.{LayerMotion}
use Rattle.motions.specs.PlaneViews.{matrix2_of}
use Rattle.recognition.specs.declared.line.Condition.{Condition}
use Rattle.recognition.specs.Classes.{Meets}
use Rattle.recognition.specs.Listed.{IsPaired}
use Rattle.recognition.proofs.Loops.{one_set}
use Rattle.recognition.proofs.conditions.conditions.Goals as goal

pub loop-i-preserved : goal.loop-i-preserved
loop-i-preserved c =
    let i = c.loop-i.invariant in
    let Tells : Condition → LayerMotion → Type 0 = λ z m. (x y : ℕ) → Meets z x y ↔ Any (λ n. IsPaired (matrix2_of c.args.p.now) x y m n) c.args.t.now.ops.now in
    record {
      all = length-set c.loop-i.conditions c.loop-i.i c.condition_of.result ∙ i.all;
      each =
          one_set Tells c.loop-i.conditions c.args.section.now c.loop-i.i c.condition_of.result _ (omega (arith, i.all, c.requires.few, c.loop-i-test.true)) c.loop-i-test.true
          c.condition_of.ensures i.each;
    }

pub returns-clause-each : goal.returns-clause-each
returns-clause-each c k d e within = c.loop-i.invariant.each k d e (omega (arith, c.loop-i-test.false))
