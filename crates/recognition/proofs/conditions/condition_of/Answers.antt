-- The operation that is like the motion tells all; one is.
use Rattle.std.proofs.Common.{refl, sym, subst, arith}
use Rattle.motions.specs.declared.layer.LayerMotion.{LayerMotion}
use Rattle.motions.specs.PlaneViews.{matrix2_of}
use Rattle.recognition.specs.Listed.{IsLike}
use Rattle.recognition.proofs.Loops.{one_more}
use Rattle.recognition.proofs.Pairs.{paired_is}
use Rattle.recognition.proofs.conditions.condition_of.Goals as goal

pub returns-then-is_like : goal.returns-then-is_like
returns-then-is_like c x y =
    let a = c.args in
    let k = c.condition_between.ensures x y in
    let w = paired_is a.t.now (matrix2_of c.args.p.now) c.requires.lattice c.requires.distinct a.m.now c.loop-n.n-index _ c.loop-n-test.true (c.if-is_like.ensures.0 refl) x y in
    (λ h. w.0 (k.0 h), λ h. k.1 (w.1 h))

pub loop-n-preserved : goal.loop-n-preserved
loop-n-preserved c =
    one_more (λ n. ¬ (IsLike (matrix2_of c.args.p.now) c.args.m.now n)) c.args.t.now.ops.now c.loop-n.n-index _ c.loop-n-test.true
    (λ h. let t = c.if-is_like.ensures.1 h in cc) c.loop-n.invariant

pub returns : goal.returns
returns c x y =
    let (k, n, within, at, like) = c.requires.like in
    let Like : LayerMotion → Type 0 = λ z. IsLike (matrix2_of c.args.p.now) c.args.m.now z in
    absurd (c.loop-n.invariant k n (omega arith) (subst Like (sym at) like))
