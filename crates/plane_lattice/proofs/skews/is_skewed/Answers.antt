-- One operation after the other.
use Rattle.std.proofs.Common.{ℕ, subst, below_more, get_or, arith, []}
use Rattle.std.proofs.lemmas.List.{get_or_default}
use Rattle.motions.specs.BasisView.{basis_of}
use Rattle.motions.specs.Views.{motion_of, row_of}
use Rattle.motions.specs.declared.motion.Motion3.{Motion3}
use Rattle.symmetry.specs.Sizes.{IsSmall}
use Rattle.plane_lattice.specs.Skews.{Skews}
use Rattle.plane_lattice.proofs.skews.is_skewed.Goals as goal
use Rattle.quotient.proofs.Items.{All-item_at, no_item}

pub skews-requires-clause-motion : goal.skews-requires-clause-motion
skews-requires-clause-motion c = All-item_at motion_of c.args.ops.now IsSmall c.loop-m.m-index _ c.requires.operations c.loop-m-test.true

pub loop-m-preserved : goal.loop-m-preserved
loop-m-preserved c k d =
    let ops = c.args.ops.now in
    below_more (λ (k : ℕ). ¬ Skews (row_of c.args.plane.now) (basis_of c.args.dual.now.basis) (motion_of (get_or ops k d))) c.loop-m.m-index (λ k. c.loop-m.invariant k d)
    (λ s. absurd (cc (
      c.if-skews.false,
      c.skews.ensures.1 (subst (λ (m : Motion3). Skews (row_of c.args.plane.now) (basis_of c.args.dual.now.basis) (motion_of m)) (get_or_default ops c.loop-m.m-index d _ c.loop-m-test.true) s),
    ))) k

pub returns : goal.returns
returns c = (λ t. absurd (cc t), λ (m, is, s). absurd (no_item motion_of c.args.ops.now (Skews (row_of c.args.plane.now) (basis_of c.args.dual.now.basis)) (record { w = []; t = [] }) (λ k d h. c.loop-m.invariant k d (omega arith)) m is s))
