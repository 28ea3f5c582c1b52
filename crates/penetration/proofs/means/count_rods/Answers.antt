-- One operation more.
use Rattle.std.proofs.Common.{◌+◌, ◌∙◌, List, length, sym, ap, cond, arith, map, take}
use Rattle.symmetry.specs.Motions.{Motion}
use Rattle.symmetry.specs.Sizes.{IsSmall}
use Rattle.symmetry.proofs.KeptOps.{length-filter_push}
use Rattle.motions.specs.Views.{motion_of}
use Rattle.plane_lattice.proofs.Operations.{operation_at}
use Rattle.plane_lattice.proofs.Scanning.{taken_more}
use Rattle.penetration.specs.DirectionView.{direction_of}
use Rattle.penetration.specs.RodFrames.{KeepsDirection}
use Rattle.penetration.specs.RodOperations.{rod_ops, keeps_along}
use Rattle.penetration.proofs.RodSums.{keeps_false, keeps_true}
use Rattle.penetration.proofs.means.count_rods.Goals as goal
use Rattle.penetration.proofs.means.count_rods.Goals.{then-keeps_direction, else-keeps_direction}
use Rattle.quotient.proofs.Items.{All-item_at}

pub keeps_direction-requires : goal.keeps_direction-requires
keeps_direction-requires c = All-item_at motion_of c.args.ops.now IsSmall c.loop-m.m-index _ c.requires c.loop-m-test.true

pub loop-m-preserved : goal.loop-m-preserved
loop-m-preserved c =
    let ops = c.args.ops.now in
    let u = direction_of c.args.direction.now in
    let m = motion_of (operation_at ops c.loop-m.m-index) in
    let more = taken_more ops c.loop-m.m-index _ c.loop-m-test.true in
    elim c.if-keeps_direction.branch [
      | then-keeps_direction w ↦
          let keeps = c.keeps_direction.ensures.0 w.if-keeps_direction.true in
          record {
            is = length-filter_push (keeps_along u) (map motion_of (take c.loop-m.m-index ops)) m c.loop-m.count c.if-keeps_direction.count c.loop-m.invariant.is
                (w.count-is ∙ ap (λ b. cond b (c.loop-m.count + 1) c.loop-m.count) (sym (keeps_true u m keeps)))
                ∙ ap (λ (ms : List Motion). length (rod_ops u ms)) (sym more);
            few = omega arith;
          }
      | else-keeps_direction w ↦
          record {
            is = length-filter_push (keeps_along u) (map motion_of (take c.loop-m.m-index ops)) m c.loop-m.count c.if-keeps_direction.count c.loop-m.invariant.is
                (w.count-is ∙ ap (λ b. cond b (c.loop-m.count + 1) c.loop-m.count)
                (sym (keeps_false u m (λ (k : KeepsDirection u m). absurd (cc (c.keeps_direction.ensures.1 k, w.if-keeps_direction.false))))))
                ∙ ap (λ (ms : List Motion). length (rod_ops u ms)) (sym more);
            few = omega arith;
          }
    ]
