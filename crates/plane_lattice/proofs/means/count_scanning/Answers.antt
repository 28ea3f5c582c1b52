-- One operation more.
use Rattle.std.proofs.Common.{◌+◌, ◌∙◌, List, length, sym, ap, cond, arith, map, take}
use Rattle.symmetry.specs.Frames.{KeepsOrientation}
use Rattle.symmetry.specs.Motions.{Motion}
use Rattle.symmetry.specs.Sizes.{IsSmall}
use Rattle.symmetry.proofs.KeptOps.{length-filter_push}
use Rattle.motions.specs.Views.{motion_of, row_of}
use Rattle.plane_lattice.specs.Scanning.{scanning_ops, keeps_orientation}
use Rattle.plane_lattice.proofs.Operations.{operation_at}
use Rattle.plane_lattice.proofs.Scanning.{taken_more, keeps_true, keeps_false}
use Rattle.plane_lattice.proofs.means.count_scanning.Goals as goal
use Rattle.plane_lattice.proofs.means.count_scanning.Goals.{then-is_some, else-is_some}
use Rattle.quotient.proofs.Items.{All-item_at}

pub side-requires : goal.side-requires
side-requires c = All-item_at motion_of c.args.ops.now IsSmall c.loop-m.m-index _ c.requires c.loop-m-test.true

pub loop-m-preserved : goal.loop-m-preserved
loop-m-preserved c =
    let ops = c.args.ops.now in
    let r = row_of c.args.plane.now in
    let m = motion_of (operation_at ops c.loop-m.m-index) in
    let more = taken_more ops c.loop-m.m-index _ c.loop-m-test.true in
    elim c.if-is_some.branch [
      | then-is_some w ↦
          let keeps = c.side.ensures.keeps.0 (sym c.is_some.ensures ∙ w.if-is_some.true) in
          record {
            is = length-filter_push (keeps_orientation r) (map motion_of (take c.loop-m.m-index ops)) m c.loop-m.count c.if-is_some.count c.loop-m.invariant.is
                (w.count-is ∙ ap (λ b. cond b (c.loop-m.count + 1) c.loop-m.count) (sym (keeps_true r m keeps)))
                ∙ ap (λ (ms : List Motion). length (scanning_ops r ms)) (sym more);
            few = omega arith;
          }
      | else-is_some w ↦
          record {
            is = length-filter_push (keeps_orientation r) (map motion_of (take c.loop-m.m-index ops)) m c.loop-m.count c.if-is_some.count c.loop-m.invariant.is
                (w.count-is ∙ ap (λ b. cond b (c.loop-m.count + 1) c.loop-m.count)
                (sym (keeps_false r m (λ (k : KeepsOrientation r m). absurd (cc (c.is_some.ensures ∙ c.side.ensures.keeps.1 k, w.if-is_some.false))))))
                ∙ ap (λ (ms : List Motion). length (scanning_ops r ms)) (sym more);
            few = omega arith;
          }
    ]
