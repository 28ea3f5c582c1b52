use Rattle.std.proofs.Common.{[], arith}
use Rattle.std.proofs.lemmas.List.{map_more}
use Rattle.motions.specs.Views.{motion_of}
use Rattle.plane_motions.specs.PlaneMotions.{IsFlat}
use Rattle.line_scans.proofs.SectionLists.{pairs_more}
use Rattle.line_scans.proofs.section.pairs.Goals as goal
use Rattle.quotient.proofs.Items.{All-item_at}

pub pair-requires : goal.pair-requires
pair-requires c = All-item_at motion_of c.args.ops.now IsFlat c.loop-m.m-index (record { w = []; t = [] }) c.requires (omega arith)

pub loop-m-preserved : goal.loop-m-preserved
loop-m-preserved c =
    pairs_more _ _ _ _ _ _ (map_more motion_of c.args.ops.now c.loop-m.m-index _ (omega arith)) c.in_ok-push.ensures.items c.loop-m.invariant c.pair.ensures
