-- Each operation gives one motion.
use Rattle.std.proofs.Common.{unsigned_abs}
use Rattle.motions.specs.ListedSizes.{IsSmallWithin}
use Rattle.motions.specs.Views.{motion_of}
use Rattle.closure.specs.declared.group.TheConstants.{MAX_ENTRY}
use Rattle.scanning.proofs.ChosenLists.{homes_more}
use Rattle.scanning.proofs.SameMotions.{same_all, same_more}
use Rattle.scanning.proofs.homes.homes.Goals as goal
use Rattle.quotient.proofs.Items.{All-item_at}

pub home-requires-clause-small : goal.home-requires-clause-small
home-requires-clause-small c = All-item_at motion_of c.ops-m-items.result.now (IsSmallWithin (unsigned_abs MAX_ENTRY)) c.loop-m.m-index _ c.ops-m-items.ensures.small c.loop-m-test.true

pub loop-m-preserved : goal.loop-m-preserved
loop-m-preserved c =
    let is = c.in_ok-push.ensures.items in record {
      same = same_more _ c.ops-m-items.result.now c.loop-m.homes.items _ c.loop-m.m-index _ c.home.result c.loop-m-test.true is c.loop-m.invariant.same c.home.ensures.same;
      home = homes_more _ _ c.loop-m.homes.items c.home.result _ is c.loop-m.invariant.home c.home.ensures.home;
    }

pub returns-clause-same : goal.returns-clause-same
returns-clause-same c =
    same_all _ c.ops-m-items.result.now c.loop-m.homes.items c.loop-m.m-index _ c.loop-m-test.false c.ops-m-items.ensures.ops c.loop-m.invariant.same
