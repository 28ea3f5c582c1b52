-- The lists count both sets.
use Rattle.std.proofs.Common.{arith, map}
use Rattle.std.proofs.lemmas.List.{length-map}
use Rattle.motions.specs.Views.{row_of, vector_of}
use Rattle.closure.specs.Groups.{group_listing}
use Rattle.closure.proofs.OwnLattice.{own_group}
use Rattle.surveys.proofs.SpecialCounts.{special_count}
use Rattle.surveys.proofs.surveying.surveyed.Goals as goal

pub returns-clause-counts : goal.returns-clause-counts
returns-clause-counts c =
    let rows = c.in_ok-images.field-0 in
    let shifts = c.in_ok-turned_shifts.field-0 in
    record {
      images = record {
        members = map vector_of rows.items;
        are = c.in_ok-images.ensures.each;
        count = omega (arith, length-map rows.items vector_of, c.len-images.ensures);
      };
      period = c.period.result.0;
      is_period = c.period.ensures.is;
      special = special_count (group_listing c.args.group.now) (row_of c.args.plane) c.period.result.0 (own_group c.args.group.now) c.args.plane.coprime c.period.ensures.is
          shifts.items _ (omega (arith, c.len.ensures)) c.in_ok-turned_shifts.ensures.each;
    }
