-- Height by height; the height UNIT is reached by whole edges.
use Rattle.std.proofs.Common.{pos, ◌+ℤ◌, to_z, w64, arith}
use Rattle.std.proofs.lemmas.Int.{ints}
use Rattle.integers.proofs.Coded.{again}
use Rattle.symmetry.specs.Vectors.{Vector}
use Rattle.motions.specs.Views.{row_of}
use Rattle.closure.specs.Groups.{group_listing}
use Rattle.line_frames.specs.Searches.{IsAt}
use Rattle.line_frames.proofs.Counters.{next_is, none_below_next}
use Rattle.line_frames.proofs.Reducing.{at_unit}
use Rattle.line_frames.proofs.members.first_above.Goals as goal

pub loop-d-preserved : goal.loop-d-preserved
loop-d-preserved c =
    let g = group_listing c.args.group.now in
    let r = row_of c.args.plane.now in
    let i = c.loop-d.invariant in
    let d = to_z w64 c.loop-d.d-bits in
    let next = next_is d (omega (arith, ints, i.from)) (omega (arith, ints, c.loop-d-test.true)) in
    record {
      from = omega (arith, ints, next, i.from);
      most = omega (arith, ints, next, c.loop-d-test.true);
      none = none_below_next (λ k. (v : Vector) × IsAt g r k v) (pos 1) d (again (d +ℤ pos 1)) next i.none (λ (v, at). c.in_default.ensures v at);
    }

pub unreachable-requires : goal.unreachable-requires
unreachable-requires c =
    let r = row_of c.args.plane.now in
    let (v, at) = at_unit (group_listing c.args.group.now) r c.args.plane.now.coprime c.requires.line in
    c.in-None.ensures v at
