-- Number by number; UNIT (k,-h) is a whole vector.
use Rattle.std.proofs.Common.{pos, ◌+ℤ◌, sym, subst, to_z, w64, arith}
use Rattle.std.proofs.lemmas.Int.{ints}
use Rattle.integers.proofs.Coded.{again}
use Rattle.symmetry.specs.Groups.{IsInLattice}
use Rattle.motions.specs.Views.{row_of}
use Rattle.closure.specs.Groups.{group_listing}
use Rattle.line_frames.specs.Searches.{along_lines}
use Rattle.line_frames.proofs.Counters.{next_is, none_below_next}
use Rattle.line_frames.proofs.Repeats.{repeats_by_edges}
use Rattle.line_frames.proofs.directions.repeat_along.Goals as goal

pub loop-n-preserved : goal.loop-n-preserved
loop-n-preserved c =
    let g = group_listing c.args.group.now in
    let r = row_of c.args.plane.now in
    let i = c.loop-n.invariant in
    let n = to_z w64 c.loop-n.n-bits in
    let next = next_is n (omega (arith, ints, i.from)) (omega (arith, ints, c.loop-n-test.true)) in
    record {
      from = omega (arith, ints, next, i.from);
      most = omega (arith, ints, next, c.loop-n-test.true);
      none = none_below_next (λ m. IsInLattice g (along_lines r m)) (pos 1) n (again (n +ℤ pos 1)) next i.none
          (λ h. absurd (cc (c.if-has.false, c.if-has.ensures.1 (subst (IsInLattice g) (sym c.along_lines.ensures.is) h))));
    }

pub returns : goal.returns
returns c =
    repeats_by_edges (group_listing c.args.group.now) (row_of c.args.plane.now)
    (λ m from below. c.loop-n.invariant.none m from (omega (arith, ints, below, c.loop-n-test.false)))
