-- Coordinate by coordinate; each vector of the height is, but for a multiple of a, one that is reduced.
use Rattle.std.proofs.Common.{◌≡◌, pos, ◌+ℤ◌, refl, sym, subst, to_z, w64, arith, lit<}
use Rattle.std.specs.Prelude.{unsigned_abs}
use Rattle.std.proofs.lemmas.Int.{ints}
use Rattle.fractions.specs.declared.part.TheConstants.{UNIT}
use Rattle.integers.proofs.Coded.{again, again_is}
use Rattle.symmetry.specs.Vectors.{Vector}
use Rattle.motions.specs.Views.{parts, row_of}
use Rattle.closure.specs.Groups.{group_listing}
use Rattle.line_frames.specs.Searches.{coordinate, IsAt}
use Rattle.line_frames.proofs.Counters.{next_is, none_below_next}
use Rattle.line_frames.proofs.Reducing.{reduced_of}
use Rattle.line_frames.proofs.members.member_at.Goals as goal

pub loop-t-preserved : goal.loop-t-preserved
loop-t-preserved c =
    let g = group_listing c.args.group.now in
    let r = row_of c.args.plane.now in
    let i = c.loop-t.invariant in
    let t = to_z w64 c.loop-t.t-bits in
    let next = next_is t i.from (omega (arith, ints, c.loop-t-test.true, i.end, c.requires.a.most)) in
    record {
      from = omega (arith, ints, next, i.from);
      end = i.end;
      none = none_below_next (λ s. (v : Vector) × IsAt g r (again c.args.d) v × (coordinate r v ≡ s)) (pos 0) t (again (t +ℤ pos 1)) next i.none
          (λ (v, at, with_t). c.in_default.ensures v at with_t);
    }

pub returns : goal.returns
returns c v at =
    let g = group_listing c.args.group.now in
    let r = row_of c.args.plane.now in
    let d = again_is c.args.d (unsigned_abs UNIT) c.requires.d (lit< tt) in
    let (w, reduced) = reduced_of g r (parts c.args.a.now) c.requires.a (again c.args.d) v (subst (λ x. IsAt g r x v) (sym d) at) in
    c.loop-t.invariant.none (coordinate r w) reduced.from (omega (arith, ints, reduced.below, c.loop-t-test.false, c.loop-t.invariant.end)) (w, reduced.at, refl)
