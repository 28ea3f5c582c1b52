use Rattle.std.proofs.Common.{◌^◌, ℤ, pos, ◌≤ℤ◌, ◌<ℤ◌, lit<, subst, sym, ◌∙◌}
use Rattle.integers.specs.Size.{IsWithin}
use Rattle.plane_lattice.specs.Bounds.{largest_period}
use Rattle.scanning.proofs.Shifts.{period_within, shift_within}
use Rattle.scanning.specs.Bounds.{largest_shift}
use Rattle.symmetry.specs.HeightMotions.{MovesPlanes}
use Rattle.motions.specs.Signs.{sign_value}
use Rattle.motions.specs.Views.{motion_of, row_of}
use Rattle.orbits.proofs.ShiftRests.{again_rest, coded_rest, rest_within}
use Rattle.orbits.proofs.height_motions.height_motion.Goals as goal

pub invariant_of-result : goal.invariant_of-result
invariant_of-result c =
    let q = c.args.frame.now in
    let small = subst (IsWithin (largest_shift (2 ^ 40))) (sym c.shift.ensures) (shift_within (2 ^ 40) (row_of q.plane) (motion_of c.args.m.now).translation q.plane.in_range c.requires.translation) in
    let same = again_rest c.shift.result q.period.0 c.rem_euclid-shift.result (largest_shift (2 ^ 40)) small (lit< tt) (period_within q) q.above c.rem_euclid-shift.ensures.value in
    record {
      in_range = subst (IsWithin largest_period) (sym same)
          (rest_within c.shift.result q.period.0 c.rem_euclid-shift.result (largest_shift (2 ^ 40)) small (lit< tt) (period_within q) q.above c.rem_euclid-shift.ensures.value);
    }

pub returns : goal.returns
returns c =
    let q = c.args.frame.now in
    let r = row_of q.plane in
    let m = motion_of c.args.m.now in
    let small = subst (IsWithin (largest_shift (2 ^ 40))) (sym c.shift.ensures) (shift_within (2 ^ 40) r m.translation q.plane.in_range c.requires.translation) in
    let same = again_rest c.shift.result q.period.0 c.rem_euclid-shift.result (largest_shift (2 ^ 40)) small (lit< tt) (period_within q) q.above c.rem_euclid-shift.ensures.value in
    let by = coded_rest c.shift.result q.period.0 c.rem_euclid-shift.result (largest_shift (2 ^ 40)) small (lit< tt) (period_within q) q.above c.rem_euclid-shift.ensures.value in
    let P : ℤ → Type 0 = λ z. MovesPlanes r q.period.0 m (record { sign = sign_value c.in_ok-sign.sign; shift = z }) × (pos 0 ≤ℤ z) × (z <ℤ q.period.0) in
    subst P (sym same)
    (record { row = (c.side.ensures.sign c.in_ok-sign.sign).0 c.in_ok-sign.was; periods = by.periods; shift = sym c.shift.ensures ∙ by.is }, by.from, by.below)
