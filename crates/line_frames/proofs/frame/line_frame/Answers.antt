-- The frame of the lines is made, and it is the frame by each listing of the group.
use Rattle.std.proofs.Common.{sym, ap, subst, pos, ◌≤ℤ◌, List, arith, refl}
use Rattle.std.proofs.lemmas.Int.{ints}
use Rattle.symmetry.specs.Motions.{Motion}
use Rattle.symmetry.specs.Vectors.{Vector}
use Rattle.symmetry.proofs.Alike.{frame_from}
use Rattle.symmetry.proofs.AlikeScans.{scanning_from}
use Rattle.motions.specs.Views.{parts, row_of}
use Rattle.closure.specs.Groups.{group_listing}
use Rattle.closure.proofs.OwnLattice.{own_fine}
use Rattle.plane_lattice.specs.Coordinates.{vectors}
use Rattle.plane_lattice.specs.Scanning.{scanning_ops}
use Rattle.plane_lattice.proofs.FrameTestFacts.{frame_passes_tests, volume_positive}
use Rattle.plane_lattice.proofs.LatticeTests.{edges_held, fine_as}
use Rattle.plane_lattice.proofs.ScanningFacts.{scanning_ops_are}
use Rattle.line_frames.specs.Searches.{IsMeanUp}
use Rattle.line_frames.proofs.MadeFrames.{line_frame_by, made_frame, made_mean, parts_forward, period_by, tau_small, third_across, third_parts, third_within}
use Rattle.line_frames.proofs.frame.line_frame.Goals as goal

pub first_above-tau-requires-clause-a : goal.first_above-tau-requires-clause-a
first_above-tau-requires-clause-a c =
    let sense = c.sense-sense.ensures in
    parts_forward (group_listing c.args.group.now) c.args.plane c.requires.line c.repeat_along.result c.sense-sense.result c.repeat_along.ensures sense.sign sense.forward
    c.along_lines-a.result c.along_lines-a.ensures.is

pub mean-c-requires-clause-operations : goal.mean-c-requires-clause-operations
mean-c-requires-clause-operations c k d h = (c.ops.ensures.small k d h).small

pub height_of-period-requires-clause-vector : goal.height_of-period-requires-clause-vector
height_of-period-requires-clause-vector c =
    let sense = c.sense-sense.ensures in
    tau_small (group_listing c.args.group.now) c.args.plane c.requires.line c.repeat_along.result c.sense-sense.result c.repeat_along.ensures sense.sign sense.forward
    c.along_lines-a.result c.along_lines-a.ensures.is c.first_above-tau.result c.first_above-tau.ensures

pub mean-c-requires-clause-tau : goal.mean-c-requires-clause-tau
mean-c-requires-clause-tau c =
    let sense = c.sense-sense.ensures in
    tau_small (group_listing c.args.group.now) c.args.plane c.requires.line c.repeat_along.result c.sense-sense.result c.repeat_along.ensures sense.sign sense.forward
    c.along_lines-a.result c.along_lines-a.ensures.is c.first_above-tau.result c.first_above-tau.ensures

pub invariant_of-result : goal.invariant_of-result
invariant_of-result c =
    let g = group_listing c.args.group.now in
    let r = row_of c.args.plane in
    let e = c.sense-sense.result in
    let sense = c.sense-sense.ensures in
    let basis = vectors c.along_lines-a.result (third_parts e) c.first_above-tau.result in
    let frame = made_frame g c.args.plane c.requires.line c.repeat_along.result e c.repeat_along.ensures sense.sign sense.forward
    c.along_lines-a.result c.along_lines-a.ensures.is c.first_above-tau.result c.first_above-tau.ensures c.requires.group in
    let tests = frame_passes_tests g r basis frame in
    let volume = volume_positive r basis frame.right_handed frame.tau_above in
    record {
      a_in_range = c.along_lines-a.ensures.small;
      b_in_range = third_within e sense.sign;
      tau_in_range = tau_small g c.args.plane c.requires.line c.repeat_along.result e c.repeat_along.ensures sense.sign sense.forward
          c.along_lines-a.result c.along_lines-a.ensures.is c.first_above-tau.result c.first_above-tau.ensures;
      a_in_plane = frame.a_in_plane;
      b_in_plane = frame.b_in_plane;
      tau_gives = sym c.height_of-period.ensures;
      above = subst (λ d. pos 1 ≤ℤ d) (sym c.height_of-period.ensures) c.first_above-tau.ensures.from;
      right_handed = omega (arith, ints, volume);
      holds_edges = ∣ edges_held g basis frame.spans ∣₁;
      fine = ∣ fine_as g basis tests.a_in tests.b_in tests.tau_in (own_fine c.args.group.now) ∣₁;
    }

pub returns : goal.returns
returns c g of =
    let h = group_listing c.args.group.now in
    let r = row_of c.args.plane in
    let plane = c.args.plane in
    let line = c.requires.line in
    let flat = c.requires.group in
    let n = c.repeat_along.result in
    let repeat = c.repeat_along.ensures in
    let e = c.sense-sense.result in
    let sense = c.sense-sense.ensures in
    let a = c.along_lines-a.result in
    let a_code = c.along_lines-a.ensures.is in
    let tau = c.first_above-tau.result in
    let first = c.first_above-tau.ensures in
    let period = c.height_of-period.result.0 in
    record {
      plane = refl;
      is_frame = frame_from g h of.alike r (vectors a (third_parts e) tau) (made_frame h plane line n e repeat sense.sign sense.forward a a_code tau first flat);
      period = period_by h plane line n e repeat sense.sign sense.forward a a_code tau first flat g of.alike period c.height_of-period.ensures;
      scanning = scanning_ops r h.ops;
      are_scanning = scanning_from g h of.alike r (scanning_ops r h.ops) (scanning_ops_are h r c.ops.ensures.apart);
      mean = made_mean h plane line n e repeat sense.sign sense.forward a a_code tau first flat c.ops.ensures.group c.ops.ensures.apart c.mean-c.result
          (subst (λ (ms : List Motion). IsMeanUp r (parts tau) ms c.mean-c.result) c.ops.ensures.ops c.mean-c.ensures);
      a_flat = ap (λ (v : Vector). v.z) a_code;
      tau_flat = first.reduced.at.flat;
      across = third_across e sense.sign;
      line = line_frame_by h plane line n e repeat sense.sign sense.forward a a_code tau first flat g of.alike period c.height_of-period.ensures;
    }
