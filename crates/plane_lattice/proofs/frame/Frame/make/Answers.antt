-- A frame that is not skewed is given, with its period and its mean.
use Rattle.std.proofs.Common.{◌≡◌, ◌≤ℤ◌, ◌<◌, ℤ, pos, List, length, ◌∙◌, ap, sym, subst, refl, arith, lit<}
use Rattle.std.specs.Prelude.{Err}
use Rattle.std.proofs.lemmas.Int.{ints}
use Rattle.integers.specs.Size.{IsWithin}
use Rattle.integers.proofs.Coded.{again, again_is}
use Rattle.integers.proofs.Wide.{wide, wide_is}
use Rattle.symmetry.specs.Frames.{Basis, IsFrame, IsPeriod, IsSkewed, mean_of}
use Rattle.symmetry.specs.Groups.{Listing}
use Rattle.symmetry.specs.Motions.{Motion}
use Rattle.symmetry.specs.Vectors.{Vector, dot}
use Rattle.symmetry.proofs.FrameLaws.{frame_period}
use Rattle.motions.specs.BasisView.{basis_of}
use Rattle.motions.specs.Views.{row_of}
use Rattle.motions.specs.declared.basis.Basis.{Basis as BasisOfCode}
use Rattle.motions.specs.declared.basis.FrameFault.TheVariants.{NotFrame, Skewed}
use Rattle.closure.proofs.OwnLattice.{own_fine}
use Rattle.closure.specs.Groups.{group_listing}
use Rattle.plane_lattice.specs.Bounds.{largest_period}
use Rattle.plane_lattice.specs.Coordinates.{volume}
use Rattle.plane_lattice.specs.Scanning.{scanning_ops, IsPointOf}
use Rattle.plane_lattice.proofs.FrameListings.{frame_alike, good_frame, no_frame, refused_alike, skewed_frame}
use Rattle.plane_lattice.proofs.FrameTestFacts.{frame_passes_tests, volume_positive, told}
use Rattle.plane_lattice.proofs.LatticeTests.{edges_held, fine_as}
use Rattle.plane_lattice.proofs.ScanningFacts.{scanning_ops_are, some_scanning}
use Rattle.plane_lattice.proofs.frame.Frame.make.Goals as goal

-- (hkl).tau as it is kept
period_is : (z d : ℤ) → IsWithin largest_period z → z ≡ d → again (wide z) ≡ d
period_is z d small is = ap again (wide_is largest_period z (lit< tt) small) ∙ again_is z largest_period small (lit< tt) ∙ is

module _ (g : Listing) (r : Vector) (f : Basis) (frame : IsFrame g r f) where
  frame_volume : pos 1 ≤ℤ volume f
  frame_volume = let h = volume_positive r f frame.right_handed frame.tau_above in omega (arith, ints)

  frame_above : pos 1 ≤ℤ dot r f.tau
  frame_above = omega (arith, ints, frame.tau_above)

pub is_skewed_frame-requires : goal.is_skewed_frame-requires
is_skewed_frame-requires c =
    let frame = (told (IsFrame (group_listing c.args.group.now) (row_of c.args.plane)) c.make-dual.ensures c.is_frame.ensures).0 c.if-not-is_frame.false in
    subst (λ (x : BasisOfCode). pos 1 ≤ℤ volume (basis_of x)) (sym c.make-dual.ensures)
    (frame_volume (group_listing c.args.group.now) (row_of c.args.plane) (basis_of c.args.basis) frame)

pub mean-c-requires-clause-operations : goal.mean-c-requires-clause-operations
mean-c-requires-clause-operations c k d h = (c.ops.ensures.small k d h).small

pub mean-c-requires-clause-some : goal.mean-c-requires-clause-some
mean-c-requires-clause-some c =
    subst (λ (ms : List Motion). 0 < length (scanning_ops (row_of c.args.plane) ms)) (sym c.ops.ensures.ops)
    (some_scanning (group_listing c.args.group.now) (row_of c.args.plane) c.ops.ensures.group)

pub invariant_of-result : goal.invariant_of-result
invariant_of-result c =
    let frame = (told (IsFrame (group_listing c.args.group.now) (row_of c.args.plane)) c.make-dual.ensures c.is_frame.ensures).0 c.if-not-is_frame.false in
    let g = group_listing c.args.group.now in
    let r = row_of c.args.plane in
    let f = basis_of c.args.basis in
    let period = period_is c.height_of.result (dot r f.tau) c.height_of.ensures.small c.height_of.ensures.is in
    let tests = frame_passes_tests g r f frame in
    record {
      a_in_range = c.args.basis.a_in_range;
      b_in_range = c.args.basis.b_in_range;
      tau_in_range = c.args.basis.tau_in_range;
      a_in_plane = frame.a_in_plane;
      b_in_plane = frame.b_in_plane;
      tau_gives = sym period;
      above = subst (λ d. pos 1 ≤ℤ d) (sym period) (frame_above g r f frame);
      right_handed = frame_volume g r f frame;
      holds_edges = ∣ edges_held g f frame.spans ∣₁;
      fine = ∣ fine_as g f tests.a_in tests.b_in tests.tau_in (own_fine c.args.group.now) ∣₁;
    }

-- ---- no frame, a skewed one, and a frame, by the group's own listing and from there by any other

pub returns-then-not-is_frame-clause-refused : goal.returns-then-not-is_frame-clause-refused
returns-then-not-is_frame-clause-refused c g of fault =
    let h = group_listing c.args.group.now in
    let r = row_of c.args.plane in
    let tells = told (IsFrame h r) c.make-dual.ensures c.is_frame.ensures in
    refused_alike g h of.alike r (basis_of c.args.basis) (Err NotFrame) fault
    (no_frame h r (basis_of c.args.basis) (λ frame. absurd (cc (c.if-not-is_frame.true, tells.1 frame))) fault)

pub returns-then-is_skewed_frame-clause-refused : goal.returns-then-is_skewed_frame-clause-refused
returns-then-is_skewed_frame-clause-refused c g of fault =
    let h = group_listing c.args.group.now in
    let r = row_of c.args.plane in
    let frame = (told (IsFrame h r) c.make-dual.ensures c.is_frame.ensures).0 c.if-not-is_frame.false in
    let skewed = (told (IsSkewed h r) c.make-dual.ensures c.is_skewed_frame.ensures).0 c.if-is_skewed_frame.true in
    refused_alike g h of.alike r (basis_of c.args.basis) (Err Skewed) fault (skewed_frame h r (basis_of c.args.basis) frame skewed fault)

pub returns-clause-refused : goal.returns-clause-refused
returns-clause-refused c g of fault =
    let h = group_listing c.args.group.now in
    let r = row_of c.args.plane in
    let frame = (told (IsFrame h r) c.make-dual.ensures c.is_frame.ensures).0 c.if-not-is_frame.false in
    let tells = told (IsSkewed h r) c.make-dual.ensures c.is_skewed_frame.ensures in
    refused_alike g h of.alike r (basis_of c.args.basis) _ fault
    (good_frame h r (basis_of c.args.basis) _ frame (λ s. absurd (cc (c.if-is_skewed_frame.false, tells.1 s))) fault)

pub returns-clause-made : goal.returns-clause-made
returns-clause-made c g of =
    let h = group_listing c.args.group.now in
    let r = row_of c.args.plane in
    let f = basis_of c.args.basis in
    let frame = (told (IsFrame h r) c.make-dual.ensures c.is_frame.ensures).0 c.if-not-is_frame.false in
    let tells = told (IsSkewed h r) c.make-dual.ensures c.is_skewed_frame.ensures in
    frame_alike g h of.alike c.args.plane c.args.basis _ (record {
      plane = refl;
      a = refl;
      b = refl;
      tau = refl;
      is_frame = frame;
      not_skewed = λ s. cc (c.if-is_skewed_frame.false, tells.1 s);
      period = subst (IsPeriod h r) (sym (period_is c.height_of.result (dot r f.tau) c.height_of.ensures.small c.height_of.ensures.is)) (frame_period h r f frame);
      scanning = scanning_ops r h.ops;
      are_scanning = scanning_ops_are h r c.ops.ensures.apart;
      mean = subst (λ (ms : List Motion). IsPointOf (mean_of r f.tau (scanning_ops r ms)) c.mean-c.result) c.ops.ensures.ops c.mean-c.ensures;
    })
