-- The tests make a frame, and a frame passes them.
use Rattle.std.proofs.Common.{arith}
use Rattle.std.proofs.lemmas.Int.{ints}
use Rattle.symmetry.proofs.LatticeLaws.{lattice-made}
use Rattle.motions.specs.BasisView.{basis_of}
use Rattle.motions.specs.Views.{row_of}
use Rattle.closure.specs.Groups.{group_listing}
use Rattle.plane_lattice.proofs.FrameTestFacts.{tests_make_frame, frame_passes_tests, volume_positive}
use Rattle.plane_lattice.proofs.make.is_frame.Goals as goal

pub returns-then-not-has_vectors : goal.returns-then-not-has_vectors
returns-then-not-has_vectors c = (
  λ t. absurd (cc t),
  λ k.
      let t = frame_passes_tests (group_listing c.args.group.now) (row_of c.args.plane.now) (basis_of c.args.dual.now.basis) k in
      absurd (cc (c.if-not-has_vectors.true, c.has_vectors.ensures.1 (t.a_in, t.b_in, t.tau_in))),
)

pub spans_lattice-requires : goal.spans_lattice-requires
spans_lattice-requires c =
    let o = c.is_oriented.ensures.0 c.if-not-is_oriented.false in
    let h = volume_positive (row_of c.args.plane.now) (basis_of c.args.dual.now.basis) o.right_handed o.tau_above in omega (arith, ints)

pub returns : goal.returns
returns c =
    let g = group_listing c.args.group.now in
    let h = c.has_vectors.ensures.0 c.if-not-has_vectors.false in
    let o = c.is_oriented.ensures.0 c.if-not-is_oriented.false in (
      λ t. tests_make_frame g (row_of c.args.plane.now) (basis_of c.args.dual.now.basis) (record {
        a_in = h.0;
        b_in = h.1;
        tau_in = h.2;
        a_in_plane = o.a_in_plane;
        b_in_plane = o.b_in_plane;
        tau_above = o.tau_above;
        right_handed = o.right_handed;
        combined = λ v made. c.spans_lattice.ensures.0 t v (lattice-made g v made);
      }),
      λ k. c.spans_lattice.ensures.1 k.spans,
    )
