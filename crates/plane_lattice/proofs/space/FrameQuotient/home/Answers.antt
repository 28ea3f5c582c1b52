-- The motion is the one at home of the definition.
use Rattle.std.proofs.Common.{◌≡◌, ◌^◌, ◌≤ℤ◌, ℤ, pos, ◌∙◌, ap, lit<, lit≤, sym, subst, refl}
use Rattle.integers.specs.Size.{IsWithin}
use Rattle.integers.proofs.Wide.{wide, wide_is}
use Rattle.symmetry.specs.Frames.{Basis, combination, IsAtHome}
use Rattle.symmetry.specs.Sizes.{IsVectorWithin}
use Rattle.symmetry.specs.Vectors.{Vector, dot, minus}
use Rattle.symmetry.proofs.MotionLaws.{motion_path}
use Rattle.motions.specs.BasisView.{basis_of}
use Rattle.symmetry.proofs.Sizes.{IsVectorWithin-more}
use Rattle.motions.specs.Views.{motion_of, parts, row_of, vector_of}
use Rattle.plane_lattice.specs.Bounds.{largest_home, largest_scaled}
use Rattle.plane_lattice.specs.Coordinates.{volume, scaled, floors, IsPlaneCombination}
use Rattle.plane_lattice.specs.FrameView.{basis_of_frame}
use Rattle.plane_lattice.specs.PlaneLattice.{home_shift, home_motion}
use Rattle.plane_lattice.specs.declared.frame.Frame.{Frame}
use Rattle.plane_lattice.proofs.Homes.{home_at_home, home_differs, home_level, home_within}
use Rattle.plane_lattice.proofs.space.FrameQuotient.home.Goals as goal

-- what was computed from the basis, the volume and the coordinates
without_whole : (f g : Basis) (v : Vector) (d : ℤ) (s w : Vector) → g ≡ f → IsWithin largest_scaled d → d ≡ volume g → s ≡ scaled g v → w ≡ floors s (wide d)
    → minus v (combination g w) ≡ home_shift f v
without_whole f g v d s w same small d_is s_is w_is =
    ap (λ u. minus v (combination g u)) (w_is ∙ (λ i. floors (s_is i) ((wide_is largest_scaled d (lit< tt) small ∙ d_is) i)))
    ∙ ap (λ b. home_shift b v) same

within : (q : Frame) (v : Vector) → IsVectorWithin (2 ^ 20) v → IsVectorWithin largest_home (home_shift (basis_of_frame q) v)
within q v small =
    let above = subst (λ d. pos 1 ≤ℤ d) (sym q.tau_gives) q.above in
    home_within (row_of q.plane) (basis_of_frame q) q.right_handed q.a_in_plane q.b_in_plane above q.a_in_range q.b_in_range q.tau_in_range q.plane.in_range v small

pub without-requires-clause-vector : goal.without-requires-clause-vector
without-requires-clause-vector c = IsVectorWithin-more c.requires (lit≤ tt)

pub without-requires-clause-rest : goal.without-requires-clause-rest
without-requires-clause-rest c =
    let q = c.args.self.now in
    let v = parts c.args.m.now.t in
    let P : Vector → Type 0 = IsVectorWithin (2 ^ 62) in
    subst P
    (sym (without_whole (basis_of_frame q) (basis_of c.dual-dual.result.basis) v c.dual-dual.result.volume (vector_of c.scaled.result) (vector_of c.whole_part-whole.result)
    c.dual-dual.ensures c.dual-dual.result.volume_small c.dual-dual.result.volume_is c.scaled.ensures.is c.whole_part-whole.ensures.is))
    (IsVectorWithin-more (within q v c.requires) (lit≤ tt))

pub returns : goal.returns
returns c =
    let q = c.args.self.now in
    let f = basis_of_frame q in
    let m = motion_of c.args.m.now in
    let shift : parts c.without.result ≡ home_shift f m.translation = c.without.ensures
    ∙ without_whole f (basis_of c.dual-dual.result.basis) m.translation c.dual-dual.result.volume (vector_of c.scaled.result) (vector_of c.whole_part-whole.result)
    c.dual-dual.ensures c.dual-dual.result.volume_small c.dual-dual.result.volume_is c.scaled.ensures.is c.whole_part-whole.ensures.is in
    let motion : motion_of (record { w = c.args.m.now.w; t = c.without.result }) ≡ home_motion f m = motion_path refl shift in
    let small : IsVectorWithin largest_home (home_shift f m.translation) = within q m.translation c.requires in
    record {
      value = motion;
      at_home = subst (IsAtHome f) (sym motion) (home_at_home f q.right_handed m);
      matrix = refl;
      differs = subst (λ v. IsPlaneCombination f (minus m.translation v)) (sym shift) (home_differs f m.translation);
      level = ap (dot (row_of q.plane)) shift ∙ home_level (row_of q.plane) f q.a_in_plane q.b_in_plane m.translation;
      small = subst (IsVectorWithin largest_home) (sym shift) small;
    }
