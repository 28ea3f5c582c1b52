-- A, e and t by coordinates in a and b.
use Rattle.std.proofs.Common.{◌≡◌, inl, inr, ◌*ℤ◌, ◌≤ℤ◌, ◌<ℤ◌, ℤ, pos, refl, sym, ap, subst, ◌∙◌, ◌*◌, lit<, lit≤}
use Rattle.std.specs.Prelude.{unsigned_abs}
use Rattle.fractions.specs.declared.part.TheConstants.{UNIT}
use Rattle.integers.proofs.Coded.{again, again_is}
use Rattle.symmetry.specs.Frames.{Basis, combination, KeepsOrientation, mean_of}
use Rattle.symmetry.specs.Motions.{Motion}
use Rattle.symmetry.specs.Sizes.{IsVectorWithin}
use Rattle.symmetry.specs.Vectors.{Vector, dot, image, multiple}
use Rattle.symmetry.proofs.Means.{mean_is_kept}
use Rattle.motions.specs.PlaneMatrices.{Pair, in_space}
use Rattle.motions.specs.PlaneSizes.{IsMatrix2Within, IsPairWithin}
use Rattle.motions.specs.PlaneViews.{pair_of}
use Rattle.motions.specs.Laws.LayerLaws.{IsPairWithin-more}
use Rattle.motions.specs.Rationals.{in_edges}
use Rattle.motions.specs.Views.{motion_of, parts, row_of}
use Rattle.closure.proofs.OwnLattice.{own_group}
use Rattle.closure.specs.Groups.{group_listing}
use Rattle.plane_lattice.specs.Coordinates.{IsPlaneCombination}
use Rattle.plane_lattice.specs.FrameView.{basis_of_frame}
use Rattle.plane_lattice.specs.Sections.{IsSeenAs, drift, height_in_steps, in_cell, point_at}
use Rattle.plane_lattice.proofs.MadeFrames.{made_frame, made_not_skewed}
use Rattle.plane_lattice.proofs.SectionFacts.{turned_a, turned_b, turned_near, drift_near, keeps_by_drift, keeps_orientation, seen_in_steps}
use Rattle.plane_lattice.proofs.Steps.{step_within}
use Rattle.plane_lattice.proofs.frame.Frame.section.Goals as goal

-- the code's basis is that of the frame, and its vector the one that is meant
module _ (f b : Basis) (same : b ≡ f) (image_of : Basis → Vector) (u : Vector) (is : u ≡ image_of b) where
  meant : (p : Pair) → combination b (in_space p) ≡ u → combination f (in_space p) ≡ image_of f
  meant p e = (λ i. combination (sym same i) (in_space p)) ∙ e ∙ is ∙ ap image_of same

  meant_not : ¬ IsPlaneCombination b u → ¬ IsPlaneCombination f (image_of f)
  meant_not none (c, e, flat) = none (c, (λ i. combination (same i) c) ∙ e ∙ sym (is ∙ ap image_of same), flat)

-- the number of steps that arrives is that which is handed in
at_steps : (m : Motion) (tau u : Vector) (k : ℤ) → pos 0 ≤ℤ k → k <ℤ (pos 2 *ℤ UNIT) → u ≡ drift m tau (again k) → u ≡ drift m tau k
at_steps m tau u k from below is = is ∙ ap (drift m tau) (again_is k (2 * unsigned_abs UNIT) (step_within k from below) (lit< tt))

near_500 : {c : Vector} → IsVectorWithin 500 c → IsPairWithin 500 (record { x = c.x; y = c.y })
near_500 h = record { x = h.x; y = h.y }

pub returns-in_err-e-clause-exact : goal.returns-in_err-e-clause-exact
returns-in_err-e-clause-exact c =
    let q = c.args.self.now in
    let g = group_listing c.args.group.now in
    let r = row_of q.plane in
    let m = motion_of c.args.m.now in
    rw c.from_residual.ensures
    (λ keeps. cc (c.in_err-e.ensures.keeps.1 (keeps_orientation g r (own_group c.args.group.now) q.plane.coprime m c.requires.member (dot r (parts q.tau)) c.args.steps keeps)))

pub coordinates_in_plane-requires-clause-near : goal.coordinates_in_plane-requires-clause-near
coordinates_in_plane-requires-clause-near c p e =
    let q = c.args.self.now in
    let g = group_listing c.args.group.now in
    let r = row_of q.plane in
    let f = basis_of_frame q in
    let m = motion_of c.args.m.now in
    IsPairWithin-more
    (near_500 (turned_near g r f m (made_not_skewed c.args.group.now q c.requires.made) c.requires.member (c.in_ok-e.ensures.keeps.0 refl) (in_space p)
    (inl (meant f _ c.dual-dual.ensures (λ b. image m.matrix b.a) _ c.image.ensures.is p e))))
    (lit≤ tt)

pub coordinates_in_plane-requires-2-clause-near : goal.coordinates_in_plane-requires-2-clause-near
coordinates_in_plane-requires-2-clause-near c p e =
    let q = c.args.self.now in
    let g = group_listing c.args.group.now in
    let r = row_of q.plane in
    let f = basis_of_frame q in
    let m = motion_of c.args.m.now in
    IsPairWithin-more
    (near_500 (turned_near g r f m (made_not_skewed c.args.group.now q c.requires.made) c.requires.member (c.in_ok-e.ensures.keeps.0 refl) (in_space p)
    (inr (inl (meant f _ c.dual-dual.ensures (λ b. image m.matrix b.b) _ c.image-2.ensures.is p e)))))
    (lit≤ tt)

pub coordinates_in_plane-requires-3-clause-near : goal.coordinates_in_plane-requires-3-clause-near
coordinates_in_plane-requires-3-clause-near c p e =
    let q = c.args.self.now in
    let g = group_listing c.args.group.now in
    let r = row_of q.plane in
    let f = basis_of_frame q in
    let m = motion_of c.args.m.now in
    IsPairWithin-more
    (drift_near g r f m (own_group c.args.group.now) (made_frame c.args.group.now q c.requires.made) (made_not_skewed c.args.group.now q c.requires.made)
    c.requires.member (c.in_ok-e.ensures.keeps.0 refl) c.requires.at_home c.args.steps c.requires.from c.requires.below p
    (meant f _ c.dual-dual.ensures (λ b. drift m b.tau c.args.steps) _ (at_steps m _ _ c.args.steps c.requires.from c.requires.below c.drift.ensures.is) p e))
    (lit≤ tt)

pub returns-in_err-first-clause-exact : goal.returns-in_err-first-clause-exact
returns-in_err-first-clause-exact c =
    let q = c.args.self.now in
    let g = group_listing c.args.group.now in
    let r = row_of q.plane in
    let f = basis_of_frame q in
    let m = motion_of c.args.m.now in
    rw c.from_residual-in_err-first.ensures
    (λ keeps. meant_not f _ c.dual-dual.ensures (λ b. image m.matrix b.a) _ c.image.ensures.is c.in_err-first.ensures
    (turned_a g r f (own_group c.args.group.now) q.plane.coprime (made_frame c.args.group.now q c.requires.made) m c.requires.member c.in_ok-e.e
    ((c.in_ok-e.ensures.sign c.in_ok-e.e).0 refl)))

pub returns-in_err-second-clause-exact : goal.returns-in_err-second-clause-exact
returns-in_err-second-clause-exact c =
    let q = c.args.self.now in
    let g = group_listing c.args.group.now in
    let r = row_of q.plane in
    let f = basis_of_frame q in
    let m = motion_of c.args.m.now in
    rw c.from_residual-in_err-second.ensures
    (λ keeps. meant_not f _ c.dual-dual.ensures (λ b. image m.matrix b.b) _ c.image-2.ensures.is c.in_err-second.ensures
    (turned_b g r f (own_group c.args.group.now) q.plane.coprime (made_frame c.args.group.now q c.requires.made) m c.requires.member c.in_ok-e.e
    ((c.in_ok-e.ensures.sign c.in_ok-e.e).0 refl)))

pub returns-in_err-t-clause-exact : goal.returns-in_err-t-clause-exact
returns-in_err-t-clause-exact c =
    let q = c.args.self.now in
    let g = group_listing c.args.group.now in
    let r = row_of q.plane in
    let f = basis_of_frame q in
    let m = motion_of c.args.m.now in
    rw c.from_residual-in_err-t.ensures
    (λ keeps. meant_not f _ c.dual-dual.ensures (λ b. drift m b.tau c.args.steps) _ (at_steps m _ _ c.args.steps c.requires.from c.requires.below c.drift.ensures.is) c.in_err-t.ensures
    ((keeps_by_drift g r f (own_group c.args.group.now) q.plane.coprime (made_frame c.args.group.now q c.requires.made) m c.requires.member c.in_ok-e.e
    ((c.in_ok-e.ensures.sign c.in_ok-e.e).0 refl) c.args.steps).0 keeps))

pub returns-clause-exact : goal.returns-clause-exact
returns-clause-exact c =
    let q = c.args.self.now in
    let g = group_listing c.args.group.now in
    let r = row_of q.plane in
    let f = basis_of_frame q in
    let m = motion_of c.args.m.now in
    let p = pair_of c.in_ok-t.t in
    (keeps_by_drift g r f (own_group c.args.group.now) q.plane.coprime (made_frame c.args.group.now q c.requires.made) m c.requires.member c.in_ok-e.e
    ((c.in_ok-e.ensures.sign c.in_ok-e.e).0 refl) c.args.steps).1
    (in_space p, meant f _ c.dual-dual.ensures (λ b. drift m b.tau c.args.steps) _ (at_steps m _ _ c.args.steps c.requires.from c.requires.below c.drift.ensures.is) p c.in_ok-t.ensures, refl)

pub returns-clause-seen : goal.returns-clause-seen
returns-clause-seen c ms scanning =
    let q = c.args.self.now in
    let g = group_listing c.args.group.now in
    let r = row_of q.plane in
    let f = basis_of_frame q in
    let m = motion_of c.args.m.now in
    let first = pair_of c.in_ok-first.first in
    let second = pair_of c.in_ok-second.second in
    let p = pair_of c.in_ok-t.t in
    let d = dot r (parts q.tau) in
    let mean = mean_of r (parts q.tau) ms in
    let a = meant f _ c.dual-dual.ensures (λ b. image m.matrix b.a) _ c.image.ensures.is first c.in_ok-first.ensures in
    let b = meant f _ c.dual-dual.ensures (λ b. image m.matrix b.b) _ c.image-2.ensures.is second c.in_ok-second.ensures in
    let t = meant f _ c.dual-dual.ensures (λ b. drift m b.tau c.args.steps) _ (at_steps m _ _ c.args.steps c.requires.from c.requires.below c.drift.ensures.is) p c.in_ok-t.ensures in
    let third = mean_is_kept g r ms (own_group c.args.group.now) q.plane.coprime scanning (parts q.tau) m c.requires.member (c.in_ok-e.ensures.keeps.0 refl) in
    subst (λ w. IsSeenAs f mean (point_at d (height_in_steps d c.args.steps) (in_cell (parts q.tau))) m (record { matrix = w; side = c.in_ok-e.e; translation = in_edges p }))
    (sym c.matrix_of_columns.ensures)
    (seen_in_steps f mean d c.args.steps m c.in_ok-e.e first second p a b (third ∙ ap (λ x. multiple x mean.at) (sym c.in_ok-e.ensures.value)) t)

pub returns-clause-near : goal.returns-clause-near
returns-clause-near c =
    let q = c.args.self.now in
    let g = group_listing c.args.group.now in
    let r = row_of q.plane in
    let f = basis_of_frame q in
    let m = motion_of c.args.m.now in
    let p = pair_of c.in_ok-t.t in
    drift_near g r f m (own_group c.args.group.now) (made_frame c.args.group.now q c.requires.made) (made_not_skewed c.args.group.now q c.requires.made)
    c.requires.member (c.in_ok-e.ensures.keeps.0 refl) c.requires.at_home c.args.steps c.requires.from c.requires.below p
    (meant f _ c.dual-dual.ensures (λ b. drift m b.tau c.args.steps) _ (at_steps m _ _ c.args.steps c.requires.from c.requires.below c.drift.ensures.is) p c.in_ok-t.ensures)

pub returns-clause-small : goal.returns-clause-small
returns-clause-small c =
    let q = c.args.self.now in
    let g = group_listing c.args.group.now in
    let r = row_of q.plane in
    let f = basis_of_frame q in
    let m = motion_of c.args.m.now in
    let first = pair_of c.in_ok-first.first in
    let second = pair_of c.in_ok-second.second in
    let p = pair_of c.in_ok-t.t in
    let keeps : KeepsOrientation r m = c.in_ok-e.ensures.keeps.0 refl in
    let frame = made_frame c.args.group.now q c.requires.made in
    let not_skewed = made_not_skewed c.args.group.now q c.requires.made in
    let a = turned_near g r f m not_skewed c.requires.member keeps (in_space first)
    (inl (meant f _ c.dual-dual.ensures (λ b. image m.matrix b.a) _ c.image.ensures.is first c.in_ok-first.ensures)) in
    let b = turned_near g r f m not_skewed c.requires.member keeps (in_space second)
    (inr (inl (meant f _ c.dual-dual.ensures (λ b. image m.matrix b.b) _ c.image-2.ensures.is second c.in_ok-second.ensures))) in
    let t = drift_near g r f m (own_group c.args.group.now) frame not_skewed c.requires.member keeps c.requires.at_home c.args.steps c.requires.from c.requires.below p
    (meant f _ c.dual-dual.ensures (λ b. drift m b.tau c.args.steps) _ (at_steps m _ _ c.args.steps c.requires.from c.requires.below c.drift.ensures.is) p c.in_ok-t.ensures) in
    record {
      matrix = subst (IsMatrix2Within 500) (sym c.matrix_of_columns.ensures)
          (record { first = record { x = a.x; y = b.x }; second = record { x = a.y; y = b.y } });
      translation = IsPairWithin-more t (lit≤ tt);
    }
