-- The motion at home, in the plane lattice of a basis.
use Rattle.std.proofs.Common.{◌≡◌, ◌+◌, ◌*◌, ◌≤◌, ◌<◌, ℤ, pos, negsuc, ◌+ℤ◌, ◌*ℤ◌, ◌≤ℤ◌, ◌<ℤ◌, nat_abs, unsigned_abs, ◌^◌, refl, sym, ap, subst, ◌∙◌, arith}
use Rattle.std.proofs.lemmas.Int.{ints}
use lib.IntN.{*ℤ_comm}
use Rattle.integers.specs.Size.{IsWithin}
use Rattle.integers.proofs.Ring.{IsWithin-mul, neg_as_mul}
use Rattle.integers.proofs.Sizes.{below_within, combined_within, factor_within}
use Rattle.symmetry.specs.Vectors.{Vector, plus, minus, multiple, dot}
use Rattle.symmetry.specs.Motions.{Motion}
use Rattle.symmetry.specs.Frames.{Basis, combination, IsAtHome}
use Rattle.symmetry.specs.Sizes.{IsVectorWithin}
use Rattle.symmetry.proofs.VectorLaws.{dot-plus, dot-multiple, minus-minus, multiple-minus}
use Rattle.symmetry.proofs.FrameLaws.{cramer, combination-minus, combination-multiple}
use Rattle.motions.specs.declared.miller.TheConstants.{INDEX}
use Rattle.plane_lattice.specs.Bounds.{largest_entry, largest_level, largest_home}
use Rattle.plane_lattice.specs.Coordinates.{volume, scaled, IsPlaneCombination}
use Rattle.plane_lattice.specs.PlaneLattice.{whole_part, home_shift, home_motion}
use Rattle.plane_lattice.specs.Laws.QuotientLaws.{div_euclid_from, div_euclid_below}
use Rattle.symmetry.proofs.Sizes.{dot_within}

-- ---- the coordinates of the translation at home, times the volume

-- what is left of the coordinates without their whole parts
abbrev rest : Basis → Vector → Vector
rest f v = minus (scaled f v) (multiple (volume f) (whole_part f v))

combination-rest : (f : Basis) (v : Vector) → combination f (rest f v) ≡ multiple (volume f) (home_shift f v)
combination-rest f v =
    combination-minus f (scaled f v) (multiple (volume f) (whole_part f v))
    ∙ ap (minus (combination f (scaled f v))) (combination-multiple f (volume f) (whole_part f v))
    ∙ ap (λ w. minus w (multiple (volume f) (combination f (whole_part f v)))) (cramer f v)
    ∙ sym (multiple-minus (volume f) v (combination f (whole_part f v)))

module _ (f : Basis) (h : pos 1 ≤ℤ volume f) (v : Vector) where
  rest_from_x : pos 0 ≤ℤ (rest f v).x
  unfolding plus multiple
  rest_from_x = subst (λ n. pos 0 ≤ℤ ((scaled f v).x +ℤ n)) (neg_as_mul (volume f *ℤ (whole_part f v).x)) (div_euclid_from (scaled f v).x (volume f) h)

  rest_below_x : (rest f v).x <ℤ volume f
  unfolding plus multiple
  rest_below_x = subst (λ n. ((scaled f v).x +ℤ n) <ℤ volume f) (neg_as_mul (volume f *ℤ (whole_part f v).x)) (div_euclid_below (scaled f v).x (volume f) h)

  rest_from_y : pos 0 ≤ℤ (rest f v).y
  unfolding plus multiple
  rest_from_y = subst (λ n. pos 0 ≤ℤ ((scaled f v).y +ℤ n)) (neg_as_mul (volume f *ℤ (whole_part f v).y)) (div_euclid_from (scaled f v).y (volume f) h)

  rest_below_y : (rest f v).y <ℤ volume f
  unfolding plus multiple
  rest_below_y = subst (λ n. ((scaled f v).y +ℤ n) <ℤ volume f) (neg_as_mul (volume f *ℤ (whole_part f v).y)) (div_euclid_below (scaled f v).y (volume f) h)

-- the motion is at home
pub home_at_home : (f : Basis) → pos 1 ≤ℤ volume f → (m : Motion) → IsAtHome f (home_motion f m)
home_at_home f h m = record {
  over = volume f;
  positive = h;
  by = rest f m.translation;
  is = combination-rest f m.translation;
  x_from = rest_from_x f h m.translation;
  x_below = rest_below_x f h m.translation;
  y_from = rest_from_y f h m.translation;
  y_below = rest_below_y f h m.translation;
}

-- it differs by a whole combination of a and b
pub home_differs : (f : Basis) (v : Vector) → IsPlaneCombination f (minus v (home_shift f v))
home_differs f v = (whole_part f v, sym (minus-minus v (combination f (whole_part f v))), refl)

-- ---- levels

-- the row gives a multiple of its value at tau
flat_combination : (r : Vector) (f : Basis) → dot r f.a ≡ pos 0 → dot r f.b ≡ pos 0 → (c : Vector) → dot r (combination f c) ≡ c.z *ℤ dot r f.tau
flat_combination r f a b c =
    dot-plus r _ _ ∙ ap (λ x. x +ℤ dot r (multiple c.z f.tau)) (dot-plus r _ _)
    ∙ (λ i. dot-multiple r c.x f.a i +ℤ dot-multiple r c.y f.b i +ℤ dot-multiple r c.z f.tau i)
    ∙ (λ i. c.x *ℤ a i +ℤ c.y *ℤ b i +ℤ c.z *ℤ dot r f.tau) ∙ only_last c.x c.y (c.z *ℤ dot r f.tau)
  where
    only_last : (x y z : ℤ) → x *ℤ pos 0 +ℤ y *ℤ pos 0 +ℤ z ≡ z
    only_last x y z = omega (arith, ints)

-- so the motion at home has the (hkl).w of the other
pub home_level : (r : Vector) (f : Basis) → dot r f.a ≡ pos 0 → dot r f.b ≡ pos 0 → (v : Vector) → dot r (home_shift f v) ≡ dot r v
home_level r f a b v =
    dot-plus r v _ ∙ ap (λ x. dot r v +ℤ x) (dot-multiple r (negsuc 0) (combination f (whole_part f v)) ∙ ap (λ x. negsuc 0 *ℤ x) (flat_combination r f a b (whole_part f v)))
    ∙ left (dot r v) (dot r f.tau)
  where
    left : (x d : ℤ) → x +ℤ negsuc 0 *ℤ (pos 0 *ℤ d) ≡ x
    left x d = omega (arith, ints)

-- ---- sizes

module _ (r : Vector) (f : Basis) (h : pos 1 ≤ℤ volume f) (a_flat : dot r f.a ≡ pos 0) (b_flat : dot r f.b ≡ pos 0) (above : pos 1 ≤ℤ dot r f.tau)
    (a : IsVectorWithin largest_entry f.a) (b : IsVectorWithin largest_entry f.b) (tau : IsVectorWithin largest_entry f.tau)
    (row : IsVectorWithin (unsigned_abs INDEX) r) (v : Vector) (small : IsVectorWithin (2 ^ 20) v) where
  -- the third coordinate is (hkl).w in periods
  third : dot r f.tau *ℤ (rest f v).z ≡ volume f *ℤ dot r v
  third =
      *ℤ_comm (dot r f.tau) (rest f v).z ∙ sym (flat_combination r f a_flat b_flat (rest f v)) ∙ ap (dot r) (combination-rest f v)
      ∙ dot-multiple r (volume f) (home_shift f v) ∙ ap (λ x. volume f *ℤ x) (home_level r f a_flat b_flat v)

  third_within : IsWithin (nat_abs (volume f) * largest_level) (rest f v).z
  third_within =
      factor_within (nat_abs (volume f) * largest_level) (dot r f.tau) (rest f v).z (λ e. absurd (omega (arith, ints, above, e)))
      (subst (IsWithin (nat_abs (volume f) * largest_level)) (sym third) (IsWithin-mul (record { most = omega arith }) (dot_within row small)))

  abbrev across : IsWithin (nat_abs (volume f)) (rest f v).x
  across = below_within (volume f) (rest f v).x (rest_from_x f h v) (rest_below_x f h v)

  abbrev along : IsWithin (nat_abs (volume f)) (rest f v).y
  along = below_within (volume f) (rest f v).y (rest_from_y f h v) (rest_below_y f h v)

  pub home_within : IsVectorWithin largest_home (home_shift f v)
  unfolding plus multiple
  home_within =
      let is = combination-rest f v in
      let c = rest f v in
      let e = home_shift f v in record {
        x = combined_within (volume f) c.x c.y c.z f.a.x f.b.x f.tau.x e.x largest_entry largest_level h (ap (λ (u : Vector). u.x) is) across along third_within a.x b.x tau.x;
        y = combined_within (volume f) c.x c.y c.z f.a.y f.b.y f.tau.y e.y largest_entry largest_level h (ap (λ (u : Vector). u.y) is) across along third_within a.y b.y tau.y;
        z = combined_within (volume f) c.x c.y c.z f.a.z f.b.z f.tau.z e.z largest_entry largest_level h (ap (λ (u : Vector). u.z) is) across along third_within a.z b.z tau.z;
      }
