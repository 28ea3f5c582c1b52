-- The whole steps back to a line, from the numbers that the code passes, and how far they leave a motion from it.
use Rattle.std.proofs.Common.{◌≡◌, ℕ, ◌+◌, ◌*◌, ◌<◌, ◌≤◌, ◌^◌, ℤ, pos, negsuc, ◌+ℤ◌, ◌-ℤ◌, ◌*ℤ◌, ◌≤ℤ◌, ◌<ℤ◌, nat_abs, FitsSigned, sym, ◌∙◌, ap, subst, arith, lit<, lit≤}
use Rattle.std.specs.Int.{int_div_euclid, w128}
use Rattle.std.proofs.lemmas.Int.{ints, to_z-of_z}
use Rattle.std.proofs.Math.Nat.{mul-le-mul}
use native.Mathlib.Decide.{dec_lt}
use Rattle.integers.specs.Size.{IsWithin}
use Rattle.integers.proofs.Ring.{IsWithin-add, IsWithin-more, IsWithin-sub, abs-mul}
use Rattle.integers.proofs.Wide.{wide, wide_is}
use Rattle.symmetry.specs.Vectors.{Vector, plus, multiple, image}
use Rattle.symmetry.specs.Motions.{Motion}
use Rattle.symmetry.specs.Frames.{Basis}
use Rattle.symmetry.specs.Sizes.{IsMatrixWithin, IsVectorWithin}
use Rattle.plane_lattice.specs.Bounds.{largest_entry, largest_scaled}
use Rattle.plane_lattice.specs.Coordinates.{scaled, volume}
use Rattle.plane_lattice.specs.Laws.QuotientLaws.{div_euclid_from, div_euclid_below}
use Rattle.plane_lattice.proofs.Passed.{passed_volume, passed_x, passed_y, passed_z}
use Rattle.symmetry.proofs.Sizes.{image_within}
use Rattle.penetration.specs.RodHomes.{AreStepsBack, HasWholeSteps}
use Rattle.penetration.specs.RodSections.{drift}
use Rattle.penetration.proofs.LineMembers.{drift_along, taken_back}

module _ (f : Basis) (v : Vector) (d : ℤ) (s : Vector) (small : IsWithin largest_scaled d) (d_is : d ≡ volume f)
    (smalls : IsVectorWithin largest_scaled s) (s_is : s ≡ scaled f v) where
  pub no_first : ((q : ℤ) → ¬ (wide d *ℤ q ≡ wide s.x)) → ¬ HasWholeSteps f v
  no_first none ((q, e), _) = none q ((λ i. passed_volume f v d s small d_is smalls s_is i *ℤ q) ∙ e ∙ sym (passed_x f v d s small d_is smalls s_is))

  pub no_second : ((q : ℤ) → ¬ (wide d *ℤ q ≡ wide s.y)) → ¬ HasWholeSteps f v
  no_second none (_, (q, e)) = none q ((λ i. passed_volume f v d s small d_is smalls s_is i *ℤ q) ∙ e ∙ sym (passed_y f v d s small d_is smalls s_is))

  pub steps_back : pos 1 ≤ℤ volume f → (p q r : ℤ) → FitsSigned w128 p → FitsSigned w128 q → IsWithin largest_scaled r
      → wide d *ℤ p ≡ wide s.x → wide d *ℤ q ≡ wide s.y → r ≡ int_div_euclid (wide s.z) (wide d)
      → AreStepsBack f v (record { x = wide p; y = wide q; z = wide r })
  steps_back h p q r p_fits q_fits r_small p_is q_is r_is =
      let volume_is = passed_volume f v d s small d_is smalls s_is in
      let turns : wide r ≡ int_div_euclid (scaled f v).z (volume f) =
      wide_is largest_scaled r (lit< tt) r_small ∙ r_is ∙ (λ i. int_div_euclid (passed_z f v d s small d_is smalls s_is i) (volume_is i)) in
      let From : ℤ → Type 0 = λ n. pos 0 ≤ℤ ((scaled f v).z -ℤ volume f *ℤ n) in
      let Below : ℤ → Type 0 = λ n. ((scaled f v).z -ℤ volume f *ℤ n) <ℤ volume f in
      record {
        x = (λ i. sym volume_is i *ℤ to_z-of_z w128 p p_fits i) ∙ p_is ∙ passed_x f v d s small d_is smalls s_is;
        y = (λ i. sym volume_is i *ℤ to_z-of_z w128 q q_fits i) ∙ q_is ∙ passed_y f v d s small d_is smalls s_is;
        from = subst From (sym turns) (div_euclid_from (scaled f v).z (volume f) h);
        below = subst Below (sym turns) (div_euclid_below (scaled f v).z (volume f) h);
      }

-- ---- sizes

-- v d is r c with r below v: so d is no larger than c
no_larger : (v d r c most : ℕ) → v * d ≡ r * c → r < v → c ≤ most → d ≤ most
no_larger v d r c most e below small =
    elim (dec_lt most d) [
      | no h ↦ omega arith
      | yes h ↦
          let left : v * (most + 1) ≤ v * d = mul-le-mul (omega arith) (omega arith) in
          let right : r * c ≤ r * most = mul-le-mul (omega arith) small in
          let more : (r + 1) * most ≤ v * most = mul-le-mul (omega arith) (omega arith) in
          let spread : v * (most + 1) ≡ v * most + v = omega arith in
          absurd (omega (arith, left, right, more, spread, e))
    ]

pub rest_within : (v d r c : ℤ) (most : ℕ) → pos 0 ≤ℤ r → r <ℤ v → v *ℤ d ≡ r *ℤ c → IsWithin most c → IsWithin most d
rest_within v d r c most from below e small =
    record { most = no_larger (nat_abs v) (nat_abs d) (nat_abs r) (nat_abs c) most (sym (abs-mul v d) ∙ ap nat_abs e ∙ abs-mul r c) (omega (arith, ints)) small.most }

-- one coordinate of the motion taken back, by that of its drift
one_within : (w t x : ℤ) (a b c : ℕ) → IsWithin a ((w +ℤ t) +ℤ negsuc 0 *ℤ x) → IsWithin b w → IsWithin c x → IsWithin (a + b + c) t
one_within w t x a b c h k l = subst (IsWithin (a + b + c)) (by w t x) (IsWithin-add (IsWithin-sub h k) l)
  where
    by : (w t x : ℤ) → ((w +ℤ t) +ℤ negsuc 0 *ℤ x) -ℤ w +ℤ x ≡ t
    by w t x = omega (arith, ints)

pub near_within : (f : Basis) (at c : Vector) (m : Motion) → AreStepsBack f (drift m at) c → IsMatrixWithin 50 m.matrix → IsVectorWithin largest_entry at
    → IsVectorWithin largest_entry f.tau → IsVectorWithin (2 ^ 23) (taken_back f c m).translation
unfolding plus multiple
near_within f at c m steps matrix point axis =
    let n = taken_back f c m in
    let r = (scaled f (drift m at)).z -ℤ volume f *ℤ c.z in
    let e = drift_along f at c m steps.x steps.y in
    let turned = image_within matrix point in
    record {
      x = IsWithin-more
          (one_within (image m.matrix at).x n.translation.x at.x largest_entry _ largest_entry
          (rest_within (volume f) (drift n at).x r f.tau.x largest_entry steps.from steps.below (λ i. (e i).x) axis.x) turned.x point.x)
          (lit≤ tt);
      y = IsWithin-more
          (one_within (image m.matrix at).y n.translation.y at.y largest_entry _ largest_entry
          (rest_within (volume f) (drift n at).y r f.tau.y largest_entry steps.from steps.below (λ i. (e i).y) axis.y) turned.y point.y)
          (lit≤ tt);
      z = IsWithin-more
          (one_within (image m.matrix at).z n.translation.z at.z largest_entry _ largest_entry
          (rest_within (volume f) (drift n at).z r f.tau.z largest_entry steps.from steps.below (λ i. (e i).z) axis.z) turned.z point.z)
          (lit≤ tt);
    }
