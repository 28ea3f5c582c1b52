-- How large tau is.
use Rattle.std.proofs.Common.{◌≡◌, ◌⊎◌, inl, inr, ℕ, zero, suc, ◌+◌, ◌*◌, ◌≤◌, ℤ, pos, ◌-ℤ◌, ◌*ℤ◌, ◌≤ℤ◌, ◌<ℤ◌, [], ◌∷◌, nat_abs, refl, subst, arith, lit≤}
use Rattle.std.specs.Prelude.{unsigned_abs}
use Rattle.std.proofs.lemmas.Int.{ints}
use Rattle.std.proofs.Math.Nat.{le_of_mul-le-mul_left}
use Rattle.fractions.specs.declared.part.TheConstants.{UNIT}
use Rattle.integers.specs.Size.{IsWithin}
use Rattle.integers.proofs.Ring.{abs-mul, abs-zero, IsWithin-more, IsWithin-mul, IsWithin-sub}
use Rattle.integers.proofs.Solver.{Expr.{var, num, ◌⊕◌, ◌⊝◌, ◌⊗◌}, linear, given}
use Rattle.integers.proofs.Order.{zero_or_not}
use Rattle.integers.proofs.Sizes.{factor_within}
use Rattle.motions.specs.declared.miller.TheConstants.{INDEX}
use Rattle.symmetry.specs.Groups.{Listing}
use Rattle.symmetry.specs.Planes.{IsCoprime}
use Rattle.symmetry.specs.Sizes.{IsVectorWithin}
use Rattle.symmetry.specs.Vectors.{Vector, dot}
use Rattle.plane_lattice.specs.Bounds.{largest_entry}
use Rattle.line_frames.specs.Searches.{along_lines, coordinate, IsFirstAbove, IsForwardAlong}
use Rattle.line_frames.proofs.Points.{coordinate_x, coordinate_y}
use Rattle.line_frames.proofs.Senses.{first_is_some}

-- a number is small where its product with k is, but for a product with k
small_quotient : (k y x : ℕ) → ¬ (k ≡ 0) → x ≤ unsigned_abs UNIT * k → k * y ≤ unsigned_abs UNIT + unsigned_abs INDEX * x → y ≤ largest_entry
small_quotient zero y x some few h = absurd (some refl)
small_quotient (suc k) y x some few h =
    let most : suc k * y ≤ suc k * largest_entry = omega (arith, few, h) in le_of_mul-le-mul_left most (omega arith)

module _ (g : Listing) (r : Vector) (coprime : IsCoprime r) (line : r.z ≡ pos 0) (m : ℤ) (small_m : IsWithin (unsigned_abs UNIT) m)
    (x_small : IsWithin (unsigned_abs INDEX) r.x) (forward : IsForwardAlong g r (along_lines r m)) (tau : Vector) (first : IsFirstAbove g r (along_lines r m) tau) where
  height : IsWithin (unsigned_abs UNIT) (dot r tau)
  height = let from = first.from in let most = first.most in record { most = omega (arith, ints, from, most) }

  few_parts : (x : ℤ) → pos 0 ≤ℤ x → x <ℤ (m *ℤ r.y) → nat_abs x ≤ unsigned_abs UNIT * nat_abs r.y
  few_parts x from below =
      let near : IsWithin (unsigned_abs UNIT * nat_abs r.y) (m *ℤ r.y) = IsWithin-mul small_m (record { most = omega arith }) in
      let most = near.most in
      omega (arith, ints, from, below, most)

  pub tau_within : IsVectorWithin largest_entry tau
  unfolding dot
  tau_within = by (zero_or_not r.y)
    where
      flat : IsWithin largest_entry tau.z
      flat = let z = first.reduced.at.flat in record { most = omega (arith, ints, z) }

      by : (r.y ≡ pos 0) ⊎ (¬ (r.y ≡ pos 0)) → IsVectorWithin largest_entry tau
      by (inl y) =
          let from = subst (λ z. pos 0 ≤ℤ z) (coordinate_y r tau y) first.reduced.from in
          let below = subst (λ z. z <ℤ coordinate r (along_lines r m)) (coordinate_y r tau y) first.reduced.below in
          let most = forward.most in
          let gives : dot r tau ≡ r.x *ℤ tau.x =
          linear (r.x ∷ r.y ∷ r.z ∷ tau.x ∷ tau.y ∷ tau.z ∷ []) (var 0 ⊗ var 3 ⊕ var 1 ⊗ var 4 ⊕ var 2 ⊗ var 5) (var 0 ⊗ var 3)
          (given (var 4) (var 1) (num (pos 0)) ∷ given (var 5) (var 2) (num (pos 0)) ∷ []) tt (y, (line, tt)) in
          record {
            x = IsWithin-more (factor_within (unsigned_abs UNIT) r.x tau.x (first_is_some r coprime line y) (subst (IsWithin (unsigned_abs UNIT)) gives height)) (lit≤ tt);
            y = record { most = omega (arith, ints, from, below, most) };
            z = flat;
          }
      by (inr not) =
          let from = subst (λ z. pos 0 ≤ℤ z) (coordinate_x r tau not) first.reduced.from in
          let below = subst (λ z. z <ℤ (m *ℤ r.y)) (coordinate_x r tau not) (subst (λ z. coordinate r tau <ℤ z) (coordinate_x r (along_lines r m) not) first.reduced.below) in
          let most = subst (λ z. z ≤ℤ (UNIT *ℤ INDEX)) (coordinate_x r (along_lines r m) not) forward.most in
          let gives : dot r tau -ℤ r.x *ℤ tau.x ≡ r.y *ℤ tau.y =
          linear (r.x ∷ r.y ∷ r.z ∷ tau.x ∷ tau.y ∷ tau.z ∷ []) (var 0 ⊗ var 3 ⊕ var 1 ⊗ var 4 ⊕ var 2 ⊗ var 5 ⊝ var 0 ⊗ var 3) (var 1 ⊗ var 4)
          (given (var 5) (var 2) (num (pos 0)) ∷ []) tt (line, tt) in
          let at_x : IsWithin (nat_abs tau.x) tau.x = record { most = omega arith } in
          record {
            x = record { most = omega (arith, ints, from, below, most) };
            y = record {
              most = small_quotient (nat_abs r.y) (nat_abs tau.y) (nat_abs tau.x) (λ e. not (abs-zero r.y e))
                  (few_parts tau.x from below)
                  (subst (λ (k : ℕ). k ≤ unsigned_abs UNIT + unsigned_abs INDEX * nat_abs tau.x) (abs-mul r.y tau.y)
                  (subst (IsWithin (unsigned_abs UNIT + unsigned_abs INDEX * nat_abs tau.x)) gives (IsWithin-sub height (IsWithin-mul x_small at_x))).most);
            };
            z = flat;
          }
