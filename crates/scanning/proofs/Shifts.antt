-- How far a vector leads across the planes, and what the code computes of it.
use Rattle.std.proofs.Common.{◌≡◌, ℕ, ◌*◌, ◌≤◌, ℤ, pos, ◌+ℤ◌, ◌-ℤ◌, ◌*ℤ◌, ◌≤ℤ◌, ◌<ℤ◌, lit<, lit≤, unsigned_abs, FitsSigned, w64, [], ◌∷◌, ◌∙◌, ap, sym, subst, arith}
use Rattle.std.proofs.lemmas.Int.{ints}
use Rattle.fractions.specs.declared.part.TheConstants.{UNIT}
use Rattle.integers.specs.Size.{IsWithin}
use Rattle.integers.proofs.Coded.{again, again_is, code_fits, code_is, fits_within}
use Rattle.integers.proofs.Ring.{IsWithin-add, IsWithin-more, IsWithin-mul, IsWithin-sub}
use Rattle.integers.proofs.Solver.{Expr.{var, ◌⊕◌, ◌⊝◌}}
use Rattle.integers.proofs.Wide.{wide, wide_is}
use Rattle.symmetry.specs.Sizes.{IsVectorWithin}
use Rattle.symmetry.specs.Vectors.{Vector, dot}
use Rattle.motions.specs.declared.miller.TheConstants.{INDEX}
use Rattle.motions.specs.Views.{parts, row_of}
use Rattle.plane_lattice.specs.declared.frame.Frame.{Frame}
use Rattle.scanning.specs.Bounds.{largest_count, largest_level, largest_shift}

pub shift_within : (n : ℕ) (r v : Vector) → IsVectorWithin (unsigned_abs INDEX) r → IsVectorWithin n v → IsWithin (largest_shift n) (dot r v)
unfolding dot
shift_within n r v row small = IsWithin-add (IsWithin-add (IsWithin-mul row.x small.x) (IsWithin-mul row.y small.y)) (IsWithin-mul row.z small.z)

-- the code's difference of the (hkl).w that is asked and that of a motion
module _ (asked shift at : ℤ) (is : shift ≡ at) (asked_small : IsWithin largest_level asked) (small : IsWithin (largest_shift (unsigned_abs UNIT)) at) where
  shift_small : IsWithin (largest_shift (unsigned_abs UNIT)) shift
  shift_small = let P : ℤ → Type 0 = IsWithin (largest_shift (unsigned_abs UNIT)) in subst P (sym is) small

  pub apart_fits : FitsSigned w64 (again asked -ℤ again shift)
  apart_fits = code_fits (largest_level ∷ largest_shift (unsigned_abs UNIT) ∷ []) (asked ∷ shift ∷ []) (var 0 ⊝ var 1) tt (asked_small, (shift_small, tt))

  pub apart_is : again (again asked -ℤ again shift) ≡ asked -ℤ at
  apart_is =
      code_is (largest_level ∷ largest_shift (unsigned_abs UNIT) ∷ []) (asked ∷ shift ∷ []) (var 0 ⊝ var 1) tt (asked_small, (shift_small, tt))
      ∙ ap (λ z. asked -ℤ z) is

  pub apart_within : IsWithin largest_count (asked -ℤ at)
  apart_within = IsWithin-sub asked_small small

-- ---- the period

module _ (q : Frame) where
  pub period_within : IsWithin (largest_shift (1000 * unsigned_abs UNIT)) q.period.0
  period_within =
      let P : ℤ → Type 0 = IsWithin (largest_shift (1000 * unsigned_abs UNIT)) in
      subst P q.tau_gives (shift_within (1000 * unsigned_abs UNIT) (row_of q.plane) (parts q.tau) q.plane.in_range q.tau_in_range)

  pub period_is : again q.period.0 ≡ q.period.0
  period_is = again_is q.period.0 (largest_shift (1000 * unsigned_abs UNIT)) period_within (lit< tt)

  module _ (t : ℤ) (from : pos 0 ≤ℤ t) where
    -- a number below the period, or below two
    pub below_period : t <ℤ q.period.0 → IsWithin (largest_shift (1000 * unsigned_abs UNIT)) t
    below_period below = let most = period_within.most in record { most = omega (arith, ints) }

    pub below_two_periods : t <ℤ (pos 2 *ℤ q.period.0) → IsWithin largest_level t
    below_two_periods below = IsWithin-more (twice t from q.period.0 (largest_shift (1000 * unsigned_abs UNIT)) below period_within) (lit≤ tt)
      where
        twice : (t : ℤ) → pos 0 ≤ℤ t → (d : ℤ) (n : ℕ) → t <ℤ (pos 2 *ℤ d) → IsWithin n d → IsWithin (2 * n) t
        twice t from d n below small = let most = small.most in record { most = omega (arith, ints) }

    -- and the number that is one period more
    module _ (below : t <ℤ q.period.0) where
      pub next_fits : FitsSigned w64 (again t +ℤ again q.period.0)
      next_fits =
          code_fits (largest_shift (1000 * unsigned_abs UNIT) ∷ largest_shift (1000 * unsigned_abs UNIT) ∷ []) (t ∷ q.period.0 ∷ []) (var 0 ⊕ var 1) tt
          (below_period below, (period_within, tt))

      pub next_is : again (again t +ℤ again q.period.0) ≡ t +ℤ q.period.0
      next_is =
          code_is (largest_shift (1000 * unsigned_abs UNIT) ∷ largest_shift (1000 * unsigned_abs UNIT) ∷ []) (t ∷ q.period.0 ∷ []) (var 0 ⊕ var 1) tt
          (below_period below, (period_within, tt))

      pub rest_is : again t ≡ t
      rest_is = again_is t (largest_shift (1000 * unsigned_abs UNIT)) (below_period below) (lit< tt)

-- ---- how many periods

-- the quotient of the difference and the period, as numbers of 128 bits
module _ (q : Frame) (asked shift at num den : ℤ) (num_is : num ≡ again (again asked -ℤ again shift)) (den_is : den ≡ again q.period.0) (shift_is : shift ≡ at)
    (asked_small : IsWithin largest_level asked) (small : IsWithin (largest_shift (unsigned_abs UNIT)) at) where
  num_wide : wide num ≡ asked -ℤ at
  num_wide =
      ap wide (num_is ∙ apart_is asked shift at shift_is asked_small small)
      ∙ wide_is largest_count (asked -ℤ at) (lit< tt) (apart_within asked shift at shift_is asked_small small)

  den_wide : wide den ≡ q.period.0
  den_wide = ap wide (den_is ∙ period_is q) ∙ wide_is (largest_shift (1000 * unsigned_abs UNIT)) q.period.0 (lit< tt) (period_within q)

  pub no_periods : ((k : ℤ) → ¬ (wide den *ℤ k ≡ wide num)) → (k : ℤ) → ¬ (q.period.0 *ℤ k ≡ asked -ℤ at)
  no_periods none k e = none k (ap (λ n. n *ℤ k) den_wide ∙ e ∙ sym num_wide)

  module _ (k : ℤ) (is : wide den *ℤ k ≡ wide num) (least : unsigned_abs k ≤ unsigned_abs (wide num)) where
    count_within : IsWithin largest_count k
    count_within =
        let within = apart_within asked shift at shift_is asked_small small in
        record { most = let same = ap unsigned_abs num_wide in omega (arith, least, within.most) }

    count_wide : wide k ≡ k
    count_wide = wide_is largest_count k (lit< tt) count_within

    count_again : again (wide k) ≡ k
    count_again = ap again count_wide ∙ again_is k largest_count count_within (lit< tt)

    pub count_fits : FitsSigned w64 (wide k)
    count_fits = let P : ℤ → Type 0 = FitsSigned w64 in subst P (sym count_wide) (fits_within k largest_count count_within (lit< tt))

    pub count_small : IsWithin largest_count (again (wide k))
    count_small = subst (IsWithin largest_count) (sym count_again) count_within

    pub count_is : q.period.0 *ℤ again (wide k) ≡ asked -ℤ at
    count_is = ap (λ n. q.period.0 *ℤ n) count_again ∙ ap (λ n. n *ℤ k) (sym den_wide) ∙ is ∙ num_wide
