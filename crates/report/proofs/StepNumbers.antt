-- The step of a height, as the code computes it.
use Rattle.std.proofs.Common.{◌≡◌, ◌*◌, ◌<◌, ℤ, pos, ◌*ℤ◌, ◌≤ℤ◌, ◌<ℤ◌, [], ◌∷◌, FitsSigned, w64, unsigned_abs, lit<, lit≤, sym, ap, subst, ◌∙◌}
use Rattle.fractions.specs.declared.part.TheConstants.{UNIT}
use Rattle.integers.specs.Size.{IsWithin}
use Rattle.integers.proofs.Coded.{again, again_is, code_is, fits_within}
use Rattle.integers.proofs.Order.{one-le-mul}
use Rattle.integers.proofs.Ring.{IsWithin-mul}
use Rattle.integers.proofs.Solver.{Expr.{var, num, ◌⊗◌}}
use Rattle.integers.proofs.Wide.{wide, wide_is, cast_is}
use Rattle.symmetry.specs.Planes.{Height}
use Rattle.plane_lattice.specs.Bounds.{largest_period}
use Rattle.plane_lattice.proofs.Steps.{step_within}
use Rattle.plane_lattice.specs.SmallHeights.{IsSmallHeight}
use Rattle.report.specs.SectionTypes.{IsAtStep}
use Rattle.report.proofs.SeenLists.{step_divides, step_found}

-- a step goes through 64 bits
pub step_again : (k : ℤ) → pos 0 ≤ℤ k → k <ℤ (pos 2 *ℤ UNIT) → again k ≡ k
step_again k from below = again_is k (2 * unsigned_abs UNIT) (step_within k from below) (lit< tt)

pub parts_are : (s : Height) (n : ℤ) → IsSmallHeight s → n ≡ s.num → again (again (wide n) *ℤ (pos 2 *ℤ UNIT *ℤ UNIT)) ≡ s.num *ℤ (pos 2 *ℤ UNIT *ℤ UNIT)
parts_are s n small e =
    ap (λ z. again (again z *ℤ (pos 2 *ℤ UNIT *ℤ UNIT))) (cast_is (2 * largest_period) n s.num (lit< tt) small.num e)
    ∙ code_is (2 * largest_period ∷ []) (s.num ∷ []) (var 0 ⊗ num (pos 2 *ℤ UNIT *ℤ UNIT)) tt (small.num, tt)

pub over_is : (s : Height) (d m : ℤ) → IsSmallHeight s → IsWithin largest_period d → m ≡ s.den → again (again (wide m) *ℤ again d) ≡ s.den *ℤ d
over_is s d m small near e =
    ap (λ z. again (again z *ℤ again d)) (cast_is (2 * unsigned_abs UNIT) m s.den (lit< tt) small.den e)
    ∙ code_is (2 * unsigned_abs UNIT ∷ largest_period ∷ []) (s.den ∷ d ∷ []) (var 0 ⊗ var 1) tt (small.den, (near, tt))

module _ (s : Height) (d : ℤ) (small : IsSmallHeight s) (near : IsWithin largest_period d) (above : pos 1 ≤ℤ d)
    (n m : ℤ) (n_is : n ≡ s.num *ℤ (pos 2 *ℤ UNIT *ℤ UNIT)) (m_is : m ≡ s.den *ℤ d) where
  factor : IsWithin (2 * unsigned_abs UNIT * unsigned_abs UNIT) (pos 2 *ℤ UNIT *ℤ UNIT)
  factor = record { most = lit≤ tt }

  wide_n : wide n ≡ s.num *ℤ (pos 2 *ℤ UNIT *ℤ UNIT)
  wide_n = ap wide n_is ∙ wide_is ((2 * largest_period) * (2 * unsigned_abs UNIT * unsigned_abs UNIT)) _ (lit< tt) (IsWithin-mul small.num factor)

  wide_m : wide m ≡ s.den *ℤ d
  wide_m = ap wide m_is ∙ wide_is ((2 * unsigned_abs UNIT) * largest_period) _ (lit< tt) (IsWithin-mul small.den near)

  pub over_above : pos 1 ≤ℤ wide m
  over_above = subst (λ (z : ℤ). pos 1 ≤ℤ z) (sym wide_m) (one-le-mul s.den d small.above above)

  module _ (k : ℤ) (at : IsAtStep d s k) where
    quotient_is : (q : ℤ) → wide m *ℤ q ≡ wide n → q ≡ k
    quotient_is q e = step_found d k q s above small.above at (ap (λ z. z *ℤ q) (sym wide_m) ∙ (e ∙ wide_n))

    pub some_quotient : ((q : ℤ) → ¬ (wide m *ℤ q ≡ wide n)) → ⊥
    some_quotient none = none k (ap (λ z. z *ℤ k) wide_m ∙ (step_divides d k s at ∙ sym wide_n))

    module _ (q : ℤ) (e : wide m *ℤ q ≡ wide n) where
      wide_q : wide q ≡ k
      wide_q = ap wide (quotient_is q e) ∙ wide_is (2 * unsigned_abs UNIT) k (lit< tt) (step_within k at.from at.below)

      pub quotient_fits : FitsSigned w64 (wide q)
      quotient_fits = subst (FitsSigned w64) (sym wide_q) (fits_within k (2 * unsigned_abs UNIT) (step_within k at.from at.below) (lit< tt))

      pub quotient_at : IsAtStep d s (again (wide q))
      quotient_at = subst (IsAtStep d s) (sym (ap again wide_q ∙ step_again k at.from at.below)) at

-- a step that was handed on, where the period is written otherwise
pub handed_step : (s : Height) (d d' k : ℤ) → d ≡ d' → IsAtStep d' s k → IsAtStep d s (again k)
handed_step s d d' k e at = subst (λ p. IsAtStep p s (again k)) (sym e) (subst (IsAtStep d' s) (sym (step_again k at.from at.below)) at)
