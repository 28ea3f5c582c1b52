-- What the code finds of a motion along a line is what the motion is there.
use lib.IntN.{*ℤ_comm}
use Rattle.std.proofs.Common.{◌≡◌, ◌⊎◌, inl, inr, ℤ, pos, ◌*ℤ◌, ◌≤ℤ◌, ◌*◌, FitsSigned, w64, to_z, of_z, unsigned_abs, sym, ap, subst, ◌∙◌, arith, lit<, [], ◌∷◌}
use Rattle.std.proofs.lemmas.Int.{ints, to_z-of_z}
use Rattle.fractions.specs.declared.part.TheConstants.{UNIT}
use Rattle.integers.specs.Size.{IsWithin}
use Rattle.integers.proofs.Coded.{again, again_is, code_is, code_within, fits_within}
use Rattle.integers.proofs.Order.{mul_left_cancel_pos}
use Rattle.integers.proofs.Solver.{Expr.{var, num, ◌⊗◌}}
use Rattle.integers.proofs.Wide.{wide, wide_is}
use Rattle.symmetry.specs.Vectors.{Vector, image, multiple, row_times}
use Rattle.symmetry.specs.Motions.{Motion}
use Rattle.symmetry.specs.Frames.{Basis}
use Rattle.motions.specs.Signs.{sign_value}
use Rattle.motions.specs.declared.motion.Sign.{Sign}
use Rattle.motions.specs.declared.motion.Sign.TheVariants.{Plus, Minus}
use Rattle.plane_lattice.specs.Coordinates.{volume}
use Rattle.plane_lattice.specs.Sections.{drift}
use Rattle.plane_lattice.specs.declared.frame.Frame.{Frame}
use Rattle.plane_lattice.proofs.Steps.{step_within}
use Rattle.scanning.specs.Bounds.{largest_level, largest_shift}
use Rattle.scanning.proofs.Shifts.{period_is, period_within}
use Rattle.line_scans.specs.LineOps.{HasLineOp, IsLineOp, IsStep}
use Rattle.line_scans.proofs.Multiples.{first_once}

-- ---- the motion along the line

-- whether a number that fits 64 bits is 1
one_is : (z : ℤ) → FitsSigned w64 z → of_z w64 z ≡ 1 → z ≡ pos 1
one_is z fits e = sym (to_z-of_z w64 z fits) ∙ ap (to_z w64) e

-- the sign is Plus where the number is 1, and Minus where it is not
abbrev pub IsToldSign : ℤ → Sign → Type 0
IsToldSign z s = ((of_z w64 z ≡ 1) × (s ≡ Plus)) ⊎ ((¬ (of_z w64 z ≡ 1)) × (s ≡ Minus))

told_sign : (z : ℤ) → FitsSigned w64 z → (e s : Sign) → z ≡ sign_value e → IsToldSign z s → s ≡ e
told_sign z fits Plus s e (inl (one, is)) = is
told_sign z fits Minus s e (inl (one, is)) = let k = one_is z fits one in absurd (omega (arith, ints, k, e))
told_sign z fits Plus s e (inr (not_one, is)) = absurd (not_one (ap (of_z w64) e))
told_sign z fits Minus s e (inr (not_one, is)) = is

pub found_op : (r : Vector) (b f : Basis) → b ≡ f → pos 1 ≤ℤ volume f → (k : ℤ) (m : Motion) → HasLineOp r f k m
    → (turned t : ℤ) → FitsSigned w64 turned → FitsSigned w64 t → (e s : Sign)
    → multiple turned b.a ≡ image m.matrix b.a → IsToldSign turned s → row_times r m.matrix ≡ multiple (sign_value e) r
    → multiple t b.a ≡ drift m f.tau k → IsLineOp r f k m (record { f = s; e = e; t = again t })
found_op r b f same above k m (op, is) turned t fits fits' e s at_a told row at_o = record {
  along = is.along ∙ ap (λ x. multiple (sign_value x) f.a) (sym sign);
  across = row;
  translation = sym at_o ∙ (λ i. multiple t (same i).a) ∙ ap (λ x. multiple x f.a) (sym (to_z-of_z w64 t fits'));
}
  where
    sign : s ≡ op.f
    sign =
        told_sign turned fits op.f s
        (first_once f above turned (sign_value op.f) ((λ i. multiple turned (sym same i).a) ∙ at_a ∙ (λ i. image m.matrix (same i).a) ∙ is.along)) told

-- ---- the step of a special height

module _ (frame : Frame) (level n m : ℤ) (in_range : IsWithin largest_level level) (n_is : n ≡ again (again level *ℤ UNIT)) (m_is : m ≡ again frame.period.0)
    (k : ℤ) (step : IsStep frame.period.0 level k) where
  wide_n : wide n ≡ level *ℤ UNIT
  wide_n =
      let code = code_is (largest_level ∷ []) (level ∷ []) (var 0 ⊗ num UNIT) tt (in_range, tt) in
      let within = code_within (largest_level ∷ []) (level ∷ []) (var 0 ⊗ num UNIT) tt (in_range, tt) in
      ap wide n_is ∙ wide_is (largest_level * unsigned_abs UNIT) (again (again level *ℤ UNIT)) (lit< tt) within ∙ code

  wide_m : wide m ≡ frame.period.0
  wide_m = ap wide (m_is ∙ period_is frame) ∙ wide_is (largest_shift (1000 * unsigned_abs UNIT)) frame.period.0 (lit< tt) (period_within frame)

  quotient_is : (q : ℤ) → wide m *ℤ q ≡ wide n → q ≡ k
  quotient_is q e =
      mul_left_cancel_pos frame.period.0 q k frame.above
      (ap (λ d. d *ℤ q) (sym wide_m) ∙ e ∙ wide_n ∙ sym step.is ∙ *ℤ_comm k frame.period.0)

  pub quotient_above : pos 1 ≤ℤ wide m
  quotient_above = subst (λ (z : ℤ). pos 1 ≤ℤ z) (sym wide_m) frame.above

  pub some_quotient : ((q : ℤ) → ¬ (wide m *ℤ q ≡ wide n)) → ⊥
  some_quotient none = none k (ap (λ d. d *ℤ k) wide_m ∙ *ℤ_comm frame.period.0 k ∙ step.is ∙ sym wide_n)

  module _ (q : ℤ) (e : wide m *ℤ q ≡ wide n) where
    wide_q : wide q ≡ k
    wide_q = ap wide (quotient_is q e) ∙ wide_is (2 * unsigned_abs UNIT) k (lit< tt) (step_within k step.from step.below)

    pub step_fits : FitsSigned w64 (wide q)
    step_fits = subst (FitsSigned w64) (sym wide_q) (fits_within k (2 * unsigned_abs UNIT) (step_within k step.from step.below) (lit< tt))

    pub step_found : IsStep frame.period.0 level (again (wide q))
    step_found =
        subst (IsStep frame.period.0 level) (sym (ap again wide_q ∙ again_is k (2 * unsigned_abs UNIT) (step_within k step.from step.below) (lit< tt))) step
