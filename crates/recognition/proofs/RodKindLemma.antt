-- A change of basis keeps the sign, the trace and the determinant of an operation.
use lib.IntN.{*ℤ_comm}
use Rattle.std.proofs.Common.{◌≡◌, ℤ, pos, ◌+ℤ◌, ◌-ℤ◌, ◌*ℤ◌, sym, ◌∙◌, ap, List, [], ◌∷◌, slice_index_or}
use Rattle.std.specs.Prelude.{All, Any}
use Rattle.integers.proofs.Ring.{mul_left_cancel}
use Rattle.integers.proofs.Solver.{Expr.{var, neg, ◌⊕◌, ◌⊝◌, ◌⊗◌}, linear, given}
use Rattle.motions.specs.declared.rod.RodMotion.{RodMotion}
use Rattle.motions.specs.PlaneMatrices.{Matrix2, determinant2}
use Rattle.motions.specs.RodMotions.{RodOperation, rod_of}
use Rattle.motions.proofs.PlaneCofactors.{determinant2-product}
use Rattle.recognition.specs.RodChanges.{Carries}
use Rattle.recognition.specs.RodKinds.{IsKin, trace2}
use Rattle.recognition.specs.RodSearch.{IsOfNoMatrix}
use Rattle.recognition.specs.RodTests.{IsLike}
use Rattle.recognition.proofs.RodCarries.{carries_fits}

same_trace : (a b c d p q r s k l m n : ℤ)
    → a *ℤ p +ℤ b *ℤ r ≡ p *ℤ k +ℤ q *ℤ m → a *ℤ q +ℤ b *ℤ s ≡ p *ℤ l +ℤ q *ℤ n
    → c *ℤ p +ℤ d *ℤ r ≡ r *ℤ k +ℤ s *ℤ m → c *ℤ q +ℤ d *ℤ s ≡ r *ℤ l +ℤ s *ℤ n
    → (p *ℤ s -ℤ q *ℤ r) *ℤ (a +ℤ d) ≡ (p *ℤ s -ℤ q *ℤ r) *ℤ (k +ℤ n)
same_trace a b c d p q r s k l m n e f g h =
    linear (a ∷ b ∷ c ∷ d ∷ p ∷ q ∷ r ∷ s ∷ k ∷ l ∷ m ∷ n ∷ [])
    ((var 4 ⊗ var 7 ⊝ var 5 ⊗ var 6) ⊗ (var 0 ⊕ var 3)) ((var 4 ⊗ var 7 ⊝ var 5 ⊗ var 6) ⊗ (var 8 ⊕ var 11))
    (given (var 7) (var 0 ⊗ var 4 ⊕ var 1 ⊗ var 6) (var 4 ⊗ var 8 ⊕ var 5 ⊗ var 10)
    ∷ given (neg (var 6)) (var 0 ⊗ var 5 ⊕ var 1 ⊗ var 7) (var 4 ⊗ var 9 ⊕ var 5 ⊗ var 11)
    ∷ given (neg (var 5)) (var 2 ⊗ var 4 ⊕ var 3 ⊗ var 6) (var 6 ⊗ var 8 ⊕ var 7 ⊗ var 10)
    ∷ given (var 4) (var 2 ⊗ var 5 ⊕ var 3 ⊗ var 7) (var 6 ⊗ var 9 ⊕ var 7 ⊗ var 11) ∷ [])
    tt (e, (f, (g, (h, tt))))

kin_of_like : (p : Matrix2) (m n : RodOperation) → ¬ (determinant2 p ≡ pos 0) → IsLike p m n → IsKin m n
kin_of_like p m n crossed like =
    let a = m.matrix in
    let b = n.matrix in
    let e = like.matrix in
    record {
      along = like.along;
      trace = mul_left_cancel (determinant2 p) (trace2 a) (trace2 b) crossed
          (same_trace a.first.x a.first.y a.second.x a.second.y p.first.x p.first.y p.second.x p.second.y b.first.x b.first.y b.second.x b.second.y
          (λ i. (e i).first.x) (λ i. (e i).first.y) (λ i. (e i).second.x) (λ i. (e i).second.y));
      determinant = mul_left_cancel (determinant2 p) (determinant2 a) (determinant2 b) crossed
          (*ℤ_comm (determinant2 p) (determinant2 a) ∙ sym (determinant2-product a p) ∙ ap determinant2 e ∙ determinant2-product p b);
    }

-- the kin of a list's motions in another
abbrev pub AllHaveKin : List RodMotion → List RodMotion → Type 0
AllHaveKin list other = All (λ m. Any (λ n. IsKin (rod_of m) (rod_of n)) other) list

module _ (section ops : List RodMotion) where
  pub no_matrix_without_kin : ¬ (AllHaveKin section ops) → IsOfNoMatrix (Carries section ops)
  no_matrix_without_kin not q bounded v below h =
      let fits = carries_fits section ops q v h in
      not (λ k d within. let (i, n, under, is, pair) = fits.forth k d within in (i, n, under, is, kin_of_like q (rod_of (slice_index_or section k d)) (rod_of n) fits.crossed pair.like))

  pub no_matrix_without_kin_back : ¬ (AllHaveKin ops section) → IsOfNoMatrix (Carries section ops)
  no_matrix_without_kin_back not q bounded v below h =
      let fits = carries_fits section ops q v h in
      not (λ k d within.
      let (i, m, under, is, pair) = fits.back k d within in
      let kin = kin_of_like q (rod_of m) (rod_of (slice_index_or ops k d)) fits.crossed pair.like in
      (i, m, under, is, record { along = sym kin.along; trace = sym kin.trace; determinant = sym kin.determinant }))
