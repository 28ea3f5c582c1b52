-- A rod motion and what takes its translation back, with the inverse of its matrix.
use Rattle.std.proofs.Common.{◌≡◌, ℤ, pos, ◌+ℤ◌, ◌*ℤ◌, neg_ℤ, [], ◌∷◌, ap, sym, ◌∙◌}
use Rattle.integers.proofs.Solver.{Expr.{var, num, neg, ◌⊕◌, ◌⊗◌}, linear, given}
use Rattle.motions.specs.declared.motion.Sign.{Sign}
use Rattle.motions.specs.Signs.{sign_value, sign_product}
use Rattle.motions.specs.Laws.SignLaws.{sign_product-same, sign_value-sign_product}
use Rattle.motions.specs.PlaneMatrices.{product2, unit2}
use Rattle.motions.specs.RodMotions.{RodOperation, rod_followed_by, rod_identity}
use Rattle.motions.specs.Laws.RodLaws.{rod_path}

along_back : (e : Sign) (t u : ℤ) → u ≡ neg_ℤ (sign_value e *ℤ t) → (sign_value e *ℤ t +ℤ u ≡ pos 0) × (sign_value e *ℤ u +ℤ t ≡ pos 0)
along_back e t u is =
    let numbers = sign_value e ∷ t ∷ u ∷ [] in
    let square = sym (sign_value-sign_product e e) ∙ ap sign_value (sign_product-same e) in (
      linear numbers (var 0 ⊗ var 1 ⊕ var 2) (num (pos 0)) (given (num (pos 1)) (var 2) (neg (var 0 ⊗ var 1)) ∷ []) tt (is, tt),
      linear numbers (var 0 ⊗ var 2 ⊕ var 1) (num (pos 0))
          (given (var 0) (var 2) (neg (var 0 ⊗ var 1)) ∷ given (neg (var 1)) (var 0 ⊗ var 0) (num (pos 1)) ∷ []) tt (is, (square, tt)),
    )

pub rod_undone : (m n : RodOperation) → product2 m.matrix n.matrix ≡ unit2 → product2 n.matrix m.matrix ≡ unit2
    → n.along ≡ m.along → n.translation ≡ neg_ℤ (sign_value m.along *ℤ m.translation)
    → (rod_followed_by m n ≡ rod_identity) × (rod_followed_by n m ≡ rod_identity)
rod_undone m n right left along taken =
    let back = along_back m.along m.translation n.translation taken in (
      rod_path left (ap (λ e. sign_product e m.along) along ∙ sign_product-same m.along)
          (ap (λ e. sign_value e *ℤ m.translation +ℤ n.translation) along ∙ back.0),
      rod_path right (ap (sign_product m.along) along ∙ sign_product-same m.along) back.1,
    )
