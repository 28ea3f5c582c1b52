-- The two congruences of a pair of motions.
use Rattle.std.proofs.Common.{◌≡◌, ◌↔◌, ℕ, ℤ, pos, ◌+ℤ◌, ◌-ℤ◌, ◌*ℤ◌, [], ◌∷◌, sym, ◌∙◌, subst}
use Rattle.integers.proofs.Solver.{Expr.{var, num, ◌⊕◌, ◌⊝◌, ◌⊗◌}, ring}
use Rattle.motions.specs.declared.layer.LayerMotion.{LayerMotion}
use Rattle.motions.specs.PlaneMatrices.{Matrix2, dot2}
use Rattle.motions.specs.PlaneViews.{matrix2_of, pair_of}
use Rattle.recognition.specs.Grid.{grid}
use Rattle.motions.specs.Rationals.{IsMultiple}
use Rattle.recognition.specs.Listed.{IsClose, first_rest, second_rest}

module _ (p : Matrix2) (m n : LayerMotion) (x y : ℕ) where
  -- the six numbers of the two congruences
  pub record AreLines (c0 x0 y0 c1 x1 y1 : ℤ) : Type 0 where
    pub first_c : c0 ≡ pos 6 *ℤ ((pair_of m.t).x -ℤ dot2 p.first (pair_of n.t))
    pub first_x : x0 ≡ (matrix2_of m.a).first.x -ℤ pos 1
    pub first_y : y0 ≡ (matrix2_of m.a).first.y
    pub second_c : c1 ≡ pos 6 *ℤ ((pair_of m.t).y -ℤ dot2 p.second (pair_of n.t))
    pub second_x : x1 ≡ (matrix2_of m.a).second.x
    pub second_y : y1 ≡ (matrix2_of m.a).second.y -ℤ pos 1

  first_is : (s i a b u v : ℤ) → (pos 6 *ℤ (s -ℤ i) +ℤ (a -ℤ pos 1) *ℤ u) +ℤ b *ℤ v ≡ pos 6 *ℤ (s -ℤ i) -ℤ (u -ℤ (a *ℤ u +ℤ b *ℤ v))
  first_is s i a b u v =
      ring (s ∷ i ∷ a ∷ b ∷ u ∷ v ∷ []) ((num (pos 6) ⊗ (var 0 ⊝ var 1) ⊕ (var 2 ⊝ num (pos 1)) ⊗ var 4) ⊕ var 3 ⊗ var 5)
      (num (pos 6) ⊗ (var 0 ⊝ var 1) ⊝ (var 4 ⊝ (var 2 ⊗ var 4 ⊕ var 3 ⊗ var 5))) tt

  second_is : (s i a b u v : ℤ) → (pos 6 *ℤ (s -ℤ i) +ℤ a *ℤ u) +ℤ (b -ℤ pos 1) *ℤ v ≡ pos 6 *ℤ (s -ℤ i) -ℤ (v -ℤ (a *ℤ u +ℤ b *ℤ v))
  second_is s i a b u v =
      ring (s ∷ i ∷ a ∷ b ∷ u ∷ v ∷ []) ((num (pos 6) ⊗ (var 0 ⊝ var 1) ⊕ var 2 ⊗ var 4) ⊕ (var 3 ⊝ num (pos 1)) ⊗ var 5)
      (num (pos 6) ⊗ (var 0 ⊝ var 1) ⊝ (var 5 ⊝ (var 2 ⊗ var 4 ⊕ var 3 ⊗ var 5))) tt

  module _ (c0 x0 y0 c1 x1 y1 : ℤ) (are : AreLines c0 x0 y0 c1 x1 y1) where
    first : (c0 +ℤ x0 *ℤ pos x) +ℤ y0 *ℤ pos y ≡ first_rest p x y m n
    first =
        (λ i. (are.first_c i +ℤ are.first_x i *ℤ pos x) +ℤ are.first_y i *ℤ pos y)
        ∙ first_is (pair_of m.t).x (dot2 p.first (pair_of n.t)) (matrix2_of m.a).first.x (matrix2_of m.a).first.y (pos x) (pos y)

    second : (c1 +ℤ x1 *ℤ pos x) +ℤ y1 *ℤ pos y ≡ second_rest p x y m n
    second =
        (λ i. (are.second_c i +ℤ are.second_x i *ℤ pos x) +ℤ are.second_y i *ℤ pos y)
        ∙ second_is (pair_of m.t).y (dot2 p.second (pair_of n.t)) (matrix2_of m.a).second.x (matrix2_of m.a).second.y (pos x) (pos y)

    pub close_is : (IsMultiple (pos grid) ((c0 +ℤ x0 *ℤ pos x) +ℤ y0 *ℤ pos y) × IsMultiple (pos grid) ((c1 +ℤ x1 *ℤ pos x) +ℤ y1 *ℤ pos y)) ↔ IsClose p x y m n
    close_is = (
      λ (f, s). record { first = subst (IsMultiple (pos grid)) first f; second = subst (IsMultiple (pos grid)) second s },
      λ h. (subst (IsMultiple (pos grid)) (sym first) h.first, subst (IsMultiple (pos grid)) (sym second) h.second),
    )
