-- Matrices in a plane: multiples, and a factor with a cross number that is not 0.
use Rattle.std.proofs.Common.{◌≡◌, zero, suc, ℤ, pos, negsuc, ◌+ℤ◌, ◌-ℤ◌, ◌*ℤ◌, ◌≤ℤ◌, refl, sym, ◌∙◌, ap, arith, [], ◌∷◌}
use Rattle.std.proofs.lemmas.Int.{ints}
use Rattle.integers.proofs.Order.{mul_left_cancel_pos}
use Rattle.integers.proofs.Ring.{mul_left_cancel, mul_assoc, one_mul}
use Rattle.integers.proofs.Solver.{Expr.{var, num, ◌⊕◌, ◌⊝◌, ◌⊗◌}, ring}
use Rattle.integers.specs.Size.{sign_number}
use Rattle.motions.specs.PlaneMatrices.{Matrix2, product2, determinant2, adjugate2}
use Rattle.motions.specs.Laws.PlaneMatrixLaws.{pair_path, matrix2_path}
use Rattle.recognition.specs.RationalRods.{multiple2}

pub multiple2-one : (m : Matrix2) → multiple2 (pos 1) m ≡ m
multiple2-one m = matrix2_path (pair_path (one_mul m.first.x) (one_mul m.first.y)) (pair_path (one_mul m.second.x) (one_mul m.second.y))

pub multiple2-multiple2 : (c d : ℤ) (m : Matrix2) → multiple2 c (multiple2 d m) ≡ multiple2 (c *ℤ d) m
multiple2-multiple2 c d m =
    matrix2_path (pair_path (sym (mul_assoc c d m.first.x)) (sym (mul_assoc c d m.first.y))) (pair_path (sym (mul_assoc c d m.second.x)) (sym (mul_assoc c d m.second.y)))

pub multiple2_cancel : (c : ℤ) (m n : Matrix2) → pos 1 ≤ℤ c → multiple2 c m ≡ multiple2 c n → m ≡ n
multiple2_cancel c m n h e =
    matrix2_path
    (pair_path (mul_left_cancel_pos c m.first.x n.first.x h (λ i. (e i).first.x)) (mul_left_cancel_pos c m.first.y n.first.y h (λ i. (e i).first.y)))
    (pair_path (mul_left_cancel_pos c m.second.x n.second.x h (λ i. (e i).second.x)) (mul_left_cancel_pos c m.second.y n.second.y h (λ i. (e i).second.y)))

-- an entry of a multiple's product
dot_multiple : (c a b x y : ℤ) → (c *ℤ a) *ℤ x +ℤ (c *ℤ b) *ℤ y ≡ c *ℤ (a *ℤ x +ℤ b *ℤ y)
dot_multiple c a b x y = ring (c ∷ a ∷ b ∷ x ∷ y ∷ []) ((var 0 ⊗ var 1) ⊗ var 3 ⊕ (var 0 ⊗ var 2) ⊗ var 4) (var 0 ⊗ (var 1 ⊗ var 3 ⊕ var 2 ⊗ var 4)) tt

dot_multiple_right : (c a b x y : ℤ) → a *ℤ (c *ℤ x) +ℤ b *ℤ (c *ℤ y) ≡ c *ℤ (a *ℤ x +ℤ b *ℤ y)
dot_multiple_right c a b x y = ring (c ∷ a ∷ b ∷ x ∷ y ∷ []) (var 1 ⊗ (var 0 ⊗ var 3) ⊕ var 2 ⊗ (var 0 ⊗ var 4)) (var 0 ⊗ (var 1 ⊗ var 3 ⊕ var 2 ⊗ var 4)) tt

pub multiple2-product2 : (c : ℤ) (m n : Matrix2) → product2 (multiple2 c m) n ≡ multiple2 c (product2 m n)
multiple2-product2 c m n =
    matrix2_path
    (pair_path (dot_multiple c m.first.x m.first.y n.first.x n.second.x) (dot_multiple c m.first.x m.first.y n.first.y n.second.y))
    (pair_path (dot_multiple c m.second.x m.second.y n.first.x n.second.x) (dot_multiple c m.second.x m.second.y n.first.y n.second.y))

pub product2-multiple2 : (c : ℤ) (m n : Matrix2) → product2 m (multiple2 c n) ≡ multiple2 c (product2 m n)
product2-multiple2 c m n =
    matrix2_path
    (pair_path (dot_multiple_right c m.first.x m.first.y n.first.x n.second.x) (dot_multiple_right c m.first.x m.first.y n.first.y n.second.y))
    (pair_path (dot_multiple_right c m.second.x m.second.y n.first.x n.second.x) (dot_multiple_right c m.second.x m.second.y n.first.y n.second.y))

-- (M adj P) P is det P times M, and P adj P too
pub undone_right : (m p : Matrix2) → product2 (product2 m (adjugate2 p)) p ≡ multiple2 (determinant2 p) m
undone_right m p =
    matrix2_path (pair_path (x m.first.x m.first.y) (y m.first.x m.first.y)) (pair_path (x m.second.x m.second.y) (y m.second.x m.second.y))
  where
    x : (a b : ℤ) → (a *ℤ p.second.y +ℤ b *ℤ (negsuc 0 *ℤ p.second.x)) *ℤ p.first.x +ℤ (a *ℤ (negsuc 0 *ℤ p.first.y) +ℤ b *ℤ p.first.x) *ℤ p.second.x ≡ determinant2 p *ℤ a
    x a b =
        ring (a ∷ b ∷ p.first.x ∷ p.first.y ∷ p.second.x ∷ p.second.y ∷ [])
        ((var 0 ⊗ var 5 ⊕ var 1 ⊗ (num (negsuc 0) ⊗ var 4)) ⊗ var 2 ⊕ (var 0 ⊗ (num (negsuc 0) ⊗ var 3) ⊕ var 1 ⊗ var 2) ⊗ var 4)
        ((var 2 ⊗ var 5 ⊝ var 3 ⊗ var 4) ⊗ var 0) tt

    y : (a b : ℤ) → (a *ℤ p.second.y +ℤ b *ℤ (negsuc 0 *ℤ p.second.x)) *ℤ p.first.y +ℤ (a *ℤ (negsuc 0 *ℤ p.first.y) +ℤ b *ℤ p.first.x) *ℤ p.second.y ≡ determinant2 p *ℤ b
    y a b =
        ring (a ∷ b ∷ p.first.x ∷ p.first.y ∷ p.second.x ∷ p.second.y ∷ [])
        ((var 0 ⊗ var 5 ⊕ var 1 ⊗ (num (negsuc 0) ⊗ var 4)) ⊗ var 3 ⊕ (var 0 ⊗ (num (negsuc 0) ⊗ var 3) ⊕ var 1 ⊗ var 2) ⊗ var 5)
        ((var 2 ⊗ var 5 ⊝ var 3 ⊗ var 4) ⊗ var 1) tt

-- (M P) adj P is det P times M
pub redone_right : (m p : Matrix2) → product2 (product2 m p) (adjugate2 p) ≡ multiple2 (determinant2 p) m
redone_right m p =
    matrix2_path (pair_path (x m.first.x m.first.y) (y m.first.x m.first.y)) (pair_path (x m.second.x m.second.y) (y m.second.x m.second.y))
  where
    x : (a b : ℤ) → (a *ℤ p.first.x +ℤ b *ℤ p.second.x) *ℤ p.second.y +ℤ (a *ℤ p.first.y +ℤ b *ℤ p.second.y) *ℤ (negsuc 0 *ℤ p.second.x) ≡ determinant2 p *ℤ a
    x a b =
        ring (a ∷ b ∷ p.first.x ∷ p.first.y ∷ p.second.x ∷ p.second.y ∷ [])
        ((var 0 ⊗ var 2 ⊕ var 1 ⊗ var 4) ⊗ var 5 ⊕ (var 0 ⊗ var 3 ⊕ var 1 ⊗ var 5) ⊗ (num (negsuc 0) ⊗ var 4))
        ((var 2 ⊗ var 5 ⊝ var 3 ⊗ var 4) ⊗ var 0) tt

    y : (a b : ℤ) → (a *ℤ p.first.x +ℤ b *ℤ p.second.x) *ℤ (negsuc 0 *ℤ p.first.y) +ℤ (a *ℤ p.first.y +ℤ b *ℤ p.second.y) *ℤ p.first.x ≡ determinant2 p *ℤ b
    y a b =
        ring (a ∷ b ∷ p.first.x ∷ p.first.y ∷ p.second.x ∷ p.second.y ∷ [])
        ((var 0 ⊗ var 2 ⊕ var 1 ⊗ var 4) ⊗ (num (negsuc 0) ⊗ var 3) ⊕ (var 0 ⊗ var 3 ⊕ var 1 ⊗ var 5) ⊗ var 2)
        ((var 2 ⊗ var 5 ⊝ var 3 ⊗ var 4) ⊗ var 1) tt

multiple2_cancel_crossed : (c : ℤ) (m n : Matrix2) → ¬ (c ≡ pos 0) → multiple2 c m ≡ multiple2 c n → m ≡ n
multiple2_cancel_crossed c m n h e =
    matrix2_path
    (pair_path (mul_left_cancel c m.first.x n.first.x h (λ i. (e i).first.x)) (mul_left_cancel c m.first.y n.first.y h (λ i. (e i).first.y)))
    (pair_path (mul_left_cancel c m.second.x n.second.x h (λ i. (e i).second.x)) (mul_left_cancel c m.second.y n.second.y h (λ i. (e i).second.y)))

-- a matrix is told by its product with P
pub same_left : (m n p : Matrix2) → ¬ (determinant2 p ≡ pos 0) → product2 m p ≡ product2 n p → m ≡ n
same_left m n p crossed e =
    multiple2_cancel_crossed (determinant2 p) m n crossed (sym (redone_right m p) ∙ ap (λ k. product2 k (adjugate2 p)) e ∙ redone_right n p)

-- and by that of P with it
pub same_right : (m n p : Matrix2) → ¬ (determinant2 p ≡ pos 0) → product2 p m ≡ product2 p n → m ≡ n
same_right m n p crossed e =
    multiple2_cancel_crossed (determinant2 p) m n crossed (sym (undone_left m) ∙ ap (product2 (adjugate2 p)) e ∙ undone_left n)
  where
    one : (a b c d x y : ℤ) → d *ℤ (a *ℤ x +ℤ b *ℤ y) +ℤ (negsuc 0 *ℤ b) *ℤ (c *ℤ x +ℤ d *ℤ y) ≡ (a *ℤ d -ℤ b *ℤ c) *ℤ x
    one a b c d x y =
        ring (a ∷ b ∷ c ∷ d ∷ x ∷ y ∷ []) (var 3 ⊗ (var 0 ⊗ var 4 ⊕ var 1 ⊗ var 5) ⊕ (num (negsuc 0) ⊗ var 1) ⊗ (var 2 ⊗ var 4 ⊕ var 3 ⊗ var 5))
        ((var 0 ⊗ var 3 ⊝ var 1 ⊗ var 2) ⊗ var 4) tt

    two : (a b c d x y : ℤ) → (negsuc 0 *ℤ c) *ℤ (a *ℤ x +ℤ b *ℤ y) +ℤ a *ℤ (c *ℤ x +ℤ d *ℤ y) ≡ (a *ℤ d -ℤ b *ℤ c) *ℤ y
    two a b c d x y =
        ring (a ∷ b ∷ c ∷ d ∷ x ∷ y ∷ []) ((num (negsuc 0) ⊗ var 2) ⊗ (var 0 ⊗ var 4 ⊕ var 1 ⊗ var 5) ⊕ var 0 ⊗ (var 2 ⊗ var 4 ⊕ var 3 ⊗ var 5))
        ((var 0 ⊗ var 3 ⊝ var 1 ⊗ var 2) ⊗ var 5) tt

    undone_left : (k : Matrix2) → product2 (adjugate2 p) (product2 p k) ≡ multiple2 (determinant2 p) k
    undone_left k =
        matrix2_path
        (pair_path (one p.first.x p.first.y p.second.x p.second.y k.first.x k.second.x) (one p.first.x p.first.y p.second.x p.second.y k.first.y k.second.y))
        (pair_path (two p.first.x p.first.y p.second.x p.second.y k.first.x k.second.x) (two p.first.x p.first.y p.second.x p.second.y k.first.y k.second.y))

-- the size of a cross number that is not 0
pub size_positive : (d : ℤ) → ¬ (d ≡ pos 0) → pos 1 ≤ℤ (sign_number d *ℤ d)
size_positive (pos zero) h = absurd (h refl)
size_positive (pos (suc n)) h = omega (arith, ints)
size_positive (negsuc n) h = omega (arith, ints)
