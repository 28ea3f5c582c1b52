-- The laws of vectors and matrices in a plane. They stand here since an `impl` cites them.
use Rattle.std.proofs.Common.{◌≡◌, ◌↔◌, IsTrue, ap, arith, ℤ, negsuc, ◌+ℤ◌, ◌*ℤ◌}
use Rattle.std.proofs.lemmas.Int.{ints}
use Rattle.std.specs.Ordering.{int_eq}
use Rattle.std.specs.Cmp.Derive.{both_true}
use Rattle.std.specs.Cmp.{first_so, second_so}
use Rattle.std.proofs.lemmas.Bool.Decides.{Decides-int_eq}
use Rattle.integers.proofs.Spread.{spread}
use Rattle.motions.specs.PlaneMatrices.{Pair, Matrix2, image2, minus2, opposite2, origin2, plus2, product2, row_times2, same_matrix2, same_pair, unit2}

-- two vectors are equal when their entries are, and two matrices when their rows are
pub pair_path : {v w : Pair} → v.x ≡ w.x → v.y ≡ w.y → v ≡ w
pair_path p q = λ i. record { x = p i; y = q i }

pub matrix2_path : {m n : Matrix2} → m.first ≡ n.first → m.second ≡ n.second → m ≡ n
matrix2_path p q = λ i. record { first = p i; second = q i }

-- ---- sums

pub plus2_assoc : (u v w : Pair) → plus2 (plus2 u v) w ≡ plus2 u (plus2 v w)
plus2_assoc u v w = pair_path (omega (arith, ints)) (omega (arith, ints))

pub plus2_comm : (v w : Pair) → plus2 v w ≡ plus2 w v
plus2_comm v w = pair_path (omega (arith, ints)) (omega (arith, ints))

pub plus2-origin : (v : Pair) → plus2 v origin2 ≡ v
plus2-origin v = pair_path (omega (arith, ints)) (omega (arith, ints))

pub origin-plus2 : (v : Pair) → plus2 origin2 v ≡ v
origin-plus2 v = pair_path (omega (arith, ints)) (omega (arith, ints))

pub plus2-opposite : (v : Pair) → plus2 v (opposite2 v) ≡ origin2
plus2-opposite v = pair_path (omega (arith, ints)) (omega (arith, ints))

pub opposite-plus2_same : (v : Pair) → plus2 (opposite2 v) v ≡ origin2
opposite-plus2_same v = pair_path (omega (arith, ints)) (omega (arith, ints))

pub minus2-plus : (v w : Pair) → plus2 w (minus2 v w) ≡ v
minus2-plus v w = pair_path (omega (arith, ints)) (omega (arith, ints))

pub plus2-minus_first : (v w : Pair) → minus2 (plus2 v w) v ≡ w
plus2-minus_first v w = pair_path (omega (arith, ints)) (omega (arith, ints))

-- ---- images

-- an entry of the image of a sum, of a multiple and of an image
dot-sum : (a b u v x y : ℤ) → a *ℤ (u +ℤ x) +ℤ b *ℤ (v +ℤ y) ≡ (a *ℤ u +ℤ b *ℤ v) +ℤ (a *ℤ x +ℤ b *ℤ y)
dot-sum a b u v x y = simp spread (omega (arith, ints))

dot-negative : (a b u v : ℤ) → a *ℤ (negsuc 0 *ℤ u) +ℤ b *ℤ (negsuc 0 *ℤ v) ≡ negsuc 0 *ℤ (a *ℤ u +ℤ b *ℤ v)
dot-negative a b u v = simp spread (omega (arith, ints))

dot-dot : (a b p q r s x y : ℤ) → (a *ℤ p +ℤ b *ℤ r) *ℤ x +ℤ (a *ℤ q +ℤ b *ℤ s) *ℤ y ≡ a *ℤ (p *ℤ x +ℤ q *ℤ y) +ℤ b *ℤ (r *ℤ x +ℤ s *ℤ y)
dot-dot a b p q r s x y = simp spread (omega (arith, ints))

pub image2-plus : (m : Matrix2) (v w : Pair) → image2 m (plus2 v w) ≡ plus2 (image2 m v) (image2 m w)
image2-plus m v w = pair_path (dot-sum m.first.x m.first.y v.x v.y w.x w.y) (dot-sum m.second.x m.second.y v.x v.y w.x w.y)

pub image2-opposite : (m : Matrix2) (v : Pair) → image2 m (opposite2 v) ≡ opposite2 (image2 m v)
image2-opposite m v = pair_path (dot-negative m.first.x m.first.y v.x v.y) (dot-negative m.second.x m.second.y v.x v.y)

pub image2-origin : (m : Matrix2) → image2 m origin2 ≡ origin2
image2-origin m = pair_path (omega (arith, ints)) (omega (arith, ints))

pub image2-unit : (v : Pair) → image2 unit2 v ≡ v
image2-unit v = pair_path (omega (arith, ints)) (omega (arith, ints))

-- (A B) v is A (B v)
pub image2-product : (m n : Matrix2) (v : Pair) → image2 (product2 m n) v ≡ image2 m (image2 n v)
image2-product m n v =
    pair_path
    (dot-dot m.first.x m.first.y n.first.x n.first.y n.second.x n.second.y v.x v.y)
    (dot-dot m.second.x m.second.y n.first.x n.first.y n.second.x n.second.y v.x v.y)

-- ---- products

-- (r A) B is r (A B)
row_times2-product : (r : Pair) (m n : Matrix2) → row_times2 (row_times2 r m) n ≡ row_times2 r (product2 m n)
row_times2-product r m n =
    pair_path
    (dot-dot r.x r.y m.first.x m.first.y m.second.x m.second.y n.first.x n.second.x)
    (dot-dot r.x r.y m.first.x m.first.y m.second.x m.second.y n.first.y n.second.y)

pub product2_assoc : (l m n : Matrix2) → product2 (product2 l m) n ≡ product2 l (product2 m n)
product2_assoc l m n = matrix2_path (row_times2-product l.first m n) (row_times2-product l.second m n)

row_times2-unit : (r : Pair) → row_times2 r unit2 ≡ r
row_times2-unit r = pair_path (omega (arith, ints)) (omega (arith, ints))

pub product2-unit_right : (m : Matrix2) → product2 m unit2 ≡ m
product2-unit_right m = matrix2_path (row_times2-unit m.first) (row_times2-unit m.second)

pub product2-unit_left : (m : Matrix2) → product2 unit2 m ≡ m
product2-unit_left m =
    matrix2_path (pair_path (omega (arith, ints)) (omega (arith, ints))) (pair_path (omega (arith, ints)) (omega (arith, ints)))

-- ---- equality

pub same_pair-is : (v w : Pair) → IsTrue (same_pair v w) ↔ (v ≡ w)
same_pair-is v w = (
  λ t. pair_path ((Decides-int_eq v.x w.x).0 (first_so (int_eq v.x w.x) (int_eq v.y w.y) t)) ((Decides-int_eq v.y w.y).0 (second_so (int_eq v.x w.x) (int_eq v.y w.y) t)),
  λ e. both_true ((Decides-int_eq v.x w.x).1 (ap (λ (u : Pair). u.x) e)) ((Decides-int_eq v.y w.y).1 (ap (λ (u : Pair). u.y) e)),
)

pub same_matrix2-is : (m n : Matrix2) → IsTrue (same_matrix2 m n) ↔ (m ≡ n)
same_matrix2-is m n =
    let first = same_pair m.first n.first in
    let second = same_pair m.second n.second in (
      λ t. matrix2_path ((same_pair-is m.first n.first).0 (first_so first second t)) ((same_pair-is m.second n.second).0 (second_so first second t)),
      λ e. both_true ((same_pair-is m.first n.first).1 (ap (λ (a : Matrix2). a.first) e)) ((same_pair-is m.second n.second).1 (ap (λ (a : Matrix2). a.second) e)),
    )
