-- The laws of matrices: images of columns, rows times matrices, and products.
use Rattle.std.proofs.Common.{◌≡◌, ℤ, negsuc, ◌*ℤ◌, sym, ◌∙◌, ap, arith}
use Rattle.std.proofs.lemmas.Int.{ints}
use Rattle.integers.proofs.Spread.{spread}
use Rattle.symmetry.specs.Vectors.{Vector, Matrix, origin, plus, minus, multiple, opposite, dot, image, row_times, product, unit_matrix}
use Rattle.symmetry.proofs.VectorLaws.{vector_path, row_path, dot-plus, dot-multiple, dot-origin, multiple-dot}

-- two matrices are equal when their rows are
pub matrix_path : {m n : Matrix} → m.first ≡ n.first → m.second ≡ n.second → m.third ≡ n.third → m ≡ n
matrix_path p q r = λ i. record { first = p i; second = q i; third = r i }

-- (r W) v is r (W v)
pub row_times-dot : (r : Vector) (m : Matrix) (v : Vector) → dot (row_times r m) v ≡ dot r (image m v)
unfolding dot plus multiple
row_times-dot r m v = simp spread (omega (arith, ints))

-- ---- images

pub image-plus : (m : Matrix) (v w : Vector) → image m (plus v w) ≡ plus (image m v) (image m w)
unfolding plus
image-plus m v w = vector_path (dot-plus m.first v w) (dot-plus m.second v w) (dot-plus m.third v w)

pub image-multiple : (m : Matrix) (c : ℤ) (v : Vector) → image m (multiple c v) ≡ multiple c (image m v)
unfolding multiple
image-multiple m c v = vector_path (dot-multiple m.first c v) (dot-multiple m.second c v) (dot-multiple m.third c v)

pub image-minus : (m : Matrix) (v w : Vector) → image m (minus v w) ≡ minus (image m v) (image m w)
image-minus m v w = image-plus m v (opposite w) ∙ ap (plus (image m v)) (image-multiple m (negsuc 0) w)

pub image-origin : (m : Matrix) → image m origin ≡ origin
image-origin m = vector_path (dot-origin m.first) (dot-origin m.second) (dot-origin m.third)

-- (A B) v is A (B v)
pub image-product : (m n : Matrix) (v : Vector) → image (product m n) v ≡ image m (image n v)
image-product m n v = vector_path (row_times-dot m.first n v) (row_times-dot m.second n v) (row_times-dot m.third n v)

-- the unit matrix moves no column
pub image-unit : (v : Vector) → image unit_matrix v ≡ v
unfolding dot
image-unit v = vector_path (omega (arith, ints)) (omega (arith, ints)) (omega (arith, ints))

-- ---- rows

pub row_times-multiple : (c : ℤ) (r : Vector) (m : Matrix) → row_times (multiple c r) m ≡ multiple c (row_times r m)
row_times-multiple c r m =
    row_path (row_times (multiple c r) m) (multiple c (row_times r m))
    (λ v. row_times-dot (multiple c r) m v ∙ multiple-dot c r (image m v) ∙ ap (λ x. c *ℤ x) (sym (row_times-dot r m v))
    ∙ sym (multiple-dot c (row_times r m) v))

pub row_times-unit : (r : Vector) → row_times r unit_matrix ≡ r
row_times-unit r = row_path (row_times r unit_matrix) r (λ v. row_times-dot r unit_matrix v ∙ ap (dot r) (image-unit v))

-- (r A) B is r (A B)
pub row_times-product : (r : Vector) (m n : Matrix) → row_times (row_times r m) n ≡ row_times r (product m n)
row_times-product r m n =
    row_path (row_times (row_times r m) n) (row_times r (product m n))
    (λ v. row_times-dot (row_times r m) n v ∙ row_times-dot r m (image n v) ∙ ap (dot r) (sym (image-product m n v))
    ∙ sym (row_times-dot r (product m n) v))

-- a row times a matrix, by columns
pub row_times-columns : (r : Vector) (m : Matrix) (v : Vector)
    → v.x ≡ dot r (record { x = m.first.x; y = m.second.x; z = m.third.x })
    → v.y ≡ dot r (record { x = m.first.y; y = m.second.y; z = m.third.y })
    → v.z ≡ dot r (record { x = m.first.z; y = m.second.z; z = m.third.z })
    → v ≡ row_times r m
unfolding dot plus multiple
row_times-columns r m v p q s = vector_path p q s

-- ---- products

pub product_assoc : (l m n : Matrix) → product (product l m) n ≡ product l (product m n)
product_assoc l m n = matrix_path (row_times-product l.first m n) (row_times-product l.second m n) (row_times-product l.third m n)

pub product-unit_right : (m : Matrix) → product m unit_matrix ≡ m
product-unit_right m = matrix_path (row_times-unit m.first) (row_times-unit m.second) (row_times-unit m.third)

pub product-unit_left : (m : Matrix) → product unit_matrix m ≡ m
unfolding plus multiple
product-unit_left m =
    matrix_path
    (vector_path (omega (arith, ints)) (omega (arith, ints)) (omega (arith, ints)))
    (vector_path (omega (arith, ints)) (omega (arith, ints)) (omega (arith, ints)))
    (vector_path (omega (arith, ints)) (omega (arith, ints)) (omega (arith, ints)))
