-- The laws of vectors: sums, multiples, and a row times a column.
use Rattle.std.proofs.Common.{◌≡◌, ℕ, suc, ℤ, pos, negsuc, ◌+ℤ◌, ◌*ℤ◌, refl, sym, ◌∙◌, arith}
use Rattle.std.proofs.lemmas.Int.{ints}
use Rattle.integers.proofs.Ring.{mul_assoc}
use Rattle.integers.proofs.Spread.{spread}
use Rattle.symmetry.specs.Vectors.{Vector, origin, plus, minus, multiple, opposite, dot, cross}

-- two vectors are equal when their entries are
pub vector_path : {v w : Vector} → v.x ≡ w.x → v.y ≡ w.y → v.z ≡ w.z → v ≡ w
vector_path p q r = λ i. record { x = p i; y = q i; z = r i }

-- ---- a row times a column

-- written out
pub dot_is : (r v : Vector) → dot r v ≡ r.x *ℤ v.x +ℤ r.y *ℤ v.y +ℤ r.z *ℤ v.z
unfolding dot
dot_is r v = refl

pub dot_comm : (v w : Vector) → dot v w ≡ dot w v
unfolding dot
dot_comm v w = omega (arith, ints)

-- linear in each
pub dot-plus : (r v w : Vector) → dot r (plus v w) ≡ dot r v +ℤ dot r w
unfolding dot plus
dot-plus r v w = simp spread (omega (arith, ints))

pub dot-multiple : (r : Vector) (c : ℤ) (v : Vector) → dot r (multiple c v) ≡ c *ℤ dot r v
unfolding dot multiple
dot-multiple r c v = simp spread (omega (arith, ints))

pub plus-dot : (r s v : Vector) → dot (plus r s) v ≡ dot r v +ℤ dot s v
unfolding dot plus
plus-dot r s v = simp spread (omega (arith, ints))

pub multiple-dot : (c : ℤ) (r v : Vector) → dot (multiple c r) v ≡ c *ℤ dot r v
unfolding dot multiple
multiple-dot c r v = simp spread (omega (arith, ints))

pub dot-origin : (r : Vector) → dot r origin ≡ pos 0
unfolding dot
dot-origin r = omega (arith, ints)

-- a cross product is at right angles to both
pub dot-cross_first : (v w : Vector) → dot (cross v w) v ≡ pos 0
unfolding dot cross
dot-cross_first v w = simp spread (omega (arith, ints))

pub dot-cross_second : (v w : Vector) → dot (cross v w) w ≡ pos 0
unfolding dot cross
dot-cross_second v w = simp spread (omega (arith, ints))

-- two rows are equal when they agree at every column
pub row_path : (s t : Vector) → ((v : Vector) → dot s v ≡ dot t v) → s ≡ t
unfolding dot
row_path s t h =
    vector_path
    (omega (arith, ints, h (record { x = pos 1; y = pos 0; z = pos 0 })))
    (omega (arith, ints, h (record { x = pos 0; y = pos 1; z = pos 0 })))
    (omega (arith, ints, h (record { x = pos 0; y = pos 0; z = pos 1 })))

-- and two columns when every row has one value at them
pub column_path : (v w : Vector) → ((t : Vector) → dot t v ≡ dot t w) → v ≡ w
column_path v w h = row_path v w (λ t. dot_comm v t ∙ h t ∙ dot_comm t w)

-- ---- multiples

pub multiple-one : (v : Vector) → multiple (pos 1) v ≡ v
unfolding multiple
multiple-one v = vector_path (omega (arith, ints)) (omega (arith, ints)) (omega (arith, ints))

pub multiple-multiple : (c d : ℤ) (v : Vector) → multiple c (multiple d v) ≡ multiple (c *ℤ d) v
unfolding multiple
multiple-multiple c d v = vector_path (sym (mul_assoc c d v.x)) (sym (mul_assoc c d v.y)) (sym (mul_assoc c d v.z))

pub multiple-zero : (v : Vector) → multiple (pos 0) v ≡ origin
unfolding multiple
multiple-zero v = vector_path (omega (arith, ints)) (omega (arith, ints)) (omega (arith, ints))

-- one more, and one less
pub multiple-suc : (n : ℕ) (v : Vector) → multiple (pos (suc n)) v ≡ plus (multiple (pos n) v) v
unfolding plus multiple
multiple-suc n v = vector_path (omega (arith, ints)) (omega (arith, ints)) (omega (arith, ints))

pub multiple-negsuc_suc : (n : ℕ) (v : Vector) → multiple (negsuc (suc n)) v ≡ minus (multiple (negsuc n) v) v
unfolding plus multiple
multiple-negsuc_suc n v = vector_path (omega (arith, ints)) (omega (arith, ints)) (omega (arith, ints))

pub plus-multiple : (c d : ℤ) (v : Vector) → multiple (c +ℤ d) v ≡ plus (multiple c v) (multiple d v)
unfolding plus multiple
plus-multiple c d v = vector_path (simp spread (omega (arith, ints))) (simp spread (omega (arith, ints))) (simp spread (omega (arith, ints)))

pub multiple-minus : (c : ℤ) (v w : Vector) → multiple c (minus v w) ≡ minus (multiple c v) (multiple c w)
unfolding plus multiple
multiple-minus c v w = vector_path (simp spread (omega (arith, ints))) (simp spread (omega (arith, ints))) (simp spread (omega (arith, ints)))

-- d (c v) - c (d w) is c d (v - w)
pub multiples-minus : (c d : ℤ) (v w : Vector) → minus (multiple d (multiple c v)) (multiple c (multiple d w)) ≡ multiple (c *ℤ d) (minus v w)
unfolding plus multiple
multiples-minus c d v w = vector_path (simp spread (omega (arith, ints))) (simp spread (omega (arith, ints))) (simp spread (omega (arith, ints)))

pub opposite-origin : opposite origin ≡ origin
unfolding multiple
opposite-origin = refl

-- ---- sums

pub plus_comm : (v w : Vector) → plus v w ≡ plus w v
unfolding plus
plus_comm v w = vector_path (omega (arith, ints)) (omega (arith, ints)) (omega (arith, ints))

pub plus_assoc : (u v w : Vector) → plus (plus u v) w ≡ plus u (plus v w)
unfolding plus
plus_assoc u v w = vector_path (omega (arith, ints)) (omega (arith, ints)) (omega (arith, ints))

pub plus-origin : (v : Vector) → plus v origin ≡ v
unfolding plus
plus-origin v = vector_path (omega (arith, ints)) (omega (arith, ints)) (omega (arith, ints))

pub origin-plus : (v : Vector) → plus origin v ≡ v
unfolding plus
origin-plus v = vector_path (omega (arith, ints)) (omega (arith, ints)) (omega (arith, ints))

-- ---- differences

pub minus-origin : (v : Vector) → minus v origin ≡ v
unfolding plus multiple
minus-origin v = vector_path (omega (arith, ints)) (omega (arith, ints)) (omega (arith, ints))

pub minus-same : (v : Vector) → minus v v ≡ origin
unfolding plus multiple
minus-same v = vector_path (omega (arith, ints)) (omega (arith, ints)) (omega (arith, ints))

pub opposite-plus_same : (v : Vector) → plus (opposite v) v ≡ origin
unfolding plus multiple
opposite-plus_same v = vector_path (omega (arith, ints)) (omega (arith, ints)) (omega (arith, ints))

-- what was taken away is added again, or the other way round
pub minus-plus : (v w : Vector) → plus (minus v w) w ≡ v
unfolding plus multiple
minus-plus v w = vector_path (omega (arith, ints)) (omega (arith, ints)) (omega (arith, ints))

pub plus-minus_first : (v w : Vector) → minus (plus v w) v ≡ w
unfolding plus multiple
plus-minus_first v w = vector_path (omega (arith, ints)) (omega (arith, ints)) (omega (arith, ints))

pub plus-minus_last : (v w : Vector) → minus (plus v w) w ≡ v
unfolding plus multiple
plus-minus_last v w = vector_path (omega (arith, ints)) (omega (arith, ints)) (omega (arith, ints))

pub minus-minus : (v w : Vector) → minus v (minus v w) ≡ w
unfolding plus multiple
minus-minus v w = vector_path (omega (arith, ints)) (omega (arith, ints)) (omega (arith, ints))

-- from u to v and on to w
pub minus-plus-minus : (u v w : Vector) → plus (minus u v) (minus v w) ≡ minus u w
unfolding plus multiple
minus-plus-minus u v w = vector_path (omega (arith, ints)) (omega (arith, ints)) (omega (arith, ints))

pub minus-exchange : (a b c d : Vector) → plus (minus a b) (minus c d) ≡ minus (plus a c) (plus b d)
unfolding plus multiple
minus-exchange a b c d = vector_path (omega (arith, ints)) (omega (arith, ints)) (omega (arith, ints))

pub opposite-plus : (v w : Vector) → opposite (plus v w) ≡ minus (opposite v) w
unfolding plus multiple
opposite-plus v w = vector_path (omega (arith, ints)) (omega (arith, ints)) (omega (arith, ints))

pub opposite-minus : (v w : Vector) → opposite (minus v w) ≡ minus w v
unfolding plus multiple
opposite-minus v w = vector_path (omega (arith, ints)) (omega (arith, ints)) (omega (arith, ints))

-- where the row gives one number at two columns, it gives 0 at their difference
pub dot-minus_same : (r v w : Vector) → dot r v ≡ dot r w → dot r (minus v w) ≡ pos 0
dot-minus_same r v w e =
    dot-plus r v (opposite w) ∙ (λ i. e i +ℤ dot-multiple r (negsuc 0) w i) ∙ cancelled (dot r w)
  where
    cancelled : (a : ℤ) → a +ℤ negsuc 0 *ℤ a ≡ pos 0
    cancelled a = omega (arith, ints)
