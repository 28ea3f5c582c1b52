-- The form of a group, one operation after the other.
use Rattle.std.proofs.Common.{◌≡◌, ℕ, zero, suc, ◌+◌, ◌<◌, ◌≤◌, pos, ◌+ℤ◌, ◌≤ℤ◌, Bool, true, false, cond, List, [], ◌∷◌, ◌++◌, length, refl, sym, ap, subst, ◌∙◌, inl, arith, lit≤}
use Rattle.std.proofs.lemmas.Int.{ints}
use Rattle.integers.proofs.Ring.{add_assoc, add_zero, zero_add, IsWithin-add, IsWithin-mul}
use Rattle.integers.proofs.Order.{zero-le-square}
use Rattle.symmetry.specs.Vectors.{Vector, Matrix, dot, image, multiple, origin, plus, product, row_times, unit_matrix}
use Rattle.symmetry.specs.Motions.{Motion, identity}
use Rattle.symmetry.specs.Groups.{Listing, IsGroup}
use Rattle.symmetry.specs.Lists.{motion_at, AreScanning}
use Rattle.symmetry.specs.Sizes.{IsMatrixWithin, IsVectorWithin}
use Rattle.symmetry.proofs.VectorLaws.{vector_path, dot_comm, dot-origin, dot-plus, plus-dot}
use Rattle.symmetry.proofs.MatrixLaws.{image-product, image-unit, row_times-columns, row_times-dot, row_times-unit}
use Rattle.symmetry.proofs.Sizes.{IsMatrixWithin-more}
use Rattle.symmetry.proofs.KeptOps.{filter-push}
use Rattle.plane_lattice.specs.Scanning.{keeps_orientation, scanning_ops}
use Rattle.reduction.specs.Bounds.{largest_columns, largest_form}
use Rattle.reduction.specs.Forms.{by_form, form_value, matrix_sum, transposed, with_square, IsForm, IsSumOver}

-- ---- one operation

-- u.(W^T v) is (W u).v
transposed-dot : (w : Matrix) (u v : Vector) → dot u (image (transposed w) v) ≡ dot (image w u) v
transposed-dot w u v =
    dot_comm u (image (transposed w) v) ∙ ap (λ (t : Vector). dot t u) by_rows ∙ row_times-dot v w u ∙ dot_comm v (image w u)
  where
    by_rows : image (transposed w) v ≡ row_times v w
    by_rows = row_times-columns v w (image (transposed w) v) (dot_comm (transposed w).first v) (dot_comm (transposed w).second v) (dot_comm (transposed w).third v)

image-sum : (m n : Matrix) (v : Vector) → image (matrix_sum m n) v ≡ plus (image m v) (image n v)
unfolding plus
image-sum m n v = vector_path (plus-dot m.first n.first v) (plus-dot m.second n.second v) (plus-dot m.third n.third v)

-- the form with W^T W added takes (W u).(W v) more
value_more : (q w : Matrix) (u v : Vector)
    → by_form (with_square q w) u v ≡ by_form q u v +ℤ dot (image w u) (image w v)
value_more q w u v =
    ap (dot u) (image-sum q (product (transposed w) w) v) ∙ dot-plus u (image q v) (image (product (transposed w) w) v)
    ∙ ap (λ z. by_form q u v +ℤ z) (ap (dot u) (image-product (transposed w) w v) ∙ transposed-dot w u (image w v))

-- ---- one operation more

value-append : (ms : List Motion) (m : Motion) (u v : Vector)
    → form_value (ms ++ m ∷ []) u v ≡ form_value ms u v +ℤ dot (image m.matrix u) (image m.matrix v)
value-append [] m u v = add_zero (dot (image m.matrix u) (image m.matrix v)) ∙ sym (zero_add (dot (image m.matrix u) (image m.matrix v)))
value-append (n ∷ ms) m u v =
    ap (λ z. dot (image n.matrix u) (image n.matrix v) +ℤ z) (value-append ms m u v)
    ∙ sym (add_assoc (dot (image n.matrix u) (image n.matrix v)) (form_value ms u v) (dot (image m.matrix u) (image m.matrix v)))

pub sum_more : (r : Vector) (q q' : Matrix) (ms : List Motion) (m : Motion) → IsSumOver (scanning_ops r ms) q
    → q' ≡ cond (keeps_orientation r m) (with_square q m.matrix) q
    → IsSumOver (scanning_ops r (ms ++ m ∷ [])) q'
sum_more r q q' ms m is more u v =
    ap (λ (a : Matrix). by_form a u v) more ∙ by (keeps_orientation r m) ∙ sym (ap (λ (ns : List Motion). form_value ns u v) (filter-push (keeps_orientation r) ms m))
  where
    by : (b : Bool) → by_form (cond b (with_square q m.matrix) q) u v
        ≡ form_value (cond b (scanning_ops r ms ++ m ∷ []) (scanning_ops r ms)) u v
    by true =
        value_more q m.matrix u v ∙ ap (λ z. z +ℤ dot (image m.matrix u) (image m.matrix v)) (is u v) ∙ sym (value-append (scanning_ops r ms) m u v)
    by false = is u v

-- the form before the first operation
abbrev nothing : Matrix
nothing = record { first = origin; second = origin; third = origin }

pub no_sum : IsSumOver [] nothing
no_sum u v = ap (dot u) (vector_path (by_origin v) (by_origin v) (by_origin v)) ∙ dot-origin u
  where
    by_origin : (v : Vector) → dot origin v ≡ pos 0
    by_origin v = dot_comm origin v ∙ dot-origin v

-- ---- sizes

pub nothing_within : IsMatrixWithin 0 nothing
nothing_within = record { first = row; second = row; third = row }
  where
    row : IsVectorWithin 0 origin
    row = record { x = record { most = lit≤ tt }; y = record { most = lit≤ tt }; z = record { most = lit≤ tt } }

square_within : (w : Matrix) → IsMatrixWithin 50 w → IsMatrixWithin largest_columns (product (transposed w) w)
unfolding plus multiple
square_within w h = record {
  first = row (record { x = h.first.x; y = h.second.x; z = h.third.x });
  second = row (record { x = h.first.y; y = h.second.y; z = h.third.y });
  third = row (record { x = h.first.z; y = h.second.z; z = h.third.z });
}
  where
    row : {c : Vector} → IsVectorWithin 50 c → IsVectorWithin largest_columns (row_times c w)
    row k = record {
      x = IsWithin-add (IsWithin-add (IsWithin-mul k.x h.first.x) (IsWithin-mul k.y h.second.x)) (IsWithin-mul k.z h.third.x);
      y = IsWithin-add (IsWithin-add (IsWithin-mul k.x h.first.y) (IsWithin-mul k.y h.second.y)) (IsWithin-mul k.z h.third.y);
      z = IsWithin-add (IsWithin-add (IsWithin-mul k.x h.first.z) (IsWithin-mul k.y h.second.z)) (IsWithin-mul k.z h.third.z);
    }

plus-within : {m n : ℕ} {v w : Vector} → IsVectorWithin m v → IsVectorWithin n w → IsVectorWithin (m + n) (plus v w)
unfolding plus
plus-within h k = record { x = IsWithin-add h.x k.x; y = IsWithin-add h.y k.y; z = IsWithin-add h.z k.z }

pub sum_within : (n : ℕ) (r : Vector) (q q' : Matrix) (m : Motion) → IsMatrixWithin n q → IsMatrixWithin 50 m.matrix
    → q' ≡ cond (keeps_orientation r m) (with_square q m.matrix) q
    → IsMatrixWithin (n + largest_columns) q'
sum_within n r q q' m h k e = subst (IsMatrixWithin (n + largest_columns)) (sym e) (by (keeps_orientation r m))
  where
    by : (b : Bool) → IsMatrixWithin (n + largest_columns) (cond b (with_square q m.matrix) q)
    by true =
        let s = square_within m.matrix k in
        record { first = plus-within h.first s.first; second = plus-within h.second s.second; third = plus-within h.third s.third }
    by false = IsMatrixWithin-more h (omega arith)

-- ---- the sum over a group is a form

value_comm : (ms : List Motion) (u v : Vector) → form_value ms u v ≡ form_value ms v u
value_comm [] u v = refl
value_comm (m ∷ ms) u v = λ i. dot_comm (image m.matrix u) (image m.matrix v) i +ℤ value_comm ms u v i

square_from : (v : Vector) → pos 0 ≤ℤ dot v v
unfolding dot
square_from v = omega (arith, ints, zero-le-square v.x, zero-le-square v.y, zero-le-square v.z)

value_from : (ms : List Motion) (v : Vector) → pos 0 ≤ℤ form_value ms v v
value_from [] v = omega (arith, ints)
value_from (m ∷ ms) v = omega (arith, ints, square_from (image m.matrix v), value_from ms v)

-- the sum over a list with a motion of the unit matrix is no less than v.v
unit_among : (ms : List Motion) (k : ℕ) → k < length ms → (motion_at ms k).matrix ≡ unit_matrix → (v : Vector) → dot v v ≤ℤ form_value ms v v
unit_among [] k h is v = absurd (omega arith)
unit_among (m ∷ ms) zero h is v =
    let same : dot (image m.matrix v) (image m.matrix v) ≡ dot v v = ap (λ (w : Matrix). dot (image w v) (image w v)) is ∙ (λ i. dot (image-unit v i) (image-unit v i)) in
    omega (arith, ints, same, value_from ms v)
unit_among (m ∷ ms) (suc k) h is v = omega (arith, ints, square_from (image m.matrix v), unit_among ms k (omega arith) is v)

pub sum_is_form : (g : Listing) (r : Vector) → IsGroup g → (ms : List Motion) → AreScanning g r ms
    → (q : Matrix) → IsMatrixWithin largest_form q → IsSumOver ms q → IsForm q
sum_is_form g r group ms are q small is =
    let one = are.once identity group.has_identity (inl (row_times-unit r)) in
    record {
      small = small;
      symmetric = λ u v. is u v ∙ value_comm ms u v ∙ sym (is v u);
      positive = λ v. subst (λ z. dot v v ≤ℤ z) (sym (is v v)) (unit_among ms one.place one.within (sym one.has.matrix) v);
    }
