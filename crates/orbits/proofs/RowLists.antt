-- The rows of motions, each at its first appearance.
use Rattle.std.proofs.Common.{◌≡◌, ◌↔◌, ℕ, suc, ◌+◌, ◌<◌, ◌≤◌, ℤ, pos, ◌||◌, IsTrue, All, Any, Contains, List, [], ◌∷◌, ◌++◌, length, get_or, map, take, arith, refl, sym, ap, subst, ◌∙◌, unsigned_abs}
use Rattle.std.specs.List.{list_any}
use Rattle.std.specs.Ordering.{int_eq}
use Rattle.std.proofs.lemmas.List.{length-map, map-append, map_more, take-map, take_all}
use Rattle.std.proofs.lemmas.List.Elements.{All-nil, All-push, All-contains}
use Rattle.std.proofs.lemmas.List.Folds.{Any-from_list_any, list_any-from_Any}
use lib.Pointwise.{pointwise}
use Rattle.integers.proofs.Booleans.{bracketed}
use Rattle.quotient.specs.Kind.{IsEquivalence}
use Rattle.quotient.specs.Lists.{AreFirst}
use Rattle.quotient.specs.Lists.AreFirst.{none}
use Rattle.quotient.proofs.Firsts.{AreFirst-kept, AreFirst-left_out}
use Rattle.quotient.proofs.Items.{All-item_at, Contains-item_at}
use Rattle.symmetry.specs.Vectors.{Vector, row_times}
use Rattle.symmetry.specs.Motions.{Motion}
use Rattle.symmetry.specs.Groups.{Listing}
use Rattle.symmetry.specs.Frames.{same_vector}
use Rattle.symmetry.specs.Sizes.{IsSmall, IsVectorWithin}
use Rattle.quotient.proofs.ListLaws.{three_items}
use Rattle.motions.specs.ListedSizes.{IsSmallWithin}
use Rattle.motions.specs.Laws.MotionLaws.{same_vector-is}
use Rattle.motions.specs.Views.{motion_of, vector_of}
use Rattle.motions.specs.declared.motion.Motion3.{Motion3}
use Rattle.orbits.specs.declared.rows.TheConstants.{WIDE}
use Rattle.orbits.specs.Orientations.{row_images, IsWide}

-- the rows of motions, each once, none too wide
pub record AreRowsOf (r : Vector) (ms : List Motion) (rows : List Vector) : Type 0 where
  pub first : AreFirst (λ (v w : Vector). v ≡ w) (row_images r ms) rows
  pub narrow : All (λ (m : Motion). IsVectorWithin (unsigned_abs WIDE) (row_times r m.matrix)) ms

-- ---- rows that are listed

-- equality entry by entry is that of the rows
pointwise-row : (r s : List ℤ) → length r ≡ 3 → length s ≡ 3 → pointwise int_eq r s ≡ same_vector (vector_of r) (vector_of s)
pointwise-row r s h k =
    (λ i. pointwise int_eq (three_items r (pos 0) h i) (three_items s (pos 0) k i))
    ∙ bracketed (int_eq (get_or r 0 (pos 0)) (get_or s 0 (pos 0))) (int_eq (get_or r 1 (pos 0)) (get_or s 1 (pos 0))) (int_eq (get_or r 2 (pos 0)) (get_or s 2 (pos 0)))

list_any-rows : (rs : List (List ℤ)) (s : List ℤ) → ((i : ℕ) → i < length rs → length (get_or rs i []) ≡ 3) → length s ≡ 3
    → list_any (λ r. pointwise int_eq r s) rs ≡ list_any (λ v. same_vector v (vector_of s)) (map vector_of rs)
list_any-rows [] s h k = refl
list_any-rows (r ∷ rs) s h k =
    let here = pointwise-row r s (h 0 (omega arith)) k in
    let rest = list_any-rows rs s (λ i l. h (suc i) (omega arith)) k in
    λ j. here j || rest j

-- the row is one of them
pub listed_row : (rs : List (List ℤ)) (s : List ℤ) → ((i : ℕ) → i < length rs → length (get_or rs i []) ≡ 3) → length s ≡ 3
    → IsTrue (list_any (λ r. pointwise int_eq r s) rs) ↔ Any (λ v. vector_of s ≡ v) (map vector_of rs)
listed_row rs s h k = (
  λ t.
      let (i, v, within, is, same) = Any-from_list_any (λ v. same_vector v (vector_of s)) (map vector_of rs) (sym (list_any-rows rs s h k) ∙ t) in
      (i, v, within, is, sym ((same_vector-is v (vector_of s)).0 same)),
  λ (i, v, within, is, same).
      list_any-rows rs s h k
      ∙ list_any-from_Any (λ v. same_vector v (vector_of s)) (map vector_of rs) (i, v, within, is, (same_vector-is v (vector_of s)).1 (sym same)),
)

-- ---- one more operation

by_equality : IsEquivalence (λ (v w : Vector). v ≡ w)
by_equality = record { reflexive = λ v. refl; symmetric = λ v w e. sym e; transitive = λ u v w e f. e ∙ f }

abbrev IsNarrow : Vector → Motion → Type 0
IsNarrow r m = IsVectorWithin (unsigned_abs WIDE) (row_times r m.matrix)

row_images_push : (r : Vector) (ms : List Motion) (m : Motion) → row_images r (ms ++ m ∷ []) ≡ row_images r ms ++ row_times r m.matrix ∷ []
row_images_push r ms m = map-append (λ (n : Motion). row_times r n.matrix) ms (m ∷ [])

pub no_rows : (r : Vector) (rows : List Vector) → rows ≡ [] → AreRowsOf r [] rows
no_rows r rows e = record {
  first = subst (AreFirst (λ (v w : Vector). v ≡ w) []) (sym e) none;
  narrow = All-nil (IsNarrow r);
}

module _ (r : Vector) (ms : List Motion) (m : Motion) (rows : List Vector) (row : Vector) (is : row ≡ row_times r m.matrix)
    (small : IsVectorWithin (unsigned_abs WIDE) row) (so_far : AreRowsOf r ms rows) where
  narrow_more : All (IsNarrow r) (ms ++ m ∷ [])
  narrow_more = All-push (IsNarrow r) ms m so_far.narrow (subst (IsVectorWithin (unsigned_abs WIDE)) is small)

  pub new_row : ¬ Any (λ v. row ≡ v) rows → AreRowsOf r (ms ++ m ∷ []) (rows ++ row ∷ [])
  new_row new = record {
    first = subst (λ l. AreFirst (λ (v w : Vector). v ≡ w) l (rows ++ row ∷ [])) (ap (λ v. row_images r ms ++ v ∷ []) is ∙ sym (row_images_push r ms m))
        (AreFirst-kept by_equality (row_images r ms) rows row so_far.first new);
    narrow = narrow_more;
  }

  pub old_row : Any (λ v. row ≡ v) rows → AreRowsOf r (ms ++ m ∷ []) rows
  old_row old = record {
    first = subst (λ l. AreFirst (λ (v w : Vector). v ≡ w) l rows) (ap (λ v. row_images r ms ++ v ∷ []) is ∙ sym (row_images_push r ms m))
        (AreFirst-left_out (row_images r ms) rows row so_far.first old);
    narrow = narrow_more;
  }

-- the operations up to one more
pub motions_more : (ops : List Motion3) (i : ℕ) (d : Motion3) → i < length ops
    → take (i + 1) (map motion_of ops) ≡ take i (map motion_of ops) ++ motion_of (get_or ops i d) ∷ []
motions_more ops i d h =
    take-map motion_of (i + 1) ops ∙ map_more motion_of ops i d h ∙ ap (λ l. l ++ motion_of (get_or ops i d) ∷ []) (sym (take-map motion_of i ops))

pub motion_is_small : (n : ℕ) (ops : List Motion3) (i : ℕ) (d : Motion3) → All (IsSmallWithin n) (map motion_of ops) → i < length ops → IsSmall (motion_of (get_or ops i d))
motion_is_small n ops i d small h = (All-item_at motion_of ops (IsSmallWithin n) i d small h).small

-- the rows of the code, up to one more operation
module _ (r : Vector) (ops : List Motion3) (i : ℕ) (d : Motion3) (within : i < length ops) (row : List ℤ)
    (is : vector_of row ≡ row_times r (motion_of (get_or ops i d)).matrix) where
  module _ (rows more : List (List ℤ)) (small : IsVectorWithin (unsigned_abs WIDE) (vector_of row))
      (so_far : AreRowsOf r (take i (map motion_of ops)) (map vector_of rows)) where
    pub pushed_row : more ≡ rows ++ row ∷ [] → ¬ Any (λ v. vector_of row ≡ v) (map vector_of rows) → AreRowsOf r (take (i + 1) (map motion_of ops)) (map vector_of more)
    pushed_row e new =
        subst (λ l. AreRowsOf r l (map vector_of more)) (sym (motions_more ops i d within))
        (subst (AreRowsOf r (take i (map motion_of ops) ++ motion_of (get_or ops i d) ∷ [])) (sym (ap (map vector_of) e ∙ map-append vector_of rows (row ∷ [])))
        (new_row r (take i (map motion_of ops)) (motion_of (get_or ops i d)) (map vector_of rows) (vector_of row) is small so_far new))

    pub passed_row : more ≡ rows → Any (λ v. vector_of row ≡ v) (map vector_of rows) → AreRowsOf r (take (i + 1) (map motion_of ops)) (map vector_of more)
    passed_row e old =
        subst (λ l. AreRowsOf r l (map vector_of more)) (sym (motions_more ops i d within))
        (subst (λ l. AreRowsOf r (take i (map motion_of ops) ++ motion_of (get_or ops i d) ∷ []) (map vector_of l)) (sym e)
        (old_row r (take i (map motion_of ops)) (motion_of (get_or ops i d)) (map vector_of rows) (vector_of row) is small so_far old))

  pub wide_row : (g : Listing) → map motion_of ops ≡ g.ops → ¬ IsVectorWithin (unsigned_abs WIDE) (vector_of row) → IsWide g r
  wide_row g e wide =
      (motion_of (get_or ops i d), subst (λ l. Contains l (motion_of (get_or ops i d))) e (Contains-item_at motion_of ops i d within), λ n. wide (subst (IsVectorWithin (unsigned_abs WIDE)) (sym is) n))

-- ---- all operations

pub all_rows : (g : Listing) (r : Vector) (ops : List Motion3) (i : ℕ) (rows : List Vector) → map motion_of ops ≡ g.ops → length ops ≤ i
    → AreRowsOf r (take i (map motion_of ops)) rows → AreRowsOf r g.ops rows
all_rows g r ops i rows e h =
    subst (λ l. AreRowsOf r l rows) (take_all i (map motion_of ops) (omega (arith, h, length-map ops motion_of)) ∙ e)

pub not_wide : (g : Listing) (r : Vector) (rows : List Vector) → AreRowsOf r g.ops rows → ¬ IsWide g r
not_wide g r rows are (m, listed, wide) = wide (All-contains (IsNarrow r) g.ops m are.narrow listed)
