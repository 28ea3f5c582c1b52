-- The first matrix of a table.
use Rattle.std.proofs.Common.{◌≡◌, ℕ, ◌<◌, inl, inr, ℤ, Bool, List, length, map, slice_index_or, sym, ◌∙◌, ap, subst, arith}
use Rattle.std.proofs.lemmas.List.{get_or_default, get_or-map, length-map}
use Rattle.integers.proofs.Order.{compare_nat}
use Rattle.quotient.proofs.ListLaws.{All-from_map, Contains-from_map}
use Rattle.motions.specs.PlaneMatrices.{Matrix2}
use Rattle.motions.specs.PlaneViews.{matrix2_of}
use Rattle.recognition.specs.Order.{IsBoundedMatrix, IsMatrixBefore}
use Rattle.recognition.specs.Search.{HasNoMatrix, IsFirstMatrix, IsLeastOrigin, IsMatrixTable, IsNowhere}
use Rattle.recognition.specs.Listed.{TakesLattice}
use Rattle.recognition.proofs.MatrixOrders.{not_before, not_both_before}

-- ---- a table as rows of the code

module _ (centred : Bool) (rows : List (List (List ℤ))) (table : IsMatrixTable centred (map matrix2_of rows)) where
  -- the matrix at a place
  abbrev pub at : ℕ → List (List ℤ) → Matrix2
  at k d = matrix2_of (slice_index_or rows k d)

  pub before_at : (i j : ℕ) (d e : List (List ℤ)) → i < j → j < length rows → IsMatrixBefore (at i d) (at j e)
  before_at i j d e less within =
      let a : slice_index_or (map matrix2_of rows) i (matrix2_of d) ≡ at i d = get_or-map matrix2_of rows i d (matrix2_of d) (omega arith) in
      let b : slice_index_or (map matrix2_of rows) j (matrix2_of d) ≡ at j e = get_or-map matrix2_of rows j e (matrix2_of d) within in
      subst (λ p. IsMatrixBefore p (at j e)) a (subst (IsMatrixBefore (slice_index_or (map matrix2_of rows) i (matrix2_of d))) b
      (table.order i j (matrix2_of d) less (subst (λ n. j < n) (sym (length-map rows matrix2_of)) within)))

  pub bounded_at : (k : ℕ) (d : List (List ℤ)) → k < length rows → IsBoundedMatrix (at k d)
  bounded_at k d within = All-from_map matrix2_of IsBoundedMatrix rows table.bounded k d within

  pub takes_at : (k : ℕ) (d : List (List ℤ)) → k < length rows → TakesLattice centred (at k d)
  takes_at k d within = All-from_map matrix2_of (TakesLattice centred) rows table.takes k d within

  module _ (C : Matrix2 → ℕ → ℕ → Type 0) (takes : (q : Matrix2) (x y : ℕ) → C q x y → TakesLattice centred q) where
    abbrev pub NowhereAt : List (List ℤ) → Type 0
    NowhereAt r = IsNowhere (C (matrix2_of r))

    pub first_of_table : (k : ℕ) (e : List (List ℤ)) (x y : ℕ) → k < length rows → ((j : ℕ) (d : List (List ℤ)) → j < k → NowhereAt (slice_index_or rows j d))
        → IsLeastOrigin (C (at k e)) x y → IsFirstMatrix C (at k e) x y
    first_of_table k e x y within none least = record { bounded = bounded_at k e within; origin = least; first = first }
      where
        first : (q : Matrix2) → IsBoundedMatrix q → IsMatrixBefore q (at k e) → IsNowhere (C q)
        first q b before u v o h =
            let (r, (j, below, here), is) = Contains-from_map matrix2_of rows q (table.complete q b (takes q u v h)) in
            let same : at j r ≡ q = ap matrix2_of here ∙ is in
            elim (compare_nat j k) [
              | inl less ↦ none j r less u v o (subst (λ p. C p u v) (sym same) h)
              | inr s ↦ elim s [
                | inl equal ↦
                    let P : ℕ → Type 0 = λ i. IsMatrixBefore (at i r) (at k e) in
                    let Q : Matrix2 → Type 0 = λ p. IsMatrixBefore p (at k e) in
                    not_before (at k e) (subst Q (ap matrix2_of (get_or_default rows k r e within)) (subst P equal (subst Q (sym same) before)))
                | inr more ↦
                    let Q : Matrix2 → Type 0 = λ p. IsMatrixBefore p (at k e) in
                    not_both_before (at j r) (at k e) (subst Q (sym same) before) (before_at k j e r more below)
              ]
            ]

    pub none_of_table : ((j : ℕ) (d : List (List ℤ)) → j < length rows → NowhereAt (slice_index_or rows j d)) → HasNoMatrix C
    none_of_table none q b u v o h =
        let (r, (j, below, here), is) = Contains-from_map matrix2_of rows q (table.complete q b (takes q u v h)) in
        let same : at j r ≡ q = ap matrix2_of here ∙ is in
        none j r below u v o (subst (λ p. C p u v) (sym same) h)
