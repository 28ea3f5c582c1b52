-- The order of matrices: it is total, and of two matrices at most one stands before the other.
use Rattle.std.proofs.Common.{◌≡◌, ℕ, ◌<◌, ◌⊎◌, inl, inr, sym, arith}
use Rattle.std.proofs.lemmas.Int.{ints}
use Rattle.integers.proofs.Order.{compare_int, compare_nat}
use Rattle.motions.specs.PlaneMatrices.{Matrix2}
use Rattle.motions.specs.Laws.PlaneMatrixLaws.{matrix2_path, pair_path}
use Rattle.recognition.specs.Order.{IsGreater, IsMatrixBefore, size_of}

not_both_greater : (p q : Matrix2) → IsGreater p q → IsGreater q p → ⊥
not_both_greater p q (inl a) (inl b) = absurd (omega (arith, ints))
not_both_greater p q (inl a) (inr (e, _)) = absurd (omega (arith, ints))
not_both_greater p q (inr (e, _)) (inl b) = absurd (omega (arith, ints))
not_both_greater p q (inr (e, inl a)) (inr (f, inl b)) = absurd (omega (arith, ints))
not_both_greater p q (inr (e, inl a)) (inr (f, inr (g, _))) = absurd (omega (arith, ints))
not_both_greater p q (inr (e, inr (g, _))) (inr (f, inl b)) = absurd (omega (arith, ints))
not_both_greater p q (inr (e, inr (g, inl a))) (inr (f, inr (h, inl b))) = absurd (omega (arith, ints))
not_both_greater p q (inr (e, inr (g, inl a))) (inr (f, inr (h, inr (k, _)))) = absurd (omega (arith, ints))
not_both_greater p q (inr (e, inr (g, inr (k, _)))) (inr (f, inr (h, inl b))) = absurd (omega (arith, ints))
not_both_greater p q (inr (e, inr (g, inr (k, a)))) (inr (f, inr (h, inr (l, b)))) = absurd (omega (arith, ints))

pub not_both_before : (p q : Matrix2) → IsMatrixBefore p q → IsMatrixBefore q p → ⊥
not_both_before p q (inl h) (inl k) = absurd (omega arith)
not_both_before p q (inl h) (inr (e, _)) = absurd (omega (arith, e))
not_both_before p q (inr (e, _)) (inl h) = absurd (omega (arith, e))
not_both_before p q (inr (e, g)) (inr (f, h)) = not_both_greater p q g h

pub not_before : (p : Matrix2) → ¬ IsMatrixBefore p p
not_before p h = not_both_before p p h h

-- of two matrices one stands before the other, or they are one
by_entries : (p q : Matrix2) → IsGreater p q ⊎ ((p ≡ q) ⊎ IsGreater q p)
by_entries p q =
    elim (compare_int q.first.x p.first.x) [
      | inl a ↦ inl (inl a)
      | inr r ↦ elim r [
        | inr a ↦ inr (inr (inl a))
        | inl a ↦ elim (compare_int q.first.y p.first.y) [
          | inl b ↦ inl (inr (a, inl b))
          | inr r ↦ elim r [
            | inr b ↦ inr (inr (inr (sym a, inl b)))
            | inl b ↦ elim (compare_int q.second.x p.second.x) [
              | inl c ↦ inl (inr (a, inr (b, inl c)))
              | inr r ↦ elim r [
                | inr c ↦ inr (inr (inr (sym a, inr (sym b, inl c))))
                | inl c ↦ elim (compare_int q.second.y p.second.y) [
                  | inl d ↦ inl (inr (a, inr (b, inr (c, d))))
                  | inr r ↦ elim r [
                    | inr d ↦ inr (inr (inr (sym a, inr (sym b, inr (sym c, d)))))
                    | inl d ↦ inr (inl (matrix2_path (pair_path (sym a) (sym b)) (pair_path (sym c) (sym d))))
                  ]
                ]
              ]
            ]
          ]
        ]
      ]
    ]

pub compare_matrices : (p q : Matrix2) → IsMatrixBefore p q ⊎ ((p ≡ q) ⊎ IsMatrixBefore q p)
compare_matrices p q =
    elim (compare_nat (size_of p) (size_of q)) [
      | inl s ↦ inl (inl s)
      | inr r ↦ elim r [
        | inr s ↦ inr (inr (inl s))
        | inl s ↦ elim (by_entries p q) [
          | inl g ↦ inl (inr (s, g))
          | inr r ↦ elim r [ inl e ↦ inr (inl e) | inr g ↦ inr (inr (inr (sym s, g))) ]
        ]
      ]
    ]

-- a change stands before another, or is it, where that has no lesser number, with its number no matrix before its
-- own, and with its number and matrix an origin that is no less
pub before_or_same : {Same Later : Type 0} (k l : ℕ) (p q : Matrix2) → ¬ (l < k) → (l ≡ k → ¬ IsMatrixBefore q p) → (l ≡ k → q ≡ p → Same ⊎ Later)
    → Same ⊎ ((k < l) ⊎ ((k ≡ l) × (IsMatrixBefore p q ⊎ ((p ≡ q) × Later))))
before_or_same k l p q not_less no_matrix origin =
    elim (compare_nat k l) [
      | inl less ↦ inr (inl less)
      | inr r ↦ elim r [
        | inr more ↦ absurd (not_less more)
        | inl same ↦ elim (compare_matrices p q) [
          | inl before ↦ inr (inr (same, inl before))
          | inr r ↦ elim r [
            | inr behind ↦ absurd (no_matrix (sym same) behind)
            | inl is ↦ elim (origin (sym same) (sym is)) [ inl it ↦ inl it | inr later ↦ inr (inr (same, inr (is, later))) ]
          ]
        ]
      ]
    ]
