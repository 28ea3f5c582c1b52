-- Rows that pass a test are a table.
use Rattle.std.proofs.Common.{◌≡◌, ℕ, zero, suc, ◌+◌, ◌<◌, Bool, true, List, [], ◌∷◌, length, get_or, subst, arith}
use Rattle.std.proofs.lemmas.Bool.{and_parts}
use Rattle.quotient.specs.Table.{IsTable, rows_pass}

module _ {A : Type 0} (P : ℕ → A → Type 0) (test : ℕ → A → Bool) (sound : (n : ℕ) (t : A) → test n t ≡ true → P n t) where
  rows_at : (k : ℕ) (ts : List A) (i : ℕ) (d : A) → rows_pass test k ts ≡ true → i < length ts → P (k + i) (get_or ts i d)
  rows_at k [] i d e l = absurd (omega arith)
  rows_at k (t ∷ ts) zero d e l =
      let h : k ≡ k + 0 = omega arith in
      subst (λ m. P m t) h (sound k t (and_parts (test k t) (rows_pass test (suc k) ts) e).0)
  rows_at k (t ∷ ts) (suc i) d e l =
      let h : suc k + i ≡ k + suc i = omega arith in
      subst (λ m. P m (get_or ts i d)) h (rows_at (suc k) ts i d (and_parts (test k t) (rows_pass test (suc k) ts) e).1 (omega arith))

  one_more : (k : ℕ) → 1 + k ≡ k + 1
  one_more k = omega arith

  pub table_is : (n : ℕ) (ts : List A) → rows_pass test 1 ts ≡ true → length ts ≡ n → IsTable P n ts
  table_is n ts e l = record { count = l; each = λ k d h. subst (λ m. P m (get_or ts k d)) (one_more k) (rows_at 1 ts k d e (omega arith)) }
