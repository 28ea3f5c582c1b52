-- A table of types in the order of their numbers.
use Rattle.std.specs.Prelude.{◌≡◌, ℕ, suc, ◌+◌, ◌<◌, List, [], ◌∷◌, length, slice_index_or, Bool, true, ◌&&◌}

-- n rows, of which the one at k is what P says of the number k + 1
pub record IsTable {A : Type 0} (P : ℕ → A → Type 0) (n : ℕ) (rows : List A) : Type 0 where
  pub count : length rows ≡ n
  pub each : (k : ℕ) (d : A) → k < n → P (k + 1) (slice_index_or rows k d)

-- a test that computes: whether the rows pass the test, the first at the number k
abbrev pub rows_pass : {A : Type 0} → (ℕ → A → Bool) → ℕ → List A → Bool
rows_pass test k [] = true
rows_pass test k (t ∷ ts) = test k t && rows_pass test (suc k) ts
