-- Classes numbered in the order of their first members.
use Rattle.std.specs.Prelude.{◌≡◌, ◌↔◌, ℕ, ◌<◌, ◌≤◌, List, length}
use Rattle.symmetry.specs.Orbits.{number_at}

-- the first n places have numbers: one number exactly where they are of one class, from 1 in the order of first appearance;
-- and so many classes there are
pub record AreNumbered (IsOneClass : ℕ → ℕ → Type 0) (n : ℕ) (numbers : List ℕ) (classes : ℕ) : Type 0 where
  pub count : length numbers ≡ n
  pub equal : (i j : ℕ) → i < n → j < n → (number_at numbers i ≡ number_at numbers j) ↔ IsOneClass i j
  pub from_one : (i : ℕ) → i < n → 1 ≤ number_at numbers i
  pub most : (i : ℕ) → i < n → number_at numbers i ≤ classes
  pub few : classes ≤ n
  pub taken : (m : ℕ) → 1 ≤ m → m ≤ classes → (j : ℕ) × (j < n) × (number_at numbers j ≡ m)
  pub in_order : (i m : ℕ) → i < n → 1 ≤ m → m < number_at numbers i → (j : ℕ) × (j < i) × (number_at numbers j ≡ m)

-- an equivalence of the first n places
pub record AreClasses (IsOneClass : ℕ → ℕ → Type 0) (n : ℕ) : Type 0 where
  pub reflexive : (i : ℕ) → i < n → IsOneClass i i
  pub symmetric : (i j : ℕ) → i < n → j < n → IsOneClass i j → IsOneClass j i
  pub transitive : (i j k : ℕ) → i < n → j < n → k < n → IsOneClass i j → IsOneClass j k → IsOneClass i k
