-- Classes of numbers of the grid of origins, and congruences on them.
use Rattle.std.specs.Prelude.{◌≡◌, ◌⊎◌, ℕ, ◌+◌, ◌*◌, ◌<◌, ◌≤◌, ℤ, pos, ◌+ℤ◌, ◌-ℤ◌, ◌*ℤ◌, List, slice_index_or}
use Rattle.recognition.specs.Grid.{grid}
use Rattle.recognition.specs.declared.line.Condition.{Condition}
use Rattle.recognition.specs.declared.line.Line.{Line}
use Rattle.motions.specs.Rationals.{IsMultiple}

-- v is a number of the grid of the form y + k step
abbrev pub InClass : ℕ → ℕ → ℕ → Type 0
InClass y step v = (v < grid) × ((k : ℕ) × (v ≡ y + k * step))

-- c + a v is a multiple of grid
abbrev pub Solves : ℤ → ℤ → ℕ → Type 0
Solves c a v = IsMultiple (pos grid) (c +ℤ a *ℤ pos v)

-- s times v leaves this rest
abbrev pub Leaves : ℕ → ℕ → ℕ → Type 0
Leaves s rest v = IsMultiple (pos grid) (pos s *ℤ pos v -ℤ pos rest)

-- steps by t change nothing
abbrev pub IsPeriod : ℤ → ℕ → Type 0
IsPeriod a t = IsMultiple (pos grid) (a *ℤ pos t)

-- the first member of the class that solves the congruence
pub record IsFirstSolution (y step : ℕ) (c a : ℤ) (v : ℕ) : Type 0 where
  pub within : v < grid
  pub index : ℕ
  pub is : v ≡ y + index * step
  pub solves : Solves c a v
  pub first : (j : ℕ) → j < index → ¬ (Solves c a (y + j * step))

-- the least multiple of the step that is a period, but at most grid
pub record IsNextStep (step : ℕ) (a : ℤ) (r : ℕ) : Type 0 where
  pub from : 1 ≤ r
  pub to : r ≤ grid
  pub multiple : ℕ
  pub is : (r ≡ multiple * step) ⊎ ((r ≡ grid) × (grid ≤ multiple * step))
  pub period : IsPeriod a r
  pub least : (j : ℕ) → 1 ≤ j → j < multiple → ¬ (IsPeriod a (j * step))

-- ---- two congruences for x and y

-- (x, y) is on the line, up to multiples of grid
abbrev pub IsOnLine : Line → ℕ → ℕ → Type 0
IsOnLine l x y = IsMultiple (pos grid) ((l.c +ℤ l.x *ℤ pos x) +ℤ l.y *ℤ pos y)

-- (x, y) meets both
pub record Meets (c : Condition) (x y : ℕ) : Type 0 where
  pub first : IsOnLine c.first x y
  pub second : IsOnLine c.second x y

-- (x, y) meets the first n of the conditions
abbrev pub MeetsFirst : ℕ → List Condition → ℕ → ℕ → Type 0
MeetsFirst n conditions x y = (k : ℕ) (d : Condition) → k < n → Meets (slice_index_or conditions k d) x y
