-- The least origin for a matrix.
use Rattle.std.specs.Prelude.{◌≡◌, ℕ, ◌<◌, ◌≤◌, ℤ, pos, ◌-ℤ◌, ◌*ℤ◌, List, AllPairs, map}
use Rattle.fractions.specs.Parts.{IsReduced}
use Rattle.motions.specs.declared.rod.RodMotion.{RodMotion}
use Rattle.motions.specs.PlaneMatrices.{Matrix2}
use Rattle.motions.specs.RodMotions.{RodOperation, rod_of}
use Rattle.line_types.specs.Rods.{rod_entries}
use Rattle.recognition.specs.declared.rod_origins.TheConstants.{STEP}
use Rattle.recognition.specs.RodChanges.{hand}

-- the least number below n with the property
pub record IsLeastIn (n : ℕ) (Has : ℕ → Type 0) (z : ℕ) : Type 0 where
  pub within : z < n
  pub has : Has z
  pub least : (v : ℕ) → v < z → ¬ (Has v)

-- no number below n has the property
abbrev pub IsNotIn : ℕ → (ℕ → Type 0) → Type 0
IsNotIn n Has = (v : ℕ) → v < n → ¬ (Has v)

-- where any number below n has the property this one has it, and it is the least
pub record IsLikeliest (n : ℕ) (Has : ℕ → Type 0) (z : ℕ) : Type 0 where
  pub within : z < n
  pub has : (v : ℕ) → v < n → Has v → Has z
  pub least : (v : ℕ) → v < n → Has v → z ≤ v

-- no two operations have one matrix and one sign
abbrev pub AreApart : List RodMotion → Type 0
AreApart ops = AllPairs (λ m n. ¬ (rod_entries m ≡ rod_entries n)) (map rod_of ops)

-- the least point of the grid at which the translations of two motions agree that turn the axis
pub record IsOriginOf (p : Matrix2) (m n : RodOperation) (z : ℕ) : Type 0 where
  pub rest : ℤ
  pub reduced : IsReduced (m.translation -ℤ hand p *ℤ n.translation) rest
  pub is : pos z ≡ STEP *ℤ rest
