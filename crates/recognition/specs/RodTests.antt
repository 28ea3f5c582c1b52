-- The finite tests that tell whether a change carries a section onto a rod type.
use Rattle.std.specs.Prelude.{◌≡◌, ℕ, ℤ, pos, ◌-ℤ◌, ◌*ℤ◌, List, All, Any}
use Rattle.fractions.specs.declared.part.TheConstants.{UNIT}
use Rattle.motions.specs.declared.rod.RodMotion.{RodMotion}
use Rattle.motions.specs.Rationals.{IsMultiple}
use Rattle.motions.specs.Signs.{sign_value}
use Rattle.motions.specs.PlaneMatrices.{Matrix2, product2, determinant2}
use Rattle.motions.specs.RodMotions.{IsRodSmall, RodOperation, rod_of}
use Rattle.recognition.specs.declared.found_rod.TheConstants.{ROD_GRID}
use Rattle.recognition.specs.RodChanges.{hand}

-- one sign, and after the change one matrix: A P = P A'
pub record IsLike (p : Matrix2) (m n : RodOperation) : Type 0 where
  pub along : m.along ≡ n.along
  pub matrix : product2 m.matrix p ≡ product2 p n.matrix

-- t - n t' - (r - e r), counted in parts of the grid of a part
abbrev pub rest : Matrix2 → ℕ → RodOperation → RodOperation → ℤ
rest p z m n = ROD_GRID *ℤ (m.translation -ℤ hand p *ℤ n.translation) -ℤ UNIT *ℤ (pos z -ℤ sign_value m.along *ℤ pos z)

-- the translations agree up to a whole multiple of the axis
abbrev pub IsClose : Matrix2 → ℕ → RodOperation → RodOperation → Type 0
IsClose p z m n = IsMultiple (ROD_GRID *ℤ UNIT) (rest p z m n)

-- the two operations are one, after the change
pub record IsPaired (p : Matrix2) (z : ℕ) (m n : RodOperation) : Type 0 where
  pub like : IsLike p m n
  pub close : IsClose p z m n

-- each listed motion of the section has one of the type, and each of the type has one of the section
pub record Fits (section ops : List RodMotion) (p : Matrix2) (z : ℕ) : Type 0 where
  pub crossed : ¬ (determinant2 p ≡ pos 0)
  pub forth : All (λ m. Any (λ n. IsPaired p z (rod_of m) (rod_of n)) ops) section
  pub back : All (λ n. Any (λ m. IsPaired p z (rod_of m) (rod_of n)) section) ops

-- a small motion
abbrev pub IsSmallRod : RodMotion → Type 0
IsSmallRod m = IsRodSmall (rod_of m)
