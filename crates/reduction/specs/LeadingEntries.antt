-- The first entry of a vector that is not 0.
use Rattle.std.specs.Prelude.{◌≡◌, ◌⊎◌, ℕ, zero, suc, ℤ, pos, ◌<ℤ◌, ◌&&◌, if◌then◌else◌}
use Rattle.std.specs.Ordering.{int_eq}
use Rattle.fractions.specs.declared.part.TheConstants.{UNIT}
use Rattle.symmetry.specs.Vectors.{Vector}

-- the entry at a place, where those before it are 0; else 0
abbrev pub leading_entry : ℕ → Vector → ℤ
leading_entry zero v = v.x
leading_entry (suc zero) v = (if int_eq v.x (pos 0) then v.y else pos 0)
leading_entry (suc (suc n)) v = (if int_eq v.x (pos 0) && int_eq v.y (pos 0) then v.z else pos 0)

-- the first entry that is not 0 is negative
abbrev pub IsBackward : Vector → Type 0
IsBackward v = (v.x <ℤ pos 0) ⊎ ((v.x ≡ pos 0) × ((v.y <ℤ pos 0) ⊎ ((v.y ≡ pos 0) × (v.z <ℤ pos 0))))

-- the edge along an axis
abbrev pub edge_at : ℕ → Vector
edge_at zero = record { x = UNIT; y = pos 0; z = pos 0 }
edge_at (suc zero) = record { x = pos 0; y = UNIT; z = pos 0 }
edge_at (suc (suc n)) = record { x = pos 0; y = pos 0; z = UNIT }
