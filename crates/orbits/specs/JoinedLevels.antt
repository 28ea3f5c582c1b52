-- Which levels of heights the motions of planes join.
use Rattle.std.specs.Prelude.{◌≡◌, ℤ, pos, ◌+ℤ◌, ◌-ℤ◌, ◌*ℤ◌, List, Any}
use Rattle.symmetry.specs.HeightMotions.{HeightMotion}

-- with a whole number of periods the motion takes the one level to the other: e x + 2 t - y = 2 d k
abbrev pub TakesLevel : ℤ → ℤ → ℤ → HeightMotion → Type 0
TakesLevel d x y h = (k : ℤ) × (h.sign *ℤ x +ℤ pos 2 *ℤ h.shift -ℤ y ≡ pos 2 *ℤ d *ℤ k)

-- one of the motions does so
abbrev pub AreJoined : List HeightMotion → ℤ → ℤ → ℤ → Type 0
AreJoined hs d x y = Any (TakesLevel d x y) hs
