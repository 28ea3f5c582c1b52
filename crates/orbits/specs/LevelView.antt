-- Which special heights of the code the motions join.
use Rattle.std.specs.Prelude.{ℕ, ℤ, pos, List, map, slice_index_or}
use Rattle.scanning.specs.declared.height.Height.{Height}
use Rattle.orbits.specs.declared.height_motion.HeightMotion.{HeightMotion}
use Rattle.orbits.specs.HeightMotionView.{height_motion_of}
use Rattle.orbits.specs.JoinedLevels.{AreJoined}

-- twice the height, in parts
abbrev pub level_of : Height → ℤ
level_of h = h.level

-- that at a place
abbrev pub level_at : List Height → ℕ → ℤ
level_at hs i = slice_index_or (map level_of hs) i (pos 0)

-- a motion takes the height at the one place to that at the other
abbrev pub AreJoinedAt : List HeightMotion → ℤ → List Height → ℕ → ℕ → Type 0
AreJoinedAt motions d hs i j = AreJoined (map height_motion_of motions) d (level_at hs i) (level_at hs j)
