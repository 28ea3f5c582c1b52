-- No entry is the least number of its type.
use Rattle.std.proofs.Common.{◌≡◌, ℤ, pos, negsuc, ◌*ℤ◌, ◌-ℤ◌, arith, to_z, of_z, w64}
use Rattle.std.proofs.lemmas.Int.{ints}
use Rattle.integers.specs.Size.{IsWithin}
use Rattle.symmetry.specs.Vectors.{multiple}
use Rattle.symmetry.proofs.VectorLaws.{vector_path}
use Rattle.surveys.specs.Bounds.{largest_row}
use Rattle.surveys.proofs.rows.opposite_row.Goals as goal

negated : (z : ℤ) → IsWithin largest_row z → to_z w64 (of_z w64 (pos 0 -ℤ to_z w64 (of_z w64 z))) ≡ negsuc 0 *ℤ z
negated z h = omega (arith, ints)

pub returns : goal.returns
unfolding multiple
returns c = let h = c.requires in vector_path (negated _ h.x) (negated _ h.y) (negated _ h.z)
