-- Sizes of vectors, matrices, products and images.
use Rattle.std.proofs.Common.{ℕ, ◌+◌, ◌*◌, ◌≤◌}
use Rattle.integers.specs.Size.{IsWithin}
use Rattle.integers.proofs.Ring.{IsWithin-add, IsWithin-mul, IsWithin-more}
use Rattle.symmetry.specs.Vectors.{Vector, Matrix, dot, image}
use Rattle.symmetry.specs.Sizes.{IsMatrixWithin, IsVectorWithin}

-- what is within one bound is within a greater one
pub IsVectorWithin-more : {m n : ℕ} {v : Vector} → IsVectorWithin m v → m ≤ n → IsVectorWithin n v
IsVectorWithin-more h le = record { x = IsWithin-more h.x le; y = IsWithin-more h.y le; z = IsWithin-more h.z le }

pub IsMatrixWithin-more : {m n : ℕ} {w : Matrix} → IsMatrixWithin m w → m ≤ n → IsMatrixWithin n w
IsMatrixWithin-more h le = record { first = IsVectorWithin-more h.first le; second = IsVectorWithin-more h.second le; third = IsVectorWithin-more h.third le }

-- a row times a column is three products
pub dot_within : {m n : ℕ} {r v : Vector} → IsVectorWithin m r → IsVectorWithin n v → IsWithin (m * n + m * n + m * n) (dot r v)
unfolding dot
dot_within h k = IsWithin-add (IsWithin-add (IsWithin-mul h.x k.x) (IsWithin-mul h.y k.y)) (IsWithin-mul h.z k.z)

pub image_within : {m n : ℕ} {w : Matrix} {v : Vector} → IsMatrixWithin m w → IsVectorWithin n v → IsVectorWithin (m * n + m * n + m * n) (image w v)
image_within h k = record { x = dot_within h.first k; y = dot_within h.second k; z = dot_within h.third k }
