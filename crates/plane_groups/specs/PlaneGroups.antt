-- A plane group as a group of space: it leaves the third axis as it is.
use Rattle.std.specs.Prelude.{Contains, unsigned_abs}
use Rattle.fractions.specs.declared.part.TheConstants.{UNIT}
use Rattle.integers.specs.Size.{Divides}
use Rattle.symmetry.specs.Vectors.{Vector}
use Rattle.symmetry.specs.Motions.{Motion}
use Rattle.symmetry.specs.Groups.{Listing, IsInLattice}
use Rattle.plane_motions.specs.PlaneMotions.{IsFlat}

-- a plane group: each operation is flat, and each vector of L has a whole third entry
pub record IsFlatGroup (g : Listing) : Type 0 where
  pub operations : (m : Motion) → Contains g.ops m → IsFlat m
  pub heights : (t : Vector) → IsInLattice g t → Divides (unsigned_abs UNIT) t.z
