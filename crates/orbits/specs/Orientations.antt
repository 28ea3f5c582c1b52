-- The orientations of planes that are the same to the crystal.
use Rattle.std.specs.Prelude.{◌≡◌, ⊤, List, map, Contains, unsigned_abs}
use Rattle.quotient.specs.Lists.{AreFirst}
use Rattle.symmetry.specs.Vectors.{Vector, row_times}
use Rattle.symmetry.specs.Motions.{Motion}
use Rattle.symmetry.specs.Groups.{Listing}
use Rattle.symmetry.specs.Sizes.{IsVectorWithin}
use Rattle.orbits.specs.declared.rows.TheConstants.{WIDE}
use Rattle.orbits.specs.declared.orbit_fault.OrbitFault.{OrbitFault}
use Rattle.orbits.specs.declared.orbit_fault.OrbitFault.TheVariants.{Wide, NoMemory}

-- the rows (hkl) W of motions, in order
abbrev pub row_images : Vector → List Motion → List Vector
row_images r ms = map (λ (m : Motion). row_times r m.matrix) ms

-- the rows (hkl) W of the listed operations in order, each triple at its first appearance
abbrev pub AreOrientations : Listing → Vector → List Vector → Type 0
AreOrientations g r rows = AreFirst (λ (v w : Vector). v ≡ w) (row_images r g.ops) rows

-- an index of one of them passes the bound in size
abbrev pub IsWide : Listing → Vector → Type 0
IsWide g r = (m : Motion) × Contains g.ops m × ¬ IsVectorWithin (unsigned_abs WIDE) (row_times r m.matrix)

-- why there are no orientations: one is too wide; for want of memory nothing is said
abbrev pub IsOrbitFault : Listing → Vector → OrbitFault → Type 0
IsOrbitFault g r Wide = IsWide g r
IsOrbitFault g r NoMemory = ⊤
