-- What is found of a section: its first bounded change onto a layer type.
use Rattle.std.specs.Prelude.{◌≡◌, ◌⊎◌, List, Option, Some, None}
use Rattle.symmetry.specs.Vectors.{Vector}
use Rattle.symmetry.specs.Motions.{Motion}
use Rattle.symmetry.specs.Planes.{Height, IsHeight}
use Rattle.symmetry.specs.Groups.{Listing}
use Rattle.symmetry.specs.Frames.{Basis, mean_of}
use Rattle.symmetry.specs.Lists.{AreScanning}
use Rattle.motions.specs.Rationals.{RationalMotion}
use Rattle.plane_lattice.specs.Sections.{InGeneralSection, InSectionAt}
use Rattle.recognition.specs.Changes.{CarriesSet, IsLatticeVector, IsOperation}
use Rattle.recognition.specs.Order.{Change, IsBefore, IsBounded, origin_at}

-- the change carries the set of motions onto its layer type
abbrev pub CarriesOntoType : (RationalMotion → Type 0) → Change → Type 0
CarriesOntoType Has c = CarriesSet Has (IsLatticeVector c.number) (IsOperation c.number) c.matrix (origin_at c.x c.y)

-- the first bounded change that carries the set onto a layer type: each other one stands behind it
pub record IsFirstOf (Has : RationalMotion → Type 0) (c : Change) : Type 0 where
  pub bounded : IsBounded c
  pub carries : CarriesOntoType Has c
  pub first : (d : Change) → IsBounded d → CarriesOntoType Has d → (d ≡ c) ⊎ IsBefore c d

-- it, or none where no bounded change carries the set onto a layer type
abbrev pub IsFound : (RationalMotion → Type 0) → Option Change → Type 0
IsFound Has (Some c) = IsFirstOf Has c
IsFound Has None = (c : Change) → IsBounded c → ¬ CarriesOntoType Has c

-- what is found of the general section, the same at every height. The vector c' is the mean over the scanning operations
abbrev pub IsGeneralType : Listing → Vector → Basis → Option Change → Type 0
IsGeneralType g r f found =
    (ms : List Motion) → AreScanning g r ms → (s : Height) → IsHeight s → IsFound (InGeneralSection g r f (mean_of r f.tau ms) s) found

-- what is found of the section of a height
abbrev pub IsTypeAt : Listing → Vector → Basis → Height → Option Change → Type 0
IsTypeAt g r f s found = (ms : List Motion) → AreScanning g r ms → IsFound (InSectionAt g r f (mean_of r f.tau ms) s) found
