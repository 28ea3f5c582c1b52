-- What `rod_at` gives.
use Rattle.std.specs.Prelude.{◌≡◌, ◌↔◌, List, map, Option, IfSome, IsNone}
use Rattle.fractions.specs.declared.part.Part.{Part}
use Rattle.symmetry.specs.Groups.{Listing, SameModulo}
use Rattle.symmetry.specs.Lists.{IsListOf}
use Rattle.symmetry.specs.Motions.{Motion, Point}
use Rattle.symmetry.specs.Vectors.{Vector}
use Rattle.symmetry.specs.Frames.{Basis}
use Rattle.motions.specs.Views.{motion_of, parts}
use Rattle.closure.specs.declared.group.Group.{Group}
use Rattle.closure.specs.Groups.{group_listing}
use Rattle.recognition.specs.declared.found_rod.FoundRod.{FoundRod}
use Rattle.recognition.specs.RodChanges.{CarriesOnto, grid_part}
use Rattle.recognition.specs.RodOrder.{Change, IsBounded, IsFirst}
use Rattle.recognition.specs.RodTypes.{IsOfRodType, change_of}
use Rattle.penetration.specs.declared.frame.RodFrame.{RodFrame}
use Rattle.penetration.specs.declared.rod.Rod.{Rod}
use Rattle.penetration.specs.DirectionView.{direction_of}
use Rattle.penetration.specs.Lines.{InLineStabiliser}
use Rattle.penetration.specs.RodFrameView.{basis_of_rod}
use Rattle.penetration.specs.RodFrames.{AreRodOperations}
use Rattle.penetration.specs.RodHomes.{IsAtRodHome}
use Rattle.penetration.specs.RodSections.{InRodSection, ListsAlong, counted}

-- the change carries the section of the line onto the rod type of its number
abbrev pub CarriesRod : Listing → Vector → Basis → List Motion → Point → Change → Type 0
CarriesRod g u f rods p c = CarriesOnto (InRodSection g u f rods p) (IsOfRodType c.number) c.matrix (grid_part c.z)

-- what is found of the section of a line: the first bounded change onto a rod type, or none where there is none
pub record IsFoundOf (g : Listing) (u : Vector) (f : Basis) (p : Point) (found : Option FoundRod) : Type 0 where
  pub first : IfSome found (λ r. (rods : List Motion) → AreRodOperations g u rods → IsFirst 75 (CarriesRod g u f rods p) (change_of r))
  pub none : (rods : List Motion) → AreRodOperations g u rods → IsNone found ↔ ((c : Change) → IsBounded 75 c → ¬ CarriesRod g u f rods p c)

-- what is told of the line through a point: the members at home that map it to itself, each once in the order of the listed
-- operations, which lists all such members modulo the axis; and what is found of the section
pub record IsRodAlong (g : Listing) (u : Vector) (f : Basis) (p : Point) (ms : List Motion) (change : Option FoundRod) : Type 0 where
  pub ops : IsListOf (SameModulo g) g.ops (IsAtRodHome f) (InLineStabiliser g u p) ms
  pub all : ListsAlong g u f p ms
  pub found : IsFoundOf g u f p change

-- the rod of the group along the line through a point in a frame
pub record IsRodOf (group : Group) (frame : RodFrame) (point : List Part) (rod : Rod) : Type 0 where
  pub frame_is : rod.frame ≡ frame
  pub point_is : rod.point ≡ point
  pub told : IsRodAlong (group_listing group) (direction_of frame.direction) (basis_of_rod frame) (counted (parts point))
      (map motion_of rod.ops.items) rod.found
