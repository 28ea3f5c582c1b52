-- Obstacles, and the frames that a question may be answered in.
use Rattle.std.specs.Prelude.{◌≡◌}
use Rattle.symmetry.specs.Vectors.{Vector}
use Rattle.symmetry.specs.Groups.{Listing}
use Rattle.symmetry.specs.Frames.{Basis, IsFrame, IsSkewed}
use Rattle.plane_lattice.specs.FrameOf.{IsFrameFault}
use Rattle.quotient.specs.declared.check.GroupFault.{GroupFault}
use Rattle.quotient.specs.declared.check.GroupFault.TheVariants as group_faults
use Rattle.motions.specs.declared.basis.FrameFault.{FrameFault}
use Rattle.motions.specs.declared.basis.FrameFault.TheVariants as frames
use Rattle.triplets.specs.declared.fault.TextFault.{TextFault}
use Rattle.triplets.specs.declared.fault.TextFault.TheVariants as texts
use Rattle.cif_symops.specs.declared.fault.CifFault.{CifFault}
use Rattle.cif_symops.specs.declared.fault.CifFault.TheVariants as cifs
use Rattle.devices.specs.declared.read.ReadFault.{ReadFault}
use Rattle.devices.specs.declared.read.ReadFault.TheVariants as reads
use Rattle.closure.specs.declared.group_error.GroupError.{GroupError}
use Rattle.closure.specs.declared.group_error.GroupError.TheVariants as groups
use Rattle.closure.specs.declared.generated_error.GeneratedError.{GeneratedError}
use Rattle.closure.specs.declared.generated_error.GeneratedError.TheVariants as generators
use Rattle.scanning.specs.declared.at_fault.AtFault.{AtFault}
use Rattle.scanning.specs.declared.at_fault.AtFault.TheVariants as at_faults
use Rattle.orbits.specs.declared.orbit_fault.OrbitFault.{OrbitFault}
use Rattle.orbits.specs.declared.orbit_fault.OrbitFault.TheVariants as orbit_faults
use Rattle.requests.specs.declared.cif_kind.CifKind.TheVariants as kinds
use Rattle.requests.specs.declared.refusal.Refusal.{Refusal}
use Rattle.requests.specs.declared.refusal.Refusal.TheVariants as refusals
use Rattle.requests.specs.declared.obstacle.Obstacle.{Obstacle}
use Rattle.requests.specs.declared.obstacle.Obstacle.TheVariants as obstacles

-- that of a text that is not read
abbrev pub obstacle_of_text : TextFault → Obstacle
obstacle_of_text (texts.At line column kind) = obstacles.Refused (refusals.Text line column kind)
obstacle_of_text texts.NoMemory = obstacles.NoMemory

-- that of a CIF file that is not read
abbrev pub obstacle_of_cif : CifFault → Obstacle
obstacle_of_cif (cifs.Quote line column) = obstacles.Refused (refusals.Cif line column kinds.Quote)
obstacle_of_cif (cifs.TextField line column) = obstacles.Refused (refusals.Cif line column kinds.TextField)
obstacle_of_cif cifs.NoSymops = obstacles.Refused refusals.NoSymops
obstacle_of_cif (cifs.Ragged line column) = obstacles.Refused (refusals.Cif line column kinds.Ragged)
obstacle_of_cif (cifs.Symop line column kind) = obstacles.Refused (refusals.Cif line column (kinds.Symop kind))
obstacle_of_cif cifs.NoMemory = obstacles.NoMemory

-- that of a source that is not read to its end
abbrev pub obstacle_of_read : ReadFault → Obstacle
obstacle_of_read reads.Failed = obstacles.ReadFault
obstacle_of_read reads.NoMemory = obstacles.NoMemory

-- the refusal of what is no group
abbrev pub refusal_of_fault : GroupFault → Refusal
refusal_of_fault group_faults.NoIdentity = refusals.NoIdentity
refusal_of_fault (group_faults.ShiftMoved i) = refusals.ShiftMoved i
refusal_of_fault (group_faults.NotClosed i j) = refusals.NotClosed i j
refusal_of_fault (group_faults.NoInverse i) = refusals.NoInverse i

-- that of what makes no group
abbrev pub obstacle_of_group : GroupError → Obstacle
obstacle_of_group (groups.TooMany n) = obstacles.Refused (refusals.TooMany n)
obstacle_of_group groups.TooFine = obstacles.Refused refusals.TooFine
obstacle_of_group (groups.Fault fault) = obstacles.Refused (refusal_of_fault fault)
obstacle_of_group groups.NoMemory = obstacles.NoMemory

-- that of what generates no group
abbrev pub obstacle_of_generators : GeneratedError → Obstacle
obstacle_of_generators (generators.TooMany n) = obstacles.Refused (refusals.TooMany n)
obstacle_of_generators (generators.NoInverse i) = obstacles.Refused (refusals.NoInverse i)
obstacle_of_generators generators.TooLarge = obstacles.Refused refusals.TooLarge
obstacle_of_generators generators.TooFine = obstacles.Refused refusals.TooFine
obstacle_of_generators generators.NoMemory = obstacles.NoMemory

-- the refusal of vectors that make no frame
abbrev pub refusal_of_frame : FrameFault → Refusal
refusal_of_frame frames.NotFrame = refusals.NotFrame
refusal_of_frame frames.Skewed = refusals.SkewFrame

-- the vectors are a frame of the group and the orientation, and not skewed
pub record IsFairFrame (g : Listing) (row : Vector) (basis : Basis) : Type 0 where
  pub is_frame : IsFrame g row basis
  pub not_skewed : ¬ IsSkewed g row basis

-- why the vectors are refused
abbrev pub RefusesFrame : Listing → Vector → Basis → Refusal → Type 0
RefusesFrame g row basis refusal = (fault : FrameFault) × IsFrameFault g row basis fault × (refusal ≡ refusal_of_frame fault)

-- that of images that are not told
abbrev pub obstacle_of_orbits : OrbitFault → Obstacle
obstacle_of_orbits orbit_faults.Wide = obstacles.Refused refusals.Wide
obstacle_of_orbits orbit_faults.NoMemory = obstacles.NoMemory

-- that of a height without a list
abbrev pub obstacle_of_height : AtFault → Obstacle
obstacle_of_height at_faults.Large = obstacles.Refused refusals.HeightLimit
obstacle_of_height at_faults.NoMemory = obstacles.NoMemory
