-- The operations that map one line to itself, and their rod type.
use Rattle.std.specs.Prelude.{◌≡◌, ℕ, List}
use Rattle.symmetry.specs.Vectors.{Vector}
use Rattle.symmetry.specs.Groups.{Listing}
use Rattle.motions.specs.declared.basis.FrameFault.{FrameFault}
use Rattle.penetration.specs.FrameOf.{IsRodFrameFault, with_axis}
use Rattle.penetration.specs.RodFrames.{IsRodFrame, IsRodSkewed}
use Rattle.report.specs.RodReports.{IsRodReport, RodReport}
use Rattle.report.specs.RodTexts.{rod_text}
use Rattle.requests.specs.declared.refusal.Refusal.{Refusal}
use Rattle.requests.specs.Obstacles.{refusal_of_frame}

-- the text is that of the report of the line through p with the direction [uvw]
pub record IsRodAnswer (g : Listing) (u a b p : Vector) (text : List ℕ) : Type 0 where
  pub report : RodReport
  pub is_report : IsRodReport g u a b p report
  pub is_text : text ≡ rod_text report

-- with the axis the vectors are a rod frame of the group and the direction, and not skewed
pub record IsFairRod (g : Listing) (u a b : Vector) : Type 0 where
  pub axis : Vector
  pub is_frame : IsRodFrame g u (with_axis a b axis)
  pub not_skewed : ¬ IsRodSkewed g u (with_axis a b axis)

-- why the vectors are refused
abbrev pub RefusesRod : Listing → Vector → Vector → Vector → Refusal → Type 0
RefusesRod g u a b refusal = (fault : FrameFault) × IsRodFrameFault g u a b fault × (refusal ≡ refusal_of_frame fault)
