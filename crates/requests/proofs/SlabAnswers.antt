-- What is made of a slab in a frame of a group is what is asked of each listing of the group.
use Rattle.std.proofs.Common.{◌≡◌, ℕ, List, refl}
use Rattle.fractions.specs.Fraction.{Fraction, IsFractionWithin}
use Rattle.symmetry.specs.Vectors.{Vector}
use Rattle.symmetry.specs.Motions.{Motion}
use Rattle.symmetry.specs.Groups.{Listing, IsGroup, SameModulo}
use Rattle.symmetry.specs.Frames.{Basis, IsFrame, IsAtHome}
use Rattle.symmetry.specs.Lists.{IsListOf}
use Rattle.symmetry.specs.Scans.{IsScan}
use Rattle.motions.specs.BasisView.{basis_of}
use Rattle.motions.specs.Views.{row_of}
use Rattle.motions.specs.declared.basis.Basis.{Basis as BasisOfCode}
use Rattle.motions.specs.declared.miller.Miller.{Miller}
use Rattle.closure.specs.declared.group.Group.{Group}
use Rattle.closure.specs.Groups.{IsGroupOf}
use Rattle.plane_lattice.specs.FrameOf.{IsFrameOf}
use Rattle.plane_lattice.specs.FrameView.{basis_of_frame}
use Rattle.plane_lattice.specs.declared.frame.Frame.{Frame}
use Rattle.scanning.specs.ScanView.{IsScanOf, scan_of}
use Rattle.scanning.specs.declared.scan.Scan.{Scan}
use Rattle.scanning.specs.declared.at_fault.AtFault.{AtFault}
use Rattle.scanning.specs.declared.at_fault.AtFault.TheVariants as at_faults
use Rattle.slabs.specs.Slabs.{InSlabStabiliser, half_sum}
use Rattle.report.specs.SlabTexts.{slab_text}
use Rattle.requests.specs.Obstacles.{obstacle_of_height}
use Rattle.requests.specs.SlabLimits.{IsSlabInRange}
use Rattle.requests.specs.Questions.{between_heights}
use Rattle.requests.specs.Causes.{IsGroupsObstacle}
use Rattle.requests.specs.Answers.{Answers}
use Rattle.requests.proofs.GroupAnswers.{fair, list_in_frame}

pub slab_answer : (g : Listing) (plane : Miller) (basis : BasisOfCode) (frame : Frame) → IsFrameOf g plane basis frame
    → (group : Group) → IsGroupOf g group
    → (low high : Fraction) (scan : Scan) (ops : List Motion) (text : List ℕ) → IsScanOf g frame scan
    → ((g : Listing) → IsGroup g → IsFrame g (row_of scan.frame.plane) (basis_of_frame scan.frame)
    → IsScan g (row_of scan.frame.plane) (basis_of_frame scan.frame) (scan_of scan)
    → IsListOf (SameModulo g) g.ops (IsAtHome (basis_of_frame scan.frame)) (InSlabStabiliser g (row_of scan.frame.plane) low high) ops)
    → text ≡ slab_text low high ops → Answers g (between_heights (row_of plane) (basis_of basis) low high) text
slab_answer g plane basis frame made group of low high scan ops text scanned list is = record {
  frame = fair g plane basis frame made;
  ops = ops;
  are_ops = list_in_frame g plane basis frame made group of (λ r. InSlabStabiliser g r low high) scan ops scanned (list g);
  is_text = is;
}

-- a slab whose middle is in range has a list
pub slab_obstacle : (row : Vector) (basis : Basis) (low high : Fraction) (group : Group) (fault : AtFault) → IsSlabInRange low high
    → (fault ≡ at_faults.Large → ¬ IsFractionWithin 1000000000 (half_sum low high))
    → IsGroupsObstacle group (between_heights row basis low high) (obstacle_of_height fault)
slab_obstacle row basis low high group at_faults.Large range large =
    let middle = range.heights.middle in absurd (large refl (record { num = middle.num; den = middle.den }))
slab_obstacle row basis low high group at_faults.NoMemory range large = tt
