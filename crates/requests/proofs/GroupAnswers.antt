-- What is made in a frame of a group is what is asked of each listing of the group.
use Rattle.std.proofs.Common.{◌≡◌, ◌^◌, ℕ, List, refl, ap, subst}
use Rattle.fractions.specs.Fraction.{Fraction, IsFractionWithin}
use Rattle.symmetry.specs.Vectors.{Vector}
use Rattle.symmetry.specs.Motions.{Motion}
use Rattle.symmetry.specs.Groups.{Listing, IsGroup, SameModulo, InStabiliser}
use Rattle.symmetry.specs.Frames.{Basis, IsFrame, IsAtHome}
use Rattle.symmetry.specs.Lists.{IsListOf}
use Rattle.symmetry.specs.Scans.{IsScan}
use Rattle.motions.specs.BasisView.{basis_of}
use Rattle.motions.specs.Views.{row_of}
use Rattle.motions.specs.declared.basis.Basis.{Basis as BasisOfCode}
use Rattle.motions.specs.declared.miller.Miller.{Miller}
use Rattle.closure.specs.declared.group.Group.{Group}
use Rattle.closure.specs.Groups.{IsGroupOf}
use Rattle.plane_lattice.specs.Coordinates.{vectors}
use Rattle.plane_lattice.specs.FrameOf.{IsFrameOf}
use Rattle.plane_lattice.specs.FrameView.{basis_of_frame}
use Rattle.plane_lattice.specs.declared.frame.Frame.{Frame}
use Rattle.scanning.specs.ScanView.{IsScanOf, scan_of}
use Rattle.scanning.specs.declared.scan.Scan.{Scan}
use Rattle.scanning.specs.declared.at_fault.AtFault.{AtFault}
use Rattle.scanning.specs.declared.at_fault.AtFault.TheVariants as at_faults
use Rattle.orbits.specs.Orientations.{IsOrbitFault}
use Rattle.orbits.specs.declared.orbit_fault.OrbitFault.{OrbitFault}
use Rattle.orbits.specs.declared.orbit_fault.OrbitFault.TheVariants as orbit_faults
use Rattle.report.specs.Texts.{at_text}
use Rattle.report.specs.Reports.{IsReport, Report}
use Rattle.report.proofs.Says.{report_says}
use Rattle.requests.specs.Obstacles.{IsFairFrame, obstacle_of_height, obstacle_of_orbits}
use Rattle.requests.specs.declared.request.Form.{Form}
use Rattle.requests.specs.Layers.{written_report}
use Rattle.requests.specs.Limits.{IsHeightInRange}
use Rattle.requests.specs.Questions.{at_height, all_heights, image_rows}
use Rattle.requests.specs.Causes.{IsGroupsObstacle}
use Rattle.requests.specs.Answers.{Answers}

-- ---- in a frame

module _ (g : Listing) (plane : Miller) (basis : BasisOfCode) (frame : Frame) (made : IsFrameOf g plane basis frame) where
  -- what holds of the frame holds of the vectors that it was made from
  from_frame : (P : Vector → Basis → Type 0) → P (row_of frame.plane) (basis_of_frame frame) → P (row_of plane) (basis_of basis)
  from_frame P h =
      let same : basis_of_frame frame ≡ basis_of basis = λ i. vectors (made.a i) (made.b i) (made.tau i) in
      subst (λ (r : Vector). P r (basis_of basis)) (ap row_of made.plane) (subst (P (row_of frame.plane)) same h)

  pub fair : IsFairFrame g (row_of plane) (basis_of basis)
  fair = record { is_frame = made.is_frame; not_skewed = made.not_skewed }

  module _ (group : Group) (of : IsGroupOf g group) where
    -- what the scan lists, it lists in the frame that was given
    pub list_in_frame : (In : Vector → Motion → Type 0) (scan : Scan) (ops : List Motion) → IsScanOf g frame scan
        → (IsGroup g → IsFrame g (row_of scan.frame.plane) (basis_of_frame scan.frame)
        → IsScan g (row_of scan.frame.plane) (basis_of_frame scan.frame) (scan_of scan)
        → IsListOf (SameModulo g) g.ops (IsAtHome (basis_of_frame scan.frame)) (In (row_of scan.frame.plane)) ops)
        → IsListOf (SameModulo g) g.ops (IsAtHome (basis_of basis)) (In (row_of plane)) ops
    list_in_frame In scan ops scanned list =
        from_frame Lists (subst (λ (q : Frame). Lists (row_of q.plane) (basis_of_frame q)) scanned.frame_is (list of.is_group))
        made.is_frame (from_frame (λ r f. IsScan g r f (scan_of scan)) scanned.is)
      where
        Lists : Vector → Basis → Type 0
        Lists r f = IsFrame g r f → IsScan g r f (scan_of scan) → IsListOf (SameModulo g) g.ops (IsAtHome f) (In r) ops

    pub height_answer : (s : Fraction) (scan : Scan) (ops : List Motion) (text : List ℕ) → IsScanOf g frame scan
        → ((g : Listing) → IsGroup g → IsFrame g (row_of scan.frame.plane) (basis_of_frame scan.frame)
        → IsScan g (row_of scan.frame.plane) (basis_of_frame scan.frame) (scan_of scan)
        → IsListOf (SameModulo g) g.ops (IsAtHome (basis_of_frame scan.frame)) (InStabiliser g (row_of scan.frame.plane) s) ops)
        → text ≡ at_text s ops → Answers g (at_height (row_of plane) (basis_of basis) s) text
    height_answer s scan ops text scanned list is = record {
      frame = fair;
      ops = ops;
      are_ops = list_in_frame (λ r. InStabiliser g r s) scan ops scanned (list g);
      is_text = is;
    }

    pub report_answer : (form : Form) (report : Report) (text : List ℕ) → IsReport g (row_of frame.plane) (basis_of_frame frame) report
        → text ≡ written_report form report → Answers g (all_heights (row_of plane) (basis_of basis) form) text
    report_answer form report text here is =
        let told = from_frame (λ r f. IsReport g r f report) here in
        record {
          frame = fair;
          report = report;
          is_report = told;
          says = report_says g (row_of plane) (basis_of basis) report of.is_group plane.coprime made.is_frame told;
          is_text = is;
        }

-- ---- no answer

-- a height in range has a list
pub height_obstacle : (row : Vector) (basis : Basis) (s : Fraction) (group : Group) (fault : AtFault) → IsHeightInRange s
    → (fault ≡ at_faults.Large → ¬ IsFractionWithin (10 ^ 9) s) → IsGroupsObstacle group (at_height row basis s) (obstacle_of_height fault)
height_obstacle row basis s group at_faults.Large range large = absurd (large refl (record { num = range.num; den = range.den }))
height_obstacle row basis s group at_faults.NoMemory range large = tt

pub images_obstacle : (row : Vector) (group : Group) (fault : OrbitFault) → ((g : Listing) → IsGroupOf g group → IsOrbitFault g row fault)
    → IsGroupsObstacle group (image_rows row) (obstacle_of_orbits fault)
images_obstacle row group orbit_faults.Wide wide = λ g of. (wide g of, refl)
images_obstacle row group orbit_faults.NoMemory h = tt
