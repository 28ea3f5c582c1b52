-- The report of a scan and of the orbits of its heights is the report of the group.
use Rattle.std.proofs.Common.{◌≡◌, ℕ, List, [], ◌∷◌, Option, map, refl, sym, ap, subst, ◌∙◌}
use Rattle.std.specs.Prelude.{All, option_map}
use Rattle.std.specs.List.{AllZip}
use Rattle.fractions.specs.FractionOf.{fraction_of}
use Rattle.symmetry.specs.Frames.{IsFrame, IsPeriod, mean_of}
use Rattle.symmetry.specs.Groups.{Listing}
use Rattle.symmetry.specs.Vectors.{Vector, dot}
use Rattle.symmetry.specs.Orbits.{AreOrbitNumbers, IsPlaneCount}
use Rattle.symmetry.specs.Scans.{IsScan, Scan as ScanOfPlanes, heights_of}
use Rattle.motions.specs.declared.basis.Basis.{Basis}
use Rattle.motions.specs.BasisView.{basis_of}
use Rattle.motions.specs.Views.{parts, row_of}
use Rattle.closure.specs.declared.group.Group.{Group}
use Rattle.closure.specs.Groups.{IsGroupOf, group_listing}
use Rattle.plane_lattice.specs.declared.frame.Frame.{Frame}
use Rattle.plane_lattice.specs.FrameOf.{IsFrameOf, IsMadeFor}
use Rattle.plane_lattice.specs.FrameView.{basis_of_frame}
use Rattle.plane_lattice.specs.Scanning.{IsPointOf}
use Rattle.recognition.specs.declared.found.Found.{Found}
use Rattle.recognition.specs.Search.{change_of}
use Rattle.scanning.specs.declared.scan.Scan.{Scan}
use Rattle.scanning.specs.HeightView.{heights_of_specials}
use Rattle.scanning.specs.ScanView.{scan_of, IsScanOf}
use Rattle.report.specs.declared.report.Report.{Report}
use Rattle.fractions.specs.Fractions.{fractions_of}
use Rattle.report.specs.Reports.{HeightBlock, block_heights, special_of_block, IsMean}
use Rattle.report.specs.ReportView.{report_of, IsReportOf}
use Rattle.report.specs.FoundChanges.{IsGeneralType, IsTypeAt}
use Rattle.report.specs.SectionView.{block_of}
use Rattle.report.specs.Shown.{Shows}
use Rattle.report.proofs.AlikeReports.{alike_reports}
use Rattle.report.proofs.NumberedHeights.{types_of_numbered}
use Rattle.report.proofs.Means.{point_in_lowest_terms}

-- the heights of the blocks are those of the scan that they show
heights_of_blocks : (blocks : List HeightBlock) → heights_of (map special_of_block blocks) ≡ block_heights blocks
heights_of_blocks [] = refl
heights_of_blocks (block ∷ blocks) = ap (λ heights. block.height ∷ heights) (heights_of_blocks blocks)

module _ (group : Group) (frame : Frame) (basis : Basis) (of : IsFrameOf (group_listing group) frame.plane basis frame) where
  -- the vector c' of the frame is the mean over the scanning operations
  mean_of_frame : IsMean (group_listing group) (row_of frame.plane) (parts frame.tau) (fractions_of frame.c)
  mean_of_frame =
      let r = row_of frame.plane in
      let mean = subst (λ tau. IsPointOf (mean_of r (parts tau) of.scanning) frame.c) (sym of.tau) of.mean in
      record {
        scanning = of.scanning;
        are_scanning = of.are_scanning;
        is = point_in_lowest_terms (mean_of r (parts frame.tau) of.scanning) frame.c mean;
      }

  pub report_made : (scan : Scan) (numbers : List ℕ) (planes : ℕ) (general : Option Found) (types : List (Option Found)) (report : Report)
      → Shows scan numbers planes general types report → scan.frame ≡ frame
      → IsScan (group_listing group) (row_of frame.plane) (basis_of_frame frame) (scan_of scan)
      → AreOrbitNumbers (group_listing group) (row_of frame.plane) (heights_of_specials scan.special.items) numbers
      → IsPlaneCount (group_listing group) (row_of frame.plane) frame.period.0 planes
      → IsGeneralType (group_listing group) (row_of frame.plane) (basis_of_frame frame) (option_map change_of general)
      → AllZip (λ h o. IsTypeAt (group_listing group) (row_of frame.plane) (basis_of_frame frame) (fraction_of h.s) (option_map change_of o)) scan.special.items types
      → IsReportOf (group_listing group) frame report
  report_made scan numbers planes general types report shown same is_scan are_numbers is_count is_general are_types = record {
    frame_is = same_frame;
    is = record {
      row = ap (λ (f : Frame). row_of f.plane) same_frame;
      basis = ap basis_of_frame same_frame;
      period = subst (IsPeriod g r) (sym same_period) of.period;
      mean = subst (λ (f : Frame). IsMean g r (parts frame.tau) (fractions_of f.c)) (sym same_frame) mean_of_frame;
      scan = subst (IsScan g r (basis_of_frame frame)) (sym shown.same_scan) is_scan;
      orbits = subst (AreOrbitNumbers g r (block_heights blocks)) (sym shown.same_orbits)
          (subst (λ heights. AreOrbitNumbers g r heights numbers) (sym same_heights) are_numbers);
      planes = subst (IsPlaneCount g r report.frame.period.0) (sym shown.same_planes)
          (subst (λ d. IsPlaneCount g r d planes) (sym same_period) is_count);
      general_type = subst (λ o. IsGeneralType g r (basis_of_frame frame) (option_map change_of o)) (sym shown.same_general) is_general;
      types = subst (λ hs. All (λ (block : HeightBlock). IsTypeAt g r (basis_of_frame frame) block.height block.section.found) (map block_of hs)) (sym shown.same_heights)
          (types_of_numbered (IsTypeAt g r (basis_of_frame frame)) scan.special.items numbers types are_types);
    };
  }
    where
      g : Listing
      g = group_listing group

      r : Vector
      r = row_of frame.plane

      blocks : List HeightBlock
      blocks = (report_of report).heights

      same_frame : report.frame ≡ frame
      same_frame = shown.same_frame ∙ same

      same_period : report.frame.period.0 ≡ frame.period.0
      same_period = ap (λ (f : Frame). f.period.0) same_frame

      same_heights : block_heights blocks ≡ heights_of_specials scan.special.items
      same_heights = sym (heights_of_blocks blocks) ∙ ap (λ (s : ScanOfPlanes). heights_of s.special) shown.same_scan

-- the frame is a frame of the group
pub frame_made : (group : Group) (frame : Frame) → IsMadeFor group frame
    → IsFrame (group_listing group) (row_of frame.plane) (basis_of_frame frame)
frame_made group frame (plane, basis, of) =
    let g = group_listing group in
    subst (IsFrame g (row_of frame.plane)) (λ i. record { a = parts (sym of.a i); b = parts (sym of.b i); tau = parts (sym of.tau i) })
    (subst (λ p. IsFrame g (row_of p) (basis_of basis)) (sym of.plane) of.is_frame)

-- the report that shows the scan of the group in the frame, with its orbits, is that of the group's own list
pub report_of_scan : (group : Group) (frame : Frame) → IsMadeFor group frame → (scan : Scan) → IsScanOf (group_listing group) frame scan
    → (numbers : List ℕ) (planes : ℕ)
    → AreOrbitNumbers (group_listing group) (row_of scan.frame.plane) (heights_of_specials scan.special.items) numbers
    → IsPlaneCount (group_listing group) (row_of scan.frame.plane) (dot (row_of scan.frame.plane) (parts scan.frame.tau)) planes
    → (general : Option Found) (types : List (Option Found))
    → IsGeneralType (group_listing group) (row_of frame.plane) (basis_of_frame frame) (option_map change_of general)
    → AllZip (λ h o. IsTypeAt (group_listing group) (row_of frame.plane) (basis_of_frame frame) (fraction_of h.s) (option_map change_of o)) scan.special.items types
    → (report : Report) → Shows scan numbers planes general types report → IsReportOf (group_listing group) frame report
report_of_scan group frame (plane, basis, of) scan is numbers planes are_numbers is_count general types is_general are_types report shown =
    let g = group_listing group in
    report_made group frame basis (subst (λ p. IsFrameOf g p basis frame) (sym of.plane) of) scan numbers planes general types report shown is.frame_is is.is
    (subst (λ (f : Frame). AreOrbitNumbers g (row_of f.plane) (heights_of_specials scan.special.items) numbers) is.frame_is are_numbers)
    (subst (λ (f : Frame). IsPlaneCount g (row_of f.plane) f.period.0 planes) is.frame_is
    (subst (λ d. IsPlaneCount g (row_of scan.frame.plane) d planes) scan.frame.tau_gives is_count))
    is_general are_types

-- and of each list of the group
pub report_of_each : (group : Group) (frame : Frame) (g : Listing) → IsGroupOf g group → (report : Report) → IsReportOf (group_listing group) frame report
    → IsReportOf g frame report
report_of_each group frame g of report is = record {
  frame_is = is.frame_is;
  is = (alike_reports g (group_listing group) of.alike (row_of frame.plane) (basis_of_frame frame) (report_of report)).1 is.is;
}
