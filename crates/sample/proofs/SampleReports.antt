-- The report of a sheared group in its frame.
use Rattle.std.proofs.Common.{◌≡◌, ℕ, ◌≤◌, ℤ, Bool, List, length, map, sym, ap, subst, ◌∙◌, arith, unsigned_abs}
use Rattle.std.specs.Prelude.{AllPairs}
use Rattle.std.proofs.lemmas.Int.{ints}
use Rattle.std.proofs.lemmas.List.{length-map}
use Rattle.std.proofs.lemmas.Simd.{map-map}
use Rattle.fractions.specs.declared.part.TheConstants.{UNIT}
use Rattle.integers.specs.Size.{IsWithin}
use Rattle.integers.proofs.Coded.{again}
use Rattle.symmetry.specs.Vectors.{Vector, dot}
use Rattle.symmetry.specs.Groups.{Listing}
use Rattle.symmetry.specs.Frames.{Basis, IsFrame, IsSkewed}
use Rattle.symmetry.specs.Scans.{IsLower, SpecialHeight}
use Rattle.motions.specs.declared.basis.Basis.{Basis as BasisOfCode}
use Rattle.motions.specs.declared.basis.FrameFault.{FrameFault}
use Rattle.motions.specs.declared.basis.FrameFault.TheVariants.{NotFrame, Skewed}
use Rattle.motions.specs.declared.miller.Miller.{Miller}
use Rattle.motions.specs.BasisView.{basis_of}
use Rattle.motions.specs.Views.{parts, row_of}
use Rattle.layer_types.specs.declared.layer_type.LayerType.{LayerType}
use Rattle.layer_types.specs.LayerTypes.{IsLayerType}
use Rattle.closure.specs.declared.group.Group.{Group}
use Rattle.closure.specs.Groups.{IsGroupOf}
use Rattle.plane_lattice.specs.declared.frame.Frame.{Frame}
use Rattle.plane_lattice.specs.FrameOf.{IsFrameFault, IsFrameOf}
use Rattle.report.specs.declared.report.Report.{Report}
use Rattle.report.specs.declared.report.HeightSection.{HeightSection}
use Rattle.report.specs.Reports.{HeightBlock, IsReport, special_of_block}
use Rattle.report.specs.ReportView.{IsReportOf, report_of}
use Rattle.report.specs.SectionView.{block_of, levels_of_sections}
use Rattle.sample.specs.CountSizes.{most_heights}
use Rattle.sample.specs.SampleGroups.{sample_frame, shear_number, sheared_group, upright}
use Rattle.sample.proofs.FewHeights.{few_heights}
use Rattle.sample.proofs.Lattices.{with_centrings}
use Rattle.sample.proofs.ShearSizes.{there_again}
use Rattle.sample.proofs.TypeGroups.{is_frame, not_skewed, ops}

pub shear_within : (i : ℕ) → IsWithin 2 (shear_number i)
shear_within i = record { most = omega (arith, ints) }

-- a group with the number as the code hands it on
pub of_number : (i : ℕ) (r : ℤ) → r ≡ shear_number i → (t : LayerType) (group : Group) → IsGroupOf (sheared_group (again r) t) group
    → IsGroupOf (sheared_group (shear_number i) t) group
of_number i r e t group = subst (λ k. IsGroupOf (sheared_group k t) group) (there_again r (subst (IsWithin 2) (sym e) (shear_within i)) ∙ e)

module _ (n : ℕ) (t : LayerType) (h : IsLayerType n t) (j : ℤ) (within : IsWithin 2 j) where
  abbrev g : Listing
  g = sheared_group j t

  abbrev f : Basis
  f = sample_frame t.centred

  its_frame : IsFrame g upright f
  its_frame = subst (λ b. IsFrame (with_centrings b (ops n t h j)) upright (sample_frame b)) (sym h.centred) (is_frame n t h j)

  straight : ¬ IsSkewed g upright f
  straight = subst (λ b. ¬ IsSkewed (with_centrings b (ops n t h j)) upright (sample_frame b)) (sym h.centred) (not_skewed n t h j within)

  none_of : (fault : FrameFault) → ¬ IsFrameFault g upright f fault
  none_of NotFrame none = none its_frame
  none_of Skewed (frame, skewed) = straight skewed

  pub no_fault : (fault : FrameFault) (r : Vector) (b : Basis) → r ≡ upright → b ≡ f → ¬ IsFrameFault g r b fault
  no_fault fault r b row vectors is = none_of fault (subst (λ v. IsFrameFault g v f fault) row (subst (λ k. IsFrameFault g r k fault) vectors is))

-- ---- the report

pub report_is : (g : Listing) (plane : Miller) (basis : BasisOfCode) (frame : Frame) (r : Vector) (f : Basis)
    → IsFrameOf g plane basis frame → row_of plane ≡ r → basis_of basis ≡ f → (report : Report) → IsReportOf g frame report
    → IsReport g r f (report_of report)
report_is g plane basis frame r f of row vectors report is =
    subst (λ v. IsReport g v f (report_of report)) (ap row_of of.plane ∙ row)
    (subst (λ b. IsReport g (row_of frame.plane) b (report_of report))
    ((λ i. record { a = parts (of.a i); b = parts (of.b i); tau = parts (of.tau i) }) ∙ vectors) is.is)

-- the special heights as a scan has them
same_heights : (hs : List HeightSection)
    → map (λ (s : SpecialHeight). s.height) (map special_of_block (map block_of hs)) ≡ levels_of_sections hs
same_heights hs = map-map (λ (s : SpecialHeight). s.height) special_of_block (map block_of hs)

one_edge : (c : Bool) → dot upright (sample_frame c).tau ≡ UNIT
unfolding dot
one_edge c = omega (arith, ints)

pub few_of_report : (g : Listing) (c : Bool) (report : Report) → IsReport g upright (sample_frame c) (report_of report)
    → length report.heights.items ≤ most_heights
few_of_report g c report is =
    let hs = report.heights.items in
    let few = few_heights (levels_of_sections hs) report.frame.period.0 report.in_period report.halves
    (subst (AllPairs IsLower) (same_heights hs) is.scan.rising) (unsigned_abs UNIT) (sym report.frame.tau_gives ∙ (λ i. dot (is.row i) (is.basis i).tau) ∙ one_edge c) in
    omega (arith, few, length-map hs block_of, length-map (map block_of hs) (λ (block : HeightBlock). block.height))
