-- Listings of one group have the same reports.
use Rattle.std.proofs.Common.{◌↔◌, Option}
use Rattle.std.proofs.lemmas.List.Elements.{All-weaker}
use Rattle.fractions.specs.Fractions.{Fractions}
use Rattle.symmetry.specs.Vectors.{Vector}
use Rattle.symmetry.specs.Groups.{Listing}
use Rattle.symmetry.specs.Planes.{Height}
use Rattle.symmetry.specs.Frames.{Basis, mean_of}
use Rattle.symmetry.specs.Listings.{AreAlike}
use Rattle.symmetry.proofs.Alike.{alike_sym, member_from, member_to, period_from}
use Rattle.symmetry.proofs.AlikeScans.{numbers_from, planes_from, scan_from, scanning_from}
use Rattle.plane_lattice.specs.Sections.{InGeneralSection, InSectionAt}
use Rattle.recognition.specs.Order.{Change}
use Rattle.report.specs.FoundChanges.{IsGeneralType, IsTypeAt}
use Rattle.report.specs.Reports.{HeightBlock, IsMean, IsReport, Report, scan_of_report}
use Rattle.report.proofs.SameSets.{found_same}

module _ (g h : Listing) (alike : AreAlike g h) (r : Vector) where
  mean_from : (tau : Vector) (v : Fractions) → IsMean h r tau v → IsMean g r tau v
  mean_from tau v is = record {
    scanning = is.scanning;
    are_scanning = scanning_from g h alike r is.scanning is.are_scanning;
    is = is.is;
  }

  general_from : (f : Basis) (o : Option Change) → IsGeneralType h r f o → IsGeneralType g r f o
  general_from f o is ms scanning s high =
      found_same (InGeneralSection h r f (mean_of r f.tau ms) s) (InGeneralSection g r f (mean_of r f.tau ms) s)
      (λ op. (
        λ seen. record {
          motion = seen.motion;
          in_set = (member_from g h alike seen.motion seen.in_set.0, seen.in_set.1);
          seen = seen.seen;
        },
        λ seen. record {
          motion = seen.motion;
          in_set = (member_to g h alike seen.motion seen.in_set.0, seen.in_set.1);
          seen = seen.seen;
        },
      )) o (is ms (scanning_from h g (alike_sym g h alike) r ms scanning) s high)

  type_from : (f : Basis) (s : Height) (o : Option Change) → IsTypeAt h r f s o → IsTypeAt g r f s o
  type_from f s o is ms scanning =
      found_same (InSectionAt h r f (mean_of r f.tau ms) s) (InSectionAt g r f (mean_of r f.tau ms) s)
      (λ op. (
        λ seen. record {
          motion = seen.motion;
          in_set = (member_from g h alike seen.motion seen.in_set.0, seen.in_set.1);
          seen = seen.seen;
        },
        λ seen. record {
          motion = seen.motion;
          in_set = (member_to g h alike seen.motion seen.in_set.0, seen.in_set.1);
          seen = seen.seen;
        },
      )) o (is ms (scanning_from h g (alike_sym g h alike) r ms scanning))

  report_from : (f : Basis) (report : Report) → IsReport h r f report → IsReport g r f report
  report_from f report is = record {
    row = is.row;
    basis = is.basis;
    period = period_from g h alike r report.period is.period;
    mean = mean_from f.tau report.mean is.mean;
    scan = scan_from g h alike r f (scan_of_report report) is.scan;
    orbits = numbers_from g h alike r _ _ is.orbits;
    planes = planes_from g h alike r report.period report.planes is.planes;
    general_type = general_from f report.general.found is.general_type;
    types = All-weaker (λ (block : HeightBlock). IsTypeAt h r f block.height block.section.found)
        (λ (block : HeightBlock). IsTypeAt g r f block.height block.section.found)
        (λ (block : HeightBlock) type. type_from f block.height block.section.found type) report.heights is.types;
  }

pub alike_reports : (g h : Listing) → AreAlike g h → (r : Vector) (f : Basis) (report : Report) → IsReport g r f report ↔ IsReport h r f report
alike_reports g h alike r f report = (report_from h g (alike_sym g h alike) r f report, report_from g h alike r f report)
