use Rattle.std.proofs.Common.{take}
use Rattle.std.specs.Prelude.{option_map}
use Rattle.std.specs.List.{AllZip}
use Rattle.fractions.specs.FractionOf.{fraction_of}
use Rattle.motions.specs.Views.{row_of}
use Rattle.closure.specs.Groups.{group_listing}
use Rattle.plane_lattice.specs.FrameView.{basis_of_frame}
use Rattle.recognition.specs.Search.{change_of}
use Rattle.report.specs.FoundChanges.{IsTypeAt}
use Rattle.report.proofs.recognised.special_types.Given as goal

abbrev pub invariant-loop-height : goal.invariant-loop-height
invariant-loop-height g l =
    AllZip (λ h found. IsTypeAt (group_listing l.fn.group) (row_of l.fn.frame.plane) (basis_of_frame l.fn.frame) (fraction_of h.s) (option_map change_of found))
    (take l.height-index l.special) l.types.items
