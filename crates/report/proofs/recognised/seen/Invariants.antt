use Rattle.std.proofs.Common.{map, take}
use Rattle.std.specs.Prelude.{All}
use Rattle.std.specs.List.{AllZip}
use Rattle.motions.specs.Views.{motion_of, row_of}
use Rattle.closure.specs.Groups.{group_listing}
use Rattle.plane_lattice.specs.FrameView.{basis_of_frame}
use Rattle.recognition.specs.Sections.{IsSmallMotion}
use Rattle.report.specs.SectionTypes.{IsSeen}
use Rattle.report.proofs.recognised.seen.Given as goal

abbrev pub invariant-loop-m : goal.invariant-loop-m
invariant-loop-m l =
    AllZip (IsSeen (group_listing l.fn.group) (row_of l.fn.frame.plane) (basis_of_frame l.fn.frame) l.fn.step)
    (map motion_of (take l.m-index l.ops)) l.section.items
    × All IsSmallMotion l.section.items
