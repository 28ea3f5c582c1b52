-- What the motions before the index have chosen.
use Rattle.std.proofs.Common.{map, take}
use Rattle.std.specs.Prelude.{All}
use Rattle.symmetry.specs.Frames.{IsAtHome, IsFrame}
use Rattle.symmetry.specs.Groups.{IsMember, Listing, SameModulo}
use Rattle.motions.specs.Views.{motion_of, row_of}
use Rattle.plane_lattice.specs.FrameView.{basis_of_frame}
use Rattle.scanning.specs.Members.{InRows}
use Rattle.scanning.proofs.ChosenLists.{ChosenFrom}
use Rattle.scanning.proofs.members.members.Given as goal

abbrev pub invariant-loop-m : goal.invariant-loop-m
invariant-loop-m l =
    (g : Listing) → IsFrame g (row_of l.frame.plane) (basis_of_frame l.frame) → All (IsMember g) (map motion_of l.homes)
    → ChosenFrom (SameModulo g) (IsAtHome (basis_of_frame l.frame)) (InRows g (row_of l.frame.plane) l.turned) (take l.m-index l.homes) l.members.items
