-- What the scan gives at the middle.
use Rattle.std.proofs.Common.{map, subst, ◌↔◌, ◌≡◌, Err}
use Rattle.std.specs.Result.{IfOk}
use Rattle.std.proofs.lemmas.Result.{IfOk-weaker}
use Rattle.fractions.specs.Fraction.{Fraction, IsFractionWithin}
use Rattle.fractions.specs.FractionOf.{fraction_of}
use Rattle.symmetry.specs.Scans.{GivesAt}
use Rattle.motions.specs.Views.{motion_of, row_of}
use Rattle.plane_lattice.specs.FrameView.{basis_of_frame}
use Rattle.scanning.specs.ScanView.{scan_of}
use Rattle.scanning.specs.declared.at_fault.AtFault.TheVariants.{Large}
use Rattle.slabs.proofs.SlabLists.{slab_list}
use Rattle.slabs.proofs.at.slab_at.Goals as goal

pub returns-clause-large : goal.returns-clause-large
returns-clause-large c =
    let P : Fraction → Type 0 = λ s. (c.ops_at.result ≡ Err Large) ↔ (¬ IsFractionWithin 1000000000 s) in
    subst P c.middle.ensures c.ops_at.ensures.large

pub returns-clause-gives : goal.returns-clause-gives
returns-clause-gives c = λ g group frame is_scan.
    let scan = c.args.scan.now in
    let P : Fraction → Type 0 = λ s.
    IfOk c.ops_at.result (λ ops. GivesAt g (row_of scan.frame.plane) (basis_of_frame scan.frame) (scan_of scan) s (map motion_of ops.items)) in
    subst P c.middle.ensures (c.ops_at.ensures.gives g group frame is_scan)

pub returns-clause-list : goal.returns-clause-list
returns-clause-list c = λ g group frame is_scan.
    let scan = c.args.scan.now in
    IfOk-weaker c.ops_at.result _ _
    (λ ops. slab_list g (row_of scan.frame.plane) (basis_of_frame scan.frame) (fraction_of c.args.low) (fraction_of c.args.high)
    (map motion_of ops.items) group scan.frame.plane.coprime c.args.low.positive c.args.high.positive c.requires.order
    (fraction_of c.middle.result) c.middle.ensures)
    (c.ops_at.ensures.list g group frame is_scan)
