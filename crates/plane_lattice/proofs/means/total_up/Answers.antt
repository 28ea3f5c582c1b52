-- One operation more.
use Rattle.std.proofs.Common.{◌≡◌, ℕ, ◌+◌, ◌*◌, ◌∙◌, List, sym, ap, subst, arith, map, take}
use Rattle.symmetry.specs.Frames.{total_up}
use Rattle.symmetry.specs.Motions.{Motion}
use Rattle.symmetry.specs.Sizes.{IsSmall, IsVectorWithin}
use Rattle.symmetry.specs.Vectors.{image}
use Rattle.motions.specs.Views.{motion_of, parts, row_of}
use Rattle.plane_lattice.specs.Bounds.{largest_turned}
use Rattle.plane_lattice.specs.Scanning.{scanning_ops}
use Rattle.plane_lattice.proofs.Operations.{operation_at}
use Rattle.plane_lattice.proofs.Scanning.{taken_more, total_more, total_within}
use Rattle.symmetry.proofs.Sizes.{image_within}
use Rattle.plane_lattice.proofs.means.total_up.Goals as goal
use Rattle.quotient.proofs.Items.{All-item_at}

pub with_operation-total-requires-clause-motion : goal.with_operation-total-requires-clause-motion
with_operation-total-requires-clause-motion c = All-item_at motion_of c.args.ops.now IsSmall c.loop-m.m-index _ c.requires.operations c.loop-m-test.true

pub loop-m-preserved : goal.loop-m-preserved
loop-m-preserved c =
    let ops = c.args.ops.now in
    let i = c.loop-m.m-index in
    let r = row_of c.args.plane.now in
    let tau = parts c.args.tau.now in
    let m = motion_of (operation_at ops i) in
    let small : IsSmall m = All-item_at motion_of ops IsSmall i _ c.requires.operations c.loop-m-test.true in
    let within = total_within (i * largest_turned) largest_turned r m (parts c.loop-m.total) (image m.matrix tau) (parts c.with_operation-total.result)
    c.loop-m.invariant.small (image_within small.matrix c.requires.tau) c.with_operation-total.ensures in
    let size : i * largest_turned + 1 * largest_turned ≡ (i + 1) * largest_turned = omega arith in
    record {
      is = total_more r tau (parts c.loop-m.total) (parts c.with_operation-total.result) (map motion_of (take i ops)) m c.loop-m.invariant.is c.with_operation-total.ensures
          ∙ ap (λ (ms : List Motion). total_up r tau (scanning_ops r ms)) (sym (taken_more ops i _ c.loop-m-test.true));
      small = subst (λ (n : ℕ). IsVectorWithin n (parts c.with_operation-total.result)) size within;
    }
