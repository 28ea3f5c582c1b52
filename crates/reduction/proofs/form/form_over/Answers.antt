-- One operation more.
use Rattle.std.proofs.Common.{◌≡◌, ℕ, ◌+◌, ◌*◌, List, sym, subst, arith, map, take}
use Rattle.symmetry.specs.Motions.{Motion}
use Rattle.symmetry.specs.Sizes.{IsMatrixWithin}
use Rattle.motions.specs.Views.{motion_of, row_of}
use Rattle.closure.specs.Operations.{HasSmallEntries}
use Rattle.plane_lattice.specs.Scanning.{scanning_ops}
use Rattle.plane_lattice.proofs.Operations.{operation_at}
use Rattle.plane_lattice.proofs.Scanning.{taken_more}
use Rattle.reduction.specs.Bounds.{largest_columns}
use Rattle.reduction.specs.Forms.{form_matrix, IsSumOver}
use Rattle.symmetry.proofs.Sizes.{IsMatrixWithin-more}
use Rattle.reduction.proofs.FormSums.{no_sum, nothing_within, sum_more, sum_within}
use Rattle.reduction.proofs.form.form_over.Goals as goal
use Rattle.quotient.proofs.Items.{All-item_at}

pub loop-m-init : goal.loop-m-init
loop-m-init c = record { is = no_sum; small = nothing_within }

pub with_scanning-form-requires-clause-form : goal.with_scanning-form-requires-clause-form
with_scanning-form-requires-clause-form c = IsMatrixWithin-more c.loop-m.invariant.small (omega (arith, c.requires.few, c.loop-m-test.true))

pub with_scanning-form-requires-clause-motion : goal.with_scanning-form-requires-clause-motion
with_scanning-form-requires-clause-motion c = All-item_at motion_of c.args.ops.now HasSmallEntries c.loop-m.m-index _ c.requires.operations c.loop-m-test.true

pub loop-m-preserved : goal.loop-m-preserved
loop-m-preserved c =
    let ops = c.args.ops.now in
    let i = c.loop-m.m-index in
    let r = row_of c.args.plane.now in
    let m = motion_of (operation_at ops i) in
    let q = form_matrix c.loop-m.form in
    let more = form_matrix c.with_scanning-form.result in
    let small : HasSmallEntries m = All-item_at motion_of ops HasSmallEntries i _ c.requires.operations c.loop-m-test.true in
    let size : i * largest_columns + largest_columns ≡ (i + 1) * largest_columns = omega arith in
    record {
      is = subst (λ (ms : List Motion). IsSumOver (scanning_ops r ms) more) (sym (taken_more ops i _ c.loop-m-test.true))
          (sum_more r q more (map motion_of (take i ops)) m c.loop-m.invariant.is c.with_scanning-form.ensures);
      small = subst (λ (n : ℕ). IsMatrixWithin n more) size
          (sum_within (i * largest_columns) r q more m c.loop-m.invariant.small small.matrix c.with_scanning-form.ensures);
    }
