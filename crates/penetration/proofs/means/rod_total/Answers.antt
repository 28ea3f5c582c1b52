-- One operation more.
use Rattle.std.proofs.Common.{◌≡◌, ℕ, ◌+◌, ◌*◌, ◌<◌, ℤ, ◌+ℤ◌, ap, sym, subst, ◌∙◌, arith, lit<, map, take, to_z}
use Rattle.std.specs.Int.{w128}
use Rattle.integers.specs.Size.{IsWithin}
use Rattle.integers.proofs.Ring.{IsWithin-add, IsWithin-more}
use Rattle.integers.proofs.Wide.{wide, wide_is}
use Rattle.symmetry.specs.Sizes.{IsSmall}
use Rattle.motions.specs.BasisView.{basis_of}
use Rattle.motions.specs.Views.{motion_of, parts}
use Rattle.plane_lattice.specs.Bounds.{largest_scaled}
use Rattle.plane_lattice.proofs.Operations.{operation_at}
use Rattle.plane_lattice.proofs.Scanning.{taken_more}
use Rattle.penetration.specs.DirectionView.{direction_of}
use Rattle.penetration.specs.RodFrames.{total_along}
use Rattle.penetration.specs.RodOperations.{rod_ops}
use Rattle.penetration.proofs.RodSums.{total-more}
use Rattle.penetration.proofs.means.rod_total.Goals as goal
use Rattle.quotient.proofs.Items.{All-item_at}

pub signed_coefficient-total-requires-clause-motion : goal.signed_coefficient-total-requires-clause-motion
signed_coefficient-total-requires-clause-motion c = All-item_at motion_of c.args.ops.now IsSmall c.loop-m.m-index _ c.requires.operations c.loop-m-test.true

-- the sum as the code has it
module _ (t x : ℤ) (i : ℕ) (below : i < 192) (h : IsWithin (i * largest_scaled) t) (k : IsWithin largest_scaled x) where
  within : IsWithin ((i + 1) * largest_scaled) (t +ℤ x)
  within = IsWithin-more (IsWithin-add h k) (omega arith)

  sum_is : wide (t +ℤ wide x) ≡ t +ℤ x
  sum_is =
      ap (λ z. wide (t +ℤ z)) (wide_is largest_scaled x (lit< tt) k)
      ∙ wide_is (192 * largest_scaled) (t +ℤ x) (lit< tt) (IsWithin-more within (omega arith))

pub loop-m-preserved : goal.loop-m-preserved
loop-m-preserved c =
    let ops = c.args.ops.now in
    let i = c.loop-m.m-index in
    let u = direction_of c.args.direction.now in
    let f = basis_of c.args.dual.now.basis in
    let v = parts c.args.v.now in
    let m = motion_of (operation_at ops i) in
    let x = c.signed_coefficient-total.result in
    let below : i < 192 = let few = c.requires.few in let h = c.loop-m-test.true in omega arith in
    let is = sum_is (to_z w128 c.loop-m.total-bits) x i below c.loop-m.invariant.small c.signed_coefficient-total.ensures.small in
    let P : ℤ → Type 0 = IsWithin ((i + 1) * largest_scaled) in
    record {
      is = is ∙ (λ j. c.loop-m.invariant.is j +ℤ c.signed_coefficient-total.ensures.is j) ∙ sym (total-more u f v (map motion_of (take i ops)) m)
          ∙ ap (λ ms. total_along u f (rod_ops u ms) v) (sym (taken_more ops i _ c.loop-m-test.true));
      small = subst P (sym is) (within (to_z w128 c.loop-m.total-bits) x i below c.loop-m.invariant.small c.signed_coefficient-total.ensures.small);
    }
