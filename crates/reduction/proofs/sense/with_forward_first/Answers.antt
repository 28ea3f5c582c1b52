-- The opposite of a vector that points back does not.
use Rattle.std.proofs.Common.{ℤ, negsuc, ◌*ℤ◌, sym, subst, inl, inr, arith}
use Rattle.std.proofs.lemmas.Int.{ints}
use Rattle.symmetry.specs.Sizes.{IsVectorWithin}
use Rattle.symmetry.specs.Vectors.{Vector, multiple, opposite}
use Rattle.motions.specs.Views.{vector_of}
use Rattle.reduction.specs.BasisView.{vectors_of}
use Rattle.reduction.specs.Bounds.{largest_short}
use Rattle.reduction.specs.Forms.{by_form}
use Rattle.reduction.specs.LeadingEntries.{IsBackward}
use Rattle.reduction.specs.Reduced.{IsReduced}
use Rattle.reduction.proofs.PairSteps.{adapted_opposite_first}
use Rattle.reduction.proofs.ReducedBases.{reduced_opposite_first}
use Rattle.reduction.proofs.TurnedPassed.{opposite_vector_within}
use Rattle.reduction.proofs.sense.with_forward_first.Goals as goal

pub returns-then-is_backward-clause-adapted : goal.returns-then-is_backward-clause-adapted
returns-then-is_backward-clause-adapted c g r h =
    adapted_opposite_first g r (vector_of c.args.basis.now.a) (vector_of c.args.basis.now.b) (vector_of c.args.basis.now.tau) h (vector_of c.opposite.result) c.opposite.ensures

pub returns-then-is_backward-clause-reduced : goal.returns-then-is_backward-clause-reduced
returns-then-is_backward-clause-reduced c g h =
    let f = vectors_of c.args.basis.now in
    subst (λ (a : Vector). IsReduced (by_form g) (record { a = a; b = f.b; tau = f.tau })) (sym c.opposite.ensures) (reduced_opposite_first g f h)

pub returns-then-is_backward-clause-a : goal.returns-then-is_backward-clause-a
returns-then-is_backward-clause-a c =
    subst (IsVectorWithin largest_short) (sym c.opposite.ensures) (opposite_vector_within largest_short (vector_of c.args.basis.now.a) c.requires.a)

turned : (v : Vector) → IsBackward v → ¬ IsBackward (opposite v)
unfolding multiple
turned v = go v.x v.y v.z
  where
    go : (x y z : ℤ) → IsBackward (record { x = x; y = y; z = z }) → ¬ IsBackward (record { x = negsuc 0 *ℤ x; y = negsuc 0 *ℤ y; z = negsuc 0 *ℤ z })
    go x y z (inl h) (inl k) = absurd (omega (arith, ints, h, k))
    go x y z (inl h) (inr (e, k)) = absurd (omega (arith, ints, h, e))
    go x y z (inr (e, h)) (inl k) = absurd (omega (arith, ints, e, k))
    go x y z (inr (e, inl h)) (inr (e', inl k)) = absurd (omega (arith, ints, h, k))
    go x y z (inr (e, inl h)) (inr (e', inr (d, k))) = absurd (omega (arith, ints, h, d))
    go x y z (inr (e, inr (d, h))) (inr (e', inl k)) = absurd (omega (arith, ints, d, k))
    go x y z (inr (e, inr (d, h))) (inr (e', inr (d', k))) = absurd (omega (arith, ints, h, k))

pub returns-then-is_backward-clause-forward : goal.returns-then-is_backward-clause-forward
returns-then-is_backward-clause-forward c =
    let back : IsBackward (vector_of c.args.basis.now.a) = c.is_backward.ensures.0 c.if-is_backward.true in
    subst (λ (v : Vector). ¬ IsBackward v) (sym c.opposite.ensures) (turned (vector_of c.args.basis.now.a) back)
