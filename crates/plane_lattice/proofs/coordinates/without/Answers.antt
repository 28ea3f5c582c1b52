-- Entry by entry.
use Rattle.std.proofs.Common.{◌≡◌, ◌^◌, ℤ, ◌+ℤ◌, ◌-ℤ◌, ◌*ℤ◌, negsuc, ◌∙◌, ap, lit<, sym, subst}
use Rattle.integers.specs.Size.{IsWithin}
use Rattle.integers.proofs.Ring.{neg_as_mul}
use Rattle.integers.proofs.Wide.{wide, wide_is}
use Rattle.symmetry.specs.Vectors.{plus, multiple}
use Rattle.symmetry.proofs.VectorLaws.{vector_path}
use Rattle.plane_lattice.specs.Bounds.{largest_combined}
use Rattle.plane_lattice.proofs.coordinates.without.Goals as goal

-- a number less a combination that was passed
module _ (t p s : ℤ) (small : IsWithin largest_combined p) (is : p ≡ s) where
  taken : t -ℤ wide p ≡ t +ℤ negsuc 0 *ℤ s
  taken = ap (λ z. t -ℤ z) (wide_is largest_combined p (lit< tt) small ∙ is) ∙ ap (λ z. t +ℤ z) (neg_as_mul s)

  rest_within : IsWithin (2 ^ 62) (t +ℤ negsuc 0 *ℤ s) → IsWithin (2 ^ 62) (t -ℤ wide p)
  rest_within h = let P : ℤ → Type 0 = IsWithin (2 ^ 62) in subst P (sym taken) h

pub difference-requires-clause-rest : goal.difference-requires-clause-rest
unfolding plus multiple
difference-requires-clause-rest c = rest_within _ c.combined.result _ c.combined.ensures.small c.combined.ensures.is c.requires.rest.x

pub difference-requires-2-clause-rest : goal.difference-requires-2-clause-rest
unfolding plus multiple
difference-requires-2-clause-rest c = rest_within _ c.combined-2.result _ c.combined-2.ensures.small c.combined-2.ensures.is c.requires.rest.y

pub difference-requires-3-clause-rest : goal.difference-requires-3-clause-rest
unfolding plus multiple
difference-requires-3-clause-rest c = rest_within _ c.combined-3.result _ c.combined-3.ensures.small c.combined-3.ensures.is c.requires.rest.z

pub returns : goal.returns
unfolding plus multiple
returns c =
    vector_path (c.difference.ensures ∙ taken _ c.combined.result _ c.combined.ensures.small c.combined.ensures.is)
    (c.difference-2.ensures ∙ taken _ c.combined-2.result _ c.combined-2.ensures.small c.combined-2.ensures.is)
    (c.difference-3.ensures ∙ taken _ c.combined-3.result _ c.combined-3.ensures.small c.combined-3.ensures.is)
