-- What is generated with sums of cell edges and centring vectors is generated with these and their opposites alone.
use Rattle.std.proofs.Common.{◌≡◌, ◌↔◌, ◌⊎◌, inl, inr, refl, sym, subst}
use Rattle.quotient.specs.Closure.{IsProduct}
use Rattle.quotient.specs.Closure.IsFactor.{generator, inverse, shift}
use Rattle.quotient.specs.Closure.IsProduct.{empty, further}
use Rattle.symmetry.specs.Vectors.{Vector, opposite}
use Rattle.symmetry.specs.Motions.{Motion, followed_by, translation}
use Rattle.symmetry.specs.Groups.{Listing, Generates, IsInLattice, zero_vector, added, subtracted}
use Rattle.symmetry.proofs.MotionLaws.{motion_path, followed_by-assoc, followed_by-identity, followed_by-translation}
use Rattle.symmetry.proofs.LatticeLaws.{lattice-made, lattice-opposite}
use Rattle.quotient.proofs.ListLaws.{nothing_contained}
use Rattle.closure.specs.Fineness.{centrings_alone}
use Rattle.closure.specs.Generated.{generating_kind, IsGenerated, single_kind, IsEdgeOrCentring}

module _ (g : Listing) where
  abbrev Single : Motion → Type 0
  Single = IsProduct (single_kind g) g.ops

  single_products : (m n : Motion) → Single m → Single n → Single (followed_by m n)
  single_products m _ p empty = subst Single (sym (followed_by-identity m)) p
  single_products m _ p (further n f q x) = subst Single (followed_by-assoc m n f) (further (followed_by m n) f (single_products m n p q) x)

  made_by : (v : Vector) → Generates (centrings_alone g.centrings) v → IsEdgeOrCentring g v
  made_by v (inl edge) = inl edge
  made_by v (inr (inl is)) = inr is
  made_by v (inr (inr none)) = absurd (nothing_contained (translation v) none)

  made_in : (v : Vector) → IsEdgeOrCentring g v → IsInLattice (centrings_alone g.centrings) v
  made_in v (inl edge) = lattice-made (centrings_alone g.centrings) v (inl edge)
  made_in v (inr is) = lattice-made (centrings_alone g.centrings) v (inr (inl is))

  by_lattice : (v : Vector) → IsInLattice (centrings_alone g.centrings) v → Single (translation v)
  by_lattice _ zero_vector = empty
  by_lattice _ (added t v k made) =
      subst Single (followed_by-translation (translation t) v)
      (further (translation t) (translation v) (by_lattice t k) (shift (v, made_by v made, inl refl)))
  by_lattice _ (subtracted t v k made) =
      subst Single (followed_by-translation (translation t) (opposite v))
      (further (translation t) (translation (opposite v)) (by_lattice t k) (shift (v, made_by v made, inr refl)))

  to_single : (m : Motion) → IsGenerated g m → Single m
  to_single _ empty = empty
  to_single _ (further l f p (generator c)) = further l f (to_single l p) (generator c)
  to_single _ (further l f p (inverse k c i)) = further l f (to_single l p) (inverse k c (record { after = i.after; before = i.before }))
  to_single _ (further l f p (shift (e, h))) =
      let f_is : f ≡ translation f.translation = motion_path e refl in
      single_products l f (to_single l p) (subst Single (sym f_is) (by_lattice f.translation h))

  shift_in : (f : Motion) (v : Vector) → IsEdgeOrCentring g v → (f ≡ translation v) ⊎ (f ≡ translation (opposite v)) → (generating_kind g).IsShift f
  shift_in f v made (inl e) = subst (generating_kind g).IsShift (sym e) (refl, made_in v made)
  shift_in f v made (inr e) = subst (generating_kind g).IsShift (sym e) (refl, lattice-opposite (centrings_alone g.centrings) v (made_in v made))

  from_single : (m : Motion) → Single m → IsGenerated g m
  from_single _ empty = empty
  from_single _ (further l f p (generator c)) = further l f (from_single l p) (generator c)
  from_single _ (further l f p (inverse k c i)) = further l f (from_single l p) (inverse k c (record { after = i.after; before = i.before }))
  from_single _ (further l f p (shift (v, made, e))) = further l f (from_single l p) (shift (shift_in f v made e))

  pub by_single_shifts : (m : Motion) → IsGenerated g m ↔ Single m
  by_single_shifts m = (to_single m, from_single m)
