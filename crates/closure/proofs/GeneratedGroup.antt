-- What operations with invertible matrices generate is a group, and its translations are a lattice that it keeps.
use Rattle.std.proofs.Common.{◌≡◌, refl, sym, ap, subst, ◌∙◌}
use Rattle.quotient.specs.Closure.{IsFactor}
use Rattle.quotient.specs.Closure.IsFactor.{generator, inverse, shift}
use Rattle.quotient.specs.Closure.IsProduct.{empty, further}
use Rattle.symmetry.specs.Vectors.{Vector, origin, plus, minus, opposite, image}
use Rattle.symmetry.specs.Motions.{Motion, followed_by, identity, translation}
use Rattle.symmetry.specs.Groups.{Listing, Generates, IsInLattice, zero_vector, added, subtracted}
use Rattle.symmetry.proofs.VectorLaws.{plus_comm, minus-plus, minus-same, opposite-minus, opposite-plus_same, origin-plus}
use Rattle.symmetry.proofs.MatrixLaws.{product-unit_right}
use Rattle.symmetry.proofs.MotionLaws.{motion_path, followed_by-assoc, followed_by-identity, identity-followed_by, inverse_by, followed_by-inverse_by, inverse_by-followed_by, followed_by-translation}
use Rattle.symmetry.proofs.LatticeLaws.{lattice-opposite}
use Rattle.closure.specs.Residues.{residue, IsWhole}
use Rattle.closure.specs.Laws.ResidueLaws.{whole-minus_residue, whole-opposite}
use Rattle.closure.proofs.Spans.{lattice-whole}
use Rattle.closure.specs.Fineness.{centrings_alone}
use Rattle.closure.specs.Generated.{generating_kind, IsGenerated, InGeneratedLattice, AllInvertible}
use Rattle.closure.proofs.GeneratedLemma.{generated_products}

translations : (v w : Vector) → followed_by (translation v) (translation w) ≡ translation (plus v w)
translations v w = followed_by-translation (translation v) w

module _ (g : Listing) where
  factor_generated : (f : Motion) → IsFactor (generating_kind g) g.ops f → IsGenerated g f
  factor_generated f x = subst (IsGenerated g) (identity-followed_by f) (further identity f empty x)

  -- the translations by sums of cell edges and centring vectors
  pub generated_shift : (v : Vector) → IsInLattice (centrings_alone g.centrings) v → InGeneratedLattice g v
  generated_shift v h = factor_generated (translation v) (shift (refl, h))

  pub in_generated_origin : InGeneratedLattice g origin
  in_generated_origin = empty

  pub in_generated_plus : (v w : Vector) → InGeneratedLattice g v → InGeneratedLattice g w → InGeneratedLattice g (plus v w)
  in_generated_plus v w p q = subst (IsGenerated g) (translations v w) (generated_products g (translation v) (translation w) p q)

  -- whole edges are in L
  pub in_generated_residue : (v : Vector) → InGeneratedLattice g v → InGeneratedLattice g (residue v)
  in_generated_residue v h =
      let w : Vector = minus (residue v) v in
      let whole : IsWhole w = subst IsWhole (opposite-minus v (residue v)) (whole-opposite (minus v (residue v)) (whole-minus_residue v)) in
      subst (InGeneratedLattice g) (minus-plus (residue v) v)
      (in_generated_plus w v (generated_shift w (lattice-whole (centrings_alone g.centrings) w whole)) h)

  module _ (invertible : AllInvertible g) where
    abbrev Undone : Motion → Type 0
    Undone m = (n : Motion) × IsGenerated g n × (followed_by m n ≡ identity) × (followed_by n m ≡ identity)

    factor_undone : (f : Motion) → IsFactor (generating_kind g) g.ops f → Undone f
    factor_undone f (generator is) =
        let (w, left, right) = invertible f is in
        let n = inverse_by w f in
        let after = followed_by-inverse_by w f left in
        let before = inverse_by-followed_by w f right in
        (n, factor_generated n (inverse f is (record { after = after; before = before })), after, before)
    factor_undone f (inverse k is back) = (k, factor_generated k (generator is), back.before, back.after)
    factor_undone f (shift (e, h)) =
        let n = translation (opposite f.translation) in
        let f_is : f ≡ translation f.translation = motion_path e refl in (
          n,
          generated_shift (opposite f.translation) (lattice-opposite (centrings_alone g.centrings) f.translation h),
          ap (λ k. followed_by k n) f_is ∙ translations f.translation (opposite f.translation) ∙ ap translation (minus-same f.translation),
          ap (followed_by n) f_is ∙ translations (opposite f.translation) f.translation ∙ ap translation (opposite-plus_same f.translation),
        )

    -- each member has an inverse on both sides
    pub generated_inverse : (m : Motion) → IsGenerated g m → Undone m
    generated_inverse _ empty = (identity, empty, followed_by-identity identity, followed_by-identity identity)
    generated_inverse _ (further l f p x) =
        let (a, in_a, after_a, before_a) = generated_inverse l p in
        let (b, in_b, after_b, before_b) = factor_undone f x in (
          followed_by b a,
          generated_products g b a in_b in_a,
          sym (followed_by-assoc (followed_by l f) b a)
              ∙ ap (λ k. followed_by k a) (followed_by-assoc l f b ∙ ap (followed_by l) after_b ∙ followed_by-identity l) ∙ after_a,
          sym (followed_by-assoc (followed_by b a) l f)
              ∙ ap (λ k. followed_by k f) (followed_by-assoc b a l ∙ ap (followed_by b) before_a ∙ followed_by-identity b) ∙ before_b,
        )

    -- two members with one matrix differ by a vector of L
    pub difference_generated : (p n : Motion) → IsGenerated g p → IsGenerated g n → p.matrix ≡ n.matrix → InGeneratedLattice g (minus p.translation n.translation)
    difference_generated p n in_p in_n e =
        let v = minus p.translation n.translation in
        let (a, in_a, after, before) = generated_inverse n in_n in
        let p_is : followed_by n (translation v) ≡ p =
        followed_by-translation n v ∙ motion_path (sym e) (plus_comm n.translation v ∙ minus-plus p.translation n.translation) in
        subst (IsGenerated g)
        (ap (followed_by a) (sym p_is) ∙ sym (followed_by-assoc a n (translation v)) ∙ ap (λ k. followed_by k (translation v)) before ∙ identity-followed_by (translation v))
        (generated_products g a p in_a in_p)

    pub in_generated_opposite : (v : Vector) → InGeneratedLattice g v → InGeneratedLattice g (opposite v)
    in_generated_opposite v h = subst (InGeneratedLattice g) (origin-plus (opposite v)) (difference_generated identity (translation v) empty h refl)

    -- the matrix of a member takes L into itself
    pub image_generated : (m : Motion) (v : Vector) → IsGenerated g m → InGeneratedLattice g v → InGeneratedLattice g (image m.matrix v)
    image_generated m v in_m in_v =
        let moved : followed_by (translation v) m ≡ followed_by m (translation (image m.matrix v)) =
        motion_path (product-unit_right m.matrix) (plus_comm (image m.matrix v) m.translation) ∙ sym (followed_by-translation m (image m.matrix v)) in
        let (a, in_a, after, before) = generated_inverse m in_m in
        subst (IsGenerated g)
        (ap (followed_by a) moved ∙ sym (followed_by-assoc a m (translation (image m.matrix v)))
        ∙ ap (λ k. followed_by k (translation (image m.matrix v))) before ∙ identity-followed_by (translation (image m.matrix v)))
        (generated_products g a (followed_by (translation v) m) in_a (generated_products g (translation v) m in_v in_m))

    -- what vectors of L make is in L
    pub made_generated : (h : Listing) → ((v : Vector) → Generates h v → InGeneratedLattice g v) → (v : Vector) → IsInLattice h v → InGeneratedLattice g v
    made_generated h makes _ zero_vector = in_generated_origin
    made_generated h makes _ (added t v k made) = in_generated_plus t v (made_generated h makes t k) (makes v made)
    made_generated h makes _ (subtracted t v k made) = in_generated_plus t (opposite v) (made_generated h makes t k) (in_generated_opposite v (makes v made))
