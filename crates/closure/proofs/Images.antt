-- Residues that matrices take to listed ones.
use Rattle.std.proofs.Common.{◌≡◌, ◌∙◌, Bool, true, false, sym, ap, subst, List, [], ◌∷◌, ◌++◌, map}
use Rattle.std.specs.Prelude.{All, Contains}
use Rattle.std.proofs.lemmas.List.Elements.{All-contains, All-push, All-weaker}
use Rattle.fractions.specs.declared.part.Part.{Part}
use Rattle.symmetry.specs.Vectors.{Vector, image}
use Rattle.symmetry.specs.Motions.{Motion, followed_by}
use Rattle.symmetry.specs.Groups.{Listing}
use Rattle.motions.specs.Views.{parts}
use Rattle.closure.specs.Residues.{residue, has_residue, IsResidue}
use Rattle.closure.specs.Laws.ResidueLaws.{residue-residue, has_residue-is, has_residue-false}
use Rattle.closure.specs.Generated.{IsGenerated, InGeneratedLattice, AllInvertible}
use Rattle.closure.specs.Searches.{IsMoved, IsMoreThan, HasSame}
use Rattle.closure.proofs.GeneratedGroup.{image_generated, in_generated_residue}

module _ (rs : List Vector) (m : Motion) (r a : Vector) (v : List Part) (a_is : a ≡ image m.matrix r) (v_is : parts v ≡ residue a) (b : Bool) (test : b ≡ has_residue rs (parts v)) where
  pub moved_here : Contains rs r → IsResidue v → b ≡ false → IsMoved rs m v
  moved_here is reduced f = record {
    reduced = reduced;
    outside = has_residue-false rs (parts v) (sym test ∙ f);
    from = r;
    listed = is;
    is = v_is ∙ ap residue a_is;
  }

  pub kept_here : b ≡ true → Contains rs (residue (image m.matrix r))
  kept_here t =
      subst (Contains rs) (ap residue v_is ∙ residue-residue a ∙ ap residue a_is) ((has_residue-is rs (parts v)).0 (sym test ∙ t))

-- some motion of the list takes a residue to v
abbrev pub MovesTo : List Motion → List (List Part) → List Part → Type 0
MovesTo list now v = (m : Motion) × Contains list m × IsMoved (map parts now) m v

-- where a member takes a residue of L is in L
pub moved_inside : (g : Listing) → AllInvertible g → (items : List (List Part)) → All (InGeneratedLattice g) (map parts items) → (now : List (List Part)) → now ≡ items
    → (list : List Motion) → All (IsGenerated g) list → (v : List Part) → MovesTo list now v → InGeneratedLattice g (parts v)
moved_inside g invertible items inside now read list all v (m, is, moved) =
    let here : IsMoved (map parts items) m v = subst (λ (l : List (List Part)). IsMoved (map parts l) m v) read moved in
    subst (InGeneratedLattice g) (sym here.is)
    (in_generated_residue g (image m.matrix here.from)
    (image_generated g invertible m here.from (All-contains (IsGenerated g) list m all is) (All-contains (InGeneratedLattice g) (map parts items) here.from inside here.listed)))

pub moved_outside : (list : List Motion) (items now : List (List Part)) → now ≡ items → (v : List Part) → MovesTo list now v → ¬ Contains (map parts items) (residue (parts v))
moved_outside list items now read v (m, is, moved) = subst (λ (l : List (List Part)). ¬ Contains (map parts l) (residue (parts v))) read moved.outside

-- ---- what grows with a lattice

pub more_then : (old mid new : List Vector) → IsMoreThan old mid → IsMoreThan mid new → IsMoreThan old new
more_then old mid new p q v h = q v (p v h)

pub still_same : (list : List Motion) (old new : List Vector) → IsMoreThan old new → (p : Motion) → HasSame list old p → HasSame list new p
still_same list old new more p (n, is, same) = (n, is, record { matrix = same.matrix; translation = more _ same.translation })

-- one more listed operation
pub same_more : (list : List Motion) (old new : List Vector) → IsMoreThan old new → (m : Motion) (done : List Motion) (k : Motion)
    → All (λ k. HasSame list old (followed_by m k)) done → HasSame list new (followed_by m k) → All (λ k. HasSame list new (followed_by m k)) (done ++ k ∷ [])
same_more list old new more m done k all here =
    All-push (λ k. HasSame list new (followed_by m k)) done k
    (All-weaker (λ k. HasSame list old (followed_by m k)) (λ k. HasSame list new (followed_by m k)) (λ k. still_same list old new more (followed_by m k)) done all) here
