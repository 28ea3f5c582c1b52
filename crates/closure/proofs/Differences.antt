-- What products differ by from the listed motions with their matrices.
use Rattle.std.proofs.Common.{◌≡◌, ◌^◌, ◌-ℤ◌, arith, sym, ap, subst, ◌∙◌, List}
use Rattle.std.specs.Prelude.{All}
use Rattle.std.proofs.lemmas.Int.{ints}
use Rattle.std.proofs.lemmas.List.Elements.{All-contains}
use Rattle.fractions.specs.declared.part.Part.{Part}
use Rattle.symmetry.specs.Vectors.{Vector, plus, minus, multiple}
use Rattle.symmetry.specs.Motions.{Motion, followed_by}
use Rattle.symmetry.specs.Groups.{Listing, IsInLattice}
use Rattle.symmetry.specs.Sizes.{IsSmall, IsVectorWithin}
use Rattle.symmetry.proofs.VectorLaws.{vector_path}
use Rattle.motions.specs.Laws.MotionLaws.{followed_by_within}
use Rattle.motions.specs.Views.{parts}
use Rattle.closure.specs.Residues.{residue}
use Rattle.closure.specs.Laws.ResidueLaws.{residue-residue}
use Rattle.closure.specs.Fineness.{centrings_alone}
use Rattle.closure.specs.Generated.{IsGenerated, InGeneratedLattice, AllInvertible}
use Rattle.closure.specs.Searches.{IsDifference, HasSame}
use Rattle.closure.proofs.Spans.{lattice-by_residue}
use Rattle.closure.proofs.GeneratedGroup.{difference_generated, in_generated_residue}

pub difference_path : (v w u : Vector) → u.x ≡ v.x -ℤ w.x → u.y ≡ v.y -ℤ w.y → u.z ≡ v.z -ℤ w.z → u ≡ minus v w
unfolding plus multiple
difference_path v w u p q r = vector_path (omega (arith, ints)) (omega (arith, ints)) (omega (arith, ints))

pub product_small : (m k p : Motion) → IsSmall m → IsSmall k → p ≡ followed_by m k → IsVectorWithin (2 ^ 52) p.translation
product_small m k p h i e = subst (λ (n : Motion). IsVectorWithin (2 ^ 52) n.translation) (sym e) (followed_by_within m k h i)

module _ (list : List Motion) (p : Motion) (v : List Part) (d : IsDifference list p v) where
  pub difference_same : (rs : List Vector) → IsInLattice (centrings_alone rs) (parts v) → HasSame list rs p
  difference_same rs h = (
    d.of,
    d.listed,
    record {
      matrix = d.matrix;
      translation = lattice-by_residue (centrings_alone rs) (minus p.translation d.of.translation) (parts v) (sym (ap residue d.is ∙ residue-residue (minus p.translation d.of.translation))) h;
    },
  )

  pub difference_inside : (g : Listing) → AllInvertible g → All (IsGenerated g) list → IsGenerated g p → InGeneratedLattice g (parts v)
  difference_inside g invertible all in_p =
      subst (InGeneratedLattice g) (sym d.is)
      (in_generated_residue g (minus p.translation d.of.translation) (difference_generated g invertible p d.of in_p (All-contains (IsGenerated g) list d.of all d.listed) d.matrix))
