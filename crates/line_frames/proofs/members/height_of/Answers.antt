-- The bounds of the indices and the entries bound the sum.
use Rattle.std.proofs.Common.{◌≡◌, ℕ, ℤ, pos, ◌+ℤ◌, ◌*ℤ◌, List, [], ◌∷◌, sym, ◌∙◌, arith}
use Rattle.std.specs.Prelude.{unsigned_abs}
use Rattle.std.proofs.lemmas.Int.{ints}
use Rattle.integers.proofs.Coded.{code_fits, code_is, AllWithinBounds}
use Rattle.integers.proofs.Solver.{Expr, Expr.{var, ◌⊕◌, ◌⊗◌}}
use Rattle.motions.specs.declared.miller.TheConstants.{INDEX}
use Rattle.motions.specs.declared.miller.Miller.{Miller}
use Rattle.motions.specs.Views.{parts}
use Rattle.symmetry.specs.Sizes.{IsVectorWithin}
use Rattle.symmetry.specs.Vectors.{Vector, dot}
use Rattle.plane_lattice.specs.Bounds.{largest_entry}
use Rattle.line_frames.proofs.members.height_of.Goals as goal

abbrev bounds : List ℕ
bounds = unsigned_abs INDEX ∷ unsigned_abs INDEX ∷ largest_entry ∷ largest_entry ∷ []

abbrev sum : Expr
sum = var 0 ⊗ var 2 ⊕ var 1 ⊗ var 3

abbrev entries : Miller → Vector → List ℤ
entries r v = r.h ∷ r.k ∷ v.x ∷ v.y ∷ []

within : (r : Miller) (v : Vector) → IsVectorWithin largest_entry v → AllWithinBounds bounds (entries r v)
within r v h = (r.in_range.x, (r.in_range.y, (h.x, (h.y, tt))))

pub overflow_add-result : goal.overflow_add-result
overflow_add-result c = let r = c.args.plane.now in let v = parts c.args.v.now in code_fits bounds (entries r v) sum tt (within r v c.requires.vector)

pub returns : goal.returns
unfolding dot
returns c =
    let r = c.args.plane.now in
    let v = parts c.args.v.now in
    code_is bounds (entries r v) sum tt (within r v c.requires.vector) ∙ sym ((λ i. r.h *ℤ v.x +ℤ r.k *ℤ v.y +ℤ c.requires.line i *ℤ v.z) ∙ none (r.h *ℤ v.x +ℤ r.k *ℤ v.y) v.z)
  where
    none : (x z : ℤ) → x +ℤ pos 0 *ℤ z ≡ x
    none x z = omega (arith, ints)
