use Rattle.std.proofs.Common.{ℕ, ◌+ℤ◌, ◌*ℤ◌, List, [], ◌∷◌, ◌∙◌}
use Rattle.integers.proofs.Coded.{again}
use Rattle.integers.proofs.Solver.{Expr, Expr.{var, ◌⊕◌, ◌⊗◌}}
use Rattle.integers.proofs.Wide.{code_fits, code_is, code_within}
use Rattle.symmetry.specs.Vectors.{dot}
use Rattle.motions.specs.Views.{vector_of}
use Rattle.reduction.specs.Bounds.{largest_form, largest_short}
use Rattle.reduction.proofs.FormPassed.{form_within, form_again, short_again_within, short_again}
use Rattle.reduction.proofs.form.along.Goals as goal

abbrev bounds : List ℕ
bounds = largest_form ∷ largest_form ∷ largest_form ∷ largest_short ∷ largest_short ∷ largest_short ∷ []

abbrev two : Expr
two = var 0 ⊗ var 3 ⊕ var 1 ⊗ var 4

abbrev whole : Expr
whole = two ⊕ var 2 ⊗ var 5

pub overflow_add-result : goal.overflow_add-result
overflow_add-result c = code_fits bounds (again (vector_of c.args.row.now).x ∷ again (vector_of c.args.row.now).y ∷ again (vector_of c.args.row.now).z ∷ again (vector_of c.args.v.now).x ∷ again (vector_of c.args.v.now).y ∷ again (vector_of c.args.v.now).z ∷ []) two tt (form_within (vector_of c.args.row.now).x c.requires.row.x, (form_within (vector_of c.args.row.now).y c.requires.row.y, (form_within (vector_of c.args.row.now).z c.requires.row.z, (short_again_within (vector_of c.args.v.now).x c.requires.v.x, (short_again_within (vector_of c.args.v.now).y c.requires.v.y, (short_again_within (vector_of c.args.v.now).z c.requires.v.z, (tt)))))))

pub overflow_add-result-2 : goal.overflow_add-result-2
overflow_add-result-2 c = code_fits bounds (again (vector_of c.args.row.now).x ∷ again (vector_of c.args.row.now).y ∷ again (vector_of c.args.row.now).z ∷ again (vector_of c.args.v.now).x ∷ again (vector_of c.args.v.now).y ∷ again (vector_of c.args.v.now).z ∷ []) whole tt (form_within (vector_of c.args.row.now).x c.requires.row.x, (form_within (vector_of c.args.row.now).y c.requires.row.y, (form_within (vector_of c.args.row.now).z c.requires.row.z, (short_again_within (vector_of c.args.v.now).x c.requires.v.x, (short_again_within (vector_of c.args.v.now).y c.requires.v.y, (short_again_within (vector_of c.args.v.now).z c.requires.v.z, (tt)))))))

pub returns : goal.returns
unfolding dot
returns c = record {
  is = code_is bounds (again (vector_of c.args.row.now).x ∷ again (vector_of c.args.row.now).y ∷ again (vector_of c.args.row.now).z ∷ again (vector_of c.args.v.now).x ∷ again (vector_of c.args.v.now).y ∷ again (vector_of c.args.v.now).z ∷ []) whole tt (form_within (vector_of c.args.row.now).x c.requires.row.x, (form_within (vector_of c.args.row.now).y c.requires.row.y, (form_within (vector_of c.args.row.now).z c.requires.row.z, (short_again_within (vector_of c.args.v.now).x c.requires.v.x, (short_again_within (vector_of c.args.v.now).y c.requires.v.y, (short_again_within (vector_of c.args.v.now).z c.requires.v.z, (tt)))))))
      ∙ (λ i. form_again (vector_of c.args.row.now).x c.requires.row.x i *ℤ short_again (vector_of c.args.v.now).x c.requires.v.x i +ℤ form_again (vector_of c.args.row.now).y c.requires.row.y i *ℤ short_again (vector_of c.args.v.now).y c.requires.v.y i +ℤ form_again (vector_of c.args.row.now).z c.requires.row.z i *ℤ short_again (vector_of c.args.v.now).z c.requires.v.z i);
  small = code_within bounds (again (vector_of c.args.row.now).x ∷ again (vector_of c.args.row.now).y ∷ again (vector_of c.args.row.now).z ∷ again (vector_of c.args.v.now).x ∷ again (vector_of c.args.v.now).y ∷ again (vector_of c.args.v.now).z ∷ []) whole tt (form_within (vector_of c.args.row.now).x c.requires.row.x, (form_within (vector_of c.args.row.now).y c.requires.row.y, (form_within (vector_of c.args.row.now).z c.requires.row.z, (short_again_within (vector_of c.args.v.now).x c.requires.v.x, (short_again_within (vector_of c.args.v.now).y c.requires.v.y, (short_again_within (vector_of c.args.v.now).z c.requires.v.z, (tt)))))));
}
