use Rattle.std.proofs.Common.{◌+ℤ◌, ◌*ℤ◌, [], ◌∷◌, ◌∙◌}
use Rattle.integers.proofs.Coded.{again}
use Rattle.integers.proofs.Solver.{Expr.{var, ◌⊕◌, ◌⊗◌}}
use Rattle.integers.proofs.Wide.{code_fits, code_is, code_within}
use Rattle.symmetry.specs.Vectors.{dot}
use Rattle.motions.specs.Views.{vector_of}
use Rattle.reduction.specs.Bounds.{largest_along, largest_short}
use Rattle.reduction.proofs.FormPassed.{short_again_within, short_again}
use Rattle.reduction.proofs.form.value_at.Goals as goal

pub overflow_mul-result : goal.overflow_mul-result
overflow_mul-result c = code_fits (largest_short ∷ largest_along ∷ []) (again (vector_of c.args.u.now).x ∷ c.along.result ∷ []) (var 0 ⊗ var 1) tt (short_again_within (vector_of c.args.u.now).x c.requires.u.x, (c.along.ensures.small, (tt)))

pub overflow_mul-result-2 : goal.overflow_mul-result-2
overflow_mul-result-2 c = code_fits (largest_short ∷ largest_short ∷ largest_along ∷ largest_along ∷ []) (again (vector_of c.args.u.now).x ∷ again (vector_of c.args.u.now).y ∷ c.along.result ∷ c.along-2.result ∷ []) (var 1 ⊗ var 3) tt (short_again_within (vector_of c.args.u.now).x c.requires.u.x, (short_again_within (vector_of c.args.u.now).y c.requires.u.y, (c.along.ensures.small, (c.along-2.ensures.small, (tt)))))

pub overflow_mul-result-3 : goal.overflow_mul-result-3
overflow_mul-result-3 c = code_fits (largest_short ∷ largest_short ∷ largest_short ∷ largest_along ∷ largest_along ∷ largest_along ∷ []) (again (vector_of c.args.u.now).x ∷ again (vector_of c.args.u.now).y ∷ again (vector_of c.args.u.now).z ∷ c.along.result ∷ c.along-2.result ∷ c.along-3.result ∷ []) (var 2 ⊗ var 5) tt (short_again_within (vector_of c.args.u.now).x c.requires.u.x, (short_again_within (vector_of c.args.u.now).y c.requires.u.y, (short_again_within (vector_of c.args.u.now).z c.requires.u.z, (c.along.ensures.small, (c.along-2.ensures.small, (c.along-3.ensures.small, (tt)))))))

pub overflow_add-result : goal.overflow_add-result
overflow_add-result c = code_fits (largest_short ∷ largest_short ∷ largest_along ∷ largest_along ∷ []) (again (vector_of c.args.u.now).x ∷ again (vector_of c.args.u.now).y ∷ c.along.result ∷ c.along-2.result ∷ []) (var 0 ⊗ var 2 ⊕ var 1 ⊗ var 3) tt (short_again_within (vector_of c.args.u.now).x c.requires.u.x, (short_again_within (vector_of c.args.u.now).y c.requires.u.y, (c.along.ensures.small, (c.along-2.ensures.small, (tt)))))

pub overflow_add-result-2 : goal.overflow_add-result-2
overflow_add-result-2 c = code_fits (largest_short ∷ largest_short ∷ largest_short ∷ largest_along ∷ largest_along ∷ largest_along ∷ []) (again (vector_of c.args.u.now).x ∷ again (vector_of c.args.u.now).y ∷ again (vector_of c.args.u.now).z ∷ c.along.result ∷ c.along-2.result ∷ c.along-3.result ∷ []) (var 0 ⊗ var 3 ⊕ var 1 ⊗ var 4 ⊕ var 2 ⊗ var 5) tt (short_again_within (vector_of c.args.u.now).x c.requires.u.x, (short_again_within (vector_of c.args.u.now).y c.requires.u.y, (short_again_within (vector_of c.args.u.now).z c.requires.u.z, (c.along.ensures.small, (c.along-2.ensures.small, (c.along-3.ensures.small, (tt)))))))

pub returns : goal.returns
unfolding dot
returns c = record {
  is = code_is (largest_short ∷ largest_short ∷ largest_short ∷ largest_along ∷ largest_along ∷ largest_along ∷ []) (again (vector_of c.args.u.now).x ∷ again (vector_of c.args.u.now).y ∷ again (vector_of c.args.u.now).z ∷ c.along.result ∷ c.along-2.result ∷ c.along-3.result ∷ []) (var 0 ⊗ var 3 ⊕ var 1 ⊗ var 4 ⊕ var 2 ⊗ var 5) tt (short_again_within (vector_of c.args.u.now).x c.requires.u.x, (short_again_within (vector_of c.args.u.now).y c.requires.u.y, (short_again_within (vector_of c.args.u.now).z c.requires.u.z, (c.along.ensures.small, (c.along-2.ensures.small, (c.along-3.ensures.small, (tt)))))))
      ∙ (λ i. short_again (vector_of c.args.u.now).x c.requires.u.x i *ℤ c.along.ensures.is i +ℤ short_again (vector_of c.args.u.now).y c.requires.u.y i *ℤ c.along-2.ensures.is i +ℤ short_again (vector_of c.args.u.now).z c.requires.u.z i *ℤ c.along-3.ensures.is i);
  small = code_within (largest_short ∷ largest_short ∷ largest_short ∷ largest_along ∷ largest_along ∷ largest_along ∷ []) (again (vector_of c.args.u.now).x ∷ again (vector_of c.args.u.now).y ∷ again (vector_of c.args.u.now).z ∷ c.along.result ∷ c.along-2.result ∷ c.along-3.result ∷ []) (var 0 ⊗ var 3 ⊕ var 1 ⊗ var 4 ⊕ var 2 ⊗ var 5) tt (short_again_within (vector_of c.args.u.now).x c.requires.u.x, (short_again_within (vector_of c.args.u.now).y c.requires.u.y, (short_again_within (vector_of c.args.u.now).z c.requires.u.z, (c.along.ensures.small, (c.along-2.ensures.small, (c.along-3.ensures.small, (tt)))))));
}
