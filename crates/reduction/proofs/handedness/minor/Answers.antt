-- The bounds of the entries bound each step.
use Rattle.std.proofs.Common.{ℕ, ℤ, ◌-ℤ◌, ◌*ℤ◌, List, [], ◌∷◌, ◌∙◌}
use Rattle.integers.proofs.Coded.{again, AllWithinBounds}
use Rattle.integers.proofs.Solver.{Expr, Expr.{var, ◌⊝◌, ◌⊗◌}}
use Rattle.integers.proofs.Wide.{code_fits, code_is, code_within}
use Rattle.reduction.specs.Bounds.{largest_short}
use Rattle.reduction.proofs.FormPassed.{short_again, short_again_within}
use Rattle.reduction.proofs.handedness.minor.Goals as goal

abbrev bounds : List ℕ
bounds = largest_short ∷ largest_short ∷ largest_short ∷ largest_short ∷ []

abbrev whole : Expr
whole = var 0 ⊗ var 3 ⊝ var 1 ⊗ var 2

pub overflow_sub-result : goal.overflow_sub-result
overflow_sub-result c =
    code_fits bounds (again c.args.a ∷ again c.args.b ∷ again c.args.c ∷ again c.args.d ∷ []) whole tt
    (short_again_within c.args.a c.requires.a, (short_again_within c.args.b c.requires.b, (short_again_within c.args.c c.requires.c, (short_again_within c.args.d c.requires.d, tt))))

pub returns : goal.returns
returns c =
    let e : List ℤ = again c.args.a ∷ again c.args.b ∷ again c.args.c ∷ again c.args.d ∷ [] in
    let h : AllWithinBounds bounds e =
    (short_again_within c.args.a c.requires.a, (short_again_within c.args.b c.requires.b, (short_again_within c.args.c c.requires.c, (short_again_within c.args.d c.requires.d, tt)))) in
    record {
      is = code_is bounds e whole tt h
          ∙ (λ i. short_again c.args.a c.requires.a i *ℤ short_again c.args.d c.requires.d i -ℤ short_again c.args.b c.requires.b i *ℤ short_again c.args.c c.requires.c i);
      small = code_within bounds e whole tt h;
    }
