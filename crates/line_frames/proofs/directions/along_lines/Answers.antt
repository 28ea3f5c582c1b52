-- The multiples are as small as the indices make them.
use Rattle.std.proofs.Common.{ℕ, pos, List, [], ◌∷◌, lit≤, refl}
use Rattle.std.specs.Prelude.{unsigned_abs}
use Rattle.fractions.specs.declared.part.TheConstants.{UNIT}
use Rattle.integers.proofs.Coded.{code_is, code_within}
use Rattle.integers.proofs.Ring.{IsWithin-more}
use Rattle.integers.proofs.Solver.{Expr, Expr.{var, num, ◌⊝◌, ◌⊗◌}}
use Rattle.motions.specs.declared.miller.TheConstants.{INDEX}
use Rattle.symmetry.proofs.VectorLaws.{vector_path}
use Rattle.line_frames.proofs.directions.along_lines.Goals as goal

abbrev bounds : List ℕ
bounds = unsigned_abs UNIT ∷ unsigned_abs INDEX ∷ []

abbrev first : Expr
first = var 0 ⊗ var 1

abbrev second : Expr
second = var 0 ⊗ (num (pos 0) ⊝ var 1)

pub returns-clause-is : goal.returns-clause-is
returns-clause-is c =
    let r = c.args.plane.now in
    vector_path (code_is bounds (c.args.n ∷ r.k ∷ []) first tt (c.requires, (r.in_range.y, tt)))
    (code_is bounds (c.args.n ∷ r.h ∷ []) second tt (c.requires, (r.in_range.x, tt))) refl

pub returns-clause-small : goal.returns-clause-small
returns-clause-small c =
    let r = c.args.plane.now in record {
      x = IsWithin-more (code_within bounds (c.args.n ∷ r.k ∷ []) first tt (c.requires, (r.in_range.y, tt))) (lit≤ tt);
      y = IsWithin-more (code_within bounds (c.args.n ∷ r.h ∷ []) second tt (c.requires, (r.in_range.x, tt))) (lit≤ tt);
      z = record { most = lit≤ tt };
    }
