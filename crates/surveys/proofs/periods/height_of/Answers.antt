-- The indices are at most INDEX in size, and the entries at most UNIT.
use Rattle.std.proofs.Common.{ℕ, ℤ, List, [], ◌∷◌, arith, unsigned_abs}
use Rattle.std.proofs.lemmas.Int.{ints}
use Rattle.fractions.specs.declared.part.Part.{Part}
use Rattle.fractions.specs.declared.part.TheConstants.{UNIT}
use Rattle.integers.specs.Size.{IsWithin}
use Rattle.integers.proofs.Coded.{AllWithinBounds, code_fits, code_is}
use Rattle.integers.proofs.Solver.{Expr, Expr.{var, ◌⊕◌, ◌⊗◌}}
use Rattle.symmetry.specs.Vectors.{dot}
use Rattle.motions.specs.declared.miller.TheConstants.{INDEX}
use Rattle.motions.specs.declared.miller.Miller.{Miller}
use Rattle.motions.specs.Views.{part_at}
use Rattle.closure.specs.Residues.{IsResidue, IsResidueEntry}
use Rattle.surveys.proofs.periods.height_of.Goals as goal

abbrev bounds : List ℕ
bounds = unsigned_abs INDEX ∷ unsigned_abs INDEX ∷ unsigned_abs INDEX ∷ unsigned_abs UNIT ∷ unsigned_abs UNIT ∷ unsigned_abs UNIT ∷ []

abbrev numbers : Miller → List Part → List ℤ
numbers p v = p.h ∷ p.k ∷ p.l ∷ part_at v 0 ∷ part_at v 1 ∷ part_at v 2 ∷ []

abbrev two : Expr
two = var 0 ⊗ var 3 ⊕ var 1 ⊗ var 4

entry_within : (p : Part) → IsResidueEntry p → IsWithin (unsigned_abs UNIT) p.0
entry_within p h = record { most = omega (arith, ints, h.least, h.below) }

within : (p : Miller) (v : List Part) → IsResidue v → AllWithinBounds bounds (numbers p v)
within p v r = (p.in_range.x, (p.in_range.y, (p.in_range.z, (entry_within _ r.x, (entry_within _ r.y, (entry_within _ r.z, tt))))))

pub overflow_add-result : goal.overflow_add-result
overflow_add-result c = code_fits bounds (numbers c.args.plane.now c.args.v.now) two tt (within c.args.plane.now c.args.v.now c.requires)

pub overflow_mul-result-3 : goal.overflow_mul-result-3
overflow_mul-result-3 c = code_fits bounds (numbers c.args.plane.now c.args.v.now) (var 2 ⊗ var 5) tt (within c.args.plane.now c.args.v.now c.requires)

pub overflow_add-result-2 : goal.overflow_add-result-2
overflow_add-result-2 c = code_fits bounds (numbers c.args.plane.now c.args.v.now) (two ⊕ var 2 ⊗ var 5) tt (within c.args.plane.now c.args.v.now c.requires)

pub returns : goal.returns
unfolding dot
returns c = code_is bounds (numbers c.args.plane.now c.args.v.now) (two ⊕ var 2 ⊗ var 5) tt (within c.args.plane.now c.args.v.now c.requires)
