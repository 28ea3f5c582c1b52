-- Entry by entry.
use Rattle.std.proofs.Common.{◌≡◌, ℤ, pos, negsuc, ◌-ℤ◌, ◌*ℤ◌, [], ◌∷◌, ◌∙◌, arith}
use Rattle.std.proofs.lemmas.Int.{ints}
use Rattle.integers.specs.Size.{IsWithin}
use Rattle.integers.proofs.Coded.{again, code_is}
use Rattle.integers.proofs.Solver.{Expr.{var, num, ◌⊝◌}}
use Rattle.symmetry.specs.Vectors.{multiple}
use Rattle.symmetry.proofs.VectorLaws.{vector_path}
use Rattle.motions.specs.Views.{parts}
use Rattle.plane_lattice.specs.Bounds.{largest_turned}
use Rattle.line_frames.proofs.means.opposite.Goals as goal

turned : (x : ℤ) → IsWithin largest_turned x → again (pos 0 -ℤ again x) ≡ negsuc 0 *ℤ x
turned x h = code_is (largest_turned ∷ []) (x ∷ []) (num (pos 0) ⊝ var 0) tt (h, tt) ∙ omega (arith, ints)

pub returns-clause-is : goal.returns-clause-is
unfolding multiple
returns-clause-is c =
    let v = parts c.args.v.now in
    vector_path (turned v.x c.requires.x) (turned v.y c.requires.y) (turned v.z c.requires.z)
