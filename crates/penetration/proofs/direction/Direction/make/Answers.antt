-- The indices that Miller's are.
use Rattle.std.proofs.Common.{rules, ◌≡◌, ℤ, sym, subst, FitsSigned, w64}
use Rattle.std.proofs.lemmas.Int.{to_z-of_z}
use Rattle.integers.proofs.Coded.{again}
use Rattle.symmetry.specs.Planes.{IsCoprime}
use Rattle.symmetry.specs.Sizes.{IsVectorWithin}
use Rattle.symmetry.specs.Vectors.{Vector}
use Rattle.symmetry.proofs.VectorLaws.{vector_path}
use Rattle.penetration.proofs.direction.Direction.make.Goals as goal

abbrev row : ℤ → ℤ → ℤ → Vector
row h k l = record { x = h; y = k; z = l }

passed : (h k l : ℤ) → FitsSigned w64 h → FitsSigned w64 k → FitsSigned w64 l
    → row (again h) (again k) (again l) ≡ row h k l
passed h k l p q r = vector_path (to_z-of_z w64 h p) (to_z-of_z w64 k q) (to_z-of_z w64 l r)

pub invariant_of-result : goal.invariant_of-result
invariant_of-result c =
    let m = c.in-Ok.indices in
    let p : FitsSigned w64 m.h = search rules in
    let q : FitsSigned w64 m.k = search rules in
    let r : FitsSigned w64 m.l = search rules in
    let is = passed m.h m.k m.l p q r in
    let Within : Vector → Type 0 = IsVectorWithin 255 in
    record { coprime = subst IsCoprime (sym is) m.coprime; in_range = subst Within (sym is) m.in_range }
