-- Coprime rows.
use Rattle.std.proofs.Common.{◌≡◌, ℤ, pos, negsuc, ◌+ℤ◌, ◌*ℤ◌, sym, ◌∙◌, ap, subst, arith}
use Rattle.std.proofs.Math.Nat.{eq-one_of_dvd-one}
use Rattle.std.proofs.lemmas.Int.{ints}
use Rattle.integers.specs.Size.{Divides}
use Rattle.integers.proofs.Ring.{mul_one}
use Rattle.integers.proofs.Divisors.{bezout, Divides-combined, divided_by_size, size_divided}
use Rattle.integers.proofs.Remainders.{Divides-add}
use Rattle.symmetry.specs.Vectors.{Vector, multiple, opposite, dot}
use Rattle.symmetry.specs.Planes.{IsCoprime}
use Rattle.symmetry.proofs.VectorLaws.{multiple-dot, multiple-one}

-- some column gives 1 under a coprime row
pub unit_column : (r : Vector) → IsCoprime r → (u : Vector) × (dot r u ≡ pos 1)
unfolding dot
unit_column r coprime =
    let (u, v, w, one) = bezout r.x r.y r.z (λ g p q s. coprime g (size_divided g r.x p) (size_divided g r.y q) (size_divided g r.z s)) in
    (record { x = u; y = v; z = w }, one)

-- multiples of a coprime row are equal only by equal factors
pub multiple_cancel : (r : Vector) (d e : ℤ) → IsCoprime r → multiple d r ≡ multiple e r → d ≡ e
multiple_cancel r d e coprime same =
    let (u, one) = unit_column r coprime in
    let value : (c : ℤ) → dot (multiple c r) u ≡ c = λ c. multiple-dot c r u ∙ ap (λ x. c *ℤ x) one ∙ mul_one c in
    sym (value d) ∙ ap (λ t. dot t u) same ∙ value e

-- so a coprime row is not its opposite
pub not_opposite : (r : Vector) → IsCoprime r → r ≡ opposite r → ⊥
not_opposite r coprime same =
    let apart : pos 1 ≡ negsuc 0 = multiple_cancel r (pos 1) (negsuc 0) coprime (multiple-one r ∙ same) in absurd (omega (arith, ints))

-- a row that gives 1 at a column is coprime
pub coprime_by_column : (r u : Vector) → dot r u ≡ pos 1 → IsCoprime r
unfolding dot
coprime_by_column r u one = λ d x y z.
    let first = Divides-combined d r.x r.y u.x u.y (divided_by_size d r.x x) (divided_by_size d r.y y) in
    let last = Divides-combined d r.z r.z u.z (pos 0) (divided_by_size d r.z z) (divided_by_size d r.z z) in
    eq-one_of_dvd-one (size_divided d (pos 1) (subst (Divides d) (ending (r.x *ℤ u.x +ℤ r.y *ℤ u.y) (r.z *ℤ u.z) r.z ∙ one) (Divides-add d _ _ first last)))
  where
    ending : (a b c : ℤ) → a +ℤ (b +ℤ c *ℤ pos 0) ≡ a +ℤ b
    ending a b c = omega (arith, ints)
