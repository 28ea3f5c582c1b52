-- The sign with which (k,-h) points forward.
use Rattle.std.proofs.Common.{◌≡◌, zero, suc, ℤ, pos, negsuc, ◌+ℤ◌, ◌*ℤ◌, ◌<ℤ◌, ◌∙◌, sym, refl, arith}
use Rattle.std.proofs.lemmas.Int.{ints}
use Rattle.symmetry.specs.Vectors.{Vector, dot}
use Rattle.symmetry.specs.Planes.{IsCoprime}
use Rattle.symmetry.proofs.Coprime.{unit_column}

-- a coprime row that is 0 but for its first entry is not 0 there
pub first_is_some : (r : Vector) → IsCoprime r → r.z ≡ pos 0 → r.y ≡ pos 0 → r.x ≡ pos 0 → ⊥
unfolding dot
first_is_some r coprime z y x =
    let (u, one) = unit_column r coprime in
    go u.x u.y u.z ((λ i. sym x i *ℤ u.x +ℤ sym y i *ℤ u.y +ℤ sym z i *ℤ u.z) ∙ one)
  where
    go : (a b c : ℤ) → pos 0 *ℤ a +ℤ pos 0 *ℤ b +ℤ pos 0 *ℤ c ≡ pos 1 → ⊥
    go a b c e = absurd (omega (arith, ints, e))

-- so it is above where it is not below
pub first_is_above : (r : Vector) → IsCoprime r → r.z ≡ pos 0 → r.y ≡ pos 0 → ¬ (r.x <ℤ pos 0) → pos 0 <ℤ r.x
first_is_above r coprime z y not = by r.x refl
  where
    by : (x : ℤ) → r.x ≡ x → pos 0 <ℤ r.x
    by (pos zero) e = absurd (first_is_some r coprime z y e)
    by (pos (suc n)) e = omega (arith, ints, e)
    by (negsuc n) e = absurd (not (omega (arith, ints, e)))
