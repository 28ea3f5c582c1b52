-- Sums x u + y v, from the numbers that the code passes.
use Rattle.std.proofs.Common.{◌≡◌, ◌*◌, ◌+◌, ℕ, ℤ, pos, ◌+ℤ◌, ◌-ℤ◌, ◌*ℤ◌, sym, subst, ◌∙◌, lit<, arith}
use Rattle.std.proofs.lemmas.Int.{ints}
use Rattle.integers.specs.Size.{IsWithin}
use Rattle.integers.proofs.Coded.{again, again_is}
use Rattle.integers.proofs.Ring.{IsWithin-add, IsWithin-mul}
use Rattle.symmetry.specs.Vectors.{Vector, plus, multiple}
use Rattle.symmetry.specs.Sizes.{IsVectorWithin}
use Rattle.symmetry.proofs.VectorLaws.{vector_path}
use Rattle.reduction.specs.Bounds.{largest_value, largest_once, largest_twice}
use Rattle.reduction.specs.LatticeBases.{combined}
use Rattle.reduction.proofs.BezoutSteps.{neg_again}

pub neg_small : (p : ℤ) → IsWithin largest_value p → IsWithin largest_value (pos 0 -ℤ p)
neg_small p h = let m = h.most in record { most = omega (arith, ints) }

pub neg_again_small : (p : ℤ) → IsWithin largest_value p → IsWithin largest_value (again (pos 0 -ℤ again p))
neg_again_small p h = let P : ℤ → Type 0 = IsWithin largest_value in subst P (sym (neg_again p h)) (neg_small p h)

module _ (x y' y : ℤ) (hx : IsWithin largest_value x) (e : y' ≡ y) where
  entry : (u v z : ℤ) → IsWithin largest_once u → IsWithin largest_once v → IsWithin largest_twice z → z ≡ again x *ℤ again u +ℤ y' *ℤ again v → again z ≡ x *ℤ u +ℤ y *ℤ v
  entry u v z hu hv hz is =
      again_is z largest_twice hz (lit< tt) ∙ is
      ∙ (λ i. again_is x largest_value hx (lit< tt) i *ℤ again_is u largest_once hu (lit< tt) i +ℤ e i *ℤ again_is v largest_once hv (lit< tt) i)

  pub combined_is : (u v : Vector) (z0 z1 z2 : ℤ) → IsVectorWithin largest_once u → IsVectorWithin largest_once v
      → IsWithin largest_twice z0 → IsWithin largest_twice z1 → IsWithin largest_twice z2
      → z0 ≡ again x *ℤ again u.x +ℤ y' *ℤ again v.x → z1 ≡ again x *ℤ again u.y +ℤ y' *ℤ again v.y → z2 ≡ again x *ℤ again u.z +ℤ y' *ℤ again v.z
      → record { x = again z0; y = again z1; z = again z2 } ≡ combined x u y v
  unfolding plus multiple
  combined_is u v z0 z1 z2 hu hv h0 h1 h2 e0 e1 e2 = vector_path (entry u.x v.x z0 hu.x hv.x h0 e0) (entry u.y v.y z1 hu.y hv.y h1 e1) (entry u.z v.z z2 hu.z hv.z h2 e2)

-- how large such a sum is
pub combined_within : (m n : ℕ) (x y : ℤ) (u v : Vector) → IsWithin m x → IsWithin m y → IsVectorWithin n u → IsVectorWithin n v → IsVectorWithin (m * n + m * n) (combined x u y v)
unfolding plus multiple
combined_within m n x y u v hx hy hu hv = record {
  x = IsWithin-add (IsWithin-mul hx hu.x) (IsWithin-mul hy hv.x);
  y = IsWithin-add (IsWithin-mul hx hu.y) (IsWithin-mul hy hv.y);
  z = IsWithin-add (IsWithin-mul hx hu.z) (IsWithin-mul hy hv.z);
}
