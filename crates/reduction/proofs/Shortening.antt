-- What makes a vector shorter by the form.
use native.Mathlib.Nat.{mul-le-mul}
use Rattle.std.proofs.Common.{◌≡◌, ℕ, suc, ◌*◌, ◌≤◌, ◌⊎◌, inl, inr, ℤ, pos, negsuc, ◌+ℤ◌, ◌-ℤ◌, ◌*ℤ◌, ◌≤ℤ◌, ◌<ℤ◌, [], ◌∷◌, sym, ap, subst, ◌∙◌, arith}
use Rattle.std.proofs.lemmas.Int.{ints}
use Rattle.integers.specs.Size.{IsWithin}
use Rattle.integers.proofs.Order.{zero-le-square, one-le-mul, le_trans}
use Rattle.integers.proofs.Solver.{Expr.{var, num, ◌⊕◌, ◌⊝◌, ◌⊗◌}, linear, given, ring}
use Rattle.symmetry.specs.Vectors.{Vector, Matrix, plus, multiple, dot, image}
use Rattle.symmetry.specs.Sizes.{IsVectorWithin}
use Rattle.symmetry.proofs.VectorLaws.{dot-plus, plus-dot, dot-multiple, multiple-dot}
use Rattle.symmetry.proofs.MatrixLaws.{image-plus, image-multiple}
use Rattle.reduction.specs.Bounds.{largest_short}
use Rattle.reduction.specs.Forms.{by_form, IsForm, IsShort}
use Rattle.reduction.specs.LatticeBases.{combined}

-- ---- the form is linear in each

pub form-plus : (g : Matrix) (u v w : Vector) → by_form g u (plus v w) ≡ by_form g u v +ℤ by_form g u w
form-plus g u v w = ap (dot u) (image-plus g v w) ∙ dot-plus u (image g v) (image g w)

pub form-multiple : (g : Matrix) (u : Vector) (c : ℤ) (v : Vector) → by_form g u (multiple c v) ≡ c *ℤ by_form g u v
form-multiple g u c v = ap (dot u) (image-multiple g c v) ∙ dot-multiple u c (image g v)

pub plus-form : (g : Matrix) (u v w : Vector) → by_form g (plus u v) w ≡ by_form g u w +ℤ by_form g v w
plus-form g u v w = plus-dot u v (image g w)

pub multiple-form : (g : Matrix) (c : ℤ) (u v : Vector) → by_form g (multiple c u) v ≡ c *ℤ by_form g u v
multiple-form g c u v = multiple-dot c u (image g v)

-- the form at v + k w
module _ (g : Matrix) (form : IsForm g) (v w : Vector) (k : ℤ) where
  to_combined : (u : Vector) → by_form g u (combined (pos 1) v k w) ≡ pos 1 *ℤ by_form g u v +ℤ k *ℤ by_form g u w
  to_combined u = form-plus g u (multiple (pos 1) v) (multiple k w) ∙ (λ i. form-multiple g u (pos 1) v i +ℤ form-multiple g u k w i)

  of_combined : (u : Vector) → by_form g (combined (pos 1) v k w) u ≡ pos 1 *ℤ by_form g v u +ℤ k *ℤ by_form g w u
  of_combined u = plus-form g (multiple (pos 1) v) (multiple k w) u ∙ (λ i. multiple-form g (pos 1) v u i +ℤ multiple-form g k w u i)

  pub form-combined : by_form g (combined (pos 1) v k w) (combined (pos 1) v k w) ≡ by_form g v v +ℤ k *ℤ (pos 2 *ℤ by_form g v w +ℤ k *ℤ by_form g w w)
  form-combined =
      to_combined (combined (pos 1) v k w) ∙ (λ i. pos 1 *ℤ of_combined v i +ℤ k *ℤ of_combined w i)
      ∙ linear (k ∷ by_form g v v ∷ by_form g v w ∷ by_form g w v ∷ by_form g w w ∷ [])
      (num (pos 1) ⊗ (num (pos 1) ⊗ var 1 ⊕ var 0 ⊗ var 3) ⊕ var 0 ⊗ (num (pos 1) ⊗ var 2 ⊕ var 0 ⊗ var 4))
      (var 1 ⊕ var 0 ⊗ (num (pos 2) ⊗ var 2 ⊕ var 0 ⊗ var 4))
      (given (var 0) (var 3) (var 2) ∷ []) tt (form.symmetric w v, tt)

  -- a step towards w
  pub shorter_less : pos 1 ≤ℤ (pos 0 -ℤ k) → ((pos 0 -ℤ k) *ℤ by_form g w w) <ℤ (pos 2 *ℤ by_form g v w) → by_form g (combined (pos 1) v k w) (combined (pos 1) v k w) <ℤ by_form g v v
  shorter_less from below =
      let n = pos 0 -ℤ k in
      let rest = pos 2 *ℤ by_form g v w -ℤ n *ℤ by_form g w w in
      let gain : pos 1 ≤ℤ (n *ℤ rest) = one-le-mul n rest from (omega (arith, ints, below)) in
      let e : k *ℤ (pos 2 *ℤ by_form g v w +ℤ k *ℤ by_form g w w) ≡ pos 0 -ℤ n *ℤ rest =
      ring (k ∷ by_form g v w ∷ by_form g w w ∷ []) (var 0 ⊗ (num (pos 2) ⊗ var 1 ⊕ var 0 ⊗ var 2))
      (num (pos 0) ⊝ (num (pos 0) ⊝ var 0) ⊗ (num (pos 2) ⊗ var 1 ⊝ (num (pos 0) ⊝ var 0) ⊗ var 2)) tt in
      subst (λ z. z <ℤ by_form g v v) (sym (form-combined ∙ ap (λ z. by_form g v v +ℤ z) e)) (omega (arith, ints, gain))

  -- a step away from w
  pub shorter_more : pos 1 ≤ℤ k → (k *ℤ by_form g w w) <ℤ (negsuc 1 *ℤ by_form g v w) → by_form g (combined (pos 1) v k w) (combined (pos 1) v k w) <ℤ by_form g v v
  shorter_more from below =
      let rest = negsuc 1 *ℤ by_form g v w -ℤ k *ℤ by_form g w w in
      let gain : pos 1 ≤ℤ (k *ℤ rest) = one-le-mul k rest from (omega (arith, ints, below)) in
      let e : k *ℤ (pos 2 *ℤ by_form g v w +ℤ k *ℤ by_form g w w) ≡ pos 0 -ℤ k *ℤ rest =
      ring (k ∷ by_form g v w ∷ by_form g w w ∷ []) (var 0 ⊗ (num (pos 2) ⊗ var 1 ⊕ var 0 ⊗ var 2))
      (num (pos 0) ⊝ var 0 ⊗ (num (negsuc 1) ⊗ var 1 ⊝ var 0 ⊗ var 2)) tt in
      subst (λ z. z <ℤ by_form g v v) (sym (form-combined ∙ ap (λ z. by_form g v v +ℤ z) e)) (omega (arith, ints, gain))

-- ---- sizes

root_bound : (n x : ℕ) → x * x ≤ n * n → x ≤ n
root_bound n x h = go (split x n)
  where
    split : (x n : ℕ) → (x ≤ n) ⊎ (suc n ≤ x)
    split x n = grind arith

    go : (x ≤ n) ⊎ (suc n ≤ x) → x ≤ n
    go (inl l) = l
    go (inr l) = let m = mul-le-mul l l in absurd (omega (arith, m))

square_within : (n : ℕ) (x : ℤ) → (x *ℤ x) ≤ℤ pos (n * n) → IsWithin n x
square_within n (pos x) h = record { most = root_bound n x (omega (arith, ints)) }
square_within n (negsuc x) h = record { most = root_bound n (suc x) (omega (arith, ints)) }

-- a short vector has small entries
pub short_within : (g : Matrix) → IsForm g → (v : Vector) → IsShort g v → IsVectorWithin largest_short v
unfolding dot
short_within g form v h =
    let p = form.positive v in
    let most = h.most in
    let x = zero-le-square v.x in
    let y = zero-le-square v.y in
    let z = zero-le-square v.z in
    let sum : (v.x *ℤ v.x +ℤ v.y *ℤ v.y +ℤ v.z *ℤ v.z) ≤ℤ pos (largest_short * largest_short) = le_trans _ _ _ p most in
    record {
      x = square_within largest_short v.x (omega (arith, ints));
      y = square_within largest_short v.y (omega (arith, ints));
      z = square_within largest_short v.z (omega (arith, ints));
    }
