-- What the code's numbers tell of vectors along an axis, and the motion at home by them.
use Rattle.std.proofs.Common.{◌≡◌, ◌↔◌, inl, inr, ℕ, ◌*◌, ◌≤◌, ◌+ℤ◌, ◌*ℤ◌, ◌≤ℤ◌, ℤ, pos, refl, sym, ap, ◌∙◌, arith, lit<}
use Rattle.std.proofs.lemmas.Int.{ints}
use Rattle.std.specs.Int.{int_div_euclid}
use Rattle.integers.specs.Size.{IsWithin}
use Rattle.integers.proofs.Wide.{wide, wide_is}
use Rattle.integers.proofs.Order.{zero_or_not}
use Rattle.integers.proofs.Sizes.{multiplier_within}
use Rattle.symmetry.specs.Vectors.{Vector, minus, multiple, dot, cross}
use Rattle.symmetry.specs.Frames.{Basis, combination}
use Rattle.symmetry.specs.Sizes.{IsVectorWithin}
use Rattle.symmetry.proofs.VectorLaws.{vector_path}
use Rattle.plane_lattice.specs.Bounds.{largest_scaled}
use Rattle.plane_lattice.specs.Coordinates.{scaled, volume}
use Rattle.plane_lattice.proofs.Cramer.{combination_once}
use Rattle.penetration.specs.RodHomes.{IsAlongAxis, rod_home_shift}
use Rattle.penetration.proofs.LineMembers.{only_axis}

pub on_axis : (f : Basis) (v c : Vector) → c.x ≡ pos 0 → c.y ≡ pos 0 → combination f c ≡ v → multiple c.z f.tau ≡ v
on_axis f v c x y is = sym (only_axis f c.z) ∙ ap (combination f) (vector_path {v = record { x = pos 0; y = pos 0; z = c.z }} {w = c} (sym x) (sym y) refl) ∙ is

-- a vector is along the axis exactly where its coordinates along a and b are 0
pub along_by_coordinates : (f : Basis) (v c : Vector) → pos 1 ≤ℤ volume f → combination f c ≡ v → ((c.x ≡ pos 0) × (c.y ≡ pos 0)) ↔ IsAlongAxis f v
along_by_coordinates f v c positive is = (
  λ (x, y). (c.z, on_axis f v c x y is),
  λ (k, e).
      let one = combination_once f (λ z. absurd (omega (arith, ints))) c (record { x = pos 0; y = pos 0; z = k }) (is ∙ sym e ∙ sym (only_axis f k)) in
      (ap (λ (u : Vector). u.x) one, ap (λ (u : Vector). u.y) one),
)

-- the vector without so many whole axes, by numbers that were passed
pub less_turns : (f g : Basis) (v : Vector) (d : ℤ) (s : Vector) (q : ℤ) → g ≡ f → IsWithin largest_scaled d → d ≡ volume g
    → IsVectorWithin largest_scaled s → s ≡ scaled g v → IsWithin largest_scaled q → q ≡ int_div_euclid (wide s.z) (wide d)
    → minus v (combination g (record { x = pos 0; y = pos 0; z = wide q })) ≡ rod_home_shift f v
less_turns f g v d s q same small d_is s_small s_is q_small q_is =
    ap (minus v) (only_axis g (wide q))
    ∙ (λ i. minus v (multiple
    ((wide_is largest_scaled q (lit< tt) q_small ∙ q_is
    ∙ (λ j. int_div_euclid ((wide_is largest_scaled s.z (lit< tt) s_small.z ∙ ap (λ (u : Vector). u.z) s_is) j) ((wide_is largest_scaled d (lit< tt) small ∙ d_is) j))) i)
    g.tau))
    ∙ ap (λ b. rod_home_shift b v) same

no_volume : (f : Basis) → f.tau.x ≡ pos 0 → f.tau.y ≡ pos 0 → f.tau.z ≡ pos 0 → ¬ (pos 1 ≤ℤ volume f)
unfolding dot
no_volume f x y z h =
    let r = cross f.a f.b in
    let e : volume f ≡ r.x *ℤ pos 0 +ℤ r.y *ℤ pos 0 +ℤ r.z *ℤ pos 0 = λ i. r.x *ℤ x i +ℤ r.y *ℤ y i +ℤ r.z *ℤ z i in
    absurd (omega (arith, ints, e, h))

pub axis_times_within : (f : Basis) (v : Vector) (t : ℤ) (n : ℕ) → pos 1 ≤ℤ volume f → multiple t f.tau ≡ v → IsVectorWithin n v → IsWithin n t
unfolding multiple
axis_times_within f v t n positive e small =
    elim (zero_or_not f.tau.x) [
      | inr x ↦ multiplier_within n t f.tau.x v.x x (λ i. (e i).x) small.x
      | inl x ↦ elim (zero_or_not f.tau.y) [
        | inr y ↦ multiplier_within n t f.tau.y v.y y (λ i. (e i).y) small.y
        | inl y ↦ elim (zero_or_not f.tau.z) [
          | inr z ↦ multiplier_within n t f.tau.z v.z z (λ i. (e i).z) small.z
          | inl z ↦ absurd (no_volume f x y z positive)
        ]
      ]
    ]
