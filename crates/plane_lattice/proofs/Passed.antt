-- Whole coordinates, from the numbers that the code passes.
use Rattle.std.proofs.Common.{◌≡◌, ℤ, pos, ◌*ℤ◌, ◌≤ℤ◌, FitsSigned, ◌∙◌, sym, ap, lit<}
use Rattle.std.specs.Int.{w128}
use Rattle.std.proofs.lemmas.Int.{to_z-of_z}
use Rattle.integers.specs.Size.{IsWithin}
use Rattle.integers.proofs.Wide.{wide, wide_is}
use Rattle.symmetry.specs.Frames.{Basis, combination}
use Rattle.symmetry.specs.Sizes.{IsVectorWithin}
use Rattle.symmetry.specs.Vectors.{Vector}
use Rattle.plane_lattice.specs.Bounds.{largest_scaled}
use Rattle.plane_lattice.specs.Coordinates.{volume, scaled, IsCombination}
use Rattle.plane_lattice.proofs.Cramer.{whole_x, whole_y, whole_z, combination_of}

module _ (f : Basis) (v : Vector) (d : ℤ) (s : Vector) (small : IsWithin largest_scaled d) (d_is : d ≡ volume f)
    (smalls : IsVectorWithin largest_scaled s) (s_is : s ≡ scaled f v) where
  -- the volume and the coordinates as they arrive
  pub passed_volume : wide d ≡ volume f
  passed_volume = wide_is largest_scaled d (lit< tt) small ∙ d_is

  pub passed_x : wide s.x ≡ (scaled f v).x
  passed_x = wide_is largest_scaled s.x (lit< tt) smalls.x ∙ ap (λ (u : Vector). u.x) s_is

  pub passed_y : wide s.y ≡ (scaled f v).y
  passed_y = wide_is largest_scaled s.y (lit< tt) smalls.y ∙ ap (λ (u : Vector). u.y) s_is

  pub passed_z : wide s.z ≡ (scaled f v).z
  passed_z = wide_is largest_scaled s.z (lit< tt) smalls.z ∙ ap (λ (u : Vector). u.z) s_is

  -- where a coordinate is no whole number, the vector is no whole combination
  pub no_x : ((q : ℤ) → ¬ (wide d *ℤ q ≡ wide s.x)) → ¬ IsCombination f v
  no_x none (k, e) = none k.x ((λ i. passed_volume i *ℤ k.x) ∙ whole_x f v k e ∙ sym passed_x)

  pub no_y : ((q : ℤ) → ¬ (wide d *ℤ q ≡ wide s.y)) → ¬ IsCombination f v
  no_y none (k, e) = none k.y ((λ i. passed_volume i *ℤ k.y) ∙ whole_y f v k e ∙ sym passed_y)

  pub no_z : ((q : ℤ) → ¬ (wide d *ℤ q ≡ wide s.z)) → ¬ IsCombination f v
  no_z none (k, e) = none k.z ((λ i. passed_volume i *ℤ k.z) ∙ whole_z f v k e ∙ sym passed_z)

  -- where all three are, they are its coordinates
  pub all_whole : pos 1 ≤ℤ volume f → (p q r : ℤ) → FitsSigned w128 p → FitsSigned w128 q → FitsSigned w128 r
      → wide d *ℤ p ≡ wide s.x → wide d *ℤ q ≡ wide s.y → wide d *ℤ r ≡ wide s.z
      → combination f (record { x = wide p; y = wide q; z = wide r }) ≡ v
  all_whole h p q r p_fits q_fits r_fits p_is q_is r_is =
      (λ i. combination f (record { x = to_z-of_z w128 p p_fits i; y = to_z-of_z w128 q q_fits i; z = to_z-of_z w128 r r_fits i }))
      ∙ combination_of f v h p q r
      ((λ i. sym passed_volume i *ℤ p) ∙ p_is ∙ passed_x) ((λ i. sym passed_volume i *ℤ q) ∙ q_is ∙ passed_y) ((λ i. sym passed_volume i *ℤ r) ∙ r_is ∙ passed_z)
