-- Each cell edge is a whole combination, so the coordinates in parts are whole.
use Rattle.std.proofs.Common.{rules, ◌≡◌, ℤ, pos, ◌*ℤ◌, FitsSigned, ◌∙◌, ap, sym, subst}
use Rattle.std.specs.Int.{int_div_euclid, int_rem_euclid, w64}
use Rattle.std.proofs.lemmas.Int.{to_z-of_z}
use Rattle.fractions.specs.declared.part.TheConstants.{UNIT}
use Rattle.integers.specs.Size.{IsWithin}
use Rattle.integers.proofs.Wide.{wide}
use Rattle.symmetry.specs.Frames.{Basis, combination}
use Rattle.symmetry.specs.Sizes.{IsVectorWithin}
use Rattle.symmetry.specs.Vectors.{Vector}
use Rattle.motions.specs.BasisView.{basis_of}
use Rattle.motions.specs.Views.{parts, vector_of}
use Rattle.plane_lattice.specs.Bounds.{largest_scaled}
use Rattle.plane_lattice.specs.Coordinates.{volume, scaled}
use Rattle.plane_lattice.specs.FrameView.{basis_of_frame}
use Rattle.plane_lattice.proofs.Edges.{edge_x, edge_y, edge_z, edge_combination, edge_quotients}
use Rattle.plane_lattice.proofs.Passed.{passed_volume, passed_x, passed_y, passed_z}
use Rattle.plane_lattice.proofs.frame.Frame.coords.Goals as goal

-- the numbers that arrive are the volume and the coordinates
record Arrived (f : Basis) (v : Vector) (d : ℤ) (s : Vector) : Type 0 where
  by : wide d ≡ volume f
  x : wide s.x ≡ (scaled f v).x
  y : wide s.y ≡ (scaled f v).y
  z : wide s.z ≡ (scaled f v).z

arrived : (f g : Basis) (v : Vector) → g ≡ f → (d : ℤ) (s : Vector) → IsWithin largest_scaled d → d ≡ volume g
    → IsVectorWithin largest_scaled s → s ≡ scaled g v → Arrived f v d s
arrived f g v same d s small d_is smalls s_is =
    let e = d_is ∙ ap volume same in
    let e' = s_is ∙ ap (λ b. scaled b v) same in record {
      by = passed_volume f v d s small e smalls e';
      x = passed_x f v d s small e smalls e';
      y = passed_y f v d s small e smalls e';
      z = passed_z f v d s small e smalls e';
    }

-- an equation at the numbers that arrive, from the one at those that are meant
at_rem : {s d x e : ℤ} → s ≡ x → d ≡ e → int_rem_euclid (x *ℤ UNIT) e ≡ pos 0 → int_rem_euclid (s *ℤ UNIT) d ≡ pos 0
at_rem p q h = (λ i. int_rem_euclid (p i *ℤ UNIT) (q i)) ∙ h

at_quotient : {s d x e : ℤ} → s ≡ x → d ≡ e → FitsSigned w64 (int_div_euclid (x *ℤ UNIT) e) → FitsSigned w64 (int_div_euclid (s *ℤ UNIT) d)
at_quotient p q h = let P : ℤ → Type 0 = FitsSigned w64 in subst P (sym (λ i. int_div_euclid (p i *ℤ UNIT) (q i))) h

at_product : {s d x e : ℤ} (k : ℤ) → s ≡ x → d ≡ e → d *ℤ k ≡ s *ℤ UNIT → e *ℤ k ≡ x *ℤ UNIT
at_product k p q h = (λ i. sym q i *ℤ k) ∙ h ∙ (λ i. p i *ℤ UNIT)

pub edge_coordinate-requires-clause-whole : goal.edge_coordinate-requires-clause-whole
edge_coordinate-requires-clause-whole c =
    let q = c.args.self.now in
    let a = arrived (basis_of_frame q) (basis_of c.dual-dual.result.basis) (parts c.args.v) c.dual-dual.ensures c.dual-dual.result.volume (vector_of c.scaled.result)
    c.dual-dual.result.volume_small c.dual-dual.result.volume_is c.scaled.ensures.small c.scaled.ensures.is in
    at_rem a.x a.by (edge_x (basis_of_frame q) q.right_handed (parts c.args.v) q.holds_edges)

pub edge_coordinate-requires-clause-fits : goal.edge_coordinate-requires-clause-fits
edge_coordinate-requires-clause-fits c =
    let q = c.args.self.now in
    let a = arrived (basis_of_frame q) (basis_of c.dual-dual.result.basis) (parts c.args.v) c.dual-dual.ensures c.dual-dual.result.volume (vector_of c.scaled.result)
    c.dual-dual.result.volume_small c.dual-dual.result.volume_is c.scaled.ensures.small c.scaled.ensures.is in
    at_quotient a.x a.by (c.requires.fits _ (edge_quotients (basis_of_frame q) q.right_handed (parts c.args.v) q.holds_edges)).x

pub edge_coordinate-requires-2-clause-whole : goal.edge_coordinate-requires-2-clause-whole
edge_coordinate-requires-2-clause-whole c =
    let q = c.args.self.now in
    let a = arrived (basis_of_frame q) (basis_of c.dual-dual.result.basis) (parts c.args.v) c.dual-dual.ensures c.dual-dual.result.volume (vector_of c.scaled.result)
    c.dual-dual.result.volume_small c.dual-dual.result.volume_is c.scaled.ensures.small c.scaled.ensures.is in
    at_rem a.y a.by (edge_y (basis_of_frame q) q.right_handed (parts c.args.v) q.holds_edges)

pub edge_coordinate-requires-2-clause-fits : goal.edge_coordinate-requires-2-clause-fits
edge_coordinate-requires-2-clause-fits c =
    let q = c.args.self.now in
    let a = arrived (basis_of_frame q) (basis_of c.dual-dual.result.basis) (parts c.args.v) c.dual-dual.ensures c.dual-dual.result.volume (vector_of c.scaled.result)
    c.dual-dual.result.volume_small c.dual-dual.result.volume_is c.scaled.ensures.small c.scaled.ensures.is in
    at_quotient a.y a.by (c.requires.fits _ (edge_quotients (basis_of_frame q) q.right_handed (parts c.args.v) q.holds_edges)).y

pub edge_coordinate-requires-3-clause-whole : goal.edge_coordinate-requires-3-clause-whole
edge_coordinate-requires-3-clause-whole c =
    let q = c.args.self.now in
    let a = arrived (basis_of_frame q) (basis_of c.dual-dual.result.basis) (parts c.args.v) c.dual-dual.ensures c.dual-dual.result.volume (vector_of c.scaled.result)
    c.dual-dual.result.volume_small c.dual-dual.result.volume_is c.scaled.ensures.small c.scaled.ensures.is in
    at_rem a.z a.by (edge_z (basis_of_frame q) q.right_handed (parts c.args.v) q.holds_edges)

pub edge_coordinate-requires-3-clause-fits : goal.edge_coordinate-requires-3-clause-fits
edge_coordinate-requires-3-clause-fits c =
    let q = c.args.self.now in
    let a = arrived (basis_of_frame q) (basis_of c.dual-dual.result.basis) (parts c.args.v) c.dual-dual.ensures c.dual-dual.result.volume (vector_of c.scaled.result)
    c.dual-dual.result.volume_small c.dual-dual.result.volume_is c.scaled.ensures.small c.scaled.ensures.is in
    at_quotient a.z a.by (c.requires.fits _ (edge_quotients (basis_of_frame q) q.right_handed (parts c.args.v) q.holds_edges)).z

pub returns : goal.returns
returns c =
    let q = c.args.self.now in
    let a = arrived (basis_of_frame q) (basis_of c.dual-dual.result.basis) (parts c.args.v) c.dual-dual.ensures c.dual-dual.result.volume (vector_of c.scaled.result)
    c.dual-dual.result.volume_small c.dual-dual.result.volume_is c.scaled.ensures.small c.scaled.ensures.is in
    let x : FitsSigned w64 c.edge_coordinate.result = search rules in
    let y : FitsSigned w64 c.edge_coordinate-2.result = search rules in
    let z : FitsSigned w64 c.edge_coordinate-3.result = search rules in
    (λ i. combination (basis_of_frame q) (record { x = to_z-of_z w64 _ x i; y = to_z-of_z w64 _ y i; z = to_z-of_z w64 _ z i }))
    ∙ edge_combination (basis_of_frame q) q.right_handed (parts c.args.v) c.edge_coordinate.result c.edge_coordinate-2.result c.edge_coordinate-3.result
    (at_product c.edge_coordinate.result a.x a.by c.edge_coordinate.ensures) (at_product c.edge_coordinate-2.result a.y a.by c.edge_coordinate-2.ensures) (at_product c.edge_coordinate-3.result a.z a.by c.edge_coordinate-3.ensures)
