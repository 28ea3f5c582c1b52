-- Coordinates in parts, in a basis of a lattice that holds all whole vectors.
use Rattle.std.proofs.Common.{◌≡◌, ℤ, pos, ◌*ℤ◌, ◌≤ℤ◌, sym, ap, subst, ◌∙◌, arith}
use Rattle.std.specs.Int.{int_div_euclid, int_rem_euclid}
use Rattle.std.proofs.lemmas.Int.{ints}
use Rattle.std.proofs.Math.Logic.{∥∥₁_elim}
use Rattle.std.proofs.Math.IntN.{ℤ_set}
use lib.IntN.{*ℤ_comm}
use Rattle.fractions.specs.declared.part.TheConstants.{UNIT}
use Rattle.symmetry.specs.Vectors.{Vector, plus, multiple, cross}
use Rattle.symmetry.specs.Frames.{Basis, combination}
use Rattle.symmetry.proofs.VectorLaws.{vector_path, dot-multiple}
use Rattle.symmetry.proofs.FrameLaws.{combination-multiple, combination-plus}
use Rattle.plane_lattice.specs.Coordinates.{volume, scaled, HoldsEdges, IsCombination}
use Rattle.plane_lattice.proofs.Cramer.{whole_x, whole_y, whole_z, combination_of}
use Rattle.plane_lattice.proofs.Quotients.{rem-multiple, exact_quotient}

-- whole combinations, their sums and multiples
pub combination-sum : (f : Basis) (v w : Vector) → IsCombination f v → IsCombination f w → IsCombination f (plus v w)
combination-sum f v w (c, e) (d, e') = (plus c d, combination-plus f c d ∙ (λ i. plus (e i) (e' i)))

pub combination-times : (f : Basis) (k : ℤ) (v : Vector) → IsCombination f v → IsCombination f (multiple k v)
combination-times f k v (c, e) = (multiple k c, combination-multiple f k c ∙ ap (multiple k) e)

by_edges : (v : Vector)
    → plus (plus (multiple v.x (record { x = UNIT; y = pos 0; z = pos 0 })) (multiple v.y (record { x = pos 0; y = UNIT; z = pos 0 })))
    (multiple v.z (record { x = pos 0; y = pos 0; z = UNIT }))
    ≡ multiple UNIT v
unfolding plus multiple
by_edges v = vector_path (omega (arith, ints)) (omega (arith, ints)) (omega (arith, ints))

-- each whole number of edges is a whole combination
pub whole_edges : (f : Basis) → HoldsEdges f → (v : Vector) → IsCombination f (multiple UNIT v)
whole_edges f h v =
    subst (IsCombination f) (by_edges v)
    (combination-sum f _ _
    (combination-sum f _ _ (combination-times f v.x _ h.first) (combination-times f v.y _ h.second))
    (combination-times f v.z _ h.third))

module _ (f : Basis) (h : pos 1 ≤ℤ volume f) (v : Vector) where
  -- the coordinates of UNIT times the vector, times the volume
  abbrev scaled_edges : Vector
  scaled_edges = scaled f (multiple UNIT v)

  in_x : (scaled f v).x *ℤ UNIT ≡ scaled_edges.x
  in_x = *ℤ_comm (scaled f v).x UNIT ∙ sym (dot-multiple (cross f.b f.tau) UNIT v)

  in_y : (scaled f v).y *ℤ UNIT ≡ scaled_edges.y
  in_y = *ℤ_comm (scaled f v).y UNIT ∙ sym (dot-multiple (cross f.tau f.a) UNIT v)

  in_z : (scaled f v).z *ℤ UNIT ≡ scaled_edges.z
  in_z = *ℤ_comm (scaled f v).z UNIT ∙ sym (dot-multiple (cross f.a f.b) UNIT v)

  module _ (edges : ∥ HoldsEdges f ∥₁) where
    -- the volume divides them
    pub edge_x : int_rem_euclid ((scaled f v).x *ℤ UNIT) (volume f) ≡ pos 0
    edge_x = ∥∥₁_elim edges (ℤ_set _ _) (λ e.
        let (c, is) = whole_edges f e v in
        ap (λ x. int_rem_euclid x (volume f)) (in_x ∙ sym (whole_x f (multiple UNIT v) c is)) ∙ rem-multiple (volume f) c.x h)

    pub edge_y : int_rem_euclid ((scaled f v).y *ℤ UNIT) (volume f) ≡ pos 0
    edge_y = ∥∥₁_elim edges (ℤ_set _ _) (λ e.
        let (c, is) = whole_edges f e v in
        ap (λ x. int_rem_euclid x (volume f)) (in_y ∙ sym (whole_y f (multiple UNIT v) c is)) ∙ rem-multiple (volume f) c.y h)

    pub edge_z : int_rem_euclid ((scaled f v).z *ℤ UNIT) (volume f) ≡ pos 0
    edge_z = ∥∥₁_elim edges (ℤ_set _ _) (λ e.
        let (c, is) = whole_edges f e v in
        ap (λ x. int_rem_euclid x (volume f)) (in_z ∙ sym (whole_z f (multiple UNIT v) c is)) ∙ rem-multiple (volume f) c.z h)

  -- three numbers that are these coordinates, times the volume, are the coordinates
  pub edge_combination : (x y z : ℤ) → volume f *ℤ x ≡ (scaled f v).x *ℤ UNIT → volume f *ℤ y ≡ (scaled f v).y *ℤ UNIT
      → volume f *ℤ z ≡ (scaled f v).z *ℤ UNIT → combination f (record { x = x; y = y; z = z }) ≡ multiple UNIT v
  edge_combination x y z p q r = combination_of f (multiple UNIT v) h x y z (p ∙ in_x) (q ∙ in_y) (r ∙ in_z)

  -- the quotients by the volume are such
  pub edge_quotients : ∥ HoldsEdges f ∥₁
      → combination f (record {
        x = int_div_euclid ((scaled f v).x *ℤ UNIT) (volume f);
        y = int_div_euclid ((scaled f v).y *ℤ UNIT) (volume f);
        z = int_div_euclid ((scaled f v).z *ℤ UNIT) (volume f);
      }) ≡ multiple UNIT v
  edge_quotients edges =
      edge_combination _ _ _ (exact_quotient ((scaled f v).x *ℤ UNIT) (volume f) h (edge_x edges)) (exact_quotient ((scaled f v).y *ℤ UNIT) (volume f) h (edge_y edges))
      (exact_quotient ((scaled f v).z *ℤ UNIT) (volume f) h (edge_z edges))
