-- Steps that keep a basis of the lattice.
use Rattle.std.proofs.Common.{◌≡◌, ℤ, pos, ◌+ℤ◌, ◌-ℤ◌, ◌*ℤ◌, [], ◌∷◌, arith, sym, ◌∙◌}
use Rattle.std.proofs.lemmas.Int.{ints}
use Rattle.integers.proofs.Solver.{Expr.{var, num, ◌⊕◌, ◌⊝◌, ◌⊗◌}, linear, given, ring}
use Rattle.symmetry.specs.Vectors.{Vector, plus, multiple, dot}
use Rattle.symmetry.specs.Groups.{Listing, IsInLattice}
use Rattle.symmetry.proofs.LatticeLaws.{lattice-plus, lattice-multiple}
use Rattle.symmetry.proofs.VectorLaws.{vector_path, dot-plus, dot-multiple}
use Rattle.reduction.specs.LatticeBases.{IsLatticeBasis, combined}

pub combined_in : (g : Listing) (x y : ℤ) (u v : Vector) → IsInLattice g u → IsInLattice g v → IsInLattice g (combined x u y v)
combined_in g x y u v h k = lattice-plus g (multiple x u) (multiple y v) (lattice-multiple g x u h) (lattice-multiple g y v k)

pub dot-combined : (r : Vector) (x y : ℤ) (u v : Vector) → dot r (combined x u y v) ≡ x *ℤ dot r u +ℤ y *ℤ dot r v
dot-combined r x y u v = dot-plus r (multiple x u) (multiple y v) ∙ (λ i. dot-multiple r x u i +ℤ dot-multiple r y v i)

-- one entry: what x u + y v + z w is in u' = q u - p v and v' = x u + y v, where p x + q y is 1
entry : (c d e p q x y u v w : ℤ) → p *ℤ x +ℤ q *ℤ y ≡ pos 1
    → (c *ℤ y -ℤ d *ℤ x) *ℤ (q *ℤ u +ℤ (pos 0 -ℤ p) *ℤ v) +ℤ (c *ℤ p +ℤ d *ℤ q) *ℤ (x *ℤ u +ℤ y *ℤ v) +ℤ e *ℤ w ≡ c *ℤ u +ℤ d *ℤ v +ℤ e *ℤ w
entry c d e p q x y u v w h =
    let n = var in
    linear (c ∷ d ∷ e ∷ p ∷ q ∷ x ∷ y ∷ u ∷ v ∷ w ∷ [])
    ((n 0 ⊗ n 6 ⊝ n 1 ⊗ n 5) ⊗ (n 4 ⊗ n 7 ⊕ (num (pos 0) ⊝ n 3) ⊗ n 8) ⊕ (n 0 ⊗ n 3 ⊕ n 1 ⊗ n 4) ⊗ (n 5 ⊗ n 7 ⊕ n 6 ⊗ n 8) ⊕ n 2 ⊗ n 9)
    (n 0 ⊗ n 7 ⊕ n 1 ⊗ n 8 ⊕ n 2 ⊗ n 9)
    (given (n 0 ⊗ n 7 ⊕ n 1 ⊗ n 8) (n 3 ⊗ n 5 ⊕ n 4 ⊗ n 6) (num (pos 1)) ∷ []) tt (h, tt)

module _ (g : Listing) (p q x y : ℤ) (unit : p *ℤ x +ℤ q *ℤ y ≡ pos 1) where
  -- q u - p v and x u + y v in place of u and v
  module _ (u v w : Vector) where
    combination_of_combined : (c d e : ℤ)
        → plus (plus (multiple (c *ℤ y -ℤ d *ℤ x) (combined q u (pos 0 -ℤ p) v)) (multiple (c *ℤ p +ℤ d *ℤ q) (combined x u y v))) (multiple e w)
        ≡ plus (plus (multiple c u) (multiple d v)) (multiple e w)
    unfolding plus multiple
    combination_of_combined c d e =
        vector_path (entry c d e p q x y u.x v.x w.x unit) (entry c d e p q x y u.y v.y w.y unit) (entry c d e p q x y u.z v.z w.z unit)

  -- the first two vectors: the second is kept for later
  pub first_two_replaced : (u v w : Vector) → IsLatticeBasis g (record { a = u; b = v; tau = w })
      → IsLatticeBasis g (record { a = combined q u (pos 0 -ℤ p) v; b = combined x u y v; tau = w })
  first_two_replaced u v w h = record {
    a_in = combined_in g q (pos 0 -ℤ p) u v h.a_in h.b_in;
    b_in = combined_in g x y u v h.a_in h.b_in;
    tau_in = h.tau_in;
    spans = λ t inside.
        let (c, is) = h.spans t inside in
        (record { x = c.x *ℤ y -ℤ c.y *ℤ x; y = c.x *ℤ p +ℤ c.y *ℤ q; z = c.z }, combination_of_combined u v w c.x c.y c.z ∙ is);
  }

  to_last : (u v w : Vector) → plus (plus u v) w ≡ plus (plus v w) u
  unfolding plus
  to_last u v w = vector_path (omega (arith, ints)) (omega (arith, ints)) (omega (arith, ints))

  to_first : (u v w : Vector) → plus (plus v w) u ≡ plus (plus u v) w
  to_first u v w = sym (to_last u v w)

  -- the last two
  pub last_two_replaced : (u v w : Vector) → IsLatticeBasis g (record { a = w; b = u; tau = v })
      → IsLatticeBasis g (record { a = w; b = combined q u (pos 0 -ℤ p) v; tau = combined x u y v })
  last_two_replaced u v w h = record {
    a_in = h.a_in;
    b_in = combined_in g q (pos 0 -ℤ p) u v h.b_in h.tau_in;
    tau_in = combined_in g x y u v h.b_in h.tau_in;
    spans = λ t inside.
        let (c, is) = h.spans t inside in (
          record { x = c.x; y = c.y *ℤ y -ℤ c.z *ℤ x; z = c.y *ℤ p +ℤ c.z *ℤ q },
          to_last (multiple c.x w) (multiple (c.y *ℤ y -ℤ c.z *ℤ x) (combined q u (pos 0 -ℤ p) v)) (multiple (c.y *ℤ p +ℤ c.z *ℤ q) (combined x u y v))
              ∙ combination_of_combined u v w c.y c.z c.x ∙ to_first (multiple c.x w) (multiple c.y u) (multiple c.z v) ∙ is,
        );
  }

-- the heights of the two new vectors
pub flat_combined : (r u v : Vector) (p q g : ℤ) → dot r u ≡ p *ℤ g → dot r v ≡ q *ℤ g → dot r (combined q u (pos 0 -ℤ p) v) ≡ pos 0
flat_combined r u v p q g e e' =
    dot-combined r q (pos 0 -ℤ p) u v ∙ (λ i. q *ℤ e i +ℤ (pos 0 -ℤ p) *ℤ e' i)
    ∙ ring (p ∷ q ∷ g ∷ []) (var 1 ⊗ (var 0 ⊗ var 2) ⊕ (num (pos 0) ⊝ var 0) ⊗ (var 1 ⊗ var 2)) (num (pos 0)) tt

pub raised_combined : (r u v : Vector) (p q x y g : ℤ) → p *ℤ x +ℤ q *ℤ y ≡ pos 1 → dot r u ≡ p *ℤ g → dot r v ≡ q *ℤ g → dot r (combined x u y v) ≡ g
raised_combined r u v p q x y g unit e e' =
    dot-combined r x y u v ∙ (λ i. x *ℤ e i +ℤ y *ℤ e' i)
    ∙ linear (p ∷ q ∷ x ∷ y ∷ g ∷ []) (var 2 ⊗ (var 0 ⊗ var 4) ⊕ var 3 ⊗ (var 1 ⊗ var 4)) (var 4)
    (given (var 4) (var 0 ⊗ var 2 ⊕ var 1 ⊗ var 3) (num (pos 1)) ∷ []) tt (unit, tt)
