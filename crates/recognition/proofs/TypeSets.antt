-- The listed operations of a type with its lattice are the operations of the type.
use Rattle.std.proofs.Common.{◌≡◌, ◌↔◌, ℕ, Bool, ℤ, pos, ◌+ℤ◌, ◌-ℤ◌, ◌*ℤ◌, ◌≤ℤ◌, inl, inr, refl, sym, ap, subst, ◌∙◌, arith, List, [], ◌∷◌, map}
use Rattle.std.proofs.lemmas.Int.{ints}
use Rattle.integers.proofs.Solver.{Expr.{var, num, ◌⊕◌, ◌⊝◌, ◌⊗◌}, given, linear}
use Rattle.integers.proofs.Order.{mul_left_cancel_pos}
use Rattle.fractions.specs.Parts.{edge}
use Rattle.quotient.specs.Closure.{IsClosure, IsProduct}
use Rattle.quotient.proofs.ListLaws.{Contains-map, Contains-from_map}
use Rattle.motions.specs.declared.layer.LayerMotion.{LayerMotion}
use Rattle.motions.specs.PlaneMatrices.{Matrix2, Pair, minus2, plus2}
use Rattle.motions.specs.Laws.PlaneMatrixLaws.{plus2-minus_first}
use Rattle.motions.specs.PlaneViews.{matrix2_of, pair_of}
use Rattle.motions.specs.Layers.{PlanarMotion, planar_of}
use Rattle.layer_types.specs.declared.layer_type.LayerType.{LayerType}
use Rattle.layer_types.specs.Lattices.{InLattice, half_edge, layer_kind}
use Rattle.layer_types.specs.LayerTypes.{IsLayerType}
use Rattle.layer_types.specs.Rows.{layer_row}
use Rattle.layer_types.specs.Laws.ShiftLaws.{same_is}
use Rattle.motions.specs.Rationals.{IsListed, RationalMotion, RationalPair, SameRationals, in_edges, rational_minus}
use Rattle.recognition.specs.Changes.{Carries, IsLatticeVector, IsOperation}
use Rattle.recognition.specs.Order.{origin_at}
use Rattle.recognition.specs.Listed.{CarriesListed, IsInLattice}

-- ---- vectors of a lattice

-- x over d is k edges of e parts
whole_same : (x d k e : ℤ) → x ≡ d *ℤ k → x *ℤ e ≡ (e *ℤ k) *ℤ d
whole_same x d k e h = linear (x ∷ d ∷ k ∷ e ∷ []) (var 0 ⊗ var 3) ((var 3 ⊗ var 2) ⊗ var 1) (given (var 3) (var 0) (var 1 ⊗ var 2) ∷ []) tt (h, tt)

same_whole : (x d v a e : ℤ) → pos 1 ≤ℤ e → x *ℤ e ≡ v *ℤ d → v ≡ e *ℤ a → x ≡ d *ℤ a
same_whole x d v a e one h k =
    mul_left_cancel_pos e x (d *ℤ a) one
    (linear (x ∷ d ∷ v ∷ a ∷ e ∷ []) (var 4 ⊗ var 0) (var 4 ⊗ (var 1 ⊗ var 3))
    (given (num (pos 1)) (var 0 ⊗ var 4) (var 2 ⊗ var 1) ∷ given (var 1) (var 2) (var 4 ⊗ var 3) ∷ []) tt (h, (k, tt)))

-- x over d is k edges of 2 h parts and a half
half_same : (x d k h : ℤ) → x *ℤ pos 2 -ℤ pos 1 *ℤ d ≡ (d *ℤ pos 2) *ℤ k → x *ℤ (pos 2 *ℤ h) ≡ ((pos 2 *ℤ h) *ℤ k +ℤ h) *ℤ d
half_same x d k h e =
    linear (x ∷ d ∷ k ∷ h ∷ []) (var 0 ⊗ (num (pos 2) ⊗ var 3)) (((num (pos 2) ⊗ var 3) ⊗ var 2 ⊕ var 3) ⊗ var 1)
    (given (var 3) (var 0 ⊗ num (pos 2) ⊝ num (pos 1) ⊗ var 1) ((var 1 ⊗ num (pos 2)) ⊗ var 2) ∷ []) tt (e, tt)

same_half : (x d v a h : ℤ) → pos 1 ≤ℤ h → x *ℤ (pos 2 *ℤ h) ≡ v *ℤ d → v -ℤ h ≡ (pos 2 *ℤ h) *ℤ a → x *ℤ pos 2 -ℤ pos 1 *ℤ d ≡ (d *ℤ pos 2) *ℤ a
same_half x d v a h one e k =
    mul_left_cancel_pos h (x *ℤ pos 2 -ℤ pos 1 *ℤ d) ((d *ℤ pos 2) *ℤ a) one
    (linear (x ∷ d ∷ v ∷ a ∷ h ∷ []) (var 4 ⊗ (var 0 ⊗ num (pos 2) ⊝ num (pos 1) ⊗ var 1)) (var 4 ⊗ ((var 1 ⊗ num (pos 2)) ⊗ var 3))
    (given (num (pos 1)) (var 0 ⊗ (num (pos 2) ⊗ var 4)) (var 2 ⊗ var 1) ∷ given (var 1) (var 2 ⊝ var 4) ((num (pos 2) ⊗ var 4) ⊗ var 3) ∷ []) tt (e, (k, tt)))

to_vector : (c : Bool) (u : RationalPair) → IsInLattice c u → (v : Pair) × InLattice c v × SameRationals u (in_edges v)
to_vector c u (inl w) = (
  record { x = edge *ℤ w.x.0; y = edge *ℤ w.y.0 },
  inl (record { a = w.x.0; b = w.y.0; x = refl; y = refl }),
  record { x = whole_same u.x u.over w.x.0 edge w.x.1; y = whole_same u.y u.over w.y.0 edge w.y.1 },
)
to_vector c u (inr (t, w)) = (
  record { x = edge *ℤ w.x.0 +ℤ half_edge; y = edge *ℤ w.y.0 +ℤ half_edge },
  inr (t, record { a = w.x.0; b = w.y.0; x = back (edge *ℤ w.x.0) half_edge; y = back (edge *ℤ w.y.0) half_edge }),
  record { x = half_same u.x u.over w.x.0 half_edge w.x.1; y = half_same u.y u.over w.y.0 half_edge w.y.1 },
)
  where
    back : (z h : ℤ) → (z +ℤ h) -ℤ h ≡ z
    back z h = omega (arith, ints)

from_vector : (c : Bool) (u : RationalPair) (v : Pair) → InLattice c v → SameRationals u (in_edges v) → IsInLattice c u
from_vector c u v (inl w) s = inl (record {
  x = (w.a, same_whole u.x u.over v.x w.a edge (omega (arith, ints)) s.x w.x);
  y = (w.b, same_whole u.y u.over v.y w.b edge (omega (arith, ints)) s.y w.y);
})
from_vector c u v (inr (t, w)) s = inr (
  t,
  record {
    x = (w.a, same_half u.x u.over v.x w.a half_edge (omega (arith, ints)) s.x w.x);
    y = (w.b, same_half u.y u.over v.y w.b half_edge (omega (arith, ints)) s.y w.y);
  },
)

-- ---- operations

module _ (c : Bool) (generators : List PlanarMotion) (ops : List LayerMotion) (closure : IsClosure (layer_kind c) generators (map planar_of ops)) where
  -- what an operation of the type is
  record Made (op : RationalMotion) : Type 0 where
    motion : PlanarMotion
    product : IsProduct (layer_kind c) generators motion
    matrix : op.matrix ≡ motion.matrix
    side : op.side ≡ motion.side
    translation : SameRationals op.translation (in_edges motion.translation)

  together : (s o m v e : ℤ) → pos 1 ≤ℤ e → (s *ℤ e -ℤ m *ℤ o) *ℤ e ≡ v *ℤ (o *ℤ e) → s *ℤ e ≡ (m +ℤ v) *ℤ o
  together s o m v e one h =
      mul_left_cancel_pos e (s *ℤ e) ((m +ℤ v) *ℤ o) one
      (linear (s ∷ o ∷ m ∷ v ∷ e ∷ []) (var 4 ⊗ (var 0 ⊗ var 4)) (var 4 ⊗ ((var 2 ⊕ var 3) ⊗ var 1))
      (given (num (pos 1)) ((var 0 ⊗ var 4 ⊝ var 2 ⊗ var 1) ⊗ var 4) (var 3 ⊗ (var 1 ⊗ var 4)) ∷ []) tt (h, tt))

  made : (op : RationalMotion) → IsListed (IsInLattice c) ops op → Made op
  made op h =
      let m = h.motion in
      let (v, inside, same) = to_vector c (rational_minus op.translation (in_edges (pair_of m.t))) h.translation in
      let motion : PlanarMotion = record { matrix = matrix2_of m.a; side = m.e; translation = plus2 (pair_of m.t) v } in
      record {
        motion = motion;
        product = closure.within motion (record {
          of = planar_of m;
          listed = Contains-map planar_of ops m h.listed;
          same = (same_is c motion (planar_of m)).1 (record { matrix = refl; side = refl; translation = subst (InLattice c) (sym (plus2-minus_first (pair_of m.t) v)) inside });
        });
        matrix = h.matrix;
        side = h.side;
        translation = record {
          x = together op.translation.x op.translation.over (pair_of m.t).x v.x edge (omega (arith, ints)) same.x;
          y = together op.translation.y op.translation.over (pair_of m.t).y v.y edge (omega (arith, ints)) same.y;
        };
      }

  apart_from : (s o t m e : ℤ) → s *ℤ e ≡ t *ℤ o → (s *ℤ e -ℤ m *ℤ o) *ℤ e ≡ (t -ℤ m) *ℤ (o *ℤ e)
  apart_from s o t m e h =
      linear (s ∷ o ∷ t ∷ m ∷ e ∷ []) ((var 0 ⊗ var 4 ⊝ var 3 ⊗ var 1) ⊗ var 4) ((var 2 ⊝ var 3) ⊗ (var 1 ⊗ var 4))
      (given (var 4) (var 0 ⊗ var 4) (var 2 ⊗ var 1) ∷ []) tt (h, tt)

  listed : (op : RationalMotion) → Made op → IsListed (IsInLattice c) ops op
  listed op h =
      let l = closure.covers h.motion h.product in
      let (m, within, is) = Contains-from_map planar_of ops l.of l.listed in
      let same = (same_is c h.motion l.of).0 l.same in
      let Shift : PlanarMotion → Type 0 = λ k. InLattice c (minus2 h.motion.translation k.translation) in
      record {
        motion = m;
        listed = within;
        matrix = h.matrix ∙ same.matrix ∙ ap (λ (k : PlanarMotion). k.matrix) (sym is);
        side = h.side ∙ same.side ∙ ap (λ (k : PlanarMotion). k.side) (sym is);
        translation =
            from_vector c (rational_minus op.translation (in_edges (pair_of m.t))) (minus2 h.motion.translation (pair_of m.t)) (subst Shift (sym is) same.translation)
            (record {
              x = apart_from op.translation.x op.translation.over h.motion.translation.x (pair_of m.t).x edge h.translation.x;
              y = apart_from op.translation.y op.translation.over h.motion.translation.y (pair_of m.t).y edge h.translation.y;
            });
      }

-- ---- the same for a type

module _ (n : ℕ) (t : LayerType) (h : IsLayerType n t) where
  abbrev c : Bool
  c = (layer_row n).centred

  pub to_operation : (op : RationalMotion) → IsListed (IsInLattice t.centred) t.ops.now op → IsOperation n op
  to_operation op l =
      let m = made c (layer_row n).generators t.ops.now h.closure op (subst (λ b. IsListed (IsInLattice b) t.ops.now op) h.centred l) in
      record { motion = m.motion; product = m.product; matrix = m.matrix; side = m.side; translation = m.translation }

  pub from_operation : (op : RationalMotion) → IsOperation n op → IsListed (IsInLattice t.centred) t.ops.now op
  from_operation op o =
      subst (λ b. IsListed (IsInLattice b) t.ops.now op) (sym h.centred)
      (listed c (layer_row n).generators t.ops.now h.closure op (record { motion = o.motion; product = o.product; matrix = o.matrix; side = o.side; translation = o.translation }))

  pub to_lattice_vector : (u : RationalPair) → IsInLattice t.centred u → IsLatticeVector n u
  to_lattice_vector u i =
      let v = to_vector c u (subst (λ b. IsInLattice b u) h.centred i) in record { vector = v.0; inside = v.1; is = v.2 }

  pub from_lattice_vector : (u : RationalPair) → IsLatticeVector n u → IsInLattice t.centred u
  from_lattice_vector u i = subst (λ b. IsInLattice b u) (sym h.centred) (from_vector c u i.vector i.inside i.is)

-- a change carries the section onto the type exactly where it does so by the listed operations
pub carries_listed : (section : List LayerMotion) (n : ℕ) (t : LayerType) (p : Matrix2) (x y : ℕ) → IsLayerType n t
    → CarriesListed section t p x y ↔ Carries section n p (origin_at x y)
carries_listed section n t p x y h = (
  λ l. record {
    lattice = record {
      whole = λ u hu i. l.lattice.whole u hu (from_lattice_vector n t h u i);
      every = λ v hv w. let (u, hu, i, s) = l.lattice.every v hv w in (u, hu, to_lattice_vector n t h u i, s);
    };
    operations = λ op ho. (
      λ s. let (like, high, i, c) = (l.operations op ho).0 s in (like, high, to_operation n t h like i, c),
      λ (like, high, i, c). (l.operations op ho).1 (like, high, from_operation n t h like i, c),
    );
  },
  λ l. record {
    lattice = record {
      whole = λ u hu i. l.lattice.whole u hu (to_lattice_vector n t h u i);
      every = λ v hv w. let (u, hu, i, s) = l.lattice.every v hv w in (u, hu, from_lattice_vector n t h u i, s);
    };
    operations = λ op ho. (
      λ s. let (like, high, i, c) = (l.operations op ho).0 s in (like, high, from_operation n t h like i, c),
      λ (like, high, i, c). (l.operations op ho).1 (like, high, to_operation n t h like i, c),
    );
  },
)
