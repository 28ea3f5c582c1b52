-- An adapted basis that is not left-handed is a frame.
use Rattle.std.proofs.Common.{◌≡◌, zero, suc, ℤ, pos, negsuc, ◌+ℤ◌, ◌-ℤ◌, ◌*ℤ◌, ◌≤ℤ◌, ◌<ℤ◌, [], ◌∷◌, refl, sym, ap, ◌∙◌, arith}
use Rattle.std.proofs.lemmas.Int.{ints}
use Rattle.integers.proofs.Solver.{Expr.{var, num, ◌⊕◌, ◌⊝◌, ◌⊗◌}, linear, given, ring}
use Rattle.fractions.specs.declared.part.TheConstants.{UNIT}
use Rattle.symmetry.specs.Vectors.{Vector, origin, plus, multiple, opposite, dot, cross}
use Rattle.symmetry.specs.Planes.{IsCoprime}
use Rattle.symmetry.specs.Groups.{Listing, third_edge}
use Rattle.symmetry.specs.Frames.{Basis, IsFrame}
use Rattle.symmetry.proofs.VectorLaws.{vector_path, dot_comm, dot-multiple, multiple-dot, dot-origin}
use Rattle.plane_lattice.specs.Coordinates.{HoldsEdges, scaled, volume}
use Rattle.plane_lattice.specs.FrameTests.{IsOriented}
use Rattle.plane_lattice.specs.Laws.QuotientLaws.{scaled-combination}
use Rattle.plane_lattice.proofs.Cramer.{combination_once}
use Rattle.plane_lattice.proofs.FrameTestFacts.{lattice-combination}
use Rattle.plane_lattice.proofs.LatticeTests.{edges_held}
use Rattle.plane_lattice.proofs.Oriented.{oriented_by_volume}
use Rattle.reduction.specs.LatticeBases.{IsLatticeBasis, IsAdapted}
use Rattle.reduction.proofs.Unshortened.{no_squares}

-- ---- a basis of a lattice has a volume

last_is_none : (x y z : ℤ) → x *ℤ pos 0 +ℤ y *ℤ pos 0 +ℤ z *ℤ UNIT ≡ pos 0 → z ≡ pos 0
last_is_none x y z e = omega (arith, ints, e)

-- the determinant of the first two entries of two combinations
determinant_of_two : (c d e c' d' e' ax ay bx by tx ty : ℤ) → ax *ℤ by -ℤ ay *ℤ bx ≡ pos 0 → bx *ℤ ty -ℤ by *ℤ tx ≡ pos 0 → tx *ℤ ay -ℤ ty *ℤ ax ≡ pos 0
    → (c *ℤ ax +ℤ d *ℤ bx +ℤ e *ℤ tx) *ℤ (c' *ℤ ay +ℤ d' *ℤ by +ℤ e' *ℤ ty) -ℤ (c *ℤ ay +ℤ d *ℤ by +ℤ e *ℤ ty) *ℤ (c' *ℤ ax +ℤ d' *ℤ bx +ℤ e' *ℤ tx) ≡ pos 0
determinant_of_two c d e c' d' e' ax ay bx by tx ty h k l =
    let v = var in
    linear (c ∷ d ∷ e ∷ c' ∷ d' ∷ e' ∷ ax ∷ ay ∷ bx ∷ by ∷ tx ∷ ty ∷ [])
    ((v 0 ⊗ v 6 ⊕ v 1 ⊗ v 8 ⊕ v 2 ⊗ v 10) ⊗ (v 3 ⊗ v 7 ⊕ v 4 ⊗ v 9 ⊕ v 5 ⊗ v 11) ⊝ (v 0 ⊗ v 7 ⊕ v 1 ⊗ v 9 ⊕ v 2 ⊗ v 11) ⊗ (v 3 ⊗ v 6 ⊕ v 4 ⊗ v 8 ⊕ v 5 ⊗ v 10))
    (num (pos 0))
    (given (v 0 ⊗ v 4 ⊝ v 1 ⊗ v 3) (v 6 ⊗ v 9 ⊝ v 7 ⊗ v 8) (num (pos 0))
    ∷ given (v 1 ⊗ v 5 ⊝ v 2 ⊗ v 4) (v 8 ⊗ v 11 ⊝ v 9 ⊗ v 10) (num (pos 0))
    ∷ given (v 2 ⊗ v 3 ⊝ v 0 ⊗ v 5) (v 10 ⊗ v 7 ⊝ v 11 ⊗ v 6) (num (pos 0)) ∷ []) tt (h, (k, (l, tt)))

module _ (f : Basis) (held : HoldsEdges f) (none : volume f ≡ pos 0) where
  nothing : (c : ℤ) → volume f *ℤ c ≡ pos 0
  nothing c = ap (λ z. z *ℤ c) none ∙ omega (arith, ints)

  scaled_edge : scaled f third_edge ≡ multiple (volume f) held.third.0
  scaled_edge = ap (scaled f) (sym held.third.1) ∙ scaled-combination f held.third.0

  b_tau : f.b.x *ℤ f.tau.y -ℤ f.b.y *ℤ f.tau.x ≡ pos 0
  unfolding dot cross multiple
  b_tau =
      last_is_none (f.b.y *ℤ f.tau.z -ℤ f.b.z *ℤ f.tau.y) (f.b.z *ℤ f.tau.x -ℤ f.b.x *ℤ f.tau.z) (f.b.x *ℤ f.tau.y -ℤ f.b.y *ℤ f.tau.x)
      (ap (λ (v : Vector). v.x) scaled_edge ∙ nothing held.third.0.x)

  tau_a : f.tau.x *ℤ f.a.y -ℤ f.tau.y *ℤ f.a.x ≡ pos 0
  unfolding dot cross multiple
  tau_a =
      last_is_none (f.tau.y *ℤ f.a.z -ℤ f.tau.z *ℤ f.a.y) (f.tau.z *ℤ f.a.x -ℤ f.tau.x *ℤ f.a.z) (f.tau.x *ℤ f.a.y -ℤ f.tau.y *ℤ f.a.x)
      (ap (λ (v : Vector). v.y) scaled_edge ∙ nothing held.third.0.y)

  a_b : f.a.x *ℤ f.b.y -ℤ f.a.y *ℤ f.b.x ≡ pos 0
  unfolding dot cross multiple
  a_b =
      last_is_none (f.a.y *ℤ f.b.z -ℤ f.a.z *ℤ f.b.y) (f.a.z *ℤ f.b.x -ℤ f.a.x *ℤ f.b.z) (f.a.x *ℤ f.b.y -ℤ f.a.y *ℤ f.b.x)
      (ap (λ (v : Vector). v.z) scaled_edge ∙ nothing held.third.0.z)

  determinant_is : (p q s t : ℤ) → p ≡ UNIT → q ≡ UNIT → s ≡ pos 0 → t ≡ pos 0 → ¬ (p *ℤ q -ℤ s *ℤ t ≡ pos 0)
  determinant_is p q s t e e' h h' is =
      let flat : UNIT *ℤ UNIT -ℤ pos 0 *ℤ pos 0 ≡ pos 0 = sym (λ i. e i *ℤ e' i -ℤ h i *ℤ h' i) ∙ is in
      absurd (omega (arith, ints, flat))

  no_edges : ⊥
  unfolding plus multiple
  no_edges =
      let (c, is) = held.first in
      let (d, is') = held.second in
      determinant_is _ _ _ _ (ap (λ (v : Vector). v.x) is) (ap (λ (v : Vector). v.y) is') (ap (λ (v : Vector). v.y) is) (ap (λ (v : Vector). v.x) is')
      (determinant_of_two c.x c.y c.z d.x d.y d.z f.a.x f.a.y f.b.x f.b.y f.tau.x f.tau.y a_b b_tau tau_a)

pub some_volume : (g : Listing) (f : Basis) → IsLatticeBasis g f → ¬ (volume f ≡ pos 0)
some_volume g f h none = no_edges f (edges_held g f h.spans) none

-- ---- the sign of the volume

turned_cross : (a b : Vector) → cross b a ≡ opposite (cross a b)
unfolding cross multiple
turned_cross a b = vector_path (go a.y b.z a.z b.y) (go a.z b.x a.x b.z) (go a.x b.y a.y b.x)
  where
    go : (p q s t : ℤ) → t *ℤ s -ℤ q *ℤ p ≡ negsuc 0 *ℤ (p *ℤ q -ℤ s *ℤ t)
    go p q s t = ring (p ∷ q ∷ s ∷ t ∷ []) (var 3 ⊗ var 2 ⊝ var 1 ⊗ var 0) (num (negsuc 0) ⊗ (var 0 ⊗ var 1 ⊝ var 2 ⊗ var 3)) tt

-- a row that takes some vector to a positive number has squares that add up to one too
row_square : (r t : Vector) → pos 0 <ℤ dot r t → ¬ (dot r r ≤ℤ pos 0)
row_square r t h k = go (dot r t) h (ap (λ (s : Vector). dot s t) (no_squares r k) ∙ dot_comm origin t ∙ dot-origin t)
  where
    go : (x : ℤ) → pos 0 <ℤ x → ¬ (x ≡ pos 0)
    go x h e = absurd (omega (arith, ints, h, e))

not_positive : (c d : ℤ) → pos 0 <ℤ c → (c *ℤ d) ≤ℤ pos 0 → d ≤ℤ pos 0
not_positive (pos zero) d h k = absurd (omega (arith, ints))
not_positive (pos (suc c)) (pos zero) h k = omega (arith, ints)
not_positive (pos (suc c)) (pos (suc d)) h k = absurd (omega (arith, ints))
not_positive (pos (suc c)) (negsuc d) h k = omega (arith, ints)
not_positive (negsuc c) d h k = absurd (omega (arith, ints))

module _ (g : Listing) (r : Vector) (f : Basis) (coprime : IsCoprime r) (h : IsAdapted g r f) (upright : pos 0 ≤ℤ dot r (cross f.a f.b)) where
  abbrev exchanged : Basis
  exchanged = record { a = f.b; b = f.a; tau = f.tau }

  exchanged_volume : volume exchanged ≡ negsuc 0 *ℤ volume f
  exchanged_volume = ap (λ (v : Vector). dot v f.tau) (turned_cross f.a f.b) ∙ multiple-dot (negsuc 0) (cross f.a f.b) f.tau

  not_below : ¬ (volume f <ℤ pos 0)
  not_below below =
      let e = exchanged_volume in
      let o : IsOriented r exchanged = (oriented_by_volume r exchanged coprime h.b_in_plane h.a_in_plane h.tau_above).0 (omega (arith, ints, below, e)) in
      let (c, some, is) = o.right_handed in
      let turned : c *ℤ dot r r ≡ negsuc 0 *ℤ dot r (cross f.a f.b) =
      sym (dot-multiple r c r) ∙ ap (dot r) (sym is ∙ turned_cross f.a f.b) ∙ dot-multiple r (negsuc 0) (cross f.a f.b) in
      row_square r f.tau h.tau_above (not_positive c (dot r r) some (omega (arith, ints, turned, upright)))

  positive_volume : pos 0 <ℤ volume f
  positive_volume = go (volume f) (some_volume g f h.basis) not_below
    where
      go : (x : ℤ) → ¬ (x ≡ pos 0) → ¬ (x <ℤ pos 0) → pos 0 <ℤ x
      go (pos zero) n k = absurd (n refl)
      go (pos (suc x)) n k = omega (arith, ints)
      go (negsuc x) n k = absurd (k (omega (arith, ints)))

  pub frame : IsFrame g r f
  frame = record {
    spans = h.basis.spans;
    once = combination_once f (some_volume g f h.basis);
    inside = lattice-combination g f h.basis.a_in h.basis.b_in h.basis.tau_in;
    a_in_plane = h.a_in_plane;
    b_in_plane = h.b_in_plane;
    tau_above = h.tau_above;
    right_handed = ((oriented_by_volume r f coprime h.a_in_plane h.b_in_plane h.tau_above).0 positive_volume).right_handed;
  }
