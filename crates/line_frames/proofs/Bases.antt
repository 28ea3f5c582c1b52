-- The vectors a, b and tau are a frame of the planes.
use Rattle.std.proofs.Common.{◌≡◌, inl, zero, suc, ℤ, pos, negsuc, ◌+ℤ◌, ◌-ℤ◌, ◌*ℤ◌, ◌≤ℤ◌, ◌<ℤ◌, [], ◌∷◌, refl, sym, ap, subst, ◌∙◌, lit<, arith}
use Rattle.std.specs.Prelude.{unsigned_abs}
use Rattle.std.proofs.lemmas.Int.{ints}
use Rattle.fractions.specs.declared.part.TheConstants.{UNIT}
use Rattle.integers.specs.Size.{Divides}
use Rattle.integers.proofs.Division.{floor}
use Rattle.integers.proofs.Solver.{Expr.{var, num, ◌⊕◌, ◌⊝◌, ◌⊗◌}, linear, given, ring}
use Rattle.symmetry.specs.Vectors.{Vector, plus, multiple, dot, cross}
use Rattle.symmetry.specs.Groups.{Listing, IsInLattice, third_edge}
use Rattle.symmetry.specs.Planes.{IsCoprime}
use Rattle.symmetry.specs.Frames.{Basis, combination, IsFrame}
use Rattle.symmetry.specs.HeightMotions.{IsSign}
use Rattle.symmetry.proofs.LatticeLaws.{lattice-made, lattice-minus, lattice-multiple}
use Rattle.symmetry.proofs.VectorLaws.{vector_path}
use Rattle.symmetry.proofs.Signs.{sign-square}
use Rattle.plane_lattice.proofs.FrameTestFacts.{tests_make_frame}
use Rattle.line_frames.specs.Searches.{along_lines, IsFirstAbove, IsRepeat}
use Rattle.line_frames.proofs.Along.{dot-along_lines}
use Rattle.line_frames.proofs.Forward.{a_inside, multiple_of_a}
use Rattle.line_frames.proofs.Reducing.{dot-without, without}

-- the third edge times -e
abbrev pub across : ℤ → Vector
across e = multiple (pos 0 -ℤ e) third_edge

third_inside : (g : Listing) → IsInLattice g third_edge
third_inside g = lattice-made g third_edge (inl (2, lit< tt, refl))

module _ (g : Listing) (r : Vector) (coprime : IsCoprime r) (line : r.z ≡ pos 0) (n e : ℤ) (repeat : IsRepeat g r n) (sign : IsSign e)
    (tau : Vector) (first : IsFirstAbove g r (along_lines r (e *ℤ n)) tau)
    (heights : (t : Vector) → IsInLattice g t → Divides (unsigned_abs UNIT) t.z) where
  abbrev pub a : Vector
  a = along_lines r (e *ℤ n)

  abbrev pub basis : Basis
  basis = record { a = a; b = across e; tau = tau }

  dot-third : dot r third_edge ≡ pos 0
  unfolding dot
  dot-third = (λ i. r.x *ℤ pos 0 +ℤ r.y *ℤ pos 0 +ℤ line i *ℤ UNIT) ∙ go r.x r.y
    where
      go : (x y : ℤ) → x *ℤ pos 0 +ℤ y *ℤ pos 0 +ℤ pos 0 *ℤ UNIT ≡ pos 0
      go x y = omega (arith, ints)

  dot-across : dot r (across e) ≡ pos 0
  unfolding dot multiple
  dot-across = (λ i. r.x *ℤ ((pos 0 -ℤ e) *ℤ pos 0) +ℤ r.y *ℤ ((pos 0 -ℤ e) *ℤ pos 0) +ℤ line i *ℤ ((pos 0 -ℤ e) *ℤ UNIT)) ∙ go r.x r.y
    where
      go : (x y : ℤ) → x *ℤ ((pos 0 -ℤ e) *ℤ pos 0) +ℤ y *ℤ ((pos 0 -ℤ e) *ℤ pos 0) +ℤ pos 0 *ℤ ((pos 0 -ℤ e) *ℤ UNIT) ≡ pos 0
      go x y = ring (x ∷ y ∷ e ∷ []) (var 0 ⊗ ((num (pos 0) ⊝ var 2) ⊗ num (pos 0)) ⊕ var 1 ⊗ ((num (pos 0) ⊝ var 2) ⊗ num (pos 0)) ⊕ num (pos 0) ⊗ ((num (pos 0) ⊝ var 2) ⊗ num UNIT)) (num (pos 0)) tt

  right_handed : (c : ℤ) × (pos 0 <ℤ c) × (cross a (across e) ≡ multiple c r)
  unfolding cross multiple
  right_handed = (n *ℤ UNIT, omega (arith, ints, repeat.from), vector_path (go_x r.x) (go_y r.y) (go_z r.x r.y ∙ ap (λ z. n *ℤ UNIT *ℤ z) (sym line)))
    where
      go_x : (x : ℤ) → (e *ℤ n) *ℤ (pos 0 -ℤ x) *ℤ ((pos 0 -ℤ e) *ℤ UNIT) -ℤ pos 0 *ℤ ((pos 0 -ℤ e) *ℤ pos 0) ≡ n *ℤ UNIT *ℤ x
      go_x x =
          linear (e ∷ n ∷ x ∷ []) (var 0 ⊗ var 1 ⊗ (num (pos 0) ⊝ var 2) ⊗ ((num (pos 0) ⊝ var 0) ⊗ num UNIT) ⊝ num (pos 0) ⊗ ((num (pos 0) ⊝ var 0) ⊗ num (pos 0)))
          (var 1 ⊗ num UNIT ⊗ var 2) (given (num UNIT ⊗ var 1 ⊗ var 2) (var 0 ⊗ var 0) (num (pos 1)) ∷ []) tt (sign-square e sign, tt)

      go_y : (y : ℤ) → pos 0 *ℤ ((pos 0 -ℤ e) *ℤ pos 0) -ℤ e *ℤ n *ℤ y *ℤ ((pos 0 -ℤ e) *ℤ UNIT) ≡ n *ℤ UNIT *ℤ y
      go_y y =
          linear (e ∷ n ∷ y ∷ []) (num (pos 0) ⊗ ((num (pos 0) ⊝ var 0) ⊗ num (pos 0)) ⊝ var 0 ⊗ var 1 ⊗ var 2 ⊗ ((num (pos 0) ⊝ var 0) ⊗ num UNIT))
          (var 1 ⊗ num UNIT ⊗ var 2) (given (num UNIT ⊗ var 1 ⊗ var 2) (var 0 ⊗ var 0) (num (pos 1)) ∷ []) tt (sign-square e sign, tt)

      go_z : (x y : ℤ) → e *ℤ n *ℤ y *ℤ ((pos 0 -ℤ e) *ℤ pos 0) -ℤ e *ℤ n *ℤ (pos 0 -ℤ x) *ℤ ((pos 0 -ℤ e) *ℤ pos 0) ≡ n *ℤ UNIT *ℤ pos 0
      go_z x y =
          ring (e ∷ n ∷ x ∷ y ∷ []) (var 0 ⊗ var 1 ⊗ var 3 ⊗ ((num (pos 0) ⊝ var 0) ⊗ num (pos 0)) ⊝ var 0 ⊗ var 1 ⊗ (num (pos 0) ⊝ var 2) ⊗ ((num (pos 0) ⊝ var 0) ⊗ num (pos 0)))
          (var 1 ⊗ num UNIT ⊗ num (pos 0)) tt

  -- a vector of the plane is a multiple of a and one of tau
  in_plane : (t : Vector) → IsInLattice g t → t.z ≡ pos 0 → (q m : ℤ) × (without t m tau ≡ multiple q a)
  unfolding plus multiple
  in_plane t inside flat =
      let (m, from, below) = floor (dot r t) (dot r tau) first.from in
      let rest : Vector = without t m tau in
      let rest_in : IsInLattice g rest = lattice-minus g t (multiple m tau) inside (lattice-multiple g m tau first.reduced.at.inside) in
      let rest_flat : rest.z ≡ pos 0 = (λ i. flat i +ℤ negsuc 0 *ℤ (m *ℤ first.reduced.at.flat i)) ∙ nothing m in
      let height : dot r rest ≡ dot r t -ℤ dot r tau *ℤ m = dot-without r t m tau ∙ swapped (dot r t) m (dot r tau) in
      let none : dot r rest ≡ pos 0 =
      only (dot r rest) (subst (λ z. pos 0 ≤ℤ z) (sym height) from) (subst (λ z. z <ℤ dot r tau) (sym height) below)
      (λ above low. first.least (dot r rest) rest above low (record { inside = rest_in; flat = rest_flat; gives = refl })) in
      let (q, is) = multiple_of_a g r n e repeat sign coprime line rest rest_in rest_flat none in
      (q, m, is)
    where
      nothing : (m : ℤ) → pos 0 +ℤ negsuc 0 *ℤ (m *ℤ pos 0) ≡ pos 0
      nothing m = omega (arith, ints)

      only : (s : ℤ) → pos 0 ≤ℤ s → s <ℤ dot r tau → (pos 1 ≤ℤ s → s <ℤ dot r tau → ⊥) → s ≡ pos 0
      only (pos zero) from below not = refl
      only (pos (suc s)) from below not = absurd (not (omega (arith, ints)) below)
      only (negsuc s) from below not = absurd (omega (arith, ints, from))

      swapped : (x q y : ℤ) → x -ℤ q *ℤ y ≡ x -ℤ y *ℤ q
      swapped x q y = ring (x ∷ q ∷ y ∷ []) (var 0 ⊝ var 1 ⊗ var 2) (var 0 ⊝ var 2 ⊗ var 1) tt

  -- and a vector of the lattice differs from one of the plane by third edges
  spans : (t : Vector) → IsInLattice g t → (c : Vector) × (combination basis c ≡ t)
  unfolding plus multiple
  spans t inside =
      let d = heights t inside in
      let q = d.times in
      let flat : Vector = without t q third_edge in
      let (p, m, is) = in_plane flat (lattice-minus g t (multiple q third_edge) inside (lattice-multiple g q third_edge (third_inside g))) (go_flat q t.z d.is) in (
        record { x = p; y = q *ℤ (pos 0 -ℤ e); z = m },
        vector_path (go_first p q m a.x tau.x t.x (ap (λ (v : Vector). v.x) is)) (go_first p q m a.y tau.y t.y (ap (λ (v : Vector). v.y) is))
            (go_third p q m tau.z t.z d.is first.reduced.at.flat),
      )
    where
      go_flat : (q z : ℤ) → z ≡ q *ℤ UNIT → z +ℤ negsuc 0 *ℤ (q *ℤ UNIT) ≡ pos 0
      go_flat q z h = omega (arith, ints, h)

      go_first : (p q m x u t : ℤ) → t +ℤ negsuc 0 *ℤ (q *ℤ pos 0) +ℤ negsuc 0 *ℤ (m *ℤ u) ≡ p *ℤ x
          → p *ℤ x +ℤ q *ℤ (pos 0 -ℤ e) *ℤ ((pos 0 -ℤ e) *ℤ pos 0) +ℤ m *ℤ u ≡ t
      go_first p q m x u t h =
          linear (p ∷ q ∷ m ∷ x ∷ u ∷ t ∷ e ∷ []) (var 0 ⊗ var 3 ⊕ var 1 ⊗ (num (pos 0) ⊝ var 6) ⊗ ((num (pos 0) ⊝ var 6) ⊗ num (pos 0)) ⊕ var 2 ⊗ var 4) (var 5)
          (given (num (negsuc 0)) (var 5 ⊕ num (negsuc 0) ⊗ (var 1 ⊗ num (pos 0)) ⊕ num (negsuc 0) ⊗ (var 2 ⊗ var 4)) (var 0 ⊗ var 3) ∷ []) tt (h, tt)

      go_third : (p q m u t : ℤ) → t ≡ q *ℤ UNIT → u ≡ pos 0
          → p *ℤ pos 0 +ℤ q *ℤ (pos 0 -ℤ e) *ℤ ((pos 0 -ℤ e) *ℤ UNIT) +ℤ m *ℤ u ≡ t
      go_third p q m u t h k =
          linear (p ∷ q ∷ m ∷ u ∷ t ∷ e ∷ []) (var 0 ⊗ num (pos 0) ⊕ var 1 ⊗ (num (pos 0) ⊝ var 5) ⊗ ((num (pos 0) ⊝ var 5) ⊗ num UNIT) ⊕ var 2 ⊗ var 3) (var 4)
          (given (var 1 ⊗ num UNIT) (var 5 ⊗ var 5) (num (pos 1)) ∷ given (num (negsuc 0)) (var 4) (var 1 ⊗ num UNIT) ∷ given (var 2) (var 3) (num (pos 0)) ∷ [])
          tt (sign-square e sign, (h, (k, tt)))

  pub frame : IsFrame g r basis
  frame = tests_make_frame g r basis (record {
    a_in = a_inside g r n e repeat sign;
    b_in = lattice-multiple g (pos 0 -ℤ e) third_edge (third_inside g);
    tau_in = first.reduced.at.inside;
    a_in_plane = dot-along_lines r (e *ℤ n);
    b_in_plane = dot-across;
    tau_above = omega (arith, ints, first.from);
    right_handed = right_handed;
    combined = λ v made. spans v (lattice-made g v made);
  })
