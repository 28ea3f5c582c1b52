-- What a member that keeps the orientation is in the coordinates of a frame, from a point of a plane.
use Rattle.std.proofs.Common.{◌≡◌, ◌↔◌, ◌⊎◌, inl, inr, ℕ, ◌*◌, ◌+◌, ℤ, pos, negsuc, ◌+ℤ◌, ◌-ℤ◌, ◌*ℤ◌, ◌≤ℤ◌, ◌<ℤ◌, nat_abs, pred, List, [], ◌∷◌, refl, sym, ap, subst, ◌∙◌, arith, lit≤}
use Rattle.std.specs.Prelude.{unsigned_abs}
use Rattle.std.proofs.lemmas.Int.{ints}
use native.Mathlib.Decide.{dec_lt}
use Rattle.fractions.specs.declared.part.TheConstants.{UNIT}
use Rattle.fractions.specs.Fraction.{SameFraction}
use Rattle.integers.specs.Size.{IsWithin}
use Rattle.integers.proofs.Order.{mul_left_cancel_pos, one-le-mul, zero-le-mul}
use Rattle.integers.proofs.Ring.{add_zero, IsWithin-add, IsWithin-more, IsWithin-mul, mul_zero}
use Rattle.integers.proofs.Solver.{Expr, Expr.{var, num, ◌⊕◌, ◌⊝◌, ◌⊗◌}, Given, ring, linear, given}
use Rattle.symmetry.specs.Vectors.{Vector, plus, minus, multiple, opposite, dot, image, row_times}
use Rattle.symmetry.specs.Motions.{Motion, Point, moved}
use Rattle.symmetry.specs.Planes.{Height, IsCoprime, KeepsPlane, KeepsRow, TurnsRow}
use Rattle.symmetry.specs.Groups.{Listing, IsGroup, IsInLattice, IsMember}
use Rattle.symmetry.specs.Frames.{Basis, combination, IsFrame, IsSkewed, IsSpecial, IsAtHome, KeepsOrientation}
use Rattle.symmetry.specs.Sizes.{IsVectorWithin}
use Rattle.symmetry.specs.Scans.{IsInPeriod}
use Rattle.symmetry.proofs.Coprime.{not_opposite}
use Rattle.symmetry.proofs.FrameLaws.{lattice_periods, plane_lattice, combination-minus, combination-multiple, combination-plus}
use Rattle.symmetry.proofs.GroupLaws.{member_keeps}
use Rattle.symmetry.proofs.LatticeLaws.{lattice-plus, lattice-minus, lattice-multiple}
use Rattle.symmetry.proofs.MatrixLaws.{row_times-dot}
use Rattle.symmetry.proofs.PlaneRows.{plane_by_row, member_invertible, special_by_row}
use Rattle.symmetry.proofs.VectorLaws.{vector_path, dot-plus, dot-multiple, multiple-dot, multiple-multiple, multiple-one}
use Rattle.symmetry.proofs.Signs.{same_orientation}
use Rattle.motions.specs.PlaneMatrices.{Pair, in_space}
use Rattle.motions.specs.PlaneSizes.{IsPairWithin}
use Rattle.motions.specs.Rationals.{in_edges}
use Rattle.motions.specs.Signs.{sign_value}
use Rattle.motions.specs.declared.motion.Sign.{Sign}
use Rattle.motions.specs.declared.motion.Sign.TheVariants.{Plus, Minus}
use Rattle.plane_lattice.specs.Coordinates.{IsPlaneCombination}
use Rattle.plane_lattice.specs.FrameTests.{PassesFrameTests}
use Rattle.plane_lattice.specs.Sections.{IsSeenAs, columns, drift, height_in_steps, in_cell, largest_drift, point_at}
use Rattle.plane_lattice.proofs.Edges.{whole_edges}
use Rattle.plane_lattice.proofs.FrameTestFacts.{frame_passes_tests}
use Rattle.plane_lattice.proofs.LatticeTests.{edges_held}
use Rattle.plane_lattice.proofs.Oriented.{positive_factor}
use Rattle.plane_lattice.proofs.SeenPoints.{moved_along}
use Rattle.plane_lattice.proofs.Steps.{step_within}
use Rattle.plane_lattice.proofs.Skewness.{IsTurned, same_turned}

-- ---- a vector of the plane as a combination

-- x a + y b
pub combination-in_space : (f : Basis) (p : Pair) → combination f (in_space p) ≡ plus (multiple p.x f.a) (multiple p.y f.b)
unfolding plus multiple
combination-in_space f p = vector_path (omega (arith, ints)) (omega (arith, ints)) (omega (arith, ints))

-- ---- (hkl).v of a drift

dot_entry : (k s d w : ℤ) → k *ℤ (s *ℤ d +ℤ negsuc 0 *ℤ d) +ℤ pos 2 *ℤ UNIT *ℤ w ≡ k *ℤ s *ℤ d +ℤ negsuc 0 *ℤ (k *ℤ d) +ℤ pos 2 *ℤ UNIT *ℤ w
dot_entry k s d w =
    ring (k ∷ s ∷ d ∷ w ∷ []) (var 0 ⊗ (var 1 ⊗ var 2 ⊕ num (negsuc 0) ⊗ var 2) ⊕ num (pos 2 *ℤ UNIT) ⊗ var 3)
    (var 0 ⊗ var 1 ⊗ var 2 ⊕ num (negsuc 0) ⊗ (var 0 ⊗ var 2) ⊕ num (pos 2 *ℤ UNIT) ⊗ var 3) tt

-- with e = 1 it is (hkl).w, and with e = -1 the plane is turned over
kept_dot : (k d w : ℤ) → (k *ℤ pos 1 *ℤ d +ℤ negsuc 0 *ℤ (k *ℤ d) +ℤ pos 2 *ℤ UNIT *ℤ w ≡ pos 0) ↔ (w ≡ pos 0)
kept_dot k d w =
    let simple : k *ℤ pos 1 *ℤ d +ℤ negsuc 0 *ℤ (k *ℤ d) +ℤ pos 2 *ℤ UNIT *ℤ w ≡ pos 2 *ℤ UNIT *ℤ w =
    ring (k ∷ d ∷ w ∷ []) (var 0 ⊗ num (pos 1) ⊗ var 1 ⊕ num (negsuc 0) ⊗ (var 0 ⊗ var 1) ⊕ num (pos 2 *ℤ UNIT) ⊗ var 2)
    (num (pos 2 *ℤ UNIT) ⊗ var 2) tt in (
      λ e. mul_left_cancel_pos (pos 2 *ℤ UNIT) w (pos 0) (omega (arith, ints)) (sym simple ∙ e ∙ sym (mul_zero (pos 2 *ℤ UNIT))),
      λ e. simple ∙ ap (λ x. pos 2 *ℤ UNIT *ℤ x) e ∙ mul_zero (pos 2 *ℤ UNIT),
    )

turned_dot : (k d w : ℤ) → (k *ℤ negsuc 0 *ℤ d +ℤ negsuc 0 *ℤ (k *ℤ d) +ℤ pos 2 *ℤ UNIT *ℤ w ≡ pos 0)
    ↔ (pos 2 *ℤ (k *ℤ d) *ℤ UNIT ≡ pos 2 *ℤ UNIT *ℤ UNIT *ℤ w)
turned_dot k d w =
    let e : List ℤ = k ∷ d ∷ w ∷ [] in
    let x : Expr = var 0 ⊗ num (negsuc 0) ⊗ var 1 ⊕ num (negsuc 0) ⊗ (var 0 ⊗ var 1) ⊕ num (pos 2 *ℤ UNIT) ⊗ var 2 in
    let left : Expr = num (pos 2) ⊗ (var 0 ⊗ var 1) ⊗ num UNIT in
    let right : Expr = num (pos 2 *ℤ UNIT *ℤ UNIT) ⊗ var 2 in (
      λ h. linear e left right (given (num (negsuc 0 *ℤ UNIT)) x (num (pos 0)) ∷ []) tt (h, tt),
      λ h. mul_left_cancel_pos UNIT (k *ℤ negsuc 0 *ℤ d +ℤ negsuc 0 *ℤ (k *ℤ d) +ℤ pos 2 *ℤ UNIT *ℤ w) (pos 0) (omega (arith, ints))
          (linear e (num UNIT ⊗ x) (num UNIT ⊗ num (pos 0)) (given (num (negsuc 0)) left right ∷ []) tt (h, tt)),
    )

module _ (g : Listing) (r : Vector) (f : Basis) (group : IsGroup g) (coprime : IsCoprime r) (frame : IsFrame g r f)
    (m : Motion) (member : IsMember g m) (e : Sign) (row : row_times r m.matrix ≡ multiple (sign_value e) r) where
  passes : PassesFrameTests g r f
  passes = frame_passes_tests g r f frame

  dot-turned : (v : Vector) → dot r (image m.matrix v) ≡ sign_value e *ℤ dot r v
  dot-turned v = sym (row_times-dot r m.matrix v) ∙ ap (λ u. dot u v) row ∙ multiple-dot (sign_value e) r v

  turned_in_plane : (v : Vector) → IsInLattice g v → dot r v ≡ pos 0 → IsPlaneCombination f (image m.matrix v)
  turned_in_plane v in_it flat =
      (plane_lattice g r f frame (image m.matrix v)).0
      (member_keeps g group m member v in_it, dot-turned v ∙ ap (λ x. sign_value e *ℤ x) flat ∙ mul_zero (sign_value e))

  -- W a and W b lie in the plane
  pub turned_a : IsPlaneCombination f (image m.matrix f.a)
  turned_a = turned_in_plane f.a passes.a_in passes.a_in_plane

  pub turned_b : IsPlaneCombination f (image m.matrix f.b)
  turned_b = turned_in_plane f.b passes.b_in passes.b_in_plane

  -- ---- the drift is in the lattice

  edges_in : (v : Vector) → IsInLattice g (multiple UNIT v)
  edges_in v =
      let (c, is) = whole_edges f (edges_held g f frame.spans) v in
      subst (IsInLattice g) is (frame.inside c)

  drift_in : (k : ℤ) → IsInLattice g (drift m f.tau k)
  drift_in k =
      lattice-plus g (multiple k (minus (image m.matrix f.tau) f.tau)) (multiple (pos 2 *ℤ UNIT) m.translation)
      (lattice-multiple g k (minus (image m.matrix f.tau) f.tau)
      (lattice-minus g (image m.matrix f.tau) f.tau (member_keeps g group m member f.tau passes.tau_in) passes.tau_in))
      (subst (IsInLattice g) (multiple-multiple (pos 2) UNIT m.translation) (lattice-multiple g (pos 2) (multiple UNIT m.translation) (edges_in m.translation)))

  dot-drift : (k : ℤ) → dot r (drift m f.tau k)
      ≡ k *ℤ sign_value e *ℤ dot r f.tau +ℤ negsuc 0 *ℤ (k *ℤ dot r f.tau) +ℤ pos 2 *ℤ UNIT *ℤ dot r m.translation
  dot-drift k =
      dot-plus r (multiple k (minus (image m.matrix f.tau) f.tau)) (multiple (pos 2 *ℤ UNIT) m.translation)
      ∙ (λ i. dot-multiple r k (minus (image m.matrix f.tau) f.tau) i +ℤ dot-multiple r (pos 2 *ℤ UNIT) m.translation i)
      ∙ ap (λ x. k *ℤ x +ℤ pos 2 *ℤ UNIT *ℤ dot r m.translation)
      (dot-plus r (image m.matrix f.tau) (opposite f.tau) ∙ (λ i. dot-turned f.tau i +ℤ dot-multiple r (negsuc 0) f.tau i))
      ∙ dot_entry k (sign_value e) (dot r f.tau) (dot r m.translation)

  -- ---- the plane is mapped to itself exactly where the drift lies in it

  flat_by_dot : (k : ℤ) → (dot r (drift m f.tau k) ≡ pos 0) ↔ IsPlaneCombination f (drift m f.tau k)
  flat_by_dot k =
      let by = plane_lattice g r f frame (drift m f.tau k) in
      (λ flat. by.0 (drift_in k, flat), λ is. (by.1 is).1)

  abbrev Rows : ℤ → Type 0
  Rows k = KeepsRow r m ⊎ TurnsRow r (height_in_steps (dot r f.tau) k) m

  rows_by_dot : (k : ℤ) (e' : Sign) → e' ≡ e → Rows k ↔ (dot r (drift m f.tau k) ≡ pos 0)
  rows_by_dot k Plus is =
      let plain : row_times r m.matrix ≡ r = row ∙ ap (λ s. multiple (sign_value s) r) (sym is) ∙ multiple-one r in
      let at : dot r (drift m f.tau k) ≡ k *ℤ pos 1 *ℤ dot r f.tau +ℤ negsuc 0 *ℤ (k *ℤ dot r f.tau) +ℤ pos 2 *ℤ UNIT *ℤ dot r m.translation =
      dot-drift k ∙ ap (λ s. k *ℤ sign_value s *ℤ dot r f.tau +ℤ negsuc 0 *ℤ (k *ℤ dot r f.tau) +ℤ pos 2 *ℤ UNIT *ℤ dot r m.translation) (sym is) in
      let both = kept_dot k (dot r f.tau) (dot r m.translation) in (
        λ rows. elim rows [ inl keeps ↦ at ∙ both.1 keeps.1 | inr turns ↦ absurd (not_opposite r coprime (sym plain ∙ turns.0)) ],
        λ flat. inl (plain, both.0 (sym at ∙ flat)),
      )
  rows_by_dot k Minus is =
      let over : row_times r m.matrix ≡ opposite r = row ∙ ap (λ s. multiple (sign_value s) r) (sym is) in
      let at : dot r (drift m f.tau k) ≡ k *ℤ negsuc 0 *ℤ dot r f.tau +ℤ negsuc 0 *ℤ (k *ℤ dot r f.tau) +ℤ pos 2 *ℤ UNIT *ℤ dot r m.translation =
      dot-drift k ∙ ap (λ s. k *ℤ sign_value s *ℤ dot r f.tau +ℤ negsuc 0 *ℤ (k *ℤ dot r f.tau) +ℤ pos 2 *ℤ UNIT *ℤ dot r m.translation) (sym is) in
      let both = turned_dot k (dot r f.tau) (dot r m.translation) in (
        λ rows. elim rows [ inl keeps ↦ absurd (not_opposite r coprime (sym keeps.0 ∙ over)) | inr turns ↦ at ∙ both.1 turns.1 ],
        λ flat. inr (over, both.0 (sym at ∙ flat)),
      )

  pub keeps_by_drift : (k : ℤ) → KeepsPlane r (height_in_steps (dot r f.tau) k) m ↔ IsPlaneCombination f (drift m f.tau k)
  keeps_by_drift k =
      let high : pos 1 ≤ℤ (height_in_steps (dot r f.tau) k).den = omega (arith, ints) in
      let rows = plane_by_row r (height_in_steps (dot r f.tau) k) m coprime high (member_invertible g m group member) in
      let dots = rows_by_dot k e refl in
      let planes = flat_by_dot k in
      (λ keeps. planes.0 (dots.0 (rows.0 keeps)), λ is. rows.1 (dots.1 (planes.1 is)))

-- ---- W o + w - o by the drift

shift_entry : (u v w k d : ℤ)
    → pos 2 *ℤ UNIT *ℤ (k *ℤ d *ℤ UNIT *ℤ UNIT *ℤ (u +ℤ negsuc 0 *ℤ v) +ℤ pos 2 *ℤ UNIT *ℤ UNIT *ℤ d *ℤ UNIT *ℤ w)
    ≡ pos 2 *ℤ UNIT *ℤ UNIT *ℤ d *ℤ UNIT *ℤ (k *ℤ (u +ℤ negsuc 0 *ℤ v) +ℤ pos 2 *ℤ UNIT *ℤ w)
shift_entry u v w k d =
    let one : Expr = num UNIT in
    let two : Expr = num (pos 2 *ℤ UNIT) in
    let n : Expr = num (pos 2 *ℤ UNIT *ℤ UNIT) ⊗ var 4 ⊗ one in
    let step : Expr = var 0 ⊕ num (negsuc 0) ⊗ var 1 in
    ring (u ∷ v ∷ w ∷ k ∷ d ∷ []) (two ⊗ (var 3 ⊗ var 4 ⊗ one ⊗ one ⊗ step ⊕ n ⊗ var 2)) (n ⊗ (var 3 ⊗ step ⊕ two ⊗ var 2)) tt

shift_entries : (u v w : Vector) (k d : ℤ)
    → multiple (pos 2 *ℤ UNIT) (plus (multiple (k *ℤ d *ℤ UNIT *ℤ UNIT) (minus u v)) (multiple (pos 2 *ℤ UNIT *ℤ UNIT *ℤ d *ℤ UNIT) w))
    ≡ multiple (pos 2 *ℤ UNIT *ℤ UNIT *ℤ d *ℤ UNIT) (plus (multiple k (minus u v)) (multiple (pos 2 *ℤ UNIT) w))
unfolding plus multiple
shift_entries u v w k d = vector_path (shift_entry u.x v.x w.x k d) (shift_entry u.y v.y w.y k d) (shift_entry u.z v.z w.z k d)

pub shift_by_drift : (f : Basis) (d k : ℤ) (m : Motion) (p : Pair) → combination f (in_space p) ≡ drift m f.tau k
    → multiple (pos 2 *ℤ UNIT)
    (minus (moved m (point_at d (height_in_steps d k) (in_cell f.tau))).at (multiple UNIT (point_at d (height_in_steps d k) (in_cell f.tau)).at))
    ≡ multiple (point_at d (height_in_steps d k) (in_cell f.tau)).over (plus (multiple p.x f.a) (multiple p.y f.b))
shift_by_drift f d k m p is =
    ap (multiple (pos 2 *ℤ UNIT)) (moved_along m (k *ℤ d *ℤ UNIT) (pos 2 *ℤ UNIT *ℤ UNIT *ℤ d *ℤ UNIT) f.tau)
    ∙ shift_entries (image m.matrix f.tau) f.tau m.translation k d
    ∙ ap (multiple (pos 2 *ℤ UNIT *ℤ UNIT *ℤ d *ℤ UNIT)) (sym is ∙ combination-in_space f p)

-- what the coordinates give is what the motion is seen as
pub seen_in_steps : (f : Basis) (c : Point) (d k : ℤ) (m : Motion) (e : Sign) (first second p : Pair)
    → combination f (in_space first) ≡ image m.matrix f.a → combination f (in_space second) ≡ image m.matrix f.b
    → image m.matrix c.at ≡ multiple (sign_value e) c.at → combination f (in_space p) ≡ drift m f.tau k
    → IsSeenAs f c (point_at d (height_in_steps d k) (in_cell f.tau)) m (record { matrix = columns first second; side = e; translation = in_edges p })
seen_in_steps f c d k m e first second p a b third t = record {
  first = sym a ∙ combination-in_space f first;
  second = sym b ∙ combination-in_space f second;
  third = third;
  translation = shift_by_drift f d k m p t;
}

-- ---- sizes

-- three coefficients are near, or they are far
pub near_or_far : (n : ℕ) (v : Vector) → IsVectorWithin n v ⊎ (¬ IsVectorWithin n v)
near_or_far n v =
    elim (dec_lt n (nat_abs v.x)) [
      | yes h ↦ inr (λ near. absurd (omega (arith, near.x.most)))
      | no x ↦ elim (dec_lt n (nat_abs v.y)) [
        | yes h ↦ inr (λ near. absurd (omega (arith, near.y.most)))
        | no y ↦ elim (dec_lt n (nat_abs v.z)) [
          | yes h ↦ inr (λ near. absurd (omega (arith, near.z.most)))
          | no z ↦ inl (record { x = record { most = omega arith }; y = record { most = omega arith }; z = record { most = omega arith } })
        ]
      ]
    ]

pub turned_near : (g : Listing) (r : Vector) (f : Basis) (m : Motion) → ¬ IsSkewed g r f → IsMember g m → KeepsOrientation r m
    → (c : Vector) → IsTurned f m c → IsVectorWithin 500 c
turned_near g r f m not_skewed member keeps c turned =
    elim (near_or_far 500 c) [
      | inl near ↦ near
      | inr far ↦ absurd (not_skewed (record {
        op = member.of;
        listed = member.listed;
        scanning = same_orientation r m member.of member.same.matrix keeps;
        coefficients = c;
        of = same_turned f m member.of c member.same.matrix turned;
        large = far;
      }))
    ]

-- the coordinate of a drift: n x = n k y + (2 UNIT) z, with z from 0 to below n
drift_entry_within : (n k x y z : ℤ) → pos 1 ≤ℤ n → pos 0 ≤ℤ z → z <ℤ n → IsWithin (2 * unsigned_abs UNIT) k → IsWithin 500 y
    → n *ℤ x ≡ n *ℤ k *ℤ y +ℤ pos 2 *ℤ UNIT *ℤ z → IsWithin largest_drift x
drift_entry_within n k x y z above from below step near is =
    let e : List ℤ = n ∷ k ∷ x ∷ y ∷ z ∷ [] in
    let q : Expr = var 2 ⊝ var 1 ⊗ var 3 in
    let two : Expr = num (pos 2 *ℤ UNIT) in
    let sides : Given = given (num (pos 1)) (var 0 ⊗ var 2) (var 0 ⊗ var 1 ⊗ var 3 ⊕ two ⊗ var 4) in
    let sides' : Given = given (num (negsuc 0)) (var 0 ⊗ var 2) (var 0 ⊗ var 1 ⊗ var 3 ⊕ two ⊗ var 4) in
    let more : (x -ℤ k *ℤ y +ℤ pos 1) *ℤ n ≡ pos 2 *ℤ UNIT *ℤ z +ℤ n = linear e ((q ⊕ num (pos 1)) ⊗ var 0) (two ⊗ var 4 ⊕ var 0) (sides ∷ []) tt (is, tt) in
    let less : (pos 2 *ℤ UNIT -ℤ (x -ℤ k *ℤ y)) *ℤ n ≡ pos 2 *ℤ UNIT *ℤ (n -ℤ z) = linear e ((two ⊝ q) ⊗ var 0) (two ⊗ (var 0 ⊝ var 4)) (sides' ∷ []) tt (is, tt) in
    let some = zero-le-mul (pos 2 *ℤ UNIT) z (omega (arith, ints)) from in
    let rest : pos 1 ≤ℤ (n -ℤ z) = omega (arith, ints) in
    let some' = one-le-mul (pos 2 *ℤ UNIT) (n -ℤ z) (omega (arith, ints)) rest in
    let up : pos 0 <ℤ (pos 2 *ℤ UNIT *ℤ z +ℤ n) = omega (arith, ints) in
    let up' : pos 0 <ℤ (pos 2 *ℤ UNIT *ℤ (n -ℤ z)) = omega (arith, ints) in
    let positive : pos 0 <ℤ n = omega (arith, ints) in
    let least = positive_factor (x -ℤ k *ℤ y +ℤ pos 1) n positive (subst (λ (v : ℤ). pos 0 <ℤ v) (sym more) up) in
    let most = positive_factor (pos 2 *ℤ UNIT -ℤ (x -ℤ k *ℤ y)) n positive (subst (λ (v : ℤ). pos 0 <ℤ v) (sym less) up') in
    let all : IsWithin (2 * unsigned_abs UNIT * 500 + pred (2 * unsigned_abs UNIT)) (k *ℤ y +ℤ (x -ℤ k *ℤ y)) =
    IsWithin-add (IsWithin-mul step near) (rest_within (x -ℤ k *ℤ y) least most) in
    IsWithin-more (subst (IsWithin (2 * unsigned_abs UNIT * 500 + pred (2 * unsigned_abs UNIT))) (back (k *ℤ y) x) all) (lit≤ tt)
  where
    back : (a b : ℤ) → a +ℤ (b -ℤ a) ≡ b
    back a b = omega (arith, ints)

    rest_within : (q : ℤ) → pos 0 <ℤ (q +ℤ pos 1) → pos 0 <ℤ (pos 2 *ℤ UNIT -ℤ q) → IsWithin (pred (2 * unsigned_abs UNIT)) q
    rest_within q least most = record { most = omega (arith, ints) }

-- tau itself
abbrev only_tau : Vector
only_tau = record { x = pos 0; y = pos 0; z = pos 1 }

along_tau : (f : Basis) → combination f only_tau ≡ f.tau
unfolding plus multiple
along_tau f = vector_path (omega (arith, ints)) (omega (arith, ints)) (omega (arith, ints))

gathered_entry : (n k u w : ℤ) → n *ℤ k *ℤ u +ℤ pos 2 *ℤ UNIT *ℤ (n *ℤ w) ≡ n *ℤ (k *ℤ u +ℤ pos 2 *ℤ UNIT *ℤ w)
gathered_entry n k u w =
    ring (n ∷ k ∷ u ∷ w ∷ []) (var 0 ⊗ var 1 ⊗ var 2 ⊕ num (pos 2 *ℤ UNIT) ⊗ (var 0 ⊗ var 3))
    (var 0 ⊗ (var 1 ⊗ var 2 ⊕ num (pos 2 *ℤ UNIT) ⊗ var 3)) tt

gathered : (n k : ℤ) (u w : Vector) → plus (multiple (n *ℤ k) u) (multiple (pos 2 *ℤ UNIT) (multiple n w)) ≡ multiple n (plus (multiple k u) (multiple (pos 2 *ℤ UNIT) w))
unfolding plus multiple
gathered n k u w = vector_path (gathered_entry n k u.x w.x) (gathered_entry n k u.y w.y) (gathered_entry n k u.z w.z)

-- the coordinates of n times a drift, where the coordinates c of W tau and those of n w are given
coordinates_of_drift : (f : Basis) (m : Motion) (n k : ℤ) (c by : Vector) → combination f c ≡ image m.matrix f.tau → combination f by ≡ multiple n m.translation
    → combination f (plus (multiple (n *ℤ k) (minus c only_tau)) (multiple (pos 2 *ℤ UNIT) by)) ≡ multiple n (drift m f.tau k)
coordinates_of_drift f m n k c by turned shifted =
    combination-plus f (multiple (n *ℤ k) (minus c only_tau)) (multiple (pos 2 *ℤ UNIT) by)
    ∙ (λ i. plus (combination-multiple f (n *ℤ k) (minus c only_tau) i) (combination-multiple f (pos 2 *ℤ UNIT) by i))
    ∙ (λ i. plus (multiple (n *ℤ k) ((combination-minus f c only_tau ∙ (λ j. minus (turned j) (along_tau f j))) i)) (multiple (pos 2 *ℤ UNIT) (shifted i)))
    ∙ gathered n k (minus (image m.matrix f.tau) f.tau) m.translation

flat_entry : (a c : ℤ) → a *ℤ (c +ℤ negsuc 0 *ℤ pos 0) ≡ a *ℤ c
flat_entry a c = ap (λ x. a *ℤ x) (add_zero c)

pub drift_near : (g : Listing) (r : Vector) (f : Basis) (m : Motion) → IsGroup g → IsFrame g r f → ¬ IsSkewed g r f → IsMember g m → KeepsOrientation r m
    → IsAtHome f m → (k : ℤ) → pos 0 ≤ℤ k → k <ℤ (pos 2 *ℤ UNIT) → (p : Pair) → combination f (in_space p) ≡ drift m f.tau k
    → IsPairWithin largest_drift p
unfolding plus multiple
drift_near g r f m group frame not_skewed member keeps home k from below p is =
    let tests = frame_passes_tests g r f frame in
    let (c, turned) = frame.spans (image m.matrix f.tau) (member_keeps g group m member f.tau tests.tau_in) in
    let near = turned_near g r f m not_skewed member keeps c (inr (inr turned)) in
    let n = home.over in
    let same : multiple n (in_space p) ≡ plus (multiple (n *ℤ k) (minus c only_tau)) (multiple (pos 2 *ℤ UNIT) home.by) =
    frame.once (multiple n (in_space p)) (plus (multiple (n *ℤ k) (minus c only_tau)) (multiple (pos 2 *ℤ UNIT) home.by))
    (combination-multiple f n (in_space p) ∙ ap (multiple n) is ∙ sym (coordinates_of_drift f m n k c home.by turned home.is)) in
    let step = step_within k from below in record {
      x = drift_entry_within n k p.x c.x home.by.x home.positive home.x_from home.x_below step near.x
          ((λ i. (same i).x) ∙ ap (λ v. v +ℤ pos 2 *ℤ UNIT *ℤ home.by.x) (flat_entry (n *ℤ k) c.x));
      y = drift_entry_within n k p.y c.y home.by.y home.positive home.y_from home.y_below step near.y
          ((λ i. (same i).y) ∙ ap (λ v. v +ℤ pos 2 *ℤ UNIT *ℤ home.by.y) (flat_entry (n *ℤ k) c.y));
    }

-- ---- a member that maps a plane to itself keeps the orientation

pub keeps_orientation : (g : Listing) (r : Vector) → IsGroup g → IsCoprime r → (m : Motion) → IsMember g m → (d k : ℤ)
    → KeepsPlane r (height_in_steps d k) m → KeepsOrientation r m
keeps_orientation g r group coprime m member d k keeps =
    let high : pos 1 ≤ℤ (height_in_steps d k).den = omega (arith, ints) in
    elim ((plane_by_row r (height_in_steps d k) m coprime high (member_invertible g m group member)).0 keeps) [
      | inl rows ↦ inl rows.0
      | inr rows ↦ inr rows.0
    ]

-- ---- special heights stand at whole steps

step_same : (p q k d w : ℤ) → pos 2 *ℤ p *ℤ UNIT ≡ q *ℤ w → UNIT *ℤ w ≡ k *ℤ d → p *ℤ (pos 2 *ℤ UNIT *ℤ UNIT) ≡ k *ℤ d *ℤ q
step_same p q k d w twice periods =
    linear (p ∷ q ∷ k ∷ d ∷ w ∷ []) (var 0 ⊗ num (pos 2 *ℤ UNIT *ℤ UNIT)) (var 2 ⊗ var 3 ⊗ var 1)
    (given (num UNIT) (num (pos 2) ⊗ var 0 ⊗ num UNIT) (var 1 ⊗ var 4) ∷ given (var 1) (num UNIT ⊗ var 4) (var 2 ⊗ var 3) ∷ []) tt (twice, (periods, tt))

step_from : (p q k d : ℤ) → pos 1 ≤ℤ q → pos 1 ≤ℤ d → pos 0 ≤ℤ p → p *ℤ (pos 2 *ℤ UNIT *ℤ UNIT) ≡ k *ℤ d *ℤ q → pos 0 ≤ℤ k
step_from p q k d high above from same =
    let x = one-le-mul d q above high in
    let more : (k +ℤ pos 1) *ℤ (d *ℤ q) ≡ p *ℤ (pos 2 *ℤ UNIT *ℤ UNIT) +ℤ d *ℤ q =
    linear (p ∷ q ∷ k ∷ d ∷ []) ((var 2 ⊕ num (pos 1)) ⊗ (var 3 ⊗ var 1)) (var 0 ⊗ num (pos 2 *ℤ UNIT *ℤ UNIT) ⊕ var 3 ⊗ var 1)
    (given (num (negsuc 0)) (var 0 ⊗ num (pos 2 *ℤ UNIT *ℤ UNIT)) (var 2 ⊗ var 3 ⊗ var 1) ∷ []) tt (same, tt) in
    let none = zero-le-mul p (pos 2 *ℤ UNIT *ℤ UNIT) from (omega (arith, ints)) in
    let up : pos 0 <ℤ (p *ℤ (pos 2 *ℤ UNIT *ℤ UNIT) +ℤ d *ℤ q) = omega (arith, ints) in
    let factor = positive_factor (k +ℤ pos 1) (d *ℤ q) (omega (arith, ints)) (subst (λ (z : ℤ). pos 0 <ℤ z) (sym more) up) in
    omega (arith, ints)

step_below : (p q k d : ℤ) → pos 1 ≤ℤ q → pos 1 ≤ℤ d → (p *ℤ UNIT) <ℤ (d *ℤ q) → p *ℤ (pos 2 *ℤ UNIT *ℤ UNIT) ≡ k *ℤ d *ℤ q → k <ℤ (pos 2 *ℤ UNIT)
step_below p q k d high above below same =
    let x = one-le-mul d q above high in
    let rest : pos 1 ≤ℤ (d *ℤ q -ℤ p *ℤ UNIT) = omega (arith, ints) in
    let more : (pos 2 *ℤ UNIT -ℤ k) *ℤ (d *ℤ q) ≡ pos 2 *ℤ UNIT *ℤ (d *ℤ q -ℤ p *ℤ UNIT) =
    linear (p ∷ q ∷ k ∷ d ∷ []) ((num (pos 2 *ℤ UNIT) ⊝ var 2) ⊗ (var 3 ⊗ var 1)) (num (pos 2 *ℤ UNIT) ⊗ (var 3 ⊗ var 1 ⊝ var 0 ⊗ num UNIT))
    (given (num (pos 1)) (var 0 ⊗ num (pos 2 *ℤ UNIT *ℤ UNIT)) (var 2 ⊗ var 3 ⊗ var 1) ∷ []) tt (same, tt) in
    let product = one-le-mul (pos 2 *ℤ UNIT) (d *ℤ q -ℤ p *ℤ UNIT) (omega (arith, ints)) rest in
    let up : pos 0 <ℤ (pos 2 *ℤ UNIT *ℤ (d *ℤ q -ℤ p *ℤ UNIT)) = omega (arith, ints) in
    let factor = positive_factor (pos 2 *ℤ UNIT -ℤ k) (d *ℤ q) (omega (arith, ints)) (subst (λ (z : ℤ). pos 0 <ℤ z) (sym more) up) in
    omega (arith, ints)

pub special_in_steps : (g : Listing) (r : Vector) (f : Basis) → IsGroup g → IsCoprime r → IsFrame g r f → (s : Height) → IsInPeriod (dot r f.tau) s
    → IsSpecial g r s → (k : ℤ) × (pos 0 ≤ℤ k) × (k <ℤ (pos 2 *ℤ UNIT)) × SameFraction s (height_in_steps (dot r f.tau) k)
special_in_steps g r f group coprime frame s in_period special =
    let (m, member, (row, twice)) = (special_by_row g r s group coprime in_period.positive).0 special in
    let (c, is) = whole_edges f (edges_held g f frame.spans) m.translation in
    let (k, periods) = lattice_periods g r f frame (multiple UNIT m.translation) (subst (IsInLattice g) is (frame.inside c)) in
    let d = dot r f.tau in
    let above : pos 1 ≤ℤ d = omega (arith, ints, frame.tau_above) in
    let same = step_same s.num s.den k d (dot r m.translation) twice (sym (dot-multiple r UNIT m.translation) ∙ periods) in
    (k, step_from s.num s.den k d in_period.positive above in_period.from same, step_below s.num s.den k d in_period.positive above in_period.below same, same)
