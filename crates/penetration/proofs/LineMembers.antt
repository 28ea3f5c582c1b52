-- The motions that differ from a given one by a vector of the lattice and map a line to itself: when there are any, and which of
-- them is near.
use Rattle.std.proofs.Common.{◌≡◌, ℤ, pos, negsuc, ◌+ℤ◌, ◌-ℤ◌, ◌*ℤ◌, ◌≤ℤ◌, None, Some, refl, sym, ◌∙◌, ap, subst, arith, [], ◌∷◌}
use Rattle.std.proofs.lemmas.Int.{ints}
use Rattle.fractions.specs.declared.part.TheConstants.{UNIT}
use Rattle.integers.proofs.Division.{fractional_parts}
use Rattle.integers.proofs.Order.{mul_left_cancel_pos, one-le-mul, at_least_one}
use Rattle.integers.proofs.Ring.{mul_zero}
use Rattle.integers.proofs.Solver.{Expr.{var, num, neg, ◌⊕◌, ◌⊝◌, ◌⊗◌}, linear, given}
use Rattle.symmetry.specs.Vectors.{Vector, plus, minus, multiple, dot, cross, image}
use Rattle.symmetry.specs.Motions.{Motion, moved}
use Rattle.symmetry.specs.Planes.{IsCoprime}
use Rattle.symmetry.specs.Groups.{Listing, IsInLattice, IsGroup, IsMember, SameModulo}
use Rattle.symmetry.specs.Frames.{Basis, combination}
use Rattle.symmetry.specs.Lists.{IsChoice}
use Rattle.symmetry.proofs.FrameLaws.{combination-minus, combination-multiple, cramer}
use Rattle.symmetry.proofs.LatticeLaws.{same_member, same_sym, same_trans}
use Rattle.symmetry.proofs.MotionLaws.{motion_path}
use Rattle.symmetry.proofs.VectorLaws.{vector_path, dot-multiple, multiple-minus, minus-minus, dot-cross_first, dot-cross_second}
use Rattle.plane_lattice.specs.Coordinates.{volume, scaled}
use Rattle.plane_lattice.specs.Laws.QuotientLaws.{scaled-combination, scaled-plus}
use Rattle.penetration.specs.Lines.{IsOnLine, InLineStabiliser}
use Rattle.penetration.specs.RodFrames.{IsRodFrame, KeepsDirection, DiffersAlong}
use Rattle.penetration.specs.RodHomes.{HasWholeSteps, IsNear, AreStepsBack}
use Rattle.penetration.specs.RodSections.{counted, drift}
use Rattle.penetration.proofs.DirectionSigns.{direction_sign, keeps_by_sign}
use Rattle.penetration.proofs.LineImages.{stabiliser_by_direction}
use Rattle.penetration.proofs.RodActions.{drift_on_line, unit_positive}

-- ---- points on the line

-- 0 a + 0 b + k c
pub only_axis : (f : Basis) (k : ℤ) → combination f (record { x = pos 0; y = pos 0; z = k }) ≡ multiple k f.tau
unfolding plus multiple
only_axis f k = vector_path (one f.a.x f.b.x f.tau.x) (one f.a.y f.b.y f.tau.y) (one f.a.z f.b.z f.tau.z)
  where
    one : (a b t : ℤ) → pos 0 *ℤ a +ℤ pos 0 *ℤ b +ℤ k *ℤ t ≡ k *ℤ t
    one a b t = omega (arith, ints)

-- one coordinate: so many times the drift is so many times the axis
one_point : (n v r k wx w x u c : ℤ) → v *ℤ ((wx +ℤ w) +ℤ negsuc 0 *ℤ x) ≡ r *ℤ c → c ≡ k *ℤ u
    → ((v *ℤ n) *ℤ n) *ℤ (n *ℤ wx +ℤ n *ℤ w) ≡ (n *ℤ n) *ℤ ((v *ℤ n) *ℤ x +ℤ ((r *ℤ k) *ℤ n) *ℤ u)
one_point n v r k wx w x u c e h =
    linear (n ∷ v ∷ r ∷ k ∷ wx ∷ w ∷ x ∷ u ∷ c ∷ [])
    (((var 1 ⊗ var 0) ⊗ var 0) ⊗ (var 0 ⊗ var 4 ⊕ var 0 ⊗ var 5)) ((var 0 ⊗ var 0) ⊗ ((var 1 ⊗ var 0) ⊗ var 6 ⊕ ((var 2 ⊗ var 3) ⊗ var 0) ⊗ var 7))
    (given (var 0 ⊗ var 0 ⊗ var 0) (var 1 ⊗ ((var 4 ⊕ var 5) ⊕ num (negsuc 0) ⊗ var 6)) (var 2 ⊗ var 8)
    ∷ given (var 0 ⊗ var 0 ⊗ var 0 ⊗ var 2) (var 8) (var 3 ⊗ var 7) ∷ []) tt (e, (h, tt))

-- a point that is moved by a rational multiple of the axis stays on the line
pub point_by_drift : (u at c : Vector) (m : Motion) (k v r : ℤ) → pos 1 ≤ℤ v → c ≡ multiple k u → multiple v (drift m at) ≡ multiple r c
    → IsOnLine u (counted at) (moved m (counted at))
unfolding plus multiple
point_by_drift u at c m k v r positive is e = record {
  by = record { num = r *ℤ k; den = v *ℤ UNIT };
  is_fraction = one-le-mul v UNIT positive unit_positive;
  is = vector_path
      (one_point UNIT v r k (image m.matrix at).x m.translation.x at.x u.x c.x (λ i. (e i).x) (λ i. (is i).x))
      (one_point UNIT v r k (image m.matrix at).y m.translation.y at.y u.y c.y (λ i. (e i).y) (λ i. (is i).y))
      (one_point UNIT v r k (image m.matrix at).z m.translation.z at.z u.z c.z (λ i. (e i).z) (λ i. (is i).z));
}

-- the drifts of two motions of one matrix
pub drift_same : (at : Vector) (m n : Motion) → m.matrix ≡ n.matrix → drift m at ≡ plus (drift n at) (minus m.translation n.translation)
unfolding plus multiple
drift_same at m n e =
    ap (λ w. minus (plus (image w at) m.translation) at) e
    ∙ vector_path
    (one (image n.matrix at).x m.translation.x n.translation.x at.x) (one (image n.matrix at).y m.translation.y n.translation.y at.y) (one (image n.matrix at).z m.translation.z n.translation.z at.z)
  where
    one : (w r s x : ℤ) → (w +ℤ r) +ℤ negsuc 0 *ℤ x ≡ ((w +ℤ s) +ℤ negsuc 0 *ℤ x) +ℤ (r +ℤ negsuc 0 *ℤ s)
    one w r s x = omega (arith, ints)

-- the motion, and then back by a combination of the frame
abbrev pub taken_back : Basis → Vector → Motion → Motion
taken_back f c m = record { matrix = m.matrix; translation = minus m.translation (combination f c) }

drift_back : (f : Basis) (at c : Vector) (m : Motion) → drift (taken_back f c m) at ≡ minus (drift m at) (combination f c)
unfolding plus multiple
drift_back f at c m =
    let k = combination f c in
    vector_path (one (image m.matrix at).x m.translation.x k.x at.x) (one (image m.matrix at).y m.translation.y k.y at.y) (one (image m.matrix at).z m.translation.z k.z at.z)
  where
    one : (w r s x : ℤ) → (w +ℤ (r +ℤ negsuc 0 *ℤ s)) +ℤ negsuc 0 *ℤ x ≡ ((w +ℤ r) +ℤ negsuc 0 *ℤ x) +ℤ negsuc 0 *ℤ s
    one w r s x = omega (arith, ints)

rest_back : (s : Vector) (v : ℤ) (c : Vector) → v *ℤ c.x ≡ s.x → v *ℤ c.y ≡ s.y → minus s (multiple v c) ≡ record { x = pos 0; y = pos 0; z = s.z -ℤ v *ℤ c.z }
unfolding plus multiple
rest_back s v c p q = vector_path (zero (v *ℤ c.x) s.x p) (zero (v *ℤ c.y) s.y q) (same s.z (v *ℤ c.z))
  where
    zero : (a b : ℤ) → a ≡ b → b +ℤ negsuc 0 *ℤ a ≡ pos 0
    zero a b e = omega (arith, ints)

    same : (a b : ℤ) → a +ℤ negsuc 0 *ℤ b ≡ a -ℤ b
    same a b = omega (arith, ints)

-- where the drift is whole along a and b, it is along the axis alone once these are taken back
pub drift_along : (f : Basis) (at c : Vector) (m : Motion) → volume f *ℤ c.x ≡ (scaled f (drift m at)).x → volume f *ℤ c.y ≡ (scaled f (drift m at)).y
    → multiple (volume f) (drift (taken_back f c m) at) ≡ multiple ((scaled f (drift m at)).z -ℤ volume f *ℤ c.z) f.tau
drift_along f at c m ex ey =
    let v = volume f in
    let s = scaled f (drift m at) in
    ap (multiple v) (drift_back f at c m) ∙ multiple-minus v (drift m at) (combination f c)
    ∙ (λ i. minus (sym (cramer f (drift m at)) i) (sym (combination-multiple f v c) i))
    ∙ sym (combination-minus f s (multiple v c)) ∙ ap (combination f) (rest_back s v c ex ey) ∙ only_axis f (s.z -ℤ v *ℤ c.z)

x_of : (v s : Vector) (k : ℤ) (c : Vector) → v ≡ plus s (multiple k c) → v.x ≡ s.x +ℤ k *ℤ c.x
unfolding plus multiple
x_of v s k c e = λ i. (e i).x

y_of : (v s : Vector) (k : ℤ) (c : Vector) → v ≡ plus s (multiple k c) → v.y ≡ s.y +ℤ k *ℤ c.y
unfolding plus multiple
y_of v s k c e = λ i. (e i).y

pub scaled_multiple : (f : Basis) (k : ℤ) (v : Vector) → scaled f (multiple k v) ≡ multiple k (scaled f v)
unfolding multiple
scaled_multiple f k v = vector_path (dot-multiple (cross f.b f.tau) k v) (dot-multiple (cross f.tau f.a) k v) (dot-multiple (cross f.a f.b) k v)

-- two vectors that differ by no multiple
pub differ_by_none : (v w : Vector) (k : ℤ) (c : Vector) → minus v w ≡ multiple k c → k ≡ pos 0 → v ≡ w
unfolding plus multiple
differ_by_none v w k c e h = vector_path (by v.x w.x c.x (λ i. (e i).x)) (by v.y w.y c.y (λ i. (e i).y)) (by v.z w.z c.z (λ i. (e i).z))
  where
    by : (x y c : ℤ) → x +ℤ negsuc 0 *ℤ y ≡ k *ℤ c → x ≡ y
    by x y c e = let zero : k *ℤ c ≡ pos 0 *ℤ c = ap (λ j. j *ℤ c) h in omega (arith, ints, zero)

-- x and y over o and o' are s and t times c, and differ by k c
apart_along : (o o' k s t : ℤ) (x y d c : Vector) → plus y d ≡ x → d ≡ multiple k c → multiple o x ≡ multiple s c → multiple o' y ≡ multiple t c
    → multiple (o' *ℤ s -ℤ o *ℤ t) c ≡ multiple (o *ℤ o' *ℤ k) c
unfolding plus multiple
apart_along o o' k s t x y d c e h p q =
    vector_path
    (one x.x y.x d.x c.x (λ i. (e i).x) (λ i. (h i).x) (λ i. (p i).x) (λ i. (q i).x))
    (one x.y y.y d.y c.y (λ i. (e i).y) (λ i. (h i).y) (λ i. (p i).y) (λ i. (q i).y))
    (one x.z y.z d.z c.z (λ i. (e i).z) (λ i. (h i).z) (λ i. (p i).z) (λ i. (q i).z))
  where
    one : (x y d c : ℤ) → y +ℤ d ≡ x → d ≡ k *ℤ c → o *ℤ x ≡ s *ℤ c → o' *ℤ y ≡ t *ℤ c → (o' *ℤ s -ℤ o *ℤ t) *ℤ c ≡ (o *ℤ o' *ℤ k) *ℤ c
    one x y d c e h p q =
        linear (o ∷ o' ∷ x ∷ y ∷ d ∷ c ∷ k ∷ s ∷ t ∷ [])
        ((var 1 ⊗ var 7 ⊝ var 0 ⊗ var 8) ⊗ var 5) ((var 0 ⊗ var 1 ⊗ var 6) ⊗ var 5)
        (given (var 0 ⊗ var 1) (var 4) (var 6 ⊗ var 5) ∷ given (neg (var 0 ⊗ var 1)) (var 3 ⊕ var 4) (var 2)
        ∷ given (neg (var 1)) (var 0 ⊗ var 2) (var 7 ⊗ var 5) ∷ given (var 0) (var 1 ⊗ var 3) (var 8 ⊗ var 5) ∷ []) tt (h, (e, (p, (q, tt))))

-- ---- members

module _ (g : Listing) (u : Vector) (f : Basis) (group : IsGroup g) (coprime : IsCoprime u) (frame : IsRodFrame g u f) (at : Vector) where
  pub frame_volume : pos 1 ≤ℤ volume f
  frame_volume = at_least_one (volume f) frame.right_handed

  -- a rational multiple of the direction has no coordinate by a row that the axis has none by
  none_by : (row v : Vector) (b a : ℤ) → dot row f.tau ≡ pos 0 → pos 1 ≤ℤ b → multiple b v ≡ multiple a u → dot row v ≡ pos 0
  none_by row v b a none positive e =
      let k = frame.axis.times in
      let at_u : k *ℤ dot row u ≡ pos 0 = sym (dot-multiple row k u) ∙ ap (dot row) (sym frame.axis.is) ∙ none in
      let at_v : b *ℤ dot row v ≡ a *ℤ dot row u = sym (dot-multiple row b v) ∙ ap (dot row) e ∙ dot-multiple row a u in
      mul_left_cancel_pos (k *ℤ b) (dot row v) (pos 0) (one-le-mul k b frame.axis.positive positive)
      (linear (k ∷ b ∷ a ∷ dot row v ∷ dot row u ∷ [])
      ((var 0 ⊗ var 1) ⊗ var 3) ((var 0 ⊗ var 1) ⊗ num (pos 0))
      (given (var 0) (var 1 ⊗ var 3) (var 2 ⊗ var 4) ∷ given (var 2) (var 0 ⊗ var 4) (num (pos 0)) ∷ []) tt (at_v, (at_u, tt)))

  -- so a member that maps the line to itself has a drift with no coordinates along a and b
  pub drift_flat : (n : Motion) → InLineStabiliser g u (counted at) n → ((scaled f (drift n at)).x ≡ pos 0) × ((scaled f (drift n at)).y ≡ pos 0)
  drift_flat n in_it =
      let on = ((stabiliser_by_direction g u (counted at) n group coprime unit_positive).0 in_it).1.point in
      let e = drift_on_line u at n on in (
        none_by (cross f.b f.tau) (drift n at) on.by.den (on.by.num *ℤ UNIT) (dot-cross_second f.b f.tau) on.is_fraction e,
        none_by (cross f.tau f.a) (drift n at) on.by.den (on.by.num *ℤ UNIT) (dot-cross_first f.tau f.a) on.is_fraction e,
      )

  -- the coordinates of the drifts of two motions that are the same modulo L differ by whole ones
  scaled_same : (m n : Motion) → m.matrix ≡ n.matrix → (c : Vector) → combination f c ≡ minus m.translation n.translation
      → scaled f (drift m at) ≡ plus (scaled f (drift n at)) (multiple (volume f) c)
  scaled_same m n e c is =
      ap (scaled f) (drift_same at m n e ∙ ap (plus (drift n at)) (sym is)) ∙ scaled-plus f (drift n at) (combination f c)
      ∙ ap (plus (scaled f (drift n at))) (scaled-combination f c)

  -- where a member that is the same as a motion maps the line to itself, the coordinates of the motion's drift along a and b are whole
  pub whole_drift : (m n : Motion) → InLineStabiliser g u (counted at) n → SameModulo g n m
      → HasWholeSteps f (drift m at)
  whole_drift m n in_it same =
      let (c, is) = frame.spans (minus n.translation m.translation) same.translation in
      let e = scaled_same n m same.matrix c is in
      let (x, y) = drift_flat n in_it in (
        (negsuc 0 *ℤ c.x, by (scaled f (drift m at)).x (volume f) c.x (sym x ∙ x_of (scaled f (drift n at)) (scaled f (drift m at)) (volume f) c e)),
        (negsuc 0 *ℤ c.y, by (scaled f (drift m at)).y (volume f) c.y (sym y ∙ y_of (scaled f (drift n at)) (scaled f (drift m at)) (volume f) c e)),
      )
    where
      by : (s v c : ℤ) → pos 0 ≡ s +ℤ v *ℤ c → v *ℤ (negsuc 0 *ℤ c) ≡ s
      by s v c e =
          linear (s ∷ v ∷ c ∷ []) (var 1 ⊗ (num (negsuc 0) ⊗ var 2)) (var 0) (given (num (pos 1)) (num (pos 0)) (var 0 ⊕ var 1 ⊗ var 2) ∷ []) tt (e, tt)

  -- the motion taken back by a combination is the same modulo L
  taken_back_same : (m : Motion) (c : Vector) → SameModulo g (taken_back f c m) m
  taken_back_same m c = same_sym g m (taken_back f c m) (record { matrix = refl; translation = subst (IsInLattice g) (sym (minus-minus m.translation (combination f c))) (frame.inside c) })

  pub keeps_direction_of : (m : Motion) → InLineStabiliser g u (counted at) m → KeepsDirection u m
  keeps_direction_of m in_it =
      let runs = ((stabiliser_by_direction g u (counted at) m group coprime unit_positive).0 in_it).1 in
      keeps_by_sign u m runs.sign runs.is_sign runs.direction

  -- a member that keeps the direction and moves the point along the line maps the line to itself
  pub in_by_drift : (m : Motion) (v r : ℤ) → IsMember g m → KeepsDirection u m → pos 1 ≤ℤ v → multiple v (drift m at) ≡ multiple r f.tau
      → InLineStabiliser g u (counted at) m
  in_by_drift m v r member keeps positive e =
      let (d, is_sign, turned) = direction_sign u m keeps in
      (stabiliser_by_direction g u (counted at) m group coprime unit_positive).1
      (member, record { sign = d; is_sign = is_sign; direction = turned; point = point_by_drift u at f.tau m frame.axis.times v r positive frame.axis.is e })

  -- two members that map the line to itself and are the same modulo L differ by a multiple of the axis
  pub differs_along : (m n : Motion) → InLineStabiliser g u (counted at) m → InLineStabiliser g u (counted at) n → SameModulo g m n → DiffersAlong f m n
  differs_along m n in_m in_n same =
      let (c, is) = frame.spans (minus m.translation n.translation) same.translation in
      let e = scaled_same m n same.matrix c is in
      let (x, y) = drift_flat m in_m in
      let (x', y') = drift_flat n in_n in record {
        matrix = same.matrix;
        times = c.z;
        translation = sym is ∙ ap (combination f) (vector_path {v = c} {w = record { x = pos 0; y = pos 0; z = c.z }} (by c.x (one _ _ _ (x_of (scaled f (drift m at)) (scaled f (drift n at)) (volume f) c e) x x')) (by c.y (one _ _ _ (y_of (scaled f (drift m at)) (scaled f (drift n at)) (volume f) c e) y y')) refl) ∙ only_axis f c.z;
      }
    where
      by : (c : ℤ) → volume f *ℤ c ≡ pos 0 → c ≡ pos 0
      by c e = mul_left_cancel_pos (volume f) c (pos 0) frame_volume (e ∙ sym (mul_zero (volume f)))

      one : (s s' t : ℤ) → s ≡ s' +ℤ t → s ≡ pos 0 → s' ≡ pos 0 → t ≡ pos 0
      one s s' t e p q = omega (arith, ints)

  pub axis_once : (s t : ℤ) → multiple s f.tau ≡ multiple t f.tau → s ≡ t
  axis_once s t e =
      ap (λ (v : Vector). v.z)
      (frame.once (record { x = pos 0; y = pos 0; z = s }) (record { x = pos 0; y = pos 0; z = t }) (only_axis f s ∙ e ∙ sym (only_axis f t)))

  -- two near motions that differ by a multiple of the axis are one
  pub near_once : (m n : Motion) → IsNear f at m → IsNear f at n → DiffersAlong f m n → m ≡ n
  near_once m n p q differs =
      let apart = apart_along p.over q.over differs.times p.by q.by (drift m at) (drift n at) (minus m.translation n.translation) f.tau
      (sym (drift_same at m n differs.matrix)) differs.translation p.is q.is in
      let zero = fractional_parts p.over q.over p.by q.by differs.times p.from p.below q.from q.below
      (axis_once (q.over *ℤ p.by -ℤ p.over *ℤ q.by) (p.over *ℤ q.over *ℤ differs.times) apart) in
      motion_path differs.matrix (differ_by_none m.translation n.translation differs.times f.tau differs.translation zero)

  -- ---- what the stabiliser has near of the coset of a motion

  -- nothing, where the motion does not keep the direction
  pub turned_choice : (m : Motion) → ¬ KeepsDirection u m → IsChoice (SameModulo g) (IsNear f at) (InLineStabiliser g u (counted at)) m None
  turned_choice m not n in_n near same = not (subst (λ w. KeepsDirection u (record { matrix = w; translation = m.translation })) same.matrix (keeps_direction_of n in_n))

  -- nothing, where the drift is not whole along a, or not along b
  pub apart_choice : (m : Motion) → ¬ HasWholeSteps f (drift m at) → IsChoice (SameModulo g) (IsNear f at) (InLineStabiliser g u (counted at)) m None
  apart_choice m not n in_n near same = not (whole_drift m n in_n same)

  -- else the motion taken back by these and by the whole axes in the rest
  pub back_choice : (m : Motion) (c : Vector) → IsMember g m → KeepsDirection u m
      → AreStepsBack f (drift m at) c → IsChoice (SameModulo g) (IsNear f at) (InLineStabiliser g u (counted at)) m (Some (taken_back f c m))
  back_choice m c member keeps steps =
      let rest = (scaled f (drift m at)).z -ℤ volume f *ℤ c.z in
      let is : multiple (volume f) (drift (taken_back f c m) at) ≡ multiple rest f.tau = drift_along f at c m steps.x steps.y in
      let same = taken_back_same m c in
      let in_it = in_by_drift (taken_back f c m) (volume f) rest (same_member g (taken_back f c m) m same member) keeps frame_volume is in
      let near : IsNear f at (taken_back f c m) = record { over = volume f; positive = frame_volume; by = rest; is = is; from = steps.from; below = steps.below } in (
        in_it,
        near,
        same,
        λ k in_k near_k same_k.
            near_once k (taken_back f c m) near_k near
            (differs_along k (taken_back f c m) in_k in_it (same_trans g k m (taken_back f c m) same_k (same_sym g (taken_back f c m) m same))),
      )
