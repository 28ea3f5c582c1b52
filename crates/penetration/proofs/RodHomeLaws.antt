-- Modulo the axis each motion has one at home, and of those that map a line to itself one near.
use Rattle.std.proofs.Common.{◌≡◌, ℤ, pos, negsuc, ◌+ℤ◌, ◌-ℤ◌, ◌*ℤ◌, ◌≤ℤ◌, refl, sym, ◌∙◌, ap, subst, arith, [], ◌∷◌}
use Rattle.std.proofs.lemmas.Int.{ints}
use Rattle.fractions.specs.declared.part.TheConstants.{UNIT}
use Rattle.integers.proofs.Division.{floor, fractional_parts}
use Rattle.integers.proofs.Order.{one-le-mul}
use Rattle.integers.proofs.Solver.{Expr.{var, num, neg, ◌⊕◌, ◌⊝◌, ◌⊗◌}, linear, given}
use Rattle.symmetry.specs.Vectors.{Vector, plus, minus, multiple}
use Rattle.symmetry.specs.Motions.{Motion}
use Rattle.symmetry.specs.Planes.{IsCoprime}
use Rattle.symmetry.specs.Groups.{Listing, IsInLattice, IsGroup, SameModulo}
use Rattle.symmetry.specs.Frames.{Basis, combination}
use Rattle.symmetry.proofs.FrameLaws.{combination-minus, combination-multiple, cramer}
use Rattle.symmetry.proofs.LatticeLaws.{same_member, lattice-multiple}
use Rattle.symmetry.proofs.MotionLaws.{motion_path}
use Rattle.symmetry.proofs.VectorLaws.{vector_path, multiple-multiple, minus-minus, multiple-minus, multiples-minus}
use Rattle.plane_lattice.specs.Coordinates.{volume, scaled}
use Rattle.plane_lattice.specs.Laws.QuotientLaws.{div_euclid_from, div_euclid_below}
use Rattle.penetration.specs.Lines.{InLineStabiliser}
use Rattle.penetration.specs.RodFrames.{IsRodFrame, KeepsDirection, DiffersAlong}
use Rattle.penetration.specs.RodHomes.{IsAtRodHome, IsNear, rod_home, whole_turns}
use Rattle.penetration.specs.RodSections.{counted, drift}
use Rattle.penetration.proofs.LineImages.{stabiliser_by_direction}
use Rattle.penetration.proofs.LineMembers.{differ_by_none, drift_same, in_by_drift, keeps_direction_of, only_axis}
use Rattle.penetration.proofs.RodActions.{drift_on_line, unit_positive}

-- ---- differing by a multiple of the axis

turned : (v w : Vector) (k : ℤ) (c : Vector) → minus v w ≡ multiple k c → minus w v ≡ multiple (negsuc 0 *ℤ k) c
unfolding plus multiple
turned v w k c e = vector_path (by v.x w.x c.x (λ i. (e i).x)) (by v.y w.y c.y (λ i. (e i).y)) (by v.z w.z c.z (λ i. (e i).z))
  where
    by : (x y c : ℤ) → x +ℤ negsuc 0 *ℤ y ≡ k *ℤ c → y +ℤ negsuc 0 *ℤ x ≡ (negsuc 0 *ℤ k) *ℤ c
    by x y c e =
        linear (x ∷ y ∷ c ∷ k ∷ []) (var 1 ⊕ num (negsuc 0) ⊗ var 0) ((num (negsuc 0) ⊗ var 3) ⊗ var 2)
        (given (num (negsuc 0)) (var 0 ⊕ num (negsuc 0) ⊗ var 1) (var 3 ⊗ var 2) ∷ []) tt (e, tt)

pub differs_sym : (f : Basis) (m n : Motion) → DiffersAlong f m n → DiffersAlong f n m
differs_sym f m n d = record { matrix = sym d.matrix; times = negsuc 0 *ℤ d.times; translation = turned m.translation n.translation d.times f.tau d.translation }

joined : (u v w : Vector) (k l : ℤ) (c : Vector) → minus u v ≡ multiple k c → minus v w ≡ multiple l c → minus u w ≡ multiple (k +ℤ l) c
unfolding plus multiple
joined u v w k l c e h =
    vector_path (by u.x v.x w.x c.x (λ i. (e i).x) (λ i. (h i).x)) (by u.y v.y w.y c.y (λ i. (e i).y) (λ i. (h i).y)) (by u.z v.z w.z c.z (λ i. (e i).z) (λ i. (h i).z))
  where
    by : (x y z c : ℤ) → x +ℤ negsuc 0 *ℤ y ≡ k *ℤ c → y +ℤ negsuc 0 *ℤ z ≡ l *ℤ c → x +ℤ negsuc 0 *ℤ z ≡ (k +ℤ l) *ℤ c
    by x y z c e h =
        linear (x ∷ y ∷ z ∷ c ∷ k ∷ l ∷ []) (var 0 ⊕ num (negsuc 0) ⊗ var 2) ((var 4 ⊕ var 5) ⊗ var 3)
        (given (num (pos 1)) (var 0 ⊕ num (negsuc 0) ⊗ var 1) (var 4 ⊗ var 3)
        ∷ given (num (pos 1)) (var 1 ⊕ num (negsuc 0) ⊗ var 2) (var 5 ⊗ var 3) ∷ []) tt (e, (h, tt))

pub differs_trans : (f : Basis) (k m n : Motion) → DiffersAlong f k m → DiffersAlong f m n → DiffersAlong f k n
differs_trans f k m n d e =
    record { matrix = d.matrix ∙ e.matrix; times = d.times +ℤ e.times; translation = joined k.translation m.translation n.translation d.times e.times f.tau d.translation e.translation }

-- ---- the motion at home

abbrev along : ℤ → Vector
along k = record { x = pos 0; y = pos 0; z = k }

less_along : (s : Vector) (k : ℤ) → record { x = s.x; y = s.y; z = s.z -ℤ k } ≡ minus s (along k)
unfolding plus multiple
less_along s k = vector_path (none s.x) (none s.y) (some s.z k)
  where
    none : (x : ℤ) → x ≡ x +ℤ negsuc 0 *ℤ pos 0
    none x = omega (arith, ints)

    some : (x k : ℤ) → x -ℤ k ≡ x +ℤ negsuc 0 *ℤ k
    some x k = omega (arith, ints)

-- the vector without some whole axes, times the volume
home_is : (f : Basis) (v : Vector) (q : ℤ)
    → combination f (record { x = (scaled f v).x; y = (scaled f v).y; z = (scaled f v).z -ℤ volume f *ℤ q }) ≡ multiple (volume f) (minus v (multiple q f.tau))
home_is f v q =
    let s = scaled f v in
    let d = volume f in
    ap (combination f) (less_along s (d *ℤ q)) ∙ combination-minus f s (along (d *ℤ q))
    ∙ (λ i. minus (cramer f v i) ((only_axis f (d *ℤ q) ∙ sym (multiple-multiple d q f.tau)) i))
    ∙ sym (multiple-minus d v (multiple q f.tau))

pub rod_home_at_home : (f : Basis) → pos 1 ≤ℤ volume f → (m : Motion) → IsAtRodHome f (rod_home f m)
rod_home_at_home f positive m =
    let s = scaled f m.translation in
    let q = whole_turns f m.translation in record {
      over = volume f;
      positive = positive;
      by = record { x = s.x; y = s.y; z = s.z -ℤ volume f *ℤ q };
      is = home_is f m.translation q;
      z_from = div_euclid_from s.z (volume f) positive;
      z_below = div_euclid_below s.z (volume f) positive;
    }

pub rod_home_differs : (f : Basis) (m : Motion) → DiffersAlong f m (rod_home f m)
rod_home_differs f m = record { matrix = refl; times = whole_turns f m.translation; translation = minus-minus m.translation (multiple (whole_turns f m.translation) f.tau) }

-- two vectors over o and o' with coordinates along the axis differ by k c
coordinates_apart : (f : Basis) (o o' k : ℤ) (v w p q : Vector) → minus v w ≡ multiple k f.tau → combination f p ≡ multiple o v → combination f q ≡ multiple o' w
    → combination f (minus (multiple o' p) (multiple o q)) ≡ combination f (along (o *ℤ o' *ℤ k))
coordinates_apart f o o' k v w p q e is_p is_q =
    combination-minus f (multiple o' p) (multiple o q)
    ∙ (λ i. minus (combination-multiple f o' p i) (combination-multiple f o q i))
    ∙ (λ i. minus (multiple o' (is_p i)) (multiple o (is_q i)))
    ∙ multiples-minus o o' v w ∙ ap (multiple (o *ℤ o')) e ∙ multiple-multiple (o *ℤ o') k f.tau ∙ sym (only_axis f (o *ℤ o' *ℤ k))

z_apart : (o o' : ℤ) (p q : Vector) (k : ℤ) → minus (multiple o' p) (multiple o q) ≡ along k → o' *ℤ p.z -ℤ o *ℤ q.z ≡ k
unfolding plus multiple
z_apart o o' p q k e = by (o' *ℤ p.z) (o *ℤ q.z) (λ i. (e i).z)
  where
    by : (a b : ℤ) → a +ℤ negsuc 0 *ℤ b ≡ k → a -ℤ b ≡ k
    by a b e = omega (arith, ints)

module _ (g : Listing) (u : Vector) (f : Basis) (frame : IsRodFrame g u f) where
  -- two motions at home that differ by a multiple of the axis are one
  pub rod_home_once : (m n : Motion) → IsAtRodHome f m → IsAtRodHome f n → DiffersAlong f m n → m ≡ n
  rod_home_once m n p q differs =
      let k = p.over *ℤ q.over *ℤ differs.times in
      let apart = frame.once (minus (multiple q.over p.by) (multiple p.over q.by)) (along k)
      (coordinates_apart f p.over q.over differs.times m.translation n.translation p.by q.by differs.translation p.is q.is) in
      let zero = fractional_parts p.over q.over p.by.z q.by.z differs.times p.z_from p.z_below q.z_from q.z_below (z_apart p.over q.over p.by q.by k apart) in
      motion_path differs.matrix (differ_by_none m.translation n.translation differs.times f.tau differs.translation zero)

  -- ---- motions that differ from a member

  pub differs_same : (m n : Motion) → DiffersAlong f m n → SameModulo g m n
  differs_same m n d = record { matrix = d.matrix; translation = subst (IsInLattice g) (sym d.translation) (lattice-multiple g d.times f.tau frame.axis.inside) }

nothing : (v c : Vector) → minus v v ≡ multiple (pos 0) c
unfolding plus multiple
nothing v c = vector_path (by v.x c.x) (by v.y c.y) (by v.z c.z)
  where
    by : (x c : ℤ) → x +ℤ negsuc 0 *ℤ x ≡ pos 0 *ℤ c
    by x c = omega (arith, ints)

less : (b a q : ℤ) (v w d c : Vector) → v ≡ plus w d → d ≡ multiple (negsuc 0 *ℤ q) c → multiple b w ≡ multiple a c → multiple b v ≡ multiple (a -ℤ b *ℤ q) c
unfolding plus multiple
less b a q v w d c e h p =
    vector_path (by v.x w.x d.x c.x (λ i. (e i).x) (λ i. (h i).x) (λ i. (p i).x)) (by v.y w.y d.y c.y (λ i. (e i).y) (λ i. (h i).y) (λ i. (p i).y))
    (by v.z w.z d.z c.z (λ i. (e i).z) (λ i. (h i).z) (λ i. (p i).z))
  where
    by : (v w d c : ℤ) → v ≡ w +ℤ d → d ≡ (negsuc 0 *ℤ q) *ℤ c → b *ℤ w ≡ a *ℤ c → b *ℤ v ≡ (a -ℤ b *ℤ q) *ℤ c
    by v w d c e h p =
        linear (b ∷ a ∷ q ∷ v ∷ w ∷ d ∷ c ∷ []) (var 0 ⊗ var 3) ((var 1 ⊝ var 0 ⊗ var 2) ⊗ var 6)
        (given (var 0) (var 3) (var 4 ⊕ var 5) ∷ given (var 0) (var 5) ((num (negsuc 0) ⊗ var 2) ⊗ var 6)
        ∷ given (num (pos 1)) (var 0 ⊗ var 4) (var 1 ⊗ var 6) ∷ []) tt (e, (h, (p, tt)))

-- so many times the one drift is so many times the direction, and so of the other
moved_drift : (b a k t : ℤ) (v w d c u : Vector) → v ≡ plus w d → d ≡ multiple k c → c ≡ multiple t u → multiple b w ≡ multiple a u
    → multiple (b *ℤ t) v ≡ multiple (a +ℤ b *ℤ (k *ℤ t)) c
unfolding plus multiple
moved_drift b a k t v w d c u e h l p =
    vector_path
    (by v.x w.x d.x c.x u.x (λ i. (e i).x) (λ i. (h i).x) (λ i. (l i).x) (λ i. (p i).x))
    (by v.y w.y d.y c.y u.y (λ i. (e i).y) (λ i. (h i).y) (λ i. (l i).y) (λ i. (p i).y))
    (by v.z w.z d.z c.z u.z (λ i. (e i).z) (λ i. (h i).z) (λ i. (l i).z) (λ i. (p i).z))
  where
    by : (v w d c u : ℤ) → v ≡ w +ℤ d → d ≡ k *ℤ c → c ≡ t *ℤ u → b *ℤ w ≡ a *ℤ u → (b *ℤ t) *ℤ v ≡ (a +ℤ b *ℤ (k *ℤ t)) *ℤ c
    by v w d c u e h l p =
        linear (b ∷ a ∷ k ∷ t ∷ v ∷ w ∷ d ∷ c ∷ u ∷ []) ((var 0 ⊗ var 3) ⊗ var 4) ((var 1 ⊕ var 0 ⊗ (var 2 ⊗ var 3)) ⊗ var 7)
        (given (var 0 ⊗ var 3) (var 4) (var 5 ⊕ var 6) ∷ given (var 0 ⊗ var 3) (var 6) (var 2 ⊗ var 7)
        ∷ given (neg (var 1)) (var 7) (var 3 ⊗ var 8) ∷ given (var 3) (var 0 ⊗ var 5) (var 1 ⊗ var 8) ∷ []) tt (e, (h, (l, (p, tt))))

module _ (g : Listing) (u : Vector) (f : Basis) (group : IsGroup g) (coprime : IsCoprime u) (frame : IsRodFrame g u f) (at : Vector) where
  -- what differs by a multiple of the axis from a member that maps the line to itself is another
  pub differs_stabiliser : (m n : Motion) → DiffersAlong f n m → InLineStabiliser g u (counted at) m → InLineStabiliser g u (counted at) n
  differs_stabiliser m n differs in_it =
      let on = ((stabiliser_by_direction g u (counted at) m group coprime unit_positive).0 in_it).1.point in
      let t = frame.axis.times in
      in_by_drift g u f group coprime frame at n (on.by.den *ℤ t) (on.by.num *ℤ UNIT +ℤ on.by.den *ℤ (differs.times *ℤ t))
      (same_member g n m (differs_same g u f frame n m differs) in_it.0)
      (subst (λ w. KeepsDirection u (record { matrix = w; translation = n.translation })) (sym differs.matrix) (keeps_direction_of g u f group coprime frame at m in_it))
      (one-le-mul on.by.den t on.is_fraction frame.axis.positive)
      (moved_drift on.by.den (on.by.num *ℤ UNIT) differs.times t (drift n at) (drift m at) (minus n.translation m.translation) f.tau u
      (drift_same at n m differs.matrix) differs.translation frame.axis.is (drift_on_line u at m on))

  -- a member that maps the line to itself, moved by whole axes so that it is near
  pub near_of : (m : Motion) → InLineStabiliser g u (counted at) m → (n : Motion) × InLineStabiliser g u (counted at) n × IsNear f at n × DiffersAlong f m n
  near_of m in_it =
      let on = ((stabiliser_by_direction g u (counted at) m group coprime unit_positive).0 in_it).1.point in
      let t = frame.axis.times in
      let e = moved_drift on.by.den (on.by.num *ℤ UNIT) (pos 0) t (drift m at) (drift m at) (minus m.translation m.translation) f.tau u
      (drift_same at m m refl) (nothing m.translation f.tau) frame.axis.is (drift_on_line u at m on) in
      let b = on.by.den *ℤ t in
      let a = on.by.num *ℤ UNIT +ℤ on.by.den *ℤ (pos 0 *ℤ t) in
      let positive = one-le-mul on.by.den t on.is_fraction frame.axis.positive in
      let (q, from, below) = floor a b positive in
      let n : Motion = record { matrix = m.matrix; translation = minus m.translation (multiple q f.tau) } in
      let shift : minus n.translation m.translation ≡ multiple (negsuc 0 *ℤ q) f.tau = turned m.translation n.translation q f.tau (minus-minus m.translation (multiple q f.tau)) in
      let differs : DiffersAlong f n m = record { matrix = refl; times = negsuc 0 *ℤ q; translation = shift } in (
        n,
        differs_stabiliser m n differs in_it,
        record {
          over = b;
          positive = positive;
          by = a -ℤ b *ℤ q;
          is = less b a q (drift n at) (drift m at) (minus n.translation m.translation) f.tau (drift_same at n m refl) shift e;
          from = from;
          below = below;
        },
        differs_sym f n m differs,
      )
