-- In a frame each motion differs by the plane lattice from exactly one at home.
use Rattle.std.proofs.Common.{inl, inr, ◌≡◌, ℤ, pos, ◌+ℤ◌, ◌*ℤ◌, ◌≤ℤ◌, ◌<ℤ◌, refl, sym, ◌∙◌, ap, subst, arith}
use Rattle.std.proofs.lemmas.Int.{ints}
use Rattle.integers.proofs.Division.{floor, fractional_parts}
use Rattle.integers.proofs.Order.{mul_left_cancel_pos, one-le-mul}
use Rattle.integers.proofs.Ring.{neg_as_mul}
use Rattle.symmetry.specs.Vectors.{Vector, origin, plus, minus, multiple, dot, cross, row_times}
use Rattle.symmetry.specs.Motions.{Motion}
use Rattle.symmetry.specs.Planes.{Height, IsCoprime, IsHeight}
use Rattle.symmetry.specs.Groups.{IsGroup, InStabiliser, InRowStabiliser, SameModulo, Listing}
use Rattle.symmetry.specs.Frames.{Basis, combination, IsFrame, DiffersInPlane, InPlaneLattice, IsAtHome}
use Rattle.symmetry.specs.Lists.{HasOneAtHome}
use Rattle.symmetry.proofs.VectorLaws.{dot-minus_same, vector_path, minus-plus, origin-plus, multiple-dot, minus-minus, multiple-minus, multiples-minus}
use Rattle.symmetry.proofs.PlaneLattice.{differs_sym, differs_trans}
use Rattle.symmetry.proofs.MotionLaws.{motion_path}
use Rattle.symmetry.proofs.Coprime.{not_opposite}
use Rattle.symmetry.proofs.PlaneRows.{stabiliser_by_row}
use Rattle.symmetry.proofs.FrameLaws.{cramer, combination-minus, combination-multiple, plane_lattice, combination-origin}

-- where two vectors with fractional parts over o and o' differ by a whole vector, its coordinates are 0
whole_difference : (o o' : ℤ) (v w c : Vector) → minus (multiple o' v) (multiple o w) ≡ multiple (o *ℤ o') c
    → (pos 0 ≤ℤ v.x) × (v.x <ℤ o) → (pos 0 ≤ℤ w.x) × (w.x <ℤ o') → (pos 0 ≤ℤ v.y) × (v.y <ℤ o) → (pos 0 ≤ℤ w.y) × (w.y <ℤ o')
    → (c.x ≡ pos 0) × (c.y ≡ pos 0)
unfolding plus multiple
whole_difference o o' v w c e vx wx vy wy = (
  fractional_parts o o' v.x w.x c.x vx.0 vx.1 wx.0 wx.1 (ap (λ n. o' *ℤ v.x +ℤ n) (neg_as_mul (o *ℤ w.x)) ∙ ap (λ (u : Vector). u.x) e),
  fractional_parts o o' v.y w.y c.y vy.0 vy.1 wy.0 wy.1 (ap (λ n. o' *ℤ v.y +ℤ n) (neg_as_mul (o *ℤ w.y)) ∙ ap (λ (u : Vector). u.y) e),
)

module _ (g : Listing) (r : Vector) (f : Basis) (frame : IsFrame g r f) where
  -- ---- a motion at home

  -- the determinant of a, b and tau
  abbrev volume : ℤ
  volume = dot (cross f.a f.b) f.tau

  volume_positive : pos 1 ≤ℤ volume
  volume_positive =
      let (c, positive, is) = frame.right_handed in
      subst (λ x. pos 1 ≤ℤ x) (sym (ap (λ v. dot v f.tau) is ∙ multiple-dot c r f.tau))
      (one-le-mul c (dot r f.tau) (omega (arith, ints)) (omega (arith, ints, frame.tau_above)))

  module _ (m : Motion) where
    -- the translation by a, b and tau, times the determinant
    abbrev coordinates : Vector
    coordinates = record { x = dot (cross f.b f.tau) m.translation; y = dot (cross f.tau f.a) m.translation; z = dot (cross f.a f.b) m.translation }

    -- how often it has a whole a and a whole b
    abbrev whole : Vector
    whole = record { x = (floor coordinates.x volume volume_positive).0; y = (floor coordinates.y volume volume_positive).0; z = pos 0 }

    abbrev home : Motion
    home = record { matrix = m.matrix; translation = minus m.translation (combination f whole) }

    home_differs : DiffersInPlane g r m home
    home_differs = record {
      matrix = refl;
      translation = subst (InPlaneLattice g r) (sym (minus-minus m.translation (combination f whole)))
          ((plane_lattice g r f frame (combination f whole)).1 (whole, refl, refl));
    }

    home_is : combination f (minus coordinates (multiple volume whole)) ≡ multiple volume home.translation
    home_is =
        combination-minus f coordinates (multiple volume whole) ∙ ap (minus (combination f coordinates)) (combination-multiple f volume whole)
        ∙ ap (λ v. minus v (multiple volume (combination f whole))) (cramer f m.translation)
        ∙ sym (multiple-minus volume m.translation (combination f whole))

    home_at_home : IsAtHome f home
    unfolding plus multiple
    home_at_home =
        let x = floor coordinates.x volume volume_positive in
        let y = floor coordinates.y volume volume_positive in record {
          over = volume;
          positive = volume_positive;
          by = minus coordinates (multiple volume whole);
          is = home_is;
          x_from = subst (λ n. pos 0 ≤ℤ (coordinates.x +ℤ n)) (neg_as_mul (volume *ℤ whole.x)) x.1;
          x_below = subst (λ n. (coordinates.x +ℤ n) <ℤ volume) (neg_as_mul (volume *ℤ whole.x)) x.2;
          y_from = subst (λ n. pos 0 ≤ℤ (coordinates.y +ℤ n)) (neg_as_mul (volume *ℤ whole.y)) y.1;
          y_below = subst (λ n. (coordinates.y +ℤ n) <ℤ volume) (neg_as_mul (volume *ℤ whole.y)) y.2;
        }

  -- ---- only one at home

  pub home_once : (m n : Motion) → IsAtHome f m → IsAtHome f n → DiffersInPlane g r m n → m ≡ n
  home_once m n p q differs =
      let (c, is, flat) = (plane_lattice g r f frame (minus m.translation n.translation)).0 differs.translation in
      let apart = minus (multiple q.over p.by) (multiple p.over q.by) in
      let coordinates_is : apart ≡ multiple (p.over *ℤ q.over) c =
      frame.once apart (multiple (p.over *ℤ q.over) c)
      (combination-minus f (multiple q.over p.by) (multiple p.over q.by)
      ∙ (λ i. minus (combination-multiple f q.over p.by i) (combination-multiple f p.over q.by i))
      ∙ (λ i. minus (multiple q.over (p.is i)) (multiple p.over (q.is i)))
      ∙ multiples-minus p.over q.over m.translation n.translation
      ∙ ap (multiple (p.over *ℤ q.over)) (sym is) ∙ sym (combination-multiple f (p.over *ℤ q.over) c)) in
      let zero = whole_difference p.over q.over p.by q.by c coordinates_is (p.x_from, p.x_below) (q.x_from, q.x_below) (p.y_from, p.y_below) (q.y_from, q.y_below) in
      let none : minus m.translation n.translation ≡ origin = sym is ∙ ap (combination f) (vector_path zero.0 zero.1 flat) ∙ combination-origin f in
      motion_path differs.matrix (sym (minus-plus m.translation n.translation) ∙ ap (λ v. plus v n.translation) none ∙ origin-plus n.translation)

  -- ---- and so of a set that has every motion that differs by the plane lattice from one of its own

  pub has_one_at_home : (S : Motion → Type 0) → ((m n : Motion) → DiffersInPlane g r m n → S m → S n)
      → (m : Motion) → S m → HasOneAtHome g r (IsAtHome f) S m
  has_one_at_home S closed m in_it = record {
    companion = home m;
    in_set = closed m (home m) (home_differs m) in_it;
    is_home = home_at_home m;
    differs = home_differs m;
    only = λ n in_it at_home differs.
        home_once (home m) n (home_at_home m) at_home (differs_trans g r (home m) m n (differs_sym g r m (home m) (home_differs m)) differs);
  }

-- ---- the stabilisers have at most one member at home for each listed operation

-- members of the stabiliser with one matrix have one (hkl).w
stabiliser_shift : (g : Listing) (r : Vector) (s : Height) (m n : Motion) → IsCoprime r → IsHeight s → m.matrix ≡ n.matrix
    → InRowStabiliser g r s m → InRowStabiliser g r s n → dot r m.translation ≡ dot r n.translation
stabiliser_shift g r s m n coprime high e (_, inl k) (_, inl l) = k.1 ∙ sym l.1
stabiliser_shift g r s m n coprime high e (_, inl k) (_, inr t) = absurd (not_opposite r coprime (sym k.0 ∙ ap (row_times r) e ∙ t.0))
stabiliser_shift g r s m n coprime high e (_, inr t) (_, inl k) = absurd (not_opposite r coprime (sym k.0 ∙ ap (row_times r) (sym e) ∙ t.0))
stabiliser_shift g r s m n coprime high e (_, inr t) (_, inr u) = mul_left_cancel_pos s.den _ _ high (sym t.1 ∙ u.1)

pub stabiliser_home_once : (g : Listing) (r : Vector) (f : Basis) (s : Height) (m n : Motion)
    → IsFrame g r f → IsGroup g → IsCoprime r → IsHeight s → InStabiliser g r s m → InStabiliser g r s n
    → IsAtHome f m → IsAtHome f n → SameModulo g m n → m ≡ n
stabiliser_home_once g r f s m n frame group coprime high in_m in_n home_m home_n same =
    let row_m = (stabiliser_by_row g r s m group coprime high).0 in_m in
    let row_n = (stabiliser_by_row g r s n group coprime high).0 in_n in
    let level = stabiliser_shift g r s m n coprime high same.matrix row_m row_n in
    home_once g r f frame m n home_m home_n (record { matrix = same.matrix; translation = (same.translation, dot-minus_same r m.translation n.translation level) })
