-- The laws of the lattice of a layer type. They stand here since an `impl` cites them.
use Rattle.std.proofs.Common.{◌≡◌, ◌/◌, Bool, true, false, IsTrue, cond, ◌&&◌, inl, inr, arith, refl, sym, subst, ◌∙◌, ℤ, pos, negsuc, ◌+ℤ◌, ◌-ℤ◌, ◌*ℤ◌, ◌≤ℤ◌, ◌<ℤ◌}
use Rattle.std.specs.Prelude.{unsigned_abs, int_lt}
use Rattle.std.specs.Ordering.{int_eq}
use Rattle.std.specs.Bool.{Decides, fails, passes}
use lib.Signed.{lt_z_yes, lt_z_no}
use Rattle.std.proofs.lemmas.Int.{ints}
use Rattle.std.proofs.lemmas.Bool.Decides.{Decides-int_eq, Decides-and, Decides-or, Decides-like}
use Rattle.integers.proofs.Spread.{spread}
use Rattle.fractions.specs.Parts.{edge, rest_of_edge}
use Rattle.motions.specs.PlaneMatrices.{Matrix2, Pair, image2, minus2, opposite2, origin2, plus2}
use Rattle.motions.specs.Laws.PlaneMatrixLaws.{pair_path, image2-plus, minus2-plus}
use Rattle.layer_types.specs.Lattices.{IsHome, IsLexAtMost, IsReduced, IsWholeVector, InLattice, centring, half_edge, home_vector, in_lattice, keeps_lattice, leaves}

-- ---- sums and multiples

pub in_origin : (c : Bool) → InLattice c origin2
in_origin c = inl (record { a = pos 0; b = pos 0; x = refl; y = refl })

whole_plus : {v w : Pair} → IsWholeVector v → IsWholeVector w → IsWholeVector (plus2 v w)
whole_plus h k = record { a = h.a +ℤ k.a; b = h.b +ℤ k.b; x = omega (arith, ints, h.x, k.x); y = omega (arith, ints, h.y, k.y) }

pub in_plus : (c : Bool) (v w : Pair) → InLattice c v → InLattice c w → InLattice c (plus2 v w)
in_plus c v w (inl h) (inl k) = inl (whole_plus h k)
in_plus c v w (inl h) (inr (t, k)) =
    inr (t, record { a = h.a +ℤ k.a; b = h.b +ℤ k.b; x = omega (arith, ints, h.x, k.x); y = omega (arith, ints, h.y, k.y) })
in_plus c v w (inr (t, h)) (inl k) =
    inr (t, record { a = h.a +ℤ k.a; b = h.b +ℤ k.b; x = omega (arith, ints, h.x, k.x); y = omega (arith, ints, h.y, k.y) })
in_plus c v w (inr (t, h)) (inr (u, k)) =
    inl (record { a = h.a +ℤ k.a +ℤ pos 1; b = h.b +ℤ k.b +ℤ pos 1; x = omega (arith, ints, h.x, k.x); y = omega (arith, ints, h.y, k.y) })

pub in_opposite : (c : Bool) (v : Pair) → InLattice c v → InLattice c (opposite2 v)
in_opposite c v (inl h) = inl (record { a = negsuc 0 *ℤ h.a; b = negsuc 0 *ℤ h.b; x = omega (arith, ints, h.x); y = omega (arith, ints, h.y) })
in_opposite c v (inr (t, h)) =
    inr (t, record { a = negsuc 0 *ℤ h.a -ℤ pos 1; b = negsuc 0 *ℤ h.b -ℤ pos 1; x = omega (arith, ints, h.x); y = omega (arith, ints, h.y) })

-- from u by way of v to w
pub in_between : (c : Bool) (u v w : Pair) → InLattice c (minus2 u v) → InLattice c (minus2 v w) → InLattice c (minus2 u w)
in_between c u v w h k = subst (InLattice c) (pair_path (omega (arith, ints)) (omega (arith, ints))) (in_plus c (minus2 u v) (minus2 v w) h k)

-- the difference the other way round
pub in_flip : (c : Bool) (v w : Pair) → InLattice c (minus2 v w) → InLattice c (minus2 w v)
in_flip c v w h = subst (InLattice c) (pair_path (omega (arith, ints)) (omega (arith, ints))) (in_opposite c (minus2 v w) h)

-- ---- what is left of a number without the whole edges in it

-- a number as edges and a rest
pub record Divided (n : ℤ) : Type 0 where
  pub edges : ℤ
  pub least : pos 0 ≤ℤ rest_of_edge n
  pub below : rest_of_edge n <ℤ edge
  pub is : n ≡ edge *ℤ edges +ℤ rest_of_edge n

pub divided : (n : ℤ) → Divided n
divided (pos n) = record { edges = pos (n / unsigned_abs edge); least = omega (arith, ints); below = omega (arith, ints); is = omega (arith, ints) }
divided (negsuc n) = record { edges = negsuc (n / unsigned_abs edge); least = omega (arith, ints); below = omega (arith, ints); is = omega (arith, ints) }

-- a number of edges and a rest from 0 to below an edge leaves this rest
pub one_rest : (n k r : ℤ) → n ≡ edge *ℤ k +ℤ r → pos 0 ≤ℤ r → r <ℤ edge → rest_of_edge n ≡ r
one_rest n k r e l h = let d = divided n in let least = d.least in let below = d.below in let is = d.is in omega (arith, ints)

-- ---- the tests

leaves-is : (r : ℤ) → pos 0 ≤ℤ r → r <ℤ edge → (v : Pair)
    → Decides (leaves r v) (IsWholeVector (minus2 v (record { x = r; y = r })))
leaves-is r l h v = Decides-like (leaves r v) to from (Decides-and (int_eq (rest_of_edge v.x) r) (int_eq (rest_of_edge v.y) r) (Decides-int_eq (rest_of_edge v.x) r) (Decides-int_eq (rest_of_edge v.y) r))
  where
    to : (rest_of_edge v.x ≡ r) × (rest_of_edge v.y ≡ r) → IsWholeVector (minus2 v (record { x = r; y = r }))
    to (p, q) =
        let i = (divided v.x).is in
        let j = (divided v.y).is in
        record { a = (divided v.x).edges; b = (divided v.y).edges; x = omega (arith, ints); y = omega (arith, ints) }

    from : IsWholeVector (minus2 v (record { x = r; y = r })) → (rest_of_edge v.x ≡ r) × (rest_of_edge v.y ≡ r)
    from w = let p = w.x in let q = w.y in (one_rest v.x w.a r (omega (arith, ints)) l h, one_rest v.y w.b r (omega (arith, ints)) l h)

less_nothing : (v : Pair) → minus2 v origin2 ≡ v
less_nothing v = pair_path (omega (arith, ints)) (omega (arith, ints))

pub in_lattice-is : (c : Bool) (v : Pair) → Decides (in_lattice c v) (InLattice c v)
in_lattice-is c v =
    Decides-or (leaves (pos 0) v) (c && leaves half_edge v)
    (Decides-like (leaves (pos 0) v) (subst IsWholeVector (less_nothing v)) (subst IsWholeVector (sym (less_nothing v))) (leaves-is (pos 0) (omega (arith, ints)) (omega (arith, ints)) v))
    (Decides-and c (leaves half_edge v) (true_itself c) (leaves-is half_edge (omega (arith, ints)) (omega (arith, ints)) v))
  where
    true_itself : (b : Bool) → Decides b (IsTrue b)
    true_itself b = (λ t. t, λ t. t)

-- ---- images

whole_image : (m : Matrix2) (v : Pair) → IsWholeVector v → IsWholeVector (image2 m v)
whole_image m v h = record { a = m.first.x *ℤ h.a +ℤ m.first.y *ℤ h.b; b = m.second.x *ℤ h.a +ℤ m.second.y *ℤ h.b; x = row m.first.x m.first.y; y = row m.second.x m.second.y }
  where
    multiples : (p q a b : ℤ) → p *ℤ (edge *ℤ a) +ℤ q *ℤ (edge *ℤ b) ≡ edge *ℤ (p *ℤ a +ℤ q *ℤ b)
    multiples p q a b = simp spread (omega (arith, ints))

    row : (p q : ℤ) → p *ℤ v.x +ℤ q *ℤ v.y ≡ edge *ℤ (p *ℤ h.a +ℤ q *ℤ h.b)
    row p q = (λ i. p *ℤ h.x i +ℤ q *ℤ h.y i) ∙ multiples p q h.a h.b

-- a matrix that takes the centring vector into the lattice takes the lattice into it
kept_image : (c : Bool) (m : Matrix2) → (IsTrue c → InLattice c (image2 m centring)) → (v : Pair) → InLattice c v → InLattice c (image2 m v)
kept_image c m h v (inl w) = inl (whole_image m v w)
kept_image c m h v (inr (t, w)) =
    subst (λ u. InLattice c (image2 m u)) (minus2-plus v centring)
    (subst (InLattice c) (sym (image2-plus m centring (minus2 v centring)))
    (in_plus c (image2 m centring) (image2 m (minus2 v centring)) (h t) (inl (whole_image m (minus2 v centring) w))))

pub keeps_lattice-is : (c : Bool) (m : Matrix2) → Decides (keeps_lattice c m) ((v : Pair) → InLattice c v → InLattice c (image2 m v))
keeps_lattice-is true m = (
  λ t. kept_image true m (λ _. (in_lattice-is true (image2 m centring)).0 t),
  λ all. (in_lattice-is true (image2 m centring)).1 (all centring (inr (refl, record { a = pos 0; b = pos 0; x = omega (arith, ints); y = omega (arith, ints) }))),
)
keeps_lattice-is false m = (λ t. kept_image false m (λ f. cc), λ all. refl)

-- ---- the vector at home

module _ (v : Pair) where
  abbrev rx : ℤ
  rx = rest_of_edge v.x

  abbrev ry : ℤ
  ry = rest_of_edge v.y

  abbrev sy : ℤ
  sy = rest_of_edge (v.y +ℤ half_edge)

  -- where no centring takes half an edge off the first entry
  near_home : (c : Bool) → (IsTrue c → rx <ℤ half_edge) → IsHome c v (record { x = rx; y = ry })
  near_home c near = record {
    same = inl (record { a = negsuc 0 *ℤ dx.edges; b = negsuc 0 *ℤ dy.edges; x = omega (arith, ints, dx.is); y = omega (arith, ints, dy.is) });
    reduced = record { x_least = dx.least; x_below = dx.below; y_least = dy.least; y_below = dy.below };
    first = first;
  }
    where
      dx : Divided v.x
      dx = divided v.x

      dy : Divided v.y
      dy = divided v.y

      first : (u : Pair) → IsReduced u → InLattice c (minus2 u v) → IsLexAtMost (record { x = rx; y = ry }) u
      first u r (inl w) = inr (one_rest v.x (negsuc 0 *ℤ w.a) u.x (omega (arith, ints, w.x)) r.x_least r.x_below, omega (arith, ints, one_rest v.y (negsuc 0 *ℤ w.b) u.y (omega (arith, ints, w.y)) r.y_least r.y_below))
      first u r (inr (t, w)) = inl (omega (arith, ints, near t, dx.least, dx.is, w.x, r.x_least, r.x_below))

  -- where it does
  far_home : half_edge ≤ℤ rx → IsHome true v (record { x = rx -ℤ half_edge; y = sy })
  far_home far = record {
    same = inr (refl, record { a = negsuc 0 *ℤ dx.edges -ℤ pos 1; b = negsuc 0 *ℤ dy.edges; x = omega (arith, ints, dx.is); y = omega (arith, ints, dy.is) });
    reduced = record { x_least = omega (arith, ints); x_below = omega (arith, ints, dx.below); y_least = dy.least; y_below = dy.below };
    first = first;
  }
    where
      dx : Divided v.x
      dx = divided v.x

      dy : Divided (v.y +ℤ half_edge)
      dy = divided (v.y +ℤ half_edge)

      first : (u : Pair) → IsReduced u → InLattice true (minus2 u v) → IsLexAtMost (record { x = rx -ℤ half_edge; y = sy }) u
      first u r (inl w) = inl (omega (arith, ints, dx.below, dx.is, w.x, r.x_least, r.x_below))
      first u r (inr (t, w)) = inr (omega (arith, ints, dx.below, dx.is, w.x, r.x_least, r.x_below), omega (arith, ints, one_rest (v.y +ℤ half_edge) (negsuc 0 *ℤ w.b) u.y (omega (arith, ints, w.y)) r.y_least r.y_below))

  pub home_is_home : (c : Bool) → IsHome c v (home_vector c v)
  home_is_home false = near_home false (λ f. cc)
  home_is_home true = by_test (int_lt rx half_edge) refl
    where
      by_test : (b : Bool) → int_lt rx half_edge ≡ b → IsHome true v (cond b (record { x = rx; y = ry }) (record { x = rx -ℤ half_edge; y = sy }))
      by_test true e = near_home true (λ t. lt_z_yes (passes (int_lt rx half_edge) e))
      by_test false e = far_home (lt_z_no (fails (int_lt rx half_edge) e))

-- two vectors that differ by the lattice have one home
pub home-same : (c : Bool) (v w : Pair) → InLattice c (minus2 v w) → home_vector c v ≡ home_vector c w
home-same c v w h =
    let p = home_is_home v c in
    let q = home_is_home w c in
    let a = home_vector c v in
    let b = home_vector c w in
    both a b (p.first b q.reduced (in_between c b w v q.same (in_flip c v w h))) (q.first a p.reduced (in_between c a v w p.same h))
  where
    both : (a b : Pair) → IsLexAtMost a b → IsLexAtMost b a → a ≡ b
    both a b (inl l) (inl k) = absurd (omega (arith, ints))
    both a b (inl l) (inr (e, k)) = absurd (omega (arith, ints))
    both a b (inr (e, l)) (inl k) = absurd (omega (arith, ints))
    both a b (inr (e, l)) (inr (f, k)) = pair_path e (omega (arith, ints))

-- two vectors with one home differ by the lattice
pub same_home : (c : Bool) (v w : Pair) → home_vector c v ≡ home_vector c w → InLattice c (minus2 v w)
same_home c v w e =
    in_between c v (home_vector c v) w (in_flip c (home_vector c v) v (home_is_home v c).same)
    (subst (λ h. InLattice c (minus2 h w)) (sym e) (home_is_home w c).same)
