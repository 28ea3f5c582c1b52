-- The residues of a lattice and its cosets by the multiples of one more vector.
use Rattle.std.proofs.Common.{◌≡◌, ℕ, zero, suc, ◌+◌, ◌-◌, ◌<◌, ◌≤◌, ◌↔◌, inl, inr, arith, sym, ap, subst, ◌∙◌, List, [], ◌∷◌, ◌++◌, length, get_or, take, ℤ, pos, negsuc, ◌+ℤ◌, ◌*ℤ◌}
use Rattle.std.specs.Prelude.{All, AllPairs, Contains}
use Rattle.std.proofs.lemmas.Bool.{cases_lt}
use Rattle.std.proofs.lemmas.Int.{ints}
use Rattle.std.proofs.lemmas.List.{length-append, take-append-le}
use Rattle.std.proofs.Math.Seq.{take-length}
use Rattle.std.proofs.lemmas.List.Elements.{All-append, All-map, All-contains, All-contains_itself, All-weaker, Contains-append_left, Contains-append_right, Contains-append_cases}
use Rattle.integers.proofs.Solver.{Expr.{var, num, ◌⊕◌, ◌⊗◌}, linear, given}
use Rattle.symmetry.specs.Vectors.{Vector, origin, plus, minus, multiple, opposite}
use Rattle.symmetry.specs.Groups.{Listing, IsInLattice, zero_vector, added, subtracted}
use Rattle.symmetry.proofs.VectorLaws.{vector_path, minus-plus, plus-origin, multiple-suc, multiple-zero, plus-minus_last, multiple-one}
use Rattle.symmetry.proofs.LatticeLaws.{lattice-plus, lattice-minus, lattice-opposite, lattice-made, lattice-multiple}
use Rattle.quotient.proofs.ListLaws.{AllPairs-append, AllPairs-map, Contains-map, Contains-from_map}
use Rattle.closure.specs.Residues.{residue}
use Rattle.closure.specs.Spans.{AreResiduesOf, coset, with_centring}
use Rattle.closure.specs.Fineness.{IsTooFine}
use Rattle.closure.specs.Laws.ResidueLaws.{residue-same, residue-residue, residue-plus, residue-minus}
use Rattle.closure.proofs.Spans.{lattice-by_residue, generates_with, lattice-with, lattice-centring}

-- ---- sums of three vectors and multiples

-- (u - w) + (w + v - x) is u + v - x
past : (u v w x : Vector) → plus (minus u w) (minus (plus w v) x) ≡ minus (plus u v) x
unfolding plus multiple
past u v w x = vector_path (omega (arith, ints)) (omega (arith, ints)) (omega (arith, ints))

-- u + v - (w + v) is u - w
both_more : (u v w : Vector) → minus (plus u v) (plus w v) ≡ minus u w
unfolding plus multiple
both_more u v w = vector_path (omega (arith, ints)) (omega (arith, ints)) (omega (arith, ints))

-- u - v - w is u - (w + v)
one_less : (u v w : Vector) → minus (minus u v) w ≡ minus u (plus w v)
unfolding plus multiple
one_less u v w = vector_path (omega (arith, ints)) (omega (arith, ints)) (omega (arith, ints))

-- u + x - w is u - w + x
moved_over : (u x w : Vector) → minus (plus u x) w ≡ plus (minus u w) x
unfolding plus multiple
moved_over u x w = vector_path (omega (arith, ints)) (omega (arith, ints)) (omega (arith, ints))

-- a member that is some multiple of v, of the first n, and a member of L
pub record IsCosetMember (g : Listing) (v : Vector) (n : ℕ) (u : Vector) : Type 0 where
  pub times : ℕ
  pub below : times < n
  pub rest : IsInLattice g (minus u (multiple (pos times) v))

-- the residues of a lattice, of which the first `size` of the list are, and of its cosets by multiples of v;
-- the step is the first multiple that was not taken
pub record AreCosets (g : Listing) (v : Vector) (size : ℕ) (rs : List Vector) (step : Vector) : Type 0 where
  pub count : ℕ
  pub positive : 0 < count
  pub is_step : residue step ≡ residue (multiple (pos count) v)
  pub within : size ≤ length rs
  pub group : AreResiduesOf g (take size rs)
  pub reduced : All (λ r. residue r ≡ r) rs
  pub apart : AllPairs (λ u w. ¬ (u ≡ w)) rs
  pub same : (u : Vector) → Contains rs (residue u) ↔ IsCosetMember g v count u

-- ---- the first coset is the lattice

less_nothing : (g : Listing) (v u : Vector) → IsInLattice g u ↔ IsInLattice g (minus u (multiple (pos 0) v))
unfolding multiple
less_nothing g v u = (
  λ h. subst (λ w. IsInLattice g (minus u w)) (sym (multiple-zero v)) (subst (IsInLattice g) (sym (from_origin u)) h),
  λ h. subst (IsInLattice g) (from_origin u) (subst (λ w. IsInLattice g (minus u w)) (multiple-zero v) h),
)
  where
    from_origin : (u : Vector) → minus u origin ≡ u
    from_origin u = plus-origin u

pub cosets_none : (g : Listing) (v : Vector) (rs : List Vector) (step : Vector) → AreResiduesOf g rs → residue step ≡ residue v
    → AreCosets g v (length rs) rs step
cosets_none g v rs step h e = record {
  count = 1;
  positive = omega arith;
  is_step = e ∙ ap residue (sym (multiple-one v));
  within = omega arith;
  group = subst (AreResiduesOf g) (sym (take-length rs)) h;
  reduced = h.reduced;
  apart = h.apart;
  same = λ u. (
    λ is. record { times = 0; below = omega arith; rest = (less_nothing g v u).0 ((h.same u).0 is) },
    λ m. (h.same u).1 ((less_nothing g v u).1 (subst (λ (i : ℕ). IsInLattice g (minus u (multiple (pos i) v))) (none m.times m.below) m.rest)),
  );
}
  where
    none : (i : ℕ) → i < 1 → i ≡ 0
    none i h = omega arith

-- ---- one more coset

-- (u + v - w) - u is v - w
without_first : (u v w : Vector) → minus (minus (plus u v) w) u ≡ minus v w
unfolding plus multiple
without_first u v w = vector_path (omega (arith, ints)) (omega (arith, ints)) (omega (arith, ints))

-- what is added to two residues may be taken off
same_rest : (u v w : Vector) → residue (plus u w) ≡ residue (plus v w) → residue u ≡ residue v
same_rest u v w e = ap residue (sym (plus-minus_last u w)) ∙ residue-plus (plus u w) (plus v w) (opposite w) e ∙ ap residue (plus-minus_last v w)

module _ (g : Listing) (v : Vector) (size : ℕ) (rs : List Vector) (step : Vector) (h : AreCosets g v size rs step) where
  abbrev group : List Vector
  group = take size rs

  in_group : (r : Vector) → Contains group r → IsInLattice g r
  in_group r is = (h.group.same r).0 (subst (Contains group) (sym (All-contains (λ r. residue r ≡ r) group r h.group.reduced is)) is)

  -- a member of the new coset
  from_coset : (u : Vector) → Contains (coset step group) (residue u) → IsInLattice g (minus u step)
  from_coset u is =
      let r = Contains-from_map (λ r. residue (plus r step)) group (residue u) is in
      lattice-by_residue g (minus u step) r.0 (residue_minus u r.0 step (sym r.2)) (in_group r.0 r.1)
    where
      residue_minus : (u r s : Vector) → residue u ≡ residue (plus r s) → residue (minus u s) ≡ residue r
      residue_minus u r s e = residue-plus u (plus r s) (opposite s) e ∙ ap residue (plus-minus_last r s)

  to_coset : (u : Vector) → IsInLattice g (minus u step) → Contains (coset step group) (residue u)
  to_coset u is =
      subst (Contains (coset step group)) (residue-plus (residue (minus u step)) (minus u step) step (residue-residue (minus u step)) ∙ ap residue (minus-plus u step))
      (Contains-map (λ r. residue (plus r step)) group (residue (minus u step)) ((h.group.same (minus u step)).1 is))

  -- the step is the multiple of v by the count, but for whole edges
  by_step : (u : Vector) → IsInLattice g (minus u step) ↔ IsInLattice g (minus u (multiple (pos h.count) v))
  by_step u = (changed step (multiple (pos h.count) v) h.is_step, changed (multiple (pos h.count) v) step (sym h.is_step))
    where
      changed : (s t : Vector) → residue s ≡ residue t → IsInLattice g (minus u s) → IsInLattice g (minus u t)
      changed s t e is = lattice-by_residue g (minus u t) (minus u s) (residue-minus u t s (sym e)) is

  -- what the list with the new coset contains
  more_same : (u : Vector) → Contains (rs ++ coset step group) (residue u) ↔ IsCosetMember g v (suc h.count) u
  more_same u = (
    λ is. elim (Contains-append_cases rs (coset step group) (residue u) is) [
      | inl old ↦ let m = (h.same u).0 old in record { times = m.times; below = let l = m.below in omega arith; rest = m.rest }
      | inr new ↦ record { times = h.count; below = omega arith; rest = (by_step u).0 (from_coset u new) }
    ],
    λ m. elim (cases_lt m.times h.count) [
      | inl l ↦ Contains-append_left rs (coset step group) (residue u) ((h.same u).1 (record { times = m.times; below = l; rest = m.rest }))
      | inr l ↦ Contains-append_right rs (coset step group) (residue u)
          (to_coset u ((by_step u).1 (subst (λ (i : ℕ). IsInLattice g (minus u (multiple (pos i) v))) (the_last m.times m.below l) m.rest)))
    ],
  )
    where
      the_last : (i : ℕ) → i < suc h.count → h.count ≤ i → i ≡ h.count
      the_last i l k = omega arith

  coset_reduced : All (λ r. residue r ≡ r) (coset step group)
  coset_reduced = All-map (λ r. residue r ≡ r) (λ r. residue (plus r step)) group (λ k d l. residue-residue _)

  -- two members of the new coset are apart, as the residues are that they come from
  coset_apart : AllPairs (λ u w. ¬ (u ≡ w)) (coset step group)
  coset_apart = AllPairs-map (λ r. residue (plus r step)) (λ u w. ¬ (u ≡ w)) group
      (λ i j d less within e.
      let x = get_or group i d in
      let y = get_or group j d in
      h.group.apart i j d less within
      (sym (h.group.reduced i d (omega arith)) ∙ same_rest x y step e ∙ h.group.reduced j d within))

  -- and from the old ones, since the step is in none of the old cosets
  apart_from_old : ¬ Contains rs (residue step) → (x y : Vector) → Contains rs x → Contains (coset step group) y → ¬ (x ≡ y)
  apart_from_old new x y old is e =
      let r = Contains-from_map (λ r. residue (plus r step)) group y is in
      let m = (h.same (plus r.0 step)).0 (subst (Contains rs) (e ∙ sym r.2) old) in
      new ((h.same step).1 (record {
        times = m.times;
        below = m.below;
        rest = subst (IsInLattice g) (without_first r.0 step (multiple (pos m.times) v))
            (lattice-minus g (minus (plus r.0 step) (multiple (pos m.times) v)) r.0 m.rest (in_group r.0 r.1));
      }))

  pub cosets_more : ¬ Contains rs (residue step) → AreCosets g v size (rs ++ coset step group) (residue (plus step v))
  cosets_more new = record {
    count = suc h.count;
    positive = omega arith;
    is_step = residue-residue (plus step v) ∙ residue-plus step (multiple (pos h.count) v) v h.is_step ∙ ap residue (sym (multiple-suc h.count v));
    within = let l = h.within in omega (arith, length-append rs (coset step group));
    group = subst (AreResiduesOf g) (sym (take-append-le size rs (coset step group) h.within)) h.group;
    reduced = All-append (λ r. residue r ≡ r) rs (coset step group) h.reduced coset_reduced;
    apart = AllPairs-append (λ u w. ¬ (u ≡ w)) rs (coset step group) h.apart coset_apart (apart_from_old new);
    same = more_same;
  }

-- ---- the cosets are all there

-- a multiple of v by i and one by k more
multiple_sum : (i j k : ℕ) (v : Vector) → i + k ≡ j → minus (multiple (pos j) v) (multiple (pos i) v) ≡ multiple (pos k) v
unfolding multiple plus
multiple_sum i j k v e = vector_path (by_entry v.x) (by_entry v.y) (by_entry v.z)
  where
    whole : pos j ≡ pos i +ℤ pos k
    whole = ap pos (sym e)

    by_entry : (x : ℤ) → pos j *ℤ x +ℤ negsuc 0 *ℤ (pos i *ℤ x) ≡ pos k *ℤ x
    by_entry x =
        linear (x ∷ pos i ∷ pos j ∷ pos k ∷ []) (var 2 ⊗ var 0 ⊕ num (negsuc 0) ⊗ (var 1 ⊗ var 0)) (var 3 ⊗ var 0)
        (given (var 0) (var 2) (var 1 ⊕ var 3) ∷ []) tt (whole, tt)

module _ (g : Listing) (v : Vector) (size : ℕ) (rs : List Vector) (step : Vector) (h : AreCosets g v size rs step) (closed : Contains rs (residue step)) where
  again : IsCosetMember g v h.count step
  again = (h.same step).0 closed

  -- n times v is some lesser multiple but for a member of L
  round : IsInLattice g (minus (multiple (pos h.count) v) (multiple (pos again.times) v))
  round =
      lattice-by_residue g (minus (multiple (pos h.count) v) (multiple (pos again.times) v)) (minus step (multiple (pos again.times) v))
      (residue-plus (multiple (pos h.count) v) step (opposite (multiple (pos again.times) v)) (sym h.is_step)) again.rest

  -- u + v is in a coset where u is
  plus_v : (u : Vector) → IsCosetMember g v h.count u → IsCosetMember g v h.count (plus u v)
  plus_v u m = elim (cases_lt (suc m.times) h.count) [
    | inl l ↦ record { times = suc m.times; below = l; rest = subst (IsInLattice g) (sym (next m.times)) m.rest }
    | inr l ↦ record {
      times = again.times;
      below = again.below;
      rest = subst (IsInLattice g) (past u v (multiple (pos m.times) v) (multiple (pos again.times) v))
          (lattice-plus g (minus u (multiple (pos m.times) v)) (minus (plus (multiple (pos m.times) v) v) (multiple (pos again.times) v)) m.rest
          (subst (λ w. IsInLattice g (minus w (multiple (pos again.times) v))) (the_last m.times m.below l) round));
    }
  ]
    where
      next : (i : ℕ) → minus (plus u v) (multiple (pos (suc i)) v) ≡ minus u (multiple (pos i) v)
      next i = ap (minus (plus u v)) (multiple-suc i v) ∙ both_more u v (multiple (pos i) v)

      the_last : (i : ℕ) → i < h.count → h.count ≤ suc i → multiple (pos h.count) v ≡ plus (multiple (pos i) v) v
      the_last i l k = ap (λ (j : ℕ). multiple (pos j) v) (omega arith) ∙ multiple-suc i v

  -- and so is u - v
  minus_v : (u : Vector) → IsCosetMember g v h.count u → IsCosetMember g v h.count (minus u v)
  minus_v u m = by_times m.times m.below m.rest
    where
      gap : (i : ℕ) → i < h.count → (k : ℕ) × (k < h.count) × (i + suc k ≡ h.count)
      gap i l = (h.count - suc i, omega arith, omega arith)

      by_times : (i : ℕ) → i < h.count → IsInLattice g (minus u (multiple (pos i) v)) → IsCosetMember g v h.count (minus u v)
      by_times zero l is =
          let k = gap again.times again.below in
          record {
            times = k.0;
            below = k.1;
            rest = subst (IsInLattice g) (sym (one_less u v (multiple (pos k.0) v)))
                (lattice-minus g u (plus (multiple (pos k.0) v) v) ((less_nothing g v u).1 is)
                (subst (IsInLattice g) (multiple_sum again.times h.count (suc k.0) v k.2 ∙ multiple-suc k.0 v) round));
          }
      by_times (suc i) l is = record {
        times = i;
        below = omega arith;
        rest = subst (IsInLattice g) (ap (minus u) (multiple-suc i v) ∙ sym (one_less u v (multiple (pos i) v))) is;
      }

  -- a member and a member of L
  plus_member : (u w : Vector) → IsCosetMember g v h.count u → IsInLattice g w → IsCosetMember g v h.count (plus u w)
  plus_member u w m is = record {
    times = m.times;
    below = m.below;
    rest = subst (IsInLattice g) (sym (moved_over u w (multiple (pos m.times) v))) (lattice-plus g (minus u (multiple (pos m.times) v)) w m.rest is);
  }

  all_members : (u : Vector) → IsInLattice (with_centring g v) u → IsCosetMember g v h.count u
  all_members _ zero_vector = record { times = 0; below = h.positive; rest = (less_nothing g v origin).0 zero_vector }
  all_members _ (added t w k made) = elim (generates_with g v w made) [
    | inl old ↦ plus_member t w (all_members t k) (lattice-made g w old)
    | inr e ↦ subst (λ w. IsCosetMember g v h.count (plus t w)) e (plus_v t (all_members t k))
  ]
  all_members _ (subtracted t w k made) = elim (generates_with g v w made) [
    | inl old ↦ plus_member t (opposite w) (all_members t k) (lattice-opposite g w (lattice-made g w old))
    | inr e ↦ subst (λ w. IsCosetMember g v h.count (minus t w)) e (minus_v t (all_members t k))
  ]

-- a member of a coset is a member of the lattice with v
pub coset_inside : (g : Listing) (v : Vector) (n : ℕ) (u : Vector) → IsCosetMember g v n u → IsInLattice (with_centring g v) u
coset_inside g v n u m =
    subst (IsInLattice (with_centring g v)) (minus-plus u (multiple (pos m.times) v))
    (lattice-plus (with_centring g v) (minus u (multiple (pos m.times) v)) (multiple (pos m.times) v) (lattice-with g v (minus u (multiple (pos m.times) v)) m.rest)
    (lattice-multiple (with_centring g v) (pos m.times) v (lattice-centring g v)))

pub cosets_all : (g : Listing) (v : Vector) (size : ℕ) (rs : List Vector) (step : Vector) → AreCosets g v size rs step → Contains rs (residue step)
    → AreResiduesOf (with_centring g v) rs
cosets_all g v size rs step h closed = record {
  reduced = h.reduced;
  apart = h.apart;
  same = λ u. (λ is. coset_inside g v h.count u ((h.same u).0 is), λ is. (h.same u).1 (all_members g v size rs step h closed u is));
}

-- more than 64 residues in cosets are more than the lattice with v may have
pub cosets_too_fine : (g : Listing) (v : Vector) (size : ℕ) (rs : List Vector) (step : Vector) → AreCosets g v size rs step → 64 < length rs
    → IsTooFine (with_centring g v)
cosets_too_fine g v size rs step h many = record {
  members = rs;
  many = many;
  inside = All-weaker (Contains rs) (IsInLattice (with_centring g v)) (λ u is. coset_inside g v h.count u ((h.same u).0 (subst (Contains rs) (sym (All-contains (λ r. residue r ≡ r) rs u h.reduced is)) is))) rs (All-contains_itself rs);
  apart = λ i j d less within whole. h.apart i j d less within
      (sym (h.reduced i d (omega arith)) ∙ residue-same (get_or rs i d) (get_or rs j d) whole ∙ h.reduced j d within);
}
