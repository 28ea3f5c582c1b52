-- The least vectors along the three axes are a basis of the lattice.
use Rattle.std.proofs.Common.{◌≡◌, ℕ, zero, suc, ◌<◌, ◌⊎◌, inl, inr, Bool, true, false, ◌&&◌, if◌then◌else◌, ℤ, pos, negsuc, ◌+ℤ◌, ◌*ℤ◌, ◌<ℤ◌, ◌≤ℤ◌, List, [], length, get_or, map, arith, refl, sym, ap, subst, ◌∙◌, lit<}
use Rattle.std.specs.Prelude.{Contains, All, unsigned_abs}
use Rattle.std.specs.Ordering.{int_eq}
use Rattle.std.proofs.lemmas.Bool.Decides.{Decides-int_eq}
use Rattle.std.proofs.lemmas.Int.{ints}
use Rattle.std.proofs.lemmas.List.{get_or-map, length-map}
use Rattle.integers.proofs.Division.{floor}
use Rattle.fractions.specs.Parts.{reduced_parts}
use Rattle.fractions.specs.declared.part.Part.{Part}
use Rattle.fractions.specs.declared.part.TheConstants.{UNIT}
use Rattle.symmetry.specs.Vectors.{Vector, origin, plus, minus, multiple}
use Rattle.symmetry.specs.Groups.{Listing, IsInLattice}
use Rattle.symmetry.specs.Frames.{combination}
use Rattle.symmetry.proofs.LatticeLaws.{lattice-minus, lattice-multiple}
use Rattle.symmetry.proofs.VectorLaws.{vector_path}
use Rattle.motions.specs.Views.{parts}
use Rattle.closure.specs.Residues.{residue}
use Rattle.integers.proofs.Remainders.{divided}
use Rattle.reduction.specs.LatticeBases.{IsLatticeBasis}
use Rattle.reduction.specs.LeadingEntries.{edge_at, leading_entry}

-- what is told of the least vector along an axis
pub record IsLeastAlong (rs : List (List Part)) (p : ℕ) (w : Vector) : Type 0 where
  pub one : (w ≡ edge_at p) ⊎ Contains (map parts rs) w
  pub positive : pos 0 <ℤ leading_entry p w
  pub most : leading_entry p w ≤ℤ UNIT
  pub least : All (λ r. pos 0 <ℤ leading_entry p (parts r) → leading_entry p w ≤ℤ leading_entry p (parts r)) rs

-- a positive number is no less than its rest, or than an edge
rest_or_edge : (x : ℤ) → pos 0 <ℤ x → ((pos 0 <ℤ reduced_parts x) × (reduced_parts x ≤ℤ x)) ⊎ (UNIT ≤ℤ x)
rest_or_edge x h =
    let d = divided (unsigned_abs UNIT) (lit< tt) x in
    subst (λ (z : ℤ). ((pos 0 <ℤ z) × (z ≤ℤ x)) ⊎ (UNIT ≤ℤ x)) (sym d.rem) (go d.times d.rest d.below d.is)
  where
    go : (k : ℤ) (r : ℕ) → r < unsigned_abs UNIT → x ≡ k *ℤ pos (unsigned_abs UNIT) +ℤ pos r → ((pos 0 <ℤ pos r) × (pos r ≤ℤ x)) ⊎ (UNIT ≤ℤ x)
    go (pos zero) r b e = inl (omega (arith, ints), omega (arith, ints))
    go (pos (suc n)) r b e = inr (omega (arith, ints))
    go (negsuc n) r b e = absurd (omega (arith, ints))

no_less : ¬ (pos 0 <ℤ pos 0)
no_less h = absurd (omega (arith, ints))

-- a number other than 0
not_zero : (x : ℤ) → ¬ (x ≡ pos 0) → int_eq x (pos 0) ≡ false
not_zero x n = go (int_eq x (pos 0)) refl
  where
    go : (b : Bool) → int_eq x (pos 0) ≡ b → int_eq x (pos 0) ≡ false
    go true e = absurd (n ((Decides-int_eq x (pos 0)).0 e))
    go false e = e

-- the same of the leading entry of a vector
leading_or_edge : (p : ℕ) (v : Vector) → pos 0 <ℤ leading_entry p v → ((pos 0 <ℤ leading_entry p (residue v)) × (leading_entry p (residue v) ≤ℤ leading_entry p v)) ⊎ (UNIT ≤ℤ leading_entry p v)
unfolding residue
leading_or_edge p v = go p v.x v.y v.z
  where
    go : (p : ℕ) (x y z : ℤ) → pos 0 <ℤ leading_entry p (record { x = x; y = y; z = z })
        → ((pos 0 <ℤ leading_entry p (residue (record { x = x; y = y; z = z }))) × (leading_entry p (residue (record { x = x; y = y; z = z })) ≤ℤ leading_entry p (record { x = x; y = y; z = z })))
        ⊎ (UNIT ≤ℤ leading_entry p (record { x = x; y = y; z = z }))
    go zero x y z h = rest_or_edge x h
    go (suc zero) (pos zero) y z h = rest_or_edge y h
    go (suc zero) (pos (suc n)) y z h = absurd (no_less (subst (λ b. pos 0 <ℤ (if b then y else pos 0)) (not_zero (pos (suc n)) (λ e. cc e)) h))
    go (suc zero) (negsuc n) y z h = absurd (no_less (subst (λ b. pos 0 <ℤ (if b then y else pos 0)) (not_zero (negsuc n) (λ e. cc e)) h))
    go (suc (suc p)) (pos zero) (pos zero) z h = rest_or_edge z h
    go (suc (suc p)) (pos zero) (pos (suc n)) z h = absurd (no_less (subst (λ b. pos 0 <ℤ (if b then z else pos 0)) (not_zero (pos (suc n)) (λ e. cc e)) h))
    go (suc (suc p)) (pos zero) (negsuc n) z h = absurd (no_less (subst (λ b. pos 0 <ℤ (if b then z else pos 0)) (not_zero (negsuc n) (λ e. cc e)) h))
    go (suc (suc p)) (pos (suc n)) y z h = absurd (no_less (subst (λ b. pos 0 <ℤ (if b && int_eq y (pos 0) then z else pos 0)) (not_zero (pos (suc n)) (λ e. cc e)) h))
    go (suc (suc p)) (negsuc n) y z h = absurd (no_less (subst (λ b. pos 0 <ℤ (if b && int_eq y (pos 0) then z else pos 0)) (not_zero (negsuc n) (λ e. cc e)) h))

-- what comes before a positive leading entry is 0
leading_second : (v : Vector) → pos 0 <ℤ leading_entry 1 v → (v.x ≡ pos 0) × (pos 0 <ℤ v.y)
leading_second v = go v.x v.y v.z
  where
    go : (x y z : ℤ) → pos 0 <ℤ leading_entry 1 (record { x = x; y = y; z = z }) → (x ≡ pos 0) × (pos 0 <ℤ y)
    go (pos zero) y z h = (refl, h)
    go (pos (suc n)) y z h = absurd (no_less (subst (λ b. pos 0 <ℤ (if b then y else pos 0)) (not_zero (pos (suc n)) (λ e. cc e)) h))
    go (negsuc n) y z h = absurd (no_less (subst (λ b. pos 0 <ℤ (if b then y else pos 0)) (not_zero (negsuc n) (λ e. cc e)) h))

leading_third : (v : Vector) → pos 0 <ℤ leading_entry 2 v → (v.x ≡ pos 0) × (v.y ≡ pos 0) × (pos 0 <ℤ v.z)
leading_third v = go v.x v.y v.z
  where
    go : (x y z : ℤ) → pos 0 <ℤ leading_entry 2 (record { x = x; y = y; z = z }) → (x ≡ pos 0) × (y ≡ pos 0) × (pos 0 <ℤ z)
    go (pos zero) (pos zero) z h = (refl, refl, h)
    go (pos zero) (pos (suc n)) z h = absurd (no_less (subst (λ b. pos 0 <ℤ (if b then z else pos 0)) (not_zero (pos (suc n)) (λ e. cc e)) h))
    go (pos zero) (negsuc n) z h = absurd (no_less (subst (λ b. pos 0 <ℤ (if b then z else pos 0)) (not_zero (negsuc n) (λ e. cc e)) h))
    go (pos (suc n)) y z h = absurd (no_less (subst (λ b. pos 0 <ℤ (if b && int_eq y (pos 0) then z else pos 0)) (not_zero (pos (suc n)) (λ e. cc e)) h))
    go (negsuc n) y z h = absurd (no_less (subst (λ b. pos 0 <ℤ (if b && int_eq y (pos 0) then z else pos 0)) (not_zero (negsuc n) (λ e. cc e)) h))

second_lead : (v : Vector) → v.x ≡ pos 0 → leading_entry 1 v ≡ v.y
second_lead v e = ap (λ (x : ℤ). leading_entry 1 (record { x = x; y = v.y; z = v.z })) e

third_lead : (v : Vector) → v.x ≡ pos 0 → v.y ≡ pos 0 → leading_entry 2 v ≡ v.z
third_lead v e e' = λ i. (λ (x y : ℤ). leading_entry 2 (record { x = x; y = y; z = v.z })) (e i) (e' i)

module _ (g : Listing) (rs : List (List Part)) (listed : (v : Vector) → IsInLattice g v → Contains (map parts rs) (residue v)) where
  -- no positive leading entry in the lattice is less
  least_in_lattice : (p : ℕ) (w : Vector) → IsLeastAlong rs p w → (v : Vector) → IsInLattice g v → pos 0 <ℤ leading_entry p v → leading_entry p w ≤ℤ leading_entry p v
  least_in_lattice p w h v inside positive =
      elim (leading_or_edge p v positive) [
        | inl rest ↦ (
            let (k, within, is) = listed v inside in
            let l : k < length rs = subst (λ (n : ℕ). k < n) (length-map rs parts) within in
            let at : parts (get_or rs k []) ≡ residue v = sym (get_or-map parts rs k [] (residue v) l) ∙ is in
            let le = h.least k [] l (subst (λ (u : Vector). pos 0 <ℤ leading_entry p u) (sym at) rest.0) in
            let le' = subst (λ (u : Vector). leading_entry p w ≤ℤ leading_entry p u) at le in
            omega (arith, ints, rest.1))
        | inr edge ↦ (let most = h.most in omega (arith, ints))
      ]

  -- one rest of a division, whose leading entry is less than the least, is 0
  no_rest : (p : ℕ) (w : Vector) → IsLeastAlong rs p w → (v : Vector) → IsInLattice g v → pos 0 ≤ℤ leading_entry p v → leading_entry p v <ℤ leading_entry p w → leading_entry p v ≡ pos 0
  no_rest p w h v inside from below = go (leading_entry p v) from (λ positive. let le = least_in_lattice p w h v inside positive in omega (arith, ints))
    where
      go : (x : ℤ) → pos 0 ≤ℤ x → ((pos 0 <ℤ x) → ⊥) → x ≡ pos 0
      go (pos zero) l n = refl
      go (pos (suc m)) l n = absurd (n (omega (arith, ints)))
      go (negsuc m) l n = absurd (omega (arith, ints))

  module _ (first second third : Vector) (first_in : IsInLattice g first) (second_in : IsInLattice g second) (third_in : IsInLattice g third)
      (h : IsLeastAlong rs 0 first) (k : IsLeastAlong rs 1 second) (l : IsLeastAlong rs 2 third) where
    -- a vector without its whole multiples of the first, and so on
    without_first : (v : Vector) → IsInLattice g v → (q : ℤ) × IsInLattice g (minus v (multiple q first)) × ((minus v (multiple q first)).x ≡ pos 0)
    unfolding plus multiple
    without_first v inside =
        let positive = h.positive in
        let (q, from, below) = floor v.x first.x (omega (arith, ints)) in
        let u = minus v (multiple q first) in
        let rest = lattice-minus g v (multiple q first) inside (lattice-multiple g q first first_in) in
        (q, rest, no_rest 0 first h u rest (omega (arith, ints)) (omega (arith, ints)))

    without_second : (v : Vector) → IsInLattice g v → v.x ≡ pos 0
        → (q : ℤ) × IsInLattice g (minus v (multiple q second)) × ((minus v (multiple q second)).x ≡ pos 0) × ((minus v (multiple q second)).y ≡ pos 0)
    unfolding plus multiple
    without_second v inside flat =
        let (none, positive) = leading_second second k.positive in
        let (q, from, below) = floor v.y second.y (omega (arith, ints)) in
        let u = minus v (multiple q second) in
        let rest = lattice-minus g v (multiple q second) inside (lattice-multiple g q second second_in) in
        let flat' : u.x ≡ pos 0 = (λ i. flat i +ℤ negsuc 0 *ℤ (q *ℤ none i)) ∙ omega (arith, ints) in
        let is : leading_entry 1 u ≡ u.y = second_lead u flat' in
        let is' : leading_entry 1 second ≡ second.y = second_lead second none in
        (q, rest, flat', sym is ∙ no_rest 1 second k u rest (omega (arith, ints)) (omega (arith, ints)))

    without_third : (v : Vector) → IsInLattice g v → v.x ≡ pos 0 → v.y ≡ pos 0 → (q : ℤ) × (minus v (multiple q third) ≡ origin)
    unfolding plus multiple
    without_third v inside flat flat_second =
        let (none, none_second, positive) = leading_third third l.positive in
        let (q, from, below) = floor v.z third.z (omega (arith, ints)) in
        let u = minus v (multiple q third) in
        let rest = lattice-minus g v (multiple q third) inside (lattice-multiple g q third third_in) in
        let flat' : u.x ≡ pos 0 = (λ i. flat i +ℤ negsuc 0 *ℤ (q *ℤ none i)) ∙ omega (arith, ints) in
        let flat_second' : u.y ≡ pos 0 = (λ i. flat_second i +ℤ negsuc 0 *ℤ (q *ℤ none_second i)) ∙ omega (arith, ints) in
        let is : leading_entry 2 u ≡ u.z = third_lead u flat' flat_second' in
        let is' : leading_entry 2 third ≡ third.z = third_lead third none none_second in
        (q, vector_path flat' flat_second' (sym is ∙ no_rest 2 third l u rest (omega (arith, ints)) (omega (arith, ints))))

    all_taken : (v a b c : Vector) (p q s : ℤ) → minus (minus (minus v (multiple p a)) (multiple q b)) (multiple s c) ≡ origin
        → combination (record { a = a; b = c; tau = b }) (record { x = p; y = s; z = q }) ≡ v
    unfolding plus multiple
    all_taken v a b c p q s e =
        let x = ap (λ (u : Vector). u.x) e in
        let y = ap (λ (u : Vector). u.y) e in
        let z = ap (λ (u : Vector). u.z) e in
        vector_path (omega (arith, ints, x)) (omega (arith, ints, y)) (omega (arith, ints, z))

    pub first_basis : IsLatticeBasis g (record { a = first; b = third; tau = second })
    first_basis = record {
      a_in = first_in;
      b_in = third_in;
      tau_in = second_in;
      spans = λ t inside.
          let (p, in_p, flat) = without_first t inside in
          let (q, in_q, flat', flat_second) = without_second (minus t (multiple p first)) in_p flat in
          let (s, is) = without_third (minus (minus t (multiple p first)) (multiple q second)) in_q flat' flat_second in
          (record { x = p; y = s; z = q }, all_taken t first second third p q s is);
    }
