-- The survey, place after place.
use Rattle.std.proofs.Common.{◌≡◌, ◌⊎◌, ℕ, ◌+◌, ◌*◌, ◌<◌, ◌≤◌, lit<, ℤ, pos, ◌+ℤ◌, ◌-ℤ◌, ◌*ℤ◌, ◌≤ℤ◌, ◌<ℤ◌, List, [], ◌∷◌, ◌++◌, get_or, inl, inr, sym, ap, subst, arith, unsigned_abs}
use Rattle.std.specs.Prelude.{All, AllPairs, Any}
use Rattle.std.proofs.lemmas.Int.{ints}
use Rattle.std.proofs.lemmas.Bool.{cases_lt}
use Rattle.std.proofs.lemmas.Grind.{common_steps}
use Rattle.std.proofs.lemmas.List.Elements.{All-nil, All-push}
use Rattle.std.proofs.lemmas.List.Quantifiers.{Any-push, all_pairs_push}
use Rattle.integers.proofs.Coded.{again, again_is}
use Rattle.integers.proofs.Solver.{Expr.{var, num, ◌⊕◌, ◌⊝◌, ◌⊗◌}, ring}
use Rattle.symmetry.specs.Frames.{IsSpecial}
use Rattle.symmetry.specs.Groups.{Listing}
use Rattle.symmetry.specs.Listings.{AreAlike}
use Rattle.symmetry.specs.Planes.{Height}
use Rattle.symmetry.specs.Scans.{IsInPeriod}
use Rattle.symmetry.proofs.Alike.{alike_sym, special_to}
use Rattle.symmetry.specs.Sizes.{IsVectorWithin}
use Rattle.symmetry.specs.Vectors.{Vector}
use Rattle.surveys.specs.Places.{place_of, side}
use Rattle.surveys.specs.Surveys.{AreEquivalent, HasCounts, IsGreater, IsRepresentative, IsSurvey, SurveyedPlane}
use Rattle.surveys.proofs.Digits.{earlier, greater_first, one_triple}
use Rattle.surveys.proofs.Equivalence.{equivalent_from, equivalent_to}
use Rattle.surveys.proofs.Sets.{lists_same}
use Rattle.surveys.proofs.Greatest.{Compared.{greater, equal, less}, compared}

-- the survey of the triples at the places before the end
pub record IsSurveyedTo (g : Listing) (n end : ℤ) (list : List SurveyedPlane) : Type 0 where
  pub each : All (λ (p : SurveyedPlane). IsRepresentative g (unsigned_abs n) p.plane) list
  pub whole : (r : Vector) → IsRepresentative g (unsigned_abs n) r → place_of n r <ℤ end → Any (λ (p : SurveyedPlane). p.plane ≡ r) list
  pub falling : AllPairs (λ (p q : SurveyedPlane). IsGreater p.plane q.plane) list
  pub before : All (λ (p : SurveyedPlane). place_of n p.plane <ℤ end) list
  pub counts : All (HasCounts g) list

module _ (n : ℤ) (from : pos 1 ≤ℤ n) where
  -- ---- the first place and the last

  abbrev corner : ℤ → Vector
  corner c = record { x = c; y = c; z = c }

  corner_within : IsVectorWithin (unsigned_abs n) (corner n)
  corner_within = record { x = record { most = omega (arith, ints) }; y = record { most = omega (arith, ints) }; z = record { most = omega (arith, ints) } }

  first_place : place_of n (corner n) ≡ pos 0
  first_place = ring (n ∷ []) (((var 0 ⊝ var 0) ⊗ (num (pos 2) ⊗ var 0 ⊕ num (pos 1)) ⊕ (var 0 ⊝ var 0)) ⊗ (num (pos 2) ⊗ var 0 ⊕ num (pos 1)) ⊕ (var 0 ⊝ var 0)) (num (pos 0)) tt

  not_above : (r : Vector) → IsVectorWithin (unsigned_abs n) r → IsGreater r (corner n) → ⊥
  not_above r w (inl h) = omega (arith, ints, h, w.x.most, from)
  not_above r w (inr (e, inl h)) = omega (arith, ints, h, w.y.most, from)
  not_above r w (inr (e, inr (f, h))) = omega (arith, ints, h, w.z.most, from)

  pub place_from : (r : Vector) → IsVectorWithin (unsigned_abs n) r → pos 0 ≤ℤ place_of n r
  place_from r w = elim (compared (corner n) r) [
    | greater more ↦ let h = earlier n from (corner n) r corner_within w more in omega (arith, ints, h, first_place)
    | equal same ↦ let h = ap (place_of n) same in omega (arith, ints, h, first_place)
    | less more ↦ absurd (not_above r w more)
  ]

  last_place : place_of n (corner (pos 0 -ℤ n)) +ℤ pos 1 ≡ side n *ℤ side n *ℤ side n
  last_place =
      let s = num (pos 2) ⊗ var 0 ⊕ num (pos 1) in
      let x = var 0 ⊝ (num (pos 0) ⊝ var 0) in
      ring (n ∷ []) (((x ⊗ s ⊕ x) ⊗ s ⊕ x) ⊕ num (pos 1)) (s ⊗ s ⊗ s) tt

  last_within : IsVectorWithin (unsigned_abs n) (corner (pos 0 -ℤ n))
  last_within = record { x = record { most = omega (arith, ints) }; y = record { most = omega (arith, ints) }; z = record { most = omega (arith, ints) } }

  not_below : (r : Vector) → IsVectorWithin (unsigned_abs n) r → IsGreater (corner (pos 0 -ℤ n)) r → ⊥
  not_below r w (inl h) = omega (arith, ints, h, w.x.most, from)
  not_below r w (inr (e, inl h)) = omega (arith, ints, h, w.y.most, from)
  not_below r w (inr (e, inr (f, h))) = omega (arith, ints, h, w.z.most, from)

  pub place_below : (r : Vector) → IsVectorWithin (unsigned_abs n) r → place_of n r <ℤ (side n *ℤ side n *ℤ side n)
  place_below r w = elim (compared r (corner (pos 0 -ℤ n))) [
    | greater more ↦ let h = earlier n from r (corner (pos 0 -ℤ n)) w last_within more in omega (arith, ints, h, last_place)
    | equal same ↦ let h = ap (place_of n) same in omega (arith, ints, h, last_place)
    | less more ↦ absurd (not_below r w more)
  ]

  -- ---- one place after another

  module _ (g : Listing) where
    pub begins : (list : List SurveyedPlane) → list ≡ [] → IsSurveyedTo g n (pos 0) list
    begins list e = subst (IsSurveyedTo g n (pos 0)) (sym e) (record {
      each = All-nil _;
      whole = λ r is lt. let h = place_from r is.within.size in absurd (omega (arith, ints, h, lt));
      falling = λ i j d lt h. absurd (omega arith);
      before = All-nil _;
      counts = All-nil _;
    })

    pub passed : (p : ℕ) (list : List SurveyedPlane) → ((r : Vector) → IsRepresentative g (unsigned_abs n) r → ¬ (place_of n r ≡ pos p))
        → IsSurveyedTo g n (pos p) list → IsSurveyedTo g n (pos (p + 1)) list
    passed p list none h = record {
      each = h.each;
      whole = λ r is lt. by r is lt (cases_lt (unsigned_abs (place_of n r)) p);
      falling = h.falling;
      before = λ i d lt. let b = h.before i d lt in omega (arith, ints, b);
      counts = h.counts;
    }
      where
        by : (r : Vector) → IsRepresentative g (unsigned_abs n) r → place_of n r <ℤ pos (p + 1) → (unsigned_abs (place_of n r) < p) ⊎ (p ≤ unsigned_abs (place_of n r))
            → Any (λ (q : SurveyedPlane). q.plane ≡ r) list
        by r is lt (inl below) = let from = place_from r is.within.size in h.whole r is (omega (arith, ints, from, below))
        by r is lt (inr above) = let from = place_from r is.within.size in absurd (none r is (omega (arith, ints, from, above, lt)))

    any_left : (P : SurveyedPlane → Type 0) (xs : List SurveyedPlane) (y : SurveyedPlane) → Any P xs → Any P (xs ++ y ∷ [])
    any_left P xs y (i, x, lt, is, p) = (i, x, grind (arith, common_steps), grind (arith, common_steps), p)

    pub taken : (p : ℕ) (list : List SurveyedPlane) (q : SurveyedPlane) → IsRepresentative g (unsigned_abs n) q.plane → place_of n q.plane ≡ pos p → HasCounts g q
        → IsSurveyedTo g n (pos p) list → IsSurveyedTo g n (pos (p + 1)) (list ++ q ∷ [])
    taken p list q is here counts h = record {
      each = All-push (λ (a : SurveyedPlane). IsRepresentative g (unsigned_abs n) a.plane) list q h.each is;
      whole = λ r other lt. by r other lt (cases_lt (unsigned_abs (place_of n r)) p);
      falling = all_pairs_push (λ (a b : SurveyedPlane). IsGreater a.plane b.plane) list q h.falling
          (λ k d lt. greater_first n from (get_or list k d).plane q.plane (h.each k d lt).within.size is.within.size (let b = h.before k d lt in omega (arith, ints, b, here)));
      before = All-push (λ (a : SurveyedPlane). place_of n a.plane <ℤ pos (p + 1)) list q (λ i d lt. let b = h.before i d lt in omega (arith, ints, b)) (omega (arith, ints, here));
      counts = All-push (HasCounts g) list q h.counts counts;
    }
      where
        by : (r : Vector) → IsRepresentative g (unsigned_abs n) r → place_of n r <ℤ pos (p + 1) → (unsigned_abs (place_of n r) < p) ⊎ (p ≤ unsigned_abs (place_of n r))
            → Any (λ (a : SurveyedPlane). a.plane ≡ r) (list ++ q ∷ [])
        by r other lt (inl below) = let from = place_from r other.within.size in any_left _ list q (h.whole r other (omega (arith, ints, from, below)))
        by r other lt (inr above) =
            let low = place_from r other.within.size in
            Any-push (λ (a : SurveyedPlane). a.plane ≡ r) list q (one_triple n from q.plane r is.within.size other.within.size (omega (arith, ints, low, above, lt, here)))

    pub all_surveyed : (end : ℕ) (list : List SurveyedPlane) → (side n *ℤ side n *ℤ side n) ≤ℤ pos end → IsSurveyedTo g n (pos end) list → IsSurvey g (unsigned_abs n) list
    all_surveyed end list far h = record {
      each = h.each;
      whole = λ r is. let below = place_below r is.within.size in h.whole r is (omega (arith, ints, below, far));
      falling = h.falling;
      counts = h.counts;
    }

-- ---- the number of places

pub all_places : (n : ℤ) (end s : ℕ) → pos s ≡ side n → (s * s * s) ≤ end → (side n *ℤ side n *ℤ side n) ≤ℤ pos end
all_places n end s e far = subst (λ z. (z *ℤ z *ℤ z) ≤ℤ pos end) e (omega (arith, ints, far))

-- n as the code has it
pub number_is : (n : ℤ) → pos 1 ≤ℤ n → n ≤ℤ pos 5 → again n ≡ n
number_is n from most = again_is n 5 (record { most = omega (arith, ints, from, most) }) (lit< tt)

pub number_from : (n : ℤ) → pos 1 ≤ℤ n → n ≤ℤ pos 5 → pos 1 ≤ℤ again n
number_from n from most = subst (λ z. pos 1 ≤ℤ z) (sym (number_is n from most)) from

-- ---- listings of one group

module _ (g h : Listing) (alike : AreAlike g h) where
  representative_alike : (n : ℕ) (r : Vector) → IsRepresentative h n r → IsRepresentative g n r
  representative_alike n r is = record { within = is.within; greatest = λ s small equivalent. is.greatest s small (equivalent_to g h alike r s equivalent) }

  representative_to : (n : ℕ) (r : Vector) → IsRepresentative g n r → IsRepresentative h n r
  representative_to n r is = record { within = is.within; greatest = λ s small equivalent. is.greatest s small (equivalent_from g h alike r s equivalent) }

  counts_alike : (p : SurveyedPlane) → HasCounts h p → HasCounts g p
  counts_alike p c = record {
    images = record {
      members = c.images.members;
      are = lists_same (AreEquivalent h p.plane) (AreEquivalent g p.plane) c.images.members (equivalent_from g h alike p.plane) (equivalent_to g h alike p.plane) c.images.are;
      count = c.images.count;
    };
    period = c.period;
    is_period = record {
      positive = c.is_period.positive;
      taken = (c.is_period.taken.0, (alike.lattice c.is_period.taken.0).1 c.is_period.taken.1, c.is_period.taken.2);
      least = λ t inside. c.is_period.least t ((alike.lattice t).0 inside);
    };
    special = record {
      members = c.special.members;
      are = lists_same (λ (s : Height). IsInPeriod c.period s × IsSpecial h p.plane s) (λ (s : Height). IsInPeriod c.period s × IsSpecial g p.plane s) c.special.members
          (λ s i. (i.0, special_to h g (alike_sym g h alike) p.plane s i.1)) (λ s i. (i.0, special_to g h alike p.plane s i.1)) c.special.are;
      count = c.special.count;
    };
  }

  pub survey_alike : (n : ℕ) (list : List SurveyedPlane) → IsSurvey h n list → IsSurvey g n list
  survey_alike n list s = record {
    each = λ i d lt. representative_alike n _ (s.each i d lt);
    whole = λ r is. s.whole r (representative_to n r is);
    falling = s.falling;
    counts = λ i d lt. counts_alike _ (s.counts i d lt);
  }
