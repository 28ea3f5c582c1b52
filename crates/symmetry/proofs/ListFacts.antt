-- A list that is chosen operation by operation is the list of its set.
use Rattle.std.proofs.Common.{◌≡◌, ℕ, zero, suc, ◌<◌, List, ◌∷◌, length, Some, sym, ◌∙◌, subst, arith, inl, inr}
use Rattle.std.proofs.lemmas.Bool.{cases_order}
use Rattle.symmetry.specs.Motions.{Motion}
use Rattle.symmetry.specs.Lists.{motion_at, ExactlyOne, IsFirstPlace, IsListOf, AreDistinct, AreChosen, no_more, passed, taken, IsChoice, AreCovered, IsSameness}

module _ (Same : Motion → Motion → Type 0) (IsHome S : Motion → Type 0) where
  -- n is the choice of the operation at a place
  record Source (ops : List Motion) (n : Motion) : Type 0 where
    place : ℕ
    within : place < length ops
    choice : IsChoice Same IsHome S (motion_at ops place) (Some n)

  later : (m : Motion) (ms : List Motion) (n : Motion) → Source ms n → Source (m ∷ ms) n
  later m ms n s = record { place = suc s.place; within = omega arith; choice = s.choice }

  source : (ops out : List Motion) → AreChosen Same IsHome S ops out → (k : ℕ) → k < length out → Source ops (motion_at out k)
  source _ _ no_more k h = absurd (omega arith)
  source _ _ (passed m ms out none more) k h = later m ms (motion_at out k) (source ms out more k h)
  source _ _ (taken m n ms out one more) zero h = record { place = 0; within = omega arith; choice = one }
  source _ _ (taken m n ms out one more) (suc k) h = later m ms (motion_at out k) (source ms out more k (omega arith))

  -- two places of the second list come from places of the first in the same order
  record Sources (ops : List Motion) (m n : Motion) : Type 0 where
    p : ℕ
    q : ℕ
    before : p < q
    within : q < length ops
    choice_p : IsChoice Same IsHome S (motion_at ops p) (Some m)
    choice_q : IsChoice Same IsHome S (motion_at ops q) (Some n)

  all_later : (k : Motion) (ms : List Motion) (m n : Motion) → Sources ms m n → Sources (k ∷ ms) m n
  all_later k ms m n s = record {
    p = suc s.p;
    q = suc s.q;
    before = omega arith;
    within = omega arith;
    choice_p = s.choice_p;
    choice_q = s.choice_q;
  }

  sources : (ops out : List Motion) → AreChosen Same IsHome S ops out → (j k : ℕ) → j < k → k < length out
      → Sources ops (motion_at out j) (motion_at out k)
  sources _ _ no_more j k l h = absurd (omega arith)
  sources _ _ (passed m ms out none more) j k l h = all_later m ms (motion_at out j) (motion_at out k) (sources ms out more j k l h)
  sources _ _ (taken m n ms out one more) j zero l h = absurd (omega arith)
  sources _ _ (taken m n ms out one more) zero (suc k) l h =
      let s : Source ms (motion_at out k) = source ms out more k (omega arith) in
      record { p = 0; q = suc s.place; before = omega arith; within = omega arith; choice_p = one; choice_q = s.choice }
  sources _ _ (taken m n ms out one more) (suc j) (suc k) l h =
      all_later m ms (motion_at out j) (motion_at out k) (sources ms out more j k (omega arith) (omega arith))

  -- where a member at home stands
  record Target (out : List Motion) (n : Motion) : Type 0 where
    place : ℕ
    within : place < length out
    is : n ≡ motion_at out place

  target : (ops out : List Motion) → AreChosen Same IsHome S ops out → (p : ℕ) (n : Motion) → p < length ops
      → S n → IsHome n → Same n (motion_at ops p) → Target out n
  target _ _ no_more p n l member home same = absurd (omega arith)
  target _ _ (passed m ms out none more) zero n l member home same = absurd (none n member home same)
  target _ _ (passed m ms out none more) (suc p) n l member home same = target ms out more p n (omega arith) member home same
  target _ _ (taken m k ms out one more) zero n l member home same = record { place = 0; within = omega arith; is = one.3 n member home same }
  target _ _ (taken m k ms out one more) (suc p) n l member home same =
      let t : Target out n = target ms out more p n (omega arith) member home same in
      record { place = suc t.place; within = omega arith; is = t.is }

  module _ (ops out : List Motion) (sameness : IsSameness Same) (distinct : AreDistinct Same ops) (covered : AreCovered Same ops S)
      (chosen : AreChosen Same IsHome S ops out) where
    -- no motion is the same as two listed operations
    not_two : (n : Motion) (p q : ℕ) → p < q → q < length ops → Same n (motion_at ops p) → Same n (motion_at ops q) → ⊥
    not_two n p q l h s t = distinct p q l h (sameness.on (motion_at ops p) n (motion_at ops q) (sameness.back n (motion_at ops p) s) t)

    first_place : (n : Motion) (p : ℕ) → p < length ops → Same n (motion_at ops p) → IsFirstPlace ops (Same n) p
    first_place n p h s = record { within = h; has = s; none_before = λ q l t. not_two n q p l h t s }

    -- a motion does not stand twice
    not_twice : (j k : ℕ) → j < k → k < length out → motion_at out j ≡ motion_at out k → ⊥
    not_twice j k l h e =
        let s : Sources ops (motion_at out j) (motion_at out k) = sources ops out chosen j k l h in
        not_two (motion_at out k) s.p s.q s.before s.within
        (subst (λ (m : Motion). Same m (motion_at ops s.p)) e s.choice_p.2)
        s.choice_q.2

    compared : (j k : ℕ) → j < length out → k < length out → motion_at out k ≡ motion_at out j → k ≡ j
    compared j k hj hk e =
        elim (cases_order k j) [
          | inl same ↦ same
          | inr (inl l) ↦ absurd (not_twice k j l hj e)
          | inr (inr l) ↦ absurd (not_twice j k l hk (sym e))
        ]

    exactly_one : (n : Motion) → S n → IsHome n → ExactlyOne out (λ m. n ≡ m)
    exactly_one n member home =
        let (p, h, same) = covered n member in
        let t : Target out n = target ops out chosen p n h member home same in record {
          place = t.place;
          within = t.within;
          has = t.is;
          only = λ k below is. compared t.place k t.within below (sym is ∙ t.is);
        }

    pub chosen_is_list : IsListOf Same ops IsHome S out
    chosen_is_list = record {
      listed = λ k h. let s : Source ops (motion_at out k) = source ops out chosen k h in (s.choice.0, s.choice.1);
      once = exactly_one;
      ordered = λ j k l h.
          let s : Sources ops (motion_at out j) (motion_at out k) = sources ops out chosen j k l h in
          let within : s.p < length ops = omega arith in record {
            p = s.p;
            q = s.q;
            first_of_m = first_place (motion_at out j) s.p within s.choice_p.2;
            first_of_n = first_place (motion_at out k) s.q s.within s.choice_q.2;
            before = s.before;
          };
    }
