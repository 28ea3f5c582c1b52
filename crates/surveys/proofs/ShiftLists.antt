-- The shifts of the operations that turn the row, modulo the period, each once.
use Rattle.std.proofs.Common.{◌≡◌, ℕ, ◌+◌, ◌<◌, ◌≤◌, ℤ, pos, neg_ℤ, ◌+ℤ◌, ◌*ℤ◌, ◌≤ℤ◌, ◌<ℤ◌, ◌⊎◌, inl, inr, List, [], ◌∷◌, ◌++◌, length, get_or, map, take, sym, ap, subst, ◌∙◌, arith, lit<, unsigned_abs}
use Rattle.std.specs.Prelude.{Contains}
use Rattle.std.proofs.lemmas.Int.{ints}
use Rattle.std.proofs.lemmas.List.{length-map, take_all}
use Rattle.std.proofs.lemmas.List.Elements.{Contains-append_left, Contains-push, Contains-push_cases}
use Rattle.fractions.specs.declared.part.TheConstants.{UNIT}
use Rattle.integers.proofs.Coded.{again, again_is}
use Rattle.integers.proofs.Solver.{Expr.{var, num, neg, ◌⊕◌, ◌⊗◌}, given, linear}
use Rattle.symmetry.specs.Vectors.{Vector, dot, row_times}
use Rattle.symmetry.specs.Motions.{Motion}
use Rattle.motions.specs.Views.{motion_of}
use Rattle.motions.specs.declared.motion.Motion3.{Motion3}
use Rattle.orbits.proofs.RowLists.{motions_more}
use Rattle.scanning.specs.Levels.{IsTurned}
use Rattle.scanning.proofs.HeightNumbers.{one_rest}
use Rattle.scanning.proofs.TurnedLevels.{Turns}
use Rattle.surveys.specs.Additions.{IsWith}
use Rattle.surveys.specs.Surveys.{ListsSet}
use Rattle.surveys.specs.TurnedShifts.{IsTurnedShift}
use Rattle.surveys.proofs.Sets.{lists_nothing, lists_same, lists_with}

-- what whole periods are taken off again
taken_off : (t x k d : ℤ) → t ≡ x +ℤ k *ℤ d → t +ℤ d *ℤ neg_ℤ k ≡ x
taken_off t x k d e =
    linear (t ∷ x ∷ k ∷ d ∷ []) (var 0 ⊕ var 3 ⊗ neg (var 2)) (var 1) (given (num (pos 1)) (var 0) (var 1 ⊕ var 2 ⊗ var 3) ∷ []) tt (e, tt)

-- numbers of this size go to bits and back
pub period_again : (d : ℤ) → pos 1 ≤ℤ d → d ≤ℤ UNIT → again d ≡ d
period_again d from most = again_is d (unsigned_abs UNIT) (record { most = omega (arith, ints, from, most) }) (lit< tt)

pub shift_again : (t d : ℤ) → pos 0 ≤ℤ t → t <ℤ d → d ≤ℤ UNIT → again t ≡ t
shift_again t d from below most = again_is t (unsigned_abs UNIT) (record { most = omega (arith, ints, from, below, most) }) (lit< tt)

module _ (r : Vector) (d : ℤ) where
  pub no_shifts : (ts : List ℤ) → ts ≡ [] → ListsSet (IsTurnedShift r d []) ts
  no_shifts ts e = lists_nothing (IsTurnedShift r d []) ts e (λ t is. let (k, within, at) = is.turned.listed in absurd (omega (arith, within)))

  module _ (ms : List Motion) (m : Motion) where
    later : (t : ℤ) → IsTurnedShift r d ms t → IsTurnedShift r d (ms ++ m ∷ []) t
    later t is = record {
      from = is.from;
      below = is.below;
      turned = record {
        op = is.turned.op;
        listed = Contains-append_left ms (m ∷ []) is.turned.op is.turned.listed;
        row = is.turned.row;
        periods = is.turned.periods;
        is = is.turned.is;
      };
    }

    before_it : (t : ℤ) → (is : IsTurnedShift r d (ms ++ m ∷ []) t) → Contains ms is.turned.op → IsTurnedShift r d ms t
    before_it t is listed = record {
      from = is.from;
      below = is.below;
      turned = record { op = is.turned.op; listed = listed; row = is.turned.row; periods = is.turned.periods; is = is.turned.is };
    }

  pub shifts_passed : (ms : List Motion) (m : Motion) (ts : List ℤ) → ¬ Turns r d m → ListsSet (IsTurnedShift r d ms) ts
      → ListsSet (IsTurnedShift r d (ms ++ m ∷ [])) ts
  shifts_passed ms m ts not =
      lists_same (IsTurnedShift r d ms) (IsTurnedShift r d (ms ++ m ∷ [])) ts (later ms m)
      (λ t is. elim (Contains-push_cases ms m is.turned.op is.turned.listed) [
        | inl before ↦ before_it ms m t is before
        | inr same ↦ absurd (not (ap (λ (n : Motion). row_times r n.matrix) same ∙ is.turned.row))
      ])

  pub shifts_taken : (ms : List Motion) (m : Motion) (ts us : List ℤ) (t k : ℤ) → Turns r d m → pos 0 ≤ℤ t → t <ℤ d → t ≡ dot r m.translation +ℤ k *ℤ d
      → IsWith ts t us → ListsSet (IsTurnedShift r d ms) ts → ListsSet (IsTurnedShift r d (ms ++ m ∷ [])) us
  shifts_taken ms m ts us t k row from below at with so_far =
      lists_same (λ u. IsTurnedShift r d ms u ⊎ (u ≡ t)) (IsTurnedShift r d (ms ++ m ∷ [])) us
      (λ u in_it. elim in_it [ inl old ↦ later ms m u old | inr e ↦ subst (IsTurnedShift r d (ms ++ m ∷ [])) (sym e) here ])
      (λ u is. elim (Contains-push_cases ms m is.turned.op is.turned.listed) [
        | inl before ↦ inl (before_it ms m u is before)
        | inr same ↦ inr (one_rest d u t (neg_ℤ is.turned.periods) (neg_ℤ k) (dot r m.translation) is.from is.below from below
            (taken_off u (dot r m.translation) is.turned.periods d (is.turned.is ∙ ap (λ (n : Motion). dot r n.translation +ℤ is.turned.periods *ℤ d) (sym same)))
            (taken_off t (dot r m.translation) k d at))
      ])
      (lists_with (IsTurnedShift r d ms) ts t us so_far with)
    where
      here : IsTurnedShift r d (ms ++ m ∷ []) t
      here = record { from = from; below = below; turned = record { op = m; listed = Contains-push ms m; row = row; periods = k; is = at } }

  -- ---- the operations of the code, up to one more

  module _ (ops : List Motion3) (i : ℕ) (e : Motion3) (within : i < length ops) (ts us : List ℤ)
      (so_far : ListsSet (IsTurnedShift r d (take i (map motion_of ops))) ts) where
    to_more : ListsSet (IsTurnedShift r d (take i (map motion_of ops) ++ motion_of (get_or ops i e) ∷ [])) us
        → ListsSet (IsTurnedShift r d (take (i + 1) (map motion_of ops))) us
    to_more = subst (λ l. ListsSet (IsTurnedShift r d l) us) (sym (motions_more ops i e within))

    pub passed_more : us ≡ ts → ¬ Turns r d (motion_of (get_or ops i e)) → ListsSet (IsTurnedShift r d (take (i + 1) (map motion_of ops))) us
    passed_more is not =
        to_more (shifts_passed (take i (map motion_of ops)) (motion_of (get_or ops i e)) us not
        (subst (ListsSet (IsTurnedShift r d (take i (map motion_of ops)))) (sym is) so_far))

    pub taken_more : d ≤ℤ UNIT → (t k : ℤ) → IsWith ts (again t) us → Turns r d (motion_of (get_or ops i e)) → pos 0 ≤ℤ t → t <ℤ d
        → t ≡ dot r (motion_of (get_or ops i e)).translation +ℤ k *ℤ d → ListsSet (IsTurnedShift r d (take (i + 1) (map motion_of ops))) us
    taken_more most t k with row from below at =
        to_more (shifts_taken (take i (map motion_of ops)) (motion_of (get_or ops i e)) ts us t k row from below at
        (subst (λ z. IsWith ts z us) (shift_again t d from below most) with) so_far)

  pub all_shifts : (ops : List Motion3) (all : List Motion) (i : ℕ) (ts : List ℤ) → map motion_of ops ≡ all → length ops ≤ i
      → ListsSet (IsTurnedShift r d (take i (map motion_of ops))) ts → ListsSet (IsTurnedShift r d all) ts
  all_shifts ops all i ts e h =
      subst (λ l. ListsSet (IsTurnedShift r d l) ts) (take_all i (map motion_of ops) (omega (arith, h, length-map ops motion_of)) ∙ e)
