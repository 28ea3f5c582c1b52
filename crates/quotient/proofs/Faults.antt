-- A list has one fault at most, and a group has none.
use Rattle.std.proofs.Common.{◌≡◌, ◌↔◌, ℕ, ◌-◌, ◌<◌, List, Contains, Result, Ok, Err, IsOk, arith, ap, inl, inr, refl, subst, sym}
use Rattle.std.proofs.lemmas.List.Elements.{Contains-get_or}
use Rattle.quotient.specs.declared.check.GroupFault.{GroupFault}
use Rattle.quotient.specs.declared.check.GroupFault.TheVariants.{NoIdentity, ShiftMoved, NotClosed, NoInverse}
use Rattle.quotient.specs.Kind.{Kind, Keeps}
use Rattle.quotient.specs.Groups.{IsClosed, IsFault, IsFirstOpen, IsFirstWithout, IsGroup, IsPosition, HasInverse, motion_at}

pub same_number : (i j : ℕ) → ¬ (i < j) → ¬ (j < i) → i ≡ j
same_number i j a b = omega arith

abbrev pub acceptance : Result (Unit {0}) GroupFault
acceptance = Ok tt

abbrev pub refusal : GroupFault → Result (Unit {0}) GroupFault
refusal fault = Err fault

module _ (K : Kind) (list : List K.Motion) where
  stands : (i : ℕ) → IsPosition K list i → Contains list (motion_at K list i)
  stands i p = Contains-get_or list (i - 1) K.one (omega arith)

  pub one_first : (Has : K.Motion → Type 0) (i j : ℕ) → IsFirstWithout K Has list i → IsFirstWithout K Has list j → i ≡ j
  one_first Has i j a b = same_number i j (λ h. a.lacks (b.before i a.position h)) (λ h. b.lacks (a.before j b.position h))

  pub none_first : (Has : K.Motion → Type 0) (i : ℕ) → ((m : K.Motion) → Contains list m → Has m) → ¬ IsFirstWithout K Has list i
  none_first Has i all a = a.lacks (all (motion_at K list i) (stands i a.position))

  one_open : (i j k l : ℕ) → IsFirstOpen K list i j → IsFirstOpen K list k l → NotClosed i j ≡ NotClosed k l
  one_open i j k l a b =
      let row : i ≡ k = same_number i k
      (λ h. a.lacks (b.before i j a.first a.second (inl h))) (λ h. b.lacks (a.before k l b.first b.second (inl h))) in
      let column : j ≡ l = same_number j l
      (λ h. a.lacks (b.before i j a.first a.second (inr (row, h)))) (λ h. b.lacks (a.before k l b.first b.second (inr (sym row, h)))) in
      cc

  none_open : (i j : ℕ) → IsClosed K list → ¬ IsFirstOpen K list i j
  none_open i j all a = a.lacks (all (motion_at K list i) (motion_at K list j) (stands i a.first) (stands j a.second))

  one_fault : (a b : GroupFault) → IsFault K list a → IsFault K list b → a ≡ b
  one_fault NoIdentity NoIdentity f h = refl
  one_fault NoIdentity (ShiftMoved i) f h = absurd (f h.0)
  one_fault NoIdentity (NotClosed i j) f h = absurd (f h.0)
  one_fault NoIdentity (NoInverse i) f h = absurd (f h.0)
  one_fault (ShiftMoved i) NoIdentity f h = absurd (h f.0)
  one_fault (ShiftMoved i) (ShiftMoved j) f h = ap ShiftMoved (one_first (Keeps K) i j f.1 h.1)
  one_fault (ShiftMoved i) (NotClosed j k) f h = absurd (none_first (Keeps K) i h.1 f.1)
  one_fault (ShiftMoved i) (NoInverse j) f h = absurd (none_first (Keeps K) i h.1 f.1)
  one_fault (NotClosed i j) NoIdentity f h = absurd (h f.0)
  one_fault (NotClosed i j) (ShiftMoved k) f h = absurd (none_first (Keeps K) k f.1 h.1)
  one_fault (NotClosed i j) (NotClosed k l) f h = one_open i j k l f.2 h.2
  one_fault (NotClosed i j) (NoInverse k) f h = absurd (none_open i j h.2 f.2)
  one_fault (NoInverse i) NoIdentity f h = absurd (h f.0)
  one_fault (NoInverse i) (ShiftMoved j) f h = absurd (none_first (Keeps K) j f.1 h.1)
  one_fault (NoInverse i) (NotClosed j k) f h = absurd (none_open j k f.2 h.2)
  one_fault (NoInverse i) (NoInverse j) f h = ap NoInverse (one_first (HasInverse K list) i j f.3 h.3)

  no_fault : (a : GroupFault) → IsGroup K list → ¬ IsFault K list a
  no_fault NoIdentity h f = f h.identity
  no_fault (ShiftMoved i) h f = none_first (Keeps K) i h.keeps f.1
  no_fault (NotClosed i j) h f = none_open i j h.closed f.2
  no_fault (NoInverse i) h f = none_first (HasInverse K list) i h.inverses f.3

  -- what a refusal says, and that no other is said
  pub refused_exactly : (a : GroupFault) → IsFault K list a → (b : GroupFault) → (refusal a ≡ Err b) ↔ IsFault K list b
  refused_exactly a f b = (
    λ e. let same : a ≡ b = cc in subst (IsFault K list) same f,
    λ h. ap Err (one_fault a b f h),
  )

  pub not_accepted : (a : GroupFault) → IsFault K list a → IsOk (refusal a) ↔ IsGroup K list
  not_accepted a f = (λ e. cc, λ h. absurd (no_fault a h f))

  pub not_refused : IsGroup K list → (b : GroupFault) → (acceptance ≡ Err b) ↔ IsFault K list b
  not_refused h b = (λ e. cc, λ f. absurd (no_fault b h f))
