-- The items of a list that a test keeps, and the operations of a group that a test of their matrices keeps, each once.
use Rattle.std.proofs.Common.{◌≡◌, inl, inr, ℕ, zero, suc, ◌+◌, ◌<◌, Bool, true, false, cond, List, [], ◌∷◌, ◌++◌, length, get_or, refl, sym, ap, subst, ◌∙◌, arith}
use Rattle.std.specs.Prelude.{Contains}
use Rattle.std.specs.List.{AllPairs, filter}
use Rattle.std.proofs.lemmas.List.{append-nil, get_or_default, length-append}
use Rattle.std.proofs.lemmas.List.Elements.{filter-append}
use Rattle.std.proofs.lemmas.List.Kept.{AllPairs-filter}
use Rattle.std.proofs.lemmas.Bool.{cases_order}
use Rattle.symmetry.specs.Motions.{Motion, identity}
use Rattle.symmetry.specs.Groups.{Listing, IsGroup, IsMember, SameModulo}
use Rattle.symmetry.specs.Lists.{motion_at, ExactlyOne}
use Rattle.symmetry.proofs.LatticeLaws.{listed_member, same_sym, same_trans}

module _ {X : Type 0} (p : X → Bool) where
  -- one item more
  pub filter-push : (xs : List X) (x : X) → filter p (xs ++ x ∷ []) ≡ cond (p x) (filter p xs ++ x ∷ []) (filter p xs)
  filter-push xs x = filter-append p xs (x ∷ []) ∙ by (p x) refl
    where
      by : (b : Bool) → p x ≡ b → filter p xs ++ filter p (x ∷ []) ≡ cond b (filter p xs ++ x ∷ []) (filter p xs)
      by true e = ap (λ (b : Bool). filter p xs ++ cond b (x ∷ []) []) e
      by false e = ap (λ (b : Bool). filter p xs ++ cond b (x ∷ []) []) e ∙ append-nil (filter p xs)

  -- and how many are kept then
  pub length-filter_push : (xs : List X) (x : X) (n k : ℕ) → n ≡ length (filter p xs) → k ≡ cond (p x) (n + 1) n → k ≡ length (filter p (xs ++ x ∷ []))
  length-filter_push xs x n k is more = more ∙ by (p x) ∙ sym (ap length (filter-push xs x))
    where
      by : (b : Bool) → cond b (n + 1) n ≡ length (cond b (filter p xs ++ x ∷ []) (filter p xs))
      by true = ap (λ n. n + 1) is ∙ sym (length-append (filter p xs) (x ∷ []))
      by false = is

  -- what is kept is listed, and passes the test
  pub filter-has : (xs : List X) (k : ℕ) (d : X) → k < length (filter p xs)
      → Contains xs (get_or (filter p xs) k d) × (p (get_or (filter p xs) k d) ≡ true)
  filter-has [] k d h = absurd (omega arith)
  filter-has (x ∷ xs) k d h = by (λ j l. filter-has xs j d l) (p x) refl k h
    where
      later : (y : X) → Contains xs y × (p y ≡ true) → Contains (x ∷ xs) y × (p y ≡ true)
      later y ((j, within, is), t) = ((suc j, omega arith, is), t)

      by : ((j : ℕ) → j < length (filter p xs) → Contains xs (get_or (filter p xs) j d) × (p (get_or (filter p xs) j d) ≡ true))
          → (b : Bool) → p x ≡ b → (k : ℕ) → k < length (cond b (x ∷ filter p xs) (filter p xs))
          → Contains (x ∷ xs) (get_or (cond b (x ∷ filter p xs) (filter p xs)) k d) × (p (get_or (cond b (x ∷ filter p xs) (filter p xs)) k d) ≡ true)
      by more true e zero h = ((0, omega arith, refl), e)
      by more true e (suc k) h = later _ (more k (omega arith))
      by more false e k h = later _ (more k h)

  pub has-filter : (xs : List X) (y : X) → Contains xs y → p y ≡ true → Contains (filter p xs) y
  has-filter [] y (k, within, is) t = absurd (omega arith)
  has-filter (x ∷ xs) y (zero, within, is) t = by (p x) (ap p is ∙ t)
    where
      by : (b : Bool) → b ≡ true → Contains (cond b (x ∷ filter p xs) (filter p xs)) y
      by true e = (0, omega arith, is)
      by false e = absurd (cc e)
  has-filter (x ∷ xs) y (suc k, within, is) t =
      let (j, l, e) = has-filter xs y (k, omega arith, is) t in
      by (p x) j l e
    where
      by : (b : Bool) (j : ℕ) → j < length (filter p xs) → get_or (filter p xs) j y ≡ y → Contains (cond b (x ∷ filter p xs) (filter p xs)) y
      by true j l e = (suc j, omega arith, e)
      by false j l e = (j, l, e)

-- a test of motions, which says the same of motions with one matrix
module _ (g : Listing) (p : Motion → Bool) (Keeps : Motion → Type 0) (kept : (m : Motion) → Keeps m → p m ≡ true)
    (same_matrix : (m n : Motion) → m.matrix ≡ n.matrix → Keeps m → Keeps n) where
  abbrev ms : List Motion
  ms = filter p g.ops

  module _ (apart : AllPairs (λ m n. ¬ SameModulo g m n) g.ops) where
    only_one : (m : Motion) (j k : ℕ) → j < length ms → k < length ms → SameModulo g m (motion_at ms j) → SameModulo g m (motion_at ms k) → k ≡ j
    only_one m j k hj hk p' q' =
        let ms_apart : AllPairs (λ m n. ¬ SameModulo g m n) ms = AllPairs-filter (λ m n. ¬ SameModulo g m n) p g.ops apart in
        let across : SameModulo g (motion_at ms j) (motion_at ms k) = same_trans g (motion_at ms j) m (motion_at ms k) (same_sym g m (motion_at ms j) p') q' in
        elim (cases_order j k) [
          | inl e ↦ sym e
          | inr (inl l) ↦ absurd (ms_apart j k identity l hk across)
          | inr (inr l) ↦ absurd (ms_apart k j identity l hj (same_sym g (motion_at ms j) (motion_at ms k) across))
        ]

    -- each member that the test keeps is the same as exactly one of the operations that it keeps
    pub kept_once : (m : Motion) → IsMember g m → Keeps m → ExactlyOne ms (SameModulo g m)
    kept_once m member keeps =
        let of = member.of in
        let (j, within, is) = has-filter p g.ops of member.listed (kept of (same_matrix m of member.same.matrix keeps)) in
        let at : motion_at ms j ≡ of = get_or_default ms j identity of within ∙ is in
        let same : SameModulo g m (motion_at ms j) = subst (SameModulo g m) (sym at) member.same in
        record { place = j; within = within; has = same; only = λ k h q. only_one m j k within h same q }

  -- a group has such an operation, where the test keeps the identity
  pub some_kept : IsGroup g → Keeps identity → 0 < length ms
  some_kept group keeps =
      let one = group.has_identity in
      let (j, within, is) = has-filter p g.ops one.of one.listed (kept one.of (same_matrix identity one.of one.same.matrix keeps)) in
      omega arith

-- the operations that a test keeps are members, and what the test says holds for them
pub kept_listed : (g : Listing) (p : Motion → Bool) (Keeps : Motion → Type 0) → ((m : Motion) → p m ≡ true → Keeps m)
    → (k : ℕ) → k < length (filter p g.ops) → IsMember g (motion_at (filter p g.ops) k) × Keeps (motion_at (filter p g.ops) k)
kept_listed g p Keeps keeps k h =
    let (listed, t) = filter-has p g.ops k identity h in
    (listed_member g (motion_at (filter p g.ops) k) listed, keeps (motion_at (filter p g.ops) k) t)
