-- What holds of the places and kinds of faults, whatever is good and whatever table names the kinds.
use Rattle.std.proofs.Common.{◌≡◌, ℕ, ◌+◌, ◌<◌, List, [], ◌∷◌, ◌++◌, length, get_or, take, drop, Option, Some, None, Result, refl, sym, ◌∙◌, ap, subst, arith, inl, inr, append_assoc, length-append}
use Rattle.std.specs.Prelude.{slice_get}
use Rattle.std.proofs.Math.Seq.{take-length, take-append_seam, take-append-add}
use Rattle.std.proofs.lemmas.List.{append-nil, take-take, take-append-drop}
use Rattle.std.proofs.lemmas.Option.{slice_get-get_or, slice_get_past}
use Rattle.triplets.specs.declared.fault.TextKind.{TextKind}
use Rattle.triplets.specs.declared.fault.TextKind.TheVariants as kinds
use Rattle.triplets.specs.Faults.{TableRow}
use Rattle.triplets.specs.Places.{IsPrefixIn, IsPlaceIn, HasKindBy, IsFaultBy}
use Rattle.triplets.specs.Runs.{run_by}
use Rattle.triplets.proofs.Runs.{going, stopped, run-append, no_run}

-- ---- what begins a good text

-- a good text is the beginning of one
pub itself : (Good : List ℕ → Type 0) (bytes : List ℕ) → Good bytes → IsPrefixIn Good bytes
itself Good bytes h = ([], subst Good (sym (append-nil bytes)) h)

-- a shorter beginning of a good text is one
pub shorter : (Good : List ℕ → Type 0) (l : List ℕ) (m : ℕ) → IsPrefixIn Good l → IsPrefixIn Good (take m l)
shorter Good l m h = (drop m l ++ h.0, subst Good (ap (λ x. x ++ h.0) (sym (take-append-drop m l)) ∙ append_assoc (take m l) (drop m l) h.0) h.1)

-- where a reader of good texts stops none begins so
pub none_begins : {S A : Type 0} (step : ℕ → S → Result S TextKind) (start : S) (Good : List ℕ → Type 0) → ((bytes : List ℕ) → Good bytes → (last : S) × (run_by step (going start) bytes ≡ going last)) →
    (bytes : List ℕ) (k : TextKind) → run_by step (going start) bytes ≡ stopped k → IsPrefixIn Good bytes → A
none_begins step start Good reads bytes k e h =
    let r = reads (bytes ++ h.0) h.1 in
    no_run step k h.0 r.0 (ap (λ u. run_by step u h.0) (sym e) ∙ (sym (run-append step (going start) bytes h.0) ∙ r.1))

-- ---- a fault

-- a fault at the end
pub end_from : (Table : List ℕ → ℕ → TextKind → Type 0) (Good : List ℕ → Type 0) (bytes : List ℕ) → (Good bytes → ⊥) → IsPrefixIn Good bytes → IsFaultBy Table Good bytes (length bytes) kinds.MissingPart
end_from Table Good bytes good prefix = record {
  place = record {
    within = omega arith;
    good = good;
    prefix = subst (IsPrefixIn Good) (sym (take-length bytes)) prefix;
    here = λ z. absurd (omega arith);
  };
  kind_is = subst (λ x. HasKindBy Table (take (length bytes) bytes) x kinds.MissingPart) (sym (slice_get_past bytes (length bytes) (omega arith))) refl;
}

pub take_front : (xs ys : List ℕ) → take (length xs) (xs ++ ys) ≡ xs
take_front xs ys = take-append_seam xs ys

take_front_one : (xs ys : List ℕ) (b : ℕ) → take (length xs + 1) (xs ++ b ∷ ys) ≡ xs ++ b ∷ []
take_front_one xs ys b = take-append-add xs (b ∷ ys) 1

abbrev some_byte : ℕ → Option ℕ
some_byte b = Some b

pub get_front : (xs ys : List ℕ) (b : ℕ) → slice_get (xs ++ b ∷ ys) (length xs) ≡ some_byte b
get_front [] ys b = refl
get_front (x ∷ xs) ys b = get_front xs ys b

-- the fault at a byte
pub fault_from : (Table : List ℕ → ℕ → TextKind → Type 0) (Good : List ℕ → Type 0) (before rest : List ℕ) (b : ℕ) (k : TextKind) → IsPrefixIn Good before → (IsPrefixIn Good (before ++ b ∷ []) → ⊥) → Table before b k → IsFaultBy Table Good (before ++ b ∷ rest) (length before) k
fault_from Table Good before rest b k prefix dead kind = record {
  place = record {
    within = omega (arith, length-append before (b ∷ rest));
    good = λ h. dead (rest, subst Good (sym (append_assoc before (b ∷ []) rest)) h);
    prefix = subst (IsPrefixIn Good) (sym (take_front before (b ∷ rest))) prefix;
    here = λ z h. dead (subst (IsPrefixIn Good) (take_front_one before rest b) h);
  };
  kind_is = subst (λ x. HasKindBy Table x (slice_get (before ++ b ∷ rest) (length before)) k) (sym (take_front before (b ∷ rest)))
      (subst (λ x. HasKindBy Table before x k) (sym (get_front before rest b)) kind);
}

-- the same, where the text is not cut
pub fault_at : (Table : List ℕ → ℕ → TextKind → Type 0) (Good : List ℕ → Type 0) (bytes : List ℕ) (i : ℕ) (k : TextKind) → i < length bytes → IsPrefixIn Good (take i bytes) → (IsPrefixIn Good (take (i + 1) bytes) → ⊥) → Table (take i bytes) (get_or bytes i 0) k →
    IsFaultBy Table Good bytes i k
fault_at Table Good bytes i k h prefix dead kind = record {
  place = record { within = omega arith; good = λ g. dead (shorter Good bytes (i + 1) (itself Good bytes g)); prefix = prefix; here = λ z. dead };
  kind_is = subst (λ x. HasKindBy Table (take i bytes) x k) (sym (slice_get-get_or bytes i 0 h)) kind;
}

-- ---- a text has one fault

-- the beginning of a good line stops before the place of its fault
not_behind : (Good : List ℕ → Type 0) (l : List ℕ) (m n : ℕ) → IsPlaceIn Good l m → IsPlaceIn Good l n → m < n → ⊥
not_behind Good l m n h h' lt =
    h.here (omega (arith, h'.within)) (subst (IsPrefixIn Good) (take-take (m + 1) n l (omega arith)) (shorter Good (take n l) (m + 1) h'.prefix))

one_place : (Good : List ℕ → Type 0) (l : List ℕ) (m n : ℕ) → IsPlaceIn Good l m → IsPlaceIn Good l n → m ≡ n
one_place Good l m n h h' =
    let a : m < n → ⊥ = not_behind Good l m n h h' in
    let b : n < m → ⊥ = not_behind Good l n m h' h in
    omega arith

-- a row gives one kind, where the rows below it do
pub row_one : {P Q Q' : Type 0} {named k k' : TextKind} → (Q → Q' → k ≡ k') → TableRow P named k Q → TableRow P named k' Q' → k ≡ k'
row_one below (inl h) (inl h') = h.1 ∙ sym h'.1
row_one below (inl h) (inr h') = absurd (h'.0 h.0)
row_one below (inr h) (inl h') = absurd (h.0 h'.0)
row_one below (inr h) (inr h') = below h.1 h'.1

one_kind_by : (Table : List ℕ → ℕ → TextKind → Type 0) → ((before : List ℕ) (b : ℕ) (k k' : TextKind) → Table before b k → Table before b k' → k ≡ k') → (before : List ℕ) (at : Option ℕ) (k k' : TextKind) → HasKindBy Table before at k → HasKindBy Table before at k' → k ≡ k'
one_kind_by Table one before None k k' e e' = e ∙ sym e'
one_kind_by Table one before (Some b) k k' h h' = one before b k k' h h'

-- a text has one fault, where the table names one kind
pub one_fault_by : (Table : List ℕ → ℕ → TextKind → Type 0) (Good : List ℕ → Type 0) → ((before : List ℕ) (b : ℕ) (k k' : TextKind) → Table before b k → Table before b k' → k ≡ k') →
    (l : List ℕ) (m n : ℕ) (k k' : TextKind) → IsFaultBy Table Good l m k → IsFaultBy Table Good l n k' → (m ≡ n) × (k ≡ k')
one_fault_by Table Good one l m n k k' h h' =
    let e = one_place Good l m n h.place h'.place in
    (e, one_kind_by Table one (take m l) (slice_get l m) k k' h.kind_is (subst (λ i. HasKindBy Table (take i l) (slice_get l i) k') (sym e) h'.kind_is))
