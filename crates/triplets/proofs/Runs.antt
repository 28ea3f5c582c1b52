-- What holds of every reader that takes a text byte by byte, up to its first fault.
use Rattle.std.proofs.Common.{◌≡◌, ℕ, ◌+◌, ◌<◌, List, [], ◌∷◌, ◌++◌, length, get_or, take, drop, Result, Ok, Err, refl, sym, ◌∙◌, ap, subst, add-one, append_assoc}
use Rattle.std.proofs.Math.Seq.{take-suc, take-length}
use Rattle.std.proofs.lemmas.List.{append-nil, take-append-drop}
use Rattle.triplets.specs.declared.fault.TextKind.{TextKind}
use Rattle.triplets.specs.Runs.{advanced, run_by}

abbrev pub going : {S : Type 0} → S → Result S TextKind
going s = Ok s

abbrev pub stopped : {S : Type 0} → TextKind → Result S TextKind
stopped k = Err k

pub going_is : {S : Type 0} (s t : S) → going s ≡ going t → t ≡ s
going_is s t e = cc

pub stopped_is : {S : Type 0} (k l : TextKind) → stopped {S = S} k ≡ stopped l → l ≡ k
stopped_is k l e = cc

pub not_going : {S A : Type 0} (k : TextKind) (s : S) → stopped k ≡ going s → A
not_going k s e = absurd cc

pub not_stopped : {S A : Type 0} (s : S) (k : TextKind) → going s ≡ stopped k → A
not_stopped s k e = absurd cc

-- ---- runs

pub run-append : {S E : Type 0} (step : ℕ → S → Result S E) (r : Result S E) (xs ys : List ℕ) → run_by step r (xs ++ ys) ≡ run_by step (run_by step r xs) ys
run-append step r [] ys = refl
run-append step r (x ∷ xs) ys = run-append step (advanced step r x) xs ys

-- one run behind another
pub run_then : {S E : Type 0} (step : ℕ → S → Result S E) (r s t : Result S E) (xs ys : List ℕ) → run_by step r xs ≡ s → run_by step s ys ≡ t → run_by step r (xs ++ ys) ≡ t
run_then step r s t xs ys p q = run-append step r xs ys ∙ (ap (λ u. run_by step u ys) p ∙ q)

-- one byte behind a run
pub run_more : {S E : Type 0} (step : ℕ → S → Result S E) (r : Result S E) (xs : List ℕ) (b : ℕ) (s : S) (t : Result S E) → run_by step r xs ≡ Ok s → step b s ≡ t → run_by step r (xs ++ b ∷ []) ≡ t
run_more step r xs b s t p q = run_then step r (Ok s) t xs (b ∷ []) p q

-- a fault stays
pub run_stopped : {S E : Type 0} (step : ℕ → S → Result S E) (e : E) (xs : List ℕ) → run_by step (Err e) xs ≡ Err e
run_stopped step e [] = refl
run_stopped step e (x ∷ xs) = run_stopped step e xs

pub no_run : {S E A : Type 0} (step : ℕ → S → Result S E) (e : E) (xs : List ℕ) (t : S) → run_by step (Err e) xs ≡ Ok t → A
no_run step e xs t h = absurd (let z = run_stopped step e xs in cc)

-- the next byte of a piece
pub run_next : {S E : Type 0} (step : ℕ → S → Result S E) (r : Result S E) (text piece : List ℕ) (i : ℕ) (s : S) (t : Result S E) → i < length piece → run_by step r (text ++ take i piece) ≡ Ok s → step (get_or piece i 0) s ≡ t →
    run_by step r (text ++ take (i + 1) piece) ≡ t
run_next step r text piece i s t h p q =
    let next : take (i + 1) piece ≡ take i piece ++ get_or piece i 0 ∷ [] = rw add-one (take-suc piece i 0 h) in
    ap (run_by step r) (ap (λ x. text ++ x) next ∙ sym (append_assoc text (take i piece) (get_or piece i 0 ∷ []))) ∙ run_more step r (text ++ take i piece) (get_or piece i 0) s t p q

-- a fault in a piece is that of all of it
pub run_all : {S E : Type 0} (step : ℕ → S → Result S E) (r : Result S E) (text piece : List ℕ) (i : ℕ) (e : E) → run_by step r (text ++ take i piece) ≡ Err e → run_by step r (text ++ piece) ≡ Err e
run_all step r text piece i e p =
    ap (run_by step r) (ap (λ x. text ++ x) (sym (take-append-drop i piece)) ∙ sym (append_assoc text (take i piece) (drop i piece)))
    ∙ run_then step r (Err e) (Err e) (text ++ take i piece) (drop i piece) p (run_stopped step e (drop i piece))

-- a piece is read
pub run_whole : {S E : Type 0} (step : ℕ → S → Result S E) (r : Result S E) (text piece : List ℕ) (i : ℕ) (t : Result S E) → i ≡ length piece → run_by step r (text ++ take i piece) ≡ t → run_by step r (text ++ piece) ≡ t
run_whole step r text piece i t e p = ap (λ x. run_by step r (text ++ x)) (sym (ap (λ n. take n piece) e ∙ take-length piece)) ∙ p

-- ---- what each byte carries on

carries_by : {S : Type 0} (step : ℕ → S → Result S TextKind) (Holds : S → List ℕ → Type 0) (r : Result S TextKind) (b : ℕ) (bs : List ℕ) (s t : S) → ((b : ℕ) (bs : List ℕ) (s t : S) → Holds s (b ∷ bs) → step b s ≡ going t → Holds t bs) →
    ((u : S) → Holds u bs → run_by step (going u) bs ≡ going t → Holds t []) → Holds s (b ∷ bs) → step b s ≡ r → run_by step r bs ≡ going t → Holds t []
carries_by step Holds (Err k) b bs s t one further h i e = no_run step k bs t e
carries_by step Holds (Ok u) b bs s t one further h i e = further u (one b bs s u h i) e

-- what holds of a place and the bytes that come holds at the end, if each byte keeps it
pub carries : {S : Type 0} (step : ℕ → S → Result S TextKind) (Holds : S → List ℕ → Type 0) → ((b : ℕ) (bs : List ℕ) (s t : S) → Holds s (b ∷ bs) → step b s ≡ going t → Holds t bs) →
    (bs : List ℕ) (s t : S) → Holds s bs → run_by step (going s) bs ≡ going t → Holds t []
carries step Holds one [] s t h e = subst (λ x. Holds x []) (sym (going_is s t e)) h
carries step Holds one (b ∷ bs) s t h e = carries_by step Holds (step b s) b bs s t one (λ u. carries step Holds one bs u t) h refl e

-- a reader inside another one
pub follows : {S T : Type 0} (step : ℕ → S → Result S TextKind) (outer : ℕ → T → Result T TextKind) (within : S → T) → ((b : ℕ) (s t : S) → step b s ≡ going t → outer b (within s) ≡ going (within t)) →
    (bs : List ℕ) (s t : S) → run_by step (going s) bs ≡ going t → run_by outer (going (within s)) bs ≡ going (within t)
follows step outer within one bs s t e =
    carries step (λ x xs. run_by outer (going (within s)) bs ≡ run_by outer (going (within x)) xs) (λ b xs x y h i. h ∙ ap (λ r. run_by outer r xs) (one b x y i)) bs s t refl e

-- what was begun goes on with these bytes, to where the reader stands
pub record Goes {Q S : Type 0} (written : Q → List ℕ) (reached : Q → S) (q : Q) (bs : List ℕ) (s : S) : Type 0 where
  pub to : Q
  pub text : written q ++ bs ≡ written to
  pub state : s ≡ reached to

-- what is read goes on with the bytes, if each byte does
pub goes_on : {Q S : Type 0} (step : ℕ → S → Result S TextKind) (written : Q → List ℕ) (reached : Q → S) → ((q : Q) (b : ℕ) (t : S) → step b (reached q) ≡ going t → Goes written reached q (b ∷ []) t) →
    (bs : List ℕ) (q : Q) (t : S) → run_by step (going (reached q)) bs ≡ going t → Goes written reached q bs t
goes_on step written reached one bs q t e =
    let h = carries step (λ s xs. (p : _) × (s ≡ reached p) × (written q ++ bs ≡ written p ++ xs)) (λ b xs s u h i.
    let g = one h.0 b u (ap (step b) (sym h.1) ∙ i) in
    (g.to, g.state, h.2 ∙ (sym (append_assoc (written h.0) (b ∷ []) xs) ∙ ap (λ x. x ++ xs) g.text))) bs (reached q) t (q, refl, refl) e in
    record { to = h.0; text = h.2 ∙ append-nil (written h.0); state = h.1 }
