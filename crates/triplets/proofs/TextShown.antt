-- Which faults a text shows that may go on.
use Rattle.std.proofs.Common.{◌≡◌, ℕ, zero, suc, ◌+◌, List, [], ◌∷◌, ◌++◌, length, Result, Ok, Err, refl, sym, ap, subst, arith, inl, inr, length-append, add-one}
use Rattle.std.proofs.lemmas.List.{append-nil}
use Rattle.triplets.specs.declared.notation.Notation.{Notation}
use Rattle.triplets.specs.declared.fault.TextKind.{TextKind}
use Rattle.triplets.specs.declared.line.LinePlace.{LinePlace}
use Rattle.triplets.specs.Marks.{mark}
use Rattle.triplets.specs.LineReading.{LineState, line_start, line_step, line_run, completed, with_vector, at_place}
use Rattle.triplets.specs.Places.{IsPrefixIn}
use Rattle.triplets.specs.LineFaults.{IsGoodLine, IsPrefixOfGoodLine}
use Rattle.triplets.specs.Texts.{with_front, Fault, IsFirstShown}
use Rattle.triplets.specs.TextReading.{Kept}
use Rattle.triplets.proofs.LineEnds.{is_line_prefix}
use Rattle.triplets.proofs.LinePlaces.{byte_fault}
use Rattle.triplets.proofs.Runs.{going, stopped}
use Rattle.triplets.proofs.Places.{shorter}
use Rattle.triplets.proofs.LineByLine.{bad_line, Claim, IsByLine, HoldsBehind, by_line}

-- nothing of these lines is shown to be bad
abbrev pub IsNoneShown : (nt : Notation) → (List ℕ → Type 0) → List (List ℕ) → Type 0
IsNoneShown nt Good lines = (i before : ℕ) (kind : TextKind) → IsFirstShown nt Good lines i before kind → ⊥

-- what is shown of these lines, where the one at n is the first
abbrev pub IsShownSoFar : (nt : Notation) → (List ℕ → Type 0) → Result Kept Fault → ℕ → List (List ℕ) → Type 0
IsShownSoFar nt Good (Ok k) n lines = IsNoneShown nt Good lines
IsShownSoFar nt Good (Err f) n lines = (i : ℕ) × (before : ℕ) × (f.line ≡ n + i) × (f.column ≡ before + 1) × IsFirstShown nt Good lines i before f.kind

not_more : (nt : Notation) → (Good : List ℕ → Type 0) (l : List ℕ) (lines : List (List ℕ)) → Good l → IsNoneShown nt (IsGoodLine nt) lines → IsNoneShown nt Good (l ∷ lines)
not_more nt Good l lines g f zero before kind h = h.0.place.good g
not_more nt Good l lines g f (suc i) before kind h = f i before kind h.1

pub shown_more : (nt : Notation) → (Good : List ℕ → Type 0) (r : Result Kept Fault) (n : ℕ) (l : List ℕ) (lines : List (List ℕ)) → Good l → IsShownSoFar nt (IsGoodLine nt) r (n + 1) lines → IsShownSoFar nt Good r n (l ∷ lines)
shown_more nt Good (Ok k) n l lines g t = not_more nt Good l lines g t
shown_more nt Good (Err f) n l lines g t = (t.0 + 1, t.1, omega (arith, t.2), t.3, rw add-one (g, t.4))

-- a line that may go on shows nothing
pub not_last : (nt : Notation) → (Good : List ℕ → Type 0) (l : List ℕ) → IsPrefixIn Good l → IsNoneShown nt Good (l ∷ [])
not_last nt Good l p zero before kind h = elim h.1 [ inl z ↦ h.0.place.here z (shorter Good l (before + 1) p) | inr z ↦ z refl ]
not_last nt Good l p (suc i) before kind h = h.1

first_shown : (nt : Notation) → (ls : List (List ℕ)) (before : List ℕ) (b : ℕ) (s : LineState) (k : TextKind) → line_run nt (Ok line_start) before ≡ going s → line_step nt (mark nt b) s ≡ stopped k →
    IsFirstShown nt (IsGoodLine nt) (with_front before (with_front (b ∷ []) ls)) 0 (length before) k
first_shown nt [] before b s k w e = (byte_fault nt before [] b s k w e, inl (omega (arith, length-append before (b ∷ []))))
first_shown nt (l ∷ ls) before b s k w e = (byte_fault nt before l b s k w e, inl (omega (arith, length-append before (b ∷ l))))

abbrev pub Shown : (nt : Notation) → Claim
Shown nt r base n lines = IsShownSoFar nt (IsGoodLine nt) r n lines

shown_by : (nt : Notation) → IsByLine nt (Shown nt)
shown_by nt = record {
  last = λ k here base n before vs h. not_last nt (IsGoodLine nt) (before ++ []) (subst (IsPrefixOfGoodLine nt) (sym (append-nil before)) (is_line_prefix nt before (record { place = here; vectors = vs }) h.run));
  short = λ ls k here base n before vs z h e. (0, length before, omega (arith, h.line), h.column, (bad_line nt k here base n before vs h e, inr z));
  byte = λ kind b ls k here base n before vs h e. (
    0,
    length before,
    omega (arith, h.line),
    h.column,
    first_shown nt ls before b (record { place = here; vectors = vs }) kind h.run (ap (λ (x : Result LinePlace TextKind). at_place x (with_vector (completed (mark nt b) here) vs)) e),
  );
  more = λ r base a n l lines g t. shown_more nt (IsGoodLine nt) r n l lines (a, g) t;
}

-- what a text shows behind what is kept in a line
pub shown_all : (nt : Notation) → (bs : List ℕ) → HoldsBehind nt (Shown nt) bs
shown_all nt = by_line nt (Shown nt) (shown_by nt)
