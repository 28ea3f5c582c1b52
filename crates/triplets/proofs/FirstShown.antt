-- Which faults a whole text has and shows.
use Rattle.std.proofs.Common.{◌≡◌, ℕ, zero, suc, List, [], ◌∷◌, Result, Ok, Err, subst, arith}
use Rattle.triplets.specs.declared.notation.Notation.{Notation}
use Rattle.triplets.specs.declared.fault.TextKind.{TextKind}
use Rattle.triplets.specs.LineFaults.{IsGoodLine, IsGoodFirstLine}
use Rattle.triplets.specs.Texts.{lines_of, IsFirstBad, Fault, IsTextFault, IsFirstShown, IsShownFault}
use Rattle.triplets.specs.TextReading.{Kept, kept_start, text_run}
use Rattle.triplets.proofs.TextShown.{IsShownSoFar}
use Rattle.triplets.proofs.FirstTexts.{text_given}

shown_by : (nt : Notation) → (r : Result Kept Fault) (bytes : List ℕ) (f : Fault) → IsShownSoFar nt (IsGoodFirstLine nt) r 1 (lines_of bytes) → r ≡ Err f → IsShownFault nt bytes f
shown_by nt (Ok k) bytes f t e = absurd cc
shown_by nt (Err g) bytes f t e = let z : g ≡ f = cc in subst (IsShownFault nt bytes) z (t.0, t.1, omega (arith, t.2), t.3, t.4)

-- a fault of the reader is shown
pub fault_shown : (nt : Notation) → (bytes : List ℕ) (f : Fault) → text_run nt (Ok kept_start) bytes ≡ Err f → IsShownFault nt bytes f
fault_shown nt bytes f e = shown_by nt (text_run nt (Ok kept_start) bytes) bytes f (text_given nt bytes).shown_is e

none_by : (nt : Notation) → (r : Result Kept Fault) (bytes : List ℕ) (k : Kept) → IsShownSoFar nt (IsGoodFirstLine nt) r 1 (lines_of bytes) → r ≡ Ok k → (f : Fault) → IsShownFault nt bytes f → ⊥
none_by nt (Ok j) bytes k t e f h = t h.0 h.1 f.kind h.4
none_by nt (Err g) bytes k t e f h = absurd cc

-- where the reader goes on none is
pub none_shown : (nt : Notation) → (bytes : List ℕ) (k : Kept) → text_run nt (Ok kept_start) bytes ≡ Ok k → (f : Fault) → IsShownFault nt bytes f → ⊥
none_shown nt bytes k e f h = none_by nt (text_run nt (Ok kept_start) bytes) bytes k (text_given nt bytes).shown_is e f h

bad_of_shown : (nt : Notation) → (Good : List ℕ → Type 0) (ls : List (List ℕ)) (n before : ℕ) (kind : TextKind) → IsFirstShown nt Good ls n before kind → IsFirstBad nt Good ls n before kind
bad_of_shown nt Good [] n before kind h = h
bad_of_shown nt Good (l ∷ ls) zero before kind h = h.0
bad_of_shown nt Good (l ∷ ls) (suc n) before kind h = (h.0, bad_of_shown nt (IsGoodLine nt) ls n before kind h.1)

-- a fault that is shown is the fault of the text
pub shown_fault : (nt : Notation) → (bytes : List ℕ) (f : Fault) → IsShownFault nt bytes f → IsTextFault nt bytes f
shown_fault nt bytes f h = (h.0, h.1, h.2, h.3, bad_of_shown nt (IsGoodFirstLine nt) (lines_of bytes) h.0 h.1 f.kind h.4)
