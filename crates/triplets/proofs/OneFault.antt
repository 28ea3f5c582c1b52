-- A text lists one thing or has one fault.
use Rattle.std.proofs.Common.{◌≡◌, ℕ, zero, suc, Bool, List, [], ◌∷◌, Result, Ok, refl, sym, ◌∙◌, ap}
use Rattle.symmetry.specs.Groups.{Listing}
use Rattle.triplets.specs.declared.notation.Notation.{Notation}
use Rattle.triplets.specs.declared.fault.TextKind.{TextKind}
use Rattle.triplets.specs.LineFaults.{IsGoodLine, IsGoodFirstLine, HasLineKind, IsFaultIn}
use Rattle.triplets.specs.Texts.{lines_of, IsGroupText, IsFirstBad, Fault, IsTextFault}
use Rattle.triplets.specs.TextReading.{Said}
use Rattle.triplets.proofs.Answered.{only_group, bad_text_lines}
use Rattle.triplets.proofs.Places.{row_one, one_fault_by}
use Rattle.triplets.proofs.LineByLine.{make_said}

said_one : (a a' : Said) → (let x : Result Said Fault = Ok a in x) ≡ Ok a' → a ≡ a'
said_one a a' e = cc

one_said : (nt : Notation) → (text : List ℕ) (b b' : Bool) (g g' : Listing) → IsGroupText nt text b g → IsGroupText nt text b' g' → make_said b g ≡ make_said b' g'
one_said nt text b b' g g' h h' = said_one (make_said b g) (make_said b' g') (sym (only_group nt text b g h) ∙ only_group nt text b' g' h')

pub one_flag : (nt : Notation) → (text : List ℕ) (b b' : Bool) (g g' : Listing) → IsGroupText nt text b g → IsGroupText nt text b' g' → b ≡ b'
one_flag nt text b b' g g' h h' = ap (λ (x : Said). x.generated) (one_said nt text b b' g g' h h')

pub one_listing : (nt : Notation) → (text : List ℕ) (b b' : Bool) (g g' : Listing) → IsGroupText nt text b g → IsGroupText nt text b' g' → g ≡ g'
one_listing nt text b b' g g' h h' = ap (λ (x : Said). x.listing) (one_said nt text b b' g g' h h')

-- ---- the kind

pub one_line_kind : (nt : Notation) → (before : List ℕ) (b : ℕ) (k k' : TextKind) → HasLineKind nt before b k → HasLineKind nt before b k' → k ≡ k'
one_line_kind nt before b k k' = row_one (row_one (row_one (row_one (row_one (row_one (row_one (row_one (λ e e'. e ∙ sym e'))))))))

-- ---- the first bad line

one_line_fault : (nt : Notation) → (Good : List ℕ → Type 0) (l : List ℕ) (m n : ℕ) (k k' : TextKind) → IsFaultIn nt Good l m k → IsFaultIn nt Good l n k' → (m ≡ n) × (k ≡ k')
one_line_fault nt Good = one_fault_by (HasLineKind nt) Good (one_line_kind nt)

one_bad : (nt : Notation) → (Good : List ℕ → Type 0) (ls : List (List ℕ)) (i j m n : ℕ) (k k' : TextKind) → IsFirstBad nt Good ls i m k → IsFirstBad nt Good ls j n k' → (i ≡ j) × ((m ≡ n) × (k ≡ k'))
one_bad nt Good [] i j m n k k' h h' = absurd h
one_bad nt Good (l ∷ ls) zero zero m n k k' h h' = (refl, one_line_fault nt Good l m n k k' h h')
one_bad nt Good (l ∷ ls) zero (suc j) m n k k' h h' = absurd (h.place.good h'.0)
one_bad nt Good (l ∷ ls) (suc i) zero m n k k' h h' = absurd (h'.place.good h.0)
one_bad nt Good (l ∷ ls) (suc i) (suc j) m n k k' h h' = let e = one_bad nt (IsGoodLine nt) ls i j m n k k' h.1 h'.1 in (ap suc e.0, e.1)

abbrev fault_with : ℕ → ℕ → TextKind → Fault
fault_with line column kind = record { line = line; column = column; kind = kind }

pub one_fault : (nt : Notation) → (text : List ℕ) (f f' : Fault) → IsTextFault nt text f → IsTextFault nt text f' → f ≡ f'
one_fault nt text f f' h h' =
    let e = one_bad nt (IsGoodFirstLine nt) (lines_of text) h.0 h'.0 h.1 h'.1 f.kind f'.kind h.4 h'.4 in
    let line : f.line ≡ f'.line = cc in
    let column : f.column ≡ f'.column = cc in
    let kind : f.kind ≡ f'.kind = e.1.1 in
    let same : fault_with f.line f.column f.kind ≡ fault_with f'.line f'.column f'.kind = cc in
    same

pub no_listing_and_fault : (nt : Notation) → (text : List ℕ) (b : Bool) (g : Listing) (f : Fault) → IsTextFault nt text f → IsGroupText nt text b g → ⊥
no_listing_and_fault nt text b g f h h' = bad_text_lines nt b (lines_of text) h.0 h.1 f.kind g h.4 h'
