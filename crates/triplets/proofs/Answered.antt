-- What the calls answer is what the grammar says.
use Rattle.std.proofs.Common.{◌≡◌, ℕ, zero, suc, ◌≤◌, Bool, true, false, List, [], ◌∷◌, length, Result, Ok, Err, sym, ◌∙◌, ap, subst, arith, inl, inr}
use Rattle.std.specs.Prelude.{IfOk, IfErr, IsErrAnd}
use Rattle.symmetry.specs.Groups.{Listing}
use Rattle.motions.specs.Views.{listing_of}
use Rattle.triplets.specs.declared.notation.Notation.{Notation}
use Rattle.triplets.specs.declared.fault.TextKind.{TextKind}
use Rattle.triplets.specs.declared.fault.TextFault.{TextFault}
use Rattle.triplets.specs.declared.fault.TextFault.TheVariants as faults
use Rattle.motions.specs.declared.listed.Listed.{Listed}
use Rattle.triplets.specs.LineFaults.{IsGoodLine, IsGoodFirstLine}
use Rattle.triplets.specs.Texts.{lines_of, listed_then, AreLines, AreTextLines, IsGroupText, IsFirstBad, Fault, IsTextFault}
use Rattle.triplets.specs.TextReading.{Said, said_of, Kept, kept_start, text_run, group_of, Gives, Refuses}
use Rattle.triplets.specs.TextAnswers.{IsMemory, Lists, IsFaultOf, IsAnswer, IsShownBy, IsAnswerSoFar}
use Rattle.triplets.proofs.LinePlaces.{one_line_value}
use Rattle.motions.specs.ListedSizes.{IsListedSmall}
use Rattle.triplets.proofs.Sizes.{text_small, listed_small}
use Rattle.triplets.proofs.FirstLines.{not_both}
use Rattle.triplets.proofs.FirstTexts.{IsTextOutcome, text_given}
use Rattle.triplets.proofs.FirstShown.{fault_shown, none_shown, shown_fault}
use Rattle.triplets.proofs.LineByLine.{make_said}

pub are_lines_one : (nt : Notation) → (ls : List (List ℕ)) (a b : Listing) → AreLines nt ls a → AreLines nt ls b → a ≡ b
are_lines_one nt [] a b h i = h ∙ sym i
are_lines_one nt (l ∷ ls) a b h i =
    let e = one_line_value nt l h.0 i.0 h.2 i.2 in
    let f = are_lines_one nt ls h.1 i.1 h.3 i.3 in
    h.4 ∙ (ap (λ (x : Listing). listed_then x h.1) e ∙ (ap (listed_then i.0) f ∙ sym i.4))

-- a heading is no line of the grammar
pub text_lines_one : (nt : Notation) → (c d : Bool) (ls : List (List ℕ)) (a b : Listing) → AreTextLines nt c ls a → AreTextLines nt d ls b → make_said c a ≡ make_said d b
text_lines_one nt true true [] a b h i = absurd h
text_lines_one nt true true (l ∷ ls) a b h i = ap (make_said true) (are_lines_one nt ls a b h.1 i.1)
text_lines_one nt true false [] a b h i = absurd h
text_lines_one nt true false (l ∷ ls) a b h i = absurd (not_both nt l h.0 (i.0, i.2))
text_lines_one nt false true [] a b h i = absurd i
text_lines_one nt false true (l ∷ ls) a b h i = absurd (not_both nt l i.0 (h.0, h.2))
text_lines_one nt false false ls a b h i = ap (make_said false) (are_lines_one nt ls a b h i)

bad_lines : (nt : Notation) → (Good : List ℕ → Type 0) (ls : List (List ℕ)) (n before : ℕ) (kind : TextKind) (a : Listing) → ((l : List ℕ) → IsGoodLine nt l → Good l) → IsFirstBad nt Good ls n before kind → AreLines nt ls a → ⊥
bad_lines nt Good [] n before kind a f h i = h
bad_lines nt Good (l ∷ ls) zero before kind a f h i = h.place.good (f l (i.0, i.2))
bad_lines nt Good (l ∷ ls) (suc n) before kind a f h i = bad_lines nt (IsGoodLine nt) ls n before kind i.1 (λ x y. y) h.1 i.3

pub bad_text_lines : (nt : Notation) → (b : Bool) (ls : List (List ℕ)) (n before : ℕ) (kind : TextKind) (a : Listing) → IsFirstBad nt (IsGoodFirstLine nt) ls n before kind → AreTextLines nt b ls a → ⊥
bad_text_lines nt false ls n before kind a h i = bad_lines nt (IsGoodFirstLine nt) ls n before kind a (λ l x. inl x) h i
bad_text_lines nt true [] n before kind a h i = h
bad_text_lines nt true (l ∷ ls) zero before kind a h i = h.place.good (inr i.0)
bad_text_lines nt true (l ∷ ls) (suc n) before kind a h i = bad_lines nt (IsGoodLine nt) ls n before kind a (λ x y. y) h.1 i.1

abbrev given : Said → Result Said Fault
given a = Ok a

only_by : (nt : Notation) → (r : Result Said Fault) (bytes : List ℕ) (generated : Bool) (listing : Listing) → IsTextOutcome nt r (lines_of bytes) → IsGroupText nt bytes generated listing → r ≡ given (make_said generated listing)
only_by nt (Ok a) bytes generated listing t h = ap given (text_lines_one nt a.generated generated (lines_of bytes) a.listing listing t h)
only_by nt (Err f) bytes generated listing t h = absurd (bad_text_lines nt generated (lines_of bytes) t.0 t.1 f.kind listing t.4 h)

pub only_group : (nt : Notation) → (bytes : List ℕ) (generated : Bool) (listing : Listing) → IsGroupText nt bytes generated listing → group_of nt bytes ≡ Ok (make_said generated listing)
only_group nt bytes generated listing h = only_by nt (group_of nt bytes) bytes generated listing (text_given nt bytes).outcome_is h

found_by : (nt : Notation) → (r : Result Said Fault) (bytes : List ℕ) (said : Said) → IsTextOutcome nt r (lines_of bytes) → r ≡ given said → IsGroupText nt bytes said.generated said.listing
found_by nt (Ok a) bytes said t e = let z : a ≡ said = cc in subst (λ (x : Said). IsGroupText nt bytes x.generated x.listing) z t
found_by nt (Err f) bytes said t e = absurd cc

found_group : (nt : Notation) → (bytes : List ℕ) (said : Said) → group_of nt bytes ≡ Ok said → IsGroupText nt bytes said.generated said.listing
found_group nt bytes said e = found_by nt (group_of nt bytes) bytes said (text_given nt bytes).outcome_is e

abbrev refused : Fault → Result Said Fault
refused f = Err f

refused_by : (nt : Notation) → (r : Result Said Fault) (bytes : List ℕ) (f : Fault) → IsTextOutcome nt r (lines_of bytes) → r ≡ refused f → IsTextFault nt bytes f
refused_by nt (Ok a) bytes f t e = absurd cc
refused_by nt (Err g) bytes f t e = let z : g ≡ f = cc in subst (IsTextFault nt bytes) z (t.0, t.1, omega (arith, t.2), t.3, t.4)

refused_group : (nt : Notation) → (bytes : List ℕ) (f : Fault) → group_of nt bytes ≡ Err f → IsTextFault nt bytes f
refused_group nt bytes f e = refused_by nt (group_of nt bytes) bytes f (text_given nt bytes).outcome_is e

-- ---- what the calls answer

only_of : (a b : Said) → given a ≡ given b → a ≡ b
only_of a b e = cc

gives_lists : (r : Result Listed TextFault) (generated : Bool) (g : Listing) → Gives said_of r (given (make_said generated g)) → Lists r generated g
gives_lists (Ok l) generated g h = let e = only_of (make_said generated g) (said_of l) h in (ap (λ (x : Said). x.generated) (sym e), ap (λ (x : Said). x.listing) (sym e))
gives_lists (Err faults.NoMemory) generated g h = tt
gives_lists (Err (faults.At l c k)) generated g h = absurd cc

fault_of : (nt : Notation) → (e : TextFault) (bytes : List ℕ) → Refuses e (group_of nt bytes) → IsFaultOf nt bytes e
fault_of nt faults.NoMemory bytes h = tt
fault_of nt (faults.At l c k) bytes h = refused_group nt bytes (record { line = l; column = c; kind = k }) h

gives_found : (nt : Notation) → (r : Result Listed TextFault) (bytes : List ℕ) → Gives said_of r (group_of nt bytes) → IfOk r (λ l. IsGroupText nt bytes l.generated (listing_of l))
gives_found nt (Ok l) bytes h = found_group nt bytes (said_of l) h
gives_found nt (Err e) bytes h = tt

gives_fault : (nt : Notation) → (r : Result Listed TextFault) (bytes : List ℕ) → Gives said_of r (group_of nt bytes) → IfErr r (IsFaultOf nt bytes)
gives_fault nt (Ok l) bytes h = tt
gives_fault nt (Err e) bytes h = fault_of nt e bytes h

-- what is given of the bytes answers them
pub answer : (nt : Notation) → (r : Result Listed TextFault) (bytes : List ℕ) → Gives said_of r (group_of nt bytes) → IsAnswer nt bytes r
answer nt r bytes h = record {
  found = gives_found nt r bytes h;
  only = λ b g i. gives_lists r b g (subst (Gives said_of r) (only_group nt bytes b g i) h);
  fault = gives_fault nt r bytes h;
}

-- a fault that is passed on
pub answer_passed : (nt : Notation) → (e : TextFault) (r : Result Listed TextFault) (bytes : List ℕ) → IsErrAnd r (λ x. x ≡ e) → Refuses e (group_of nt bytes) → IsAnswer nt bytes r
answer_passed nt e (Ok l) bytes h g = absurd h
answer_passed nt e (Err x) bytes h g = answer nt (Err x) bytes (subst (λ y. Refuses y (group_of nt bytes)) (sym h) g)

-- what is answered is small
pub answer_small : (nt : Notation) → (r : Result Listed TextFault) (bytes : List ℕ) → length bytes ≤ 16777216 → IsAnswer nt bytes r → IfOk r (λ l. IsListedSmall 9 l)
answer_small nt (Ok l) bytes h i = listed_small l (text_small nt bytes l.generated (listing_of l) h i.found)
answer_small nt (Err e) bytes h i = tt

shown_only : (nt : Notation) → (e : TextFault) (bytes : List ℕ) (b : Bool) (g : Listing) → IsShownBy nt bytes e → IsGroupText nt bytes b g → IsMemory e
shown_only nt faults.NoMemory bytes b g h i = tt
shown_only nt (faults.At l c k) bytes b g h i =
    let z = shown_fault nt bytes (record { line = l; column = c; kind = k }) h in
    bad_text_lines nt b (lines_of bytes) z.0 z.1 k g z.4 i

shown_of : (nt : Notation) → (e : TextFault) (bytes : List ℕ) → IsShownBy nt bytes e → IsFaultOf nt bytes e
shown_of nt faults.NoMemory bytes h = tt
shown_of nt (faults.At l c k) bytes h = shown_fault nt bytes (record { line = l; column = c; kind = k }) h

-- a fault that is shown answers them
pub answer_shown : (nt : Notation) → (e : TextFault) (bytes : List ℕ) → IsShownBy nt bytes e → IsAnswer nt bytes (Err e)
answer_shown nt e bytes h = record { found = tt; only = λ b g i. shown_only nt e bytes b g h i; fault = shown_of nt e bytes h }

pub refuses_shown : (nt : Notation) → (e : TextFault) (bytes : List ℕ) → Refuses e (text_run nt (Ok kept_start) bytes) → IsShownBy nt bytes e
refuses_shown nt faults.NoMemory bytes h = tt
refuses_shown nt (faults.At l c k) bytes h = fault_shown nt bytes (record { line = l; column = c; kind = k }) h

-- what is given of the bytes so far answers them
pub answer_so_far : (nt : Notation) → (r : Result (Unit {0}) TextFault) (k : Kept) (bytes : List ℕ) → Gives (λ _. k) r (text_run nt (Ok kept_start) bytes) → IsAnswerSoFar nt bytes r
answer_so_far nt (Ok x) k bytes h = record { none = none_shown nt bytes k h; fault = tt }
answer_so_far nt (Err e) k bytes h = record { none = tt; fault = refuses_shown nt e bytes h }
