-- What a text gives, line by line.
use Rattle.std.proofs.Common.{◌≡◌, ℕ, ◌+◌, false, List, [], ◌∷◌, ◌++◌, length, Option, Some, None, Result, Ok, Err, refl, sym, ◌∙◌, ap, subst, arith, append_assoc, add-one}
use Rattle.std.proofs.lemmas.List.{append-nil}
use Rattle.symmetry.specs.Vectors.{Vector}
use Rattle.symmetry.specs.Groups.{Listing}
use Rattle.triplets.specs.declared.notation.Notation.{Notation}
use Rattle.triplets.specs.declared.fault.TextKind.{TextKind}
use Rattle.triplets.specs.declared.fault.TextKind.TheVariants as kinds
use Rattle.motions.specs.declared.motion.Motion3.{Motion3}
use Rattle.triplets.specs.declared.line.LinePlace.{LinePlace}
use Rattle.triplets.specs.Marks.{mark}
use Rattle.triplets.specs.Lines.{IsLine}
use Rattle.triplets.specs.LineReading.{LineState, line_start, line_step, line_run, completed, with_vector, ending, operations_of, at_place}
use Rattle.triplets.specs.LineFaults.{IsGoodLine}
use Rattle.triplets.specs.HeadingReading.{text_ending, is_heading}
use Rattle.triplets.specs.Texts.{with_front, nothing_listed, listed_then, AreLines, IsFirstBad, Fault}
use Rattle.triplets.specs.TextReading.{Said, Kept, ended, fault_here, outcome}
use Rattle.triplets.proofs.LinePlaces.{byte_fault}
use Rattle.triplets.proofs.Runs.{going, stopped}
use Rattle.triplets.proofs.LineByLine.{said_then, InLine, listing_path, make_said, no_ending, a_line, bad_line, said_line, ended_is, Claim, IsByLine, HoldsBehind, by_line}
use Rattle.triplets.proofs.LineEnds.{make_listing}

-- what a text gives whose lines before say this
abbrev pub IsOutcome : (nt : Notation) → Result Said Fault → Said → ℕ → List (List ℕ) → Type 0
IsOutcome nt (Ok said) base n lines = (a : Listing) × AreLines nt lines a × (said ≡ said_then base a)
IsOutcome nt (Err f) base n lines = (i : ℕ) × (before : ℕ) × (f.line ≡ n + i) × (f.column ≡ before + 1) × IsFirstBad nt (IsGoodLine nt) lines i before f.kind

pub outcome_more : (nt : Notation) → (r : Result Said Fault) (base : Said) (a : Listing) (n : ℕ) (l : List ℕ) (lines : List (List ℕ)) → IsLine nt l a → IsOutcome nt r (said_then base a) (n + 1) lines → IsOutcome nt r base n (l ∷ lines)
outcome_more nt (Ok said) base a n l lines h t = (
  listed_then a t.0,
  (a, t.0, h, t.1, refl),
  t.2 ∙ ap (make_said base.generated) (listing_path _ _ (append_assoc base.listing.ops a.ops t.0.ops) (append_assoc base.listing.centrings a.centrings t.0.centrings)),
)
outcome_more nt (Err f) base a n l lines h t = (t.0 + 1, t.1, omega (arith, t.2), t.3, rw add-one ((a, h), t.4))

bad_end : (nt : Notation) → (k : Kept) (here : LinePlace) (base : Said) (n : ℕ) (before : List ℕ) (vs : List Vector) (ls : List (List ℕ)) → InLine nt k here base n before vs → ending nt here ≡ no_ending → IsOutcome nt (Err (fault_here k kinds.MissingPart)) base n ((before ++ []) ∷ ls)
bad_end nt k here base n before vs ls h e = (
  0,
  length before,
  omega (arith, h.line),
  h.column,
  bad_line nt k here base n before vs h e,
)

last_line : (nt : Notation) → (o : Option (Option Motion3)) (k : Kept) (here : LinePlace) (base : Said) (n : ℕ) (before : List ℕ) (vs : List Vector) → InLine nt k here base n before vs → ending nt here ≡ o → IsOutcome nt (ended o false k) base n ((before ++ []) ∷ [])
last_line nt None k here base n before vs h e = bad_end nt k here base n before vs [] h e
last_line nt (Some o) k here base n before vs h e =
    let a = make_listing (operations_of o) vs in
    outcome_more nt (Ok (said_line o k)) base a n (before ++ []) [] (subst (λ (x : List ℕ). IsLine nt x a) (sym (append-nil before)) (a_line nt k here base n before vs o h e))
    (nothing_listed, refl, ended_is nt k here base n before vs o h ∙ ap (make_said base.generated) (listing_path _ _ (sym (append-nil _)) (sym (append-nil _))))

first_bad : (nt : Notation) → (ls : List (List ℕ)) (before : List ℕ) (b : ℕ) (s : LineState) (k : TextKind) → line_run nt (Ok line_start) before ≡ going s → line_step nt (mark nt b) s ≡ stopped k →
    IsFirstBad nt (IsGoodLine nt) (with_front before (with_front (b ∷ []) ls)) 0 (length before) k
first_bad nt [] before b s k w e = byte_fault nt before [] b s k w e
first_bad nt (l ∷ ls) before b s k w e = byte_fault nt before l b s k w e

abbrev pub Given : (nt : Notation) → Claim
Given nt r base n lines = IsOutcome nt (outcome nt r) base n lines

outcome_by : (nt : Notation) → IsByLine nt (Given nt)
outcome_by nt = record {
  last = λ k here base n before vs h. subst (λ x. IsOutcome nt (ended (text_ending nt x) (is_heading x) k) base n ((before ++ []) ∷ [])) (sym h.place) (last_line nt (ending nt here) k here base n before vs h refl);
  short = λ ls k here base n before vs z h e. bad_end nt k here base n before vs ls h e;
  byte = λ kind b ls k here base n before vs h e. (
    0,
    length before,
    omega (arith, h.line),
    h.column,
    first_bad nt ls before b (record { place = here; vectors = vs }) kind h.run (ap (λ (x : Result LinePlace TextKind). at_place x (with_vector (completed (mark nt b) here) vs)) e),
  );
  more = λ r base a n l lines. outcome_more nt (outcome nt r) base a n l lines;
}

-- what a text gives behind what is kept in a line
pub outcome_all : (nt : Notation) → (bs : List ℕ) → HoldsBehind nt (Given nt) bs
outcome_all nt = by_line nt (Given nt) (outcome_by nt)
