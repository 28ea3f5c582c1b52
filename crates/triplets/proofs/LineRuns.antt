-- A line of the grammar is read, with what it says.
use Rattle.std.proofs.Common.{◌≡◌, ℕ, true, List, [], ◌∷◌, ◌++◌, Option, Some, None, Result, Ok, Err, refl, sym, ◌∙◌, ap, subst, inl, inr, ◌⊎◌}
use Rattle.std.specs.Prelude.{◌&&◌}
use Rattle.std.proofs.lemmas.List.{append-nil}
use Rattle.symmetry.specs.Vectors.{Vector}
use Rattle.symmetry.specs.Groups.{Listing}
use Rattle.triplets.specs.declared.notation.Notation.{Notation}
use Rattle.triplets.specs.declared.notation.Notation.TheVariants.{Triplets, Pairs}
use Rattle.triplets.specs.declared.fault.TextKind.{TextKind}
use Rattle.triplets.specs.declared.marks.Mark.{Mark}
use Rattle.triplets.specs.declared.marks.Mark.TheVariants as marks
use Rattle.triplets.specs.declared.triplet.Nth.{Nth}
use Rattle.triplets.specs.declared.triplet.Nth.TheVariants.{First}
use Rattle.motions.specs.declared.motion.Motion3.{Motion3}
use Rattle.triplets.specs.declared.triplet.TripletReader.{TripletReader}
use Rattle.triplets.specs.declared.line.LinePlace.{LinePlace}
use Rattle.triplets.specs.declared.line.LinePlace.TheVariants as places
use Rattle.triplets.specs.Marks.{mark}
use Rattle.triplets.specs.PartReading.{begin}
use Rattle.triplets.specs.TripletReading.{start, step, value, operation_byte}
use Rattle.triplets.specs.Grammar.{Blank, blanks_text, Digit, digits_text, numerator_text, Term, bare, Written, ThirdPart, part_text, third_text}
use Rattle.triplets.specs.Lines.{centrings_text, centrings_value, Label, label_text, Form, empty, operation, row, form_text, form_value, comment_text, IsLine}
use Rattle.triplets.specs.LineReading.{opened, in_operation, start_step, comment_behind, operation_step, LineState, line_start, at_place, line_step, line_run, line_value, some_operation, listing_by, line_byte}
use Rattle.triplets.specs.TripletReading.{run}
use Rattle.triplets.specs.Grammar.{whole}
use Rattle.triplets.proofs.Bytes.{mark_digit}
use Rattle.triplets.proofs.PartRuns.{term_state}
use Rattle.triplets.proofs.Written.{term_run}
use Rattle.triplets.proofs.Wholes.{rows_run, last_state, last_value}
use Rattle.triplets.proofs.LineBegun.{lists, state_of}
use Rattle.triplets.proofs.Runs.{going, going_is, no_run, follows}
use Rattle.triplets.proofs.VectorRuns.{line_then, still_start, still_behind_row, plain_numerator, is_digit_mark, labels, vector_at, in_v, plain_run, centrings_run}

-- ---- a comment

comment_run : (nt : Notation) → (o : Option Motion3) (vs : List Vector) (cs : List ℕ) → line_run nt (Ok (state_of (places.Comment o) vs)) cs ≡ going (state_of (places.Comment o) vs)
comment_run nt o vs [] = refl
comment_run nt o vs (c ∷ cs) = comment_run nt o vs cs

record Commented (nt : Notation) (p : LinePlace) (vs : List Vector) (a : Listing) : Type 0 where
  of : Option Motion3
  step_is : line_step nt marks.Hash (state_of p vs) ≡ going (state_of (places.Comment of) vs)
  value_is : line_value nt (state_of (places.Comment of) vs) ≡ lists a

commented_operation : (nt : Notation) → (v : Option Motion3) (t : TripletReader) (vs : List Vector) (a : Listing) → value nt t ≡ v → listing_by (some_operation v) vs ≡ lists a → Commented nt (places.Operation t) vs a
commented_operation nt None t vs a h e = absurd cc
commented_operation nt (Some x) t vs a h e = record { of = Some x; step_is = ap (λ (y : Option Motion3). at_place (comment_behind y) vs) h; value_is = e }

commented : (nt : Notation) → (p : LinePlace) (vs : List Vector) (a : Listing) → line_value nt (state_of p vs) ≡ lists a → Commented nt p vs a
commented nt places.Start vs a e = record { of = None; step_is = refl; value_is = e }
commented nt (places.Operation t) vs a e = commented_operation nt (value nt t) t vs a refl e
commented nt (places.Coordinates v) vs a e = absurd cc
commented nt (places.Closed v) vs a e = absurd cc
commented nt places.Behind vs a e = record { of = None; step_is = refl; value_is = e }
commented nt (places.Comment o) vs a e = record { of = o; step_is = refl; value_is = e }

pub record IsLineRead (nt : Notation) (bytes : List ℕ) (a : Listing) : Type 0 where
  pub last : LineState
  pub run_is : line_run nt (Ok line_start) bytes ≡ going last
  pub value_is : line_value nt last ≡ lists a

with_comment : (nt : Notation) → (text : List ℕ) (c : Option (List ℕ)) (a : Listing) → IsLineRead nt text a → IsLineRead nt (text ++ comment_text c) a
with_comment nt text None a h = subst (λ (x : List ℕ). IsLineRead nt x a) (sym (append-nil text)) h
with_comment nt text (Some cs) a h =
    let k = commented nt h.last.place h.last.vectors a h.value_is in
    record {
      last = state_of (places.Comment k.of) h.last.vectors;
      run_is = line_then nt line_start h.last (state_of (places.Comment k.of) h.last.vectors) text (35 ∷ cs) h.run_is
          (ap (λ (r : Result LineState TextKind). line_run nt r cs) k.step_is ∙ comment_run nt k.of h.last.vectors cs);
      value_is = k.value_is;
    }

-- ---- an operation

operation_at : (nt : Notation) → (m : Mark) (t u : TripletReader) → step nt m t ≡ going u → operation_step nt m t ≡ going (places.Operation u)
operation_at nt marks.Hash t u e = absurd cc
operation_at nt m t u e = ap in_operation e

abbrev in_op : TripletReader → LineState
in_op t = state_of (places.Operation t) []

operation_run : (nt : Notation) → (bs : List ℕ) (t u : TripletReader) → run nt (Ok t) bs ≡ going u → line_run nt (Ok (in_op t)) bs ≡ going (in_op u)
operation_run nt = follows (operation_byte nt) (line_byte nt) in_op (λ b t u e. ap (λ (r : Result LinePlace TextKind). at_place r []) (operation_at nt (mark nt b) t u e))

-- from the start of a line
abbrev FromStart : (nt : Notation) → List ℕ → TripletReader → Type 0
FromStart nt bs u = ((line_run nt (Ok line_start) bs ≡ going line_start) × (u ≡ start)) ⊎ (line_run nt (Ok line_start) bs ≡ going (in_op u))

first_by : (nt : Notation) → (m : Mark) (r : Result TripletReader TextKind) (bs : List ℕ) (u : TripletReader) → start_step nt m ≡ in_operation (step nt m start) → step nt m start ≡ r → run nt r bs ≡ going u → line_run nt (at_place (start_step nt m) []) bs ≡ going (in_op u)
first_by nt m (Err k) bs u i h e = (no_run (operation_byte nt) k bs u e)
first_by nt m (Ok x) bs u i h e = ap (λ (r : Result LinePlace TextKind). line_run nt (at_place r []) bs) (i ∙ ap in_operation h) ∙ operation_run nt bs x u e

abbrev FromMark : (nt : Notation) → Mark → List ℕ → TripletReader → Type 0
FromMark nt m bs u = ((line_run nt (at_place (start_step nt m) []) bs ≡ going line_start) × (u ≡ start)) ⊎ (line_run nt (at_place (start_step nt m) []) bs ≡ going (in_op u))

start_by : (nt : Notation) → (m : Mark) (bs : List ℕ) (u : TripletReader) → (run nt (Ok start) bs ≡ going u → FromStart nt bs u) → run nt (step nt m start) bs ≡ going u → FromMark nt m bs u
start_by nt marks.Blank bs u h e = h e
start_by nt (marks.Signs s) bs u h e = inr (first_by nt (marks.Signs s) (step nt (marks.Signs s) start) bs u refl refl e)
start_by nt (marks.Letter a) bs u h e = inr (first_by nt (marks.Letter a) (step nt (marks.Letter a) start) bs u refl refl e)
start_by nt (marks.Digit n) bs u h e = inr (first_by nt (marks.Digit n) (step nt (marks.Digit n) start) bs u refl refl e)
start_by nt m bs u h e = (no_run (operation_byte nt) _ bs u e)

from_start : (nt : Notation) → (bs : List ℕ) (u : TripletReader) → run nt (Ok start) bs ≡ going u → FromStart nt bs u
from_start nt [] u e = inl (refl, going_is start u e)
from_start nt (b ∷ bs) u e = start_by nt (mark nt b) bs u (from_start nt bs u) e

abbrev nth_of : TripletReader → Nth
nth_of t = t.nth

-- the last part is not the first
not_first : (nt : Notation) (v w : Written nt) (x : ThirdPart nt) → nth_of (last_state nt v w x) ≡ First → ⊥
not_first Triplets v w x e = cc
not_first Pairs v w x e = cc

bare_operation : (nt : Notation) → (v w : Written nt) (x : ThirdPart nt) → line_run nt (Ok line_start) (part_text nt v ++ (44 ∷ (part_text nt w ++ third_text nt x))) ≡ going (in_op (last_state nt v w x))
bare_operation nt v w x =
    elim (from_start nt (part_text nt v ++ (44 ∷ (part_text nt w ++ third_text nt x))) (last_state nt v w x) (rows_run nt v w x)) [
      | inl h ↦ absurd (not_first nt v w x (ap nth_of h.1))
      | inr h ↦ h
    ]

-- ---- a label

label_digits : (nt : Notation) → (ds : List Digit) → labels nt true (digits_text ds) ≡ true
label_digits nt [] = refl
label_digits nt (d ∷ ds) = ap (λ m. labels nt (is_digit_mark m && true) (digits_text ds)) (mark_digit nt d) ∙ label_digits nt ds

label_run : (nt : Notation) → (l : Label) → line_run nt (Ok line_start) (label_text (Some l)) ≡ going (in_op start)
label_run nt l =
    let number : Term = whole l.number in
    let digits_at = in_v (vector_at (opened true) (term_state (bare []) number) true) [] in
    line_then nt line_start line_start (in_op start) (blanks_text l.before) (40 ∷ (numerator_text l.number ++ 41 ∷ [])) (still_start nt [] l.before)
    (line_then nt (in_v (opened true) []) digits_at (in_op start) (numerator_text l.number) (41 ∷ [])
    (plain_run nt (numerator_text l.number) (opened true) begin (term_state (bare []) number) true [] (plain_numerator nt l.number) (term_run nt (bare []) number tt)
    ∙ ap (λ x. going (in_v (vector_at (opened true) (term_state (bare []) number) x) []))
    (ap (λ m. labels nt (is_digit_mark m && true) (digits_text l.number.others)) (mark_digit nt l.number.first) ∙ label_digits nt l.number.others))
    refl)

-- ---- a line

operation_value : (nt : Notation) → (v w : Written nt) (x : ThirdPart nt) → line_value nt (in_op (last_state nt v w x)) ≡ lists (form_value nt (operation None v w x))
operation_value nt v w x = ap (λ (o : Option Motion3). listing_by (some_operation o) []) (last_value nt v w x)

form_read : (nt : Notation) → (f : Form nt) → IsLineRead nt (form_text nt f) (form_value nt f)
form_read nt (empty bs) = record { last = line_start; run_is = still_start nt [] bs; value_is = refl }
form_read nt (operation None v w x) = record { last = in_op (last_state nt v w x); run_is = bare_operation nt v w x; value_is = operation_value nt v w x }
form_read nt (operation (Some l) v w x) = record {
  last = in_op (last_state nt v w x);
  run_is = line_then nt line_start (in_op start) (in_op (last_state nt v w x)) (label_text (Some l)) (part_text nt v ++ (44 ∷ (part_text nt w ++ third_text nt x))) (label_run nt l) (operation_run nt (part_text nt v ++ (44 ∷ (part_text nt w ++ third_text nt x))) start (last_state nt v w x) (rows_run nt v w x));
  value_is = operation_value nt v w x;
}
form_read nt (row r bs) = record {
  last = state_of places.Behind (centrings_value nt r);
  run_is = line_then nt line_start (state_of places.Behind (centrings_value nt r)) (state_of places.Behind (centrings_value nt r)) (centrings_text nt r) (blanks_text bs) (centrings_run nt r) (still_behind_row nt (centrings_value nt r) bs);
  value_is = refl;
}

pub is_line_read : (nt : Notation) → (bytes : List ℕ) (a : Listing) → IsLine nt bytes a → IsLineRead nt bytes a
is_line_read nt bytes a h =
    subst (λ (x : List ℕ). IsLineRead nt x a) (sym h.text) (subst (IsLineRead nt (form_text nt h.form ++ comment_text h.comment)) (sym h.value) (with_comment nt (form_text nt h.form) h.comment (form_value nt h.form) (form_read nt h.form)))
