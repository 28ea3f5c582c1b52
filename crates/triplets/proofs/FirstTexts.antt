-- What a text gives from its line 1 on.
use Rattle.std.proofs.Common.{◌≡◌, ◌≢◌, ℕ, zero, suc, ◌+◌, ◌<◌, Bool, true, false, cond, List, [], ◌∷◌, ◌++◌, length, Option, None, Result, Ok, Err, refl, sym, ◌∙◌, ap, subst, arith, inl, inr, ◌⊎◌, length-append, add-one}
use Rattle.std.specs.Prelude.{◌==◌}
use Rattle.std.proofs.lemmas.Bool.Decides.{eqb_tells}
use Rattle.std.proofs.lemmas.List.{append-nil}
use Rattle.triplets.specs.declared.notation.Notation.{Notation}
use Rattle.triplets.specs.declared.fault.TextKind.{TextKind}
use Rattle.triplets.specs.declared.fault.TextKind.TheVariants as kinds
use Rattle.triplets.specs.declared.marks.Mark.{Mark}
use Rattle.triplets.specs.declared.marks.Mark.TheVariants as marks
use Rattle.motions.specs.declared.motion.Motion3.{Motion3}
use Rattle.triplets.specs.declared.line.LinePlace.{LinePlace}
use Rattle.triplets.specs.declared.line.LinePlace.TheVariants as places
use Rattle.triplets.specs.declared.heading.HeadingPlace.{HeadingPlace}
use Rattle.triplets.specs.declared.heading.HeadingPlace.TheVariants as words
use Rattle.triplets.specs.declared.place.TextPlace.{TextPlace}
use Rattle.triplets.specs.declared.place.TextPlace.TheVariants as texts
use Rattle.triplets.specs.Marks.{mark}
use Rattle.triplets.specs.Grammar.{Blank, blank_byte, blanks_text}
use Rattle.triplets.specs.Lines.{IsLine}
use Rattle.triplets.specs.Headings.{IsHeading}
use Rattle.triplets.specs.Places.{IsPrefixIn}
use Rattle.triplets.specs.LineReading.{line_start, line_run, start_step, at_place, line_byte}
use Rattle.triplets.specs.HeadingReading.{heading_step, is_whole, in_heading, in_line, begin_line, from_beginning}
use Rattle.triplets.specs.LineFaults.{IsGoodLine, IsGoodFirstLine, IsFaultIn}
use Rattle.triplets.specs.Texts.{with_front, lines_of, nothing_listed, AreTextLines, IsFirstBad, IsFirstShown, Fault}
use Rattle.triplets.specs.BegunLines.{AreBegunVectors}
use Rattle.triplets.specs.KeptTexts.{AreKept}
use Rattle.triplets.specs.TextReading.{Said, Kept, kept_start, moved, new_line, ended, fault_here, text_run, outcome, byte_step}
use Rattle.triplets.proofs.LineBegun.{state_of}
use Rattle.triplets.proofs.LineEnds.{is_line_prefix}
use Rattle.triplets.proofs.Partials.{blanks_more}
use Rattle.triplets.proofs.Bytes.{IsMark, mark_is, mark_blank}
use Rattle.triplets.proofs.Headings.{IsBegun, begun_more, whole_heading, other_beginning, no_vector}
use Rattle.triplets.proofs.FirstLines.{blanks_line, blanks_read, blanks_prefix, beginning_fault, word_prefix, word_fault, short_word_fault, IsApart, no_whole, first_of_line, line_of_first}
use Rattle.triplets.proofs.TextEnds.{IsOutcome, outcome_all}
use Rattle.triplets.proofs.BegunRows.{begun_row}
use Rattle.triplets.proofs.KeptLines.{KeptAfter, IsKeptSoFar, kept_all}
use Rattle.triplets.proofs.TextShown.{IsShownSoFar, shown_all, shown_more, not_last}
use Rattle.triplets.proofs.Runs.{going, run_stopped, run_more}
use Rattle.triplets.proofs.Places.{take_front}
use Rattle.triplets.proofs.LineByLine.{InLine, an_ending, no_ending, front_nil, front_front, some_line}

abbrev nothing_said : Bool → Said
nothing_said g = record { generated = g; listing = nothing_listed }

-- what a whole text gives
abbrev pub IsTextOutcome : (nt : Notation) → Result Said Fault → List (List ℕ) → Type 0
IsTextOutcome nt (Ok said) lines = AreTextLines nt said.generated lines said.listing
IsTextOutcome nt (Err f) lines = (i : ℕ) × (before : ℕ) × (f.line ≡ 1 + i) × (f.column ≡ before + 1) × IsFirstBad nt (IsGoodFirstLine nt) lines i before f.kind

-- what is kept of a text
abbrev pub IsTextKept : (nt : Notation) → Result Kept Fault → List (List ℕ) → Type 0
IsTextKept nt (Ok k) lines = AreKept nt lines k.said.generated k.said.listing k.line k.column
IsTextKept nt (Err f) lines = Unit {0}

-- what a text gives, and what it shows and what is kept of it where it may go on
pub record IsGiven (nt : Notation) (r : Result Kept Fault) (lines : List (List ℕ)) : Type 0 where
  pub outcome_is : IsTextOutcome nt (outcome nt r) lines
  pub shown_is : IsShownSoFar nt (IsGoodFirstLine nt) r 1 lines
  pub kept_is : IsTextKept nt r lines

-- ---- behind line 1

line_outcome : (nt : Notation) → (x : Result Said Fault) (l : List ℕ) (ls : List (List ℕ)) → IsLine nt l nothing_listed → IsOutcome nt x (nothing_said false) 2 ls → IsTextOutcome nt x (l ∷ ls)
line_outcome nt (Ok said) l ls h t = subst (λ (x : Said). AreTextLines nt x.generated (l ∷ ls) x.listing) (sym t.2) (nothing_listed, t.0, h, t.1, refl)
line_outcome nt (Err f) l ls h t = (t.0 + 1, t.1, omega (arith, t.2), t.3, rw add-one (inl (nothing_listed, h), t.4))

heading_outcome : (nt : Notation) → (x : Result Said Fault) (l : List ℕ) (ls : List (List ℕ)) → IsHeading l → IsOutcome nt x (nothing_said true) 2 ls → IsTextOutcome nt x (l ∷ ls)
heading_outcome nt (Ok said) l ls h t = subst (λ (x : Said). AreTextLines nt x.generated (l ∷ ls) x.listing) (sym t.2) (h, t.1)
heading_outcome nt (Err f) l ls h t = (t.0 + 1, t.1, omega (arith, t.2), t.3, rw add-one (inr h, t.4))

-- what is kept of the lines behind line 1, with line 1 before them
kept_behind : (nt : Notation) → (k : Kept) (g : Bool) (l : List ℕ) (ls : List (List ℕ)) (t : KeptAfter nt k (nothing_said g) 2 ls) → AreTextLines nt g (l ∷ t.ended) t.said → IsTextKept nt (Ok k) (l ∷ ls)
kept_behind nt k g l ls t h = record {
  ended = l ∷ t.ended;
  begun = t.begun;
  lines_are = ap (λ (x : List (List ℕ)). l ∷ x) t.lines_are;
  said = t.said;
  vectors = t.vectors;
  ended_say = subst (λ x. AreTextLines nt x (l ∷ t.ended) t.said) (sym t.generated_is) h;
  begun_says = t.begun_says;
  listing_is = t.listing_is;
  line_is = omega (arith, t.line_is);
  column_is = t.column_is;
}

line_kept : (nt : Notation) → (r : Result Kept Fault) (l : List ℕ) (ls : List (List ℕ)) → IsLine nt l nothing_listed → IsKeptSoFar nt r (nothing_said false) 2 ls → IsTextKept nt r (l ∷ ls)
line_kept nt (Ok k) l ls h t = kept_behind nt k false l ls t (nothing_listed, t.said, h, t.ended_say, refl)
line_kept nt (Err f) l ls h t = tt

heading_kept : (nt : Notation) → (r : Result Kept Fault) (l : List ℕ) (ls : List (List ℕ)) → IsHeading l → IsKeptSoFar nt r (nothing_said true) 2 ls → IsTextKept nt r (l ∷ ls)
heading_kept nt (Ok k) l ls h t = kept_behind nt k true l ls t (h, t.ended_say)
heading_kept nt (Err f) l ls h t = tt

-- what is kept behind line 1
abbrev behind_first : Bool → Kept
behind_first g = record { said = nothing_said g; line = 2; column = 1; place = texts.Line places.Start }

behind_in_line : (nt : Notation) → (g : Bool) → InLine nt (behind_first g) places.Start (nothing_said g) 2 [] []
behind_in_line nt g = record { place = refl; generated = refl; ops = refl; centrings = refl; line = refl; column = refl; run = refl }

behind_outcome : (nt : Notation) → (g : Bool) (bs : List ℕ) → IsOutcome nt (outcome nt (text_run nt (Ok (behind_first g)) bs)) (nothing_said g) 2 (lines_of bs)
behind_outcome nt g bs =
    subst (λ ls. IsOutcome nt (outcome nt (text_run nt (Ok (behind_first g)) bs)) (nothing_said g) 2 ls) (front_nil bs) (outcome_all nt bs (behind_first g) places.Start (nothing_said g) 2 [] [] (behind_in_line nt g))

behind_shown : (nt : Notation) → (g : Bool) (bs : List ℕ) → IsShownSoFar nt (IsGoodLine nt) (text_run nt (Ok (behind_first g)) bs) 2 (lines_of bs)
behind_shown nt g bs =
    subst (λ ls. IsShownSoFar nt (IsGoodLine nt) (text_run nt (Ok (behind_first g)) bs) 2 ls) (front_nil bs) (shown_all nt bs (behind_first g) places.Start (nothing_said g) 2 [] [] (behind_in_line nt g))

behind_kept : (nt : Notation) → (g : Bool) (bs : List ℕ) → IsKeptSoFar nt (text_run nt (Ok (behind_first g)) bs) (nothing_said g) 2 (lines_of bs)
behind_kept nt g bs =
    subst (λ ls. IsKeptSoFar nt (text_run nt (Ok (behind_first g)) bs) (nothing_said g) 2 ls) (front_nil bs) (kept_all nt bs (behind_first g) places.Start (nothing_said g) 2 [] [] (behind_in_line nt g))

behind_line : (nt : Notation) → (l bs : List ℕ) → IsLine nt l nothing_listed → IsGiven nt (text_run nt (Ok (behind_first false)) bs) (l ∷ lines_of bs)
behind_line nt l bs h = record {
  outcome_is = line_outcome nt (outcome nt (text_run nt (Ok (behind_first false)) bs)) l (lines_of bs) h (behind_outcome nt false bs);
  shown_is = shown_more nt (IsGoodFirstLine nt) (text_run nt (Ok (behind_first false)) bs) 1 l (lines_of bs) (inl (nothing_listed, h)) (behind_shown nt false bs);
  kept_is = line_kept nt (text_run nt (Ok (behind_first false)) bs) l (lines_of bs) h (behind_kept nt false bs);
}

behind_heading : (nt : Notation) → (l bs : List ℕ) → IsHeading l → IsGiven nt (text_run nt (Ok (behind_first true)) bs) (l ∷ lines_of bs)
behind_heading nt l bs h = record {
  outcome_is = heading_outcome nt (outcome nt (text_run nt (Ok (behind_first true)) bs)) l (lines_of bs) h (behind_outcome nt true bs);
  shown_is = shown_more nt (IsGoodFirstLine nt) (text_run nt (Ok (behind_first true)) bs) 1 l (lines_of bs) (inr h) (behind_shown nt true bs);
  kept_is = heading_kept nt (text_run nt (Ok (behind_first true)) bs) l (lines_of bs) h (behind_kept nt true bs);
}

-- ---- a fault in line 1

first_fault : (nt : Notation) → (f : Fault) (xs l : List ℕ) (ls : List (List ℕ)) (n : ℕ) → f.line ≡ 1 → f.column ≡ n + 1 → IsFaultIn nt (IsGoodFirstLine nt) l n f.kind → (n < length l) ⊎ (ls ≢ []) → IsGiven nt (text_run nt (Err f) xs) (l ∷ ls)
first_fault nt f xs l ls n e c h s = subst (λ r. IsGiven nt r (l ∷ ls)) (sym (run_stopped (byte_step nt) f xs)) (record { outcome_is = (0, n, e, c, h); shown_is = (0, n, e, c, (h, s)); kept_is = tt })

byte_given : (nt : Notation) → (ls : List (List ℕ)) (f : Fault) (xs before : List ℕ) (b : ℕ) → f.line ≡ 1 → f.column ≡ length before + 1 → ((rest : List ℕ) → IsFaultIn nt (IsGoodFirstLine nt) (before ++ b ∷ rest) (length before) f.kind) →
    IsGiven nt (text_run nt (Err f) xs) (with_front before (with_front (b ∷ []) ls))
byte_given nt [] f xs before b e c h = first_fault nt f xs (before ++ b ∷ []) [] (length before) e c (h []) (inl (omega (arith, length-append before (b ∷ []))))
byte_given nt (l ∷ ls) f xs before b e c h = first_fault nt f xs (before ++ b ∷ l) ls (length before) e c (h l) (inl (omega (arith, length-append before (b ∷ l))))

-- ---- a line of the grammar

first_bad : (nt : Notation) → (l : List ℕ) (ls : List (List ℕ)) (m i n : ℕ) (k : TextKind) → IsApart nt l m → IsFirstBad nt (IsGoodLine nt) (l ∷ ls) i n k → IsFirstBad nt (IsGoodFirstLine nt) (l ∷ ls) i n k
first_bad nt l ls m zero n k a h = first_of_line nt l m n k a h
first_bad nt l ls m (suc i) n k a h = (inl h.0, h.1)

bad_shown : (nt : Notation) → (l : List ℕ) (ls : List (List ℕ)) (m i n : ℕ) (k : TextKind) → IsApart nt l m → IsFirstShown nt (IsGoodLine nt) (l ∷ ls) i n k → IsFirstShown nt (IsGoodFirstLine nt) (l ∷ ls) i n k
bad_shown nt l ls m zero n k a h = (first_of_line nt l m n k a h.0, h.1)
bad_shown nt l ls m (suc i) n k a h = (inl h.0, h.1)

shown_back : (nt : Notation) → (l : List ℕ) (ls : List (List ℕ)) (m i n : ℕ) (k : TextKind) → IsApart nt l m → IsFirstShown nt (IsGoodFirstLine nt) (l ∷ ls) i n k → IsFirstShown nt (IsGoodLine nt) (l ∷ ls) i n k
shown_back nt l ls m zero n k a h = (line_of_first nt l m n k a h.0, h.1)
shown_back nt l ls m (suc i) n k a h = (elim h.0 [ inl x ↦ x | inr x ↦ absurd (no_whole nt l m a x) ], h.1)

first_outcome : (nt : Notation) → (x : Result Said Fault) (l : List ℕ) (ls : List (List ℕ)) (m : ℕ) → IsApart nt l m → IsOutcome nt x (nothing_said false) 1 (l ∷ ls) → IsTextOutcome nt x (l ∷ ls)
first_outcome nt (Ok said) l ls m a t = subst (λ (x : Said). AreTextLines nt x.generated (l ∷ ls) x.listing) (sym t.2) t.1
first_outcome nt (Err f) l ls m a t = (t.0, t.1, t.2, t.3, first_bad nt l ls m t.0 t.1 f.kind a t.4)

first_shown : (nt : Notation) → (r : Result Kept Fault) (l : List ℕ) (ls : List (List ℕ)) (m : ℕ) → IsApart nt l m → IsShownSoFar nt (IsGoodLine nt) r 1 (l ∷ ls) → IsShownSoFar nt (IsGoodFirstLine nt) r 1 (l ∷ ls)
first_shown nt (Ok k) l ls m a t = λ i before kind h. t i before kind (shown_back nt l ls m i before kind a h)
first_shown nt (Err f) l ls m a t = (t.0, t.1, t.2, t.3, bad_shown nt l ls m t.0 t.1 f.kind a t.4)

kept_by_lines : (nt : Notation) → (r : Result Kept Fault) (ls : List (List ℕ)) → IsKeptSoFar nt r (nothing_said false) 1 ls → IsTextKept nt r ls
kept_by_lines nt (Ok k) ls t = record {
  ended = t.ended;
  begun = t.begun;
  lines_are = t.lines_are;
  said = t.said;
  vectors = t.vectors;
  ended_say = subst (λ x. AreTextLines nt x t.ended t.said) (sym t.generated_is) t.ended_say;
  begun_says = t.begun_says;
  listing_is = t.listing_is;
  line_is = omega (arith, t.line_is);
  column_is = t.column_is;
}
kept_by_lines nt (Err f) ls t = tt

-- what the reader of lines of the grammar says of these
record IsByLines (nt : Notation) (r : Result Kept Fault) (lines : List (List ℕ)) : Type 0 where
  outcome_is : IsOutcome nt (outcome nt r) (nothing_said false) 1 lines
  shown_is : IsShownSoFar nt (IsGoodLine nt) r 1 lines
  kept_is : IsKeptSoFar nt r (nothing_said false) 1 lines

first_given : (nt : Notation) → (r : Result Kept Fault) (l : List ℕ) (ls : List (List ℕ)) (m : ℕ) → IsApart nt l m → IsByLines nt r (l ∷ ls) → IsGiven nt r (l ∷ ls)
first_given nt r l ls m a h = record { outcome_is = first_outcome nt (outcome nt r) l ls m a h.outcome_is; shown_is = first_shown nt r l ls m a h.shown_is; kept_is = kept_by_lines nt r (l ∷ ls) h.kept_is }

apart_front : (nt : Notation) → (before rest : List ℕ) → IsPrefixIn (IsGoodLine nt) before → (IsPrefixIn IsHeading before → ⊥) → IsApart nt (before ++ rest) (length before)
apart_front nt before rest g n = record {
  line = subst (IsPrefixIn (IsGoodLine nt)) (sym (take_front before rest)) g;
  heading = λ h. n (subst (IsPrefixIn IsHeading) (take_front before rest) h);
}

apart_given : (nt : Notation) → (ls : List (List ℕ)) (r : Result Kept Fault) (before : List ℕ) → IsPrefixIn (IsGoodLine nt) before → (IsPrefixIn IsHeading before → ⊥) → IsByLines nt r (with_front before ls) → IsGiven nt r (with_front before ls)
apart_given nt [] r before g n h = first_given nt r before [] (length before) (subst (λ (x : List ℕ). IsApart nt x (length before)) (append-nil before) (apart_front nt before [] g n)) h
apart_given nt (l ∷ ls) r before g n h = first_given nt r (before ++ l) ls (length before) (apart_front nt before l g n) h

-- what is kept in line 1, where nothing is listed yet
abbrev first_kept : ℕ → TextPlace → Kept
first_kept column p = record { said = nothing_said false; line = 1; column = column; place = p }

line_given : (nt : Notation) → (bs : List ℕ) (p : LinePlace) (c : ℕ) (before : List ℕ) → c ≡ length before + 1 → line_run nt (Ok line_start) before ≡ going (state_of p []) → (IsPrefixIn IsHeading before → ⊥) →
    IsGiven nt (text_run nt (Ok (first_kept c (texts.Line p))) bs) (with_front before (lines_of bs))
line_given nt bs p c before e w n =
    let k = first_kept c (texts.Line p) in
    let h : InLine nt k p (nothing_said false) 1 before [] = record { place = refl; generated = refl; ops = refl; centrings = refl; line = refl; column = e; run = w } in
    apart_given nt (lines_of bs) (text_run nt (Ok k) bs) before (is_line_prefix nt before (state_of p []) w) n (record {
      outcome_is = outcome_all nt bs k p (nothing_said false) 1 before [] h;
      shown_is = shown_all nt bs k p (nothing_said false) 1 before [] h;
      kept_is = kept_all nt bs k p (nothing_said false) 1 before [] h;
    })

-- what is kept of line 1 before its first vector
kept_in_first : (nt : Notation) → (p : TextPlace) (c : ℕ) (before : List ℕ) → c ≡ length before + 1 → AreBegunVectors nt before [] → IsTextKept nt (Ok (first_kept c p)) ((before ++ []) ∷ [])
kept_in_first nt p c before e h = record {
  ended = [];
  begun = before;
  lines_are = ap (λ (x : List ℕ). x ∷ []) (append-nil before);
  said = nothing_listed;
  vectors = [];
  ended_say = refl;
  begun_says = h;
  listing_is = refl;
  line_is = refl;
  column_is = e;
}

-- ---- the heading

abbrev heading_before : List Blank → List ℕ → List ℕ
heading_before ks hs = blanks_text ks ++ (103 ∷ hs)

abbrev heading_ending : Bool → Option (Option Motion3)
heading_ending t = cond t (an_ending None) no_ending

-- the induction hypothesis
abbrev HeadingAfter : (nt : Notation) → List ℕ → Type 0
HeadingAfter nt bs = (ks : List Blank) (p : HeadingPlace) (hs : List ℕ) (c : ℕ) → IsBegun p hs → c ≡ length (heading_before ks hs) + 1 →
    IsGiven nt (text_run nt (Ok (first_kept c (texts.Heading p))) bs) (with_front (heading_before ks hs) (lines_of bs))

heading_end : (nt : Notation) → (t : Bool) (ks : List Blank) (p : HeadingPlace) (hs : List ℕ) (c : ℕ) → IsBegun p hs → c ≡ length (heading_before ks hs) + 1 → is_whole p ≡ t →
    IsTextOutcome nt (ended (heading_ending t) true (first_kept c (texts.Heading p))) ((heading_before ks hs ++ []) ∷ [])
heading_end nt true ks p hs c g e w = (subst IsHeading (sym (append-nil (heading_before ks hs))) (whole_heading ks p hs g w), refl)
heading_end nt false ks p hs c g e w = (0, length (heading_before ks hs), refl, e, short_word_fault nt ks p hs g w)

heading_line : (nt : Notation) → (t : Bool) (bs : List ℕ) (ks : List Blank) (p : HeadingPlace) (hs : List ℕ) (c : ℕ) → IsBegun p hs → c ≡ length (heading_before ks hs) + 1 → is_whole p ≡ t →
    (let k = first_kept c (texts.Heading p) in IsGiven nt (text_run nt (new_line (ended (heading_ending t) true k) k) bs) ((heading_before ks hs ++ []) ∷ lines_of bs))
heading_line nt true bs ks p hs c g e w = behind_heading nt (heading_before ks hs ++ []) bs (subst IsHeading (sym (append-nil (heading_before ks hs))) (whole_heading ks p hs g w))
heading_line nt false bs ks p hs c g e w =
    first_fault nt (fault_here (first_kept c (texts.Heading p)) kinds.MissingPart) bs (heading_before ks hs ++ []) (lines_of bs) (length (heading_before ks hs)) refl e (short_word_fault nt ks p hs g w) (inr (some_line bs))

heading_moved : (nt : Notation) → (r : Result HeadingPlace TextKind) (b : ℕ) (bs : List ℕ) (ks : List Blank) (p : HeadingPlace) (hs : List ℕ) (c : ℕ) → HeadingAfter nt bs → IsBegun p hs → c ≡ length (heading_before ks hs) + 1 → heading_step nt b p ≡ r →
    IsGiven nt (text_run nt (moved (in_heading r) None (first_kept c (texts.Heading p))) bs) (with_front (heading_before ks hs) (with_front (b ∷ []) (lines_of bs)))
heading_moved nt (Err kind) b bs ks p hs c further g e w = byte_given nt (lines_of bs) (fault_here (first_kept c (texts.Heading p)) kind) bs (heading_before ks hs) b refl e (λ rest. word_fault nt ks p hs b rest kind g w)
heading_moved nt (Ok q) b bs ks p hs c further g e w =
    let a : heading_before ks hs ++ b ∷ [] ≡ heading_before ks (hs ++ b ∷ []) = longer_heading ks hs b in
    subst (λ ls. IsGiven nt (text_run nt (Ok (first_kept (c + 1) (texts.Heading q))) bs) ls) (ap (λ (x : List ℕ). with_front x (lines_of bs)) (sym a) ∙ front_front (heading_before ks hs) (b ∷ []) (lines_of bs))
    (further ks q (hs ++ b ∷ []) (c + 1) (begun_more nt p q hs b g w) (omega (arith, e, ap length a, length-append (heading_before ks hs) (b ∷ []))))
  where
    longer_heading : (ks : List Blank) (hs : List ℕ) (b : ℕ) → heading_before ks hs ++ b ∷ [] ≡ heading_before ks (hs ++ b ∷ [])
    longer_heading [] hs b = refl
    longer_heading (k ∷ ks) hs b = ap (λ (x : List ℕ). blank_byte k ∷ x) (longer_heading ks hs b)

heading_byte : (nt : Notation) → (t : Bool) (b : ℕ) (bs : List ℕ) (ks : List Blank) (p : HeadingPlace) (hs : List ℕ) (c : ℕ) → HeadingAfter nt bs → IsBegun p hs → c ≡ length (heading_before ks hs) + 1 →
    (let k = first_kept c (texts.Heading p) in
    IsGiven nt (text_run nt (cond t (new_line (ended (heading_ending (is_whole p)) true k) k) (moved (in_heading (heading_step nt b p)) None k)) bs) (with_front (heading_before ks hs) (cond t ([] ∷ lines_of bs) (with_front (b ∷ []) (lines_of bs)))))
heading_byte nt true b bs ks p hs c further g e = heading_line nt (is_whole p) bs ks p hs c g e refl
heading_byte nt false b bs ks p hs c further g e = heading_moved nt (heading_step nt b p) b bs ks p hs c further g e refl

heading_all : (nt : Notation) → (bs : List ℕ) → HeadingAfter nt bs
heading_all nt [] ks p hs c g e = record {
  outcome_is = heading_end nt (is_whole p) ks p hs c g e refl;
  shown_is = not_last nt (IsGoodFirstLine nt) (heading_before ks hs ++ []) (subst (IsPrefixIn (IsGoodFirstLine nt)) (sym (append-nil (heading_before ks hs))) (word_prefix nt ks p hs g));
  kept_is = kept_in_first nt (texts.Heading p) c (heading_before ks hs) e (no_vector nt ks hs);
}
heading_all nt (b ∷ bs) ks p hs c g e = heading_byte nt (b == 10) b bs ks p hs c (heading_all nt bs) g e

-- ---- behind blanks

-- the induction hypothesis
abbrev BeginningAfter : (nt : Notation) → List ℕ → Type 0
BeginningAfter nt bs = (ks : List Blank) (c : ℕ) → c ≡ length (blanks_text ks) + 1 → IsGiven nt (text_run nt (Ok (first_kept c texts.Beginning)) bs) (with_front (blanks_text ks) (lines_of bs))

no_blank : (nt : Notation) → (b : ℕ) (m : Mark) → mark nt b ≡ m → m ≢ marks.Blank → (k : Blank) → b ≢ blank_byte k
no_blank nt b m e n k h = n (sym e ∙ (ap (mark nt) h ∙ mark_blank nt k))

begin_other : (nt : Notation) → (r : Result LinePlace TextKind) (m : Mark) (b : ℕ) (bs : List ℕ) (ks : List Blank) (c : ℕ) → mark nt b ≡ m → m ≢ marks.Blank → b ≢ 103 → c ≡ length (blanks_text ks) + 1 → start_step nt m ≡ r →
    IsGiven nt (text_run nt (moved (in_line r) None (first_kept c texts.Beginning)) bs) (with_front (blanks_text ks) (with_front (b ∷ []) (lines_of bs)))
begin_other nt (Err kind) m b bs ks c i n g e w =
    byte_given nt (lines_of bs) (fault_here (first_kept c texts.Beginning) kind) bs (blanks_text ks) b refl e
    (λ rest. beginning_fault nt ks b rest kind g (no_blank nt b m i n) (ap (λ (x : Result LinePlace TextKind). at_place x []) (ap (start_step nt) i ∙ w)))
begin_other nt (Ok p) m b bs ks c i n g e w =
    subst (λ ls. IsGiven nt (text_run nt (Ok (first_kept (c + 1) (texts.Line p))) bs) ls) (front_front (blanks_text ks) (b ∷ []) (lines_of bs))
    (line_given nt bs p (c + 1) (blanks_text ks ++ b ∷ []) (omega (arith, e, length-append (blanks_text ks) (b ∷ [])))
    (run_more (line_byte nt) (Ok line_start) (blanks_text ks) b line_start (going (state_of p [])) (blanks_read nt ks) (ap (λ (x : Result LinePlace TextKind). at_place x []) (ap (start_step nt) i ∙ w)))
    (other_beginning ks b g (no_blank nt b m i n)))

begin_by : (nt : Notation) → (m : Mark) (b : ℕ) (bs : List ℕ) (ks : List Blank) (c : ℕ) → BeginningAfter nt bs → mark nt b ≡ m → IsMark nt b m → b ≢ 103 → c ≡ length (blanks_text ks) + 1 →
    IsGiven nt (text_run nt (moved (begin_line nt m) None (first_kept c texts.Beginning)) bs) (with_front (blanks_text ks) (with_front (b ∷ []) (lines_of bs)))
begin_by nt marks.Blank b bs ks c further e i g h =
    let a : blanks_text ks ++ b ∷ [] ≡ blanks_text (ks ++ i.0 ∷ []) = ap (λ x. blanks_text ks ++ x ∷ []) i.1 ∙ blanks_more ks i.0 in
    subst (λ ls. IsGiven nt (text_run nt (Ok (first_kept (c + 1) texts.Beginning)) bs) ls) (ap (λ (x : List ℕ). with_front x (lines_of bs)) (sym a) ∙ front_front (blanks_text ks) (b ∷ []) (lines_of bs))
    (further (ks ++ i.0 ∷ []) (c + 1) (omega (arith, h, ap length a, length-append (blanks_text ks) (b ∷ []))))
begin_by nt m b bs ks c further e i g h = begin_other nt (start_step nt m) m b bs ks c e (λ z. cc) g h refl

abbrev word_begun : Result TextPlace TextKind
word_begun = Ok (texts.Heading words.G)

begin_moved : (nt : Notation) → (b : ℕ) (bs : List ℕ) (ks : List Blank) (c : ℕ) → BeginningAfter nt bs → c ≡ length (blanks_text ks) + 1 →
    IsGiven nt (text_run nt (moved (from_beginning nt b) None (first_kept c texts.Beginning)) bs) (with_front (blanks_text ks) (with_front (b ∷ []) (lines_of bs)))
begin_moved nt b bs ks c further h =
    let motive : Bool → Type 0 = λ t. IsGiven nt (text_run nt (moved (cond t word_begun (begin_line nt (mark nt b))) None (first_kept c texts.Beginning)) bs) (with_front (blanks_text ks) (with_front (b ∷ []) (lines_of bs))) in
    elim (eqb_tells b 103) [
      | inl x ↦ subst motive (sym x.0) (
          subst (λ ls. IsGiven nt (text_run nt (Ok (first_kept (c + 1) (texts.Heading words.G))) bs) ls) (front_front (blanks_text ks) (103 ∷ []) (lines_of bs) ∙ ap (λ y. with_front (blanks_text ks) (with_front (y ∷ []) (lines_of bs))) (sym x.1))
          (heading_all nt bs ks words.G [] (c + 1) refl (omega (arith, h, length-append (blanks_text ks) (103 ∷ []))))
          )
      | inr x ↦ subst motive (sym x.0) (begin_by nt (mark nt b) b bs ks c further refl (mark_is nt b) x.1 h)
    ]

begin_byte : (nt : Notation) → (t : Bool) (b : ℕ) (bs : List ℕ) (ks : List Blank) (c : ℕ) → BeginningAfter nt bs → c ≡ length (blanks_text ks) + 1 →
    (let k = first_kept c texts.Beginning in
    IsGiven nt (text_run nt (cond t (new_line (ended (an_ending None) false k) k) (moved (from_beginning nt b) None k)) bs) (with_front (blanks_text ks) (cond t ([] ∷ lines_of bs) (with_front (b ∷ []) (lines_of bs)))))
begin_byte nt true b bs ks c further h = behind_line nt (blanks_text ks ++ []) bs (blanks_line nt ks)
begin_byte nt false b bs ks c further h = begin_moved nt b bs ks c further h

begin_all : (nt : Notation) → (bs : List ℕ) → BeginningAfter nt bs
begin_all nt [] ks c h = record {
  outcome_is = (nothing_listed, nothing_listed, blanks_line nt ks, refl, refl);
  shown_is = not_last nt (IsGoodFirstLine nt) (blanks_text ks ++ []) (subst (IsPrefixIn (IsGoodFirstLine nt)) (sym (append-nil (blanks_text ks))) (blanks_prefix nt ks));
  kept_is = kept_in_first nt texts.Beginning c (blanks_text ks) h (begun_row nt (blanks_text ks) line_start (blanks_read nt ks));
}
begin_all nt (b ∷ bs) ks c h = begin_byte nt (b == 10) b bs ks c (begin_all nt bs) h

-- what the bytes of a text give and show, and what is kept of them
pub text_given : (nt : Notation) → (bytes : List ℕ) → IsGiven nt (text_run nt (Ok kept_start) bytes) (lines_of bytes)
text_given nt bytes = subst (λ ls. IsGiven nt (text_run nt (Ok kept_start) bytes) ls) (front_nil bytes) (begin_all nt bytes [] 1 refl)
