-- What holds of a text line by line.
use Rattle.std.proofs.Common.{◌≡◌, ℕ, ◌+◌, Bool, true, false, cond, List, [], ◌∷◌, ◌++◌, length, Option, Some, None, Result, Ok, Err, refl, sym, ◌∙◌, ap, subst, arith, append_assoc, length-append, ◌≢◌}
use Rattle.std.specs.Prelude.{◌==◌}
use Rattle.std.proofs.lemmas.List.{append-nil}
use Rattle.symmetry.specs.Vectors.{Vector}
use Rattle.symmetry.specs.Groups.{Listing}
use Rattle.symmetry.specs.Motions.{Motion}
use Rattle.motions.specs.Views.{parts}
use Rattle.triplets.specs.declared.notation.Notation.{Notation}
use Rattle.triplets.specs.declared.fault.TextKind.{TextKind}
use Rattle.triplets.specs.declared.fault.TextKind.TheVariants as kinds
use Rattle.motions.specs.declared.motion.Motion3.{Motion3}
use Rattle.fractions.specs.declared.part.Part.{Part}
use Rattle.triplets.specs.declared.line.LinePlace.{LinePlace}
use Rattle.triplets.specs.declared.line.LinePlace.TheVariants as places
use Rattle.triplets.specs.Marks.{mark}
use Rattle.triplets.specs.Lines.{IsLine}
use Rattle.triplets.specs.LineReading.{line_start, line_run, place_step, completed, with_vector, ending, operations_of, at_place, listing_by, line_byte}
use Rattle.triplets.specs.LineFaults.{IsLineFault}
use Rattle.triplets.specs.declared.place.TextPlace.{TextPlace}
use Rattle.triplets.specs.declared.place.TextPlace.TheVariants as texts
use Rattle.triplets.specs.HeadingReading.{in_line, text_step, text_completed, text_ending, is_heading}
use Rattle.triplets.specs.Texts.{with_front, lines_of, listed_then, Fault}
use Rattle.triplets.specs.TextReading.{Said, Kept, said_vector, moved, new_line, ended, fault_here, with_operation, text_run, byte_step}
use Rattle.triplets.proofs.LineEnds.{is_line, make_listing}
use Rattle.triplets.proofs.LinePlaces.{end_fault}
use Rattle.triplets.proofs.Runs.{going, stopped, run_stopped, run_more}

-- what is said with these lines behind
abbrev pub said_then : Said → Listing → Said
said_then base a = record { generated = base.generated; listing = listed_then base.listing a }

-- what is kept in a line: the lines before say base, and the line lists its vectors so far
pub record InLine (nt : Notation) (k : Kept) (here : LinePlace) (base : Said) (n : ℕ) (before : List ℕ) (vs : List Vector) : Type 0 where
  pub place : k.place ≡ texts.Line here
  pub generated : k.said.generated ≡ base.generated
  pub ops : k.said.listing.ops ≡ base.listing.ops
  pub centrings : k.said.listing.centrings ≡ base.listing.centrings ++ vs
  pub line : k.line ≡ n
  pub column : k.column ≡ length before + 1
  pub run : line_run nt (Ok line_start) before ≡ going (record { place = here; vectors = vs })

pub listing_path : (a b : Listing) → a.ops ≡ b.ops → a.centrings ≡ b.centrings → a ≡ b
listing_path a b e f = ap (λ (x : List Motion). make_listing x a.centrings) e ∙ ap (λ (y : List Vector). make_listing b.ops y) f

abbrev pub make_said : Bool → Listing → Said
make_said b g = record { generated = b; listing = g }

pub said_path : (a b : Said) → a.generated ≡ b.generated → a.listing ≡ b.listing → a ≡ b
said_path a b e f = ap (λ (x : Bool). make_said x a.listing) e ∙ ap (make_said b.generated) f

abbrev pub an_ending : Option Motion3 → Option (Option Motion3)
an_ending o = Some o

abbrev pub no_ending : Option (Option Motion3)
no_ending = None

-- the line ends
pub a_line : (nt : Notation) → (k : Kept) (here : LinePlace) (base : Said) (n : ℕ) (before : List ℕ) (vs : List Vector) (o : Option Motion3) → InLine nt k here base n before vs → ending nt here ≡ an_ending o → IsLine nt before (make_listing (operations_of o) vs)
a_line nt k here base n before vs o h e = is_line nt before (record { place = here; vectors = vs }) (make_listing (operations_of o) vs) h.run (ap (λ (x : Option (Option Motion3)). listing_by x vs) e)

pub bad_line : (nt : Notation) → (k : Kept) (here : LinePlace) (base : Said) (n : ℕ) (before : List ℕ) (vs : List Vector) → InLine nt k here base n before vs → ending nt here ≡ no_ending → IsLineFault nt (before ++ []) (length before) kinds.MissingPart
bad_line nt k here base n before vs h e =
    subst (λ (x : List ℕ). IsLineFault nt x (length before) kinds.MissingPart) (sym (append-nil before))
    (end_fault nt before (record { place = here; vectors = vs }) h.run (ap (λ (x : Option (Option Motion3)). listing_by x vs) e))

-- what is said where the line ends
abbrev pub said_line : Option Motion3 → Kept → Said
said_line o k = record { generated = k.said.generated; listing = with_operation o k.said.listing }

pub ended_is : (nt : Notation) → (k : Kept) (here : LinePlace) (base : Said) (n : ℕ) (before : List ℕ) (vs : List Vector) (o : Option Motion3) → InLine nt k here base n before vs → said_line o k ≡ said_then base (make_listing (operations_of o) vs)
ended_is nt k here base n before vs o h = said_path _ _ h.generated (listing_path _ _ (ap (λ (x : List Motion). x ++ operations_of o) h.ops) h.centrings)

front_nil_at : (b : ℕ) (t : Bool) (xs ys : List (List ℕ)) → with_front [] (cond t ([] ∷ xs) (with_front (b ∷ []) ys)) ≡ cond t ([] ∷ xs) (with_front (b ∷ []) ys)
front_nil_at b true xs ys = refl
front_nil_at b false xs [] = refl
front_nil_at b false xs (y ∷ ys) = refl

pub front_nil : (bs : List ℕ) → with_front [] (lines_of bs) ≡ lines_of bs
front_nil [] = refl
front_nil (b ∷ bs) = front_nil_at b (b == 10) (lines_of bs) (lines_of bs)

pub front_front : (xs ys : List ℕ) (ls : List (List ℕ)) → with_front (xs ++ ys) ls ≡ with_front xs (with_front ys ls)
front_front xs ys [] = refl
front_front xs ys (l ∷ ls) = ap (λ (x : List ℕ). x ∷ ls) (append_assoc xs ys l)

pub vectors_more : (v : Option (List Part)) (xs ys zs : List Vector) → xs ≡ ys ++ zs → with_vector v xs ≡ ys ++ with_vector v zs
vectors_more None xs ys zs e = e
vectors_more (Some v) xs ys zs e = ap (λ (x : List Vector). x ++ parts v ∷ []) e ∙ append_assoc ys zs (parts v ∷ [])

-- a byte of the text, from this place
abbrev pub step_at : (nt : Notation) → TextPlace → ℕ → Kept → Result Kept Fault
step_at nt x b k = cond (b == 10) (new_line (ended (text_ending nt x) (is_heading x) k) k) (moved (text_step nt b x) (text_completed (mark nt b) x) k)

-- what is kept behind the LF
abbrev pub at_next_line : Option Motion3 → Kept → Kept
at_next_line o k = record { said = said_line o k; line = k.line + 1; column = 1; place = texts.Line places.Start }

pub next_line : (nt : Notation) → (o : Option Motion3) (k : Kept) (here : LinePlace) (base : Said) (n : ℕ) (before : List ℕ) (vs : List Vector) → InLine nt k here base n before vs →
    InLine nt (at_next_line o k) places.Start (said_then base (make_listing (operations_of o) vs)) (n + 1) [] []
next_line nt o k here base n before vs h =
    let s = ended_is nt k here base n before vs o h in
    record {
      place = refl;
      generated = h.generated;
      ops = ap (λ (x : Said). x.listing.ops) s;
      centrings = ap (λ (x : Said). x.listing.centrings) s ∙ sym (append-nil _);
      line = ap (λ m. m + 1) h.line;
      column = refl;
      run = refl;
    }

-- what is kept behind another byte
abbrev pub at_next_byte : (nt : Notation) → ℕ → LinePlace → LinePlace → Kept → Kept
at_next_byte nt b here p k = record { said = said_vector (completed (mark nt b) here) k.said; line = k.line; column = k.column + 1; place = texts.Line p }

pub next_byte : (nt : Notation) → (b : ℕ) (p : LinePlace) (k : Kept) (here : LinePlace) (base : Said) (n : ℕ) (before : List ℕ) (vs : List Vector) → InLine nt k here base n before vs → place_step nt (mark nt b) here ≡ going p →
    InLine nt (at_next_byte nt b here p k) p base n (before ++ b ∷ []) (with_vector (completed (mark nt b) here) vs)
next_byte nt b p k here base n before vs h e = record {
  place = refl;
  generated = h.generated;
  ops = h.ops;
  centrings = vectors_more (completed (mark nt b) here) k.said.listing.centrings base.listing.centrings vs h.centrings;
  line = h.line;
  column = omega (arith, h.column, length-append before (b ∷ []));
  run = run_more (line_byte nt) (Ok line_start) before b (record { place = here; vectors = vs }) _ h.run (ap (λ (x : Result LinePlace TextKind). at_place x (with_vector (completed (mark nt b) here) vs)) e);
}

front_some : (bs : List ℕ) (ls : List (List ℕ)) → with_front bs ls ≢ []
front_some bs [] e = cc
front_some bs (l ∷ ls) e = cc

some_line_at : (t : Bool) (b : ℕ) (xs ys : List (List ℕ)) → cond t ([] ∷ xs) (with_front (b ∷ []) ys) ≢ []
some_line_at true b xs ys e = cc
some_line_at false b xs ys e = front_some (b ∷ []) ys e

pub some_line : (bs : List ℕ) → lines_of bs ≢ []
some_line [] e = cc
some_line (b ∷ bs) e = some_line_at (b == 10) b (lines_of bs) (lines_of bs) e

-- what is claimed of a run over lines, where those before say this and the first has this number
abbrev pub Claim : Type 1
Claim = Result Kept Fault → Said → ℕ → List (List ℕ) → Type 0

-- it holds in the last line and at a fault, and of one line more
pub record IsByLine (nt : Notation) (Holds : Claim) : Type 0 where
  pub last : (k : Kept) (here : LinePlace) (base : Said) (n : ℕ) (before : List ℕ) (vs : List Vector) → InLine nt k here base n before vs → Holds (Ok k) base n ((before ++ []) ∷ [])
  pub short : (ls : List (List ℕ)) (k : Kept) (here : LinePlace) (base : Said) (n : ℕ) (before : List ℕ) (vs : List Vector) → ls ≢ [] → InLine nt k here base n before vs → ending nt here ≡ no_ending →
      Holds (Err (fault_here k kinds.MissingPart)) base n ((before ++ []) ∷ ls)
  pub byte : (kind : TextKind) (b : ℕ) (ls : List (List ℕ)) (k : Kept) (here : LinePlace) (base : Said) (n : ℕ) (before : List ℕ) (vs : List Vector) → InLine nt k here base n before vs → place_step nt (mark nt b) here ≡ stopped kind →
      Holds (Err (fault_here k kind)) base n (with_front before (with_front (b ∷ []) ls))
  pub more : (r : Result Kept Fault) (base : Said) (a : Listing) (n : ℕ) (l : List ℕ) (lines : List (List ℕ)) → IsLine nt l a → Holds r (said_then base a) (n + 1) lines → Holds r base n (l ∷ lines)

-- the induction hypothesis
abbrev pub HoldsBehind : (nt : Notation) → Claim → List ℕ → Type 0
HoldsBehind nt Holds bs = (k : Kept) (here : LinePlace) (base : Said) (n : ℕ) (before : List ℕ) (vs : List Vector) → InLine nt k here base n before vs → Holds (text_run nt (Ok k) bs) base n (with_front before (lines_of bs))

behind_line : (nt : Notation) (Holds : Claim) → IsByLine nt Holds → (o : Option (Option Motion3)) (bs : List ℕ) (k : Kept) (here : LinePlace) (base : Said) (n : ℕ) (before : List ℕ) (vs : List Vector) → HoldsBehind nt Holds bs → InLine nt k here base n before vs → ending nt here ≡ o →
    Holds (text_run nt (new_line (ended o false k) k) bs) base n ((before ++ []) ∷ lines_of bs)
behind_line nt Holds by None bs k here base n before vs further h e =
    subst (λ r. Holds r base n ((before ++ []) ∷ lines_of bs)) (sym (run_stopped (byte_step nt) (fault_here k kinds.MissingPart) bs)) (by.short (lines_of bs) k here base n before vs (some_line bs) h e)
behind_line nt Holds by (Some o) bs k here base n before vs further h e =
    let a = make_listing (operations_of o) vs in
    let k' = at_next_line o k in
    by.more (text_run nt (Ok k') bs) base a n (before ++ []) (lines_of bs) (subst (λ (x : List ℕ). IsLine nt x a) (sym (append-nil before)) (a_line nt k here base n before vs o h e))
    (subst (λ ls. Holds (text_run nt (Ok k') bs) (said_then base a) (n + 1) ls) (front_nil bs) (further k' places.Start (said_then base a) (n + 1) [] [] (next_line nt o k here base n before vs h)))

behind_step : (nt : Notation) (Holds : Claim) → IsByLine nt Holds → (r : Result LinePlace TextKind) (b : ℕ) (bs : List ℕ) (k : Kept) (here : LinePlace) (base : Said) (n : ℕ) (before : List ℕ) (vs : List Vector) → HoldsBehind nt Holds bs → InLine nt k here base n before vs → place_step nt (mark nt b) here ≡ r →
    Holds (text_run nt (moved (in_line r) (completed (mark nt b) here) k) bs) base n (with_front before (with_front (b ∷ []) (lines_of bs)))
behind_step nt Holds by (Err kind) b bs k here base n before vs further h e =
    subst (λ r. Holds r base n (with_front before (with_front (b ∷ []) (lines_of bs)))) (sym (run_stopped (byte_step nt) (fault_here k kind) bs)) (by.byte kind b (lines_of bs) k here base n before vs h e)
behind_step nt Holds by (Ok p) b bs k here base n before vs further h e =
    let k' = at_next_byte nt b here p k in
    subst (λ ls. Holds (text_run nt (Ok k') bs) base n ls) (front_front before (b ∷ []) (lines_of bs))
    (further k' p base n (before ++ b ∷ []) (with_vector (completed (mark nt b) here) vs) (next_byte nt b p k here base n before vs h e))

behind_byte : (nt : Notation) (Holds : Claim) → IsByLine nt Holds → (t : Bool) (b : ℕ) (bs : List ℕ) (k : Kept) (here : LinePlace) (base : Said) (n : ℕ) (before : List ℕ) (vs : List Vector) → HoldsBehind nt Holds bs → InLine nt k here base n before vs →
    Holds (text_run nt (cond t (new_line (ended (ending nt here) false k) k) (moved (in_line (place_step nt (mark nt b) here)) (completed (mark nt b) here) k)) bs) base n (with_front before (cond t ([] ∷ lines_of bs) (with_front (b ∷ []) (lines_of bs))))
behind_byte nt Holds by true b bs k here base n before vs further h = behind_line nt Holds by (ending nt here) bs k here base n before vs further h refl
behind_byte nt Holds by false b bs k here base n before vs further h = behind_step nt Holds by (place_step nt (mark nt b) here) b bs k here base n before vs further h refl

-- then it holds of every text behind what is kept in a line
pub by_line : (nt : Notation) (Holds : Claim) → IsByLine nt Holds → (bs : List ℕ) → HoldsBehind nt Holds bs
by_line nt Holds by [] k here base n before vs h = by.last k here base n before vs h
by_line nt Holds by (b ∷ bs) k here base n before vs h =
    subst (λ x. Holds (text_run nt (step_at nt x b k) bs) base n (with_front before (lines_of (b ∷ bs)))) (sym h.place) (behind_byte nt Holds by (b == 10) b bs k here base n before vs (by_line nt Holds by bs) h)
