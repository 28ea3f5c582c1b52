-- The vectors of a line are read, with what they say.
use Rattle.std.proofs.Common.{◌≡◌, ℕ, Bool, true, false, List, [], ◌∷◌, ◌++◌, Option, Some, Result, Ok, Err, pos, refl, sym, ◌∙◌, ap, subst, append_assoc, arith}
use Rattle.std.specs.Prelude.{◌&&◌}
use Rattle.motions.specs.declared.motion.Sign.{Sign}
use Rattle.motions.specs.declared.motion.Sign.TheVariants.{Plus, Minus}
use Rattle.symmetry.specs.Vectors.{Vector}
use Rattle.triplets.specs.declared.notation.Notation.{Notation}
use Rattle.triplets.specs.declared.notation.Notation.TheVariants.{Triplets, Pairs}
use Rattle.triplets.specs.Rows.{parts_with}
use Rattle.triplets.specs.declared.fault.TextKind.{TextKind}
use Rattle.triplets.specs.declared.marks.Mark.{Mark}
use Rattle.triplets.specs.declared.marks.Mark.TheVariants as marks
use Rattle.triplets.specs.declared.part.PartReader.{PartReader}
use Rattle.triplets.specs.declared.triplet.Nth.TheVariants.{Second, Third}
use Rattle.fractions.specs.declared.part.Part.{Part}
use Rattle.triplets.specs.declared.line.VectorReader.{VectorReader}
use Rattle.triplets.specs.declared.line.LinePlace.{LinePlace}
use Rattle.triplets.specs.declared.line.LinePlace.TheVariants as places
use Rattle.triplets.specs.Marks.{mark}
use Rattle.triplets.specs.PartReading.{begin, settled, part_step}
use Rattle.triplets.specs.TripletReading.{start}
use Rattle.triplets.specs.Grammar.{Blank, blanks_text, sign_byte, Digit, digits_text, Numerator, numerator_text, Term, Lead, bare, sign, more, Written, part_text}
use Rattle.triplets.specs.Lines.{IsFirst, IsNumber, Coordinate, coordinate_text, coordinate_value, third_coordinate_text, third_coordinate_value, Centring, centring_text, centring_value, Centrings, one, further, centrings_text, centrings_value, row}
use Rattle.triplets.specs.LineReading.{opened, in_coordinate, next_coordinate, coordinate_comma, closed_at, is_digits, vector_step, LineState, line_start, at_place, line_step, line_run, line_byte}
use Rattle.triplets.proofs.Partials.{is_plain}
use Rattle.triplets.specs.Denominators.{Denominator, denominator_text}
use Rattle.triplets.proofs.Divisors.{at_most_unit}
use Rattle.triplets.proofs.NumberTrees.{numerator_tree}
use Rattle.triplets.specs.Grammar.{space, tab, carriage_return, letter, multiple, whole, fraction, term_text, IsLead, IsNew, lead_letters}
use Rattle.triplets.proofs.Bytes.{mark_digit, mark_sign, blanks_keep}
use Rattle.triplets.proofs.PartRuns.{run_part, after_state, behind_state, lead_state, term_state, part_byte}
use Rattle.triplets.proofs.Written.{written_run, term_run, after_run, settled_after, still_begin, still_signed}
use Rattle.triplets.proofs.LineBegun.{state_of}
use Rattle.triplets.proofs.VectorSteps.{no_label}
use Rattle.triplets.proofs.Runs.{going, run_then, no_run}

pub line_then : (nt : Notation) → (s t u : LineState) (xs ys : List ℕ) → line_run nt (Ok s) xs ≡ going t → line_run nt (Ok t) ys ≡ going u → line_run nt (Ok s) (xs ++ ys) ≡ going u
line_then nt s t u = run_then (line_byte nt) (Ok s) (Ok t) (Ok u)

-- one byte and then more
byte_then : (nt : Notation) → (b : ℕ) (m : Mark) (s t u : LineState) (ys : List ℕ) → mark nt b ≡ m → line_step nt m s ≡ going t → line_run nt (Ok t) ys ≡ going u → line_run nt (Ok s) (b ∷ ys) ≡ going u
byte_then nt b m s t u ys i p q = ap (λ (r : Result LineState TextKind). line_run nt r ys) (ap (λ x. line_step nt x s) i ∙ p) ∙ q

-- ---- blanks

pub still_start : (nt : Notation) → (vs : List Vector) (bs : List Blank) → line_run nt (Ok (state_of places.Start vs)) (blanks_text bs) ≡ going (state_of places.Start vs)
still_start nt vs = blanks_keep nt (line_step nt) (state_of places.Start vs) refl

pub still_behind_row : (nt : Notation) → (vs : List Vector) (bs : List Blank) → line_run nt (Ok (state_of places.Behind vs)) (blanks_text bs) ≡ going (state_of places.Behind vs)
still_behind_row nt vs = blanks_keep nt (line_step nt) (state_of places.Behind vs) refl

still_closed : (nt : Notation) → (v : List Part) (vs : List Vector) (bs : List Blank) → line_run nt (Ok (state_of (places.Closed v) vs)) (blanks_text bs) ≡ going (state_of (places.Closed v) vs)
still_closed nt v vs = blanks_keep nt (line_step nt) (state_of (places.Closed v) vs) refl

-- ---- plain bytes in a coordinate

abbrev AllPlain : (nt : Notation) → List ℕ → Type 0
AllPlain nt [] = Unit {0}
AllPlain nt (b ∷ bs) = (is_plain (mark nt b) ≡ true) × AllPlain nt bs

plain_append : (nt : Notation) → (xs ys : List ℕ) → AllPlain nt xs → AllPlain nt ys → AllPlain nt (xs ++ ys)
plain_append nt [] ys h i = i
plain_append nt (x ∷ xs) ys h i = (h.0, plain_append nt xs ys h.1 i)

plain_blanks : (nt : Notation) → (bs : List Blank) → AllPlain nt (blanks_text bs)
plain_blanks nt [] = tt
plain_blanks nt (space ∷ bs) = (refl, plain_blanks nt bs)
plain_blanks nt (tab ∷ bs) = (refl, plain_blanks nt bs)
plain_blanks nt (carriage_return ∷ bs) = (refl, plain_blanks nt bs)

plain_digits : (nt : Notation) → (ds : List Digit) → AllPlain nt (digits_text ds)
plain_digits nt [] = tt
plain_digits nt (d ∷ ds) = (ap is_plain (mark_digit nt d), plain_digits nt ds)

pub plain_numerator : (nt : Notation) → (n : Numerator) → AllPlain nt (numerator_text n)
plain_numerator nt n = (ap is_plain (mark_digit nt n.first), plain_digits nt n.others)

plain_denominator : (nt : Notation) → (u : Denominator) → AllPlain nt (denominator_text u)
plain_denominator nt u =
    let w = numerator_tree u.number (omega (arith, at_most_unit u.number u.divides)) in
    subst (AllPlain nt) w.text (plain_numerator nt w.by)

plain_term : (nt : Notation) → (t : Term) → IsNumber t → AllPlain nt (term_text t)
plain_term nt (letter a c) h = absurd h
plain_term nt (multiple d i a c) h = absurd h
plain_term nt (whole n) h = plain_numerator nt n
plain_term nt (fraction n u) h = plain_append nt (numerator_text n) (47 ∷ denominator_text u) (plain_numerator nt n) (refl, plain_denominator nt u)

abbrev pub is_digit_mark : Mark → Bool
is_digit_mark (marks.Digit n) = true
is_digit_mark _ = false

abbrev pub labels : (nt : Notation) → Bool → List ℕ → Bool
labels nt l [] = l
labels nt l (b ∷ bs) = labels nt (is_digit_mark (mark nt b) && l) bs

abbrev pub vector_at : VectorReader → PartReader → Bool → VectorReader
vector_at v p l = record v { part = p; label = l }

plain_at : (nt : Notation) → (m : Mark) (v : VectorReader) (p q : PartReader) (l : Bool) → is_plain m ≡ true → part_step m p ≡ going q → vector_step nt m (vector_at v p l) ≡ going (places.Coordinates (vector_at v q (is_digit_mark m && l)))
plain_at nt marks.Blank v p q l i e = ap (in_coordinate false (vector_at v p l)) e
plain_at nt (marks.Digit n) v p q l i e = ap (in_coordinate l (vector_at v p l)) e
plain_at nt marks.Slash v p q l i e = ap (in_coordinate false (vector_at v p l)) e
plain_at nt m v p q l i e = absurd cc

abbrev pub in_v : VectorReader → List Vector → LineState
in_v v vs = state_of (places.Coordinates v) vs

plain_by : (nt : Notation) → (r : Result PartReader TextKind) (b : ℕ) (bs : List ℕ) (v : VectorReader) (p q : PartReader) (l : Bool) (vs : List Vector) →
    ((x : PartReader) (k : Bool) → run_part nt (Ok x) bs ≡ going q → line_run nt (Ok (in_v (vector_at v x k) vs)) bs ≡ going (in_v (vector_at v q (labels nt k bs)) vs)) →
    is_plain (mark nt b) ≡ true → part_step (mark nt b) p ≡ r → run_part nt r bs ≡ going q → line_run nt (Ok (in_v (vector_at v p l) vs)) (b ∷ bs) ≡ going (in_v (vector_at v q (labels nt l (b ∷ bs))) vs)
plain_by nt (Err k) b bs v p q l vs then_on i h e = (no_run (part_byte nt) k bs q e)
plain_by nt (Ok x) b bs v p q l vs then_on i h e = ap (λ (r : Result LinePlace TextKind). line_run nt (at_place r vs) bs) (plain_at nt (mark nt b) v p x l i h) ∙ then_on x (is_digit_mark (mark nt b) && l) e

pub plain_run : (nt : Notation) → (bs : List ℕ) (v : VectorReader) (p q : PartReader) (l : Bool) (vs : List Vector) → AllPlain nt bs → run_part nt (Ok p) bs ≡ going q → line_run nt (Ok (in_v (vector_at v p l) vs)) bs ≡ going (in_v (vector_at v q (labels nt l bs)) vs)
plain_run nt [] v p q l vs h e = let z : q ≡ p = cc in ap (λ (x : PartReader). going (in_v (vector_at v x l) vs)) (sym z)
plain_run nt (b ∷ bs) v p q l vs h e = plain_by nt (part_step (mark nt b) p) b bs v p q l vs (λ x k. plain_run nt bs v x q k vs h.1) h.0 refl e

unlabelled : (nt : Notation) → (bs : List ℕ) → labels nt false bs ≡ false
unlabelled nt [] = refl
unlabelled nt (b ∷ bs) = ap (λ l. labels nt l bs) (and_false (is_digit_mark (mark nt b))) ∙ unlabelled nt bs
  where
    and_false : (x : Bool) → (x && false) ≡ false
    and_false true = refl
    and_false false = refl

-- ---- a coordinate

record ReadCoordinate (nt : Notation) (c : Coordinate nt) (v : VectorReader) (l : Bool) (vs : List Vector) : Type 0 where
  label : Bool
  label_is : l ≡ false → label ≡ false
  run_is : line_run nt (Ok (in_v (vector_at v begin l) vs)) (coordinate_text nt c) ≡ going (in_v (vector_at v (after_state c.part.lead c.part.last c.part.after) label) vs)

tail_plain : (nt : Notation) → (t : Term) (bs : List Blank) → IsNumber t → AllPlain nt (term_text t ++ blanks_text bs)
tail_plain nt t bs h = plain_append nt (term_text t) (blanks_text bs) (plain_term nt t h) (plain_blanks nt bs)

labels_are : (nt : Notation) → (bs : List ℕ) (l : Bool) → l ≡ false → labels nt l bs ≡ false
labels_are nt bs l e = ap (λ x. labels nt x bs) e ∙ unlabelled nt bs

abbrev made : (nt : Notation) → (l : Lead) (t : Term) (bs : List Blank) → IsLead nt l → IsNew nt t (lead_letters l) → Written nt
made nt l t bs good new = record { lead = l; last = t; after = bs; good = good; new = new }

read_lead : (nt : Notation) → (l : Lead) (t : Term) (bs : List Blank) (good : IsLead nt l) (new : IsNew nt t (lead_letters l)) (first : IsFirst l) (number : IsNumber t) (v : VectorReader) (b : Bool) (vs : List Vector) →
    ReadCoordinate nt (record { part = made nt l t bs good new; first = first; number = number }) v b vs
read_lead nt (more k u fs s cs) t bs good new first number v b vs = absurd first
read_lead nt (bare fs) t bs good new first number v b vs =
    let w = made nt (bare fs) t bs good new in
    record {
      label = labels nt b (part_text nt w);
      label_is = labels_are nt (part_text nt w) b;
      run_is = plain_run nt (part_text nt w) v begin (after_state (bare fs) t bs) b vs (plain_append nt (blanks_text fs) (term_text t ++ blanks_text bs) (plain_blanks nt fs) (tail_plain nt t bs number)) (written_run nt w);
    }
read_lead nt (sign fs s cs) t bs good new first number v b vs =
    let w = made nt (sign fs s cs) t bs good new in
    let rest : List ℕ = blanks_text cs ++ (term_text t ++ blanks_text bs) in
    let signed = lead_state (sign fs s cs) in
    record {
      label = false;
      label_is = λ e. refl;
      run_is =
          ap (line_run nt (Ok (in_v (vector_at v begin b) vs))) (append_assoc (blanks_text fs) (sign_byte s ∷ blanks_text cs) (term_text t ++ blanks_text bs))
          ∙ line_then nt (in_v (vector_at v begin b) vs) (in_v (vector_at v begin (labels nt b (blanks_text fs))) vs) (in_v (vector_at v (after_state (sign fs s cs) t bs) false) vs) (blanks_text fs) (sign_byte s ∷ rest)
          (plain_run nt (blanks_text fs) v begin begin b vs (plain_blanks nt fs) (still_begin nt begin.row begin.used begin.sign fs))
          (byte_then nt (sign_byte s) (marks.Signs s) (in_v (vector_at v begin (labels nt b (blanks_text fs))) vs) (in_v (vector_at v signed false) vs) (in_v (vector_at v (after_state (sign fs s cs) t bs) false) vs) rest (mark_sign nt s)
          (sign_vectors s v (labels nt b (blanks_text fs)) vs fs cs)
          (plain_run nt rest v signed (after_state (sign fs s cs) t bs) false vs
          (plain_append nt (blanks_text cs) (term_text t ++ blanks_text bs) (plain_blanks nt cs) (tail_plain nt t bs number))
          (run_then (part_byte nt) (Ok signed) (Ok signed) (Ok (after_state (sign fs s cs) t bs)) (blanks_text cs) (term_text t ++ blanks_text bs)
          (still_signed nt signed.row signed.used signed.sign cs)
          (run_then (part_byte nt) (Ok signed) (Ok (term_state (sign fs s cs) t)) (Ok (after_state (sign fs s cs) t bs)) (term_text t) (blanks_text bs)
          (term_run nt (sign fs s cs) t new) (after_run nt (sign fs s cs) t bs)))
          ∙ ap (λ x. going (in_v (vector_at v (after_state (sign fs s cs) t bs) x) vs)) (unlabelled nt rest)));
    }
  where
    sign_vectors : (s : Sign) (v : VectorReader) (l : Bool) (vs : List Vector) (fs cs : List Blank) → line_step nt (marks.Signs s) (in_v (vector_at v begin l) vs) ≡ going (in_v (vector_at v (lead_state (sign fs s cs)) false) vs)
    sign_vectors Plus v l vs fs cs = refl
    sign_vectors Minus v l vs fs cs = refl

read_coordinate : (nt : Notation) → (c : Coordinate nt) (v : VectorReader) (l : Bool) (vs : List Vector) → ReadCoordinate nt c v l vs
read_coordinate nt c v l vs = read_lead nt c.part.lead c.part.last c.part.after c.part.good c.part.new c.first c.number v l vs

-- ---- a vector

abbrev after : (nt : Notation) → Coordinate nt → PartReader
after nt c = after_state c.part.lead c.part.last c.part.after

comma_at_coordinate : (nt : Notation) → (c : Coordinate nt) (v : VectorReader) (l : Bool) (vs : List Vector) → line_step nt marks.Comma (in_v (vector_at v (after nt c) l) vs) ≡ at_place (next_coordinate nt v.nth (vector_at v (after nt c) l) (coordinate_value nt c)) vs
comma_at_coordinate nt c v l vs = ap (λ (o : Option PartReader). at_place (coordinate_comma nt o (vector_at v (after nt c) l)) vs) (settled_after c.part.lead c.part.last c.part.after)

abbrev second_of : (nt : Notation) → Coordinate nt → VectorReader
second_of nt c = record { nth = Second; first = coordinate_value nt c; second = pos 0; part = begin; label = false }

abbrev third_of : (nt : Notation) → Coordinate nt → Coordinate nt → VectorReader
third_of nt c d = record { nth = Third; first = coordinate_value nt c; second = coordinate_value nt d; part = begin; label = false }

abbrev last_row : (nt : Notation) → Coordinate nt → PartReader
last_row nt e = behind_state e.part.lead e.part.last

close_at_coordinate : (nt : Notation) (v : VectorReader) (e : Coordinate nt) (l : Bool) (vs : List Vector) → l ≡ false → line_step nt marks.Close (in_v (vector_at v (after nt e) l) vs) ≡ at_place (closed_at nt v.nth (Some (last_row nt e)) (vector_at v (after nt e) l)) vs
close_at_coordinate nt v e l vs h =
    ap (λ (r : Result LinePlace TextKind). at_place r vs) (no_label l (is_digits (after nt e).spot) (going (places.Operation start)) (closed_at nt v.nth (settled (after nt e)) (vector_at v (after nt e) l)) h)
    ∙ ap (λ (o : Option PartReader). at_place (closed_at nt v.nth o (vector_at v (after nt e) l)) vs) (settled_after e.part.lead e.part.last e.part.after)

-- the vector as an array
abbrev pub centring_parts : (nt : Notation) → Centring nt → List Part
centring_parts nt v = parts_with (coordinate_value nt v.one) (coordinate_value nt v.two) (third_coordinate_value nt v.three)

-- from behind the second coordinate on
close_run : (nt : Notation) (v : Centring nt) (l : Bool) (vs : List Vector) (last : LineState) (rest : List ℕ) → l ≡ false → line_run nt (Ok (state_of (places.Closed (centring_parts nt v)) vs)) rest ≡ going last →
    line_run nt (Ok (in_v (vector_at (second_of nt v.one) (after nt v.two) l) vs)) (third_coordinate_text nt v.three ++ (41 ∷ rest)) ≡ going last
close_run Triplets v l vs last rest h w =
    let nt : Notation = Triplets in
    let third : VectorReader = third_of nt v.one v.two in
    let e = read_coordinate nt v.three third false vs in
    byte_then nt 44 marks.Comma (in_v (vector_at (second_of nt v.one) (after nt v.two) l) vs) (in_v third vs) last (coordinate_text nt v.three ++ (41 ∷ rest)) refl (comma_at_coordinate nt v.two (second_of nt v.one) l vs)
    (line_then nt (in_v third vs) (in_v (vector_at third (after nt v.three) e.label) vs) last (coordinate_text nt v.three) (41 ∷ rest) e.run_is
    (byte_then nt 41 marks.Close (in_v (vector_at third (after nt v.three) e.label) vs) (state_of (places.Closed (centring_parts nt v)) vs) last rest refl (close_at_coordinate nt third v.three e.label vs (e.label_is refl)) w))
close_run Pairs v l vs last rest h w =
    byte_then Pairs 41 marks.Close (in_v (vector_at (second_of Pairs v.one) (after Pairs v.two) l) vs) (state_of (places.Closed (centring_parts Pairs v)) vs) last rest refl (close_at_coordinate Pairs (second_of Pairs v.one) v.two l vs h) w

-- from the opening bracket on
inside_run : (nt : Notation) → (l : Bool) (v : Centring nt) (vs : List Vector) →
    line_run nt (Ok (in_v (opened l) vs)) (coordinate_text nt v.one ++ (44 ∷ (coordinate_text nt v.two ++ (third_coordinate_text nt v.three ++ (41 ∷ (blanks_text v.between ++ 43 ∷ [])))))) ≡ going (state_of places.Behind (vs ++ centring_value nt v ∷ []))
inside_run nt l v vs =
    let c = read_coordinate nt v.one (opened l) l vs in
    let d = read_coordinate nt v.two (second_of nt v.one) false vs in
    let last = state_of places.Behind (vs ++ centring_value nt v ∷ []) in
    let closed = state_of (places.Closed (centring_parts nt v)) vs in
    let tail5 : List ℕ = blanks_text v.between ++ 43 ∷ [] in
    let tail3 : List ℕ = third_coordinate_text nt v.three ++ (41 ∷ tail5) in
    let tail2 : List ℕ = coordinate_text nt v.two ++ tail3 in
    line_then nt (in_v (opened l) vs) (in_v (vector_at (opened l) (after nt v.one) c.label) vs) last (coordinate_text nt v.one) (44 ∷ tail2) c.run_is
    (byte_then nt 44 marks.Comma (in_v (vector_at (opened l) (after nt v.one) c.label) vs) (in_v (second_of nt v.one) vs) last tail2 refl (comma_at_coordinate nt v.one (opened l) c.label vs)
    (line_then nt (in_v (second_of nt v.one) vs) (in_v (vector_at (second_of nt v.one) (after nt v.two) d.label) vs) last (coordinate_text nt v.two) tail3 d.run_is
    (close_run nt v d.label vs last tail5 (d.label_is refl)
    (line_then nt closed closed last (blanks_text v.between) (43 ∷ []) (still_closed nt (centring_parts nt v) vs v.between) refl))))

abbrev inside_text : (nt : Notation) → Centring nt → List ℕ
inside_text nt v = coordinate_text nt v.one ++ (44 ∷ (coordinate_text nt v.two ++ (third_coordinate_text nt v.three ++ (41 ∷ (blanks_text v.between ++ 43 ∷ [])))))

pub centrings_run : (nt : Notation) → (r : Centrings nt) → line_run nt (Ok line_start) (centrings_text nt r) ≡ going (state_of places.Behind (centrings_value nt r))
centrings_run nt (one v) =
    line_then nt line_start line_start (state_of places.Behind (centrings_value nt (one v))) (blanks_text v.before) (40 ∷ inside_text nt v) (still_start nt [] v.before) (inside_run nt true v [])
centrings_run nt (further r v) =
    line_then nt line_start (state_of places.Behind (centrings_value nt r)) (state_of places.Behind (centrings_value nt (further r v))) (centrings_text nt r) (centring_text nt v) (centrings_run nt r)
    (line_then nt (state_of places.Behind (centrings_value nt r)) (state_of places.Behind (centrings_value nt r)) (state_of places.Behind (centrings_value nt (further r v))) (blanks_text v.before) (40 ∷ inside_text nt v) (still_behind_row nt (centrings_value nt r) v.before)
    (inside_run nt false v (centrings_value nt r)))
