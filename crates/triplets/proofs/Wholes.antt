-- A triplet is read with its value, what is read is a triplet, and what is read without a fault goes on to one.
use Rattle.std.proofs.Common.{◌≡◌, ℕ, List, [], ◌∷◌, ◌++◌, Option, Some, None, Result, Ok, Err, refl, sym, ◌∙◌, ap, subst, arith, append_assoc}
use Rattle.std.proofs.lemmas.List.{append-nil}
use Rattle.triplets.specs.declared.notation.Notation.{Notation}
use Rattle.triplets.specs.declared.fault.TextKind.{TextKind}
use Rattle.triplets.specs.declared.marks.Mark.{Mark}
use Rattle.triplets.specs.declared.marks.Mark.TheVariants as marks
use Rattle.triplets.specs.declared.part.Row.{Row}
use Rattle.triplets.specs.declared.part.PartReader.{PartReader}
use Rattle.triplets.specs.declared.triplet.Nth.TheVariants.{First, Second, Third}
use Rattle.motions.specs.declared.motion.Motion3.{Motion3}
use Rattle.motions.specs.Views.{motion_of}
use Rattle.symmetry.specs.Motions.{Motion}
use Rattle.triplets.specs.declared.triplet.TripletReader.{TripletReader}
use Rattle.triplets.specs.Marks.{mark}
use Rattle.triplets.specs.declared.notation.Notation.TheVariants.{Triplets, Pairs}
use Rattle.triplets.specs.Rows.{zero_row, axis_row, motion3_with, motion_with}
use Rattle.triplets.specs.PartReading.{begin, settled, part_step}
use Rattle.triplets.specs.TripletReading.{start, with_part, in_part, next_part, comma_at, value_at, value, step, run, operation_byte}
use Rattle.triplets.specs.Grammar.{Digit, Numerator, numerator_text, whole, fraction, bare, lead_text, Written, part_text, part_row, ThirdPart, third_text, third_row, IsOperation}
use Rattle.triplets.specs.Faults.{IsGood, IsPrefixOfGood}
use Rattle.triplets.proofs.Bytes.{IsMark, mark_is}
use Rattle.triplets.proofs.PartRuns.{run_part, after_state, part_byte}
use Rattle.triplets.proofs.Written.{written_run, settled_after}
use Rattle.triplets.specs.Denominators.{denominator_text}
use Rattle.triplets.proofs.Divisors.{one}
use Rattle.triplets.proofs.Partials.{Partial, lead, digits, divided, below, behind, partial_text, partial_state, grows_by, whole_part}
use Rattle.triplets.proofs.Runs.{going, stopped, going_is, goes_on, follows, Goes, run_then}
use Rattle.triplets.proofs.Places.{none_begins}

-- ---- a part in its triplet

in_part_step : (nt : Notation) → (m : Mark) (s : TripletReader) (p q : PartReader) → part_step m p ≡ going q → step nt m (with_part p s) ≡ going (with_part q s)
in_part_step nt marks.Comma s p q e = absurd cc
in_part_step nt marks.Hash s p q e = absurd cc
in_part_step nt marks.Open s p q e = absurd cc
in_part_step nt marks.Close s p q e = absurd cc
in_part_step nt marks.Other s p q e = absurd cc
in_part_step nt m s p q e = ap (in_part (with_part p s)) e

in_part_run : (nt : Notation) → (bs : List ℕ) (s : TripletReader) (p q : PartReader) → run_part nt (Ok p) bs ≡ going q → run nt (Ok (with_part p s)) bs ≡ going (with_part q s)
in_part_run nt bs s = follows (part_byte nt) (operation_byte nt) (λ p. with_part p s) (λ b p q. in_part_step nt (mark nt b) s p q) bs

-- a whole part
part_run : (nt : Notation) → (w : Written nt) (s : TripletReader) → run nt (Ok (with_part begin s)) (part_text nt w) ≡ going (with_part (after_state w.lead w.last w.after) s)
part_run nt w s = in_part_run nt (part_text nt w) s begin (after_state w.lead w.last w.after) (written_run nt w)

-- the comma behind it
comma_run : (nt : Notation) → (w : Written nt) (s : TripletReader) → step nt (mark nt 44) (with_part (after_state w.lead w.last w.after) s) ≡ next_part nt s.nth (with_part (after_state w.lead w.last w.after) s) (part_row nt w)
comma_run nt w s = ap (λ (o : Option PartReader). comma_at nt o (with_part (after_state w.lead w.last w.after) s)) (settled_after w.lead w.last w.after)

abbrev second_state : Row → TripletReader
second_state r = record { nth = Second; first = r; second = zero_row; part = begin }

abbrev third_state : Row → Row → TripletReader
third_state q r = record { nth = Third; first = q; second = r; part = begin }

abbrev pub last_state : (nt : Notation) → Written nt → Written nt → ThirdPart nt → TripletReader
last_state Triplets v w x = with_part (after_state x.lead x.last x.after) (third_state (part_row Triplets v) (part_row Triplets w))
last_state Pairs v w x = with_part (after_state w.lead w.last w.after) (second_state (part_row Pairs v))

-- the third part, where there is one
third_run : (nt : Notation) (v w : Written nt) (x : ThirdPart nt) → run nt (Ok (with_part (after_state w.lead w.last w.after) (second_state (part_row nt v)))) (third_text nt x) ≡ going (last_state nt v w x)
third_run Triplets v w x =
    ap (λ (r : Result TripletReader TextKind). run Triplets r (part_text Triplets x)) (comma_run Triplets w (second_state (part_row Triplets v)))
    ∙ part_run Triplets x (third_state (part_row Triplets v) (part_row Triplets w))
third_run Pairs v w x = refl

pub rows_run : (nt : Notation) → (v w : Written nt) (x : ThirdPart nt) → run nt (Ok start) (part_text nt v ++ (44 ∷ (part_text nt w ++ third_text nt x))) ≡ going (last_state nt v w x)
rows_run nt v w x =
    run_then (operation_byte nt) (Ok start) (Ok (with_part (after_state v.lead v.last v.after) start)) (Ok (last_state nt v w x)) (part_text nt v) (44 ∷ (part_text nt w ++ third_text nt x))
    (part_run nt v start)
    (ap (λ (r : Result TripletReader TextKind). run nt r (part_text nt w ++ third_text nt x)) (comma_run nt v start)
    ∙ run_then (operation_byte nt) (Ok (second_state (part_row nt v))) (Ok (with_part (after_state w.lead w.last w.after) (second_state (part_row nt v)))) (Ok (last_state nt v w x)) (part_text nt w) (third_text nt x)
    (part_run nt w (second_state (part_row nt v)))
    (third_run nt v w x))

abbrev pub found : Motion3 → Option Motion3
found t = Some t

-- A triplet is read to its end, and has this value.
pub record IsRead (nt : Notation) (bytes : List ℕ) (value_of : Motion) : Type 0 where
  pub last : TripletReader
  pub motion : Motion3
  pub run_is : run nt (Ok start) bytes ≡ going last
  pub value_is : value nt last ≡ found motion
  pub motion_is : motion_of motion ≡ value_of

pub last_value : (nt : Notation) (v w : Written nt) (x : ThirdPart nt) → value nt (last_state nt v w x) ≡ found (motion3_with (part_row nt v) (part_row nt w) (third_row nt x))
last_value Triplets v w x = ap (λ (o : Option PartReader). value_at Triplets Third o (last_state Triplets v w x)) (settled_after x.lead x.last x.after)
last_value Pairs v w x = ap (λ (o : Option PartReader). value_at Pairs Second o (last_state Pairs v w x)) (settled_after w.lead w.last w.after)

pub is_read : (nt : Notation) → (bytes : List ℕ) (t : Motion) → IsOperation nt bytes t → IsRead nt bytes t
is_read nt bytes t h = record {
  last = last_state nt h.one h.two h.three;
  run_is = ap (run nt (Ok start)) h.text ∙ rows_run nt h.one h.two h.three;
  value_is = last_value nt h.one h.two h.three;
  motion = motion3_with (part_row nt h.one) (part_row nt h.two) (third_row nt h.three);
  motion_is = sym h.rows;
}

-- ---- what is read

pub data Begun (nt : Notation) : Type 0 where
  in_first : Partial nt → Begun nt
  in_second : Written nt → Partial nt → Begun nt
  in_third : nt ≡ Triplets → Written nt → Written nt → Partial nt → Begun nt

abbrev pub begun_text : (nt : Notation) → Begun nt → List ℕ
begun_text nt (in_first q) = partial_text nt q
begun_text nt (in_second w q) = part_text nt w ++ (44 ∷ partial_text nt q)
begun_text nt (in_third i v w q) = part_text nt v ++ (44 ∷ (part_text nt w ++ (44 ∷ partial_text nt q)))

abbrev pub begun_state : (nt : Notation) → Begun nt → TripletReader
begun_state nt (in_first q) = record { nth = First; first = zero_row; second = zero_row; part = partial_state nt q }
begun_state nt (in_second w q) = record { nth = Second; first = part_row nt w; second = zero_row; part = partial_state nt q }
begun_state nt (in_third i v w q) = record { nth = Third; first = part_row nt v; second = part_row nt w; part = partial_state nt q }

abbrev pub GoesOn : (nt : Notation) → Begun nt → List ℕ → TripletReader → Type 0
GoesOn nt = Goes (begun_text nt) (begun_state nt)

-- a step in the part
pub record PartStep (s : TripletReader) (r : Result PartReader TextKind) (t : TripletReader) : Type 0 where
  pub part : PartReader
  pub part_is : r ≡ going part
  pub state : t ≡ with_part part s

pub part_step_is : (r : Result PartReader TextKind) (s t : TripletReader) → in_part s r ≡ going t → PartStep s r t
part_step_is (Ok p) s t e = record { part = p; part_is = refl; state = going_is _ t e }
part_step_is (Err k) s t e = absurd cc

-- more behind the last part
pub second_more : (a b c d : List ℕ) → b ++ c ≡ d → (a ++ (44 ∷ b)) ++ c ≡ a ++ (44 ∷ d)
second_more a b c d e = append_assoc a (44 ∷ b) c ∙ ap (λ (x : List ℕ). a ++ (44 ∷ x)) e

pub third_more : (z a b c d : List ℕ) → b ++ c ≡ d → (z ++ (44 ∷ (a ++ (44 ∷ b)))) ++ c ≡ z ++ (44 ∷ (a ++ (44 ∷ d)))
third_more z a b c d e = second_more z (a ++ (44 ∷ b)) c (a ++ (44 ∷ d)) (second_more a b c d e)

goes_in_part : (nt : Notation) → (q : Begun nt) (m : Mark) (b : ℕ) (t : TripletReader) → IsMark nt b m → in_part (begun_state nt q) (part_step m (begun_state nt q).part) ≡ going t → GoesOn nt q (b ∷ []) t
goes_in_part nt (in_first q) m b t h e =
    let p = part_step_is (part_step m (partial_state nt q)) (begun_state nt (in_first q)) t e in
    let g = grows_by nt m q b p.part h p.part_is in
    record { to = in_first g.to; text = g.text; state = p.state ∙ ap (λ (x : PartReader). with_part x (begun_state nt (in_first q))) g.state }
goes_in_part nt (in_second w q) m b t h e =
    let p = part_step_is (part_step m (partial_state nt q)) (begun_state nt (in_second w q)) t e in
    let g = grows_by nt m q b p.part h p.part_is in
    record {
      to = in_second w g.to;
      text = second_more (part_text nt w) (partial_text nt q) (b ∷ []) (partial_text nt g.to) g.text;
      state = p.state ∙ ap (λ (x : PartReader). with_part x (begun_state nt (in_second w q))) g.state;
    }
goes_in_part nt (in_third i v w q) m b t h e =
    let p = part_step_is (part_step m (partial_state nt q)) (begun_state nt (in_third i v w q)) t e in
    let g = grows_by nt m q b p.part h p.part_is in
    record {
      to = in_third i v w g.to;
      text = third_more (part_text nt v) (part_text nt w) (partial_text nt q) (b ∷ []) (partial_text nt g.to) g.text;
      state = p.state ∙ ap (λ (x : PartReader). with_part x (begun_state nt (in_third i v w q))) g.state;
    }

abbrev pub nothing : (nt : Notation) → Partial nt
nothing nt = lead (bare []) tt

goes_by_comma : (nt : Notation) → (o : Option PartReader) (q : Begun nt) (t : TripletReader) → settled (begun_state nt q).part ≡ o → comma_at nt o (begun_state nt q) ≡ going t → GoesOn nt q (44 ∷ []) t
goes_by_comma nt (Some p) (in_first q) t h e =
    let w = whole_part nt q p h in
    record {
      to = in_second w.0 (nothing nt);
      text = ap (λ (x : List ℕ). x ++ (44 ∷ [])) w.1;
      state = going_is _ t e ∙ ap (λ (r : Row). second_state r) w.2;
    }
goes_by_comma Triplets (Some p) (in_second v q) t h e =
    let w = whole_part Triplets q p h in
    record {
      to = in_third refl v w.0 (nothing Triplets);
      text = second_more (part_text Triplets v) (partial_text Triplets q) (44 ∷ []) (part_text Triplets w.0 ++ (44 ∷ [])) (ap (λ (x : List ℕ). x ++ (44 ∷ [])) w.1);
      state = going_is _ t e ∙ ap (λ (r : Row). third_state (part_row Triplets v) r) w.2;
    }
goes_by_comma nt o q t h e = absurd cc

pub goes_by : (nt : Notation) → (m : Mark) (q : Begun nt) (b : ℕ) (t : TripletReader) → IsMark nt b m → step nt m (begun_state nt q) ≡ going t → GoesOn nt q (b ∷ []) t
goes_by nt marks.Comma q b t h e = subst (λ c. GoesOn nt q (c ∷ []) t) (sym h) (goes_by_comma nt (settled (begun_state nt q).part) q t refl e)
goes_by nt marks.Hash q b t h e = absurd cc
goes_by nt m q b t h e = goes_in_part nt q m b t h e

-- what is read without a fault is the beginning of a triplet
pub is_begun : (nt : Notation) → (bytes : List ℕ) (s : TripletReader) → run nt (Ok start) bytes ≡ going s → GoesOn nt (in_first (nothing nt)) bytes s
is_begun nt bytes s e = goes_on (operation_byte nt) (begun_text nt) (begun_state nt) (λ q b t. goes_by nt (mark nt b) q b t (mark_is nt b)) bytes (in_first (nothing nt)) s e

-- the whole triplet
found_is : (s t : Motion3) → found s ≡ found t → t ≡ s
found_is s t e = cc

-- the parts with commas between them, and their value as arrays
pub record IsWhole (nt : Notation) (bytes : List ℕ) (t : Motion3) : Type 0 where
  pub one : Written nt
  pub two : Written nt
  pub three : ThirdPart nt
  pub text : bytes ≡ part_text nt one ++ (44 ∷ (part_text nt two ++ third_text nt three))
  pub rows : t ≡ motion3_with (part_row nt one) (part_row nt two) (third_row nt three)

whole_is : (nt : Notation) → (bytes : List ℕ) (t : Motion3) → IsWhole nt bytes t → IsOperation nt bytes (motion_of t)
whole_is nt bytes t h = record { one = h.one; two = h.two; three = h.three; text = h.text; rows = ap (λ (m : Motion3). motion_of m) h.rows }

pub ends : (nt : Notation) → (o : Option PartReader) (q : Begun nt) (t : Motion3) → settled (begun_state nt q).part ≡ o → value_at nt (begun_state nt q).nth o (begun_state nt q) ≡ found t → IsWhole nt (begun_text nt q) t
ends nt None (in_first q) t h e = absurd cc
ends nt None (in_second w q) t h e = absurd cc
ends nt None (in_third i v w q) t h e = absurd cc
ends nt (Some p) (in_first q) t h e = absurd cc
ends Triplets (Some p) (in_second w q) t h e = absurd cc
ends Pairs (Some p) (in_second v q) t h e =
    let x = whole_part Pairs q p h in
    record {
      one = v;
      two = x.0;
      three = tt;
      text = ap (λ (y : List ℕ). part_text Pairs v ++ (44 ∷ y)) (x.1 ∙ sym (append-nil (part_text Pairs x.0)));
      rows = found_is _ t e ∙ ap (λ (r : Row). motion3_with (part_row Pairs v) r axis_row) x.2;
    }
ends Triplets (Some p) (in_third i v w q) t h e =
    let x = whole_part Triplets q p h in
    record {
      one = v;
      two = w;
      three = x.0;
      text = ap (λ (y : List ℕ). part_text Triplets v ++ (44 ∷ (part_text Triplets w ++ (44 ∷ y)))) x.1;
      rows = found_is _ t e ∙ ap (λ (r : Row). motion3_with (part_row Triplets v) (part_row Triplets w) r) x.2;
    }
ends Pairs (Some p) (in_third i v w q) t h e = absurd cc

pub is_triplet : (nt : Notation) → (bytes : List ℕ) (s : TripletReader) (t : Motion3) → run nt (Ok start) bytes ≡ going s → value nt s ≡ found t → IsOperation nt bytes (motion_of t)
is_triplet nt bytes s t e v =
    let g = is_begun nt bytes s e in
    let h : value nt (begun_state nt g.to) ≡ found t = ap (value nt) (sym g.state) ∙ v in
    subst (λ (x : List ℕ). IsOperation nt x (motion_of t)) (sym g.text) (whole_is nt (begun_text nt g.to) t (ends nt (settled (begun_state nt g.to).part) g.to t refl h))

-- ---- each beginning goes on to a triplet

abbrev pub zero_digit : Digit
zero_digit = record { byte = 48; low = omega arith; high = omega arith }

abbrev pub zero : Numerator
zero = record { first = zero_digit; others = []; short = omega arith }

abbrev pub zero_part : (nt : Notation) → Written nt
zero_part nt = record { lead = bare []; last = whole zero; after = []; good = tt; new = tt }

pub record Completes (nt : Notation) (q : Partial nt) : Type 0 where
  pub rest : List ℕ
  pub part : Written nt
  pub text : partial_text nt q ++ rest ≡ part_text nt part

abbrev pub completes : (nt : Notation) → (q : Partial nt) → Completes nt q
completes nt (lead l good) = record { rest = 48 ∷ []; part = record { lead = l; last = whole zero; after = []; good = good; new = tt }; text = refl }
completes nt (digits l good d ds short) = record {
  rest = [];
  part = record { lead = l; last = whole (record { first = d; others = ds; short = short }); after = []; good = good; new = tt };
  text = simp append_assoc;
}
completes nt (divided l good n) = record {
  rest = denominator_text one;
  part = record { lead = l; last = fraction n one; after = []; good = good; new = tt };
  text = simp append_assoc (ap (λ (x : List ℕ). lead_text l ++ (numerator_text n ++ 47 ∷ x)) (sym (append-nil (denominator_text one))));
}
completes nt (below l good n u) = record {
  rest = [];
  part = record { lead = l; last = fraction n u; after = []; good = good; new = tt };
  text = simp append_assoc;
}
completes nt (behind w) = record { rest = []; part = w; text = append-nil (part_text nt w) }

whole_of : (nt : Notation) → (bytes rest : List ℕ) (v w : Written nt) (x : ThirdPart nt) → bytes ++ rest ≡ part_text nt v ++ (44 ∷ (part_text nt w ++ third_text nt x)) → IsPrefixOfGood nt bytes
whole_of nt bytes rest v w x e =
    (rest, (motion_with (part_row nt v) (part_row nt w) (third_row nt x), record { one = v; two = w; three = x; text = e; rows = refl }))

-- the third part 0, where there is one
zero_third : (nt : Notation) → ThirdPart nt
zero_third Triplets = zero_part Triplets
zero_third Pairs = tt

pub prefix_of : (nt : Notation) → (q : Begun nt) → IsPrefixOfGood nt (begun_text nt q)
prefix_of nt (in_first q) =
    let c = completes nt q in
    let zeros : List ℕ = 44 ∷ 48 ∷ third_text nt (zero_third nt) in
    whole_of nt (partial_text nt q) (c.rest ++ zeros) c.part (zero_part nt) (zero_third nt)
    (sym (append_assoc (partial_text nt q) c.rest zeros) ∙ ap (λ (x : List ℕ). x ++ zeros) c.text)
prefix_of nt (in_second w q) =
    let c = completes nt q in
    let zeros : List ℕ = third_text nt (zero_third nt) in
    whole_of nt (begun_text nt (in_second w q)) (c.rest ++ zeros) w c.part (zero_third nt)
    (second_more (part_text nt w) (partial_text nt q) (c.rest ++ zeros) (part_text nt c.part ++ zeros)
    (sym (append_assoc (partial_text nt q) c.rest zeros) ∙ ap (λ (x : List ℕ). x ++ zeros) c.text))
prefix_of Triplets (in_third i v w q) =
    let c = completes Triplets q in
    whole_of Triplets (begun_text Triplets (in_third i v w q)) c.rest v w c.part
    (third_more (part_text Triplets v) (part_text Triplets w) (partial_text Triplets q) c.rest (part_text Triplets c.part) c.text)
prefix_of Pairs (in_third i v w q) = absurd cc

-- what is read without a fault is a prefix of a triplet
pub is_prefix : (nt : Notation) → (bytes : List ℕ) (s : TripletReader) → run nt (Ok start) bytes ≡ going s → IsPrefixOfGood nt bytes
is_prefix nt bytes s e = let g = is_begun nt bytes s e in subst (IsPrefixOfGood nt) (sym g.text) (prefix_of nt g.to)

-- what has a fault is none
pub no_prefix : (nt : Notation) → (bytes : List ℕ) (k : TextKind) → run nt (Ok start) bytes ≡ stopped k → IsPrefixOfGood nt bytes → ⊥
no_prefix nt = none_begins (operation_byte nt) start (IsGood nt) (λ bs h. let r = is_read nt bs h.0 h.1 in (r.last, r.run_is))
