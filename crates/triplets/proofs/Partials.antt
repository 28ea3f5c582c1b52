-- What the reader of a part takes is the beginning of what is written in the grammar.
use Rattle.std.proofs.Common.{◌≡◌, ℕ, suc, ◌+◌, ◌*◌, ◌≤◌, Bool, true, false, cond, List, [], ◌∷◌, ◌++◌, length, Option, Some, None, Result, Ok, Err, refl, sym, ◌∙◌, ap, subst, arith, append_assoc, length-append}
use Rattle.std.specs.Prelude.{nat_le, nat_lt, ◌==◌, ◌&&◌}
use Rattle.std.proofs.lemmas.Bool.Decides.{nat_tests}
use Rattle.std.proofs.lemmas.List.{map-append, append-nil}
use Rattle.triplets.specs.declared.notation.Notation.{Notation}
use Rattle.triplets.specs.declared.marks.Axis.{Axis}
use Rattle.motions.specs.declared.motion.Sign.{Sign}
use Rattle.triplets.specs.declared.fault.TextKind.{TextKind}
use Rattle.triplets.specs.declared.fault.TextKind.TheVariants as kinds
use Rattle.triplets.specs.declared.marks.Mark.{Mark}
use Rattle.triplets.specs.declared.marks.Mark.TheVariants as marks
use Rattle.triplets.specs.declared.part.PartReader.{PartReader}
use Rattle.triplets.specs.declared.part.Spot.TheVariants.{Digits, Divided, Below}
use Rattle.triplets.specs.Marks.{has_axis, mark}
use Rattle.triplets.specs.Rows.{uses}
use Rattle.triplets.specs.Denominators.{Denominator, denominator_text}
use Rattle.triplets.specs.PartReading.{part_step, settled, on_blank, on_sign, on_letter, on_digit, on_digit_at, on_slash, on_new_letter_at, below_or, with_letter, with_spot}
use Rattle.triplets.specs.Grammar.{Blank, blank_byte, blanks_text, sign_byte, letter_byte, Digit, digit_value, digits_text, decimal, Numerator, numerator_text, numerator_value, letter, multiple, whole, fraction, term_text, Lead, bare, sign, more, lead_text, lead_letters, IsLead, Written, part_text, part_row}
use Rattle.triplets.specs.Lines.{IsFirst, IsNumber, Coordinate, coordinate_text, coordinate_value}
use Rattle.triplets.proofs.Bytes.{IsMark, mark_is}
use Rattle.triplets.proofs.Divisors.{at_least_one, further_tells, first_text, further_text}
use Rattle.triplets.proofs.PartRuns.{state, lead_state, behind_state, lead_spot}
use Rattle.triplets.proofs.Runs.{going, going_is, not_going}

-- the beginning of a part
pub data Partial (nt : Notation) : Type 0 where
  lead : (l : Lead) → IsLead nt l → Partial nt
  digits : (l : Lead) → IsLead nt l → (d : Digit) → (ds : List Digit) → length ds ≤ 2 → Partial nt
  divided : (l : Lead) → IsLead nt l → Numerator → Partial nt
  below : (l : Lead) → IsLead nt l → Numerator → Denominator → Partial nt
  behind : Written nt → Partial nt

abbrev pub partial_text : (nt : Notation) → Partial nt → List ℕ
partial_text nt (lead l good) = lead_text l
partial_text nt (digits l good d ds short) = lead_text l ++ d.byte ∷ digits_text ds
partial_text nt (divided l good n) = lead_text l ++ (numerator_text n ++ 47 ∷ [])
partial_text nt (below l good n u) = lead_text l ++ (numerator_text n ++ 47 ∷ denominator_text u)
partial_text nt (behind w) = part_text nt w

abbrev pub partial_state : (nt : Notation) → Partial nt → PartReader
partial_state nt (lead l good) = lead_state l
partial_state nt (digits l good d ds short) = state l (Digits (1 + length ds) (decimal (digit_value d) ds))
partial_state nt (divided l good n) = state l (Divided (numerator_value n))
partial_state nt (below l good n u) = state l (Below (numerator_value n) u.number)
partial_state nt (behind w) = behind_state w.lead w.last

-- the beginning of a coordinate
abbrev pub IsLike : (nt : Notation) → Partial nt → Type 0
IsLike nt (lead l good) = IsFirst l
IsLike nt (digits l good d ds short) = IsFirst l
IsLike nt (divided l good n) = IsFirst l
IsLike nt (below l good n u) = IsFirst l
IsLike nt (behind w) = IsFirst w.lead × IsNumber w.last

-- the marks that a coordinate has anywhere
abbrev pub is_plain : Mark → Bool
is_plain marks.Blank = true
is_plain (marks.Digit n) = true
is_plain marks.Slash = true
is_plain _ = false

-- one more byte
pub record Grows (nt : Notation) (q : Partial nt) (b : ℕ) (p : PartReader) (plain : Bool) : Type 0 where
  pub to : Partial nt
  pub like : plain ≡ true → IsLike nt q → IsLike nt to
  pub text : partial_text nt q ++ b ∷ [] ≡ partial_text nt to
  pub state : p ≡ partial_state nt to

abbrev pub some_part : PartReader → Option PartReader
some_part p = Some p

some_is : (p q : PartReader) → some_part p ≡ some_part q → q ≡ p
some_is p q e = cc

-- a test on the way to what is going
pub passed : (b : Bool) (k : TextKind) (r : Result PartReader TextKind) (p : PartReader) → cond b (Err k) r ≡ going p → (b ≡ false) × (r ≡ going p)
passed true k r p e = absurd cc
passed false k r p e = (refl, e)

pub met : (b : Bool) (k : TextKind) (r : Result PartReader TextKind) (p : PartReader) → cond b r (Err k) ≡ going p → (b ≡ true) × (r ≡ going p)
met false k r p e = absurd cc
met true k r p e = (refl, e)

-- ---- a blank

pub blanks_more : (bs : List Blank) (k : Blank) → blanks_text bs ++ blank_byte k ∷ [] ≡ blanks_text (bs ++ k ∷ [])
blanks_more bs k = sym (map-append blank_byte bs (k ∷ []))

on_blank_grows : (nt : Notation) → (q : Partial nt) (k : Blank) (p : PartReader) → on_blank (partial_state nt q) ≡ going p → Grows nt q (blank_byte k) p true
on_blank_grows nt (lead (bare bs) good) k p e = record { to = lead (bare (bs ++ k ∷ [])) tt; like = λ z h. h; text = blanks_more bs k; state = going_is _ p e }
on_blank_grows nt (lead (sign bs s cs) good) k p e = record {
  to = lead (sign bs s (cs ++ k ∷ [])) tt;
  like = λ z h. h;
  text = simp append_assoc (ap (λ (x : List ℕ). blanks_text bs ++ sign_byte s ∷ x) (blanks_more cs k));
  state = going_is _ p e;
}
on_blank_grows nt (lead (more l t bs s cs) good) k p e = record {
  to = lead (more l t bs s (cs ++ k ∷ [])) good;
  like = λ z h. h;
  text = simp append_assoc (ap (λ (x : List ℕ). lead_text l ++ (term_text t ++ (blanks_text bs ++ sign_byte s ∷ x))) (blanks_more cs k));
  state = going_is _ p e;
}
on_blank_grows nt (digits l good d ds short) k p e = record {
  to = behind (record { lead = l; last = whole (record { first = d; others = ds; short = short }); after = k ∷ []; good = good; new = tt });
  like = λ z h. (h, tt);
  text = simp append_assoc;
  state = going_is _ p e;
}
on_blank_grows nt (divided l good n) k p e = not_going _ p e
on_blank_grows nt (below l good n u) k p e = record {
  to = behind (record { lead = l; last = fraction n u; after = k ∷ []; good = good; new = tt });
  like = λ z h. (h, tt);
  text = simp append_assoc;
  state = going_is _ p e;
}
on_blank_grows nt (behind w) k p e = record {
  to = behind (record w { after = w.after ++ k ∷ [] });
  like = λ z h. h;
  text = simp append_assoc (ap (λ (x : List ℕ). lead_text w.lead ++ (term_text w.last ++ x)) (blanks_more w.after k));
  state = going_is _ p e;
}

-- ---- a sign

on_sign_grows : (nt : Notation) → (q : Partial nt) (s : Sign) (p : PartReader) → on_sign s (partial_state nt q) ≡ going p → Grows nt q (sign_byte s) p false
on_sign_grows nt (lead (bare bs) good) s p e = record { to = lead (sign bs s []) tt; like = λ z h. absurd cc; text = refl; state = going_is _ p e }
on_sign_grows nt (digits l good d ds short) s p e = record {
  to = lead (more l (whole (record { first = d; others = ds; short = short })) [] s []) (good, tt);
  like = λ z h. absurd cc;
  text = simp append_assoc;
  state = going_is _ p e;
}
on_sign_grows nt (below l good n u) s p e = record {
  to = lead (more l (fraction n u) [] s []) (good, tt);
  like = λ z h. absurd cc;
  text = simp append_assoc;
  state = going_is _ p e;
}
on_sign_grows nt (behind w) s p e = record {
  to = lead (more w.lead w.last w.after s []) (w.good, w.new);
  like = λ z h. absurd cc;
  text = simp append_assoc;
  state = going_is _ p e;
}
on_sign_grows nt q s p e = not_going _ p e

-- ---- a letter

letter_lead : (nt : Notation) → (l : Lead) (good : IsLead nt l) (a : Axis) (c : Bool) (p : PartReader) → has_axis nt a ≡ true → uses a (lead_letters l) ≡ false → on_new_letter_at a (lead_spot l) (lead_state l) ≡ going p → Grows nt (lead l good) (letter_byte a c) p false
letter_lead nt (bare bs) good a c p axis new e = record { to = behind (record { lead = bare bs; last = letter a c; after = []; good = good; new = (axis, new) }); like = λ z h. absurd cc; text = refl; state = going_is _ p e }
letter_lead nt (sign bs s cs) good a c p axis new e = record { to = behind (record { lead = sign bs s cs; last = letter a c; after = []; good = good; new = (axis, new) }); like = λ z h. absurd cc; text = refl; state = going_is _ p e }
letter_lead nt (more l t bs s cs) good a c p axis new e = record { to = behind (record { lead = more l t bs s cs; last = letter a c; after = []; good = good; new = (axis, new) }); like = λ z h. absurd cc; text = refl; state = going_is _ p e }

positive : (d : Digit) → nat_lt 0 (digit_value d) ≡ true → 49 ≤ d.byte
positive d h = grind (arith, nat_tests)

not_one : (n : ℕ) (b : Bool) → (((1 + suc n) == 1) && b) ≡ true → ⊥
not_one n b h = grind (arith, nat_tests)

letter_digits : (nt : Notation) → (l : Lead) (good : IsLead nt l) (d : Digit) (ds : List Digit) (short : length ds ≤ 2) (a : Axis) (c : Bool) (p : PartReader) → has_axis nt a ≡ true → uses a (lead_letters l) ≡ false →
    on_new_letter_at a (Digits (1 + length ds) (decimal (digit_value d) ds)) (partial_state nt (digits l good d ds short)) ≡ going p → Grows nt (digits l good d ds short) (letter_byte a c) p false
letter_digits nt l good d [] short a c p axis new e =
    let h = met (nat_lt 0 (digit_value d)) kinds.Coefficient (Ok (with_letter a (digit_value d) (partial_state nt (digits l good d [] short)))) p e in
    record {
      to = behind (record { lead = l; last = multiple d (positive d h.0) a c; after = []; good = good; new = (axis, new) });
      like = λ z h. absurd cc;
      text = simp append_assoc;
      state = going_is _ p h.1;
    }
letter_digits nt l good d (f ∷ ds) short a c p axis new e =
    absurd (not_one (length ds) _ (met _ kinds.Coefficient _ p e).0)

on_letter_grows : (nt : Notation) → (q : Partial nt) (a : Axis) (c : Bool) (p : PartReader) → has_axis nt a ≡ true → on_letter a (partial_state nt q) ≡ going p → Grows nt q (letter_byte a c) p false
on_letter_grows nt (lead l good) a c p axis e = let h = passed _ _ _ p e in letter_lead nt l good a c p axis h.0 h.1
on_letter_grows nt (digits l good d ds short) a c p axis e = let h = passed _ _ _ p e in letter_digits nt l good d ds short a c p axis h.0 h.1
on_letter_grows nt q a c p axis e = not_going _ p (passed _ _ _ p e).1

-- ---- a digit

decimal-append : (n : ℕ) (ds : List Digit) (d : Digit) → decimal n (ds ++ d ∷ []) ≡ 10 * decimal n ds + digit_value d
decimal-append n [] d = refl
decimal-append n (e ∷ ds) d = decimal-append (10 * n + digit_value e) ds d

pub digits_more : (ds : List Digit) (d : Digit) → digits_text ds ++ d.byte ∷ [] ≡ digits_text (ds ++ d ∷ [])
digits_more ds d = sym (map-append (λ (x : Digit). x.byte) ds (d ∷ []))

length_more : (ds : List Digit) (d : Digit) → length (ds ++ d ∷ []) ≡ length ds + 1
length_more ds d = length-append ds (d ∷ [])

digit_lead : (nt : Notation) → (l : Lead) (good : IsLead nt l) (d : Digit) (p : PartReader) → on_digit_at (digit_value d) (lead_spot l) (lead_state l) ≡ going p → Grows nt (lead l good) d.byte p true
digit_lead nt (bare bs) good d p e = record { to = digits (bare bs) good d [] (omega arith); like = λ z h. h; text = refl; state = going_is _ p e }
digit_lead nt l good d p e = record { to = digits l good d [] (omega arith); like = λ z h. h; text = refl; state = going_is _ p e }

not_three : (n : ℕ) → nat_le 3 (1 + n) ≡ false → n + 1 ≤ 2
not_three n h = grind (arith, nat_tests)

digits_state : (l : Lead) (n v m w : ℕ) → n ≡ m → v ≡ w → state l (Digits n v) ≡ state l (Digits m w)
digits_state l n v m w e f = cc

digit_digits : (nt : Notation) → (l : Lead) (good : IsLead nt l) (d : Digit) (ds : List Digit) (short : length ds ≤ 2) (f : Digit) (p : PartReader) → on_digit (digit_value f) (partial_state nt (digits l good d ds short)) ≡ going p → Grows nt (digits l good d ds short) f.byte p true
digit_digits nt l good d ds short f p e =
    let h = passed _ _ _ p e in
    let room = not_three (length ds) h.0 in
    record {
      to = digits l good d (ds ++ f ∷ []) (omega (arith, length_more ds f, room));
      like = λ z h. h;
      text = simp append_assoc (ap (λ (x : List ℕ). lead_text l ++ d.byte ∷ x) (digits_more ds f));
      state = going_is _ p h.1 ∙ digits_state l _ _ _ _ (omega (arith, length_more ds f)) (sym (decimal-append (digit_value d) ds f));
    }

pub below_is : (v : ℕ) (o : Option ℕ) (q p : PartReader) → below_or v o q ≡ going p → (u : ℕ) × (o ≡ Some u) × (p ≡ with_spot (Below v u) q)
below_is v None q p e = not_going _ p e
below_is v (Some u) q p e = (u, refl, going_is _ p e)

on_digit_grows : (nt : Notation) → (q : Partial nt) (d : Digit) (p : PartReader) → on_digit (digit_value d) (partial_state nt q) ≡ going p → Grows nt q d.byte p true
on_digit_grows nt (lead l good) d p e = digit_lead nt l good d p e
on_digit_grows nt (digits l good f ds short) d p e = digit_digits nt l good f ds short d p e
on_digit_grows nt (divided l good n) d p e =
    let h = below_is _ _ _ p e in
    let t = further_tells 0 (digit_value d) h.0 h.1 in
    record {
      to = below l good n (record { number = h.0; divides = t.1 });
      like = λ z h. h;
      text = simp append_assoc (ap (λ (x : List ℕ). lead_text l ++ (numerator_text n ++ 47 ∷ x)) (first_text d h.0 t.0));
      state = h.2;
    }
on_digit_grows nt (below l good n u) d p e =
    let h = below_is _ _ _ p e in
    let t = further_tells u.number (digit_value d) h.0 h.1 in
    record {
      to = below l good n (record { number = h.0; divides = t.1 });
      like = λ z h. h;
      text = simp append_assoc (ap (λ (x : List ℕ). lead_text l ++ (numerator_text n ++ 47 ∷ x)) (further_text u.number d h.0 (at_least_one u.number u.divides) t.0 t.1));
      state = h.2;
    }
on_digit_grows nt (behind w) d p e = not_going _ p e

-- ---- a slash

on_slash_grows : (nt : Notation) → (q : Partial nt) (p : PartReader) → on_slash (partial_state nt q) ≡ going p → Grows nt q 47 p true
on_slash_grows nt (lead (bare bs) good) p e = not_going _ p e
on_slash_grows nt (lead (sign bs s cs) good) p e = not_going _ p e
on_slash_grows nt (lead (more l t bs s cs) good) p e = not_going _ p e
on_slash_grows nt (digits l good d ds short) p e = record {
  to = divided l good (record { first = d; others = ds; short = short });
  like = λ z h. h;
  text = simp append_assoc;
  state = going_is _ p e;
}
on_slash_grows nt (divided l good n) p e = not_going _ p e
on_slash_grows nt (below l good n u) p e = not_going _ p e
on_slash_grows nt (behind w) p e = not_going _ p e

pub grows_by : (nt : Notation) → (m : Mark) (q : Partial nt) (b : ℕ) (p : PartReader) → IsMark nt b m → part_step m (partial_state nt q) ≡ going p → Grows nt q b p (is_plain m)
grows_by nt marks.Blank q b p h e = subst (λ c. Grows nt q c p true) (sym h.1) (on_blank_grows nt q h.0 p e)
grows_by nt (marks.Signs s) q b p h e = subst (λ c. Grows nt q c p false) (sym h) (on_sign_grows nt q s p e)
grows_by nt (marks.Letter a) q b p h e = subst (λ c. Grows nt q c p false) (sym h.1) (on_letter_grows nt q a h.0 p h.2 e)
grows_by nt (marks.Digit n) q b p h e = subst (λ c. Grows nt q c p true) (sym h.1) (on_digit_grows nt q h.0 p (subst (λ k. on_digit k (partial_state nt q) ≡ going p) h.2 e))
grows_by nt marks.Slash q b p h e = subst (λ c. Grows nt q c p true) (sym h) (on_slash_grows nt q p e)
grows_by nt m q b p h e = not_going _ p e

pub grows : (nt : Notation) → (q : Partial nt) (b : ℕ) (p : PartReader) → part_step (mark nt b) (partial_state nt q) ≡ going p → Grows nt q b p (is_plain (mark nt b))
grows nt q b p e = grows_by nt (mark nt b) q b p (mark_is nt b) e

-- what is written up to a whole part
pub whole_part : (nt : Notation) → (q : Partial nt) (p : PartReader) → settled (partial_state nt q) ≡ some_part p → (w : Written nt) × (partial_text nt q ≡ part_text nt w) × (p.row ≡ part_row nt w)
whole_part nt (lead (bare bs) good) p e = absurd cc
whole_part nt (lead (sign bs s cs) good) p e = absurd cc
whole_part nt (lead (more l t bs s cs) good) p e = absurd cc
whole_part nt (digits l good d ds short) p e = (
  record { lead = l; last = whole (record { first = d; others = ds; short = short }); after = []; good = good; new = tt },
  ap (λ (x : List ℕ). lead_text l ++ x) (sym (append-nil (d.byte ∷ digits_text ds))),
  ap (λ (x : PartReader). x.row) (some_is _ p e),
)
whole_part nt (divided l good n) p e = absurd cc
whole_part nt (below l good n u) p e = (
  record { lead = l; last = fraction n u; after = []; good = good; new = tt },
  ap (λ (x : List ℕ). lead_text l ++ x) (sym (append-nil (term_text (fraction n u)))),
  ap (λ (x : PartReader). x.row) (some_is _ p e),
)
whole_part nt (behind w) p e = (w, refl, ap (λ (x : PartReader). x.row) (some_is _ p e))

-- a whole coordinate
pub record WholeCoordinate (nt : Notation) (q : Partial nt) (p : PartReader) : Type 0 where
  pub coordinate : Coordinate nt
  pub text : partial_text nt q ≡ coordinate_text nt coordinate
  pub value : p.row.translation ≡ coordinate_value nt coordinate

shift_is : (p q : PartReader) → some_part p ≡ some_part q → q.row.translation ≡ p.row.translation
shift_is p q e = ap (λ (x : PartReader). x.row.translation) (some_is p q e)

pub whole_coordinate : (nt : Notation) → (q : Partial nt) (p : PartReader) → IsLike nt q → settled (partial_state nt q) ≡ some_part p → WholeCoordinate nt q p
whole_coordinate nt (lead (bare bs) good) p h e = absurd cc
whole_coordinate nt (lead (sign bs s cs) good) p h e = absurd cc
whole_coordinate nt (lead (more l t bs s cs) good) p h e = absurd cc
whole_coordinate nt (digits l good d ds short) p h e = record {
  coordinate = record { part = record { lead = l; last = whole (record { first = d; others = ds; short = short }); after = []; good = good; new = tt }; first = h; number = tt };
  text = ap (λ (x : List ℕ). lead_text l ++ x) (sym (append-nil (d.byte ∷ digits_text ds)));
  value = shift_is _ p e;
}
whole_coordinate nt (divided l good n) p h e = absurd cc
whole_coordinate nt (below l good n u) p h e = record {
  coordinate = record { part = record { lead = l; last = fraction n u; after = []; good = good; new = tt }; first = h; number = tt };
  text = ap (λ (x : List ℕ). lead_text l ++ x) (sym (append-nil (term_text (fraction n u))));
  value = shift_is _ p e;
}
whole_coordinate nt (behind w) p h e = record { coordinate = record { part = w; first = h.0; number = h.1 }; text = refl; value = shift_is _ p e }

-- one digit more
pub record DigitMore (l : Lead) (d : Digit) (ds : List Digit) (f : Digit) (p : PartReader) : Type 0 where
  pub short : length (ds ++ f ∷ []) ≤ 2
  pub state : p ≡ state l (Digits (1 + length (ds ++ f ∷ [])) (decimal (digit_value d) (ds ++ f ∷ [])))

pub digit_more : (nt : Notation) → (l : Lead) (good : IsLead nt l) (d : Digit) (ds : List Digit) (short : length ds ≤ 2) (f : Digit) (p : PartReader) → on_digit (digit_value f) (partial_state nt (digits l good d ds short)) ≡ going p → DigitMore l d ds f p
digit_more nt l good d ds short f p e =
    let h = passed _ _ _ p e in
    let room = not_three (length ds) h.0 in
    record {
      short = omega (arith, length_more ds f, room);
      state = going_is _ p h.1 ∙ digits_state l _ _ _ _ (omega (arith, length_more ds f)) (sym (decimal-append (digit_value d) ds f));
    }
