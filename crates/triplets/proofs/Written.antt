-- What is written in the grammar is read, with its value.
use Rattle.std.proofs.Common.{zero, suc, ◌/◌, ◌%◌, inl, inr, le_refl, ◌≡◌, ℕ, ◌+◌, ◌*◌, ◌<◌, ◌≤◌, Bool, true, false, cond, List, [], ◌∷◌, ◌++◌, length, Some, Result, Ok, Err, refl, ◌∙◌, ap, arith}
use Rattle.std.specs.Prelude.{nat_le, nat_lt, ◌==◌, ◌&&◌}
use Rattle.std.specs.Fmt.{decimal as decimal_text}
use Rattle.std.specs.Int.{◌∣◌}
use Rattle.std.proofs.lemmas.Bool.{cases_lt}
use Rattle.std.proofs.lemmas.Bool.Decides.{nat_tests}
use Rattle.std.proofs.lemmas.Fmt.{decimal_digit, decimal_step}
use Rattle.triplets.specs.declared.notation.Notation.{Notation}
use Rattle.triplets.specs.declared.marks.Axis.{Axis}
use Rattle.motions.specs.declared.motion.Sign.{Sign}
use Rattle.triplets.specs.declared.fault.TextKind.{TextKind}
use Rattle.triplets.specs.declared.fault.TextKind.TheVariants as kinds
use Rattle.triplets.specs.declared.part.Row.{Row}
use Rattle.triplets.specs.declared.part.Used.{Used}
use Rattle.triplets.specs.declared.part.PartReader.{PartReader}
use Rattle.triplets.specs.declared.part.Spot.TheVariants.{Begin, Signed, Digits, Divided, Below, Behind}
use Rattle.triplets.specs.Marks.{has_axis}
use Rattle.triplets.specs.Rows.{uses}
use Rattle.triplets.specs.Denominators.{unit, denominator_text, further_digit}
use Rattle.triplets.specs.PartReading.{begin, part_step, settled, on_blank, on_sign, on_digit, on_digit_at, on_new_letter_at, below_or, with_letter, with_sign, with_spot}
use Rattle.triplets.specs.Grammar.{Blank, space, tab, carriage_return, blanks_text, sign_byte, letter_byte, Digit, digit_value, digits_text, decimal, Numerator, numerator_text, numerator_value, Term, letter, multiple, whole, fraction, term_text, IsNew, Lead, bare, sign, more, lead_text, lead_row, lead_sign, lead_letters, IsLead, Written, part_text}
use Rattle.triplets.proofs.Bytes.{mark_sign, mark_letter, mark_digit, blanks_keep}
use Rattle.triplets.proofs.Divisors.{at_least_one, at_most_unit, further_is, beginning_divides}
use Rattle.triplets.proofs.NumberTrees.{digit, digit-value}
use Rattle.triplets.proofs.PartRuns.{run_part, lead_spot, state, lead_state, behind_state, term_state, after_state, part_byte}
use Rattle.triplets.proofs.Runs.{run_then}
use Rattle.triplets.specs.Runs.{advanced}

-- blanks change nothing before a term, and behind one

pub still_begin : (nt : Notation) → (r : Row) (u : Used) (s : Sign) (bs : List Blank) → let p : PartReader = record { row = r; used = u; sign = s; spot = Begin } in run_part nt (Ok p) (blanks_text bs) ≡ Ok p
still_begin nt r u s = blanks_keep nt part_step (record { row = r; used = u; sign = s; spot = Begin }) refl

pub still_signed : (nt : Notation) → (r : Row) (u : Used) (s : Sign) (bs : List Blank) → let p : PartReader = record { row = r; used = u; sign = s; spot = Signed } in run_part nt (Ok p) (blanks_text bs) ≡ Ok p
still_signed nt r u s = blanks_keep nt part_step (record { row = r; used = u; sign = s; spot = Signed }) refl

still_behind : (nt : Notation) → (r : Row) (u : Used) (s : Sign) (bs : List Blank) → let p : PartReader = record { row = r; used = u; sign = s; spot = Behind } in run_part nt (Ok p) (blanks_text bs) ≡ Ok p
still_behind nt r u s = blanks_keep nt part_step (record { row = r; used = u; sign = s; spot = Behind }) refl

-- a term

letter_opens : (l : Lead) (a : Axis) (p : PartReader) → on_new_letter_at a (lead_spot l) p ≡ Ok (with_letter a 1 p)
letter_opens (bare bs) a p = refl
letter_opens l a p = refl

digit_opens : (l : Lead) (d : ℕ) (p : PartReader) → on_digit_at d (lead_spot l) p ≡ Ok (with_spot (Digits 1 d) p)
digit_opens (bare bs) d p = refl
digit_opens l d p = refl

letter_run : (nt : Notation) → (a : Axis) (c : Bool) (p : PartReader) → has_axis nt a ≡ true → uses a p.used ≡ false → run_part nt (Ok p) (letter_byte a c ∷ []) ≡ on_new_letter_at a p.spot p
letter_run nt a c p axis new =
    ap (λ m. part_step m p) (mark_letter nt a c axis)
    ∙ ap (λ b. cond b (Err kinds.Repeated) (on_new_letter_at a p.spot p)) new

digit_run : (nt : Notation) → (d : Digit) (p : PartReader) → advanced (part_byte nt) (Ok p) d.byte ≡ on_digit (digit_value d) p
digit_run nt d p = ap (λ m. part_step m p) (mark_digit nt d)

-- a first digit
first_run : (nt : Notation) → (l : Lead) (d : Digit) → advanced (part_byte nt) (Ok (lead_state l)) d.byte ≡ Ok (state l (Digits 1 (digit_value d)))
first_run nt l d = digit_run nt d (lead_state l) ∙ digit_opens l (digit_value d) (lead_state l)

few : (n : ℕ) (x y : Result PartReader TextKind) → n < 3 → cond (nat_le 3 n) x y ≡ y
few n x y h = grind (arith, nat_tests)

digits_run : (nt : Notation) → (r : Row) (u : Used) (s : Sign) (n v : ℕ) (ds : List Digit) → n + length ds ≤ 3 →
    run_part nt (Ok (record { row = r; used = u; sign = s; spot = Digits n v })) (digits_text ds)
    ≡ Ok (record { row = r; used = u; sign = s; spot = Digits (n + length ds) (decimal v ds) })
digits_run nt r u s n v [] h = ap (λ k. Ok (record { row = r; used = u; sign = s; spot = Digits k v })) (omega arith)
digits_run nt r u s n v (d ∷ ds) h =
    ap (λ (x : Result PartReader TextKind). run_part nt x (digits_text ds))
    (digit_run nt d (record { row = r; used = u; sign = s; spot = Digits n v })
    ∙ few n (Err kinds.Coefficient) (Ok (record { row = r; used = u; sign = s; spot = Digits (n + 1) (10 * v + digit_value d) })) (omega arith))
    ∙ (digits_run nt r u s (n + 1) (10 * v + digit_value d) ds (omega arith)
    ∙ ap (λ k. Ok (record { row = r; used = u; sign = s; spot = Digits k (decimal (10 * v + digit_value d) ds) })) (omega arith))

numerator_run : (nt : Notation) → (l : Lead) (n : Numerator) → run_part nt (Ok (lead_state l)) (numerator_text n) ≡ Ok (state l (Digits (1 + length n.others) (numerator_value n)))
numerator_run nt l n =
    ap (λ (x : Result PartReader TextKind). run_part nt x (digits_text n.others)) (first_run nt l n.first)
    ∙ digits_run nt (lead_row l) (lead_letters l) (lead_sign l) 1 (digit_value n.first) n.others (omega (arith, n.short))

-- a digit of a denominator
digit_below : (nt : Notation) → (p : PartReader) (v m e n : ℕ) → e < 10 → on_digit e p ≡ below_or v (further_digit m e) p → 10 * m + e ≡ n → n ∣ unit → advanced (part_byte nt) (Ok p) (48 + e) ≡ Ok (with_spot (Below v n) p)
digit_below nt p v m e n small at is h =
    digit_run nt (digit e small) p
    ∙ (ap (λ k. on_digit k p) (digit-value e small) ∙ (at ∙ ap (λ o. below_or v o p) (further_is m e n is h)))

-- a denominator of at most k, digit by digit
below_run : (nt : Notation) → (k : ℕ) (r : Row) (u : Used) (s : Sign) (v n : ℕ) → n ≤ k → n ∣ unit →
    run_part nt (Ok (record { row = r; used = u; sign = s; spot = Divided v })) (decimal_text n)
    ≡ Ok (record { row = r; used = u; sign = s; spot = Below v n })
below_run nt zero r u s v n most h = absurd (let low = at_least_one n h in omega arith)
below_run nt (suc k) r u s v n most h =
    let start : PartReader = record { row = r; used = u; sign = s; spot = Divided v } in
    let under : ℕ → PartReader = λ m. record { row = r; used = u; sign = s; spot = Below v m } in
    elim (cases_lt n 10) [
      | inl below ↦ ap (λ ds. run_part nt (Ok start) ds) (decimal_digit n below) ∙ digit_below nt start v 0 n n below refl (omega arith) h
      | inr above ↦
          ap (λ ds. run_part nt (Ok start) ds) (decimal_step n above (omega (arith, at_most_unit n h)))
          ∙ run_then (part_byte nt) (Ok start) (Ok (under (n / 10))) (Ok (under n)) (decimal_text (n / 10)) ((48 + n % 10) ∷ [])
          (below_run nt k r u s v (n / 10) (omega arith) (beginning_divides n above h))
          (digit_below nt (under (n / 10)) v (n / 10) (n % 10) n (omega arith) refl (omega arith) h)
    ]

one_digit : (v : ℕ) (x y : Result PartReader TextKind) → 0 < v → cond (1 == 1 && nat_lt 0 v) x y ≡ x
one_digit v x y h = grind (arith, nat_tests)

pub term_run : (nt : Notation) → (l : Lead) (t : Term) → IsNew nt t (lead_letters l) → run_part nt (Ok (lead_state l)) (term_text t) ≡ Ok (term_state l t)
term_run nt l (letter a c) new = letter_run nt a c (lead_state l) new.0 new.1 ∙ letter_opens l a (lead_state l)
term_run nt l (multiple d h a c) new =
    ap (λ (x : Result PartReader TextKind). run_part nt x (letter_byte a c ∷ [])) (first_run nt l d)
    ∙ (letter_run nt a c (state l (Digits 1 (digit_value d))) new.0 new.1
    ∙ one_digit (digit_value d) _ (Err kinds.Coefficient) (omega arith))
term_run nt l (whole n) new = numerator_run nt l n
term_run nt l (fraction n d) new =
    run_then (part_byte nt) (Ok (lead_state l)) (Ok (state l (Digits (1 + length n.others) (numerator_value n)))) (Ok (term_state l (fraction n d))) (numerator_text n) (47 ∷ denominator_text d)
    (numerator_run nt l n)
    (below_run nt d.number (lead_row l) (lead_letters l) (lead_sign l) (numerator_value n) d.number (le_refl d.number) d.divides)

-- behind a term

pub settled_term : (l : Lead) (t : Term) → settled (term_state l t) ≡ Some (behind_state l t)
settled_term l (letter a c) = refl
settled_term l t = refl

pub settled_after : (l : Lead) (t : Term) (bs : List Blank) → settled (after_state l t bs) ≡ Some (behind_state l t)
settled_after l t [] = settled_term l t
settled_after l t (b ∷ bs) = refl

blank_term : (l : Lead) (t : Term) → on_blank (term_state l t) ≡ Ok (behind_state l t)
blank_term l (letter a c) = refl
blank_term l t = refl

run_on : (nt : Notation) → (bs : List Blank) (l : Lead) (t : Term) → run_part nt (on_blank (term_state l t)) (blanks_text bs) ≡ Ok (behind_state l t)
run_on nt bs l t =
    ap (λ (x : Result PartReader TextKind). run_part nt x (blanks_text bs)) (blank_term l t)
    ∙ still_behind nt (behind_state l t).row (behind_state l t).used (behind_state l t).sign bs

pub after_run : (nt : Notation) → (l : Lead) (t : Term) (bs : List Blank) → run_part nt (Ok (term_state l t)) (blanks_text bs) ≡ Ok (after_state l t bs)
after_run nt l t [] = refl
after_run nt l t (space ∷ bs) = run_on nt bs l t
after_run nt l t (tab ∷ bs) = run_on nt bs l t
after_run nt l t (carriage_return ∷ bs) = run_on nt bs l t

sign_term : (l : Lead) (t : Term) (s : Sign) → on_sign s (term_state l t) ≡ Ok (with_sign s (behind_state l t))
sign_term l (letter a c) s = refl
sign_term l t s = refl

sign_after : (l : Lead) (t : Term) (bs : List Blank) (s : Sign) → on_sign s (after_state l t bs) ≡ Ok (with_sign s (behind_state l t))
sign_after l t [] s = sign_term l t s
sign_after l t (b ∷ bs) s = refl

sign_run : (nt : Notation) → (p q : PartReader) (s : Sign) (cs : List Blank) → on_sign s p ≡ Ok (with_sign s q) → run_part nt (Ok p) (sign_byte s ∷ blanks_text cs) ≡ Ok (with_sign s q)
sign_run nt p q s cs h =
    ap (λ (x : Result PartReader TextKind). run_part nt x (blanks_text cs)) (ap (λ m. part_step m p) (mark_sign nt s) ∙ h)
    ∙ still_signed nt q.row q.used s cs

pub lead_run : (nt : Notation) → (l : Lead) → IsLead nt l → run_part nt (Ok begin) (lead_text l) ≡ Ok (lead_state l)
lead_run nt (bare bs) good = still_begin nt begin.row begin.used begin.sign bs
lead_run nt (sign bs s cs) good =
    run_then (part_byte nt) (Ok begin) (Ok begin) (Ok (lead_state (sign bs s cs))) (blanks_text bs) (sign_byte s ∷ blanks_text cs)
    (still_begin nt begin.row begin.used begin.sign bs)
    (sign_run nt begin begin s cs refl)
lead_run nt (more l t bs s cs) good =
    run_then (part_byte nt) (Ok begin) (Ok (lead_state l)) (Ok (lead_state (more l t bs s cs))) (lead_text l) (term_text t ++ (blanks_text bs ++ sign_byte s ∷ blanks_text cs))
    (lead_run nt l good.0)
    (run_then (part_byte nt) (Ok (lead_state l)) (Ok (term_state l t)) (Ok (lead_state (more l t bs s cs))) (term_text t) (blanks_text bs ++ sign_byte s ∷ blanks_text cs)
    (term_run nt l t good.1)
    (run_then (part_byte nt) (Ok (term_state l t)) (Ok (after_state l t bs)) (Ok (lead_state (more l t bs s cs))) (blanks_text bs) (sign_byte s ∷ blanks_text cs)
    (after_run nt l t bs)
    (sign_run nt (after_state l t bs) (behind_state l t) s cs (sign_after l t bs s))))

pub written_run : (nt : Notation) → (w : Written nt) → run_part nt (Ok begin) (part_text nt w) ≡ Ok (after_state w.lead w.last w.after)
written_run nt w =
    run_then (part_byte nt) (Ok begin) (Ok (lead_state w.lead)) (Ok (after_state w.lead w.last w.after)) (lead_text w.lead) (term_text w.last ++ blanks_text w.after)
    (lead_run nt w.lead w.good)
    (run_then (part_byte nt) (Ok (lead_state w.lead)) (Ok (term_state w.lead w.last)) (Ok (after_state w.lead w.last w.after)) (term_text w.last) (blanks_text w.after)
    (term_run nt w.lead w.last w.new)
    (after_run nt w.lead w.last w.after))
