-- What stands before a place in a line, in words, and what the words of a part are among them.
use Rattle.std.proofs.Common.{◌≡◌, ◌≢◌, ℕ, ◌+◌, ◌<◌, Bool, true, false, List, refl, sym, ap, subst, arith, inl, ◌⊎◌}
use Rattle.std.specs.Prelude.{◌==◌, ◌||◌, if◌then◌else◌}
use Rattle.std.proofs.lemmas.Bool.Decides.{nat_tests}
use Rattle.triplets.specs.declared.notation.Notation.{Notation}
use Rattle.triplets.specs.declared.marks.Axis.{Axis}
use Rattle.triplets.specs.declared.marks.Axis.TheVariants.{X, Y, Z}
use Rattle.motions.specs.declared.motion.Sign.{Sign}
use Rattle.motions.specs.declared.motion.Sign.TheVariants.{Plus, Minus}
use Rattle.triplets.specs.declared.part.Used.{Used}
use Rattle.triplets.specs.declared.marks.Mark.{Mark}
use Rattle.triplets.specs.declared.marks.Mark.TheVariants as marks
use Rattle.triplets.specs.Marks.{mark}
use Rattle.triplets.specs.Rows.{unused, with_used}
use Rattle.triplets.specs.Grammar.{Blank, space, blank_byte, sign_byte, letter_byte, Digit}
use Rattle.triplets.specs.Faults.{is_digit, is_blank, is_letter, last_mark, last_other, digits_at_end}
use Rattle.triplets.specs.LineFaults.{last_bracket, commas, line_stands}
use Rattle.triplets.proofs.Bytes.{IsMark}
use Rattle.triplets.proofs.Seen.{Seen, seen_step, seen_digit, digit_true, digit_not_letter}

-- what stands before, in words
pub record LineSeen : Type 0 where
  pub mark : ℕ
  pub other : ℕ
  pub count : ℕ
  pub bracket : ℕ
  pub commas : ℕ
  pub used : Used

abbrev pub line_seen_step : LineSeen → ℕ → LineSeen
line_seen_step f b = record {
  mark = if is_blank b then f.mark else b;
  other = if is_digit b then f.other else b;
  count = if is_digit b then f.count + 1 else 0;
  bracket = if b == 40 || b == 41 then b else f.bracket;
  commas = if b == 40 then 0 else (if b == 44 then f.commas + 1 else f.commas);
  used = record {
    x = if b == 44 || (b == 40 || b == 41) then false else (if is_letter X b then true else f.used.x);
    y = if b == 44 || (b == 40 || b == 41) then false else (if is_letter Y b then true else f.used.y);
    z = if b == 44 || (b == 40 || b == 41) then false else (if is_letter Z b then true else f.used.z);
  };
}

abbrev pub line_seen : LineSeen → List ℕ → LineSeen
line_seen f bs = record {
  mark = last_mark f.mark bs;
  other = last_other f.other bs;
  count = digits_at_end f.count bs;
  bracket = last_bracket f.bracket bs;
  commas = commas f.commas bs;
  used = record { x = line_stands X f.used.x bs; y = line_stands Y f.used.y bs; z = line_stands Z f.used.z bs };
}

abbrev pub line_seen_start : LineSeen
line_seen_start = record { mark = 44; other = 0; count = 0; bracket = 0; commas = 0; used = unused }

-- the bytes by their marks

pub l_blank : (f : LineSeen) (k : Blank) → line_seen_step f (blank_byte k) ≡ record { mark = f.mark; other = blank_byte k; count = 0; bracket = f.bracket; commas = f.commas; used = f.used }
l_blank f space = refl
l_blank f k = refl

pub l_sign : (f : LineSeen) (s : Sign) → line_seen_step f (sign_byte s) ≡ record { mark = sign_byte s; other = sign_byte s; count = 0; bracket = f.bracket; commas = f.commas; used = f.used }
l_sign f Plus = refl
l_sign f Minus = refl

pub l_letter : (f : LineSeen) (a : Axis) (c : Bool) → line_seen_step f (letter_byte a c) ≡ record { mark = letter_byte a c; other = letter_byte a c; count = 0; bracket = f.bracket; commas = f.commas; used = with_used a f.used }
l_letter f X false = refl
l_letter f X true = refl
l_letter f Y false = refl
l_letter f Y true = refl
l_letter f Z false = refl
l_letter f Z true = refl

pub digit_not : (d : Digit) (n : ℕ) → n < 48 → (d.byte == n) ≡ false
digit_not d n h = let low = d.low in grind (arith, nat_tests)

pub l_digit : (f : LineSeen) (d : Digit) → line_seen_step f d.byte ≡ record { mark = d.byte; other = f.other; count = f.count + 1; bracket = f.bracket; commas = f.commas; used = f.used }
l_digit f d = simp (digit_true d, digit_not d 32 (omega arith), digit_not d 9 (omega arith), digit_not d 13 (omega arith), digit_not d 40 (omega arith), digit_not d 41 (omega arith), digit_not d 44 (omega arith), digit_not_letter X d, digit_not_letter Y d, digit_not_letter Z d)

-- ---- the four words that a triplet has as well; a bracket before a part counts as a comma

abbrev pub SameMark : ℕ → ℕ → ℕ → Type 0
SameMark m c n = ((m ≡ n) × (m ≢ 40) × (m ≢ 41)) ⊎ ((n ≡ 44) × ((m ≡ 40) ⊎ ((m ≡ 41) × (c ≡ 0))))

pub record Follows (f : LineSeen) (g : Seen) : Type 0 where
  pub other : f.other ≡ g.other
  pub count : f.count ≡ g.count
  pub used : f.used ≡ g.used
  pub mark : SameMark f.mark f.commas g.mark

pub follow_blank : (f : LineSeen) (g : Seen) (k : Blank) → Follows f g → Follows (line_seen_step f (blank_byte k)) (seen_step g (blank_byte k))
follow_blank f g space h = record { other = refl; count = refl; used = h.used; mark = h.mark }
follow_blank f g k h = record { other = refl; count = refl; used = h.used; mark = h.mark }

pub follow_sign : (f : LineSeen) (g : Seen) (s : Sign) → Follows f g → Follows (line_seen_step f (sign_byte s)) (seen_step g (sign_byte s))
follow_sign f g Plus h = record { other = refl; count = refl; used = h.used; mark = inl (refl, λ e. omega arith, λ e. omega arith) }
follow_sign f g Minus h = record { other = refl; count = refl; used = h.used; mark = inl (refl, λ e. omega arith, λ e. omega arith) }

pub follow_letter : (f : LineSeen) (g : Seen) (a : Axis) (c : Bool) → Follows f g → Follows (line_seen_step f (letter_byte a c)) (seen_step g (letter_byte a c))
follow_letter f g X false h = record { other = refl; count = refl; used = ap (with_used X) h.used; mark = inl (refl, λ e. omega arith, λ e. omega arith) }
follow_letter f g X true h = record { other = refl; count = refl; used = ap (with_used X) h.used; mark = inl (refl, λ e. omega arith, λ e. omega arith) }
follow_letter f g Y false h = record { other = refl; count = refl; used = ap (with_used Y) h.used; mark = inl (refl, λ e. omega arith, λ e. omega arith) }
follow_letter f g Y true h = record { other = refl; count = refl; used = ap (with_used Y) h.used; mark = inl (refl, λ e. omega arith, λ e. omega arith) }
follow_letter f g Z false h = record { other = refl; count = refl; used = ap (with_used Z) h.used; mark = inl (refl, λ e. omega arith, λ e. omega arith) }
follow_letter f g Z true h = record { other = refl; count = refl; used = ap (with_used Z) h.used; mark = inl (refl, λ e. omega arith, λ e. omega arith) }

abbrev pub lmade : (m o c b n : ℕ) → Used → LineSeen
lmade m o c b n u = record { mark = m; other = o; count = c; bracket = b; commas = n; used = u }

abbrev pub smade : (m o c : ℕ) → Used → Seen
smade m o c u = record { mark = m; other = o; count = c; used = u }

pub follow_digit : (f : LineSeen) (g : Seen) (d : Digit) → Follows f g → Follows (line_seen_step f d.byte) (seen_step g d.byte)
follow_digit f g d h =
    let r : Follows (lmade d.byte f.other (f.count + 1) f.bracket f.commas f.used) (smade d.byte g.other (g.count + 1) g.used) =
    record { other = h.other; count = ap (λ n. n + 1) h.count; used = h.used; mark = inl (refl, (λ e. omega (arith, d.low)), (λ e. omega (arith, d.low))) } in
    subst (λ x. Follows x (seen_step g d.byte)) (sym (l_digit f d)) (subst (Follows (lmade d.byte f.other (f.count + 1) f.bracket f.commas f.used)) (sym (seen_digit g d)) r)

pub follow_slash : (f : LineSeen) (g : Seen) → Follows f g → Follows (line_seen_step f 47) (seen_step g 47)
follow_slash f g h = record { other = refl; count = refl; used = h.used; mark = inl (refl, λ e. omega arith, λ e. omega arith) }

abbrev pub in_a_part : Mark → Bool
in_a_part marks.Blank = true
in_a_part (marks.Signs s) = true
in_a_part (marks.Letter a) = true
in_a_part (marks.Digit n) = true
in_a_part marks.Slash = true
in_a_part _ = false

pub follow_by : (nt : Notation) → (m : Mark) (f : LineSeen) (g : Seen) (b : ℕ) → in_a_part m ≡ true → IsMark nt b m → Follows f g → Follows (line_seen_step f b) (seen_step g b)
follow_by nt marks.Blank f g b p i h = subst (λ c. Follows (line_seen_step f c) (seen_step g c)) (sym i.1) (follow_blank f g i.0 h)
follow_by nt (marks.Signs s) f g b p i h = subst (λ c. Follows (line_seen_step f c) (seen_step g c)) (sym i) (follow_sign f g s h)
follow_by nt (marks.Letter a) f g b p i h = subst (λ c. Follows (line_seen_step f c) (seen_step g c)) (sym i.1) (follow_letter f g a i.0 h)
follow_by nt (marks.Digit n) f g b p i h = subst (λ c. Follows (line_seen_step f c) (seen_step g c)) (sym i.1) (follow_digit f g i.0 h)
follow_by nt marks.Slash f g b p i h = subst (λ c. Follows (line_seen_step f c) (seen_step g c)) (sym i) (follow_slash f g h)
follow_by nt m f g b p i h = absurd cc

-- brackets and commas stay
pub record Stays (f g : LineSeen) : Type 0 where
  pub bracket : g.bracket ≡ f.bracket
  pub commas : g.commas ≡ f.commas

pub stays_at : (f g : LineSeen) (b c : ℕ) → b ≡ c → line_seen_step f c ≡ g → Stays f g → Stays f (line_seen_step f b)
stays_at f g b c e h s = subst (λ x. Stays f (line_seen_step f x)) (sym e) (subst (Stays f) (sym h) s)

pub stays_by : (nt : Notation) → (m : Mark) (f : LineSeen) (b : ℕ) → in_a_part m ≡ true → IsMark nt b m → Stays f (line_seen_step f b)
stays_by nt marks.Blank f b p i = stays_at f _ b _ i.1 (l_blank f i.0) (record { bracket = refl; commas = refl })
stays_by nt (marks.Signs s) f b p i = stays_at f _ b _ i (l_sign f s) (record { bracket = refl; commas = refl })
stays_by nt (marks.Letter a) f b p i = stays_at f _ b _ i.1 (l_letter f a i.0) (record { bracket = refl; commas = refl })
stays_by nt (marks.Digit n) f b p i = stays_at f _ b _ i.1 (l_digit f i.0) (record { bracket = refl; commas = refl })
stays_by nt marks.Slash f b p i = stays_at f _ b _ i refl (record { bracket = refl; commas = refl })
stays_by nt m f b p i = absurd cc
