-- What stands before a place, as the reader of a part knows it.
use Rattle.std.proofs.Common.{◌≡◌, ◌≢◌, ℕ, ◌+◌, ◌*◌, ◌≤◌, Bool, true, false, List, Option, Some, None, Ok, refl, sym, ap, subst, arith}
use Rattle.std.specs.Prelude.{◌==◌, if◌then◌else◌}
use Rattle.std.proofs.lemmas.Bool.Decides.{nat_tests}
use Rattle.triplets.specs.declared.notation.Notation.{Notation}
use Rattle.triplets.specs.declared.notation.Notation.TheVariants.{Triplets, Pairs}
use Rattle.triplets.specs.declared.marks.Axis.{Axis}
use Rattle.triplets.specs.declared.marks.Axis.TheVariants.{X, Y, Z}
use Rattle.motions.specs.declared.motion.Sign.{Sign}
use Rattle.motions.specs.declared.motion.Sign.TheVariants.{Plus, Minus}
use Rattle.triplets.specs.declared.part.Used.{Used}
use Rattle.triplets.specs.declared.fault.TextKind.TheVariants as kinds
use Rattle.triplets.specs.declared.marks.Mark.{Mark}
use Rattle.triplets.specs.declared.marks.Mark.TheVariants as marks
use Rattle.triplets.specs.declared.part.Row as rows
use Rattle.triplets.specs.declared.part.PartReader.{PartReader}
use Rattle.triplets.specs.declared.part.Spot.{Spot}
use Rattle.triplets.specs.declared.part.Spot.TheVariants.{Begin, Signed, Digits, Divided, Below, Behind}
use Rattle.triplets.specs.declared.triplet.Nth.{Nth}
use Rattle.triplets.specs.declared.triplet.Nth.TheVariants.{First, Second, Third}
use Rattle.triplets.specs.declared.triplet.TripletReader.{TripletReader}
use Rattle.triplets.specs.Marks.{mark}
use Rattle.triplets.specs.Rows.{unused, with_used}
use Rattle.triplets.specs.PartReading.{begin, settled, part_step, on_blank, on_sign, on_digit, on_slash, on_new_letter_at, with_letter, with_spot}
use Rattle.triplets.specs.TripletReading.{start, in_part, next_part, comma_at, step, run, operation_byte}
use Rattle.triplets.specs.Grammar.{Blank, space, blank_byte, sign_byte, letter_byte, Digit, digit_value}
use Rattle.triplets.specs.Faults.{is_digit, is_blank, is_letter, last_mark, last_other, digits_at_end, stands}
use Rattle.triplets.proofs.Bytes.{IsMark, mark_is}
use Rattle.triplets.proofs.Partials.{passed, met, below_is}
use Rattle.triplets.proofs.Wholes.{part_step_is}
use Rattle.triplets.proofs.Runs.{going, going_is, not_going, carries}

-- what stands before, in words
pub record Seen : Type 0 where
  pub mark : ℕ
  pub other : ℕ
  pub count : ℕ
  pub used : Used

abbrev pub nothing_seen : Seen
nothing_seen = record { mark = 44; other = 0; count = 0; used = unused }

abbrev pub seen : Seen → List ℕ → Seen
seen f bs = record {
  mark = last_mark f.mark bs;
  other = last_other f.other bs;
  count = digits_at_end f.count bs;
  used = record { x = stands X f.used.x bs; y = stands Y f.used.y bs; z = stands Z f.used.z bs };
}

abbrev pub seen_step : Seen → ℕ → Seen
seen_step f b = record {
  mark = if is_blank b then f.mark else b;
  other = if is_digit b then f.other else b;
  count = if is_digit b then f.count + 1 else 0;
  used = record {
    x = if b == 44 then false else (if is_letter X b then true else f.used.x);
    y = if b == 44 then false else (if is_letter Y b then true else f.used.y);
    z = if b == 44 then false else (if is_letter Z b then true else f.used.z);
  };
}

-- one byte

pub seen_blank : (f : Seen) (k : Blank) → seen_step f (blank_byte k) ≡ record { mark = f.mark; other = blank_byte k; count = 0; used = f.used }
seen_blank f space = refl
seen_blank f k = refl

pub seen_sign : (f : Seen) (s : Sign) → seen_step f (sign_byte s) ≡ record { mark = sign_byte s; other = sign_byte s; count = 0; used = f.used }
seen_sign f Plus = refl
seen_sign f Minus = refl

pub seen_letter : (f : Seen) (a : Axis) (c : Bool) → seen_step f (letter_byte a c) ≡ record { mark = letter_byte a c; other = letter_byte a c; count = 0; used = with_used a f.used }
seen_letter f X false = refl
seen_letter f X true = refl
seen_letter f Y false = refl
seen_letter f Y true = refl
seen_letter f Z false = refl
seen_letter f Z true = refl

pub digit_true : (d : Digit) → is_digit d.byte ≡ true
digit_true d = let low = d.low in let high = d.high in grind (arith, nat_tests)

pub digit_not_blank : (d : Digit) → is_blank d.byte ≡ false
digit_not_blank d = let low = d.low in let high = d.high in grind (arith, nat_tests)

pub digit_not_comma : (d : Digit) → (d.byte == 44) ≡ false
digit_not_comma d = let low = d.low in let high = d.high in grind (arith, nat_tests)

pub digit_not_letter : (a : Axis) (d : Digit) → is_letter a d.byte ≡ false
digit_not_letter X d = let low = d.low in let high = d.high in grind (arith, nat_tests)
digit_not_letter a d = let low = d.low in let high = d.high in grind (arith, nat_tests)

pub seen_digit : (f : Seen) (d : Digit) → seen_step f d.byte ≡ record { mark = d.byte; other = f.other; count = f.count + 1; used = f.used }
seen_digit f d = simp (digit_true d, digit_not_blank d, digit_not_comma d, digit_not_letter X d, digit_not_letter Y d, digit_not_letter Z d)

-- what the spot of the reader says
abbrev pub SpotAgrees : Spot → Seen → Type 0
SpotAgrees Begin f = (f.mark ≡ 44) × (f.count ≡ 0) × (f.other ≢ 47)
SpotAgrees Signed f = (f.mark ≢ 44) × (f.count ≡ 0) × (f.other ≢ 47)
SpotAgrees (Digits n v) f = (f.mark ≢ 44) × (f.count ≡ n) × (f.other ≢ 47) × (1 ≤ n)
SpotAgrees (Divided v) f = (f.mark ≢ 44) × (f.count ≡ 0) × (f.other ≡ 47)
SpotAgrees (Below v u) f = (f.mark ≢ 44) × (1 ≤ f.count) × (f.other ≡ 47)
SpotAgrees Behind f = (f.mark ≢ 44) × (f.count ≡ 0) × (f.other ≢ 47)

pub record Agrees (p : PartReader) (f : Seen) : Type 0 where
  pub used : f.used ≡ p.used
  pub spot : SpotAgrees p.spot f

pub agree_at : (p q : PartReader) (f : Seen) → q ≡ p → Agrees p f → Agrees q f
agree_at p q f e h = subst (λ x. Agrees x f) (sym e) h

pub blank_bounds : (k : Blank) → blank_byte k ≢ 47
blank_bounds space e = omega arith
blank_bounds k e = omega arith

pub sign_bounds : (s : Sign) → (sign_byte s ≢ 44) × (sign_byte s ≢ 47)
sign_bounds Plus = (λ e. omega arith, λ e. omega arith)
sign_bounds Minus = (λ e. omega arith, λ e. omega arith)

pub letter_bounds : (a : Axis) (c : Bool) → (letter_byte a c ≢ 44) × (letter_byte a c ≢ 47) × (letter_byte a c ≢ 35) × (is_digit (letter_byte a c) ≡ false)
letter_bounds X false = (λ e. omega arith, λ e. omega arith, λ e. omega arith, refl)
letter_bounds X true = (λ e. omega arith, λ e. omega arith, λ e. omega arith, refl)
letter_bounds Y false = (λ e. omega arith, λ e. omega arith, λ e. omega arith, refl)
letter_bounds Y true = (λ e. omega arith, λ e. omega arith, λ e. omega arith, refl)
letter_bounds Z false = (λ e. omega arith, λ e. omega arith, λ e. omega arith, refl)
letter_bounds Z true = (λ e. omega arith, λ e. omega arith, λ e. omega arith, refl)

abbrev pub at : rows.Row → Used → Sign → Spot → PartReader
at r u g spot = record { row = r; used = u; sign = g; spot = spot }

pub agrees_blank : (spot : Spot) (r : rows.Row) (u : Used) (g : Sign) (f : Seen) (k : Blank) (q : PartReader) → f.used ≡ u → SpotAgrees spot f → on_blank (at r u g spot) ≡ going q →
    Agrees q (record { mark = f.mark; other = blank_byte k; count = 0; used = f.used })
agrees_blank Begin r u g f k q e h w = agree_at _ q _ (going_is _ q w) (record { used = e; spot = (h.0, refl, blank_bounds k) })
agrees_blank Signed r u g f k q e h w = agree_at _ q _ (going_is _ q w) (record { used = e; spot = (h.0, refl, blank_bounds k) })
agrees_blank (Digits n v) r u g f k q e h w = agree_at _ q _ (going_is _ q w) (record { used = e; spot = (h.0, refl, blank_bounds k) })
agrees_blank (Divided v) r u g f k q e h w = not_going _ q w
agrees_blank (Below v d) r u g f k q e h w = agree_at _ q _ (going_is _ q w) (record { used = e; spot = (h.0, refl, blank_bounds k) })
agrees_blank Behind r u g f k q e h w = agree_at _ q _ (going_is _ q w) (record { used = e; spot = (h.0, refl, blank_bounds k) })

pub agrees_sign : (spot : Spot) (r : rows.Row) (u : Used) (g : Sign) (f : Seen) (s : Sign) (q : PartReader) → f.used ≡ u → SpotAgrees spot f → on_sign s (at r u g spot) ≡ going q →
    Agrees q (record { mark = sign_byte s; other = sign_byte s; count = 0; used = f.used })
agrees_sign Begin r u g f s q e h w = agree_at _ q _ (going_is _ q w) (record { used = e; spot = ((sign_bounds s).0, refl, (sign_bounds s).1) })
agrees_sign Signed r u g f s q e h w = not_going _ q w
agrees_sign (Digits n v) r u g f s q e h w = agree_at _ q _ (going_is _ q w) (record { used = e; spot = ((sign_bounds s).0, refl, (sign_bounds s).1) })
agrees_sign (Divided v) r u g f s q e h w = not_going _ q w
agrees_sign (Below v d) r u g f s q e h w = agree_at _ q _ (going_is _ q w) (record { used = e; spot = ((sign_bounds s).0, refl, (sign_bounds s).1) })
agrees_sign Behind r u g f s q e h w = agree_at _ q _ (going_is _ q w) (record { used = e; spot = ((sign_bounds s).0, refl, (sign_bounds s).1) })

pub agrees_letter : (spot : Spot) (r : rows.Row) (u : Used) (g : Sign) (f : Seen) (a : Axis) (c : Bool) (q : PartReader) → f.used ≡ u → on_new_letter_at a spot (at r u g spot) ≡ going q →
    Agrees q (record { mark = letter_byte a c; other = letter_byte a c; count = 0; used = with_used a f.used })
agrees_letter Begin r u g f a c q e w = agree_at _ q _ (going_is _ q w) (record { used = ap (with_used a) e; spot = ((letter_bounds a c).0, refl, (letter_bounds a c).1) })
agrees_letter Signed r u g f a c q e w = agree_at _ q _ (going_is _ q w) (record { used = ap (with_used a) e; spot = ((letter_bounds a c).0, refl, (letter_bounds a c).1) })
agrees_letter (Digits n v) r u g f a c q e w = agree_at (with_letter a v (at r u g (Digits n v))) q _ (going_is _ q (met _ kinds.Coefficient _ q w).1) (record { used = ap (with_used a) e; spot = ((letter_bounds a c).0, refl, (letter_bounds a c).1) })
agrees_letter spot r u g f a c q e w = not_going _ q w

pub agrees_digit : (spot : Spot) (r : rows.Row) (u : Used) (g : Sign) (f : Seen) (d : Digit) (q : PartReader) → f.used ≡ u → SpotAgrees spot f → on_digit (digit_value d) (at r u g spot) ≡ going q →
    Agrees q (record { mark = d.byte; other = f.other; count = f.count + 1; used = f.used })
agrees_digit Begin r u g f d q e h w = agree_at _ q _ (going_is _ q w) (record { used = e; spot = (λ z. omega (arith, d.low), omega (arith, h.1), h.2, omega arith) })
agrees_digit Signed r u g f d q e h w = agree_at _ q _ (going_is _ q w) (record { used = e; spot = (λ z. omega (arith, d.low), omega (arith, h.1), h.2, omega arith) })
agrees_digit (Digits n v) r u g f d q e h w = agree_at (with_spot (Digits (n + 1) (10 * v + digit_value d)) (at r u g (Digits n v))) q _ (going_is _ q (passed _ _ _ q w).1) (record { used = e; spot = (λ z. omega (arith, d.low), omega (arith, h.1), h.2, omega arith) })
agrees_digit (Divided v) r u g f d q e h w = agree_at (with_spot (Below v (below_is _ _ _ q w).0) (at r u g (Divided v))) q _ (below_is _ _ _ q w).2 (record { used = e; spot = (λ z. omega (arith, d.low), omega arith, h.2) })
agrees_digit (Below v t) r u g f d q e h w = agree_at (with_spot (Below v (below_is _ _ _ q w).0) (at r u g (Below v t))) q _ (below_is _ _ _ q w).2 (record { used = e; spot = (λ z. omega (arith, d.low), omega arith, h.2) })
agrees_digit Behind r u g f d q e h w = not_going _ q w

pub agrees_slash : (spot : Spot) (r : rows.Row) (u : Used) (g : Sign) (f : Seen) (q : PartReader) → f.used ≡ u → SpotAgrees spot f → on_slash (at r u g spot) ≡ going q →
    Agrees q (record { mark = 47; other = 47; count = 0; used = f.used })
agrees_slash (Digits n v) r u g f q e h w = agree_at _ q _ (going_is _ q w) (record { used = e; spot = (λ z. omega arith, refl, refl) })
agrees_slash spot r u g f q e h w = not_going _ q w

pub along : (b c : ℕ) (q : PartReader) (f g : Seen) → b ≡ c → seen_step f c ≡ g → Agrees q g → Agrees q (seen_step f b)
along b c q f g e h a = subst (λ x. Agrees q (seen_step f x)) (sym e) (subst (λ x. Agrees q x) (sym h) a)

pub agrees_part : (nt : Notation) → (m : Mark) (p : PartReader) (f : Seen) (b : ℕ) (q : PartReader) → IsMark nt b m → Agrees p f → part_step m p ≡ going q → Agrees q (seen_step f b)
agrees_part nt marks.Blank p f b q i h w = along b _ q f _ i.1 (seen_blank f i.0) (agrees_blank p.spot p.row p.used p.sign f i.0 q h.used h.spot w)
agrees_part nt (marks.Signs s) p f b q i h w = along b _ q f _ i (seen_sign f s) (agrees_sign p.spot p.row p.used p.sign f s q h.used h.spot w)
agrees_part nt (marks.Letter a) p f b q i h w = along b _ q f _ i.1 (seen_letter f a i.0) (agrees_letter p.spot p.row p.used p.sign f a i.0 q h.used (passed _ _ _ q w).1)
agrees_part nt (marks.Digit n) p f b q i h w = along b _ q f _ i.1 (seen_digit f i.0) (agrees_digit p.spot p.row p.used p.sign f i.0 q h.used h.spot (subst (λ k. on_digit k p ≡ going q) i.2 w))
agrees_part nt marks.Slash p f b q i h w = along b _ q f _ i refl (agrees_slash p.spot p.row p.used p.sign f q h.used h.spot w)
agrees_part nt m p f b q i h w = not_going _ q w

pub agrees_begin : Agrees begin (record { mark = 44; other = 44; count = 0; used = unused })
agrees_begin = record { used = refl; spot = (refl, refl, λ e. omega arith) }

pub agrees_comma : (nt : Notation) → (o : Option PartReader) (s t : TripletReader) (f : Seen) → comma_at nt o s ≡ going t → Agrees t.part (seen_step f 44)
agrees_comma nt None s t f w = absurd cc
agrees_comma nt (Some p) s t f w = agrees_next nt s.nth s t p.row f w
  where
    agrees_next : (nt : Notation) (n : Nth) (s t : TripletReader) (r : rows.Row) (f : Seen) → next_part nt n s r ≡ going t → Agrees t.part (seen_step f 44)
    agrees_next nt First s t r f w = subst (λ (x : TripletReader). Agrees x.part (seen_step f 44)) (sym (going_is _ t w)) agrees_begin
    agrees_next Pairs Second s t r f w = absurd cc
    agrees_next Triplets Second s t r f w = subst (λ (x : TripletReader). Agrees x.part (seen_step f 44)) (sym (going_is _ t w)) agrees_begin
    agrees_next nt Third s t r f w = absurd cc

pub agrees_in_part : (nt : Notation) → (m : Mark) (s t : TripletReader) (f : Seen) (b : ℕ) → IsMark nt b m → Agrees s.part f → in_part s (part_step m s.part) ≡ going t → Agrees t.part (seen_step f b)
agrees_in_part nt m s t f b i h w =
    let p = part_step_is (part_step m s.part) s t w in
    subst (λ (x : TripletReader). Agrees x.part (seen_step f b)) (sym p.state) (agrees_part nt m s.part f b p.part i h p.part_is)

pub agrees_by : (nt : Notation) → (m : Mark) (s t : TripletReader) (f : Seen) (b : ℕ) → IsMark nt b m → Agrees s.part f → step nt m s ≡ going t → Agrees t.part (seen_step f b)
agrees_by nt marks.Comma s t f b i h w = subst (λ x. Agrees t.part (seen_step f x)) (sym i) (agrees_comma nt (settled s.part) s t f w)
agrees_by nt marks.Hash s t f b i h w = absurd cc
agrees_by nt m s t f b i h w = agrees_in_part nt m s t f b i h w

pub agrees_run : (nt : Notation) → (bs : List ℕ) (s t : TripletReader) (f : Seen) → Agrees s.part f → run nt (Ok s) bs ≡ going t → Agrees t.part (seen f bs)
agrees_run nt bs s t f h w =
    let x = carries (operation_byte nt) (λ u xs. (g : Seen) × Agrees u.part g × (seen g xs ≡ seen f bs)) (λ b xs u v k e. (seen_step k.0 b, agrees_by nt (mark nt b) u v k.0 b (mark_is nt b) k.1 e, k.2)) bs s t (f, h, refl) w in
    subst (Agrees t.part) x.2 x.1

pub agrees : (nt : Notation) → (bs : List ℕ) (t : TripletReader) → run nt (Ok start) bs ≡ going t → Agrees t.part (seen nothing_seen bs)
agrees nt bs t w = agrees_run nt bs start t nothing_seen (record { used = refl; spot = (refl, refl, λ e. omega arith) }) w
