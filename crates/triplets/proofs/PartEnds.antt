-- The last mark before a place tells whether a part is whole there.
use Rattle.std.proofs.Common.{◌≡◌, ℕ, ◌+◌, ◌*◌, Bool, true, false, refl, sym, ◌∙◌, ap, subst}
use Rattle.triplets.specs.declared.notation.Notation.{Notation}
use Rattle.triplets.specs.declared.marks.Axis.{Axis}
use Rattle.triplets.specs.declared.marks.Axis.TheVariants.{X, Y, Z}
use Rattle.motions.specs.declared.motion.Sign.{Sign}
use Rattle.motions.specs.declared.motion.Sign.TheVariants.{Plus, Minus}
use Rattle.triplets.specs.declared.part.Used.{Used}
use Rattle.triplets.specs.declared.fault.TextKind.TheVariants as kinds
use Rattle.triplets.specs.declared.marks.Mark.{Mark}
use Rattle.triplets.specs.declared.marks.Mark.TheVariants as marks
use Rattle.triplets.specs.declared.part.Row as rows
use Rattle.triplets.specs.declared.part.PartReader.{PartReader}
use Rattle.triplets.specs.declared.part.Spot.{Spot}
use Rattle.triplets.specs.declared.part.Spot.TheVariants.{Begin, Signed, Digits, Divided, Below, Behind}
use Rattle.triplets.specs.Marks.{mark}
use Rattle.triplets.specs.PartReading.{part_step, on_blank, on_sign, on_digit, on_slash, on_new_letter_at, with_letter}
use Rattle.triplets.specs.Grammar.{Blank, sign_byte, letter_byte, Digit}
use Rattle.triplets.specs.Faults.{is_digit}
use Rattle.triplets.specs.LineFaults.{is_end_of_part}
use Rattle.triplets.proofs.Bytes.{IsMark}
use Rattle.triplets.proofs.Partials.{passed, met, below_is}
use Rattle.triplets.proofs.Seen.{digit_true, at}
use Rattle.triplets.proofs.Runs.{going, going_is, not_going}
use Rattle.triplets.proofs.LineSeen.{LineSeen, line_seen_step, l_blank, l_sign, l_letter, l_digit}

-- ---- the last mark tells whether a part is whole

abbrev pub settles : Spot → Bool
settles Begin = false
settles Signed = false
settles (Digits n v) = true
settles (Divided v) = false
settles (Below v d) = true
settles Behind = true

pub spot_of : (p q : PartReader) → q ≡ p → settles q.spot ≡ settles p.spot
spot_of p q e = ap (λ (x : PartReader). settles x.spot) e

pub settles_blank : (spot : Spot) (r : rows.Row) (u : Used) (g : Sign) (q : PartReader) → on_blank (at r u g spot) ≡ going q → settles q.spot ≡ settles spot
settles_blank (Divided v) r u g q w = not_going _ q w
settles_blank spot r u g q w = spot_of _ q (going_is _ q w)

pub settles_sign : (spot : Spot) (r : rows.Row) (u : Used) (g s : Sign) (q : PartReader) → on_sign s (at r u g spot) ≡ going q → settles q.spot ≡ false
settles_sign Signed r u g s q w = not_going _ q w
settles_sign (Divided v) r u g s q w = not_going _ q w
settles_sign spot r u g s q w = spot_of _ q (going_is _ q w)

pub settles_letter : (spot : Spot) (r : rows.Row) (u : Used) (g : Sign) (a : Axis) (q : PartReader) → on_new_letter_at a spot (at r u g spot) ≡ going q → settles q.spot ≡ true
settles_letter Begin r u g a q w = spot_of (with_letter a 1 (at r u g Begin)) q (going_is _ q w)
settles_letter Signed r u g a q w = spot_of (with_letter a 1 (at r u g Signed)) q (going_is _ q w)
settles_letter (Digits n v) r u g a q w = spot_of (with_letter a v (at r u g (Digits n v))) q (going_is _ q (met _ kinds.Coefficient _ q w).1)
settles_letter spot r u g a q w = not_going _ q w

pub settles_digit : (spot : Spot) (r : rows.Row) (u : Used) (g : Sign) (d : ℕ) (q : PartReader) → on_digit d (at r u g spot) ≡ going q → settles q.spot ≡ true
settles_digit Begin r u g d q w = spot_of (at r u g (Digits 1 d)) q (going_is _ q w)
settles_digit Signed r u g d q w = spot_of (at r u g (Digits 1 d)) q (going_is _ q w)
settles_digit (Digits n v) r u g d q w = spot_of (at r u g (Digits (n + 1) (10 * v + d))) q (going_is _ q (passed _ _ _ q w).1)
settles_digit (Divided v) r u g d q w = spot_of (at r u g (Below v (below_is _ _ _ q w).0)) q (below_is _ _ _ q w).2
settles_digit (Below v t) r u g d q w = spot_of (at r u g (Below v (below_is _ _ _ q w).0)) q (below_is _ _ _ q w).2
settles_digit Behind r u g d q w = not_going _ q w

pub settles_slash : (spot : Spot) (r : rows.Row) (u : Used) (g : Sign) (q : PartReader) → on_slash (at r u g spot) ≡ going q → settles q.spot ≡ false
settles_slash (Digits n v) r u g q w = spot_of (at r u g (Divided v)) q (going_is _ q w)
settles_slash spot r u g q w = not_going _ q w

pub sign_no_end : (s : Sign) → is_end_of_part (sign_byte s) ≡ false
sign_no_end Plus = refl
sign_no_end Minus = refl

pub sign_no_digit : (s : Sign) → is_digit (sign_byte s) ≡ false
sign_no_digit Plus = refl
sign_no_digit Minus = refl

pub letter_end : (a : Axis) (c : Bool) → is_end_of_part (letter_byte a c) ≡ true
letter_end X false = refl
letter_end X true = refl
letter_end Y false = refl
letter_end Y true = refl
letter_end Z false = refl
letter_end Z true = refl

pub digit_end : (d : Digit) → is_end_of_part d.byte ≡ true
digit_end d = rw (digit_true d) refl

pub mark_at : (f g : LineSeen) (b c : ℕ) (T : ℕ → Bool) (t : Bool) → b ≡ c → line_seen_step f c ≡ g → T g.mark ≡ t → T (line_seen_step f b).mark ≡ t
mark_at f g b c T t e h s = subst (λ x. T (line_seen_step f x).mark ≡ t) (sym e) (subst (λ (x : LineSeen). T x.mark ≡ t) (sym h) s)

pub ends_by : (nt : Notation) → (m : Mark) (f : LineSeen) (p q : PartReader) (b : ℕ) → IsMark nt b m → is_end_of_part f.mark ≡ settles p.spot → part_step m p ≡ going q → is_end_of_part (line_seen_step f b).mark ≡ settles q.spot
ends_by nt marks.Blank f p q b i h w = mark_at f _ b _ is_end_of_part _ i.1 (l_blank f i.0) (h ∙ sym (settles_blank p.spot p.row p.used p.sign q w))
ends_by nt (marks.Signs s) f p q b i h w = mark_at f _ b _ is_end_of_part _ i (l_sign f s) (sign_no_end s ∙ sym (settles_sign p.spot p.row p.used p.sign s q w))
ends_by nt (marks.Letter a) f p q b i h w = mark_at f _ b _ is_end_of_part _ i.1 (l_letter f a i.0) (letter_end a i.0 ∙ sym (settles_letter p.spot p.row p.used p.sign a q (passed _ _ _ q w).1))
ends_by nt (marks.Digit n) f p q b i h w = mark_at f _ b _ is_end_of_part _ i.1 (l_digit f i.0) (digit_end i.0 ∙ sym (settles_digit p.spot p.row p.used p.sign n q w))
ends_by nt marks.Slash f p q b i h w = mark_at f (line_seen_step f 47) b 47 is_end_of_part _ i refl (sym (settles_slash p.spot p.row p.used p.sign q w))
ends_by nt m f p q b i h w = not_going _ q w

pub digits_by : (nt : Notation) → (m : Mark) (f : LineSeen) (p q : PartReader) (b : ℕ) → IsMark nt b m → is_digit f.mark ≡ settles p.spot → ((a : Axis) → m ≡ marks.Letter a → ⊥) → part_step m p ≡ going q → is_digit (line_seen_step f b).mark ≡ settles q.spot
digits_by nt marks.Blank f p q b i h n w = mark_at f _ b _ is_digit _ i.1 (l_blank f i.0) (h ∙ sym (settles_blank p.spot p.row p.used p.sign q w))
digits_by nt (marks.Signs s) f p q b i h n w = mark_at f _ b _ is_digit _ i (l_sign f s) (sign_no_digit s ∙ sym (settles_sign p.spot p.row p.used p.sign s q w))
digits_by nt (marks.Letter a) f p q b i h n w = absurd (n a refl)
digits_by nt (marks.Digit k) f p q b i h n w = mark_at f _ b _ is_digit _ i.1 (l_digit f i.0) (digit_true i.0 ∙ sym (settles_digit p.spot p.row p.used p.sign k q w))
digits_by nt marks.Slash f p q b i h n w = mark_at f (line_seen_step f 47) b 47 is_digit _ i refl (sym (settles_slash p.spot p.row p.used p.sign q w))
digits_by nt m f p q b i h n w = not_going _ q w
