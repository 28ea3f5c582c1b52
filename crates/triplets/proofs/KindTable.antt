-- The table of kinds, over what stands before.
use Rattle.std.proofs.Common.{◌≡◌, ℕ, ◌≤◌, Bool, true, false, cond, List, Option, Some, None, refl, sym, ◌∙◌, ap, subst, arith, inl, inr, ◌⊎◌}
use Rattle.std.specs.Prelude.{IsTrue, nat_le, ◌==◌, ◌||◌}
use Rattle.std.proofs.lemmas.Bool.Decides.{nat_tests, eqb_tells}
use Rattle.triplets.specs.declared.notation.Notation.{Notation}
use Rattle.triplets.specs.declared.marks.Axis.{Axis}
use Rattle.triplets.specs.declared.marks.Axis.TheVariants.{X, Y, Z}
use Rattle.motions.specs.declared.motion.Sign.{Sign}
use Rattle.triplets.specs.declared.part.Used.{Used}
use Rattle.triplets.specs.declared.fault.TextKind.{TextKind}
use Rattle.triplets.specs.declared.fault.TextKind.TheVariants as kinds
use Rattle.triplets.specs.declared.marks.Mark.{Mark}
use Rattle.triplets.specs.declared.marks.Mark.TheVariants as marks
use Rattle.triplets.specs.declared.part.Row as rows
use Rattle.triplets.specs.declared.part.PartReader.{PartReader}
use Rattle.triplets.specs.declared.part.Spot.{Spot}
use Rattle.triplets.specs.declared.part.Spot.TheVariants.{Begin, Signed, Digits, Divided, Below, Behind}
use Rattle.triplets.specs.Marks.{has_axis, mark}
use Rattle.triplets.specs.Rows.{uses}
use Rattle.triplets.specs.PartReading.{on_blank, on_sign, on_digit, on_slash, on_new_letter_at, below_or}
use Rattle.triplets.specs.Grammar.{letter_byte, Digit, digit_value}
use Rattle.triplets.specs.Faults.{IsGood, is_digit, is_letter, last_mark, last_other, digits_at_end, stands, TableRow, IsLetter, HasKind}
use Rattle.triplets.proofs.Bytes.{mark_letter, mark_digit}
use Rattle.triplets.proofs.Seen.{Seen, digit_true, digit_not_letter, SpotAgrees, letter_bounds, at}
use Rattle.triplets.proofs.Runs.{going, stopped, stopped_is, not_stopped}

abbrev pub KindOf : (nt : Notation) → (m o c : ℕ) → (Axis → Bool) → Type 0 → ℕ → TextKind → Type 0
KindOf nt m o c S G b kind =
    TableRow ((b ≡ 35) × ¬ G) kinds.MissingPart kind (
    TableRow ((b ≡ 44) × G) kinds.ExtraPart kind (
    TableRow ((b ≡ 44) × (m ≡ 44)) kinds.Empty kind (
    TableRow ((a : Axis) × IsTrue (is_letter a b) × (has_axis nt a ≡ true) × IsTrue (S a)) kinds.Repeated kind (
    TableRow (IsLetter nt b × (1 ≤ c)) kinds.Coefficient kind (
    TableRow (IsTrue (is_digit b) × (o ≡ 47)) kinds.Denominator kind (
    TableRow (IsTrue (is_digit b) × (3 ≤ c)) kinds.Coefficient kind (
    kind ≡ kinds.UnknownSign)))))))

pub table_is : (nt : Notation) → (before : List ℕ) (b : ℕ) (k : TextKind) → KindOf nt (last_mark 44 before) (last_other 0 before) (digits_at_end 0 before) (λ a. stands a false before) (IsGood nt before) b k → HasKind nt before b k
table_is nt before b k h = h

-- which byte it is

pub two_cases : (b m n : ℕ) → (b == m || b == n) ≡ true → (b ≡ m) ⊎ (b ≡ n)
two_cases b m n h =
    elim (eqb_tells b m) [
      | inl e ↦ inl e.1
      | inr e ↦ elim (eqb_tells b n) [
        | inl f ↦ inr f.1
        | inr f ↦ absurd (let z : false ≡ true = rw (e.0, f.0) at h in cc)
      ]
    ]

pub letter_cases : (a : Axis) (b : ℕ) → IsTrue (is_letter a b) → (c : Bool) × (b ≡ letter_byte a c)
letter_cases X b h = elim (two_cases b 120 88 h) [ inl e ↦ (false, e) | inr e ↦ (true, e) ]
letter_cases Y b h = elim (two_cases b 121 89 h) [ inl e ↦ (false, e) | inr e ↦ (true, e) ]
letter_cases Z b h = elim (two_cases b 122 90 h) [ inl e ↦ (false, e) | inr e ↦ (true, e) ]

pub letter_self : (a : Axis) (c : Bool) → IsTrue (is_letter a (letter_byte a c))
letter_self X false = refl
letter_self X true = refl
letter_self Y false = refl
letter_self Y true = refl
letter_self Z false = refl
letter_self Z true = refl

-- a byte is one letter
pub letter_one : (a x : Axis) (c : Bool) → IsTrue (is_letter x (letter_byte a c)) → x ≡ a
letter_one X X c h = refl
letter_one Y Y c h = refl
letter_one Z Z c h = refl
letter_one X Y false h = absurd cc
letter_one X Y true h = absurd cc
letter_one X Z false h = absurd cc
letter_one X Z true h = absurd cc
letter_one Y X false h = absurd cc
letter_one Y X true h = absurd cc
letter_one Y Z false h = absurd cc
letter_one Y Z true h = absurd cc
letter_one Z X false h = absurd cc
letter_one Z X true h = absurd cc
letter_one Z Y false h = absurd cc
letter_one Z Y true h = absurd cc

pub digit_of : (b : ℕ) → IsTrue (is_digit b) → (d : Digit) × (b ≡ d.byte)
digit_of b h = (record { byte = b; low = grind (arith, nat_tests); high = grind (arith, nat_tests) }, refl)

-- a byte that is no letter, no digit, no comma and no #
abbrev pub silent : Mark → Bool
silent marks.Blank = true
silent (marks.Signs s) = true
silent (marks.Letter a) = false
silent (marks.Digit n) = false
silent marks.Slash = true
silent marks.Comma = false
silent marks.Hash = false
silent marks.Open = true
silent marks.Close = true
silent marks.Other = true

pub apart : (b : Bool) {A : Type 0} → b ≡ true → b ≡ false → A
apart b h e = let z : false ≡ true = sym e ∙ h in absurd cc

pub silent_at : (nt : Notation) → (b c : ℕ) → b ≡ c → silent (mark nt b) ≡ true → silent (mark nt c) ≡ true
silent_at nt b c e h = subst (λ x. silent (mark nt x) ≡ true) e h

pub no_letter : (nt : Notation) → (b : ℕ) → silent (mark nt b) ≡ true → (a : Axis) → IsTrue (is_letter a b) → has_axis nt a ≡ true → ⊥
no_letter nt b h a l axis = let k = letter_cases a b l in apart _ (silent_at nt b _ k.1 h) (ap silent (mark_letter nt a k.0 axis))

pub no_digit : (nt : Notation) → (b : ℕ) → silent (mark nt b) ≡ true → IsTrue (is_digit b) → ⊥
no_digit nt b h l = let k = digit_of b l in apart _ (silent_at nt b _ k.1 h) (ap silent (mark_digit nt k.0))

pub unknown : (nt : Notation) → (m o c : ℕ) (S : Axis → Bool) (G : Type 0) (b : ℕ) → silent (mark nt b) ≡ true → KindOf nt m o c S G b kinds.UnknownSign
unknown nt m o c S G b h =
    inr (
      λ e. apart _ (silent_at nt b 35 e.0 h) refl,
      inr (
        λ e. apart _ (silent_at nt b 44 e.0 h) refl,
        inr (
          λ e. apart _ (silent_at nt b 44 e.0 h) refl,
          inr (
            λ e. no_letter nt b h e.0 e.1 e.2,
            inr (
              λ e. no_letter nt b h e.0.0 e.0.1 e.0.2,
              inr (
                λ e. no_digit nt b h e.0,
                inr (λ e. no_digit nt b h e.0, refl),
              ),
            ),
          ),
        ),
      ),
    )

pub unmet : (b : Bool) (p : PartReader) (k l : TextKind) → cond b (going p) (stopped k) ≡ stopped l → l ≡ k
unmet true p k l e = absurd cc
unmet false p k l e = cc

pub not_passed : (b : Bool) (p : PartReader) (k l : TextKind) → cond b (stopped k) (going p) ≡ stopped l → (b ≡ true) × (l ≡ k)
not_passed true p k l e = (refl, cc)
not_passed false p k l e = absurd cc

pub below_err : (v : ℕ) (o : Option ℕ) (p : PartReader) (k : TextKind) → below_or v o p ≡ stopped k → k ≡ kinds.Denominator
below_err v None p k e = cc
below_err v (Some d) p k e = absurd cc

-- at a letter that does not stand in the part
pub new_letter_fault : (nt : Notation) → (spot : Spot) (r : rows.Row) (u : Used) (g : Sign) (f : Seen) (a : Axis) (c : Bool) (k : TextKind) → has_axis nt a ≡ true → SpotAgrees spot f → on_new_letter_at a spot (at r u g spot) ≡ stopped k →
    TableRow (IsLetter nt (letter_byte a c) × (1 ≤ f.count)) kinds.Coefficient k (
    TableRow (IsTrue (is_digit (letter_byte a c)) × (f.other ≡ 47)) kinds.Denominator k (
    TableRow (IsTrue (is_digit (letter_byte a c)) × (3 ≤ f.count)) kinds.Coefficient k (
    k ≡ kinds.UnknownSign)))
new_letter_fault nt Begin r u g f a c k axis h w = not_stopped _ k w
new_letter_fault nt Signed r u g f a c k axis h w = not_stopped _ k w
new_letter_fault nt (Digits n v) r u g f a c k axis h w = inl (((a, letter_self a c, axis), omega (arith, h.1, h.3)), unmet _ _ _ k w)
new_letter_fault nt (Below v d) r u g f a c k axis h w = inl (((a, letter_self a c, axis), h.1), stopped_is _ k w)
new_letter_fault nt spot r u g f a c k axis h w =
    inr (λ e. omega (arith, e.1, h.1), inr (λ e. apart _ e.0 (letter_bounds a c).3, inr (λ e. apart _ e.0 (letter_bounds a c).3, stopped_is _ k w)))

pub letter_fault_by : (nt : Notation) → (t : Bool) (spot : Spot) (r : rows.Row) (u : Used) (g : Sign) (f : Seen) (S : Axis → Bool) (G : Type 0) (a : Axis) (c : Bool) (k : TextKind) → has_axis nt a ≡ true → ((x : Axis) → S x ≡ uses x u) → SpotAgrees spot f →
    uses a u ≡ t → cond t (stopped kinds.Repeated) (on_new_letter_at a spot (at r u g spot)) ≡ stopped k → KindOf nt f.mark f.other f.count S G (letter_byte a c) k
letter_fault_by nt true spot r u g f S G a c k axis s h t w =
    inr (
      λ e. (letter_bounds a c).2 e.0,
      inr (
        λ e. (letter_bounds a c).0 e.0,
        inr (
          λ e. (letter_bounds a c).0 e.0,
          inl ((a, letter_self a c, axis, s a ∙ t), stopped_is _ k w),
        ),
      ),
    )
letter_fault_by nt false spot r u g f S G a c k axis s h t w =
    inr (
      λ e. (letter_bounds a c).2 e.0,
      inr (
        λ e. (letter_bounds a c).0 e.0,
        inr (
          λ e. (letter_bounds a c).0 e.0,
          inr (
            λ e. apart _ (subst (λ x. S x ≡ true) (letter_one a e.0 c e.1) e.3) (s a ∙ t),
            new_letter_fault nt spot r u g f a c k axis h w,
          ),
        ),
      ),
    )

pub three_of : (n c : ℕ) → nat_le 3 n ≡ true → c ≡ n → 3 ≤ c
three_of n c h e = grind (arith, nat_tests)

-- at a digit
pub digit_fault : (nt : Notation) → (spot : Spot) (r : rows.Row) (u : Used) (g : Sign) (f : Seen) (S : Axis → Bool) (G : Type 0) (d : Digit) (k : TextKind) → SpotAgrees spot f → on_digit (digit_value d) (at r u g spot) ≡ stopped k →
    KindOf nt f.mark f.other f.count S G d.byte k
digit_fault nt spot r u g f S G d k h w =
    inr (
      λ e. omega (arith, e.0, d.low),
      inr (
        λ e. omega (arith, e.0, d.low),
        inr (
          λ e. omega (arith, e.0, d.low),
          inr (
            λ e. apart _ e.1 (digit_not_letter e.0 d),
            inr (
              λ e. apart _ e.0.1 (digit_not_letter e.0.0 d),
              digit_rows spot r u g f d k h w,
            ),
          ),
        ),
      ),
    )
  where
    digit_rows : (spot : Spot) (r : rows.Row) (u : Used) (g : Sign) (f : Seen) (d : Digit) (k : TextKind) → SpotAgrees spot f → on_digit (digit_value d) (at r u g spot) ≡ stopped k →
        TableRow (IsTrue (is_digit d.byte) × (f.other ≡ 47)) kinds.Denominator k (
        TableRow (IsTrue (is_digit d.byte) × (3 ≤ f.count)) kinds.Coefficient k (
        k ≡ kinds.UnknownSign))
    digit_rows Begin r u g f d k h w = not_stopped _ k w
    digit_rows Signed r u g f d k h w = not_stopped _ k w
    digit_rows (Digits n v) r u g f d k h w =
        let p = not_passed _ _ _ k w in
        inr (λ e. h.2 e.1, inl ((digit_true d, three_of n f.count p.0 h.1), p.1))
    digit_rows (Divided v) r u g f d k h w = inl ((digit_true d, h.2), below_err _ _ _ k w)
    digit_rows (Below v t) r u g f d k h w = inl ((digit_true d, h.2), below_err _ _ _ k w)
    digit_rows Behind r u g f d k h w = inr (λ e. h.2 e.1, inr (λ e. omega (arith, e.1, h.1), stopped_is _ k w))

-- a blank, a sign or a slash is no fault of another kind
pub blank_fault : (spot : Spot) (r : rows.Row) (u : Used) (g : Sign) (k : TextKind) → on_blank (at r u g spot) ≡ stopped k → k ≡ kinds.UnknownSign
blank_fault (Divided v) r u g k w = stopped_is _ k w
blank_fault spot r u g k w = not_stopped _ k w

pub sign_fault : (spot : Spot) (r : rows.Row) (u : Used) (g s : Sign) (k : TextKind) → on_sign s (at r u g spot) ≡ stopped k → k ≡ kinds.UnknownSign
sign_fault Signed r u g s k w = stopped_is _ k w
sign_fault (Divided v) r u g s k w = stopped_is _ k w
sign_fault spot r u g s k w = not_stopped _ k w

pub slash_fault : (spot : Spot) (r : rows.Row) (u : Used) (g : Sign) (k : TextKind) → on_slash (at r u g spot) ≡ stopped k → k ≡ kinds.UnknownSign
slash_fault (Digits n v) r u g k w = not_stopped _ k w
slash_fault spot r u g k w = stopped_is _ k w
