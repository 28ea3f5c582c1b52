-- The table of kinds of a line, over what the reader knows.
use Rattle.std.proofs.Common.{◌≡◌, ◌≢◌, ℕ, ◌≤◌, Bool, true, false, Option, Some, None, refl, sym, ◌∙◌, ap, subst, arith, inl, inr, ◌⊎◌}
use Rattle.std.specs.Prelude.{IsTrue}
use Rattle.triplets.specs.declared.notation.Notation.{Notation}
use Rattle.triplets.specs.declared.notation.Notation.TheVariants.{Triplets, Pairs}
use Rattle.triplets.specs.declared.marks.Axis.{Axis}
use Rattle.motions.specs.declared.motion.Sign.{Sign}
use Rattle.triplets.specs.declared.part.Used.{Used}
use Rattle.triplets.specs.declared.fault.TextKind.{TextKind}
use Rattle.triplets.specs.declared.fault.TextKind.TheVariants as kinds
use Rattle.triplets.specs.declared.marks.Mark.{Mark}
use Rattle.triplets.specs.declared.marks.Mark.TheVariants as marks
use Rattle.triplets.specs.declared.part.Row as rows
use Rattle.triplets.specs.declared.part.PartReader.{PartReader}
use Rattle.triplets.specs.declared.part.Spot.{Spot}
use Rattle.triplets.specs.declared.part.Spot.TheVariants.{Begin, Digits, Below, Behind}
use Rattle.triplets.specs.declared.triplet.Nth.{Nth}
use Rattle.triplets.specs.Marks.{has_axis, mark}
use Rattle.triplets.specs.PartReading.{settled}
use Rattle.triplets.specs.TripletReading.{early_comma}
use Rattle.triplets.specs.Faults.{is_digit, is_letter, TableRow, IsLetter}
use Rattle.triplets.specs.LineFaults.{commas_within, is_end_of_part}
use Rattle.triplets.proofs.Seen.{Seen, SpotAgrees, at}
use Rattle.triplets.proofs.KindFacts.{after_comma}
use Rattle.triplets.proofs.KindTable.{KindOf, silent, unknown, apart}
use Rattle.triplets.proofs.LineSeen.{LineSeen, SameMark}
use Rattle.triplets.proofs.PartEnds.{settles}
use Rattle.triplets.proofs.LineAgrees.{index, PartKnown}
use Rattle.triplets.proofs.Runs.{follows}
use Rattle.triplets.specs.Bytes.{comma}

abbrev pub Suffix : (nt : Notation) → (o c : ℕ) → (Axis → Bool) → ℕ → TextKind → Type 0
Suffix nt o c S b k =
    TableRow ((a : Axis) × IsTrue (is_letter a b) × (has_axis nt a ≡ true) × IsTrue (S a)) kinds.Repeated k (
    TableRow (IsLetter nt b × (1 ≤ c)) kinds.Coefficient k (
    TableRow (IsTrue (is_digit b) × (o ≡ 47)) kinds.Denominator k (
    TableRow (IsTrue (is_digit b) × (3 ≤ c)) kinds.Coefficient k (
    k ≡ kinds.UnknownSign))))

abbrev pub Fresh : ℕ → ℕ → Type 0
Fresh m n = (m ≡ 44) ⊎ ((m ≡ 40) ⊎ ((m ≡ 41) × (n ≡ 0)))

abbrev pub LineKindOf : (nt : Notation) → LineSeen → (Axis → Bool) → ℕ → TextKind → Type 0
LineKindOf nt f S b k =
    TableRow (b ≡ 35) kinds.MissingPart k (
    TableRow ((b ≡ 41) × (f.bracket ≡ 40) × IsTrue (is_digit f.mark)) kinds.MissingPart k (
    TableRow ((b ≡ 44) × (commas_within nt ≤ f.commas) × IsTrue (is_end_of_part f.mark)) kinds.ExtraPart k (
    TableRow ((b ≡ 44) × Fresh f.mark f.commas) kinds.Empty k (
    Suffix nt f.other f.count S b k))))

pub suffix_of : (nt : Notation) → (m o c : ℕ) (S : Axis → Bool) (G : Type 0) (b : ℕ) (k : TextKind) → b ≢ 35 → b ≢ 44 → KindOf nt m o c S G b k → Suffix nt o c S b k
suffix_of nt m o c S G b k n35 n44 (inl h) = absurd (n35 h.0.0)
suffix_of nt m o c S G b k n35 n44 (inr (x, inl h)) = absurd (n44 h.0.0)
suffix_of nt m o c S G b k n35 n44 (inr (x, inr (y, inl h))) = absurd (n44 h.0.0)
suffix_of nt m o c S G b k n35 n44 (inr (x, inr (y, inr (z, s)))) = s

pub front : (nt : Notation) → (f : LineSeen) (S : Axis → Bool) (b : ℕ) (k : TextKind) → b ≢ 35 → ((b ≡ 41) × (f.bracket ≡ 40) × IsTrue (is_digit f.mark) → ⊥) → b ≢ 44 → Suffix nt f.other f.count S b k → LineKindOf nt f S b k
front nt f S b k n35 n41 n44 s = inr (n35, inr (n41, inr ((λ e. n44 e.0), inr ((λ e. n44 e.0), s))))

abbrev pub tame : Mark → Bool
tame marks.Comma = false
tame marks.Hash = false
tame _ = true

pub tame_at : (nt : Notation) → (b c : ℕ) → b ≡ c → tame (mark nt b) ≡ true → tame (mark nt c) ≡ true
tame_at nt b c e h = subst (λ x. tame (mark nt x) ≡ true) e h

pub tame35 : (nt : Notation) → (b : ℕ) → tame (mark nt b) ≡ true → b ≢ 35
tame35 nt b h e = apart _ (tame_at nt b 35 e h) refl

pub tame44 : (nt : Notation) → (b : ℕ) → tame (mark nt b) ≡ true → b ≢ 44
tame44 nt b h e = apart _ (tame_at nt b 44 e h) refl

abbrev pub NoRow2 : LineSeen → ℕ → Type 0
NoRow2 f b = (b ≡ 41) × (f.bracket ≡ 40) × IsTrue (is_digit f.mark) → ⊥

-- a byte that says nothing
pub silent_kind : (nt : Notation) → (f : LineSeen) (S : Axis → Bool) (b : ℕ) (m : Mark) (k : TextKind) → mark nt b ≡ m → silent m ≡ true → tame m ≡ true → NoRow2 f b → k ≡ kinds.UnknownSign → LineKindOf nt f S b k
silent_kind nt f S b m k e s t n h =
    let tb : tame (mark nt b) ≡ true = ap tame e ∙ t in
    let sb : silent (mark nt b) ≡ true = ap silent e ∙ s in
    subst (LineKindOf nt f S b) (sym h) (front nt f S b kinds.UnknownSign (tame35 nt b tb) n (tame44 nt b tb)
    (suffix_of nt f.mark f.other f.count S ⊥ b kinds.UnknownSign (tame35 nt b tb) (tame44 nt b tb) (unknown nt f.mark f.other f.count S ⊥ b sb)))

-- ---- a comma

pub settles_none : (spot : Spot) (r : rows.Row) (u : Used) (g : Sign) → (let o : Option PartReader = None in settled (at r u g spot) ≡ o) → settles spot ≡ false
settles_none (Digits n v) r u g e = absurd cc
settles_none (Below v d) r u g e = absurd cc
settles_none Behind r u g e = absurd cc
settles_none spot r u g e = refl

abbrev pub a_part : PartReader → Option PartReader
a_part p = Some p

pub settles_some : (spot : Spot) (r : rows.Row) (u : Used) (g : Sign) (p : PartReader) → settled (at r u g spot) ≡ a_part p → settles spot ≡ true
settles_some (Digits n v) r u g p e = refl
settles_some (Below v d) r u g p e = refl
settles_some Behind r u g p e = refl
settles_some spot r u g p e = absurd cc

pub is_fresh : (m c n : ℕ) → SameMark m c n → n ≡ 44 → Fresh m c
is_fresh m c n (inl h) e = inl (h.0 ∙ e)
is_fresh m c n (inr h) e = inr h.1

pub not_fresh : (m c n : ℕ) → SameMark m c n → n ≢ 44 → Fresh m c → ⊥
not_fresh m c n (inl h) e (inl x) = e (sym h.0 ∙ x)
not_fresh m c n (inl h) e (inr (inl x)) = h.1 x
not_fresh m c n (inl h) e (inr (inr x)) = h.2 x.0
not_fresh m c n (inr h) e x = e h.0

pub early_rest : (nt : Notation) → (spot : Spot) (g : Seen) (f : LineSeen) (S : Axis → Bool) → SpotAgrees spot g → SameMark f.mark f.commas g.mark →
    TableRow ((comma ≡ 44) × Fresh f.mark f.commas) kinds.Empty (early_comma spot) (Suffix nt f.other f.count S 44 (early_comma spot))
early_rest nt Begin g f S h m = inl ((refl, is_fresh _ _ _ m h.0), refl)
early_rest nt spot g f S h m = inr ((λ e. not_fresh _ _ _ m h.0 e.1), after_comma nt S f.other f.count)

pub early_kind : (nt : Notation) → (f : LineSeen) (p : PartReader) (n : Nth) (S : Axis → Bool) → PartKnown f p n → settles p.spot ≡ false → LineKindOf nt f S 44 (early_comma p.spot)
early_kind nt f p n S k e =
    inr ((λ x. absurd (omega arith)), inr ((λ x. absurd (omega (arith, x.0))), inr ((λ x. apart _ x.2 (k.end ∙ e)), early_rest nt p.spot k.core f S k.agrees.spot k.follows.mark)))

pub extra_kind : (nt : Notation) → (f : LineSeen) (p : PartReader) (n : Nth) (S : Axis → Bool) → PartKnown f p n → commas_within nt ≤ index n → settles p.spot ≡ true → LineKindOf nt f S 44 kinds.ExtraPart
extra_kind nt f p n S k c e = inr ((λ x. absurd (omega arith)), inr ((λ x. absurd (omega (arith, x.0))), inl ((refl, omega (arith, k.commas, c), k.end ∙ e), refl)))

-- the third part is behind all commas
pub all_commas : (nt : Notation) → commas_within nt ≤ 2
all_commas Triplets = omega arith
all_commas Pairs = omega arith
