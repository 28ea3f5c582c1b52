-- The kind of a fault of a triplet.
use Rattle.std.proofs.Common.{◌≡◌, ◌≢◌, ℕ, ◌≤◌, Bool, true, false, List, Option, Some, None, Result, Ok, Err, refl, sym, ◌∙◌, ap, subst, arith, inl, inr}
use Rattle.std.specs.Prelude.{IsTrue}
use Rattle.triplets.specs.declared.notation.Notation.{Notation}
use Rattle.triplets.specs.declared.marks.Axis.{Axis}
use Rattle.triplets.specs.declared.marks.Axis.TheVariants.{X}
use Rattle.triplets.specs.declared.fault.TextKind.{TextKind}
use Rattle.triplets.specs.declared.fault.TextKind.TheVariants as kinds
use Rattle.triplets.specs.declared.marks.Mark.{Mark}
use Rattle.triplets.specs.declared.marks.Mark.TheVariants as marks
use Rattle.triplets.specs.declared.part.PartReader.{PartReader}
use Rattle.triplets.specs.declared.part.Spot.{Spot}
use Rattle.triplets.specs.declared.part.Spot.TheVariants.{Begin}
use Rattle.triplets.specs.declared.triplet.Nth.{Nth}
use Rattle.triplets.specs.declared.triplet.Nth.TheVariants.{First, Second, Third}
use Rattle.motions.specs.declared.motion.Motion3.{Motion3}
use Rattle.motions.specs.Views.{motion_of}
use Rattle.triplets.specs.declared.triplet.TripletReader.{TripletReader}
use Rattle.triplets.specs.Marks.{has_axis, mark}
use Rattle.triplets.specs.declared.notation.Notation.TheVariants.{Triplets, Pairs}
use Rattle.triplets.specs.Rows.{uses, axis_row, motion3_with}
use Rattle.triplets.specs.PartReading.{settled, on_digit}
use Rattle.triplets.specs.TripletReading.{start, in_part, next_part, comma_at, early_comma, hash_kind, value_at, value, step, run}
use Rattle.triplets.specs.Faults.{IsGood, is_digit, is_letter, stands, TableRow, IsLetter, HasKind}
use Rattle.triplets.proofs.Bytes.{IsMark, mark_is}
use Rattle.triplets.proofs.Wholes.{found, is_triplet, is_read}
use Rattle.triplets.proofs.Seen.{Seen, nothing_seen, seen, SpotAgrees, Agrees, agrees}
use Rattle.triplets.proofs.KindTable.{KindOf, table_is, silent, apart, unknown, letter_fault_by, digit_fault, blank_fault, sign_fault, slash_fault}
use Rattle.triplets.proofs.Runs.{going, stopped, going_is, stopped_is}

pub part_stops : (r : Result PartReader TextKind) (s : TripletReader) (k : TextKind) → in_part s r ≡ stopped k → r ≡ stopped k
part_stops (Ok p) s k e = absurd cc
part_stops (Err l) s k e = ap stopped (sym (stopped_is _ k e))

abbrev pub no_triplet : Option Motion3
no_triplet = None

-- where the triplet is not whole, it is none
pub not_good : (nt : Notation) → (before : List ℕ) (s : TripletReader) → run nt (Ok start) before ≡ going s → value nt s ≡ no_triplet → IsGood nt before → ⊥
not_good nt before s w v h =
    let r = is_read nt before h.0 h.1 in
    let e : s ≡ r.last = going_is _ s (sym r.run_is ∙ w) in
    let z : found r.motion ≡ no_triplet = sym r.value_is ∙ (ap (value nt) (sym e) ∙ v) in
    cc

abbrev pub Tabled : (nt : Notation) → Seen → (Axis → Bool) → Type 0 → ℕ → TextKind → Type 0
Tabled nt f S G b k = KindOf nt f.mark f.other f.count S G b k

pub silent_fault : (nt : Notation) → (f : Seen) (S : Axis → Bool) (G : Type 0) (b : ℕ) (m : Mark) (k : TextKind) → mark nt b ≡ m → silent m ≡ true → k ≡ kinds.UnknownSign → Tabled nt f S G b k
silent_fault nt f S G b m k e h w = subst (λ x. Tabled nt f S G b x) (sym w) (unknown nt f.mark f.other f.count S G b (ap silent e ∙ h))

pub no_letter_44 : (a : Axis) → is_letter a 44 ≡ false
no_letter_44 X = refl
no_letter_44 a = refl

pub no_letter_35 : (a : Axis) → is_letter a 35 ≡ false
no_letter_35 X = refl
no_letter_35 a = refl

abbrev pub Whole : (nt : Notation) → TripletReader → Type 0 → Type 0
Whole nt s G = ((t : Motion3) → value nt s ≡ found t → G) × (value nt s ≡ no_triplet → G → ⊥)

-- the comma where the part is not whole
pub after_comma : (nt : Notation) → (S : Axis → Bool) (o c : ℕ) →
    TableRow ((a : Axis) × IsTrue (is_letter a 44) × (has_axis nt a ≡ true) × IsTrue (S a)) kinds.Repeated kinds.UnknownSign (
    TableRow (IsLetter nt 44 × (1 ≤ c)) kinds.Coefficient kinds.UnknownSign (
    TableRow (IsTrue (is_digit 44) × (o ≡ 47)) kinds.Denominator kinds.UnknownSign (
    TableRow (IsTrue (is_digit 44) × (3 ≤ c)) kinds.Coefficient kinds.UnknownSign (
    kinds.UnknownSign ≡ kinds.UnknownSign))))
after_comma nt S o c =
    inr (
      λ e. apart _ e.1 (no_letter_44 e.0),
      inr (
        λ e. apart _ e.0.1 (no_letter_44 e.0.0),
        inr (
          λ e. apart _ e.0 refl,
          inr (λ e. apart _ e.0 refl, refl),
        ),
      ),
    )

pub early_unknown : (nt : Notation) → (f : Seen) (S : Axis → Bool) (G : Type 0) → f.mark ≢ 44 → (G → ⊥) → Tabled nt f S G 44 kinds.UnknownSign
early_unknown nt f S G m g = inr (λ e. absurd (omega (arith, e.0)), inr (λ e. g e.1, inr (λ e. m e.1, after_comma nt S f.other f.count)))

pub early_fault : (nt : Notation) → (spot : Spot) (f : Seen) (S : Axis → Bool) (G : Type 0) → SpotAgrees spot f → (G → ⊥) → Tabled nt f S G 44 (early_comma spot)
early_fault nt Begin f S G h g = inr (λ e. absurd (omega (arith, e.0)), inr (λ e. g e.1, inl ((refl, h.0), refl)))
early_fault nt spot f S G h g = early_unknown nt f S G h.0 g

pub value_none : (nt : Notation) → (n : Nth) (s : TripletReader) → value_at nt n None s ≡ no_triplet
value_none nt First s = refl
value_none nt n s = refl

-- a comma stands behind no part that the notation has not
abbrev pub IsCounted : Notation → Nth → Mark → Type 0
IsCounted Triplets n m = Unit {0}
IsCounted Pairs Third marks.Comma = ⊥
IsCounted Pairs _ _ = Unit {0}

pub counted : (nt : Notation) (n : Nth) (m : Mark) → nt ≡ Triplets → IsCounted nt n m
counted Triplets n m is = tt
counted Pairs n m is = absurd cc

-- a comma behind the last part
extra_fault : (nt : Notation) (s : TripletReader) (p : PartReader) (t : Motion3) (f : Seen) (S : Axis → Bool) (G : Type 0) (k : TextKind) → Whole nt s G → value nt s ≡ found t → k ≡ kinds.ExtraPart → Tabled nt f S G 44 k
extra_fault nt s p t f S G k g v z = inr (λ x. absurd (omega (arith, x.0)), inl ((refl, g.0 t v), z))

pub comma_fault : (nt : Notation) → (o : Option PartReader) (n : Nth) (s : TripletReader) (f : Seen) (S : Axis → Bool) (G : Type 0) (k : TextKind) → IsCounted nt n marks.Comma → Agrees s.part f → Whole nt s G → settled s.part ≡ o → s.nth ≡ n →
    comma_at nt o s ≡ stopped k → Tabled nt f S G 44 k
comma_fault nt None n s f S G k c h g e i w =
    let v : value nt s ≡ no_triplet = ap (λ (x : Option PartReader). value_at nt s.nth x s) e ∙ value_none nt s.nth s in
    subst (λ x. Tabled nt f S G 44 x) (sym (stopped_is _ k w)) (early_fault nt s.part.spot f S G h.spot (g.1 v))
comma_fault nt (Some p) First s f S G k c h g e i w = let z : next_part nt First s p.row ≡ stopped k = ap (λ n. next_part nt n s p.row) (sym i) ∙ w in absurd cc
comma_fault Triplets (Some p) Second s f S G k c h g e i w = let z : next_part Triplets Second s p.row ≡ stopped k = ap (λ n. next_part Triplets n s p.row) (sym i) ∙ w in absurd cc
comma_fault Pairs (Some p) Second s f S G k c h g e i w =
    let z : k ≡ kinds.ExtraPart = stopped_is _ k (ap (λ n. next_part Pairs n s p.row) (sym i) ∙ w) in
    extra_fault Pairs s p (motion3_with s.first p.row axis_row) f S G k g (ap (λ (x : Option PartReader). value_at Pairs s.nth x s) e ∙ ap (λ n. value_at Pairs n (Some p) s) i) z
comma_fault Triplets (Some p) Third s f S G k c h g e i w =
    let z : k ≡ kinds.ExtraPart = stopped_is _ k (ap (λ n. next_part Triplets n s p.row) (sym i) ∙ w) in
    extra_fault Triplets s p (motion3_with s.first s.second p.row) f S G k g (ap (λ (x : Option PartReader). value_at Triplets s.nth x s) e ∙ ap (λ n. value_at Triplets n (Some p) s) i) z
comma_fault Pairs (Some p) Third s f S G k c h g e i w = absurd c

pub hash_unknown : (nt : Notation) → (f : Seen) (S : Axis → Bool) (G : Type 0) → G → Tabled nt f S G 35 kinds.UnknownSign
hash_unknown nt f S G g =
    inr (
      λ e. e.1 g,
      inr (
        λ e. absurd (omega (arith, e.0)),
        inr (
          λ e. absurd (omega (arith, e.0)),
          inr (
            λ e. apart _ e.1 (no_letter_35 e.0),
            inr (
              λ e. apart _ e.0.1 (no_letter_35 e.0.0),
              inr (
                λ e. apart _ e.0 refl,
                inr (λ e. apart _ e.0 refl, refl),
              ),
            ),
          ),
        ),
      ),
    )

pub hash_fault : (nt : Notation) → (v : Option Motion3) (s : TripletReader) (f : Seen) (S : Axis → Bool) (G : Type 0) (k : TextKind) → Whole nt s G → value nt s ≡ v → k ≡ hash_kind v → Tabled nt f S G 35 k
hash_fault nt None s f S G k g e w = inl ((refl, g.1 e), w)
hash_fault nt (Some t) s f S G k g e w = subst (λ x. Tabled nt f S G 35 x) (sym w) (hash_unknown nt f S G (g.0 t e))

pub fault_by : (nt : Notation) → (m : Mark) (s : TripletReader) (f : Seen) (S : Axis → Bool) (G : Type 0) (b : ℕ) (k : TextKind) → mark nt b ≡ m → IsMark nt b m → IsCounted nt s.nth m → ((x : Axis) → S x ≡ uses x s.part.used) → Agrees s.part f → Whole nt s G →
    step nt m s ≡ stopped k → Tabled nt f S G b k
fault_by nt marks.Blank s f S G b k e i n u h g w = silent_fault nt f S G b _ k e refl (blank_fault s.part.spot s.part.row s.part.used s.part.sign k (part_stops _ s k w))
fault_by nt (marks.Signs t) s f S G b k e i n u h g w = silent_fault nt f S G b _ k e refl (sign_fault s.part.spot s.part.row s.part.used s.part.sign t k (part_stops _ s k w))
fault_by nt (marks.Letter a) s f S G b k e i n u h g w =
    subst (λ x. Tabled nt f S G x k) (sym i.1) (letter_fault_by nt (uses a s.part.used) s.part.spot s.part.row s.part.used s.part.sign f S G a i.0 k i.2 u h.spot refl (part_stops _ s k w))
fault_by nt (marks.Digit d) s f S G b k e i n u h g w =
    subst (λ x. Tabled nt f S G x k) (sym i.1) (digit_fault nt s.part.spot s.part.row s.part.used s.part.sign f S G i.0 k h.spot (subst (λ x. on_digit x s.part ≡ stopped k) i.2 (part_stops _ s k w)))
fault_by nt marks.Slash s f S G b k e i n u h g w = silent_fault nt f S G b _ k e refl (slash_fault s.part.spot s.part.row s.part.used s.part.sign k (part_stops _ s k w))
fault_by nt marks.Comma s f S G b k e i n u h g w = subst (λ x. Tabled nt f S G x k) (sym i) (comma_fault nt (settled s.part) s.nth s f S G k n h g refl refl w)
fault_by nt marks.Hash s f S G b k e i n u h g w = subst (λ x. Tabled nt f S G x k) (sym i) (hash_fault nt (value nt s) s f S G k g refl (stopped_is _ k w))
fault_by nt m s f S G b k e i n u h g w = silent_fault nt f S G b _ k e refl (stopped_is _ k (part_stops _ s k w))

pub stands_used : (bs : List ℕ) (x : Axis) → stands x false bs ≡ uses x (seen nothing_seen bs).used
stands_used bs X = refl
stands_used bs x = refl

-- the kind is the table's
pub fault_kind : (nt : Notation) → nt ≡ Triplets → (before : List ℕ) (b : ℕ) (s : TripletReader) (k : TextKind) → run nt (Ok start) before ≡ going s → step nt (mark nt b) s ≡ stopped k → HasKind nt before b k
fault_kind nt is before b s k w e =
    let h = agrees nt before s w in
    table_is nt before b k (fault_by nt (mark nt b) s (seen nothing_seen before) (λ a. stands a false before) (IsGood nt before) b k refl (mark_is nt b) (counted nt s.nth (mark nt b) is)
    (λ x. stands_used before x ∙ ap (uses x) h.used) h
    (λ t v. (motion_of t, is_triplet nt before s t w v), λ v. not_good nt before s w v) e)
