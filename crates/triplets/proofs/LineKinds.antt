-- The kind of a fault of a line.
use Rattle.std.proofs.Common.{◌≡◌, ◌≢◌, ℕ, ◌≤◌, Bool, true, false, cond, List, Option, Some, None, Result, Ok, Err, refl, sym, ◌∙◌, ap, subst, arith, inl, inr}
use Rattle.std.specs.Prelude.{IsTrue, ◌&&◌}
use Rattle.symmetry.specs.Vectors.{Vector}
use Rattle.triplets.specs.declared.notation.Notation.{Notation}
use Rattle.triplets.specs.declared.notation.Notation.TheVariants.{Triplets, Pairs}
use Rattle.triplets.specs.declared.marks.Axis.{Axis}
use Rattle.triplets.specs.declared.marks.Axis.TheVariants.{X, Y, Z}
use Rattle.motions.specs.declared.motion.Sign.{Sign}
use Rattle.motions.specs.declared.motion.Sign.TheVariants.{Plus, Minus}
use Rattle.triplets.specs.declared.fault.TextKind.{TextKind}
use Rattle.triplets.specs.declared.fault.TextKind.TheVariants as kinds
use Rattle.triplets.specs.declared.marks.Mark.{Mark}
use Rattle.triplets.specs.declared.marks.Mark.TheVariants as marks
use Rattle.triplets.specs.declared.part.PartReader.{PartReader}
use Rattle.triplets.specs.declared.part.Spot.{Spot}
use Rattle.triplets.specs.declared.part.Spot.TheVariants.{Begin, Signed, Digits, Below, Behind}
use Rattle.triplets.specs.declared.triplet.Nth.{Nth}
use Rattle.triplets.specs.declared.triplet.Nth.TheVariants.{First, Second, Third}
use Rattle.motions.specs.declared.motion.Motion3.{Motion3}
use Rattle.triplets.specs.declared.triplet.TripletReader.{TripletReader}
use Rattle.fractions.specs.declared.part.Part.{Part}
use Rattle.triplets.specs.declared.line.VectorReader.{VectorReader}
use Rattle.triplets.specs.declared.line.LinePlace.{LinePlace}
use Rattle.triplets.specs.declared.line.LinePlace.TheVariants as places
use Rattle.triplets.specs.Marks.{has_axis, mark}
use Rattle.triplets.specs.Rows.{unused, uses}
use Rattle.triplets.specs.PartReading.{settled, part_step, on_digit}
use Rattle.triplets.specs.TripletReading.{start, next_part, comma_at, value, step}
use Rattle.triplets.specs.Grammar.{Blank, space, blank_byte, sign_byte, letter_byte, Digit}
use Rattle.triplets.specs.LineReading.{in_operation, in_coordinate, next_coordinate, coordinate_comma, closed_at, is_digits, behind_number, coordinate_sign, vector_step, start_step, comment_behind, operation_step, closed_step, behind_step, place_step, completed, with_vector, LineState, line_start, at_place, line_step, line_run}
use Rattle.triplets.specs.Faults.{is_digit, TableRow, IsLetter}
use Rattle.triplets.specs.LineFaults.{line_stands, is_end_of_part, HasLineKind}
use Rattle.triplets.proofs.Bytes.{IsMark, mark_is}
use Rattle.triplets.proofs.Wholes.{found}
use Rattle.triplets.proofs.Seen.{Seen, SpotAgrees, letter_bounds, digit_not_letter}
use Rattle.triplets.proofs.KindFacts.{IsCounted, fault_by, Tabled, after_comma, no_triplet}
use Rattle.triplets.proofs.KindTable.{digit_fault, apart, letter_self, blank_fault, slash_fault}
use Rattle.triplets.proofs.LineSeen.{LineSeen, line_seen, line_seen_start, smade}
use Rattle.triplets.proofs.LineAgrees.{PartKnown, Between, LineAgrees, line_agrees}
use Rattle.triplets.proofs.Runs.{going, stopped, stopped_is, not_stopped, follows}
use Rattle.triplets.proofs.LineTable.{Suffix, Fresh, LineKindOf, suffix_of, front, tame, tame35, tame44, silent_kind, settles_none, settles_some, early_kind, extra_kind, all_commas}

-- ---- faults of an operation

pub in_op_err : (r : Result TripletReader TextKind) (k : TextKind) → in_operation r ≡ stopped k → r ≡ stopped k
in_op_err (Ok t) k e = absurd cc
in_op_err (Err l) k e = ap stopped (sym (stopped_is _ k e))

counted_by : (nt : Notation) (n : Nth) (m : Mark) → tame m ≡ true → IsCounted nt n m
counted_by Pairs Third marks.Comma h = absurd cc
counted_by nt n m h = tt

pub op_tame : (nt : Notation) → (m : Mark) (t : TripletReader) (f : LineSeen) (S : Axis → Bool) (b : ℕ) (k : TextKind) → mark nt b ≡ m → tame m ≡ true → IsMark nt b m → LineAgrees (places.Operation t) f → ((x : Axis) → S x ≡ uses x f.used) → in_operation (step nt m t) ≡ stopped k → LineKindOf nt f S b k
op_tame nt m t f S b k e a i h s w =
    let c = h.0.core in
    let fol = h.0.follows in
    let tb : tame (mark nt b) ≡ true = ap tame e ∙ a in
    let G : Type 0 = (x : Motion3) × (value nt t ≡ found x) in
    let table : Tabled nt c S G b k = fault_by nt m t c S G b k e i (counted_by nt t.nth m a) (λ x. s x ∙ ap (uses x) (fol.used ∙ h.0.agrees.used)) h.0.agrees ((λ x v. (x, v)), (λ v g. let z : found g.0 ≡ no_triplet = sym g.1 ∙ v in cc)) (in_op_err (step nt m t) k w) in
    front nt f S b k (tame35 nt b tb) (λ x. h.1 x.1) (tame44 nt b tb)
    (subst (λ o. Suffix nt o f.count S b k) (sym fol.other) (subst (λ n. Suffix nt c.other n S b k) (sym fol.count) (suffix_of nt c.mark c.other c.count S G b k (tame35 nt b tb) (tame44 nt b tb) table)))

pub op_comma_kind : (nt : Notation) → (o : Option PartReader) (n : Nth) (t : TripletReader) (f : LineSeen) (S : Axis → Bool) (k : TextKind) → settled t.part ≡ o → t.nth ≡ n → LineAgrees (places.Operation t) f → in_operation (comma_at nt o t) ≡ stopped k → LineKindOf nt f S 44 k
op_comma_kind nt None n t f S k e i h w = subst (LineKindOf nt f S 44) (sym (stopped_is _ k w)) (early_kind nt f t.part t.nth S h.0 (settles_none t.part.spot t.part.row t.part.used t.part.sign e))
op_comma_kind nt (Some p) First t f S k e i h w = absurd (let z = ap (λ n. in_operation (next_part nt n t p.row)) (sym i) ∙ w in cc)
op_comma_kind Triplets (Some p) Second t f S k e i h w = absurd (let z = ap (λ n. in_operation (next_part Triplets n t p.row)) (sym i) ∙ w in cc)
op_comma_kind Pairs (Some p) Second t f S k e i h w =
    subst (LineKindOf Pairs f S 44) (sym (stopped_is _ k (ap (λ n. in_operation (next_part Pairs n t p.row)) (sym i) ∙ w)))
    (extra_kind Pairs f t.part Second S (subst (PartKnown f t.part) i h.0) (omega arith) (settles_some t.part.spot t.part.row t.part.used t.part.sign p e))
op_comma_kind nt (Some p) Third t f S k e i h w =
    subst (LineKindOf nt f S 44) (sym (stopped_is _ k (ap (λ n. in_operation (next_part nt n t p.row)) (sym i) ∙ w)))
    (extra_kind nt f t.part Third S (subst (PartKnown f t.part) i h.0) (all_commas nt) (settles_some t.part.spot t.part.row t.part.used t.part.sign p e))

pub hash_kind_of : (nt : Notation) → (v : Option Motion3) (f : LineSeen) (S : Axis → Bool) (k : TextKind) → comment_behind v ≡ stopped k → LineKindOf nt f S 35 k
hash_kind_of nt None f S k w = inl (refl, stopped_is _ k w)
hash_kind_of nt (Some t) f S k w = absurd cc

pub op_kind : (nt : Notation) → (m : Mark) (t : TripletReader) (f : LineSeen) (S : Axis → Bool) (b : ℕ) (k : TextKind) → mark nt b ≡ m → IsMark nt b m → LineAgrees (places.Operation t) f → ((x : Axis) → S x ≡ uses x f.used) → operation_step nt m t ≡ stopped k → LineKindOf nt f S b k
op_kind nt marks.Comma t f S b k e i h s w = subst (λ x. LineKindOf nt f S x k) (sym i) (op_comma_kind nt (settled t.part) t.nth t f S k refl refl h w)
op_kind nt marks.Hash t f S b k e i h s w = subst (λ x. LineKindOf nt f S x k) (sym i) (hash_kind_of nt (value nt t) f S k w)
op_kind nt m t f S b k e i h s w = op_tame nt m t f S b k e refl i h s w

pub start_kind : (nt : Notation) → (m : Mark) (f : LineSeen) (S : Axis → Bool) (b : ℕ) (k : TextKind) → mark nt b ≡ m → IsMark nt b m → LineAgrees places.Start f → ((x : Axis) → S x ≡ uses x f.used) → start_step nt m ≡ stopped k → LineKindOf nt f S b k
start_kind nt marks.Blank f S b k e i h s w = not_stopped _ k w
start_kind nt marks.Open f S b k e i h s w = not_stopped _ k w
start_kind nt marks.Hash f S b k e i h s w = not_stopped _ k w
start_kind nt m f S b k e i h s w = op_kind nt m start f S b k e i h s w

-- ---- faults of a vector

pub no_used : (f : LineSeen) (S : Axis → Bool) (x : Axis) → ((a : Axis) → S a ≡ uses a f.used) → f.used ≡ unused → S x ≡ false
no_used f S x s u = s x ∙ (ap (uses x) u ∙ none x)
  where
    none : (x : Axis) → uses x unused ≡ false
    none X = refl
    none x = refl

pub letter_rows : (nt : Notation) → (spot : Spot) (g : Seen) (f : LineSeen) (a : Axis) (c : Bool) (k : TextKind) → has_axis nt a ≡ true → SpotAgrees spot g → f.count ≡ g.count → k ≡ behind_number spot →
    TableRow (IsLetter nt (letter_byte a c) × (1 ≤ f.count)) kinds.Coefficient k (TableRow (IsTrue (is_digit (letter_byte a c)) × (f.other ≡ 47)) kinds.Denominator k (TableRow (IsTrue (is_digit (letter_byte a c)) × (3 ≤ f.count)) kinds.Coefficient k (k ≡ kinds.UnknownSign)))
letter_rows nt (Digits m v) g f a c k axis h n e = inl (((a, letter_self a c, axis), omega (arith, h.1, h.3, n)), e)
letter_rows nt (Below v d) g f a c k axis h n e = inl (((a, letter_self a c, axis), omega (arith, h.1, n)), e)
letter_rows nt spot g f a c k axis h n e = inr ((λ x. omega (arith, x.1, h.1, n)), inr ((λ x. apart _ x.0 (letter_bounds a c).3), inr ((λ x. apart _ x.0 (letter_bounds a c).3), e)))

pub in_coordinate_err : (l : Bool) (v : VectorReader) (r : Result PartReader TextKind) (k : TextKind) → in_coordinate l v r ≡ stopped k → r ≡ stopped k
in_coordinate_err l v (Ok p) k e = absurd cc
in_coordinate_err l v (Err x) k e = ap stopped (sym (stopped_is _ k e))

pub letter_kind : (nt : Notation) → (spot : Spot) (g : Seen) (f : LineSeen) (S : Axis → Bool) (a : Axis) (c : Bool) (k : TextKind) → has_axis nt a ≡ true → SpotAgrees spot g → f.count ≡ g.count → ((x : Axis) → S x ≡ false) → k ≡ behind_number spot → LineKindOf nt f S (letter_byte a c) k
letter_kind nt spot g f S a c k axis h n s e =
    front nt f S (letter_byte a c) k (letter_bounds a c).2 (λ x. not_41 a c x.0) (letter_bounds a c).0 (inr ((λ x. apart _ x.3 (s x.0)), letter_rows nt spot g f a c k axis h n e))
  where
    not_41 : (a : Axis) (c : Bool) → letter_byte a c ≢ 41
    not_41 X false e = omega arith
    not_41 X true e = omega arith
    not_41 Y false e = omega arith
    not_41 Y true e = omega arith
    not_41 Z false e = omega arith
    not_41 Z true e = omega arith

pub vec_sign_kind : (spot : Spot) (s : Sign) (v : VectorReader) (k : TextKind) → coordinate_sign s spot v ≡ stopped k → k ≡ kinds.UnknownSign
vec_sign_kind Begin s v k w = not_stopped _ k w
vec_sign_kind spot s v k w = stopped_is _ k w

pub vec_comma_kind : (nt : Notation) → (o : Option PartReader) (n : Nth) (v : VectorReader) (f : LineSeen) (S : Axis → Bool) (k : TextKind) → settled v.part ≡ o → v.nth ≡ n → LineAgrees (places.Coordinates v) f → coordinate_comma nt o v ≡ stopped k → LineKindOf nt f S 44 k
vec_comma_kind nt None n v f S k e i h w = subst (LineKindOf nt f S 44) (sym (stopped_is _ k w)) (early_kind nt f v.part v.nth S h.0 (settles_none v.part.spot v.part.row v.part.used v.part.sign e))
vec_comma_kind nt (Some p) First v f S k e i h w = absurd (let z = ap (λ n. next_coordinate nt n v p.row.translation) (sym i) ∙ w in cc)
vec_comma_kind Triplets (Some p) Second v f S k e i h w = absurd (let z = ap (λ n. next_coordinate Triplets n v p.row.translation) (sym i) ∙ w in cc)
vec_comma_kind Pairs (Some p) Second v f S k e i h w =
    subst (LineKindOf Pairs f S 44) (sym (stopped_is _ k (ap (λ n. next_coordinate Pairs n v p.row.translation) (sym i) ∙ w)))
    (extra_kind Pairs f v.part Second S (subst (PartKnown f v.part) i h.0) (omega arith) (settles_some v.part.spot v.part.row v.part.used v.part.sign p e))
vec_comma_kind nt (Some p) Third v f S k e i h w =
    subst (LineKindOf nt f S 44) (sym (stopped_is _ k (ap (λ n. next_coordinate nt n v p.row.translation) (sym i) ∙ w)))
    (extra_kind nt f v.part Third S (subst (PartKnown f v.part) i h.0) (all_commas nt) (settles_some v.part.spot v.part.row v.part.used v.part.sign p e))

-- a bracket where no coordinate is whole, and where too few are
pub close_unknown : (nt : Notation) → (f : LineSeen) (S : Axis → Bool) (k : TextKind) → is_digit f.mark ≡ false → k ≡ kinds.UnknownSign → LineKindOf nt f S 41 k
close_unknown nt f S k d e = silent_kind nt f S 41 marks.Close k refl refl refl (λ x. apart _ x.2 d) e

pub close_missing : (nt : Notation) → (f : LineSeen) (S : Axis → Bool) (k : TextKind) → f.bracket ≡ 40 → is_digit f.mark ≡ true → k ≡ kinds.MissingPart → LineKindOf nt f S 41 k
close_missing nt f S k b d e = inr ((λ x. absurd (omega arith)), inl ((refl, b, d), e))

pub vec_close_kind : (nt : Notation) → (n : Nth) (o : Option PartReader) (v : VectorReader) (f : LineSeen) (S : Axis → Bool) (k : TextKind) → settled v.part ≡ o → LineAgrees (places.Coordinates v) f → closed_at nt n o v ≡ stopped k → LineKindOf nt f S 41 k
vec_close_kind nt First (Some p) v f S k e h w = close_missing nt f S k h.1 (h.2 ∙ settles_some v.part.spot v.part.row v.part.used v.part.sign p e) (stopped_is _ k w)
vec_close_kind Triplets Second (Some p) v f S k e h w = close_missing Triplets f S k h.1 (h.2 ∙ settles_some v.part.spot v.part.row v.part.used v.part.sign p e) (stopped_is _ k w)
vec_close_kind Pairs Second (Some p) v f S k e h w = not_stopped _ k w
vec_close_kind Triplets Third (Some p) v f S k e h w = not_stopped _ k w
vec_close_kind Pairs Third (Some p) v f S k e h w = close_missing Pairs f S k h.1 (h.2 ∙ settles_some v.part.spot v.part.row v.part.used v.part.sign p e) (stopped_is _ k w)
vec_close_kind nt n o v f S k e h w = close_unknown nt f S k (h.2 ∙ settles_none v.part.spot v.part.row v.part.used v.part.sign e) (stopped_is _ k w)

pub vec_close_by : (nt : Notation) → (t : Bool) (v : VectorReader) (f : LineSeen) (S : Axis → Bool) (k : TextKind) → LineAgrees (places.Coordinates v) f → cond t (going (places.Operation start)) (closed_at nt v.nth (settled v.part) v) ≡ stopped k → LineKindOf nt f S 41 k
vec_close_by nt true v f S k h w = not_stopped _ k w
vec_close_by nt false v f S k h w = vec_close_kind nt v.nth (settled v.part) v f S k refl h w

pub not_41_digit : (d : Digit) → d.byte ≢ 41
not_41_digit d e = omega (arith, d.low)

pub vec_kind : (nt : Notation) → (m : Mark) (v : VectorReader) (f : LineSeen) (S : Axis → Bool) (b : ℕ) (k : TextKind) → mark nt b ≡ m → IsMark nt b m → LineAgrees (places.Coordinates v) f → ((x : Axis) → S x ≡ uses x f.used) → vector_step nt m v ≡ stopped k → LineKindOf nt f S b k
vec_kind nt (marks.Letter a) v f S b k e i h s w =
    subst (λ x. LineKindOf nt f S x k) (sym i.1) (letter_kind nt v.part.spot h.0.core f S a i.0 k i.2 h.0.agrees.spot h.0.follows.count (λ x. no_used f S x s h.3) (stopped_is _ k w))
vec_kind nt (marks.Signs g) v f S b k e i h s w = silent_kind nt f S b (marks.Signs g) k e refl refl (λ x. sign_41 g (sym i ∙ x.0)) (vec_sign_kind v.part.spot g v k w)
  where
    sign_41 : (g : Sign) → sign_byte g ≢ 41
    sign_41 Plus e = omega arith
    sign_41 Minus e = omega arith
vec_kind nt marks.Comma v f S b k e i h s w = subst (λ x. LineKindOf nt f S x k) (sym i) (vec_comma_kind nt (settled v.part) v.nth v f S k refl refl h w)
vec_kind nt marks.Close v f S b k e i h s w = subst (λ x. LineKindOf nt f S x k) (sym i) (vec_close_by nt (v.label && is_digits v.part.spot) v f S k h w)
vec_kind nt (marks.Digit n) v f S b k e i h s w =
    let c = h.0.core in
    let fol = h.0.follows in
    let d = i.0 in
    let n35 : d.byte ≢ 35 = λ z. omega (arith, d.low) in
    let n44 : d.byte ≢ 44 = λ z. omega (arith, d.low) in
    let table : Tabled nt c S ⊥ d.byte k = digit_fault nt v.part.spot v.part.row v.part.used v.part.sign c S ⊥ d k h.0.agrees.spot (subst (λ x. on_digit x v.part ≡ stopped k) i.2 (in_coordinate_err v.label v (part_step (marks.Digit n) v.part) k w)) in
    subst (λ x. LineKindOf nt f S x k) (sym i.1) (front nt f S d.byte k n35 (λ x. not_41_digit d x.0) n44
    (subst (λ o. Suffix nt o f.count S d.byte k) (sym fol.other) (subst (λ x. Suffix nt c.other x S d.byte k) (sym fol.count) (suffix_of nt c.mark c.other c.count S ⊥ d.byte k n35 n44 table))))
vec_kind nt marks.Blank v f S b k e i h s w = silent_kind nt f S b marks.Blank k e refl refl (λ x. blank_41 i.0 (sym i.1 ∙ x.0)) (blank_fault v.part.spot v.part.row v.part.used v.part.sign k (in_coordinate_err false v (part_step marks.Blank v.part) k w))
  where
    blank_41 : (g : Blank) → blank_byte g ≢ 41
    blank_41 space e = omega arith
    blank_41 g e = omega arith
vec_kind nt marks.Slash v f S b k e i h s w = silent_kind nt f S b marks.Slash k e refl refl (λ x. absurd (omega (arith, i, x.0))) (slash_fault v.part.spot v.part.row v.part.used v.part.sign k (in_coordinate_err false v (part_step marks.Slash v.part) k w))
vec_kind nt marks.Hash v f S b k e i h s w = inl (i, stopped_is _ k w)
vec_kind nt marks.Open v f S b k e i h s w = silent_kind nt f S b marks.Open k e refl refl (λ x. absurd (omega (arith, i, x.0))) (stopped_is _ k w)
vec_kind nt marks.Other v f S b k e i h s w = silent_kind nt f S b marks.Other k e refl refl (λ x. let z : mark nt 41 ≡ marks.Other = subst (λ y. mark nt y ≡ marks.Other) x.0 e in cc) (stopped_is _ k w)

-- ---- faults between vectors

pub between_digit : (nt : Notation) → (f : LineSeen) (S : Axis → Bool) (d : Digit) (k : TextKind) → Between f → k ≡ kinds.UnknownSign → LineKindOf nt f S d.byte k
between_digit nt f S d k h e =
    front nt f S d.byte k (λ z. omega (arith, d.low)) (λ x. not_41_digit d x.0) (λ z. omega (arith, d.low))
    (inr ((λ x. apart _ x.1 (digit_not_letter x.0 d)), inr ((λ x. apart _ x.0.1 (digit_not_letter x.0.0 d)), inr ((λ x. h.other x.1), inr ((λ x. omega (arith, x.1, h.count)), e)))))

pub between_letter : (nt : Notation) → (f : LineSeen) (S : Axis → Bool) (a : Axis) (c : Bool) (k : TextKind) → has_axis nt a ≡ true → Between f → ((x : Axis) → S x ≡ uses x f.used) → k ≡ kinds.UnknownSign → LineKindOf nt f S (letter_byte a c) k
between_letter nt f S a c k axis h s e = letter_kind nt Signed (smade 0 0 0 unused) f S a c k axis ((λ z. omega arith), refl, λ z. omega arith) h.count (λ x. no_used f S x s h.used) e

pub between_comma : (nt : Notation) → (f : LineSeen) (S : Axis → Bool) (k : TextKind) → is_end_of_part f.mark ≡ false → (Fresh f.mark f.commas → ⊥) → k ≡ kinds.UnknownSign → LineKindOf nt f S 44 k
between_comma nt f S k n r e = subst (LineKindOf nt f S 44) (sym e) (inr ((λ x. absurd (omega arith)), inr ((λ x. absurd (omega (arith, x.0))), inr ((λ x. apart _ x.2 n), inr ((λ x. r x.1), after_comma nt S f.other f.count)))))

pub between_kind : (nt : Notation) → (m : Mark) (f : LineSeen) (S : Axis → Bool) (b : ℕ) (k : TextKind) → mark nt b ≡ m → IsMark nt b m → Between f → is_end_of_part f.mark ≡ false → (Fresh f.mark f.commas → ⊥) → ((x : Axis) → S x ≡ uses x f.used) → (m ≡ marks.Hash → ⊥) → k ≡ kinds.UnknownSign → LineKindOf nt f S b k
between_kind nt (marks.Letter a) f S b k e i h n r s o w = subst (λ x. LineKindOf nt f S x k) (sym i.1) (between_letter nt f S a i.0 k i.2 h s w)
between_kind nt (marks.Digit d) f S b k e i h n r s o w = subst (λ x. LineKindOf nt f S x k) (sym i.1) (between_digit nt f S i.0 k h w)
between_kind nt marks.Comma f S b k e i h n r s o w = subst (λ x. LineKindOf nt f S x k) (sym i) (between_comma nt f S k n r w)
between_kind nt marks.Hash f S b k e i h n r s o w = absurd (o refl)
between_kind nt m f S b k e i h n r s o w = silent_kind nt f S b m k e refl refl (λ x. h.bracket x.1) w

pub not_fresh_41 : (m n : ℕ) → m ≡ 41 → 1 ≤ n → Fresh m n → ⊥
not_fresh_41 m n e c (inl x) = omega (arith, e, x)
not_fresh_41 m n e c (inr (inl x)) = omega (arith, e, x)
not_fresh_41 m n e c (inr (inr x)) = omega (arith, c, x.1)

pub not_fresh_43 : (m n : ℕ) → m ≡ 43 → Fresh m n → ⊥
not_fresh_43 m n e (inl x) = omega (arith, e, x)
not_fresh_43 m n e (inr (inl x)) = omega (arith, e, x)
not_fresh_43 m n e (inr (inr x)) = omega (arith, e, x.0)

pub shut_kind : (nt : Notation) → (m : Mark) (v : List Part) (f : LineSeen) (S : Axis → Bool) (b : ℕ) (k : TextKind) → mark nt b ≡ m → IsMark nt b m → LineAgrees (places.Closed v) f → ((x : Axis) → S x ≡ uses x f.used) → closed_step m v ≡ stopped k → LineKindOf nt f S b k
shut_kind nt m v f S b k e i h s w = by_mark m v f S b k e i h s w (ap is_end_of_part h.2) (not_fresh_41 f.mark f.commas h.2 h.1)
  where
    by_mark : (m : Mark) (v : List Part) (f : LineSeen) (S : Axis → Bool) (b : ℕ) (k : TextKind) → mark nt b ≡ m → IsMark nt b m → LineAgrees (places.Closed v) f → ((x : Axis) → S x ≡ uses x f.used) → closed_step m v ≡ stopped k → is_end_of_part f.mark ≡ false → (Fresh f.mark f.commas → ⊥) → LineKindOf nt f S b k
    by_mark marks.Blank v f S b k e i h s w n r = not_stopped _ k w
    by_mark (marks.Signs Plus) v f S b k e i h s w n r = not_stopped _ k w
    by_mark marks.Hash v f S b k e i h s w n r = inl (i, stopped_is _ k w)
    by_mark m v f S b k e i h s w n r = between_kind nt m f S b k e i h.0 n r s (λ z. cc) (stopped_is _ k w)

pub row_kind : (nt : Notation) → (m : Mark) (f : LineSeen) (S : Axis → Bool) (b : ℕ) (k : TextKind) → mark nt b ≡ m → IsMark nt b m → LineAgrees places.Behind f → ((x : Axis) → S x ≡ uses x f.used) → is_end_of_part f.mark ≡ false → (Fresh f.mark f.commas → ⊥) → behind_step m ≡ stopped k → LineKindOf nt f S b k
row_kind nt marks.Blank f S b k e i h s n r w = not_stopped _ k w
row_kind nt marks.Open f S b k e i h s n r w = not_stopped _ k w
row_kind nt marks.Hash f S b k e i h s n r w = not_stopped _ k w
row_kind nt m f S b k e i h s n r w = between_kind nt m f S b k e i h.0 n r s (λ z. cc) (stopped_is _ k w)

pub place_kind : (nt : Notation) → (p : LinePlace) (f : LineSeen) (S : Axis → Bool) (b : ℕ) (k : TextKind) → LineAgrees p f → ((x : Axis) → S x ≡ uses x f.used) → place_step nt (mark nt b) p ≡ stopped k → LineKindOf nt f S b k
place_kind nt places.Start f S b k h s w = start_kind nt (mark nt b) f S b k refl (mark_is nt b) h s w
place_kind nt (places.Operation t) f S b k h s w = op_kind nt (mark nt b) t f S b k refl (mark_is nt b) h s w
place_kind nt (places.Coordinates v) f S b k h s w = vec_kind nt (mark nt b) v f S b k refl (mark_is nt b) h s w
place_kind nt (places.Closed v) f S b k h s w = shut_kind nt (mark nt b) v f S b k refl (mark_is nt b) h s w
place_kind nt places.Behind f S b k h s w = row_kind nt (mark nt b) f S b k refl (mark_is nt b) h s (ap is_end_of_part h.1) (not_fresh_43 f.mark f.commas h.1) w
place_kind nt (places.Comment o) f S b k h s w = not_stopped _ k w

pub at_place_err : (r : Result LinePlace TextKind) (vs : List Vector) (k : TextKind) → at_place r vs ≡ stopped k → r ≡ stopped k
at_place_err (Ok p) vs k e = absurd cc
at_place_err (Err l) vs k e = let z : l ≡ k = cc in ap stopped z

pub line_uses : (bs : List ℕ) (x : Axis) → line_stands x false bs ≡ uses x (line_seen line_seen_start bs).used
line_uses bs X = refl
line_uses bs x = refl

pub line_kind : (nt : Notation) → (before : List ℕ) (b : ℕ) (s : LineState) (k : TextKind) → line_run nt (Ok line_start) before ≡ going s → line_step nt (mark nt b) s ≡ stopped k → HasLineKind nt before b k
line_kind nt before b s k w e =
    place_kind nt s.place (line_seen line_seen_start before) (λ a. line_stands a false before) b k (line_agrees nt before s w) (line_uses before) (at_place_err (place_step nt (mark nt b) s.place) (with_vector (completed (mark nt b) s.place) s.vectors) k e)
