-- What the reader of a line knows is what stands before.
use Rattle.std.proofs.Common.{◌≡◌, ◌≢◌, ℕ, ◌+◌, ◌≤◌, Bool, true, false, cond, List, Option, Some, None, Result, Ok, Err, ℤ, refl, sym, ◌∙◌, ap, subst, arith, inl, inr}
use Rattle.std.specs.Prelude.{◌&&◌}
use Rattle.triplets.specs.declared.notation.Notation.{Notation}
use Rattle.triplets.specs.declared.notation.Notation.TheVariants.{Triplets, Pairs}
use Rattle.triplets.specs.declared.marks.Axis.{Axis}
use Rattle.motions.specs.declared.motion.Sign.{Sign}
use Rattle.motions.specs.declared.motion.Sign.TheVariants.{Plus}
use Rattle.triplets.specs.declared.fault.TextKind.{TextKind}
use Rattle.triplets.specs.declared.marks.Mark.{Mark}
use Rattle.triplets.specs.declared.marks.Mark.TheVariants as marks
use Rattle.triplets.specs.declared.part.Row as rows
use Rattle.triplets.specs.declared.part.PartReader.{PartReader}
use Rattle.triplets.specs.declared.part.Spot.{Spot}
use Rattle.triplets.specs.declared.part.Spot.TheVariants.{Begin, Behind}
use Rattle.triplets.specs.declared.triplet.Nth.{Nth}
use Rattle.triplets.specs.declared.triplet.Nth.TheVariants.{First, Second, Third}
use Rattle.motions.specs.declared.motion.Motion3.{Motion3}
use Rattle.triplets.specs.declared.triplet.TripletReader.{TripletReader}
use Rattle.fractions.specs.declared.part.Part.{Part}
use Rattle.triplets.specs.declared.line.VectorReader.{VectorReader}
use Rattle.triplets.specs.declared.line.LinePlace.{LinePlace}
use Rattle.triplets.specs.declared.line.LinePlace.TheVariants as places
use Rattle.triplets.specs.Marks.{mark}
use Rattle.triplets.specs.Rows.{unused}
use Rattle.triplets.specs.PartReading.{begin, settled, part_step, on_sign_at, with_sign}
use Rattle.triplets.specs.TripletReading.{start, in_part, next_part, comma_at, value, step}
use Rattle.triplets.specs.Grammar.{Blank, space, blank_byte, Digit}
use Rattle.triplets.specs.LineReading.{opened, in_operation, in_coordinate, next_coordinate, coordinate_comma, closed_at, is_digits, coordinate_sign, vector_step, start_step, comment_behind, operation_step, closed_step, behind_step, place_step, completed, with_vector, LineState, line_start, line_run, line_byte}
use Rattle.triplets.specs.Faults.{is_digit}
use Rattle.triplets.specs.LineFaults.{commas, is_end_of_part}
use Rattle.triplets.proofs.Bytes.{IsMark, mark_is}
use Rattle.triplets.proofs.Seen.{Seen, nothing_seen, seen_step, Agrees, agrees_part}
use Rattle.triplets.proofs.LineBegun.{placed_by}
use Rattle.triplets.proofs.Runs.{going, going_is, not_going, follows, carries}
use Rattle.triplets.proofs.LineSeen.{LineSeen, line_seen_step, line_seen, line_seen_start, l_blank, l_sign, l_digit, Follows, smade, in_a_part, follow_by, stays_by}
use Rattle.triplets.proofs.PartEnds.{settles, ends_by, digits_by}

-- ---- what the place of the reader says

abbrev pub index : Nth → ℕ
index First = 0
index Second = 1
index Third = 2

pub record PartKnown (f : LineSeen) (p : PartReader) (n : Nth) : Type 0 where
  pub core : Seen
  pub follows : Follows f core
  pub agrees : Agrees p core
  pub end : is_end_of_part f.mark ≡ settles p.spot
  pub commas : f.commas ≡ index n

pub known_step : (nt : Notation) → (m : Mark) (f : LineSeen) (p q : PartReader) (n : Nth) (b : ℕ) → in_a_part m ≡ true → IsMark nt b m → PartKnown f p n → part_step m p ≡ going q → PartKnown (line_seen_step f b) q n
known_step nt m f p q n b a i k w = record {
  core = seen_step k.core b;
  follows = follow_by nt m f k.core b a i k.follows;
  agrees = agrees_part nt m p k.core b q i k.agrees w;
  end = ends_by nt m f p q b i k.end w;
  commas = (stays_by nt m f b a i).commas ∙ k.commas;
}

pub known_comma : (f : LineSeen) (n : Nth) → f.commas + 1 ≡ index n → PartKnown (line_seen_step f 44) begin n
known_comma f n h = record {
  core = smade 44 44 0 unused;
  follows = record { other = refl; count = refl; used = refl; mark = inl (refl, (λ e. omega arith), (λ e. omega arith)) };
  agrees = record { used = refl; spot = (refl, refl, λ e. omega arith) };
  end = refl;
  commas = h;
}

pub known_open : (f : LineSeen) → PartKnown (line_seen_step f 40) begin First
known_open f = record {
  core = smade 44 40 0 unused;
  follows = record { other = refl; count = refl; used = refl; mark = inr (refl, inl refl) };
  agrees = record { used = refl; spot = (refl, refl, λ e. omega arith) };
  end = refl;
  commas = refl;
}

pub known_label : (f : LineSeen) → f.commas ≡ 0 → PartKnown (line_seen_step f 41) begin First
known_label f h = record {
  core = smade 44 41 0 unused;
  follows = record { other = refl; count = refl; used = refl; mark = inr (refl, inr (refl, h)) };
  agrees = record { used = refl; spot = (refl, refl, λ e. omega arith) };
  end = refl;
  commas = h;
}

pub record Between (f : LineSeen) : Type 0 where
  pub count : f.count ≡ 0
  pub other : f.other ≢ 47
  pub bracket : f.bracket ≢ 40
  pub used : f.used ≡ unused

abbrev pub LineAgrees : LinePlace → LineSeen → Type 0
LineAgrees places.Start f = PartKnown f begin First × (f.bracket ≢ 40)
LineAgrees (places.Operation t) f = PartKnown f t.part t.nth × (f.bracket ≢ 40)
LineAgrees (places.Coordinates v) f = PartKnown f v.part v.nth × (f.bracket ≡ 40) × (is_digit f.mark ≡ settles v.part.spot) × (f.used ≡ unused) × (v.label ≡ true → v.nth ≡ First)
LineAgrees (places.Closed w) f = Between f × (1 ≤ f.commas) × (f.mark ≡ 41)
LineAgrees places.Behind f = Between f × (f.mark ≡ 43)
LineAgrees (places.Comment o) f = Unit {0}

pub to_place : (p q : LinePlace) (f : LineSeen) → going p ≡ going q → LineAgrees p f → LineAgrees q f
to_place p q f e h = subst (λ x. LineAgrees x f) (sym (going_is p q e)) h

abbrev pub bracket_same : LineSeen → ℕ → Type 0
bracket_same f b = (line_seen_step f b).bracket ≡ f.bracket

pub not_bracket : (f g : LineSeen) → g.bracket ≡ f.bracket → f.bracket ≢ 40 → g.bracket ≢ 40
not_bracket f g e h z = h (sym e ∙ z)

-- in an operation
pub op_in_part : (nt : Notation) → (m : Mark) (t : TripletReader) (f : LineSeen) (b : ℕ) (q : LinePlace) → in_a_part m ≡ true → IsMark nt b m → LineAgrees (places.Operation t) f → in_operation (in_part t (part_step m t.part)) ≡ going q → LineAgrees q (line_seen_step f b)
op_in_part nt m t f b q a i h e = op_by (part_step m t.part) m t f b q a i h refl e
  where
    op_by : (r : Result PartReader TextKind) (m : Mark) (t : TripletReader) (f : LineSeen) (b : ℕ) (q : LinePlace) → in_a_part m ≡ true → IsMark nt b m → LineAgrees (places.Operation t) f → part_step m t.part ≡ r → in_operation (in_part t r) ≡ going q → LineAgrees q (line_seen_step f b)
    op_by (Ok p) m t f b q a i h w e = to_place _ q (line_seen_step f b) e (known_step nt m f t.part p t.nth b a i h.0 w, not_bracket f (line_seen_step f b) (stays_by nt m f b a i).bracket h.1)
    op_by (Err k) m t f b q a i h w e = not_going _ q e

pub op_comma : (nt : Notation) → (o : Option PartReader) (n : Nth) (t : TripletReader) (f : LineSeen) (q : LinePlace) → t.nth ≡ n → LineAgrees (places.Operation t) f → in_operation (comma_at nt o t) ≡ going q → LineAgrees q (line_seen_step f 44)
op_comma nt None n t f q i h e = not_going _ q e
op_comma nt (Some p) n t f q i h e = op_next nt n t p.row f q (h.0.commas ∙ ap index i) h.1 (ap (λ m. in_operation (next_part nt m t p.row)) (sym i) ∙ e)
  where
    op_next : (nt : Notation) (n : Nth) (t : TripletReader) (r : rows.Row) (f : LineSeen) (q : LinePlace) → f.commas ≡ index n → f.bracket ≢ 40 → in_operation (next_part nt n t r) ≡ going q → LineAgrees q (line_seen_step f 44)
    op_next nt First t r f q c h e = to_place _ q (line_seen_step f 44) e (known_comma f Second (omega (arith, c)), h)
    op_next Pairs Second t r f q c h e = not_going _ q e
    op_next Triplets Second t r f q c h e = to_place _ q (line_seen_step f 44) e (known_comma f Third (omega (arith, c)), h)
    op_next nt Third t r f q c h e = not_going _ q e

pub op_step : (nt : Notation) → (m : Mark) (t : TripletReader) (f : LineSeen) (b : ℕ) (q : LinePlace) → IsMark nt b m → LineAgrees (places.Operation t) f → in_operation (step nt m t) ≡ going q → LineAgrees q (line_seen_step f b)
op_step nt marks.Comma t f b q i h e = subst (λ x. LineAgrees q (line_seen_step f x)) (sym i) (op_comma nt (settled t.part) t.nth t f q refl h e)
op_step nt marks.Hash t f b q i h e = not_going _ q e
op_step nt marks.Open t f b q i h e = not_going _ q e
op_step nt marks.Close t f b q i h e = not_going _ q e
op_step nt marks.Other t f b q i h e = not_going _ q e
op_step nt m t f b q i h e = op_in_part nt m t f b q refl i h e

pub from_start_step : (nt : Notation) → (m : Mark) (f : LineSeen) (b : ℕ) (q : LinePlace) → IsMark nt b m → LineAgrees places.Start f → start_step nt m ≡ going q → LineAgrees q (line_seen_step f b)
from_start_step nt marks.Blank f b q i h e = to_place places.Start q (line_seen_step f b) e (known_step nt marks.Blank f begin begin First b refl i h.0 refl, not_bracket f (line_seen_step f b) (stays_by nt marks.Blank f b refl i).bracket h.1)
from_start_step nt marks.Open f b q i h e = subst (λ x. LineAgrees q (line_seen_step f x)) (sym i) (to_place _ q (line_seen_step f 40) e (known_open f, refl, refl, refl, λ z. refl))
from_start_step nt marks.Hash f b q i h e = to_place (places.Comment None) q (line_seen_step f b) e tt
from_start_step nt m f b q i h e = op_step nt m start f b q i h e

pub in_op_step : (nt : Notation) → (m : Mark) (t : TripletReader) (f : LineSeen) (b : ℕ) (q : LinePlace) → IsMark nt b m → LineAgrees (places.Operation t) f → operation_step nt m t ≡ going q → LineAgrees q (line_seen_step f b)
in_op_step nt marks.Hash t f b q i h e = hash_by (value nt t) f b q e
  where
    hash_by : (v : Option Motion3) (f : LineSeen) (b : ℕ) (q : LinePlace) → comment_behind v ≡ going q → LineAgrees q (line_seen_step f b)
    hash_by None f b q e = not_going _ q e
    hash_by (Some t) f b q e = to_place (places.Comment (Some t)) q (line_seen_step f b) e tt
in_op_step nt m t f b q i h e = op_step nt m t f b q i h e

-- in a vector

pub used_at : (f g : LineSeen) (b c : ℕ) → b ≡ c → line_seen_step f c ≡ g → g.used ≡ unused → (line_seen_step f b).used ≡ unused
used_at f g b c e h s = subst (λ x. (line_seen_step f x).used ≡ unused) (sym e) (subst (λ (x : LineSeen). x.used ≡ unused) (sym h) s)

pub used_by : (nt : Notation) → (m : Mark) (f : LineSeen) (b : ℕ) → in_a_part m ≡ true → ((a : Axis) → m ≡ marks.Letter a → ⊥) → IsMark nt b m → f.used ≡ unused → (line_seen_step f b).used ≡ unused
used_by nt marks.Blank f b p n i h = used_at f _ b _ i.1 (l_blank f i.0) h
used_by nt (marks.Signs s) f b p n i h = used_at f _ b _ i (l_sign f s) h
used_by nt (marks.Letter a) f b p n i h = absurd (n a refl)
used_by nt (marks.Digit k) f b p n i h = used_at f _ b _ i.1 (l_digit f i.0) h
used_by nt marks.Slash f b p n i h = used_at f (line_seen_step f 47) b 47 i refl h
used_by nt m f b p n i h = absurd cc

pub vec_moved : (nt : Notation) → (m : Mark) (v : VectorReader) (f : LineSeen) (b : ℕ) (p : PartReader) (l : Bool) → in_a_part m ≡ true → ((a : Axis) → m ≡ marks.Letter a → ⊥) → (l ≡ true → v.nth ≡ First) → IsMark nt b m → LineAgrees (places.Coordinates v) f → part_step m v.part ≡ going p →
    LineAgrees (places.Coordinates (record v { part = p; label = l })) (line_seen_step f b)
vec_moved nt m v f b p l a n c i h w =
    (known_step nt m f v.part p v.nth b a i h.0 w, (stays_by nt m f b a i).bracket ∙ h.1, digits_by nt m f v.part p b i h.2 n w, used_by nt m f b a n i h.3, c)

pub vec_by : (nt : Notation) → (r : Result PartReader TextKind) (m : Mark) (v : VectorReader) (f : LineSeen) (b : ℕ) (l : Bool) (q : LinePlace) → in_a_part m ≡ true → ((a : Axis) → m ≡ marks.Letter a → ⊥) → (l ≡ true → v.nth ≡ First) → IsMark nt b m → LineAgrees (places.Coordinates v) f →
    part_step m v.part ≡ r → in_coordinate l v r ≡ going q → LineAgrees q (line_seen_step f b)
vec_by nt (Ok p) m v f b l q a n c i h w e = to_place _ q (line_seen_step f b) e (vec_moved nt m v f b p l a n c i h w)
vec_by nt (Err k) m v f b l q a n c i h w e = not_going _ q e

pub unlabel : (n : Nth) → false ≡ true → n ≡ First
unlabel n e = absurd cc

pub vec_sign : (nt : Notation) → (spot : Spot) (s : Sign) (v : VectorReader) (f : LineSeen) (b : ℕ) (q : LinePlace) → v.part.spot ≡ spot → IsMark nt b (marks.Signs s) → LineAgrees (places.Coordinates v) f → coordinate_sign s spot v ≡ going q → LineAgrees q (line_seen_step f b)
vec_sign nt Begin s v f b q g i h e =
    to_place _ q (line_seen_step f b) e (vec_moved nt (marks.Signs s) v f b (with_sign s v.part) false refl (λ a z. cc) (unlabel v.nth) i h (ap (λ x. on_sign_at s x v.part) g))
vec_sign nt spot s v f b q g i h e = not_going _ q e

pub vec_comma : (nt : Notation) → (o : Option PartReader) (n : Nth) (v : VectorReader) (f : LineSeen) (q : LinePlace) → v.nth ≡ n → LineAgrees (places.Coordinates v) f → coordinate_comma nt o v ≡ going q → LineAgrees q (line_seen_step f 44)
vec_comma nt None n v f q i h e = not_going _ q e
vec_comma nt (Some p) n v f q i h e = vec_next nt n v p.row.translation f q (h.0.commas ∙ ap index i) h.1 (ap (λ m. next_coordinate nt m v p.row.translation) (sym i) ∙ e)
  where
    vec_next : (nt : Notation) (n : Nth) (v : VectorReader) (x : ℤ) (f : LineSeen) (q : LinePlace) → f.commas ≡ index n → f.bracket ≡ 40 → next_coordinate nt n v x ≡ going q → LineAgrees q (line_seen_step f 44)
    vec_next nt First v x f q c h e = to_place _ q (line_seen_step f 44) e (known_comma f Second (omega (arith, c)), h, refl, refl, λ z. absurd cc)
    vec_next Pairs Second v x f q c h e = not_going _ q e
    vec_next Triplets Second v x f q c h e = to_place _ q (line_seen_step f 44) e (known_comma f Third (omega (arith, c)), h, refl, refl, λ z. absurd cc)
    vec_next nt Third v x f q c h e = not_going _ q e

pub between_close : (f : LineSeen) → Between (line_seen_step f 41)
between_close f = record { count = refl; other = λ e. omega arith; bracket = λ e. omega arith; used = refl }

pub vec_closed : (nt : Notation) → (n : Nth) (o : Option PartReader) (v : VectorReader) (f : LineSeen) (q : LinePlace) → f.commas ≡ index n → closed_at nt n o v ≡ going q → LineAgrees q (line_seen_step f 41)
vec_closed nt First None v f q c e = not_going _ q e
vec_closed nt Second None v f q c e = not_going _ q e
vec_closed nt Third None v f q c e = not_going _ q e
vec_closed nt First (Some p) v f q c e = not_going _ q e
vec_closed Triplets Second (Some p) v f q c e = not_going _ q e
vec_closed Pairs Second (Some p) v f q c e = to_place _ q (line_seen_step f 41) e (between_close f, omega (arith, c), refl)
vec_closed Triplets Third (Some p) v f q c e = to_place _ q (line_seen_step f 41) e (between_close f, omega (arith, c), refl)
vec_closed Pairs Third (Some p) v f q c e = not_going _ q e

pub vec_close : (nt : Notation) → (l d : Bool) (v : VectorReader) (f : LineSeen) (q : LinePlace) → v.label ≡ l → LineAgrees (places.Coordinates v) f → cond (l && d) (going (places.Operation start)) (closed_at nt v.nth (settled v.part) v) ≡ going q → LineAgrees q (line_seen_step f 41)
vec_close nt true true v f q i h e = to_place (places.Operation start) q (line_seen_step f 41) e (known_label f (h.0.commas ∙ ap index (h.4 i)), λ z. omega arith)
vec_close nt true false v f q i h e = vec_closed nt v.nth (settled v.part) v f q h.0.commas e
vec_close nt false d v f q i h e = vec_closed nt v.nth (settled v.part) v f q h.0.commas e

pub vec_step : (nt : Notation) → (m : Mark) (v : VectorReader) (f : LineSeen) (b : ℕ) (q : LinePlace) → IsMark nt b m → LineAgrees (places.Coordinates v) f → vector_step nt m v ≡ going q → LineAgrees q (line_seen_step f b)
vec_step nt (marks.Signs s) v f b q i h e = vec_sign nt v.part.spot s v f b q refl i h e
vec_step nt marks.Comma v f b q i h e = subst (λ x. LineAgrees q (line_seen_step f x)) (sym i) (vec_comma nt (settled v.part) v.nth v f q refl h e)
vec_step nt marks.Close v f b q i h e = subst (λ x. LineAgrees q (line_seen_step f x)) (sym i) (vec_close nt v.label (is_digits v.part.spot) v f q refl h e)
vec_step nt (marks.Digit n) v f b q i h e = vec_by nt (part_step (marks.Digit n) v.part) (marks.Digit n) v f b v.label q refl (λ a z. cc) h.4 i h refl e
vec_step nt marks.Blank v f b q i h e = vec_by nt (part_step marks.Blank v.part) marks.Blank v f b false q refl (λ a z. cc) (unlabel v.nth) i h refl e
vec_step nt marks.Slash v f b q i h e = vec_by nt (part_step marks.Slash v.part) marks.Slash v f b false q refl (λ a z. cc) (unlabel v.nth) i h refl e
vec_step nt m v f b q i h e = not_going _ q e

pub between_blank : (f : LineSeen) (k : Blank) → Between f → Between (line_seen_step f (blank_byte k))
between_blank f space h = record { count = refl; other = λ e. omega arith; bracket = h.bracket; used = h.used }
between_blank f k h = record { count = refl; other = λ e. omega arith; bracket = h.bracket; used = h.used }

pub blank_keeps : (f : LineSeen) (k : Blank) → ((line_seen_step f (blank_byte k)).mark ≡ f.mark) × ((line_seen_step f (blank_byte k)).commas ≡ f.commas)
blank_keeps f space = (refl, refl)
blank_keeps f k = (refl, refl)

pub shut_step : (nt : Notation) → (m : Mark) (w : List Part) (f : LineSeen) (b : ℕ) (q : LinePlace) → IsMark nt b m → LineAgrees (places.Closed w) f → closed_step m w ≡ going q → LineAgrees q (line_seen_step f b)
shut_step nt marks.Blank w f b q i h e = subst (λ x. LineAgrees q (line_seen_step f x)) (sym i.1) (to_place (places.Closed w) q (line_seen_step f (blank_byte i.0)) e (between_blank f i.0 h.0, omega (arith, (blank_keeps f i.0).1, h.1), (blank_keeps f i.0).0 ∙ h.2))
shut_step nt (marks.Signs Plus) w f b q i h e = subst (λ x. LineAgrees q (line_seen_step f x)) (sym i) (to_place places.Behind q (line_seen_step f 43) e (record { count = refl; other = λ e. omega arith; bracket = h.0.bracket; used = h.0.used }, refl))
shut_step nt m w f b q i h e = not_going _ q e

pub row_step : (nt : Notation) → (m : Mark) (f : LineSeen) (b : ℕ) (q : LinePlace) → IsMark nt b m → LineAgrees places.Behind f → behind_step m ≡ going q → LineAgrees q (line_seen_step f b)
row_step nt marks.Blank f b q i h e = subst (λ x. LineAgrees q (line_seen_step f x)) (sym i.1) (to_place places.Behind q (line_seen_step f (blank_byte i.0)) e (between_blank f i.0 h.0, (blank_keeps f i.0).0 ∙ h.1))
row_step nt marks.Open f b q i h e = subst (λ x. LineAgrees q (line_seen_step f x)) (sym i) (to_place (places.Coordinates (opened false)) q (line_seen_step f 40) e (known_open f, refl, refl, refl, λ z. refl))
row_step nt marks.Hash f b q i h e = to_place (places.Comment None) q (line_seen_step f b) e tt
row_step nt m f b q i h e = not_going _ q e

pub place_agrees : (nt : Notation) → (p : LinePlace) (f : LineSeen) (b : ℕ) (q : LinePlace) → LineAgrees p f → place_step nt (mark nt b) p ≡ going q → LineAgrees q (line_seen_step f b)
place_agrees nt places.Start f b q h e = from_start_step nt (mark nt b) f b q (mark_is nt b) h e
place_agrees nt (places.Operation t) f b q h e = in_op_step nt (mark nt b) t f b q (mark_is nt b) h e
place_agrees nt (places.Coordinates v) f b q h e = vec_step nt (mark nt b) v f b q (mark_is nt b) h e
place_agrees nt (places.Closed w) f b q h e = shut_step nt (mark nt b) w f b q (mark_is nt b) h e
place_agrees nt places.Behind f b q h e = row_step nt (mark nt b) f b q (mark_is nt b) h e
place_agrees nt (places.Comment o) f b q h e = to_place (places.Comment o) q (line_seen_step f b) e tt

step_agrees : (nt : Notation) → (b : ℕ) (s t : LineState) (f : LineSeen) → LineAgrees s.place f → line_byte nt b s ≡ going t → LineAgrees t.place (line_seen_step f b)
step_agrees nt b s t f h w =
    let p = placed_by (place_step nt (mark nt b) s.place) (with_vector (completed (mark nt b) s.place) s.vectors) t w in
    subst (λ (x : LineState). LineAgrees x.place (line_seen_step f b)) (sym p.state) (place_agrees nt s.place f b p.place h p.place_is)

pub run_agrees : (nt : Notation) → (bs : List ℕ) (s t : LineState) (f : LineSeen) → LineAgrees s.place f → line_run nt (Ok s) bs ≡ going t → LineAgrees t.place (line_seen f bs)
run_agrees nt bs s t f h e =
    let x = carries (line_byte nt) (λ u xs. (g : LineSeen) × LineAgrees u.place g × (line_seen g xs ≡ line_seen f bs)) (λ b xs u v k i. (line_seen_step k.0 b, step_agrees nt b u v k.0 k.1 i, k.2)) bs s t (f, h, refl) e in
    subst (LineAgrees t.place) x.2 x.1

pub line_agrees : (nt : Notation) → (bs : List ℕ) (t : LineState) → line_run nt (Ok line_start) bs ≡ going t → LineAgrees t.place (line_seen line_seen_start bs)
line_agrees nt bs t e = run_agrees nt bs line_start t line_seen_start (
  record {
    core = nothing_seen;
    follows = record { other = refl; count = refl; used = refl; mark = inl (refl, (λ e. omega arith), (λ e. omega arith)) };
    agrees = record { used = refl; spot = (refl, refl, λ e. omega arith) };
    end = refl;
    commas = refl;
  },
  λ z. omega arith,
) e
