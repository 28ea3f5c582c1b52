-- The numbers of the reader stay small.
use Rattle.std.proofs.Common.{div-le_self, mul-le-mul_right, lt_of_le_of_lt, ◌≡◌, ℕ, ◌+◌, ◌*◌, ◌<◌, ◌≤◌, false, Option, Some, None, ℤ, pos, negsuc, neg_ℤ, ◌+ℤ◌, sym, subst, arith}
use Rattle.std.specs.Prelude.{◌≤ℤ◌, ◌^◌, nat_le, nat_abs}
use Rattle.std.proofs.lemmas.Bool.Decides.{nat_tests}
use Rattle.std.proofs.lemmas.Int.{ints}
use Rattle.triplets.specs.declared.notation.Notation.{Notation}
use Rattle.triplets.specs.declared.notation.Notation.TheVariants.{Triplets, Pairs}
use Rattle.triplets.specs.declared.marks.Axis.{Axis}
use Rattle.triplets.specs.declared.marks.Axis.TheVariants.{X}
use Rattle.motions.specs.declared.motion.Sign.{Sign}
use Rattle.motions.specs.declared.motion.Sign.TheVariants.{Plus, Minus}
use Rattle.triplets.specs.declared.part.Used.{Used}
use Rattle.triplets.specs.declared.fault.TextKind.TheVariants as kinds
use Rattle.triplets.specs.declared.marks.Mark.{Mark}
use Rattle.triplets.specs.declared.marks.Mark.TheVariants as marks
use Rattle.triplets.specs.declared.part.Row as rows
use Rattle.triplets.specs.declared.part.PartReader.{PartReader}
use Rattle.triplets.specs.declared.part.Spot.{Spot}
use Rattle.triplets.specs.declared.part.Spot.TheVariants.{Begin, Signed, Digits, Divided, Below, Behind}
use Rattle.triplets.specs.declared.triplet.Nth.{Nth}
use Rattle.triplets.specs.declared.triplet.Nth.TheVariants.{First, Second, Third}
use Rattle.triplets.specs.declared.triplet.TripletReader.{TripletReader}
use Rattle.triplets.specs.Marks.{mark, IsMarkInRange}
use Rattle.triplets.specs.Rows.{signed, with_entry, with_translation, IsRoomy}
use Rattle.triplets.specs.Denominators.{unit, parts, further_digit}
use Rattle.triplets.specs.PartReading.{begin, settled, part_step, on_blank, on_sign, on_digit, on_slash, on_new_letter_at, below_or, with_letter, IsSmall, IsSpotSmall}
use Rattle.triplets.specs.TripletReading.{in_part, next_part, comma_at, step}
use Rattle.triplets.specs.PlaceBounds.{IsRowWithin, IsSpotWithin, IsPartWithin}
use Rattle.triplets.proofs.Bytes.{IsMark, mark_is}
use Rattle.triplets.proofs.Divisors.{at_least_one, at_most_unit, further_tells}
use Rattle.triplets.proofs.Partials.{passed, met, below_is}
use Rattle.triplets.proofs.Wholes.{part_step_is}
use Rattle.triplets.proofs.Runs.{going, going_is, not_going}

pub more_room : (n : ℕ) (r : rows.Row) → IsRowWithin n r → IsRowWithin (n + 1) r
more_room n r h = omega arith

-- a number with a sign moves by at most itself
pub moved_size : (z : ℤ) (s : Sign) (v : ℕ) → nat_abs (z +ℤ signed s v) ≤ nat_abs z + v
moved_size (pos m) Plus v = omega (arith, ints)
moved_size (negsuc m) Plus v = omega (arith, ints)
moved_size (pos m) Minus v = omega (arith, ints)
moved_size (negsuc m) Minus v = omega (arith, ints)

entry_room : (n : ℕ) (a : Axis) (v : ℤ) (r : rows.Row) → IsRowWithin n r → IsRowWithin (n + 1) (with_entry a v r)
entry_room n X v r h = omega arith
entry_room n a v r h = omega arith

shift_room : (n : ℕ) (s : Sign) (v : ℕ) (r : rows.Row) → v < 1000 * unit → IsRowWithin n r → IsRowWithin (n + 1) (with_translation s v r)
shift_room n s v r b h = let most = moved_size r.translation s v in omega arith

pub parts_small : (d v : ℕ) → v < 1000 → parts d * v < 1000 * unit
parts_small d v h = lt_of_le_of_lt (mul-le-mul_right v (div-le_self unit d)) (omega arith)

abbrev pub at : rows.Row → Used → Sign → Spot → PartReader
at r u g spot = record { row = r; used = u; sign = g; spot = spot }

pub within_at : (n : ℕ) (p q : PartReader) → q ≡ p → IsRowWithin n p.row → IsSpotWithin p.spot → IsPartWithin n q
within_at n p q e r s = subst (IsPartWithin n) (sym e) (r, s)

within_blank : (spot : Spot) (n : ℕ) (r : rows.Row) (u : Used) (g : Sign) (q : PartReader) → IsRowWithin n r → IsSpotWithin spot → on_blank (at r u g spot) ≡ going q → IsPartWithin (n + 1) q
within_blank (Digits k v) n r u g q h i w = within_at _ _ q (going_is _ q w) (shift_room n g (unit * v) r (omega (arith, i.1.1.0)) h) tt
within_blank (Divided v) n r u g q h i w = not_going _ q w
within_blank (Below v d) n r u g q h i w = within_at _ _ q (going_is _ q w) (shift_room n g (parts d * v) r (parts_small d v i.0) h) tt
within_blank spot n r u g q h i w = within_at _ (at r u g spot) q (going_is _ q w) (more_room n r h) tt

pub within_sign : (spot : Spot) (n : ℕ) (r : rows.Row) (u : Used) (g s : Sign) (q : PartReader) → IsRowWithin n r → IsSpotWithin spot → on_sign s (at r u g spot) ≡ going q → IsPartWithin (n + 1) q
within_sign Begin n r u g s q h i w = within_at _ _ q (going_is _ q w) (more_room n r h) tt
within_sign Signed n r u g s q h i w = not_going _ q w
within_sign (Digits k v) n r u g s q h i w = within_at _ _ q (going_is _ q w) (shift_room n g (unit * v) r (omega (arith, i.1.1.0)) h) tt
within_sign (Divided v) n r u g s q h i w = not_going _ q w
within_sign (Below v d) n r u g s q h i w = within_at _ _ q (going_is _ q w) (shift_room n g (parts d * v) r (parts_small d v i.0) h) tt
within_sign Behind n r u g s q h i w = within_at _ _ q (going_is _ q w) (more_room n r h) tt

within_letter : (spot : Spot) (n : ℕ) (r : rows.Row) (u : Used) (g : Sign) (a : Axis) (q : PartReader) → IsRowWithin n r → on_new_letter_at a spot (at r u g spot) ≡ going q → IsPartWithin (n + 1) q
within_letter Begin n r u g a q h w = within_at _ (with_letter a 1 (at r u g Begin)) q (going_is _ q w) (entry_room n a (signed g 1) r h) tt
within_letter Signed n r u g a q h w = within_at _ (with_letter a 1 (at r u g Signed)) q (going_is _ q w) (entry_room n a (signed g 1) r h) tt
within_letter (Digits k v) n r u g a q h w = within_at _ (with_letter a v (at r u g (Digits k v))) q (going_is _ q (met _ kinds.Coefficient _ q w).1) (entry_room n a (signed g v) r h) tt
within_letter spot n r u g a q h w = not_going _ q w

below_three : (n : ℕ) → nat_le 3 n ≡ false → n < 3
below_three n h = grind (arith, nat_tests)

within_below : (n : ℕ) (r : rows.Row) (u : Used) (g : Sign) (v : ℕ) (spot : Spot) (m d : ℕ) (q : PartReader) → IsRowWithin n r → v < 1000 → below_or v (further_digit m d) (at r u g spot) ≡ going q → IsPartWithin (n + 1) q
within_below n r u g v spot m d q h i w =
    let b = below_is v (further_digit m d) (at r u g spot) q w in
    let divides = (further_tells m d b.0 b.1).1 in
    within_at (n + 1) (at r u g (Below v b.0)) q b.2 (more_room n r h) (i, (at_least_one b.0 divides, at_most_unit b.0 divides))

within_digit : (spot : Spot) (n : ℕ) (r : rows.Row) (u : Used) (g : Sign) (d : ℕ) (q : PartReader) → d < 10 → IsRowWithin n r → IsSpotWithin spot → on_digit d (at r u g spot) ≡ going q → IsPartWithin (n + 1) q
within_digit Begin n r u g d q t h i w = within_at _ (at r u g (Digits 1 d)) q (going_is _ q w) (more_room n r h) (omega arith, (omega arith, (omega arith, (λ z. omega arith, λ z. omega arith))))
within_digit Signed n r u g d q t h i w = within_at _ (at r u g (Digits 1 d)) q (going_is _ q w) (more_room n r h) (omega arith, (omega arith, (omega arith, (λ z. omega arith, λ z. omega arith))))
within_digit (Digits k v) n r u g d q t h i w =
    let p = passed _ kinds.Coefficient _ q w in
    let few : k < 3 = below_three k p.0 in
    within_at _ (at r u g (Digits (k + 1) (10 * v + d))) q (going_is _ q p.1) (more_room n r h)
    (omega arith, (omega arith, ((let low = i.1.1.1.0 (omega arith) in omega arith), ((λ z. let low = i.1.1.1.1 (omega arith) in omega arith), λ z. absurd (omega (arith, i.0))))))
within_digit (Divided v) n r u g d q t h i w = within_below n r u g v (Divided v) 0 d q h i w
within_digit (Below v e) n r u g d q t h i w = within_below n r u g v (Below v e) e d q h i.0 w
within_digit Behind n r u g d q t h i w = not_going _ q w

within_slash : (spot : Spot) (n : ℕ) (r : rows.Row) (u : Used) (g : Sign) (q : PartReader) → IsRowWithin n r → IsSpotWithin spot → on_slash (at r u g spot) ≡ going q → IsPartWithin (n + 1) q
within_slash (Digits k v) n r u g q h i w = within_at _ (at r u g (Divided v)) q (going_is _ q w) (more_room n r h) i.1.1.0
within_slash spot n r u g q h i w = not_going _ q w

pub within_part : (m : Mark) (n : ℕ) (p q : PartReader) → IsMarkInRange m → IsPartWithin n p → part_step m p ≡ going q → IsPartWithin (n + 1) q
within_part marks.Blank n p q i h w = within_blank p.spot n p.row p.used p.sign q h.0 h.1 w
within_part (marks.Signs s) n p q i h w = within_sign p.spot n p.row p.used p.sign s q h.0 h.1 w
within_part (marks.Letter a) n p q i h w = within_letter p.spot n p.row p.used p.sign a q h.0 (passed _ _ _ q w).1
within_part (marks.Digit d) n p q i h w = within_digit p.spot n p.row p.used p.sign d q i h.0 h.1 w
within_part marks.Slash n p q i h w = within_slash p.spot n p.row p.used p.sign q h.0 h.1 w
within_part m n p q i h w = not_going _ q w

pub within_begin : (n : ℕ) → IsPartWithin n begin
within_begin n = (omega arith, tt)

within_next : (nt : Notation) → (m : Nth) (n : ℕ) (s t : TripletReader) (r : rows.Row) → next_part nt m s r ≡ going t → IsPartWithin n t.part
within_next nt First n s t r w = subst (λ (x : TripletReader). IsPartWithin n x.part) (sym (going_is _ t w)) (within_begin n)
within_next Pairs Second n s t r w = absurd cc
within_next Triplets Second n s t r w = subst (λ (x : TripletReader). IsPartWithin n x.part) (sym (going_is _ t w)) (within_begin n)
within_next nt Third n s t r w = absurd cc

within_comma : (nt : Notation) → (o : Option PartReader) (n : ℕ) (s t : TripletReader) → comma_at nt o s ≡ going t → IsPartWithin n t.part
within_comma nt None n s t w = absurd cc
within_comma nt (Some p) n s t w = within_next nt s.nth n s t p.row w

within_in_part : (m : Mark) (n : ℕ) (s t : TripletReader) → IsMarkInRange m → IsPartWithin n s.part → in_part s (part_step m s.part) ≡ going t → IsPartWithin (n + 1) t.part
within_in_part m n s t i h w =
    let p = part_step_is (part_step m s.part) s t w in
    subst (λ (x : TripletReader). IsPartWithin (n + 1) x.part) (sym p.state) (within_part m n s.part p.part i h p.part_is)

pub within_by : (nt : Notation) → (m : Mark) (n : ℕ) (s t : TripletReader) → IsMarkInRange m → IsPartWithin n s.part → step nt m s ≡ going t → IsPartWithin (n + 1) t.part
within_by nt marks.Comma n s t i h w = within_comma nt (settled s.part) (n + 1) s t w
within_by nt marks.Hash n s t i h w = absurd cc
within_by nt m n s t i h w = within_in_part m n s t i h w

range_of : (nt : Notation) → (m : Mark) (b : ℕ) → IsMark nt b m → IsMarkInRange m
range_of nt (marks.Digit n) b h = let low = h.0.low in let high = h.0.high in let e = h.2 in omega arith
range_of nt m b h = tt

pub mark_range : (nt : Notation) → (b : ℕ) → IsMarkInRange (mark nt b)
mark_range nt b = range_of nt (mark nt b) b (mark_is nt b)

pub within_step : (nt : Notation) → (n : ℕ) (s t : TripletReader) (b : ℕ) → IsPartWithin n s.part → step nt (mark nt b) s ≡ going t → IsPartWithin (n + 1) t.part
within_step nt n s t b h w = within_by nt (mark nt b) n s t (mark_range nt b) h w

pub within_start : IsPartWithin 0 begin
within_start = within_begin 0

small_spot : (spot : Spot) → IsSpotWithin spot → IsSpotSmall spot
small_spot (Digits n v) h = (h.1.0, h.1.1.0)
small_spot (Divided v) h = h
small_spot (Below v d) h = h
small_spot spot h = tt

roomy_size : (z : ℤ) → nat_abs z ≤ 2 ^ 50 → (neg_ℤ (pos (2 ^ 50)) ≤ℤ z) × (z ≤ℤ pos (2 ^ 50))
roomy_size (pos m) h = (omega (arith, ints), omega (arith, ints))
roomy_size (negsuc m) h = (omega (arith, ints), omega (arith, ints))

roomy : (r : rows.Row) → nat_abs r.translation ≤ 2 ^ 50 → IsRoomy r
roomy r h = let z = roomy_size r.translation h in record { above = z.0; below = z.1 }

pub small : (n : ℕ) (p : PartReader) → n ≤ 16777216 → IsPartWithin n p → IsSmall p
small n p b h = record { row = roomy p.row (omega (arith, h.0)); spot = small_spot p.spot h.1 }
