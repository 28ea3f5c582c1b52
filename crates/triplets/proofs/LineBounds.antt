-- The numbers of the reader of a text stay small.
use Rattle.std.proofs.Common.{◌≡◌, ℕ, ◌+◌, ◌≤◌, Bool, true, false, cond, List, Option, Some, None, Result, Ok, Err, ℤ, refl, sym, subst, arith}
use Rattle.std.specs.Prelude.{◌&&◌}
use Rattle.motions.specs.declared.motion.Sign.{Sign}
use Rattle.motions.specs.declared.motion.Sign.TheVariants.{Plus}
use Rattle.triplets.specs.declared.notation.Notation.{Notation}
use Rattle.triplets.specs.declared.notation.Notation.TheVariants.{Triplets, Pairs}
use Rattle.triplets.specs.declared.fault.TextKind.{TextKind}
use Rattle.triplets.specs.declared.marks.Mark.{Mark}
use Rattle.triplets.specs.declared.marks.Mark.TheVariants as marks
use Rattle.triplets.specs.declared.part.PartReader.{PartReader}
use Rattle.triplets.specs.declared.part.Spot.{Spot}
use Rattle.triplets.specs.declared.part.Spot.TheVariants.{Begin, Behind}
use Rattle.triplets.specs.declared.triplet.Nth.{Nth}
use Rattle.triplets.specs.declared.triplet.Nth.TheVariants.{First, Second, Third}
use Rattle.motions.specs.declared.motion.Motion3.{Motion3}
use Rattle.triplets.specs.declared.triplet.TripletReader.{TripletReader}
use Rattle.fractions.specs.declared.part.Part.{Part}
use Rattle.triplets.specs.declared.line.VectorReader.{VectorReader}
use Rattle.triplets.specs.declared.line.LinePlace.{LinePlace}
use Rattle.triplets.specs.declared.line.LinePlace.TheVariants as places
use Rattle.triplets.specs.Marks.{mark, IsMarkInRange}
use Rattle.triplets.specs.PartReading.{settled, part_step}
use Rattle.triplets.specs.TripletReading.{start, step, value}
use Rattle.triplets.specs.LineReading.{in_operation, in_coordinate, next_coordinate, coordinate_comma, closed_at, is_digits, coordinate_sign, vector_step, start_step, comment_behind, operation_step, closed_step, behind_step, place_step, IsPlaceSmall}
use Rattle.triplets.specs.PlaceBounds.{IsPartWithin, IsPlaceWithin}
use Rattle.triplets.proofs.Bounds.{more_room, within_part, within_by, within_begin, mark_range, small}
use Rattle.triplets.proofs.Runs.{going, going_is, not_going}

bounded : (n : ℕ) (p q : LinePlace) → going p ≡ going q → IsPlaceWithin n p → IsPlaceWithin n q
bounded n p q e h = subst (IsPlaceWithin n) (sym (going_is p q e)) h

bounded_operation : (n : ℕ) (r : Result TripletReader TextKind) (q : LinePlace) → ((t : TripletReader) → r ≡ going t → IsPartWithin n t.part) → in_operation r ≡ going q → IsPlaceWithin n q
bounded_operation n (Ok t) q f e = bounded n _ q e (f t refl)
bounded_operation n (Err k) q f e = not_going _ q e

bounded_coordinate : (n : ℕ) (r : Result PartReader TextKind) (l : Bool) (v : VectorReader) (q : LinePlace) → ((p : PartReader) → r ≡ going p → IsPartWithin n p) → in_coordinate l v r ≡ going q → IsPlaceWithin n q
bounded_coordinate n (Ok p) l v q f e = bounded n _ q e (f p refl)
bounded_coordinate n (Err k) l v q f e = not_going _ q e

bounded_next : (nt : Notation) → (m : Nth) (n : ℕ) (v : VectorReader) (x : ℤ) (q : LinePlace) → next_coordinate nt m v x ≡ going q → IsPlaceWithin n q
bounded_next nt First n v x q e = bounded n _ q e (within_begin n)
bounded_next Pairs Second n v x q e = not_going _ q e
bounded_next Triplets Second n v x q e = bounded n _ q e (within_begin n)
bounded_next nt Third n v x q e = not_going _ q e

bounded_comma : (nt : Notation) → (o : Option PartReader) (n : ℕ) (v : VectorReader) (q : LinePlace) → coordinate_comma nt o v ≡ going q → IsPlaceWithin n q
bounded_comma nt None n v q e = not_going _ q e
bounded_comma nt (Some p) n v q e = bounded_next nt v.nth n v p.row.translation q e

bounded_closed : (nt : Notation) → (m : Nth) (o : Option PartReader) (n : ℕ) (v : VectorReader) (q : LinePlace) → closed_at nt m o v ≡ going q → IsPlaceWithin n q
bounded_closed nt First None n v q e = not_going _ q e
bounded_closed nt Second None n v q e = not_going _ q e
bounded_closed nt Third None n v q e = not_going _ q e
bounded_closed nt First (Some p) n v q e = not_going _ q e
bounded_closed Triplets Second (Some p) n v q e = not_going _ q e
bounded_closed Pairs Second (Some p) n v q e = bounded n _ q e tt
bounded_closed Triplets Third (Some p) n v q e = bounded n _ q e tt
bounded_closed Pairs Third (Some p) n v q e = not_going _ q e

bounded_close : (nt : Notation) → (b : Bool) (n : ℕ) (v : VectorReader) (q : LinePlace) → cond b (going (places.Operation start)) (closed_at nt v.nth (settled v.part) v) ≡ going q → IsPlaceWithin n q
bounded_close nt true n v q e = bounded n _ q e (within_begin n)
bounded_close nt false n v q e = bounded_closed nt v.nth (settled v.part) n v q e

bounded_sign : (spot : Spot) (s : Sign) (n : ℕ) (v : VectorReader) (q : LinePlace) → IsPartWithin n v.part → coordinate_sign s spot v ≡ going q → IsPlaceWithin (n + 1) q
bounded_sign Begin s n v q h e = bounded (n + 1) _ q e (more_room n v.part.row h.0, tt)
bounded_sign spot s n v q h e = not_going _ q e

bounded_vector : (nt : Notation) → (m : Mark) (n : ℕ) (v : VectorReader) (q : LinePlace) → IsMarkInRange m → IsPartWithin n v.part → vector_step nt m v ≡ going q → IsPlaceWithin (n + 1) q
bounded_vector nt (marks.Signs s) n v q i h e = bounded_sign v.part.spot s n v q h e
bounded_vector nt marks.Comma n v q i h e = bounded_comma nt (settled v.part) (n + 1) v q e
bounded_vector nt marks.Close n v q i h e = bounded_close nt (v.label && is_digits v.part.spot) (n + 1) v q e
bounded_vector nt (marks.Digit d) n v q i h e = bounded_coordinate (n + 1) (part_step (marks.Digit d) v.part) v.label v q (λ p w. within_part (marks.Digit d) n v.part p i h w) e
bounded_vector nt marks.Blank n v q i h e = bounded_coordinate (n + 1) (part_step marks.Blank v.part) false v q (λ p w. within_part marks.Blank n v.part p i h w) e
bounded_vector nt marks.Slash n v q i h e = bounded_coordinate (n + 1) (part_step marks.Slash v.part) false v q (λ p w. within_part marks.Slash n v.part p i h w) e
bounded_vector nt m n v q i h e = not_going _ q e

bounded_step : (nt : Notation) → (m : Mark) (n : ℕ) (t : TripletReader) (q : LinePlace) → IsMarkInRange m → IsPartWithin n t.part → in_operation (step nt m t) ≡ going q → IsPlaceWithin (n + 1) q
bounded_step nt m n t q i h e = bounded_operation (n + 1) (step nt m t) q (λ u w. within_by nt m n t u i h w) e

bounded_start : (nt : Notation) → (m : Mark) (n : ℕ) (q : LinePlace) → IsMarkInRange m → start_step nt m ≡ going q → IsPlaceWithin (n + 1) q
bounded_start nt marks.Blank n q i e = bounded (n + 1) _ q e tt
bounded_start nt marks.Open n q i e = bounded (n + 1) _ q e (within_begin (n + 1))
bounded_start nt marks.Hash n q i e = bounded (n + 1) _ q e tt
bounded_start nt m n q i e = bounded_step nt m n start q i (within_begin n) e

bounded_behind_comment : (o : Option Motion3) (n : ℕ) (q : LinePlace) → comment_behind o ≡ going q → IsPlaceWithin n q
bounded_behind_comment None n q e = not_going _ q e
bounded_behind_comment (Some t) n q e = bounded n _ q e tt

bounded_in_operation : (nt : Notation) → (m : Mark) (n : ℕ) (t : TripletReader) (q : LinePlace) → IsMarkInRange m → IsPartWithin n t.part → operation_step nt m t ≡ going q → IsPlaceWithin (n + 1) q
bounded_in_operation nt marks.Hash n t q i h e = bounded_behind_comment (value nt t) (n + 1) q e
bounded_in_operation nt m n t q i h e = bounded_step nt m n t q i h e

bounded_in_closed : (m : Mark) (n : ℕ) (v : List Part) (q : LinePlace) → closed_step m v ≡ going q → IsPlaceWithin n q
bounded_in_closed marks.Blank n v q e = bounded n _ q e tt
bounded_in_closed (marks.Signs Plus) n v q e = bounded n _ q e tt
bounded_in_closed m n v q e = not_going _ q e

bounded_in_behind : (m : Mark) (n : ℕ) (q : LinePlace) → behind_step m ≡ going q → IsPlaceWithin n q
bounded_in_behind marks.Blank n q e = bounded n _ q e tt
bounded_in_behind marks.Open n q e = bounded n _ q e (within_begin n)
bounded_in_behind marks.Hash n q e = bounded n _ q e tt
bounded_in_behind m n q e = not_going _ q e

bounded_place : (nt : Notation) → (p : LinePlace) (b : ℕ) (n : ℕ) (q : LinePlace) → IsPlaceWithin n p → place_step nt (mark nt b) p ≡ going q → IsPlaceWithin (n + 1) q
bounded_place nt places.Start b n q h e = bounded_start nt (mark nt b) n q (mark_range nt b) e
bounded_place nt (places.Operation t) b n q h e = bounded_in_operation nt (mark nt b) n t q (mark_range nt b) h e
bounded_place nt (places.Coordinates v) b n q h e = bounded_vector nt (mark nt b) n v q (mark_range nt b) h e
bounded_place nt (places.Closed v) b n q h e = bounded_in_closed (mark nt b) (n + 1) v q e
bounded_place nt places.Behind b n q h e = bounded_in_behind (mark nt b) (n + 1) q e
bounded_place nt (places.Comment o) b n q h e = bounded (n + 1) _ q e tt

-- the place stays within what the column allows
pub place_within : (nt : Notation) → (b n : ℕ) (p q : LinePlace) → IsPlaceWithin n p → place_step nt (mark nt b) p ≡ going q → IsPlaceWithin (n + 1) q
place_within nt b n p q h e = bounded_place nt p b n q h e

pub place_small : (p : LinePlace) (n : ℕ) → n ≤ 16777216 → IsPlaceWithin n p → IsPlaceSmall p
place_small (places.Operation t) n b h = small n t.part (omega arith) h
place_small (places.Coordinates v) n b h = small n v.part (omega arith) h
place_small p n b h = tt
