-- What is kept of a line stays within its bounds, also in the heading.
use Rattle.std.proofs.Common.{◌≡◌, ℕ, ◌+◌, ◌≤◌, Bool, true, false, cond, Result, Ok, Err, refl, sym, subst}
use Rattle.std.specs.Prelude.{◌==◌}
use Rattle.triplets.specs.declared.notation.Notation.{Notation}
use Rattle.triplets.specs.declared.fault.TextKind.{TextKind}
use Rattle.triplets.specs.declared.marks.Mark.{Mark}
use Rattle.triplets.specs.declared.marks.Mark.TheVariants as marks
use Rattle.triplets.specs.declared.line.LinePlace.{LinePlace}
use Rattle.triplets.specs.declared.line.LinePlace.TheVariants as places
use Rattle.triplets.specs.declared.heading.HeadingPlace.{HeadingPlace}
use Rattle.triplets.specs.declared.heading.HeadingPlace.TheVariants as words
use Rattle.triplets.specs.declared.place.TextPlace.{TextPlace}
use Rattle.triplets.specs.declared.place.TextPlace.TheVariants as texts
use Rattle.triplets.specs.Marks.{mark}
use Rattle.triplets.specs.LineReading.{start_step, place_step}
use Rattle.triplets.specs.HeadingReading.{in_heading, in_line, begin_line, text_step, heading_step, IsTextPlaceSmall}
use Rattle.triplets.specs.PlaceBounds.{IsPlaceWithin, IsTextPlaceWithin}
use Rattle.triplets.proofs.LineBounds.{place_within, place_small}
use Rattle.triplets.proofs.Runs.{going}

abbrev stands_at : TextPlace → Result TextPlace TextKind
stands_at p = Ok p

same_place : (n : ℕ) (p q : TextPlace) → stands_at p ≡ stands_at q → IsTextPlaceWithin n p → IsTextPlaceWithin n q
same_place n p q e h = subst (IsTextPlaceWithin n) (let z : p ≡ q = cc in z) h

line_within : (n : ℕ) (r : Result LinePlace TextKind) (q : TextPlace) → ((p : LinePlace) → r ≡ going p → IsPlaceWithin n p) → in_line r ≡ stands_at q → IsTextPlaceWithin n q
line_within n (Ok p) q f e = same_place n (texts.Line p) q e (f p refl)
line_within n (Err k) q f e = absurd cc

heading_within : (n : ℕ) (r : Result HeadingPlace TextKind) (q : TextPlace) → in_heading r ≡ stands_at q → IsTextPlaceWithin n q
heading_within n (Ok p) q e = same_place n (texts.Heading p) q e tt
heading_within n (Err k) q e = absurd cc

first_within : (nt : Notation) → (m : Mark) (b n : ℕ) (q : TextPlace) → mark nt b ≡ m → begin_line nt m ≡ stands_at q → IsTextPlaceWithin (n + 1) q
first_within nt m b n q i e = by m i e
  where
    begun : (m : Mark) → mark nt b ≡ m → in_line (start_step nt m) ≡ stands_at q → IsTextPlaceWithin (n + 1) q
    begun m i e = line_within (n + 1) (start_step nt m) q (λ p w. place_within nt b n places.Start p tt (subst (λ x. start_step nt x ≡ going p) (sym i) w)) e

    by : (m : Mark) → mark nt b ≡ m → begin_line nt m ≡ stands_at q → IsTextPlaceWithin (n + 1) q
    by marks.Blank i e = same_place (n + 1) texts.Beginning q e tt
    by m i e = begun m i e

beginning_within : (nt : Notation) → (t : Bool) (b n : ℕ) (q : TextPlace) → cond t (stands_at (texts.Heading words.G)) (begin_line nt (mark nt b)) ≡ stands_at q → IsTextPlaceWithin (n + 1) q
beginning_within nt true b n q e = same_place (n + 1) (texts.Heading words.G) q e tt
beginning_within nt false b n q e = first_within nt (mark nt b) b n q refl e

-- the place stays within what the column allows
pub text_place_within : (nt : Notation) → (b n : ℕ) (p q : TextPlace) → IsTextPlaceWithin n p → text_step nt b p ≡ stands_at q → IsTextPlaceWithin (n + 1) q
text_place_within nt b n texts.Beginning q h e = beginning_within nt (b == 103) b n q e
text_place_within nt b n (texts.Heading p) q h e = heading_within (n + 1) (heading_step nt b p) q e
text_place_within nt b n (texts.Line p) q h e = line_within (n + 1) (place_step nt (mark nt b) p) q (λ r w. place_within nt b n p r h w) e

pub text_place_small : (p : TextPlace) (n : ℕ) → n ≤ 16777216 → IsTextPlaceWithin n p → IsTextPlaceSmall p
text_place_small texts.Beginning n b h = tt
text_place_small (texts.Heading p) n b h = tt
text_place_small (texts.Line p) n b h = place_small p n b h
