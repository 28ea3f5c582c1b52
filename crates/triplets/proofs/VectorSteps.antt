-- In a vector each byte that the reader takes goes on with the beginning of a line.
use Rattle.std.proofs.Common.{◌≡◌, ℕ, Bool, true, false, cond, List, [], ◌∷◌, ◌++◌, Option, Some, None, Result, Ok, Err, pos, refl, sym, ◌∙◌, ap, subst, arith, append_assoc}
use Rattle.std.specs.Prelude.{◌&&◌}
use Rattle.std.proofs.lemmas.List.{append-nil}
use Rattle.motions.specs.declared.motion.Sign.{Sign}
use Rattle.triplets.specs.declared.notation.Notation.{Notation}
use Rattle.triplets.specs.declared.notation.Notation.TheVariants.{Triplets, Pairs}
use Rattle.triplets.specs.Rows.{parts_with}
use Rattle.triplets.specs.declared.fault.TextKind.{TextKind}
use Rattle.triplets.specs.declared.marks.Mark.{Mark}
use Rattle.triplets.specs.declared.marks.Mark.TheVariants as marks
use Rattle.triplets.specs.declared.part.PartReader.{PartReader}
use Rattle.triplets.specs.declared.triplet.Nth.TheVariants.{First, Second, Third}
use Rattle.triplets.specs.declared.line.VectorReader.{VectorReader}
use Rattle.triplets.specs.declared.line.LinePlace.{LinePlace}
use Rattle.triplets.specs.declared.line.LinePlace.TheVariants as places
use Rattle.triplets.specs.PartReading.{begin, settled, part_step, with_sign, on_digit}
use Rattle.triplets.specs.TripletReading.{start, value}
use Rattle.triplets.specs.Grammar.{Blank, blanks_text, sign_byte, Digit, digit_value, digits_text, bare, sign, more}
use Rattle.triplets.specs.Lines.{coordinate_text, coordinate_value, Centrings}
use Rattle.triplets.specs.LineReading.{in_coordinate, coordinate_comma, closed_at, on_close, is_digits, coordinate_sign, vector_step}
use Rattle.triplets.proofs.Bytes.{IsMark}
use Rattle.triplets.proofs.Partials.{Partial, lead, partial_text, partial_state, IsLike, is_plain, grows_by, whole_coordinate, digit_more, digits_more}
use Rattle.triplets.proofs.Wholes.{in_first, nothing}
use Rattle.triplets.proofs.Runs.{going, going_is, not_going}
use Rattle.triplets.proofs.LineBegun.{Opening, no_digit, some_digits, opening_text, opening_part, VectorBegun, in_one, in_two, in_three, vector_text, vector_state, prior_value, at_opening, at_operation, at_vector, at_closed, closed_text, line_text, state_of, Reaches, at_state, bracket_more}

-- ---- in a vector

record InCoordinate (l : Bool) (v : VectorReader) (r : Result PartReader TextKind) (p : LinePlace) : Type 0 where
  part : PartReader
  part_is : r ≡ going part
  place : p ≡ places.Coordinates (record v { part = part; label = l })

in_coordinate_is : (l : Bool) (v : VectorReader) (r : Result PartReader TextKind) (p : LinePlace) → in_coordinate l v r ≡ going p → InCoordinate l v r p
in_coordinate_is l v (Ok q) p e = record { part = q; part_is = refl; place = going_is _ p e }
in_coordinate_is l v (Err k) p e = not_going _ p e

-- the vector begun with more in its last coordinate
abbrev with_last : (nt : Notation) → VectorBegun nt → (q : Partial nt) → IsLike nt q → VectorBegun nt
with_last nt (in_one q h) to like = in_one to like
with_last nt (in_two c q h) to like = in_two c to like
with_last nt (in_three i c d q h) to like = in_three i c d to like

abbrev last_part : (nt : Notation) → VectorBegun nt → Partial nt
last_part nt (in_one q h) = q
last_part nt (in_two c q h) = q
last_part nt (in_three i c d q h) = q

last_like : (nt : Notation) → (v : VectorBegun nt) → IsLike nt (last_part nt v)
last_like nt (in_one q h) = h
last_like nt (in_two c q h) = h
last_like nt (in_three i c d q h) = h

last_text : (nt : Notation) → (v : VectorBegun nt) (to : Partial nt) (like : IsLike nt to) (b : ℕ) → partial_text nt (last_part nt v) ++ b ∷ [] ≡ partial_text nt to → vector_text nt v ++ b ∷ [] ≡ vector_text nt (with_last nt v to like)
last_text nt (in_one q h) to like b e = e
last_text nt (in_two c q h) to like b e = append_assoc (coordinate_text nt c) (44 ∷ partial_text nt q) (b ∷ []) ∙ ap (λ (x : List ℕ). coordinate_text nt c ++ (44 ∷ x)) e
last_text nt (in_three i c d q h) to like b e =
    append_assoc (coordinate_text nt c) (44 ∷ (coordinate_text nt d ++ (44 ∷ partial_text nt q))) (b ∷ [])
    ∙ ap (λ (x : List ℕ). coordinate_text nt c ++ (44 ∷ x)) (append_assoc (coordinate_text nt d) (44 ∷ partial_text nt q) (b ∷ []) ∙ ap (λ (x : List ℕ). coordinate_text nt d ++ (44 ∷ x)) e)

last_state : (nt : Notation) → (v : VectorBegun nt) (to : Partial nt) (like : IsLike nt to) (p : PartReader) → p ≡ partial_state nt to → (let r : VectorReader = record (vector_state nt v) { part = p; label = false } in r) ≡ vector_state nt (with_last nt v to like)
last_state nt (in_one q h) to like p e = ap (λ (x : PartReader). record { nth = First; first = pos 0; second = pos 0; part = x; label = false }) e
last_state nt (in_two c q h) to like p e = ap (λ (x : PartReader). record { nth = Second; first = coordinate_value nt c; second = pos 0; part = x; label = false }) e
last_state nt (in_three i c d q h) to like p e = ap (λ (x : PartReader). record { nth = Third; first = coordinate_value nt c; second = coordinate_value nt d; part = x; label = false }) e

plain_reaches : (nt : Notation) → (r : Option (Centrings nt)) (bs : List Blank) (v : VectorBegun nt) (m : Mark) (b : ℕ) (p : LinePlace) → is_plain m ≡ true → IsMark nt b m → in_coordinate false (vector_state nt v) (part_step m (partial_state nt (last_part nt v))) ≡ going p →
    Reaches nt (at_vector r bs v) b p (prior_value nt r)
plain_reaches nt r bs v m b p plain i e =
    let h = in_coordinate_is false (vector_state nt v) (part_step m (partial_state nt (last_part nt v))) p e in
    let g = grows_by nt m (last_part nt v) b h.part i h.part_is in
    let like = g.like plain (last_like nt v) in
    record {
      to = at_vector r bs (with_last nt v g.to like);
      text = bracket_more nt r bs (vector_text nt v) (b ∷ []) (vector_text nt (with_last nt v g.to like)) (last_text nt v g.to like b g.text);
      state = ap (λ (x : LinePlace). state_of x (prior_value nt r)) (h.place ∙ ap (λ (x : VectorReader). places.Coordinates x) (last_state nt v g.to like h.part g.state));
    }

part_of : (nt : Notation) → (v : VectorBegun nt) → (vector_state nt v).part ≡ partial_state nt (last_part nt v)
part_of nt (in_one q h) = refl
part_of nt v = refl

plain_step : (nt : Notation) → (r : Option (Centrings nt)) (bs : List Blank) (v : VectorBegun nt) (m : Mark) (b : ℕ) (p : LinePlace) → is_plain m ≡ true → IsMark nt b m → in_coordinate false (vector_state nt v) (part_step m (vector_state nt v).part) ≡ going p →
    Reaches nt (at_vector r bs v) b p (prior_value nt r)
plain_step nt r bs v m b p plain i e = plain_reaches nt r bs v m b p plain i (subst (λ (x : PartReader). in_coordinate false (vector_state nt v) (part_step m x) ≡ going p) (part_of nt v) e)

label_of : (nt : Notation) → (v : VectorBegun nt) → (vector_state nt v).label ≡ false
label_of nt (in_one q h) = refl
label_of nt v = refl

-- a sign at the beginning of a coordinate
sign_reaches : (nt : Notation) → (r : Option (Centrings nt)) (bs : List Blank) (v : VectorBegun nt) (q : Partial nt) (s : Sign) (p : LinePlace) → last_part nt v ≡ q → IsLike nt q → coordinate_sign s (partial_state nt q).spot (vector_state nt v) ≡ going p →
    Reaches nt (at_vector r bs v) (sign_byte s) p (prior_value nt r)
sign_reaches nt r bs v (lead (bare cs) good) s p l h e =
    let to = lead (sign cs s []) tt in
    record {
      to = at_vector r bs (with_last nt v to tt);
      text = bracket_more nt r bs (vector_text nt v) (sign_byte s ∷ []) (vector_text nt (with_last nt v to tt)) (last_text nt v to tt (sign_byte s) (ap (λ (x : Partial nt). partial_text nt x ++ sign_byte s ∷ []) l));
      state = ap (λ (x : LinePlace). state_of x (prior_value nt r)) (going_is _ p e ∙ ap (λ (x : VectorReader). places.Coordinates x) (last_state nt v to tt (with_sign s (vector_state nt v).part) (ap (with_sign s) (part_of nt v ∙ ap (partial_state nt) l))));
    }
sign_reaches nt r bs v (lead (more k t cs u ds) good) s p l h e = absurd h
sign_reaches nt r bs v q s p l h e = not_going _ p e

-- a comma
comma_reaches : (nt : Notation) → (v : VectorBegun nt) (o : Option PartReader) (r : Option (Centrings nt)) (bs : List Blank) (p : LinePlace) → settled (partial_state nt (last_part nt v)) ≡ o → coordinate_comma nt o (vector_state nt v) ≡ going p → Reaches nt (at_vector r bs v) 44 p (prior_value nt r)
comma_reaches nt v None r bs p s e = not_going _ p e
comma_reaches nt (in_one q h) (Some x) r bs p s e =
    let c = whole_coordinate nt q x h s in
    record {
      to = at_vector r bs (in_two c.coordinate (nothing nt) tt);
      text = bracket_more nt r bs (partial_text nt q) (44 ∷ []) (coordinate_text nt c.coordinate ++ (44 ∷ [])) (ap (λ (y : List ℕ). y ++ (44 ∷ [])) c.text);
      state = at_state p _ (prior_value nt r) e ∙ ap (λ y. state_of (places.Coordinates (record { nth = Second; first = y; second = pos 0; part = begin; label = false })) (prior_value nt r)) c.value;
    }
comma_reaches Pairs (in_two d q h) (Some x) r bs p s e = not_going _ p e
comma_reaches Triplets (in_two d q h) (Some x) r bs p s e =
    let nt : Notation = Triplets in
    let c = whole_coordinate nt q x h s in
    record {
      to = at_vector r bs (in_three refl d c.coordinate (nothing nt) tt);
      text = bracket_more nt r bs (coordinate_text nt d ++ (44 ∷ partial_text nt q)) (44 ∷ []) (coordinate_text nt d ++ (44 ∷ (coordinate_text nt c.coordinate ++ (44 ∷ []))))
          (append_assoc (coordinate_text nt d) (44 ∷ partial_text nt q) (44 ∷ []) ∙ ap (λ (y : List ℕ). coordinate_text nt d ++ (44 ∷ (y ++ (44 ∷ [])))) c.text);
      state = at_state p _ (prior_value nt r) e ∙ ap (λ y. state_of (places.Coordinates (record { nth = Third; first = coordinate_value nt d; second = y; part = begin; label = false })) (prior_value nt r)) c.value;
    }
comma_reaches nt (in_three i d f q h) (Some x) r bs p s e = not_going _ p e

-- a bracket
close_reaches : (nt : Notation) → (v : VectorBegun nt) (o : Option PartReader) (r : Option (Centrings nt)) (bs : List Blank) (p : LinePlace) → settled (partial_state nt (last_part nt v)) ≡ o → closed_at nt (vector_state nt v).nth o (vector_state nt v) ≡ going p → Reaches nt (at_vector r bs v) 41 p (prior_value nt r)
close_reaches nt (in_one q h) None r bs p s e = not_going _ p e
close_reaches nt (in_two c q h) None r bs p s e = not_going _ p e
close_reaches nt (in_three i c d q h) None r bs p s e = not_going _ p e
close_reaches nt (in_one q h) (Some x) r bs p s e = not_going _ p e
close_reaches Triplets (in_two c q h) (Some x) r bs p s e = not_going _ p e
close_reaches Pairs (in_two c q h) (Some x) r bs p s e =
    let nt : Notation = Pairs in
    let f = whole_coordinate nt q x h s in
    record {
      to = at_closed r bs c f.coordinate tt [];
      text = bracket_more nt r bs (vector_text nt (in_two c q h)) (41 ∷ []) (closed_text nt c f.coordinate tt [])
          (append_assoc (coordinate_text nt c) (44 ∷ partial_text nt q) (41 ∷ []) ∙ ap (λ (y : List ℕ). coordinate_text nt c ++ (44 ∷ (y ++ (41 ∷ [])))) f.text);
      state = at_state p _ (prior_value nt r) e ∙ ap (λ y. state_of (places.Closed (parts_with (coordinate_value nt c) y (pos 0))) (prior_value nt r)) f.value;
    }
close_reaches Pairs (in_three i c d q h) (Some x) r bs p s e = absurd cc
close_reaches Triplets (in_three i c d q h) (Some x) r bs p s e =
    let nt : Notation = Triplets in
    let f = whole_coordinate nt q x h s in
    record {
      to = at_closed r bs c d f.coordinate [];
      text = bracket_more nt r bs (vector_text nt (in_three i c d q h)) (41 ∷ []) (closed_text nt c d f.coordinate [])
          (append_assoc (coordinate_text nt c) (44 ∷ (coordinate_text nt d ++ (44 ∷ partial_text nt q))) (41 ∷ [])
          ∙ ap (λ (y : List ℕ). coordinate_text nt c ++ (44 ∷ y)) (append_assoc (coordinate_text nt d) (44 ∷ partial_text nt q) (41 ∷ []) ∙ ap (λ (y : List ℕ). coordinate_text nt d ++ (44 ∷ (y ++ (41 ∷ [])))) f.text));
      state = at_state p _ (prior_value nt r) e ∙ ap (λ y. state_of (places.Closed (parts_with (coordinate_value nt c) (coordinate_value nt d) y)) (prior_value nt r)) f.value;
    }

pub no_label : (l d : Bool) (x y : Result LinePlace TextKind) → l ≡ false → cond (l && d) x y ≡ y
no_label true d x y e = absurd cc
no_label false d x y e = refl

pub vector_reaches : (nt : Notation) → (m : Mark) (r : Option (Centrings nt)) (bs : List Blank) (v : VectorBegun nt) (b : ℕ) (p : LinePlace) → IsMark nt b m → vector_step nt m (vector_state nt v) ≡ going p → Reaches nt (at_vector r bs v) b p (prior_value nt r)
vector_reaches nt (marks.Signs s) r bs v b p i e =
    subst (λ c. Reaches nt (at_vector r bs v) c p (prior_value nt r)) (sym i)
    (sign_reaches nt r bs v (last_part nt v) s p refl (last_like nt v) (subst (λ (x : PartReader). coordinate_sign s x.spot (vector_state nt v) ≡ going p) (part_of nt v) e))
vector_reaches nt marks.Comma r bs v b p i e =
    subst (λ c. Reaches nt (at_vector r bs v) c p (prior_value nt r)) (sym i)
    (comma_reaches nt v (settled (partial_state nt (last_part nt v))) r bs p refl (subst (λ (x : PartReader). coordinate_comma nt (settled x) (vector_state nt v) ≡ going p) (part_of nt v) e))
vector_reaches nt marks.Close r bs v b p i e =
    subst (λ c. Reaches nt (at_vector r bs v) c p (prior_value nt r)) (sym i)
    (close_reaches nt v (settled (partial_state nt (last_part nt v))) r bs p refl
    (subst (λ (x : PartReader). closed_at nt (vector_state nt v).nth (settled x) (vector_state nt v) ≡ going p) (part_of nt v)
    (sym (no_label (vector_state nt v).label (is_digits (vector_state nt v).part.spot) (going (places.Operation start)) (closed_at nt (vector_state nt v).nth (settled (vector_state nt v).part) (vector_state nt v)) (label_of nt v)) ∙ e)))
vector_reaches nt (marks.Digit n) r bs v b p i e = plain_step nt r bs v (marks.Digit n) b p refl i (subst (λ l. in_coordinate l (vector_state nt v) (part_step (marks.Digit n) (vector_state nt v).part) ≡ going p) (label_of nt v) e)
vector_reaches nt marks.Blank r bs v b p i e = plain_step nt r bs v marks.Blank b p refl i e
vector_reaches nt marks.Slash r bs v b p i e = plain_step nt r bs v marks.Slash b p refl i e
vector_reaches nt m r bs v b p i e = not_going _ p e

-- ---- behind an opening bracket

pub opening_like : (nt : Notation) → (o : Opening) → IsLike nt (opening_part nt o)
opening_like nt no_digit = tt
opening_like nt (some_digits d ds short) = tt

opening_is : (nt : Notation) → (o : Opening) → partial_text nt (opening_part nt o) ≡ opening_text o
opening_is nt no_digit = refl
opening_is nt (some_digits d ds short) = refl

-- as the beginning of a vector
abbrev pub as_vector : (nt : Notation) → Opening → VectorBegun nt
as_vector nt o = in_one (opening_part nt o) (opening_like nt o)

abbrev open_state : (nt : Notation) → Opening → VectorReader
open_state nt o = record { nth = First; first = pos 0; second = pos 0; part = partial_state nt (opening_part nt o); label = true }

pub as_vector_text : (nt : Notation) → (bs : List Blank) (o : Opening) → line_text nt (at_vector None bs (as_vector nt o)) ≡ line_text nt (at_opening bs o)
as_vector_text nt bs o = ap (λ (x : List ℕ). blanks_text bs ++ (40 ∷ x)) (opening_is nt o)

from_vector : (nt : Notation) → (bs : List Blank) (o : Opening) (b : ℕ) (p : LinePlace) → Reaches nt (at_vector None bs (as_vector nt o)) b p [] → Reaches nt (at_opening bs o) b p []
from_vector nt bs o b p h = record { to = h.to; text = ap (λ (x : List ℕ). x ++ b ∷ []) (sym (as_vector_text nt bs o)) ∙ h.text; state = h.state }

opening_digit : (nt : Notation) → (o : Opening) (bs : List Blank) (d : Digit) (p : LinePlace) → in_coordinate true (open_state nt o) (on_digit (digit_value d) (partial_state nt (opening_part nt o))) ≡ going p → Reaches nt (at_opening bs o) d.byte p []
opening_digit nt no_digit bs d p e = record {
  to = at_opening bs (some_digits d [] (omega arith));
  text = append_assoc (blanks_text bs) (40 ∷ []) (d.byte ∷ []);
  state = at_state p _ [] e;
}
opening_digit nt (some_digits f ds short) bs d p e =
    let h = in_coordinate_is true (open_state nt (some_digits f ds short)) (on_digit (digit_value d) (partial_state nt (opening_part nt (some_digits f ds short)))) p e in
    let g = digit_more nt (bare []) tt f ds short d h.part h.part_is in
    record {
      to = at_opening bs (some_digits f (ds ++ d ∷ []) g.short);
      text = append_assoc (blanks_text bs) (40 ∷ f.byte ∷ digits_text ds) (d.byte ∷ []) ∙ ap (λ (x : List ℕ). blanks_text bs ++ (40 ∷ f.byte ∷ x)) (digits_more ds d);
      state = ap (λ (x : LinePlace). state_of x []) (h.place ∙ ap (λ (x : PartReader). places.Coordinates (record { nth = First; first = pos 0; second = pos 0; part = x; label = true })) g.state);
    }

opening_close : (nt : Notation) → (o : Opening) (bs : List Blank) (p : LinePlace) → on_close nt (open_state nt o) ≡ going p → Reaches nt (at_opening bs o) 41 p []
opening_close nt no_digit bs p e = not_going _ p e
opening_close nt (some_digits d ds short) bs p e = record {
  to = at_operation (Some (record { before = bs; number = record { first = d; others = ds; short = short } })) (in_first (nothing nt));
  text = append_assoc (blanks_text bs) (40 ∷ d.byte ∷ digits_text ds) (41 ∷ []) ∙ sym (append-nil (blanks_text bs ++ (40 ∷ d.byte ∷ (digits_text ds ++ 41 ∷ []))));
  state = at_state p _ [] e;
}

pub opening_reaches : (nt : Notation) → (m : Mark) (bs : List Blank) (o : Opening) (b : ℕ) (p : LinePlace) → IsMark nt b m → vector_step nt m (open_state nt o) ≡ going p → Reaches nt (at_opening bs o) b p []
opening_reaches nt (marks.Signs s) bs o b p i e = from_vector nt bs o b p (vector_reaches nt (marks.Signs s) None bs (as_vector nt o) b p i (opening_sign o s p e))
  where
    opening_sign : (o : Opening) (s : Sign) (p : LinePlace) → coordinate_sign s (partial_state nt (opening_part nt o)).spot (open_state nt o) ≡ going p → coordinate_sign s (partial_state nt (opening_part nt o)).spot (vector_state nt (as_vector nt o)) ≡ going p
    opening_sign no_digit s p e = e
    opening_sign (some_digits d ds short) s p e = e
opening_reaches nt marks.Comma bs o b p i e = from_vector nt bs o b p (vector_reaches nt marks.Comma None bs (as_vector nt o) b p i (opening_comma (settled (partial_state nt (opening_part nt o))) o p e))
  where
    opening_comma : (x : Option PartReader) (o : Opening) (p : LinePlace) → coordinate_comma nt x (open_state nt o) ≡ going p → coordinate_comma nt x (vector_state nt (as_vector nt o)) ≡ going p
    opening_comma None o p e = not_going _ p e
    opening_comma (Some x) o p e = e
opening_reaches nt marks.Close bs o b p i e = subst (λ c. Reaches nt (at_opening bs o) c p []) (sym i) (opening_close nt o bs p e)
opening_reaches nt (marks.Digit n) bs o b p i e =
    subst (λ c. Reaches nt (at_opening bs o) c p []) (sym i.1) (opening_digit nt o bs i.0 p (subst (λ k. in_coordinate true (open_state nt o) (on_digit k (partial_state nt (opening_part nt o))) ≡ going p) i.2 e))
opening_reaches nt marks.Blank bs o b p i e = from_vector nt bs o b p (vector_reaches nt marks.Blank None bs (as_vector nt o) b p i (opening_plain (part_step marks.Blank (partial_state nt (opening_part nt o))) o p e))
  where
    opening_plain : (x : Result PartReader TextKind) (o : Opening) (p : LinePlace) → in_coordinate false (open_state nt o) x ≡ going p → in_coordinate false (vector_state nt (as_vector nt o)) x ≡ going p
    opening_plain (Ok x) o p e = e
    opening_plain (Err k) o p e = not_going _ p e
opening_reaches nt marks.Slash bs o b p i e = from_vector nt bs o b p (vector_reaches nt marks.Slash None bs (as_vector nt o) b p i (opening_slash (part_step marks.Slash (partial_state nt (opening_part nt o))) o p e))
  where
    opening_slash : (x : Result PartReader TextKind) (o : Opening) (p : LinePlace) → in_coordinate false (open_state nt o) x ≡ going p → in_coordinate false (vector_state nt (as_vector nt o)) x ≡ going p
    opening_slash (Ok x) o p e = e
    opening_slash (Err k) o p e = not_going _ p e
opening_reaches nt m bs o b p i e = not_going _ p e
