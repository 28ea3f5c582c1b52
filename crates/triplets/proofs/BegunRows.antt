-- The vectors that the reader has kept of a line are those that stand whole at its beginning.
use Rattle.std.proofs.Common.{◌≡◌, ℕ, ◌+◌, ◌≤◌, List, [], ◌∷◌, ◌++◌, length, Option, Some, None, Result, Ok, Err, refl, sym, ◌∙◌, ap, subst, arith, inl, inr, ◌⊎◌, append_assoc, length-append}
use Rattle.std.proofs.lemmas.List.{append-nil}
use Rattle.symmetry.specs.Vectors.{Vector}
use Rattle.motions.specs.Views.{parts}
use Rattle.motions.specs.declared.motion.Sign.TheVariants.{Plus}
use Rattle.fractions.specs.declared.part.Part.{Part}
use Rattle.triplets.specs.declared.notation.Notation.{Notation}
use Rattle.triplets.specs.declared.fault.TextKind.{TextKind}
use Rattle.triplets.specs.declared.marks.Mark.TheVariants as marks
use Rattle.triplets.specs.declared.part.Spot.{Spot}
use Rattle.triplets.specs.declared.part.Spot.TheVariants as spots
use Rattle.triplets.specs.declared.triplet.TripletReader.{TripletReader}
use Rattle.triplets.specs.declared.line.VectorReader.{VectorReader}
use Rattle.triplets.specs.declared.line.LinePlace.{LinePlace}
use Rattle.triplets.specs.declared.line.LinePlace.TheVariants as places
use Rattle.triplets.specs.Marks.{mark}
use Rattle.triplets.specs.TripletReading.{step}
use Rattle.triplets.specs.Grammar.{blanks_text}
use Rattle.triplets.specs.Lines.{Centring, centring_text, centring_value, Centrings, one, further, centrings_text, centrings_value, row}
use Rattle.triplets.specs.LineReading.{in_operation, coordinate_sign, place_step, completed, with_vector, LineState, line_start, at_place, line_step, line_run, line_byte}
use Rattle.triplets.specs.BegunLines.{AreBegunVectors}
use Rattle.triplets.proofs.LineBegun.{state_of, placed_by, LineBegun, at_start, at_vector, at_closed, at_behind, at_comment, prior_text, prior_value, line_text, line_state, closed_text, in_bracket, bracket_more, closed_more, all_of}
use Rattle.triplets.proofs.LineSteps.{line_goes}
use Rattle.triplets.proofs.VectorRuns.{centrings_run}
use Rattle.triplets.proofs.Runs.{going, going_is, run-append, carries}
use Rattle.triplets.specs.Runs.{advanced}

-- ---- more bytes, no fewer vectors

with_vector_grows : (v : Option (List Part)) (vs : List Vector) → length vs ≤ length (with_vector v vs)
with_vector_grows None vs = omega arith
with_vector_grows (Some v) vs = omega (arith, length-append vs (parts v ∷ []))

step_grows : (nt : Notation) → (b : ℕ) (s t : LineState) → line_byte nt b s ≡ going t → length s.vectors ≤ length t.vectors
step_grows nt b s t h =
    let v = completed (mark nt b) s.place in
    let p = placed_by (place_step nt (mark nt b) s.place) (with_vector v s.vectors) t h in
    let same : length t.vectors ≡ length (with_vector v s.vectors) = ap (λ (x : LineState). length x.vectors) p.state in
    omega (arith, with_vector_grows v s.vectors, same)

vectors_grow : (nt : Notation) → (bs : List ℕ) (s t : LineState) → line_run nt (Ok s) bs ≡ going t → length s.vectors ≤ length t.vectors
vectors_grow nt bs s t e = carries (line_byte nt) (λ u xs. length s.vectors ≤ length u.vectors) (λ b xs u v h i. omega (arith, h, step_grows nt b u v i)) bs s t (omega arith) e

run_grows : (nt : Notation) → (xs ys : List ℕ) (s t : LineState) → line_run nt (Ok line_start) xs ≡ going s → line_run nt (Ok line_start) (xs ++ ys) ≡ going t → length s.vectors ≤ length t.vectors
run_grows nt xs ys s t h e = vectors_grow nt ys s t (ap (λ (r : Result LineState TextKind). line_run nt r ys) (sym h) ∙ (sym (run-append (line_byte nt) (Ok line_start) xs ys) ∙ e))

-- ---- a vector is kept by its +, and by no byte before it

abbrev behind : List Vector → Result LineState TextKind
behind vs = going (state_of places.Behind vs)

-- it is behind a vector
behind_is : (p : LinePlace) (xs vs : List Vector) → going (state_of p xs) ≡ behind vs → places.Behind ≡ p
behind_is p xs vs e = ap (λ (x : LineState). x.place) (going_is (state_of p xs) (state_of places.Behind vs) e)

operation_signed : (r : Result TripletReader TextKind) (xs vs : List Vector) → at_place (in_operation r) xs ≡ behind vs → length vs ≡ length xs + 1
operation_signed (Ok t) xs vs e = let z = behind_is _ xs vs e in absurd cc
operation_signed (Err k) xs vs e = absurd cc

coordinate_signed : (s : Spot) (v : VectorReader) (xs vs : List Vector) → at_place (coordinate_sign Plus s v) xs ≡ behind vs → length vs ≡ length xs + 1
coordinate_signed spots.Begin v xs vs e = let z = behind_is _ xs vs e in absurd cc
coordinate_signed s v xs vs e = absurd cc

plus_keeps : (nt : Notation) → (p : LinePlace) (xs vs : List Vector) → line_step nt (marks.Signs Plus) (state_of p xs) ≡ behind vs → length vs ≡ length xs + 1
plus_keeps nt places.Start xs vs e = let z = behind_is _ xs vs e in absurd cc
plus_keeps nt (places.Operation t) xs vs e = operation_signed (step nt (marks.Signs Plus) t) xs vs e
plus_keeps nt (places.Coordinates v) xs vs e = coordinate_signed v.part.spot v xs vs e
plus_keeps nt (places.Closed v) xs vs e =
    let same : length vs ≡ length (xs ++ parts v ∷ []) = ap (λ (x : LineState). length x.vectors) (going_is _ _ e) in
    omega (arith, same, length-append xs (parts v ∷ []))
plus_keeps nt places.Behind xs vs e = absurd cc
plus_keeps nt (places.Comment o) xs vs e = let z = behind_is _ xs vs e in absurd cc

-- a vector without its +
abbrev unclosed : (nt : Notation) → Centring nt → List ℕ
unclosed nt c = in_bracket nt None c.before (closed_text nt c.one c.two c.three (blanks_text c.between))

closes : (nt : Notation) → (c : Centring nt) → unclosed nt c ++ 43 ∷ [] ≡ centring_text nt c
closes nt c = bracket_more nt None c.before (closed_text nt c.one c.two c.three (blanks_text c.between)) (43 ∷ []) (closed_text nt c.one c.two c.three (blanks_text c.between ++ 43 ∷ [])) (closed_more nt c.one c.two c.three (blanks_text c.between) (43 ∷ []))

record IsUnclosed (nt : Notation) (bytes : List ℕ) : Type 0 where
  last : LineState
  run_is : line_run nt (Ok line_start) bytes ≡ going last
  none : length last.vectors ≡ 0

unclosed_by : (nt : Notation) → (r : Result LineState TextKind) (bytes : List ℕ) (v : Vector) → line_run nt (Ok line_start) bytes ≡ r → advanced (line_byte nt) r 43 ≡ behind (v ∷ []) → IsUnclosed nt bytes
unclosed_by nt (Ok s) bytes v h e = record { last = s; run_is = h; none = let k = plus_keeps nt s.place s.vectors (v ∷ []) e in omega (arith, k) }
unclosed_by nt (Err k) bytes v h e = absurd cc

is_unclosed : (nt : Notation) → (c : Centring nt) → IsUnclosed nt (unclosed nt c)
is_unclosed nt c =
    unclosed_by nt (line_run nt (Ok line_start) (unclosed nt c)) (unclosed nt c) (centring_value nt c) refl
    (sym (run-append (line_byte nt) (Ok line_start) (unclosed nt c) (43 ∷ [])) ∙ (ap (line_run nt (Ok line_start)) (closes nt c) ∙ centrings_run nt (one c)))

-- no vector is the beginning of one without its +
not_within : (nt : Notation) → (c d : Centring nt) (rest : List ℕ) → ¬ (unclosed nt d ≡ centring_text nt c ++ rest)
not_within nt c d rest e =
    let u = is_unclosed nt d in
    let g = run_grows nt (centring_text nt c) rest (state_of places.Behind (centring_value nt c ∷ [])) u.last (centrings_run nt (one c)) (ap (line_run nt (Ok line_start)) (sym e) ∙ u.run_is) in
    let some : 1 ≤ length u.last.vectors = g in
    omega (arith, u.none, some)

-- ---- one vector stands first

-- two ways to cut a list: one cut comes first
record Cut (xs ys zs ws : List ℕ) : Type 0 where
  between : List ℕ
  front : zs ≡ xs ++ between
  back : ys ≡ between ++ ws

cuts : (xs ys zs ws : List ℕ) → xs ++ ys ≡ zs ++ ws → Cut xs ys zs ws ⊎ Cut zs ws xs ys
cuts [] ys zs ws e = inl (record { between = zs; front = refl; back = e })
cuts (x ∷ xs) ys [] ws e = inr (record { between = x ∷ xs; front = refl; back = sym e })
cuts (x ∷ xs) ys (z ∷ zs) ws e =
    let first : x ≡ z = cc in
    let others : xs ++ ys ≡ zs ++ ws = cc in
    elim (cuts xs ys zs ws others) [
      | inl c ↦ inl (record { between = c.between; front = ap (λ (l : List ℕ). z ∷ l) c.front ∙ ap (λ y. y ∷ (xs ++ c.between)) (sym first); back = c.back })
      | inr c ↦ inr (record { between = c.between; front = ap (λ (l : List ℕ). x ∷ l) c.front ∙ ap (λ y. y ∷ (zs ++ c.between)) first; back = c.back })
    ]

last_left : (m rest : List ℕ) (b x : ℕ) → b ∷ [] ≡ m ++ x ∷ rest → m ≡ []
last_left [] rest b x e = refl
last_left (y ∷ m) rest b x e =
    let n : 1 ≡ length ((y ∷ m) ++ x ∷ rest) = ap (λ (l : List ℕ). length l) e in
    absurd (omega (arith, n, length-append (y ∷ m) (x ∷ rest)))

none_further : (nt : Notation) → (c d : Centring nt) (m : List ℕ) → centring_text nt d ≡ centring_text nt c ++ m → m ≡ []
none_further nt c d [] e = refl
none_further nt c d (x ∷ m) e =
    elim (cuts (unclosed nt d) (43 ∷ []) (centring_text nt c) (x ∷ m) (closes nt d ∙ e)) [
      | inl k ↦ absurd (not_within nt c d [] (sym (append-nil (unclosed nt d)) ∙ (ap (λ (l : List ℕ). unclosed nt d ++ l) (sym (last_left k.between m 43 x k.back)) ∙ (sym k.front ∙ sym (append-nil (centring_text nt c))))))
      | inr k ↦ absurd (not_within nt c d k.between k.front)
    ]

abbrev first_vector : Vector → List Vector → Vector
first_vector v [] = v
first_vector v (w ∷ ws) = w

same_value : (nt : Notation) → (c d : Centring nt) → centring_text nt c ≡ centring_text nt d → centring_value nt c ≡ centring_value nt d
same_value nt c d e =
    let h : behind (centring_value nt d ∷ []) ≡ behind (centring_value nt c ∷ []) = sym (centrings_run nt (one d)) ∙ (ap (line_run nt (Ok line_start)) (sym e) ∙ centrings_run nt (one c)) in
    ap (first_vector (centring_value nt c)) (ap (λ (x : LineState). x.vectors) (going_is _ _ h))

record IsOneCentring (nt : Notation) (c d : Centring nt) (xs ys : List ℕ) : Type 0 where
  value : centring_value nt c ≡ centring_value nt d
  rest : xs ≡ ys

one_after : (nt : Notation) → (c d : Centring nt) (xs ys : List ℕ) → Cut (centring_text nt c) xs (centring_text nt d) ys → IsOneCentring nt c d xs ys
one_after nt c d xs ys k =
    let m = none_further nt c d k.between k.front in
    record {
      value = same_value nt c d (sym (append-nil (centring_text nt c)) ∙ (ap (λ (l : List ℕ). centring_text nt c ++ l) (sym m) ∙ sym k.front));
      rest = k.back ∙ ap (λ (l : List ℕ). l ++ ys) m;
    }

one_centring : (nt : Notation) → (c d : Centring nt) (xs ys : List ℕ) → centring_text nt c ++ xs ≡ centring_text nt d ++ ys → IsOneCentring nt c d xs ys
one_centring nt c d xs ys e =
    elim (cuts (centring_text nt c) xs (centring_text nt d) ys e) [
      | inl k ↦ one_after nt c d xs ys k
      | inr k ↦ let o = one_after nt d c ys xs k in record { value = sym o.value; rest = sym o.rest }
    ]

-- the vectors begun are one list
pub one_begun_row : (nt : Notation) → (bytes : List ℕ) (vs ws : List Vector) → AreBegunVectors nt bytes vs → AreBegunVectors nt bytes ws → vs ≡ ws
one_begun_row nt bytes [] [] h i = refl
one_begun_row nt bytes [] (w ∷ ws) h i = absurd (h i.0 i.1 i.2)
one_begun_row nt bytes (v ∷ vs) [] h i = absurd (i h.0 h.1 h.2)
one_begun_row nt bytes (v ∷ vs) (w ∷ ws) h i =
    let o = one_centring nt h.0 i.0 h.1 i.1 (sym h.2 ∙ i.2) in
    let first : v ≡ w = h.3 ∙ (o.value ∙ sym i.3) in
    let others = one_begun_row nt h.1 vs ws h.4 (subst (λ (x : List ℕ). AreBegunVectors nt x ws) (sym o.rest) i.4) in
    ap (λ (x : Vector). x ∷ vs) first ∙ ap (λ (l : List Vector). w ∷ l) others

-- ---- what the reader keeps of a line

-- the whole vectors of a line begun, and what stands behind them
record HasWhole (nt : Notation) (q : LineBegun nt) : Type 0 where
  whole : Option (Centrings nt)
  rest : List ℕ
  text : line_text nt q ≡ prior_text nt whole ++ rest
  vectors : (line_state nt q).vectors ≡ prior_value nt whole

has_whole : (nt : Notation) → (q : LineBegun nt) → HasWhole nt q
has_whole nt (at_start bs) = record { whole = None; rest = blanks_text bs; text = refl; vectors = refl }
has_whole nt (at_vector r bs q) = record { whole = r; rest = _; text = refl; vectors = refl }
has_whole nt (at_closed r bs c d e ks) = record { whole = r; rest = _; text = refl; vectors = refl }
has_whole nt (at_behind r bs) = record { whole = Some r; rest = blanks_text bs; text = refl; vectors = refl }
has_whole nt (at_comment (row r bs) cs) = record { whole = Some r; rest = blanks_text bs ++ (35 ∷ cs); text = append_assoc (centrings_text nt r) (blanks_text bs) (35 ∷ cs); vectors = refl }
has_whole nt q = record { whole = None; rest = line_text nt q; text = refl; vectors = refl }

all_more : (nt : Notation) → (r : Option (Centrings nt)) (c : Centring nt) (rest : List ℕ) → prior_text nt r ++ (centring_text nt c ++ rest) ≡ centrings_text nt (all_of nt r c) ++ rest
all_more nt None c rest = refl
all_more nt (Some rs) c rest = sym (append_assoc (centrings_text nt rs) (centring_text nt c) rest)

all_count : (nt : Notation) → (r : Option (Centrings nt)) (c : Centring nt) → length (centrings_value nt (all_of nt r c)) ≡ length (prior_value nt r) + 1
all_count nt None c = refl
all_count nt (Some rs) c = length-append (centrings_value nt rs) (centring_value nt c ∷ [])

-- behind the vectors that are kept none stands whole
no_further : (nt : Notation) → (r : Option (Centrings nt)) (rest : List ℕ) (s : LineState) → line_run nt (Ok line_start) (prior_text nt r ++ rest) ≡ going s → s.vectors ≡ prior_value nt r → AreBegunVectors nt rest []
no_further nt r rest s h v c more e =
    let g = run_grows nt (centrings_text nt (all_of nt r c)) more (state_of places.Behind (centrings_value nt (all_of nt r c))) s (centrings_run nt (all_of nt r c))
    (ap (line_run nt (Ok line_start)) (sym (all_more nt r c more)) ∙ (ap (λ (x : List ℕ). line_run nt (Ok line_start) (prior_text nt r ++ x)) (sym e) ∙ h)) in
    let grown : length (centrings_value nt (all_of nt r c)) ≤ length s.vectors = g in
    let same : length s.vectors ≡ length (prior_value nt r) = ap (λ (x : List Vector). length x) v in
    omega (arith, grown, same, all_count nt r c)

centrings_then : (nt : Notation) → (r : Centrings nt) (rest : List ℕ) (vs : List Vector) → AreBegunVectors nt rest vs → AreBegunVectors nt (centrings_text nt r ++ rest) (centrings_value nt r ++ vs)
centrings_then nt (one c) rest vs h = (c, rest, refl, refl, h)
centrings_then nt (further r c) rest vs h =
    subst (λ (x : List ℕ). AreBegunVectors nt x (centrings_value nt (further r c) ++ vs)) (sym (append_assoc (centrings_text nt r) (centring_text nt c) rest))
    (subst (λ (y : List Vector). AreBegunVectors nt (centrings_text nt r ++ (centring_text nt c ++ rest)) y) (sym (append_assoc (centrings_value nt r) (centring_value nt c ∷ []) vs))
    (centrings_then nt r (centring_text nt c ++ rest) (centring_value nt c ∷ vs) (c, rest, refl, refl, h)))

prior_then : (nt : Notation) → (r : Option (Centrings nt)) (rest : List ℕ) → AreBegunVectors nt rest [] → AreBegunVectors nt (prior_text nt r ++ rest) (prior_value nt r)
prior_then nt None rest h = h
prior_then nt (Some r) rest h = subst (λ (y : List Vector). AreBegunVectors nt (centrings_text nt r ++ rest) y) (append-nil (centrings_value nt r)) (centrings_then nt r rest [] h)

-- the vectors that are kept of a line begun
pub begun_row : (nt : Notation) → (bytes : List ℕ) (s : LineState) → line_run nt (Ok line_start) bytes ≡ going s → AreBegunVectors nt bytes s.vectors
begun_row nt bytes s h =
    let g = line_goes nt bytes (at_start []) s h in
    let w = has_whole nt g.to in
    let text : bytes ≡ prior_text nt w.whole ++ w.rest = g.text ∙ w.text in
    let vectors : s.vectors ≡ prior_value nt w.whole = ap (λ (x : LineState). x.vectors) g.state ∙ w.vectors in
    subst (λ (x : List ℕ). AreBegunVectors nt x s.vectors) (sym text)
    (subst (λ (y : List Vector). AreBegunVectors nt (prior_text nt w.whole ++ w.rest) y) (sym vectors)
    (prior_then nt w.whole w.rest (no_further nt w.whole w.rest s (ap (line_run nt (Ok line_start)) (sym text) ∙ h) vectors)))
