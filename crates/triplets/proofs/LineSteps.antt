-- What the reader of a line takes is the beginning of a line of the grammar.
use Rattle.std.proofs.Common.{◌≡◌, ℕ, List, [], ◌∷◌, ◌++◌, Option, Some, None, Result, Ok, Err, refl, sym, ◌∙◌, ap, subst, append_assoc}
use Rattle.motions.specs.declared.motion.Sign.TheVariants.{Plus}
use Rattle.triplets.specs.declared.notation.Notation.{Notation}
use Rattle.triplets.specs.declared.fault.TextKind.{TextKind}
use Rattle.triplets.specs.declared.marks.Mark.{Mark}
use Rattle.triplets.specs.declared.marks.Mark.TheVariants as marks
use Rattle.motions.specs.declared.motion.Motion3.{Motion3}
use Rattle.triplets.specs.declared.triplet.TripletReader.{TripletReader}
use Rattle.triplets.specs.declared.line.LinePlace.{LinePlace}
use Rattle.triplets.specs.declared.line.LinePlace.TheVariants as places
use Rattle.triplets.specs.Marks.{mark}
use Rattle.triplets.specs.PartReading.{settled}
use Rattle.triplets.specs.TripletReading.{start, step, value}
use Rattle.triplets.specs.Grammar.{Blank, blank_byte, blanks_text, bare}
use Rattle.triplets.specs.Lines.{Coordinate, ThirdCoordinate, centring_value, Centrings, one, centrings_text, centrings_value, Label, label_text, empty, operation, row, form_text}
use Rattle.triplets.specs.LineReading.{in_operation, start_step, comment_behind, operation_step, behind_step, place_step, completed, with_vector, LineState, line_run, line_byte}
use Rattle.triplets.proofs.Bytes.{IsMark, mark_is}
use Rattle.triplets.proofs.Partials.{lead, blanks_more}
use Rattle.triplets.proofs.Wholes.{Begun, in_first, begun_text, begun_state, goes_by, ends, nothing}
use Rattle.triplets.proofs.Runs.{going, going_is, not_going, goes_on}
use Rattle.triplets.proofs.LineBegun.{no_digit, in_one, prior_value, LineBegun, at_start, at_opening, at_operation, at_vector, at_closed, at_behind, at_comment, closed_text, line_text, form_vectors, state_of, line_state, LineGoes, placed_by, Reaches, at_state, bracket_more, vector_of, all_of, closed_more, all_text, all_value}
use Rattle.triplets.proofs.VectorSteps.{vector_reaches, opening_reaches}

-- ---- in an operation

record InOperation (r : Result TripletReader TextKind) (p : LinePlace) : Type 0 where
  reader : TripletReader
  reader_is : r ≡ going reader
  place : p ≡ places.Operation reader

in_operation_is : (r : Result TripletReader TextKind) (p : LinePlace) → in_operation r ≡ going p → InOperation r p
in_operation_is (Ok t) p e = record { reader = t; reader_is = refl; place = going_is _ p e }
in_operation_is (Err k) p e = not_going _ p e

operation_reaches : (nt : Notation) → (l : Option Label) (q : Begun nt) (m : Mark) (b : ℕ) (p : LinePlace) → IsMark nt b m → in_operation (step nt m (begun_state nt q)) ≡ going p → Reaches nt (at_operation l q) b p []
operation_reaches nt l q m b p i e =
    let h = in_operation_is (step nt m (begun_state nt q)) p e in
    let g = goes_by nt m q b h.reader i h.reader_is in
    record {
      to = at_operation l g.to;
      text = append_assoc (label_text l) (begun_text nt q) (b ∷ []) ∙ ap (λ (x : List ℕ). label_text l ++ x) g.text;
      state = ap (λ (x : LinePlace). state_of x []) (h.place ∙ ap (λ (x : TripletReader). places.Operation x) g.state);
    }

comment_reaches : (nt : Notation) → (l : Option Label) (q : Begun nt) (v : Option Motion3) (p : LinePlace) → value nt (begun_state nt q) ≡ v → comment_behind v ≡ going p → Reaches nt (at_operation l q) 35 p []
comment_reaches nt l q None p h e = not_going _ p e
comment_reaches nt l q (Some t) p h e =
    let x = ends nt (settled (begun_state nt q).part) q t refl h in
    record {
      to = at_comment (operation l x.one x.two x.three) [];
      text = ap (λ (y : List ℕ). (label_text l ++ y) ++ 35 ∷ []) x.text;
      state = at_state p _ [] e ∙ ap (λ (y : Motion3). state_of (places.Comment (Some y)) []) x.rows;
    }

in_operation_reaches : (nt : Notation) → (m : Mark) (l : Option Label) (q : Begun nt) (b : ℕ) (p : LinePlace) → IsMark nt b m → operation_step nt m (begun_state nt q) ≡ going p → Reaches nt (at_operation l q) b p []
in_operation_reaches nt marks.Hash l q b p i e = subst (λ c. Reaches nt (at_operation l q) c p []) (sym i) (comment_reaches nt l q (value nt (begun_state nt q)) p refl e)
in_operation_reaches nt m l q b p i e = operation_reaches nt l q m b p i e

-- ---- at the start

blanks_part : (nt : Notation) → (bs : List Blank) → Begun nt
blanks_part nt bs = in_first (lead (bare bs) tt)

first_reaches : (nt : Notation) → (m : Mark) (bs : List Blank) (b : ℕ) (p : LinePlace) → IsMark nt b m → in_operation (step nt m start) ≡ going p → Reaches nt (at_start bs) b p []
first_reaches nt m bs b p i e =
    let r = operation_reaches nt None (in_first (lead (bare bs) tt)) m b p i e in
    record { to = r.to; text = r.text; state = r.state }

start_reaches : (nt : Notation) → (m : Mark) (bs : List Blank) (b : ℕ) (p : LinePlace) → IsMark nt b m → start_step nt m ≡ going p → Reaches nt (at_start bs) b p []
start_reaches nt marks.Blank bs b p i e = subst (λ c. Reaches nt (at_start bs) c p []) (sym i.1) (record { to = at_start (bs ++ i.0 ∷ []); text = blanks_more bs i.0; state = at_state p _ [] e })
start_reaches nt marks.Open bs b p i e = subst (λ c. Reaches nt (at_start bs) c p []) (sym i) (record { to = at_opening bs no_digit; text = refl; state = at_state p _ [] e })
start_reaches nt marks.Hash bs b p i e = subst (λ c. Reaches nt (at_start bs) c p []) (sym i) (record { to = at_comment (empty bs) []; text = refl; state = at_state p _ [] e })
start_reaches nt m bs b p i e = first_reaches nt m bs b p i e

-- a step at a closed vector: its vector is added at the +
closed_reaches : (nt : Notation) → (m : Mark) (r : Option (Centrings nt)) (bs : List Blank) (c d : Coordinate nt) (e : ThirdCoordinate nt) (ks : List Blank) (b : ℕ) (p : LinePlace) → IsMark nt b m →
    (let q = at_closed r bs c d e ks in place_step nt m (line_state nt q).place ≡ going p → Reaches nt q b p (with_vector (completed m (line_state nt q).place) (prior_value nt r)))
closed_reaches nt marks.Blank r bs c d e ks b p i w =
    subst (λ x. Reaches nt (at_closed r bs c d e ks) x p (prior_value nt r)) (sym i.1) (record {
      to = at_closed r bs c d e (ks ++ i.0 ∷ []);
      text = bracket_more nt r bs (closed_text nt c d e (blanks_text ks)) (blank_byte i.0 ∷ []) (closed_text nt c d e (blanks_text (ks ++ i.0 ∷ [])))
          (closed_more nt c d e (blanks_text ks) (blank_byte i.0 ∷ []) ∙ ap (closed_text nt c d e) (blanks_more ks i.0));
      state = at_state p _ (prior_value nt r) w;
    })
closed_reaches nt (marks.Signs Plus) r bs c d e ks b p i w =
    let v = vector_of nt bs c d e ks in
    subst (λ x. Reaches nt (at_closed r bs c d e ks) x p (prior_value nt r ++ centring_value nt v ∷ [])) (sym i) (record {
      to = at_behind (all_of nt r v) [];
      text = bracket_more nt r bs (closed_text nt c d e (blanks_text ks)) (43 ∷ []) (closed_text nt c d e (blanks_text ks ++ 43 ∷ [])) (closed_more nt c d e (blanks_text ks) (43 ∷ [])) ∙ all_text nt r bs c d e ks;
      state = at_state p _ (prior_value nt r ++ centring_value nt v ∷ []) w ∙ ap (state_of places.Behind) (all_value nt r v);
    })
closed_reaches nt m r bs c d e ks b p i w = not_going _ p w

behind_reaches : (nt : Notation) → (m : Mark) (r : Centrings nt) (bs : List Blank) (b : ℕ) (p : LinePlace) → IsMark nt b m → behind_step m ≡ going p → Reaches nt (at_behind r bs) b p (centrings_value nt r)
behind_reaches nt marks.Blank r bs b p i w =
    subst (λ x. Reaches nt (at_behind r bs) x p (centrings_value nt r)) (sym i.1) (record {
      to = at_behind r (bs ++ i.0 ∷ []);
      text = append_assoc (centrings_text nt r) (blanks_text bs) (blank_byte i.0 ∷ []) ∙ ap (λ (x : List ℕ). centrings_text nt r ++ x) (blanks_more bs i.0);
      state = at_state p _ (centrings_value nt r) w;
    })
behind_reaches nt marks.Open r bs b p i w =
    subst (λ x. Reaches nt (at_behind r bs) x p (centrings_value nt r)) (sym i) (record {
      to = at_vector (Some r) bs (in_one (nothing nt) tt);
      text = append_assoc (centrings_text nt r) (blanks_text bs) (40 ∷ []);
      state = at_state p _ (centrings_value nt r) w;
    })
behind_reaches nt marks.Hash r bs b p i w =
    subst (λ x. Reaches nt (at_behind r bs) x p (centrings_value nt r)) (sym i) (record {
      to = at_comment (row r bs) [];
      text = refl;
      state = at_state p _ (centrings_value nt r) w;
    })
behind_reaches nt m r bs b p i w = not_going _ p w

-- ---- any step

reaches : (nt : Notation) → (q : LineBegun nt) (b : ℕ) (p : LinePlace) → place_step nt (mark nt b) (line_state nt q).place ≡ going p → Reaches nt q b p (with_vector (completed (mark nt b) (line_state nt q).place) (line_state nt q).vectors)
reaches nt (at_start bs) b p e = start_reaches nt (mark nt b) bs b p (mark_is nt b) e
reaches nt (at_opening bs o) b p e = opening_reaches nt (mark nt b) bs o b p (mark_is nt b) e
reaches nt (at_operation l q) b p e = in_operation_reaches nt (mark nt b) l q b p (mark_is nt b) e
reaches nt (at_vector r bs v) b p e = vector_reaches nt (mark nt b) r bs v b p (mark_is nt b) e
reaches nt (at_closed r bs c d f ks) b p e = closed_reaches nt (mark nt b) r bs c d f ks b p (mark_is nt b) e
reaches nt (at_behind r bs) b p e = behind_reaches nt (mark nt b) r bs b p (mark_is nt b) e
reaches nt (at_comment f cs) b p e = record { to = at_comment f (cs ++ b ∷ []); text = append_assoc (form_text nt f) (35 ∷ cs) (b ∷ []); state = at_state p _ (form_vectors nt f) e }

step_goes : (nt : Notation) → (q : LineBegun nt) (b : ℕ) (t : LineState) → line_byte nt b (line_state nt q) ≡ going t → LineGoes nt q (b ∷ []) t
step_goes nt q b t h =
    let p = placed_by (place_step nt (mark nt b) (line_state nt q).place) (with_vector (completed (mark nt b) (line_state nt q).place) (line_state nt q).vectors) t h in
    let g = reaches nt q b p.place p.place_is in
    record { to = g.to; text = g.text; state = p.state ∙ g.state }

pub line_goes : (nt : Notation) → (bs : List ℕ) (q : LineBegun nt) (t : LineState) → line_run nt (Ok (line_state nt q)) bs ≡ going t → LineGoes nt q bs t
line_goes nt = goes_on (line_byte nt) (line_text nt) (line_state nt) (step_goes nt)
