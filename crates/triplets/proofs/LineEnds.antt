-- What is read to its end is a line, and each beginning goes on to a line.
use Rattle.std.proofs.Common.{◌≡◌, ℕ, List, [], ◌∷◌, ◌++◌, Option, Some, None, Ok, refl, sym, ◌∙◌, ap, subst, append_assoc}
use Rattle.std.proofs.lemmas.List.{append-nil}
use Rattle.symmetry.specs.Vectors.{Vector}
use Rattle.symmetry.specs.Groups.{Listing}
use Rattle.symmetry.specs.Motions.{Motion}
use Rattle.motions.specs.Views.{motion_of}
use Rattle.motions.specs.declared.motion.Motion3.{Motion3}
use Rattle.triplets.specs.declared.notation.Notation.{Notation}
use Rattle.triplets.specs.declared.notation.Notation.TheVariants.{Triplets, Pairs}
use Rattle.triplets.specs.PartReading.{settled}
use Rattle.triplets.specs.TripletReading.{value}
use Rattle.triplets.specs.Grammar.{Blank, blanks_text}
use Rattle.triplets.specs.Lines.{Coordinate, ThirdCoordinate, coordinate_text, third_coordinate_text, Centrings, centrings_text, Label, label_text, Form, empty, operation, row, form_text, form_value, IsLine, IsFirst, IsNumber}
use Rattle.triplets.specs.LineReading.{LineState, line_start, line_run, line_value, operations_of, some_operation, listing_by}
use Rattle.triplets.specs.LineFaults.{IsPrefixOfGoodLine}
use Rattle.triplets.proofs.Divisors.{one}
use Rattle.triplets.proofs.Partials.{Partial, lead, behind, partial_text, IsLike}
use Rattle.triplets.proofs.Wholes.{Begun, begun_text, begun_state, ends, zero_part, prefix_of, completes}
use Rattle.triplets.proofs.LineBegun.{lists, LineBegun, at_start, at_opening, at_operation, at_vector, at_closed, at_behind, at_comment, line_text, line_state, VectorBegun, in_one, in_two, in_three, vector_text, closed_text, in_bracket, bracket_more, vector_of, all_of, all_text, closed_more, form_operation, form_vectors, LineGoes}
use Rattle.triplets.proofs.VectorSteps.{as_vector, as_vector_text}
use Rattle.triplets.proofs.LineSteps.{line_goes}
use Rattle.triplets.proofs.Runs.{going}

abbrev pub make_listing : List Motion → List Vector → Listing
make_listing x y = record { ops = x; centrings = y }

lists_is : (a b : Listing) → lists a ≡ lists b → b ≡ a
lists_is a b e = cc

no_comment : (nt : Notation) → (f : Form nt) (bytes : List ℕ) (a : Listing) → bytes ≡ form_text nt f → a ≡ form_value nt f → IsLine nt bytes a
no_comment nt f bytes a e v = record { form = f; comment = None; text = e ∙ sym (append-nil (form_text nt f)); value = v }

operation_line : (nt : Notation) → (l : Option Label) (q : Begun nt) (v : Option Motion3) (a : Listing) → value nt (begun_state nt q) ≡ v → listing_by (some_operation v) [] ≡ lists a → IsLine nt (label_text l ++ begun_text nt q) a
operation_line nt l q None a h e = absurd cc
operation_line nt l q (Some t) a h e =
    let x = ends nt (settled (begun_state nt q).part) q t refl h in
    no_comment nt (operation l x.one x.two x.three) (label_text l ++ begun_text nt q) a (ap (λ (y : List ℕ). label_text l ++ y) x.text)
    (lists_is _ a e ∙ ap (λ (y : Motion3). make_listing (motion_of y ∷ []) []) x.rows)

form_said : (nt : Notation) → (f : Form nt) → lists (record { ops = operations_of (form_operation nt f); centrings = form_vectors nt f }) ≡ lists (form_value nt f)
form_said nt (empty bs) = refl
form_said nt f = refl

ends_as : (nt : Notation) → (q : LineBegun nt) (a : Listing) → line_value nt (line_state nt q) ≡ lists a → IsLine nt (line_text nt q) a
ends_as nt (at_start bs) a e = no_comment nt (empty bs) (blanks_text bs) a refl (lists_is _ a e)
ends_as nt (at_operation l q) a e = operation_line nt l q (value nt (begun_state nt q)) a refl e
ends_as nt (at_behind r bs) a e = no_comment nt (row r bs) (centrings_text nt r ++ blanks_text bs) a refl (lists_is _ a e)
ends_as nt (at_comment f cs) a e = record { form = f; comment = Some cs; text = refl; value = lists_is _ a (sym (form_said nt f) ∙ e) }
ends_as nt q a e = absurd cc

begun_of : (nt : Notation) → (bytes : List ℕ) (s : LineState) → line_run nt (Ok line_start) bytes ≡ going s → LineGoes nt (at_start []) bytes s
begun_of nt bytes s w = line_goes nt bytes (at_start []) s w

pub is_line : (nt : Notation) → (bytes : List ℕ) (s : LineState) (a : Listing) → line_run nt (Ok line_start) bytes ≡ going s → line_value nt s ≡ lists a → IsLine nt bytes a
is_line nt bytes s a w e =
    let g = begun_of nt bytes s w in
    subst (λ (x : List ℕ). IsLine nt x a) (sym g.text) (ends_as nt g.to a (ap (line_value nt) (sym g.state) ∙ e))

-- ---- each beginning goes on

record GoesOnTo (nt : Notation) (q : Partial nt) : Type 0 where
  rest : List ℕ
  coordinate : Coordinate nt
  text : partial_text nt q ++ rest ≡ coordinate_text nt coordinate

completes_like : (nt : Notation) → (q : Partial nt) → IsLike nt q → IsFirst (completes nt q).part.lead × IsNumber (completes nt q).part.last
completes_like nt (behind w) h = h
completes_like nt q h = (h, tt)

goes_on_to : (nt : Notation) → (q : Partial nt) → IsLike nt q → GoesOnTo nt q
goes_on_to nt q h =
    let c = completes nt q in
    let like = completes_like nt q h in
    record { rest = c.rest; coordinate = record { part = c.part; first = like.0; number = like.1 }; text = c.text }

abbrev zero_coordinate : (nt : Notation) → Coordinate nt
zero_coordinate nt = record { part = zero_part nt; first = tt; number = tt }

-- the third coordinate 0, where there is one
zero_third : (nt : Notation) → ThirdCoordinate nt
zero_third Triplets = zero_coordinate Triplets
zero_third Pairs = tt

goes_to : (nt : Notation) → (bytes rest : List ℕ) (f : Form nt) → bytes ++ rest ≡ form_text nt f → IsPrefixOfGoodLine nt bytes
goes_to nt bytes rest f e = (rest, (form_value nt f, no_comment nt f (bytes ++ rest) (form_value nt f) e refl))

-- with a whole vector
with_vector_text : (nt : Notation) → (r : Option (Centrings nt)) (bs : List Blank) (begun rest : List ℕ) (c d : Coordinate nt) (e : ThirdCoordinate nt) → begun ++ rest ≡ closed_text nt c d e (43 ∷ []) → IsPrefixOfGoodLine nt (in_bracket nt r bs begun)
with_vector_text nt r bs begun rest c d e h =
    goes_to nt (in_bracket nt r bs begun) rest (row (all_of nt r (vector_of nt bs c d e [])) [])
    (bracket_more nt r bs begun rest (closed_text nt c d e (43 ∷ [])) h ∙ all_text nt r bs c d e [])

vector_goes : (nt : Notation) → (r : Option (Centrings nt)) (bs : List Blank) (v : VectorBegun nt) → IsPrefixOfGoodLine nt (in_bracket nt r bs (vector_text nt v))
vector_goes nt r bs (in_one q h) =
    let c = goes_on_to nt q h in
    let tail : List ℕ = 44 ∷ 48 ∷ (third_coordinate_text nt (zero_third nt) ++ 41 ∷ 43 ∷ []) in
    with_vector_text nt r bs (partial_text nt q) (c.rest ++ tail) c.coordinate (zero_coordinate nt) (zero_third nt)
    (sym (append_assoc (partial_text nt q) c.rest tail) ∙ ap (λ (x : List ℕ). x ++ tail) c.text)
vector_goes nt r bs (in_two d q h) =
    let c = goes_on_to nt q h in
    let tail : List ℕ = third_coordinate_text nt (zero_third nt) ++ 41 ∷ 43 ∷ [] in
    with_vector_text nt r bs (vector_text nt (in_two d q h)) (c.rest ++ tail) d c.coordinate (zero_third nt)
    (append_assoc (coordinate_text nt d) (44 ∷ partial_text nt q) (c.rest ++ tail)
    ∙ ap (λ (x : List ℕ). coordinate_text nt d ++ (44 ∷ x)) (sym (append_assoc (partial_text nt q) c.rest tail) ∙ ap (λ (x : List ℕ). x ++ tail) c.text))
vector_goes Pairs r bs (in_three i d f q h) = absurd cc
vector_goes Triplets r bs (in_three i d f q h) =
    let nt : Notation = Triplets in
    let c = goes_on_to nt q h in
    let tail : List ℕ = 41 ∷ 43 ∷ [] in
    with_vector_text nt r bs (vector_text nt (in_three i d f q h)) (c.rest ++ tail) d f c.coordinate
    (append_assoc (coordinate_text nt d) (44 ∷ (coordinate_text nt f ++ (44 ∷ partial_text nt q))) (c.rest ++ tail)
    ∙ ap (λ (y : List ℕ). coordinate_text nt d ++ (44 ∷ y)) (append_assoc (coordinate_text nt f) (44 ∷ partial_text nt q) (c.rest ++ tail)
    ∙ ap (λ (x : List ℕ). coordinate_text nt f ++ (44 ∷ x)) (sym (append_assoc (partial_text nt q) c.rest tail) ∙ ap (λ (x : List ℕ). x ++ tail) c.text)))

line_prefix : (nt : Notation) → (q : LineBegun nt) → IsPrefixOfGoodLine nt (line_text nt q)
line_prefix nt (at_start bs) = goes_to nt (blanks_text bs) [] (empty bs) (append-nil (blanks_text bs))
line_prefix nt (at_opening bs o) = subst (IsPrefixOfGoodLine nt) (as_vector_text nt bs o) (vector_goes nt None bs (as_vector nt o))
line_prefix nt (at_operation l q) =
    let p = prefix_of nt q in
    let x = p.1.1 in
    goes_to nt (label_text l ++ begun_text nt q) p.0 (operation l x.one x.two x.three) (append_assoc (label_text l) (begun_text nt q) p.0 ∙ ap (λ (y : List ℕ). label_text l ++ y) x.text)
line_prefix nt (at_vector r bs v) = vector_goes nt r bs v
line_prefix nt (at_closed r bs c d e ks) =
    goes_to nt (line_text nt (at_closed r bs c d e ks)) (43 ∷ []) (row (all_of nt r (vector_of nt bs c d e ks)) [])
    (bracket_more nt r bs (closed_text nt c d e (blanks_text ks)) (43 ∷ []) (closed_text nt c d e (blanks_text ks ++ 43 ∷ [])) (closed_more nt c d e (blanks_text ks) (43 ∷ [])) ∙ all_text nt r bs c d e ks)
line_prefix nt (at_behind r bs) = goes_to nt (centrings_text nt r ++ blanks_text bs) [] (row r bs) (append-nil _)
line_prefix nt (at_comment f cs) = ([], (form_value nt f, record { form = f; comment = Some cs; text = append-nil _; value = refl }))

pub is_line_prefix : (nt : Notation) → (bytes : List ℕ) (s : LineState) → line_run nt (Ok line_start) bytes ≡ going s → IsPrefixOfGoodLine nt bytes
is_line_prefix nt bytes s w = let g = begun_of nt bytes s w in subst (IsPrefixOfGoodLine nt) (sym g.text) (line_prefix nt g.to)
