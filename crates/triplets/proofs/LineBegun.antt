-- The beginning of a line of the grammar, and where the reader stands behind it.
use Rattle.std.proofs.Common.{◌≡◌, ℕ, ◌≤◌, true, false, List, [], ◌∷◌, ◌++◌, length, Option, Some, None, Result, Ok, Err, pos, refl, sym, ◌∙◌, ap, append_assoc}
use Rattle.std.proofs.lemmas.List.{append-nil}
use Rattle.symmetry.specs.Vectors.{Vector}
use Rattle.symmetry.specs.Groups.{Listing}
use Rattle.triplets.specs.declared.notation.Notation.{Notation}
use Rattle.triplets.specs.declared.notation.Notation.TheVariants.{Triplets}
use Rattle.triplets.specs.Rows.{motion3_with, parts_with}
use Rattle.triplets.specs.declared.fault.TextKind.{TextKind}
use Rattle.triplets.specs.declared.triplet.Nth.TheVariants.{First, Second, Third}
use Rattle.motions.specs.declared.motion.Motion3.{Motion3}
use Rattle.triplets.specs.declared.line.VectorReader.{VectorReader}
use Rattle.triplets.specs.declared.line.LinePlace.{LinePlace}
use Rattle.triplets.specs.declared.line.LinePlace.TheVariants as places
use Rattle.triplets.specs.Grammar.{Blank, blanks_text, Digit, digits_text, bare, part_row, third_row}
use Rattle.triplets.specs.Lines.{Coordinate, ThirdCoordinate, coordinate_text, coordinate_value, third_coordinate_text, third_coordinate_value, Centring, centring_text, centring_value, Centrings, one, further, centrings_text, centrings_value, Label, label_text, Form, empty, operation, row, form_text}
use Rattle.triplets.specs.LineReading.{LineState, at_place}
use Rattle.triplets.proofs.Partials.{Partial, lead, digits, partial_text, partial_state, IsLike}
use Rattle.triplets.proofs.Wholes.{Begun, begun_text, begun_state}
use Rattle.triplets.proofs.Runs.{going, going_is, Goes}

abbrev pub lists : Listing → Option Listing
lists a = Some a

abbrev pub lists_nothing : Option Listing
lists_nothing = None

-- ---- the beginning of a line

-- what stands behind the bracket of a label or a vector: at most three digits
pub data Opening : Type 0 where
  no_digit : Opening
  some_digits : (d : Digit) → (ds : List Digit) → length ds ≤ 2 → Opening

abbrev pub opening_text : Opening → List ℕ
opening_text no_digit = []
opening_text (some_digits d ds short) = d.byte ∷ digits_text ds

abbrev pub opening_part : (nt : Notation) → Opening → Partial nt
opening_part nt no_digit = lead (bare []) tt
opening_part nt (some_digits d ds short) = digits (bare []) tt d ds short

pub data VectorBegun (nt : Notation) : Type 0 where
  in_one : (q : Partial nt) → IsLike nt q → VectorBegun nt
  in_two : Coordinate nt → (q : Partial nt) → IsLike nt q → VectorBegun nt
  in_three : nt ≡ Triplets → Coordinate nt → Coordinate nt → (q : Partial nt) → IsLike nt q → VectorBegun nt

abbrev pub vector_text : (nt : Notation) → VectorBegun nt → List ℕ
vector_text nt (in_one q h) = partial_text nt q
vector_text nt (in_two c q h) = coordinate_text nt c ++ (44 ∷ partial_text nt q)
vector_text nt (in_three i c d q h) = coordinate_text nt c ++ (44 ∷ (coordinate_text nt d ++ (44 ∷ partial_text nt q)))

abbrev pub vector_state : (nt : Notation) → VectorBegun nt → VectorReader
vector_state nt (in_one q h) = record { nth = First; first = pos 0; second = pos 0; part = partial_state nt q; label = false }
vector_state nt (in_two c q h) = record { nth = Second; first = coordinate_value nt c; second = pos 0; part = partial_state nt q; label = false }
vector_state nt (in_three i c d q h) = record { nth = Third; first = coordinate_value nt c; second = coordinate_value nt d; part = partial_state nt q; label = false }

-- the vectors before
abbrev pub prior_text : (nt : Notation) → Option (Centrings nt) → List ℕ
prior_text nt None = []
prior_text nt (Some vs) = centrings_text nt vs

abbrev pub prior_value : (nt : Notation) → Option (Centrings nt) → List Vector
prior_value nt None = []
prior_value nt (Some vs) = centrings_value nt vs

pub data LineBegun (nt : Notation) : Type 0 where
  at_start : List Blank → LineBegun nt
  at_opening : List Blank → Opening → LineBegun nt
  at_operation : Option Label → Begun nt → LineBegun nt
  at_vector : Option (Centrings nt) → List Blank → VectorBegun nt → LineBegun nt
  at_closed : Option (Centrings nt) → List Blank → Coordinate nt → Coordinate nt → ThirdCoordinate nt → List Blank → LineBegun nt
  at_behind : Centrings nt → List Blank → LineBegun nt
  at_comment : Form nt → List ℕ → LineBegun nt

abbrev pub closed_text : (nt : Notation) → Coordinate nt → Coordinate nt → ThirdCoordinate nt → List ℕ → List ℕ
closed_text nt c d e rest = coordinate_text nt c ++ (44 ∷ (coordinate_text nt d ++ (third_coordinate_text nt e ++ (41 ∷ rest))))

abbrev pub line_text : (nt : Notation) → LineBegun nt → List ℕ
line_text nt (at_start bs) = blanks_text bs
line_text nt (at_opening bs o) = blanks_text bs ++ (40 ∷ opening_text o)
line_text nt (at_operation l q) = label_text l ++ begun_text nt q
line_text nt (at_vector r bs q) = prior_text nt r ++ (blanks_text bs ++ (40 ∷ vector_text nt q))
line_text nt (at_closed r bs c d e ks) = prior_text nt r ++ (blanks_text bs ++ (40 ∷ closed_text nt c d e (blanks_text ks)))
line_text nt (at_behind r bs) = centrings_text nt r ++ blanks_text bs
line_text nt (at_comment f cs) = form_text nt f ++ (35 ∷ cs)

abbrev pub form_operation : (nt : Notation) → Form nt → Option Motion3
form_operation nt (empty bs) = None
form_operation nt (operation l v w x) = Some (motion3_with (part_row nt v) (part_row nt w) (third_row nt x))
form_operation nt (row vs bs) = None

abbrev pub form_vectors : (nt : Notation) → Form nt → List Vector
form_vectors nt (empty bs) = []
form_vectors nt (operation l v w x) = []
form_vectors nt (row vs bs) = centrings_value nt vs

abbrev pub state_of : LinePlace → List Vector → LineState
state_of p vs = record { place = p; vectors = vs }

abbrev pub line_state : (nt : Notation) → LineBegun nt → LineState
line_state nt (at_start bs) = state_of places.Start []
line_state nt (at_opening bs o) = state_of (places.Coordinates (record { nth = First; first = pos 0; second = pos 0; part = partial_state nt (opening_part nt o); label = true })) []
line_state nt (at_operation l q) = state_of (places.Operation (begun_state nt q)) []
line_state nt (at_vector r bs q) = state_of (places.Coordinates (vector_state nt q)) (prior_value nt r)
line_state nt (at_closed r bs c d e ks) = state_of (places.Closed (parts_with (coordinate_value nt c) (coordinate_value nt d) (third_coordinate_value nt e))) (prior_value nt r)
line_state nt (at_behind r bs) = state_of places.Behind (centrings_value nt r)
line_state nt (at_comment f cs) = state_of (places.Comment (form_operation nt f)) (form_vectors nt f)

abbrev pub LineGoes : (nt : Notation) → LineBegun nt → List ℕ → LineState → Type 0
LineGoes nt = Goes (line_text nt) (line_state nt)

-- a step keeps the vectors
pub record Placed (r : Result LinePlace TextKind) (vs : List Vector) (t : LineState) : Type 0 where
  pub place : LinePlace
  pub place_is : r ≡ going place
  pub state : t ≡ state_of place vs

pub placed_by : (r : Result LinePlace TextKind) (vs : List Vector) (t : LineState) → at_place r vs ≡ going t → Placed r vs t
placed_by (Ok p) vs t e = record { place = p; place_is = refl; state = going_is _ t e }
placed_by (Err k) vs t e = absurd cc

-- a place that the step reached
abbrev pub Reaches : (nt : Notation) → LineBegun nt → ℕ → LinePlace → List Vector → Type 0
Reaches nt q b p vs = LineGoes nt q (b ∷ []) (state_of p vs)

pub at_state : (p q : LinePlace) (vs : List Vector) → going q ≡ going p → state_of p vs ≡ state_of q vs
at_state p q vs e = ap (λ (x : LinePlace). state_of x vs) (going_is q p e)

-- behind what stands before the bracket
abbrev pub in_bracket : (nt : Notation) → Option (Centrings nt) → List Blank → List ℕ → List ℕ
in_bracket nt r bs text = prior_text nt r ++ (blanks_text bs ++ (40 ∷ text))

pub bracket_more : (nt : Notation) → (r : Option (Centrings nt)) (bs : List Blank) (xs ys zs : List ℕ) → xs ++ ys ≡ zs → in_bracket nt r bs xs ++ ys ≡ in_bracket nt r bs zs
bracket_more nt r bs xs ys zs e =
    append_assoc (prior_text nt r) (blanks_text bs ++ (40 ∷ xs)) ys
    ∙ ap (λ (x : List ℕ). prior_text nt r ++ x) (append_assoc (blanks_text bs) (40 ∷ xs) ys ∙ ap (λ (x : List ℕ). blanks_text bs ++ (40 ∷ x)) e)

-- ---- behind a vector

abbrev pub vector_of : (nt : Notation) → List Blank → Coordinate nt → Coordinate nt → ThirdCoordinate nt → List Blank → Centring nt
vector_of nt bs c d e ks = record { before = bs; one = c; two = d; three = e; between = ks }

abbrev pub all_of : (nt : Notation) → Option (Centrings nt) → Centring nt → Centrings nt
all_of nt None v = one v
all_of nt (Some vs) v = further vs v

pub closed_more : (nt : Notation) → (c d : Coordinate nt) (e : ThirdCoordinate nt) (xs ys : List ℕ) → closed_text nt c d e xs ++ ys ≡ closed_text nt c d e (xs ++ ys)
closed_more nt c d e xs ys =
    append_assoc (coordinate_text nt c) _ ys ∙ ap (λ (x : List ℕ). coordinate_text nt c ++ (44 ∷ x))
    (append_assoc (coordinate_text nt d) _ ys ∙ ap (λ (x : List ℕ). coordinate_text nt d ++ x) (append_assoc (third_coordinate_text nt e) (41 ∷ xs) ys))

pub all_text : (nt : Notation) → (r : Option (Centrings nt)) (bs : List Blank) (c d : Coordinate nt) (e : ThirdCoordinate nt) (ks : List Blank) → in_bracket nt r bs (closed_text nt c d e (blanks_text ks ++ 43 ∷ [])) ≡ centrings_text nt (all_of nt r (vector_of nt bs c d e ks)) ++ []
all_text nt None bs c d e ks = sym (append-nil (centring_text nt (vector_of nt bs c d e ks)))
all_text nt (Some vs) bs c d e ks = sym (append-nil (centrings_text nt vs ++ centring_text nt (vector_of nt bs c d e ks)))

pub all_value : (nt : Notation) → (r : Option (Centrings nt)) (v : Centring nt) → prior_value nt r ++ centring_value nt v ∷ [] ≡ centrings_value nt (all_of nt r v)
all_value nt None v = refl
all_value nt (Some vs) v = refl
