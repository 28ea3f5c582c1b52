-- The trees of the grammar that write the parts of a triplet.
use Rattle.std.proofs.Common.{◌≡◌, ◌⊎◌, inl, inr, ℕ, zero, suc, ◌<◌, false, List, [], ◌∷◌, ◌++◌, length, ℤ, pos, negsuc, ◌+ℤ◌, refl, sym, ap, subst, ◌∙◌, arith, append_assoc, length-append}
use Rattle.std.specs.Str.Parse.{without_leading_plus}
use Rattle.std.proofs.lemmas.List.{append-nil}
use Rattle.integers.specs.Size.{IsWithin}
use Rattle.integers.proofs.Ring.{zero_add}
use Rattle.fractions.specs.declared.part.TheConstants.{UNIT}
use Rattle.fractions.specs.LowestTerms.{lowest_terms}
use Rattle.symmetry.specs.Vectors.{Vector}
use Rattle.symmetry.specs.Sizes.{IsVectorWithin}
use Rattle.triplets.specs.declared.notation.Notation.TheVariants.{Triplets}
use Rattle.triplets.specs.declared.marks.Axis.{Axis}
use Rattle.triplets.specs.declared.marks.Axis.TheVariants.{X, Y, Z}
use Rattle.motions.specs.declared.motion.Sign.{Sign}
use Rattle.motions.specs.declared.motion.Sign.TheVariants.{Plus, Minus}
use Rattle.triplets.specs.declared.part.Row.{Row}
use Rattle.triplets.specs.declared.part.Used.{Used}
use Rattle.triplets.specs.Rows.{zero_row, unused, with_entry, uses, with_used}
use Rattle.triplets.specs.Grammar.{sign_byte, letter_byte, Term, whole, bare, sign as signed_lead, more, lead_text, lead_letters, blanks_text, letter, term_text, with_term, with_letters, IsNew, Written, part_text, part_row}
use Rattle.triplets.specs.Writing.{letter_term, number_term, terms_text, or_zero, row_text}
use Rattle.triplets.proofs.Terms.{without_leading_plus-more}
use Rattle.triplets.proofs.NumberTrees.{digit}
use Rattle.triplets.proofs.TermTrees.{IsTerm, letter_tree, number_tree}

-- signed terms that are no part yet: none
record IsNone (text : List ℕ) (row : Row) (letters : Used) : Type 0 where
  text_is : [] ≡ text
  row_is : zero_row ≡ row
  letters_are : unused ≡ letters

-- signed terms that are a part of the grammar, with this value and these letters, where no plus stands first
record IsSome (text : List ℕ) (row : Row) (letters : Used) : Type 0 where
  tree : Written Triplets
  shows : 0 < length (without_leading_plus text)
  text_is : without_leading_plus text ≡ part_text Triplets tree
  row_is : part_row Triplets tree ≡ row
  letters_are : with_letters tree.last (lead_letters tree.lead) ≡ letters

AreTerms : List ℕ → Row → Used → Type 0
AreTerms text row letters = IsNone text row letters ⊎ IsSome text row letters

restated : (text text' : List ℕ) (row row' : Row) (letters letters' : Used) → text ≡ text' → row ≡ row' → letters ≡ letters'
    → IsSome text row letters → IsSome text' row' letters'
restated text text' row row' letters letters' e f g h = record {
  tree = h.tree;
  shows = subst (λ (t : List ℕ). 0 < length (without_leading_plus t)) e h.shows;
  text_is = ap without_leading_plus (sym e) ∙ h.text_is;
  row_is = h.row_is ∙ f;
  letters_are = h.letters_are ∙ g;
}

-- ---- one more term

term_shows : (t : Term) → 0 < length (term_text t)
term_shows (letter a c) = omega arith
term_shows t = omega arith

first_term : (s : Sign) (t : Term) (text : List ℕ) → IsNew Triplets t unused → text ≡ sign_byte s ∷ term_text t
    → IsSome text (with_term s t zero_row) (with_letters t unused)
first_term Plus t text new e = record {
  tree = record { lead = bare []; last = t; after = []; good = tt; new = new };
  shows = subst (λ (u : List ℕ). 0 < length (without_leading_plus u)) (sym e) (term_shows t);
  text_is = ap without_leading_plus e ∙ sym (append-nil (term_text t));
  row_is = refl;
  letters_are = refl;
}
first_term Minus t text new e = record {
  tree = record { lead = signed_lead [] Minus []; last = t; after = []; good = tt; new = new };
  shows = subst (λ (u : List ℕ). 0 < length (without_leading_plus u)) (sym e) (omega arith);
  text_is = ap without_leading_plus e ∙ ap (λ ts. sign_byte Minus ∷ ts) (sym (append-nil (term_text t)));
  row_is = refl;
  letters_are = refl;
}

behind : (lead last after : List ℕ) (s : ℕ) (term : List ℕ)
    → (lead ++ (last ++ after)) ++ s ∷ term ≡ (lead ++ (last ++ (after ++ s ∷ []))) ++ (term ++ [])
behind lead last after s term = simp (append_assoc, append-nil)

further_term : (s : Sign) (t : Term) (text new_text : List ℕ) (row : Row) (letters : Used) → IsSome text row letters → IsNew Triplets t letters
    → new_text ≡ sign_byte s ∷ term_text t → IsSome (text ++ new_text) (with_term s t row) (with_letters t letters)
further_term s t text new_text row letters h new e =
    let w = h.tree in
    let longer : without_leading_plus (text ++ new_text) ≡ without_leading_plus text ++ new_text = without_leading_plus-more text new_text h.shows in
    record {
      tree = record {
        lead = more w.lead w.last w.after s [];
        last = t;
        after = [];
        good = (w.good, w.new);
        new = subst (λ (u : Used). IsNew Triplets t u) (sym h.letters_are) new;
      };
      shows = omega (arith, ap length longer, length-append (without_leading_plus text) new_text, h.shows);
      text_is = longer ∙ (λ i. h.text_is i ++ e i) ∙ behind (lead_text w.lead) (term_text w.last) (blanks_text w.after) (sign_byte s) (term_text t);
      row_is = ap (with_term s t) h.row_is;
      letters_are = ap (with_letters t) h.letters_are;
    }

next_term : (text new_text : List ℕ) (row : Row) (letters : Used) (add : Row → Row) (use_letter : Used → Used) (IsFree : Used → Type 0)
    → AreTerms text row letters → IsTerm new_text add use_letter IsFree → IsFree letters
    → IsSome (text ++ new_text) (add row) (use_letter letters)
unfolding AreTerms
next_term text new_text row letters add use_letter IsFree (inl none) t free =
    restated new_text (text ++ new_text) (with_term t.sign t.term zero_row) (add row) (with_letters t.term unused) (use_letter letters)
    (ap (λ u. u ++ new_text) none.text_is) (t.row_is zero_row ∙ ap add none.row_is) (t.letters_are unused ∙ ap use_letter none.letters_are)
    (first_term t.sign t.term new_text (t.new unused (subst IsFree (sym none.letters_are) free)) t.text_is)
next_term text new_text row letters add use_letter IsFree (inr some) t free =
    restated (text ++ new_text) (text ++ new_text) (with_term t.sign t.term row) (add row) (with_letters t.term letters) (use_letter letters)
    refl (t.row_is row) (t.letters_are letters)
    (further_term t.sign t.term text new_text row letters some (t.new letters free) t.text_is)

-- ---- letters and numbers

abbrev entry : Axis → Row → ℤ
entry X r = r.x
entry Y r = r.y
entry Z r = r.z

abbrev with_letter : Axis → ℤ → Used → Used
with_letter a (pos zero) u = u
with_letter a (pos (suc n)) u = with_used a u
with_letter a (negsuc n) u = with_used a u

with_entry-same : (a : Axis) (r : Row) → entry a r ≡ pos 0 → r ≡ with_entry a (pos 0) r
with_entry-same X r e = ap (λ v. record r { x = v }) e
with_entry-same Y r e = ap (λ v. record r { y = v }) e
with_entry-same Z r e = ap (λ v. record r { z = v }) e

same_terms : (text : List ℕ) (row row' : Row) (letters : Used) → row ≡ row' → AreTerms text row letters → AreTerms (text ++ []) row' letters
unfolding AreTerms
same_terms text row row' letters f (inl none) =
    inl (record { text_is = none.text_is ∙ sym (append-nil text); row_is = none.row_is ∙ f; letters_are = none.letters_are })
same_terms text row row' letters f (inr some) =
    inr (restated text (text ++ []) row row' letters letters (sym (append-nil text)) f refl some)

letter_step : (a : Axis) (c : ℤ) (text : List ℕ) (row : Row) (letters : Used) → IsWithin 9 c → uses a letters ≡ false → entry a row ≡ pos 0
    → AreTerms text row letters → AreTerms (text ++ letter_term c (letter_byte a false ∷ [])) (with_entry a c row) (with_letter a c letters)
unfolding AreTerms
letter_step a (pos zero) text row letters small free none terms = same_terms text row (with_entry a (pos 0) row) letters (with_entry-same a row none) terms
letter_step a (pos (suc n)) text row letters small free none terms =
    inr (next_term text _ row letters _ _ _ terms (letter_tree a (pos (suc n)) small (λ e. cc)) free)
letter_step a (negsuc n) text row letters small free none terms =
    inr (next_term text _ row letters _ _ _ terms (letter_tree a (negsuc n) small (λ e. cc)) free)

number_stands : (t : ℤ) (text : List ℕ) (row : Row) (letters : Used) → ¬ (t ≡ pos 0) → IsWithin 999 (lowest_terms t UNIT).num
    → row.translation ≡ pos 0 → AreTerms text row letters → IsSome (text ++ number_term t) (record row { translation = t }) letters
number_stands t text row letters shows short none terms =
    restated _ (text ++ number_term t) (record row { translation = row.translation +ℤ t }) (record row { translation = t }) letters letters
    refl (ap (λ v. record row { translation = v }) (ap (λ v. v +ℤ t) none ∙ zero_add t)) refl
    (next_term text (number_term t) row letters _ _ _ terms (number_tree t short shows) tt)

number_step : (t : ℤ) (text : List ℕ) (row : Row) (letters : Used) → IsWithin 999 (lowest_terms t UNIT).num → row.translation ≡ pos 0
    → AreTerms text row letters → AreTerms (text ++ number_term t) (record row { translation = t }) letters
unfolding AreTerms
number_step (pos zero) text row letters short none terms =
    same_terms text row (record row { translation = pos 0 }) letters (ap (λ v. record row { translation = v }) none) terms
number_step (pos (suc n)) text row letters short none terms =
    inr (number_stands (pos (suc n)) text row letters (λ e. cc) short none terms)
number_step (negsuc n) text row letters short none terms =
    inr (number_stands (negsuc n) text row letters (λ e. cc) short none terms)

-- ---- a part

-- a part of the grammar that is written so, with this value
record WritesTerms (text : List ℕ) (row : Row) : Type 0 where
  tree : Written Triplets
  text_is : or_zero (without_leading_plus text) ≡ part_text Triplets tree
  row_is : part_row Triplets tree ≡ row

or_zero-shows : (bs : List ℕ) → 0 < length bs → or_zero bs ≡ bs
or_zero-shows [] h = absurd (omega arith)
or_zero-shows (b ∷ bs) h = refl

-- the part `0`
zero_part : Written Triplets
zero_part = record {
  lead = bare [];
  last = whole (record { first = digit 0 (omega arith); others = []; short = omega arith });
  after = [];
  good = tt;
  new = tt;
}

terms_tree : (text : List ℕ) (row : Row) (letters : Used) → AreTerms text row letters → WritesTerms text row
unfolding AreTerms zero_part
terms_tree text row letters (inl none) = record {
  tree = zero_part;
  text_is = ap (λ u. or_zero (without_leading_plus u)) (sym none.text_is);
  row_is = none.row_is;
}
terms_tree text row letters (inr some) = record {
  tree = some.tree;
  text_is = or_zero-shows (without_leading_plus text) some.shows ∙ some.text_is;
  row_is = some.row_is;
}

y_free : (c : ℤ) (u : Used) → uses Y (with_letter X c u) ≡ uses Y u
y_free (pos zero) u = refl
y_free c u = refl

z_free_of_x : (c : ℤ) (u : Used) → uses Z (with_letter X c u) ≡ uses Z u
z_free_of_x (pos zero) u = refl
z_free_of_x c u = refl

z_free : (c d : ℤ) (u : Used) → uses Z (with_letter Y d (with_letter X c u)) ≡ uses Z u
z_free c (pos zero) u = z_free_of_x c u
z_free c d u = z_free_of_x c u

-- a part of the grammar that is written as a row and a number are, and says them
pub record WritesRow (r : Vector) (t : ℤ) : Type 0 where
  pub tree : Written Triplets
  pub text_is : row_text r t ≡ part_text Triplets tree
  pub row_is : part_row Triplets tree ≡ record { x = r.x; y = r.y; z = r.z; translation = t }

no_terms : AreTerms [] zero_row unused
unfolding AreTerms
no_terms = inl (record { text_is = refl; row_is = refl; letters_are = refl })

pub row_tree : (r : Vector) (t : ℤ) → IsVectorWithin 9 r → IsWithin 999 (lowest_terms t UNIT).num → WritesRow r t
row_tree r t small short =
    let x = letter_step X r.x [] zero_row unused small.x refl refl no_terms in
    let y = letter_step Y r.y _ _ _ small.y (y_free r.x unused) refl x in
    let z = letter_step Z r.z _ _ _ small.z (z_free r.x r.y unused) refl y in
    let written = terms_tree (terms_text r t) _ _ (number_step t _ _ _ short refl z) in
    record { tree = written.tree; text_is = written.text_is; row_is = written.row_is }
