-- The numbers that a triplet or a group text gives are small.
use Rattle.std.proofs.Common.{ℕ, suc, ◌+◌, ◌*◌, ◌<◌, ◌≤◌, Bool, true, false, cond, List, [], ◌∷◌, ◌++◌, length, ℤ, sym, ◌∙◌, ap, subst, arith, length-append}
use Rattle.std.specs.Prelude.{◌^◌, ◌==◌, nat_abs, All, map}
use Rattle.std.proofs.lemmas.Int.{ints}
use Rattle.std.proofs.lemmas.List.Elements.{All-append, All-nil}
use Rattle.std.proofs.Math.ListN.{get_or-map, length-map}
use Rattle.symmetry.specs.Motions.{Motion}
use Rattle.symmetry.specs.Groups.{Listing}
use Rattle.symmetry.specs.Sizes.{IsVectorWithin}
use Rattle.motions.specs.declared.motion.Sign.{Sign}
use Rattle.motions.specs.declared.motion.Sign.TheVariants.{Plus, Minus}
use Rattle.triplets.specs.declared.notation.Notation.{Notation}
use Rattle.triplets.specs.declared.notation.Notation.TheVariants.{Triplets, Pairs}
use Rattle.triplets.specs.declared.marks.Axis.{Axis}
use Rattle.triplets.specs.declared.marks.Axis.TheVariants.{X, Y, Z}
use Rattle.triplets.specs.declared.part.Row.{Row}
use Rattle.triplets.specs.Rows.{signed, with_entry, with_translation, zero_row, matrix_row, motion_with}
use Rattle.triplets.specs.Denominators.{unit, parts as parts_over}
use Rattle.triplets.specs.Grammar.{Digit, digit_value, Numerator, decimal, numerator_value, Term, letter, multiple, whole, fraction, term_text, with_term, Lead, bare, sign, more, lead_text, lead_row, lead_sign, sign_byte, blanks_text, Written, ThirdPart, part_text, part_row, third_text, third_row, IsOperation}
use Rattle.triplets.specs.Lines.{coordinate_text, third_coordinate_text, third_coordinate_value, ThirdCoordinate, Centring, centring_text, centring_value, Centrings, one, further, centrings_text, centrings_value, Form, empty, operation, row, form_text, form_value, label_text, comment_text, IsLine}
use Rattle.triplets.specs.Texts.{lines_of, with_front, listed_then, nothing_listed, AreLines, AreTextLines, IsGroupText}
use Rattle.integers.specs.Size.{IsWithin}
use Rattle.quotient.proofs.ListLaws.{All-single}
use Rattle.motions.specs.ListedSizes.{IsSmallWithin, IsListedSmall}
use Rattle.motions.specs.declared.listed.Listed.{Listed}
use Rattle.motions.specs.Views.{motion_of, parts, listing_of}
use Rattle.triplets.proofs.Bounds.{moved_size, parts_small}

-- ---- a part

-- a numerator is below a thousand
numerator_small : (n : Numerator) → numerator_value n < 1000
numerator_small n = by_digits n.first n.others n.short
  where
    by_digits : (d : Digit) (ds : List Digit) → length ds ≤ 2 → decimal (digit_value d) ds < 1000
    by_digits d [] h = let a = d.high in omega arith
    by_digits d (e ∷ []) h = let a = d.high in let b = e.high in omega arith
    by_digits d (e ∷ f ∷ []) h = let a = d.high in let b = e.high in let c = f.high in omega arith
    by_digits d (e ∷ f ∷ g ∷ ds) h = absurd (omega arith)

-- the value of n bytes of a part
record IsRowSmall (n : ℕ) (r : Row) : Type 0 where
  x : nat_abs r.x ≤ 9
  y : nat_abs r.y ≤ 9
  z : nat_abs r.z ≤ 9
  translation : nat_abs r.translation ≤ 1000 * unit * n

zero_small : (n : ℕ) → IsRowSmall n zero_row
zero_small n = record { x = omega arith; y = omega arith; z = omega arith; translation = omega arith }

more_bytes : (m n : ℕ) (r : Row) → m ≤ n → IsRowSmall m r → IsRowSmall n r
more_bytes m n r h i = record { x = i.x; y = i.y; z = i.z; translation = omega (arith, i.translation) }

signed_size : (s : Sign) (v : ℕ) → nat_abs (signed s v) ≤ v
signed_size Plus v = omega arith
signed_size Minus v = omega (arith, ints)

entry_small : (a : Axis) (v : ℤ) (n : ℕ) (r : Row) → nat_abs v ≤ 9 → IsRowSmall n r → IsRowSmall n (with_entry a v r)
entry_small X v n r h i = record { x = h; y = i.y; z = i.z; translation = i.translation }
entry_small Y v n r h i = record { x = i.x; y = h; z = i.z; translation = i.translation }
entry_small Z v n r h i = record { x = i.x; y = i.y; z = h; translation = i.translation }

shift_small : (s : Sign) (v n : ℕ) (r : Row) → v < 1000 * unit → IsRowSmall n r → IsRowSmall (n + 1) (with_translation s v r)
shift_small s v n r h i = let m = moved_size r.translation s v in record { x = i.x; y = i.y; z = i.z; translation = omega (arith, i.translation) }

term_small : (t : Term) (s : Sign) (n : ℕ) (r : Row) → IsRowSmall n r → IsRowSmall (n + length (term_text t)) (with_term s t r)
term_small (letter a c) s n r h = more_bytes n _ _ (omega arith) (entry_small a (signed s 1) n r (omega (arith, signed_size s 1)) h)
term_small (multiple d low a c) s n r h =
    let high = d.high in
    more_bytes n _ _ (omega arith) (entry_small a (signed s (digit_value d)) n r (omega (arith, signed_size s (digit_value d))) h)
term_small (whole m) s n r h = more_bytes (n + 1) _ _ (omega arith) (shift_small s (unit * numerator_value m) n r (omega (arith, numerator_small m)) h)
term_small (fraction m d) s n r h = more_bytes (n + 1) _ _ (omega arith) (shift_small s (parts_over d.number * numerator_value m) n r (parts_small d.number (numerator_value m) (numerator_small m)) h)

lead_small : (l : Lead) → IsRowSmall (length (lead_text l)) (lead_row l)
lead_small (bare bs) = zero_small _
lead_small (sign bs s cs) = zero_small _
lead_small (more l t bs s cs) =
    let tail : List ℕ = blanks_text bs ++ sign_byte s ∷ blanks_text cs in
    more_bytes (length (lead_text l) + length (term_text t)) _ _ (omega (arith, length-append (lead_text l) (term_text t ++ tail), length-append (term_text t) tail))
    (term_small t (lead_sign l) (length (lead_text l)) (lead_row l) (lead_small l))

part_small : (nt : Notation) → (w : Written nt) (n : ℕ) → length (part_text nt w) ≤ n → IsRowSmall n (part_row nt w)
part_small nt w n h =
    more_bytes (length (lead_text w.lead) + length (term_text w.last)) n _
    (omega (arith, length-append (lead_text w.lead) (term_text w.last ++ blanks_text w.after), length-append (term_text w.last) (blanks_text w.after)))
    (term_small w.last (lead_sign w.lead) (length (lead_text w.lead)) (lead_row w.lead) (lead_small w.lead))

-- ---- a triplet

row_size : (bound : ℕ) → 9 ≤ bound → (n : ℕ) (r : Row) → IsRowSmall n r → IsVectorWithin bound (matrix_row r)
row_size bound h n r i = record { x = record { most = omega (arith, i.x) }; y = record { most = omega (arith, i.y) }; z = record { most = omega (arith, i.z) } }

row_within : (n : ℕ) (q r s : Row) → n ≤ 16777216 → IsRowSmall n q → IsRowSmall n r → IsRowSmall n s → IsSmallWithin 9 (motion_with q r s)
row_within n q r s h a b c = record {
  small = record {
    matrix = record { first = row_size 500 (omega arith) n q a; second = row_size 500 (omega arith) n r b; third = row_size 500 (omega arith) n s c };
    translation = record { x = record { most = omega (arith, a.translation) }; y = record { most = omega (arith, b.translation) }; z = record { most = omega (arith, c.translation) } };
  };
  matrix = record { first = row_size 9 (omega arith) n q a; second = row_size 9 (omega arith) n r b; third = row_size 9 (omega arith) n s c };
}

third_small : (nt : Notation) (x : ThirdPart nt) (n : ℕ) → length (third_text nt x) ≤ n → IsRowSmall n (third_row nt x)
third_small Triplets x n h = part_small Triplets x n (omega arith)
third_small Pairs x n h = record { x = omega arith; y = omega arith; z = omega arith; translation = omega arith }

parts_within : (nt : Notation) → (v w : Written nt) (x : ThirdPart nt) (n : ℕ) → n ≤ 16777216 → length (part_text nt v ++ (44 ∷ (part_text nt w ++ third_text nt x))) ≤ n → IsSmallWithin 9 (motion_with (part_row nt v) (part_row nt w) (third_row nt x))
parts_within nt v w x n h i =
    let a = length-append (part_text nt v) (44 ∷ (part_text nt w ++ third_text nt x)) in
    let b = length-append (part_text nt w) (third_text nt x) in
    row_within n (part_row nt v) (part_row nt w) (third_row nt x) h (part_small nt v n (omega arith)) (part_small nt w n (omega arith)) (third_small nt x n (omega arith))

pub triplet_small : (nt : Notation) → (bytes : List ℕ) (m : Motion) → length bytes ≤ 16777216 → IsOperation nt bytes m → IsSmallWithin 9 m
triplet_small nt bytes m h t =
    subst (IsSmallWithin 9) (sym t.rows) (parts_within nt t.one t.two t.three (length bytes) h (let e = ap length t.text in omega arith))

-- ---- a line

third_coordinate_small : (nt : Notation) (c : ThirdCoordinate nt) (n : ℕ) → n ≤ 16777216 → length (third_coordinate_text nt c) ≤ n → IsWithin (2 ^ 40) (third_coordinate_value nt c)
third_coordinate_small Triplets c n h i = record { most = let s = (part_small Triplets c.part n (omega arith)).translation in omega arith }
third_coordinate_small Pairs c n h i = record { most = omega arith }

centring_small : (nt : Notation) → (v : Centring nt) (n : ℕ) → n ≤ 16777216 → length (centring_text nt v) ≤ n → IsVectorWithin (2 ^ 40) (centring_value nt v)
centring_small nt v n h i =
    let tail5 : List ℕ = blanks_text v.between ++ 43 ∷ [] in
    let tail3 : List ℕ = third_coordinate_text nt v.three ++ (41 ∷ tail5) in
    let tail2 : List ℕ = coordinate_text nt v.two ++ tail3 in
    let tail1 : List ℕ = coordinate_text nt v.one ++ (44 ∷ tail2) in
    let a = length-append (blanks_text v.before) (40 ∷ tail1) in
    let b = length-append (coordinate_text nt v.one) (44 ∷ tail2) in
    let c = length-append (coordinate_text nt v.two) tail3 in
    let d = length-append (third_coordinate_text nt v.three) (41 ∷ tail5) in
    record {
      x = record { most = let s = (part_small nt v.one.part n (omega arith)).translation in omega arith };
      y = record { most = let s = (part_small nt v.two.part n (omega arith)).translation in omega arith };
      z = third_coordinate_small nt v.three n h (omega arith);
    }

centrings_small : (nt : Notation) → (r : Centrings nt) (n : ℕ) → n ≤ 16777216 → length (centrings_text nt r) ≤ n → All (IsVectorWithin (2 ^ 40)) (centrings_value nt r)
centrings_small nt (one v) n h i = All-single (IsVectorWithin (2 ^ 40)) (centring_value nt v) (centring_small nt v n h i)
centrings_small nt (further r v) n h i =
    let a = length-append (centrings_text nt r) (centring_text nt v) in
    All-append (IsVectorWithin (2 ^ 40)) (centrings_value nt r) (centring_value nt v ∷ []) (centrings_small nt r n h (omega arith))
    (All-single (IsVectorWithin (2 ^ 40)) (centring_value nt v) (centring_small nt v n h (omega arith)))

-- the operations and the vectors that are listed are small
pub record IsListingSmall (g : Listing) : Type 0 where
  pub ops : All (IsSmallWithin 9) g.ops
  pub centrings : All (IsVectorWithin (2 ^ 40)) g.centrings

nothing_small : IsListingSmall nothing_listed
nothing_small = record { ops = All-nil (IsSmallWithin 9); centrings = All-nil (IsVectorWithin (2 ^ 40)) }

form_small : (nt : Notation) → (f : Form nt) (n : ℕ) → n ≤ 16777216 → length (form_text nt f) ≤ n → IsListingSmall (form_value nt f)
form_small nt (empty bs) n h i = nothing_small
form_small nt (operation l v w x) n h i =
    let a = length-append (label_text l) (part_text nt v ++ (44 ∷ (part_text nt w ++ third_text nt x))) in
    record { ops = All-single (IsSmallWithin 9) (motion_with (part_row nt v) (part_row nt w) (third_row nt x)) (parts_within nt v w x n h (omega arith)); centrings = All-nil (IsVectorWithin (2 ^ 40)) }
form_small nt (row r bs) n h i =
    let a = length-append (centrings_text nt r) (blanks_text bs) in
    record { ops = All-nil (IsSmallWithin 9); centrings = centrings_small nt r n h (omega arith) }

line_small : (nt : Notation) → (bytes : List ℕ) (a : Listing) (n : ℕ) → n ≤ 16777216 → length bytes ≤ n → IsLine nt bytes a → IsListingSmall a
line_small nt bytes a n h i l =
    let e = ap length l.text ∙ length-append (form_text nt l.form) (comment_text l.comment) in
    subst IsListingSmall (sym l.value) (form_small nt l.form n h (omega arith))

-- ---- a text

then_small : (a b : Listing) → IsListingSmall a → IsListingSmall b → IsListingSmall (listed_then a b)
then_small a b h i = record {
  ops = All-append (IsSmallWithin 9) a.ops b.ops h.ops i.ops;
  centrings = All-append (IsVectorWithin (2 ^ 40)) a.centrings b.centrings h.centrings i.centrings;
}

-- each line has at most n bytes
AreShort : ℕ → List (List ℕ) → Type 0
AreShort n [] = Unit {0}
AreShort n (l ∷ ls) = (length l ≤ n) × AreShort n ls

longer : (n : ℕ) (ls : List (List ℕ)) → AreShort n ls → AreShort (suc n) ls
unfolding AreShort
longer n [] h = tt
longer n (l ∷ ls) h = (omega (arith, h.0), longer n ls h.1)

front_short : (b n : ℕ) (ls : List (List ℕ)) → AreShort n ls → AreShort (suc n) (with_front (b ∷ []) ls)
unfolding AreShort
front_short b n [] h = (omega arith, tt)
front_short b n (l ∷ ls) h = (omega (arith, h.0), longer n ls h.1)

short_by : (t : Bool) (b n : ℕ) (ls : List (List ℕ)) → AreShort n ls → AreShort (suc n) (cond t ([] ∷ ls) (with_front (b ∷ []) ls))
unfolding AreShort
short_by true b n ls h = (omega arith, longer n ls h)
short_by false b n ls h = front_short b n ls h

lines_short : (bytes : List ℕ) → AreShort (length bytes) (lines_of bytes)
unfolding AreShort
lines_short [] = (omega arith, tt)
lines_short (b ∷ bs) = short_by (b == 10) b (length bs) (lines_of bs) (lines_short bs)

lines_small : (nt : Notation) → (ls : List (List ℕ)) (g : Listing) (n : ℕ) → n ≤ 16777216 → AreShort n ls → AreLines nt ls g → IsListingSmall g
unfolding AreShort
lines_small nt [] g n h i e = subst IsListingSmall (sym e) nothing_small
lines_small nt (l ∷ ls) g n h i e = subst IsListingSmall (sym e.4) (then_small e.0 e.1 (line_small nt l e.0 n h i.0 e.2) (lines_small nt ls e.1 n h i.1 e.3))

all_of_map : {A B : Type 0} (P : B → Type 0) (f : A → B) (xs : List A) → All P (map f xs) → All (λ x. P (f x)) xs
all_of_map P f xs h k d i = subst P (get_or-map f xs k d) (h k (f d) (omega (arith, length-map xs f)))

-- the same of the code's lists
pub listed_small : (l : Listed) → IsListingSmall (listing_of l) → IsListedSmall 9 l
listed_small l h = record {
  ops = all_of_map (IsSmallWithin 9) (λ m. motion_of m) l.ops.items h.ops;
  centrings = all_of_map (IsVectorWithin (2 ^ 40)) (λ v. parts v) l.centrings.items h.centrings;
}

text_lines_small : (nt : Notation) → (b : Bool) (ls : List (List ℕ)) (g : Listing) (n : ℕ) → n ≤ 16777216 → AreShort n ls → AreTextLines nt b ls g → IsListingSmall g
unfolding AreShort
text_lines_small nt true [] g n h i e = absurd e
text_lines_small nt true (l ∷ ls) g n h i e = lines_small nt ls g n h i.1 e.1
text_lines_small nt false ls g n h i e = lines_small nt ls g n h i e

pub text_small : (nt : Notation) → (bytes : List ℕ) (b : Bool) (g : Listing) → length bytes ≤ 16777216 → IsGroupText nt bytes b g → IsListingSmall g
text_small nt bytes b g h t = text_lines_small nt b (lines_of bytes) g (length bytes) h (lines_short bytes) t
