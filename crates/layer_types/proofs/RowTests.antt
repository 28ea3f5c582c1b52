-- A value that passes the test of a row is the layer type of its number.
use Rattle.std.proofs.Common.{◌≡◌, ℕ, Bool, true, ◌&&◌, ◌^◌, not, List, [], ◌∷◌, length, All, map, leb, nat_eq, arith, lit≤, ℤ, pos, negsuc, nat_abs, inl, inr}
use Rattle.std.specs.Prelude.{AllPairs, int_le, int_lt}
use Rattle.std.specs.Bool.{passes}
use Rattle.std.specs.List.{list_all}
use Rattle.std.specs.Str.{bytes_eq}
use Rattle.std.specs.Cmp.{booleans_Decides}
use Rattle.std.proofs.lemmas.Bool.{and_parts}
use Rattle.std.specs.Ordering.{int_eq}
use Rattle.std.specs.Int.{int_rem_euclid}
use Rattle.std.proofs.lemmas.Bool.Decides.{Decides-eqb, Decides-int_eq}
use Rattle.std.proofs.lemmas.Int.{ints}
use Rattle.std.proofs.lemmas.List.Elements.{All-weaker}
use Rattle.std.proofs.lemmas.List.Kept.{AllPairs-cons}
use Rattle.std.proofs.lemmas.List.Sums.{AllPass-from_list_all}
use Rattle.std.proofs.lemmas.Slice.Eq.{bytes_eq-Decides}
use lib.Dec.{leb→le}
use lib.Signed.{le_z_yes, lt_z_yes}
use mathlib.Core.Bool.{beq}
use Rattle.integers.specs.Size.{IsWithin}
use Rattle.integers.proofs.Ring.{IsWithin-more}
use Rattle.fractions.specs.Parts.{edge}
use Rattle.quotient.specs.Kind.{Keeps}
use Rattle.quotient.specs.Check.{meets}
use Rattle.quotient.specs.Order.{in_order}
use Rattle.quotient.proofs.CheckLemma.{meets_is}
use Rattle.quotient.proofs.OrderLemma.{in_order_is}
use Rattle.motions.specs.PlaneMatrices.{Matrix2, Pair}
use Rattle.motions.specs.PlaneSizes.{IsMatrix2Within, IsPairWithin}
use Rattle.motions.specs.Layers.{HasHalfPart, IsOdd, IsPlanarSmall, PlanarMotion, planar_of}
use Rattle.motions.specs.Laws.LayerLaws.{planar_followed_by_laws}
use Rattle.layer_types.specs.declared.layer_type.LayerType.{LayerType}
use Rattle.layer_types.specs.Lattices.{IsReduced, keeps_lattice, layer_kind}
use Rattle.layer_types.specs.Laws.ShiftLaws.{keeps_is, shifts_lem}
use Rattle.layer_types.specs.Rows.{Row, layer_row}
use Rattle.layer_types.specs.LayerTypes.{HaveOneBlock, IsLayerType, layer_form}
use Rattle.layer_types.proofs.KindTests.{apart_lem, layer_form_laws, layer_form_tests, layer_tests, layer_tests_laws, same_block}

-- ---- each operation

abbrev is_unit_entry : ℤ → Bool
is_unit_entry z = leb (nat_abs z) 1

unit_entry : (z : ℤ) → is_unit_entry z ≡ true → IsWithin 1 z
unit_entry z e = record { most = leb→le (nat_abs z) 1 (passes (is_unit_entry z) e) }

abbrev has_unit_entries : Matrix2 → Bool
has_unit_entries m = (is_unit_entry m.first.x && is_unit_entry m.first.y) && (is_unit_entry m.second.x && is_unit_entry m.second.y)

unit_entries : (m : Matrix2) → has_unit_entries m ≡ true → IsMatrix2Within 1 m
unit_entries m e =
    let (first, second) = and_parts (is_unit_entry m.first.x && is_unit_entry m.first.y) (is_unit_entry m.second.x && is_unit_entry m.second.y) e in
    let (a, b) = and_parts (is_unit_entry m.first.x) (is_unit_entry m.first.y) first in
    let (c, d) = and_parts (is_unit_entry m.second.x) (is_unit_entry m.second.y) second in
    record { first = record { x = unit_entry m.first.x a; y = unit_entry m.first.y b }; second = record { x = unit_entry m.second.x c; y = unit_entry m.second.y d } }

abbrev is_reduced : Pair → Bool
is_reduced v = (int_le (pos 0) v.x && int_lt v.x edge) && (int_le (pos 0) v.y && int_lt v.y edge)

is_reduced_lem : (v : Pair) → is_reduced v ≡ true → IsReduced v
is_reduced_lem v e =
    let (x, y) = and_parts (int_le (pos 0) v.x && int_lt v.x edge) (int_le (pos 0) v.y && int_lt v.y edge) e in
    let (a, b) = and_parts (int_le (pos 0) v.x) (int_lt v.x edge) x in
    let (c, d) = and_parts (int_le (pos 0) v.y) (int_lt v.y edge) y in
    record {
      x_least = le_z_yes (passes (int_le (pos 0) v.x) a);
      x_below = lt_z_yes (passes (int_lt v.x edge) b);
      y_least = le_z_yes (passes (int_le (pos 0) v.y) c);
      y_below = lt_z_yes (passes (int_lt v.y edge) d);
    }

-- what is small enough for a type is small
pair_more : (v : Pair) → IsPairWithin 1 v → IsPairWithin 500 v
pair_more v h = record { x = IsWithin-more h.x (lit≤ tt); y = IsWithin-more h.y (lit≤ tt) }

reduced_within : (v : Pair) → IsReduced v → IsPairWithin (2 ^ 40) v
reduced_within v h =
    let x = h.x_least in
    let x' = h.x_below in
    let y = h.y_least in
    let y' = h.y_below in
    record { x = record { most = omega (arith, ints) }; y = record { most = omega (arith, ints) } }

abbrev is_even : ℤ → Bool
is_even z = int_eq (int_rem_euclid z (pos 2)) (pos 0)

not_odd : (z : ℤ) → int_rem_euclid z (pos 2) ≡ pos 0 → ¬ IsOdd z
not_odd (pos n) e (k, odd) = absurd (omega (arith, ints))
not_odd (negsuc n) e (k, odd) = absurd (omega (arith, ints))

no_half_part : (m : PlanarMotion) → (is_even m.translation.x && is_even m.translation.y) ≡ true → ¬ HasHalfPart m
no_half_part m e h =
    let (x, y) = and_parts (is_even m.translation.x) (is_even m.translation.y) e in
    elim h [
      | inl odd ↦ not_odd m.translation.x ((Decides-int_eq (int_rem_euclid m.translation.x (pos 2)) (pos 0)).0 x) odd
      | inr odd ↦ not_odd m.translation.y ((Decides-int_eq (int_rem_euclid m.translation.y (pos 2)) (pos 0)).0 y) odd
    ]

-- what each operation of a type is
record IsTypeOperation (centred : Bool) (m : PlanarMotion) : Type 0 where
  entries : IsMatrix2Within 1 m.matrix
  reduced : IsReduced m.translation
  parts : ¬ HasHalfPart m
  keeps : Keeps (layer_kind centred) m

abbrev is_type_operation : Bool → PlanarMotion → Bool
is_type_operation centred m =
    has_unit_entries m.matrix && (is_reduced m.translation && ((is_even m.translation.x && is_even m.translation.y) && keeps_lattice centred m.matrix))

type_operation : (centred : Bool) (m : PlanarMotion) → is_type_operation centred m ≡ true → IsTypeOperation centred m
type_operation centred m e =
    let even = is_even m.translation.x && is_even m.translation.y in
    let (entries, e1) = and_parts (has_unit_entries m.matrix) (is_reduced m.translation && (even && keeps_lattice centred m.matrix)) e in
    let (shift, e2) = and_parts (is_reduced m.translation) (even && keeps_lattice centred m.matrix) e1 in
    let (parts, keeps) = and_parts even (keeps_lattice centred m.matrix) e2 in
    record {
      entries = unit_entries m.matrix entries;
      reduced = is_reduced_lem m.translation shift;
      parts = no_half_part m parts;
      keeps = (keeps_is centred m).0 keeps;
    }

operation_small : (centred : Bool) (m : PlanarMotion) → IsTypeOperation centred m → IsPlanarSmall m
operation_small centred m h = record {
  matrix = record { first = pair_more m.matrix.first h.entries.first; second = pair_more m.matrix.second h.entries.second };
  translation = reduced_within m.translation h.reduced;
}

-- ---- no two with one matrix and one sign

abbrev are_apart : List PlanarMotion → Bool
are_apart [] = true
are_apart (m ∷ ms) = list_all (λ n. not (same_block m n)) ms && are_apart ms

apart : (ms : List PlanarMotion) → are_apart ms ≡ true → AllPairs (λ m n. ¬ HaveOneBlock m n) ms
apart [] e = λ i j d h l. absurd (omega arith)
apart (m ∷ ms) e =
    let (first, rest) = and_parts (list_all (λ n. not (same_block m n)) ms) (are_apart ms) e in
    AllPairs-cons (λ m n. ¬ HaveOneBlock m n) m ms
    (All-weaker (λ n. not (same_block m n) ≡ true) (λ n. ¬ HaveOneBlock m n) (apart_lem m) ms (AllPass-from_list_all (λ n. not (same_block m n)) ms first))
    (apart ms rest)

-- ---- a row

-- with the products of so many generators each operation is reached
abbrev rounds : ℕ
rounds = 6

abbrev meets_row : Row PlanarMotion → List PlanarMotion → Bool
meets_row r ms =
    meets (layer_kind r.centred) (layer_tests r.centred) rounds r.generators ms
    && (in_order (layer_kind r.centred) (layer_form_tests r.centred) ms
    && (list_all (is_type_operation r.centred) ms && are_apart ms))

abbrev is_row : Row PlanarMotion → ℕ → LayerType → Bool
is_row r n t =
    nat_eq t.number n
    && (bytes_eq t.symbol.now r.symbol
    && (beq t.centred r.centred && (meets_row r (map planar_of t.ops.now) && leb (length t.ops.now) 24)))

abbrev pub is_layer_type : ℕ → LayerType → Bool
is_layer_type n t = is_row (layer_row n) n t

pub layer_type : (n : ℕ) (t : LayerType) → is_layer_type n t ≡ true → IsLayerType n t
layer_type n t e =
    let r = layer_row n in
    let ms = map planar_of t.ops.now in
    let (number, e1) = and_parts (nat_eq t.number n) (bytes_eq t.symbol.now r.symbol && (beq t.centred r.centred && (meets_row r ms && leb (length t.ops.now) 24))) e in
    let (symbol, e2) = and_parts (bytes_eq t.symbol.now r.symbol) (beq t.centred r.centred && (meets_row r ms && leb (length t.ops.now) 24)) e1 in
    let (centred, e3) = and_parts (beq t.centred r.centred) (meets_row r ms && leb (length t.ops.now) 24) e2 in
    let (met, count) = and_parts (meets_row r ms) (leb (length t.ops.now) 24) e3 in
    let (closed, e4) =
    and_parts (meets (layer_kind r.centred) (layer_tests r.centred) rounds r.generators ms)
    (in_order (layer_kind r.centred) (layer_form_tests r.centred) ms && (list_all (is_type_operation r.centred) ms && are_apart ms)) met in
    let (ordered, e5) = and_parts (in_order (layer_kind r.centred) (layer_form_tests r.centred) ms) (list_all (is_type_operation r.centred) ms && are_apart ms) e4 in
    let (each, separate) = and_parts (list_all (is_type_operation r.centred) ms) (are_apart ms) e5 in
    let operations : All (IsTypeOperation r.centred) ms =
    All-weaker (λ m. is_type_operation r.centred m ≡ true) (IsTypeOperation r.centred) (type_operation r.centred) ms (AllPass-from_list_all (is_type_operation r.centred) ms each) in
    record {
      number = (Decides-eqb t.number n).0 number;
      symbol = (bytes_eq-Decides t.symbol.now r.symbol).0 symbol;
      centred = (booleans_Decides t.centred r.centred).0 centred;
      closure = meets_is (layer_kind r.centred) (layer_tests r.centred) (layer_tests_laws r.centred) r.generators planar_followed_by_laws (shifts_lem r.centred) rounds ms closed;
      order = in_order_is (layer_kind r.centred) (layer_form r.centred) (layer_form_tests r.centred) (layer_form_laws r.centred) ms ordered;
      small = All-weaker (IsTypeOperation r.centred) IsPlanarSmall (operation_small r.centred) ms operations;
      entries = All-weaker (IsTypeOperation r.centred) (λ m. IsMatrix2Within 1 m.matrix) (λ m h. h.entries) ms operations;
      reduced = All-weaker (IsTypeOperation r.centred) (λ m. IsReduced m.translation) (λ m h. h.reduced) ms operations;
      parts = All-weaker (IsTypeOperation r.centred) (λ m. ¬ HasHalfPart m) (λ m h. h.parts) ms operations;
      keeps = All-weaker (IsTypeOperation r.centred) (Keeps (layer_kind r.centred)) (λ m h. h.keeps) ms operations;
      apart = apart ms separate;
      count = leb→le (length t.ops.now) 24 (passes (leb (length t.ops.now) 24) count);
    }
