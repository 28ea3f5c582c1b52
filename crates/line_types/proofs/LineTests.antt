-- Tests of a type that compute, and what they say.
use lib.Dec.{eqb, leb}
use Rattle.std.proofs.Common.{◌≡◌, ℕ, zero, suc, ◌^◌, Bool, true, ◌&&◌, List, [], ◌∷◌, length, get_or, All, AllPairs, subst, arith, ℤ, pos, ◌≤ℤ◌, ◌<ℤ◌, refl, lit≤}
use Rattle.std.specs.Prelude.{nat_abs, not, unsigned_abs}
use Rattle.std.specs.List.{list_all}
use Rattle.std.specs.Ordering.{int_eq}
use Rattle.std.specs.Str.{bytes_eq}
use Rattle.std.proofs.lemmas.Bool.{and_parts, eqb-true, leb-true, not-true}
use Rattle.std.proofs.lemmas.Bool.Decides.{Decides-int_eq}
use Rattle.std.proofs.lemmas.Int.{ints}
use Rattle.std.proofs.lemmas.List.Elements.{All-weaker}
use Rattle.std.proofs.lemmas.List.Sums.{AllPass-from_list_all}
use Rattle.std.proofs.lemmas.Slice.Eq.{bytes_eq-Decides, slice_eq-Decides}
use Rattle.std.specs.Cmp.Lexicographic.{pointwise}
use Rattle.integers.specs.Size.{IsWithin}
use Rattle.integers.proofs.Ring.{IsWithin-more}
use Rattle.fractions.specs.declared.part.TheConstants.{UNIT}
use Rattle.fractions.specs.Parts.{reduced_parts}
use Rattle.fractions.proofs.Reduced.{IsReduced-reduced_parts}
use Rattle.quotient.specs.Kind.{Kind}
use Rattle.quotient.specs.Check.{Tests, each_once, meets}
use Rattle.quotient.specs.Order.{FormTests, in_order}
use Rattle.quotient.proofs.CheckLemma.{TestsLaws, meets_is}
use Rattle.quotient.proofs.OrderLemma.{FormLaws, in_order_is}
use Rattle.line_types.specs.Lines.{Line, modulo_lattice, at_home}
use Rattle.line_types.specs.Laws.LineLaws.{LineLaws, homes, entries_of_same, keeps, lattice_group}
use Rattle.line_types.specs.Types.{Row, LineType, IsLineType, form_of, largest_order}

module _ (L : Line) where
  -- ---- the tests

  abbrev line_tests : Tests (modulo_lattice L)
  line_tests = record {
    same = λ m n. L.same (at_home L m) (at_home L n);
    apart = λ m n. not (pointwise int_eq (L.entries m) (L.entries n));
    keeps = λ m. true;
  }

  abbrev line_form_tests : FormTests (modulo_lattice L)
  line_form_tests = record {
    entries = L.entries;
    is_one = λ m. L.same m L.one;
    is_home = λ m. int_eq (reduced_parts (L.translation m)) (L.translation m);
  }

  abbrev is_one_within : ℤ → Bool
  is_one_within z = leb (nat_abs z) 1

  abbrev has_small_entries : L.Operation → Bool
  has_small_entries m = list_all is_one_within (L.entries m)

  -- how many rounds of products by generators reach each operation of a type
  abbrev rounds : ℕ
  rounds = 6

  -- whether these are the type of the number n
  abbrev pub is_type : Row L.Operation → ℕ → LineType L.Operation → Bool
  is_type row n t =
      eqb t.number n
      && (bytes_eq t.symbol row.symbol
      && (meets (modulo_lattice L) line_tests rounds row.generators t.ops
      && (in_order (modulo_lattice L) line_form_tests t.ops
      && (each_once (modulo_lattice L) line_tests t.ops
      && (list_all has_small_entries t.ops
      && leb (length t.ops) largest_order)))))

  -- ---- what they say

  module _ (laws : LineLaws L) where
    abbrev K : Kind
    K = modulo_lattice L

    differ : (m n : L.Operation) → not (pointwise int_eq (L.entries m) (L.entries n)) ≡ true → ¬ (L.entries m ≡ L.entries n)
    differ m n e same =
        let no = not-true (pointwise int_eq (L.entries m) (L.entries n)) e in
        let yes = (slice_eq-Decides Decides-int_eq (L.entries m) (L.entries n) (pointwise int_eq (L.entries m) (L.entries n)) refl).1 same in
        cc

    line_tests_laws : TestsLaws K line_tests
    line_tests_laws = record {
      same_is = λ m n e. (homes L laws m n).1 ((laws.same (at_home L m) (at_home L n)).0 e);
      apart_is = λ m n e s. differ m n e (entries_of_same L laws m n s);
      keeps_is = λ m e. keeps L laws m;
    }

    home_is : (m : L.Operation) → int_eq (reduced_parts (L.translation m)) (L.translation m) ≡ true → (pos 0 ≤ℤ L.translation m) × (L.translation m <ℤ UNIT)
    home_is m e =
        let is = (Decides-int_eq (reduced_parts (L.translation m)) (L.translation m)).0 e in
        let h = IsReduced-reduced_parts (L.translation m) (reduced_parts (L.translation m)) refl in
        subst (λ s. (pos 0 ≤ℤ s) × (s <ℤ UNIT)) is (h.least, h.below)

    line_form_laws : FormLaws K (form_of L) line_form_tests
    line_form_laws = record { entries_is = λ m. refl; one_is = λ m e. (laws.same m L.one).0 e; home_is = home_is }

    matrices_differ : (ops : List L.Operation) → each_once K line_tests ops ≡ true → AllPairs (λ m n. ¬ (L.entries m ≡ L.entries n)) ops
    matrices_differ [] e i j d h l = absurd (omega arith)
    matrices_differ (m ∷ ms) e i zero d h l = absurd (omega arith)
    matrices_differ (m ∷ ms) e zero (suc j) d h l =
        differ m (get_or ms j d)
        (AllPass-from_list_all (line_tests.apart m) ms (and_parts (list_all (line_tests.apart m) ms) (each_once K line_tests ms) e).0 j d (omega arith))
    matrices_differ (m ∷ ms) e (suc i) (suc j) d h l =
        matrices_differ ms (and_parts (list_all (line_tests.apart m) ms) (each_once K line_tests ms) e).1 i j d (omega arith) (omega arith)

    one_within : (z : ℤ) → is_one_within z ≡ true → IsWithin 1 z
    one_within z e = record { most = leb-true (nat_abs z) 1 e }

    small_entries : (ops : List L.Operation) → list_all has_small_entries ops ≡ true → All (λ m. All (IsWithin 1) (L.entries m)) ops
    small_entries ops e =
        All-weaker (λ m. has_small_entries m ≡ true) (λ m. All (IsWithin 1) (L.entries m))
        (λ m t. All-weaker (λ z. is_one_within z ≡ true) (IsWithin 1) one_within (L.entries m) (AllPass-from_list_all is_one_within (L.entries m) t))
        ops (AllPass-from_list_all has_small_entries ops e)

    below_an_edge : (s : ℤ) → (pos 0 ≤ℤ s) × (s <ℤ UNIT) → IsWithin (2 ^ 40) s
    below_an_edge s h =
        let a = h.0 in
        let b = h.1 in
        let edge : IsWithin (unsigned_abs UNIT) s = record { most = omega (arith, ints) } in
        IsWithin-more edge (lit≤ tt)

    pub is_type_is : (row : Row L.Operation) (n : ℕ) (t : LineType L.Operation) → is_type row n t ≡ true → IsLineType L row n t
    is_type_is row n t e =
        let (number, e1) = and_parts (eqb t.number n) _ e in
        let (symbol, e2) = and_parts (bytes_eq t.symbol row.symbol) _ e1 in
        let (closure, e3) = and_parts (meets K line_tests rounds row.generators t.ops) _ e2 in
        let (order, e4) = and_parts (in_order K line_form_tests t.ops) _ e3 in
        let (once, e5) = and_parts (each_once K line_tests t.ops) _ e4 in
        let (entries, few) = and_parts (list_all has_small_entries t.ops) (leb (length t.ops) largest_order) e5 in
        let ordered = in_order_is K (form_of L) line_form_tests line_form_laws t.ops order in
        let small = small_entries t.ops entries in
        record {
          number = eqb-true t.number n number;
          symbol = (bytes_eq-Decides t.symbol row.symbol).0 symbol;
          closure = meets_is K line_tests line_tests_laws row.generators laws.monoid (lattice_group L laws) rounds t.ops closure;
          order = ordered;
          matrices = matrices_differ t.ops once;
          entries = small;
          small = λ i d l. laws.small (get_or t.ops i d) (small i d l) (below_an_edge (L.translation (get_or t.ops i d)) (ordered.home i d l));
          keeps = λ m h. keeps L laws m;
          few = leb-true (length t.ops) largest_order few;
        }
