-- The order of a generated group's list.
use Rattle.std.proofs.Common.{◌≡◌, ℕ, ◌-◌, Bool, true, false, ℤ, pos, inl, inr, arith, refl, sym, ap, subst, ◌∙◌, List, [], ◌∷◌, ◌++◌, length, get_or, map, reverse}
use Rattle.std.specs.Prelude.{AllPairs}
use Rattle.std.specs.Cmp.{both_ways}
use Rattle.std.specs.Cmp.Lexicographic.{slice_cmp}
use Rattle.std.specs.List.Sorted.{IsPermutation, IsSortedByKey}
use Rattle.std.specs.declared.cmp.Ordering.{Ordering}
use Rattle.std.specs.declared.cmp.Ordering.TheVariants.{Less, Equal, Greater}
use Rattle.std.specs.Ordering.{int_cmp, is_lt, ordering_then}
use Rattle.std.proofs.lemmas.Bool.{true≢false}
use Rattle.std.proofs.lemmas.Cmp.{int_cmp_total, int_ranked, lists_total}
use Rattle.std.proofs.lemmas.List.{get_or-map, get_or-reverse, length-map, length-reverse, reverse-append}
use Rattle.std.proofs.lemmas.List.Sorted.{sorted_far, ranks_by, Contains-permutation, IsPermutation-sym, IsPermutation-map, IsPermutation-trans, IsPermutation-reverse}
use Rattle.std.proofs.lemmas.Map.Keys.{IsDistinct-IsPermutation}
use Rattle.quotient.specs.Order.{IsLexBelow}
use Rattle.symmetry.specs.Vectors.{Matrix}
use Rattle.symmetry.specs.Motions.{Motion, identity}
use Rattle.symmetry.proofs.VectorLaws.{vector_path}
use Rattle.symmetry.proofs.MatrixLaws.{matrix_path}
use Rattle.quotient.proofs.ListLaws.{AllPairs-map, distinct_from_apart, apart_from_distinct}
use Rattle.motions.specs.declared.motion.Motion3.{Motion3}
use Rattle.motions.specs.Equality.{same_matrix}
use Rattle.motions.specs.Laws.MotionLaws.{same_matrix-is}
use Rattle.motions.specs.Views.{motion_of}
use Rattle.closure.specs.declared.lattice.Lattice.{Lattice}
use Rattle.closure.specs.Generated.{entries_of}
use Rattle.closure.specs.Derived.{AreOthersAtHome, AreFalling, IsOrdered}

-- ---- the lexicographic order of lists

pub lex_below : (xs ys : List ℤ) → length xs ≡ length ys → is_lt (slice_cmp int_cmp ys xs) ≡ false → ¬ (xs ≡ ys) → IsLexBelow xs ys
lex_below [] [] e f n = absurd (n refl)
lex_below [] (y ∷ ys) e f n = absurd (omega arith)
lex_below (x ∷ xs) [] e f n = absurd (omega arith)
lex_below (x ∷ xs) (y ∷ ys) e f n = go (int_cmp y x) refl f (λ t k. lex_below xs ys (omega arith) t k)
  where
    go : (o : Ordering) → int_cmp y x ≡ o → is_lt (ordering_then o (slice_cmp int_cmp ys xs)) ≡ false
        → (is_lt (slice_cmp int_cmp ys xs) ≡ false → ¬ (xs ≡ ys) → IsLexBelow xs ys) → IsLexBelow (x ∷ xs) (y ∷ ys)
    go Less q t rest = absurd (true≢false t)
    go Equal q t rest =
        let same : x ≡ y = sym (int_ranked y x Equal (sym q)) in
        inr (same, rest t (λ p. n (λ i. same i ∷ p i)))
    go Greater q t rest = inl (int_ranked y x Greater (sym q))

-- one list of entries, one matrix
pub matrix_from_entries : (m n : Motion) → entries_of m ≡ entries_of n → m.matrix ≡ n.matrix
matrix_from_entries m n e =
    let at : (k : ℕ) → get_or (entries_of m) k (pos 0) ≡ get_or (entries_of n) k (pos 0) = λ k. ap (λ (l : List ℤ). get_or l k (pos 0)) e in
    matrix_path (vector_path (at 0) (at 1) (at 2)) (vector_path (at 3) (at 4) (at 5)) (vector_path (at 6) (at 7) (at 8))

-- ---- pairs of places

AllPairs-from_map : {X Y : Type 0} (f : X → Y) (R : Y → Y → Type 0) (xs : List X) → AllPairs R (map f xs) → AllPairs (λ x y. R (f x) (f y)) xs
AllPairs-from_map f R xs p i j d less within =
    subst (λ y. R (f (get_or xs i d)) y) (get_or-map f xs j d (f d) within)
    (subst (λ x. R x (get_or (map f xs) j (f d))) (get_or-map f xs i d (f d) (omega arith)) (p i j (f d) less (omega (arith, length-map xs f))))

AllPairs-reverse : {X : Type 0} (R : X → X → Type 0) (xs : List X) → AllPairs R xs → AllPairs (λ x y. R y x) (reverse xs)
AllPairs-reverse R xs p i j d less within =
    let long : length (reverse xs) ≡ length xs = length-reverse xs in
    let a = get_or-reverse xs i d (omega arith) in
    let b = get_or-reverse xs j d (omega arith) in
    subst (λ y. R y (get_or (reverse xs) i d)) (sym b)
    (subst (R (get_or xs (length xs - 1 - j) d)) (sym a) (p (length xs - 1 - j) (length xs - 1 - i) d (omega arith) (omega arith)))

-- ---- a sorted list

abbrev Apart : List Motion → Type 0
Apart list = AllPairs (λ m n. ¬ (m.matrix ≡ n.matrix)) list

abbrev key : Motion3 → List ℤ
key m = entries_of (motion_of m)

rising : (items : List Motion3) → IsSortedByKey key (slice_cmp int_cmp) items → Apart (map motion_of items) → AllPairs (λ m n. IsLexBelow (key m) (key n)) items
rising items up apart i j d less within =
    lex_below (key (get_or items i d)) (key (get_or items j d)) refl
    (sorted_far (λ m n. is_lt (slice_cmp int_cmp (key m) (key n))) (ranks_by (lists_total int_cmp_total) key) items up i j d (omega arith) within)
    (λ e. AllPairs-from_map motion_of (λ m n. ¬ (m.matrix ≡ n.matrix)) items apart i j d less within (matrix_from_entries (motion_of (get_or items i d)) (motion_of (get_or items j d)) e))

falls : (items : List Motion3) → IsSortedByKey key (slice_cmp int_cmp) items → Apart (map motion_of items) → AreFalling (map motion_of (reverse items))
falls items up apart =
    AllPairs-map motion_of (λ m n. IsLexBelow (entries_of n) (entries_of m)) (reverse items)
    (AllPairs-reverse (λ m n. IsLexBelow (key m) (key n)) items (rising items up apart))

-- ---- another order

apart_test : (v w : Matrix) → same_matrix v w ≡ false → ¬ (v ≡ w)
apart_test v w f e = true≢false (sym ((same_matrix-is v w).1 e) ∙ f)

test_apart : (v w : Matrix) → ¬ (v ≡ w) → same_matrix v w ≡ false
test_apart v w n = go (same_matrix v w) refl
  where
    go : (b : Bool) → same_matrix v w ≡ b → b ≡ false
    go true e = absurd (n ((same_matrix-is v w).0 e))
    go false e = refl

same_flip : (v w : Matrix) → same_matrix v w ≡ same_matrix w v
same_flip v w =
    both_ways (same_matrix v w) (same_matrix w v)
    (λ t. (same_matrix-is w v).1 (sym ((same_matrix-is v w).0 t))) (λ t. (same_matrix-is v w).1 (sym ((same_matrix-is w v).0 t)))

apart_permuted : (xs ys : List Motion) → IsPermutation xs ys → Apart xs → Apart ys
apart_permuted xs ys p apart =
    let matrix : Motion → Matrix = λ m. m.matrix in
    AllPairs-from_map matrix (λ v w. ¬ (v ≡ w)) ys
    (apart_from_distinct same_matrix apart_test (map matrix ys)
    (IsDistinct-IsPermutation same_matrix same_flip (map matrix xs) (map matrix ys) (IsPermutation-map matrix xs ys p)
    (distinct_from_apart same_matrix test_apart (map matrix xs) (AllPairs-map matrix (λ v w. ¬ (v ≡ w)) xs apart))))

homes_permuted : (lattice : Lattice) (list xs ys : List Motion) → IsPermutation xs ys → AreOthersAtHome lattice list xs → AreOthersAtHome lattice list ys
homes_permuted lattice list xs ys p h = record {
  each = λ n is. h.each n (Contains-permutation ys xs n (IsPermutation-sym xs ys p) is);
  all = λ m is other. let (n, stands, e) = h.all m is other in (n, Contains-permutation xs ys n p stands, e);
  once = apart_permuted xs ys p h.once;
}

-- what is sorted, with the identity behind it, and turned round
pub ordered_by_sort : (lattice : Lattice) (list : List Motion) (made sorted ops : List Motion3) (one : Motion3) → AreOthersAtHome lattice list (map motion_of made)
    → IsPermutation made sorted → IsSortedByKey key (slice_cmp int_cmp) sorted → motion_of one ≡ identity → ops ≡ reverse (sorted ++ one ∷ [])
    → IsOrdered lattice list (map motion_of ops)
ordered_by_sort lattice list made sorted ops one h p up e is =
    let q : IsPermutation (map motion_of made) (map motion_of sorted) = IsPermutation-map motion_of made sorted p in
    let r : IsPermutation made (reverse sorted) = IsPermutation-trans made sorted (reverse sorted) p (IsPermutation-reverse sorted) in
    record {
      others = map motion_of (reverse sorted);
      at_home = homes_permuted lattice list (map motion_of made) (map motion_of (reverse sorted)) (IsPermutation-map motion_of made (reverse sorted) r) h;
      falling = falls sorted up (apart_permuted (map motion_of made) (map motion_of sorted) q h.once);
      is = ap (map motion_of) (is ∙ reverse-append sorted (one ∷ [])) ∙ ap (λ m. m ∷ map motion_of (reverse sorted)) e;
    }
