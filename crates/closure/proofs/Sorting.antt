-- The lexicographic order of vectors, and residues in another order.
use Rattle.std.proofs.Common.{◌≡◌, ℕ, Bool, true, false, ◌+◌, ◌<◌, IsTrue, arith, refl, sym, ap, subst, ◌∙◌, List, length, get_or, map, pos}
use Rattle.std.specs.Prelude.{All, AllPairs, Some}
use Rattle.std.specs.List.Sorted.{IsPermutation, IsSorted, IsSortedBy}
use Rattle.std.specs.Cmp.Lexicographic.{slice_cmp, slice_partial_cmp, lists_agrees}
use Rattle.std.specs.declared.cmp.Ordering.{Ordering}
use Rattle.std.specs.declared.cmp.Ordering.TheVariants.{Less, Equal, Greater}
use Rattle.std.specs.Ordering.{int_cmp, is_lt, is_some_and, ordering_then}
use Rattle.std.proofs.lemmas.Bool.{true≢false}
use Rattle.std.proofs.lemmas.List.{get_or-map, length-map}
use Rattle.std.proofs.lemmas.List.Sorted.{sorted_far, ranks_by, All-permutation, Contains-permutation, IsPermutation-sym}
use Rattle.std.proofs.lemmas.Map.Keys.{IsDistinct-IsPermutation}
use Rattle.fractions.specs.declared.part.Part.{Part}
use Rattle.symmetry.specs.Vectors.{Vector, origin, plus, opposite}
use Rattle.symmetry.specs.Groups.{Listing, IsInLattice, zero_vector}
use Rattle.symmetry.specs.Frames.{same_vector}
use Rattle.symmetry.proofs.LatticeLaws.{lattice-plus, lattice-opposite}
use Rattle.quotient.proofs.ListLaws.{AllPairs-map, distinct_from_apart, apart_from_distinct, three_items}
use Rattle.motions.specs.Views.{parts}
use Rattle.motions.specs.Laws.MotionLaws.{same_vector-is}
use Rattle.closure.specs.Residues.{residue, has_residue, vector_cmp, is_before, AreInOrder, IsResidue, IsResidueGroup}
use Rattle.closure.specs.Spans.{AreResiduesOf}
use Rattle.closure.specs.Laws.ResidueLaws.{has_residue-is}
use Rattle.closure.specs.Laws.VectorOrder.{vector_cmp_total, before_from_not}

-- ---- residues in another order

apart_from_test : (v w : Vector) → same_vector v w ≡ false → ¬ (v ≡ w)
apart_from_test v w f e = true≢false (sym ((same_vector-is v w).1 e) ∙ f)

test_from_apart : (v w : Vector) → ¬ (v ≡ w) → same_vector v w ≡ false
test_from_apart v w n = go (same_vector v w) refl
  where
    go : (b : Bool) → same_vector v w ≡ b → b ≡ false
    go true e = absurd (n ((same_vector-is v w).0 e))
    go false e = refl

same_flip : (v w : Vector) → same_vector v w ≡ same_vector w v
same_flip v w = go (same_vector v w) (same_vector w v) refl refl
  where
    go : (b c : Bool) → same_vector v w ≡ b → same_vector w v ≡ c → b ≡ c
    go true c e f = sym ((same_vector-is w v).1 (sym ((same_vector-is v w).0 e))) ∙ f
    go false true e f = absurd (apart_from_test v w e (sym ((same_vector-is w v).0 f)))
    go false false e f = refl

pub residues-permuted : (g : Listing) (rs qs : List Vector) → IsPermutation rs qs → AreResiduesOf g rs → AreResiduesOf g qs
residues-permuted g rs qs p h = record {
  reduced = All-permutation (λ r. residue r ≡ r) rs qs p h.reduced;
  apart = apart_from_distinct same_vector apart_from_test qs (IsDistinct-IsPermutation same_vector same_flip rs qs p (distinct_from_apart same_vector test_from_apart rs h.apart));
  same = λ v. (
    λ is. (h.same v).0 (Contains-permutation qs rs (residue v) (IsPermutation-sym rs qs p) is),
    λ is. Contains-permutation rs qs (residue v) p ((h.same v).1 is),
  );
}

-- the residues of a lattice are a group
pub residue_group : (g : Listing) (rs : List Vector) → AreResiduesOf g rs → IsResidueGroup rs
residue_group g rs h = record {
  zero_vector = to origin zero_vector;
  sums = λ v w s t. to (plus v w) (lattice-plus g v w (from v s) (from w t));
  opposites = λ v s. to (opposite v) (lattice-opposite g v (from v s));
}
  where
    to : (v : Vector) → IsInLattice g v → IsTrue (has_residue rs v)
    to v is = (has_residue-is rs v).1 ((h.same v).1 is)

    from : (v : Vector) → IsTrue (has_residue rs v) → IsInLattice g v
    from v t = (h.same v).0 ((has_residue-is rs v).0 t)

-- ---- sorted arrays

abbrev part_cmp : Part → Part → Ordering
part_cmp a b = int_cmp a.0 b.0

bracketed : (o p q : Ordering) → ordering_then o (ordering_then p (ordering_then q Equal)) ≡ ordering_then o (ordering_then p q)
bracketed Less p q = refl
bracketed Greater p q = refl
bracketed Equal Less q = refl
bracketed Equal Greater q = refl
bracketed Equal Equal Less = refl
bracketed Equal Equal Equal = refl
bracketed Equal Equal Greater = refl

-- arrays are compared as their vectors
slice_cmp-parts : (r s : List Part) → IsResidue r → IsResidue s → slice_cmp part_cmp r s ≡ vector_cmp (parts r) (parts s)
slice_cmp-parts r s h k =
    (λ i. slice_cmp part_cmp (three_items r (record { 0 = pos 0 }) h.three i) (three_items s (record { 0 = pos 0 }) k.three i))
    ∙ bracketed (int_cmp (parts r).x (parts s).x) (int_cmp (parts r).y (parts s).y) (int_cmp (parts r).z (parts s).z)

-- and so by `<`
pub lt-parts : (r s : List Part) → IsResidue r → IsResidue s
    → is_some_and is_lt (slice_partial_cmp (λ a b. Some (part_cmp a b)) r s) ≡ is_before (parts r) (parts s)
lt-parts r s h k = ap (is_some_and is_lt) (lists_agrees (λ a b. refl) r s) ∙ ap is_lt (slice_cmp-parts r s h k)

pub in_order : (rs : List (List Part)) → All IsResidue rs → AllPairs (λ v w. ¬ (v ≡ w)) (map parts rs) → IsSorted (slice_cmp part_cmp) rs → AreInOrder (map parts rs)
in_order rs h apart sorted = AllPairs-map parts (λ v w. IsTrue (is_before v w)) rs rising
  where
    by_vectors : IsSortedBy (λ r s. is_before (parts r) (parts s)) rs
    by_vectors k d low l =
        ap is_lt (sym (slice_cmp-parts (get_or rs (k + 1) d) (get_or rs k d) (h (k + 1) d l) (h k d (omega arith)))) ∙ sorted k d low l

    rising : AllPairs (λ r s. IsTrue (is_before (parts r) (parts s))) rs
    rising i j d less within =
        before_from_not (parts (get_or rs i d)) (parts (get_or rs j d))
        (sorted_far (λ r s. is_before (parts r) (parts s)) (ranks_by vector_cmp_total parts) rs by_vectors i j d (omega arith) within)
        (λ e. apart i j (parts d) less (subst (λ n. j < n) (sym (length-map rs parts)) within) (at i (omega arith) ∙ e ∙ sym (at j within)))
      where
        at : (k : ℕ) → k < length rs → get_or (map parts rs) k (parts d) ≡ parts (get_or rs k d)
        at k l = get_or-map parts rs k d (parts d) l
