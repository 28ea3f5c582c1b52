-- The first of the vectors that differ by a group of residues. Proofs: they stand here since an `impl` cites them.
use Rattle.std.proofs.Common.{◌≡◌, ℕ, zero, suc, false, ◌<◌, IsTrue, arith, refl, sym, ap, subst, ◌∙◌, List, ◌∷◌, length, get_or}
use Rattle.std.specs.Prelude.{Contains, All}
use Rattle.std.specs.List.{IsFirstBest}
use Rattle.std.specs.declared.cmp.Ordering.TheVariants.{Less, Equal, Greater}
use Rattle.std.specs.declared.cmp.Ordering.{Ordering}
use Rattle.std.proofs.lemmas.Bool.{true≢false}
use Rattle.std.proofs.lemmas.List.{get_or_default}
use Rattle.std.specs.Ordering.{is_lt, ordering_reverse}
use Rattle.std.proofs.lemmas.List.Elements.{Contains-get_or, All-contains}
use Rattle.std.proofs.lemmas.List.MinMax.{IsFirstBest-from_best_of}
use Rattle.std.proofs.lemmas.List.Sorted.{ranks_by}
use Rattle.symmetry.specs.Vectors.{Vector, origin, plus, minus, opposite}
use Rattle.symmetry.proofs.VectorLaws.{minus-plus, minus-same, opposite-minus, minus-plus-minus, plus-minus_last}
use Rattle.quotient.proofs.ListLaws.{Contains-map, Contains-from_map}
use Rattle.closure.specs.Residues.{residue, has_residue, vector_cmp, is_before, IsResidueGroup}
use Rattle.closure.specs.Laws.ResidueLaws.{residue-residue, residue-plus, has_residue-is}
use Rattle.closure.specs.Laws.VectorOrder.{vector_cmp_total, vector_cmp_equal}
use Rattle.closure.specs.Spans.{coset}
use Rattle.closure.specs.Lattices.{first_with}

-- u - v is u - w and w - v
between : (u v w : Vector) → plus (minus u w) (minus w v) ≡ minus u v
between u v w = minus-plus-minus u w v

module _ (rs : List Vector) (group : IsResidueGroup rs) (reduced : All (λ r. residue r ≡ r) rs) where
  -- the residue is listed
  abbrev In : Vector → Type 0
  In v = IsTrue (has_residue rs v)

  pub in_plus : (v w : Vector) → In v → In w → In (plus v w)
  in_plus v w = group.sums v w

  pub in_minus : (v w : Vector) → In v → In w → In (minus v w)
  in_minus v w p q = group.sums v (opposite w) p (group.opposites w q)

  pub in_by_residue : (v w : Vector) → residue v ≡ residue w → In v → In w
  in_by_residue v w e p = (has_residue-is rs w).1 (subst (Contains rs) e ((has_residue-is rs v).0 p))

  pub in_flip : (v w : Vector) → In (minus v w) → In (minus w v)
  in_flip v w p = subst In (opposite-minus v w) (group.opposites (minus v w) p)

  pub in_listed : (r : Vector) → Contains rs r → In r
  in_listed r is = (has_residue-is rs r).1 (subst (Contains rs) (sym (All-contains (λ r. residue r ≡ r) rs r reduced is)) is)

  -- what the first is chosen from: the residues of v and a listed residue
  candidate : (v w : Vector) → Contains (coset v rs) w → (residue w ≡ w) × In (minus w v)
  candidate v w is =
      let r = Contains-from_map (λ r. residue (plus r v)) rs w is in (
        ap residue (sym r.2) ∙ residue-residue (plus r.0 v) ∙ r.2,
        in_by_residue r.0 (minus w v)
            (ap residue (sym (plus-minus_last r.0 v)) ∙ residue-plus (plus r.0 v) w (opposite v) (sym (residue-residue (plus r.0 v)) ∙ ap residue r.2))
            (in_listed r.0 r.1),
      )

  to_candidate : (v w : Vector) → residue w ≡ w → In (minus w v) → Contains (coset v rs) w
  to_candidate v w e p =
      subst (Contains (coset v rs)) (residue-plus (residue (minus w v)) (minus w v) v (residue-residue (minus w v)) ∙ ap residue (minus-plus w v) ∙ e)
      (Contains-map (λ r. residue (plus r v)) rs (residue (minus w v)) ((has_residue-is rs (minus w v)).0 p))

  -- the residue of v itself is one of them
  own_candidate : (v : Vector) → Contains (coset v rs) (residue v)
  own_candidate v =
      to_candidate v (residue v) (residue-residue v)
      (in_by_residue origin (minus (residue v) v) (ap residue (sym (minus-same v)) ∙ sym (residue-plus (residue v) v (opposite v) (residue-residue v))) group.zero_vector)

  first_place : (v : Vector)
      → (b : ℕ) × IsFirstBest is_before (residue v ∷ coset v rs) (length (residue v ∷ coset v rs)) b × (get_or (residue v ∷ coset v rs) b (residue v) ≡ first_with v rs)
  first_place v = IsFirstBest-from_best_of (ranks_by vector_cmp_total (λ w. w)) (residue v) (coset v rs)

  first-is : (v : Vector) → Contains (coset v rs) (first_with v rs)
  first-is v = by_place (first_place v).0 (first_place v).1.0 (first_place v).2
    where
      by_place : (b : ℕ) → b < suc (length (coset v rs)) → get_or (residue v ∷ coset v rs) b (residue v) ≡ first_with v rs → Contains (coset v rs) (first_with v rs)
      by_place zero l is = subst (Contains (coset v rs)) is (own_candidate v)
      by_place (suc k) l is = subst (Contains (coset v rs)) is (Contains-get_or (coset v rs) k (residue v) (omega arith))

  first-before : (v w : Vector) → Contains (coset v rs) w → is_before w (first_with v rs) ≡ false
  first-before v w (k, within, is) =
      let p = first_place v in
      let l : p.0 < suc (length (coset v rs)) = p.1.0 in
      ap (λ u. is_before u (first_with v rs)) (sym is) ∙ ap (is_before (get_or (coset v rs) k w)) (sym (get_or_default (residue v ∷ coset v rs) p.0 w (residue v) l ∙ p.2)) ∙ p.1.1 (suc k) w (omega arith)

  -- ---- what the first is

  pub first-in : (v : Vector) → In (minus (first_with v rs) v)
  first-in v = (candidate v (first_with v rs) (first-is v)).1

  pub first-reduced : (v : Vector) → residue (first_with v rs) ≡ first_with v rs
  first-reduced v = (candidate v (first_with v rs) (first-is v)).0

  pub first-first : (v u : Vector) → In (minus u v) → residue u ≡ u → is_before u (first_with v rs) ≡ false
  first-first v u p e = first-before v u (to_candidate v u e p)

  -- vectors that differ by a residue have one first
  pub first-same : (v w : Vector) → In (minus v w) → first_with v rs ≡ first_with w rs
  first-same v w p = neither (vector_cmp (first_with v rs) (first_with w rs)) refl
    where
      from_w : is_before (first_with v rs) (first_with w rs) ≡ false
      from_w = first-first w (first_with v rs) (subst In (between (first_with v rs) w v) (in_plus (minus (first_with v rs) v) (minus v w) (first-in v) p)) (first-reduced v)

      from_v : is_before (first_with w rs) (first_with v rs) ≡ false
      from_v = first-first v (first_with w rs) (subst In (between (first_with w rs) v w) (in_plus (minus (first_with w rs) w) (minus w v) (first-in w) (in_flip v w p))) (first-reduced w)

      neither : (o : Ordering) → vector_cmp (first_with v rs) (first_with w rs) ≡ o → first_with v rs ≡ first_with w rs
      neither Less e = absurd (true≢false (ap is_lt (sym e) ∙ from_w))
      neither Equal e = vector_cmp_equal (first_with v rs) (first_with w rs) e
      neither Greater e = absurd (true≢false (ap is_lt (sym (vector_cmp_total.antisymm (first_with w rs) (first_with v rs) ∙ ap ordering_reverse e)) ∙ from_v))
