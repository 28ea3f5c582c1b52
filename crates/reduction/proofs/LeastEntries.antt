-- The least of the entries so far.
use Rattle.std.proofs.Common.{◌<ℤ◌, ◌≤ℤ◌, pos, ℕ, ◌+◌, ◌<◌, inl, inr, List, [], length, get_or, map, arith, subst, sym, ℤ}
use Rattle.std.specs.Prelude.{Contains}
use Rattle.std.proofs.lemmas.Int.{ints}
use Rattle.std.proofs.lemmas.List.{get_or_default}
use Rattle.std.proofs.lemmas.List.Elements.{Contains-get_or}
use Rattle.integers.proofs.Order.{last_or_before}
use Rattle.fractions.specs.declared.part.Part.{Part}
use Rattle.quotient.proofs.ListLaws.{Contains-map}
use Rattle.motions.specs.Views.{parts}
use Rattle.reduction.specs.LeadingEntries.{leading_entry}

-- no entry among the first i is less
abbrev pub IsLeast : List (List Part) → ℕ → ℕ → List Part → Type 0
IsLeast rs p i best = (k : ℕ) (d : List Part) → k < i → pos 0 <ℤ leading_entry p (parts (get_or rs k d)) → leading_entry p (parts best) ≤ℤ leading_entry p (parts (get_or rs k d))

from_not : (x y : ℤ) → ¬ (y <ℤ x) → x ≤ℤ y
from_not x y n = grind (arith, ints)

module _ (rs : List (List Part)) (p i : ℕ) (within : i < length rs) (best : List Part) (least : IsLeast rs p i best) where
  pub least_takes : leading_entry p (parts (get_or rs i [])) <ℤ leading_entry p (parts best) → IsLeast rs p (i + 1) (get_or rs i [])
  least_takes less k d l positive = elim (last_or_before k i l) [
    | inl before ↦ (let le = least k d before positive in omega (arith, ints))
    | inr here ↦ subst (λ (j : ℕ). leading_entry p (parts (get_or rs i [])) ≤ℤ leading_entry p (parts (get_or rs j d))) (sym here)
        (subst (λ (r : List Part). leading_entry p (parts (get_or rs i [])) ≤ℤ leading_entry p (parts r)) (get_or_default rs i [] d within) (omega (arith, ints)))
  ]

  abbrev At : List Part → Type 0
  At r = pos 0 <ℤ leading_entry p (parts r) → leading_entry p (parts best) ≤ℤ leading_entry p (parts r)

  pub least_keeps : ¬ ((pos 0 <ℤ leading_entry p (parts (get_or rs i []))) × (leading_entry p (parts (get_or rs i [])) <ℤ leading_entry p (parts best))) → IsLeast rs p (i + 1) best
  least_keeps not k d l = elim (last_or_before k i l) [
    | inl before ↦ least k d before
    | inr here ↦ subst (λ (j : ℕ). At (get_or rs j d)) (sym here) (subst At (get_or_default rs i [] d within) (λ positive. kept_by positive not))
  ]
    where
      kept_by : pos 0 <ℤ leading_entry p (parts (get_or rs i [])) → ¬ ((pos 0 <ℤ leading_entry p (parts (get_or rs i []))) × (leading_entry p (parts (get_or rs i [])) <ℤ leading_entry p (parts best)))
          → leading_entry p (parts best) ≤ℤ leading_entry p (parts (get_or rs i []))
      kept_by positive not = from_not (leading_entry p (parts best)) (leading_entry p (parts (get_or rs i []))) (λ less. not (positive, less))

  pub listed : Contains (map parts rs) (parts (get_or rs i []))
  listed = Contains-map parts rs (get_or rs i []) (Contains-get_or rs i [] within)
