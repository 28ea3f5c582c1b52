-- A lattice with few residues is not too fine: of more members than residues, two have one residue.
use Rattle.std.proofs.Common.{◌≡◌, ℕ, zero, suc, Bool, true, false, ◌<◌, ◌≤◌, eqb, arith, refl, sym, ap, subst, ◌∙◌, List, [], ◌∷◌, length, get_or}
use Rattle.std.specs.Prelude.{All, AllPairs}
use Rattle.std.specs.List.{list_any}
use Rattle.std.proofs.lemmas.List.{get_or_default}
use Rattle.std.proofs.lemmas.List.Elements.{All-head, All-tail}
use Rattle.std.proofs.lemmas.Map.Steps.{length-le_from_distinct_below}
use Rattle.std.proofs.lemmas.Map.Views.{Contains-from_any}
use borrow.Author.Tests.{eqb-true}
use Rattle.symmetry.specs.Vectors.{Vector, origin}
use Rattle.symmetry.specs.Groups.{Listing, IsInLattice}
use Rattle.quotient.proofs.ListLaws.{distinct_from_apart}
use Rattle.closure.specs.Residues.{residue}
use Rattle.closure.specs.Fineness.{IsTooFine}
use Rattle.closure.specs.Spans.{AreResiduesOf}
use Rattle.closure.specs.Laws.ResidueLaws.{whole_from_residues}

pub different : (m n : ℕ) → ¬ (m ≡ n) → eqb m n ≡ false
different m n ne = go (eqb m n) refl
  where
    go : (b : Bool) → eqb m n ≡ b → b ≡ false
    go true e = absurd (ne (eqb-true m n e))
    go false e = refl

module _ (g : Listing) (rs : List Vector) (h : AreResiduesOf g rs) where
  -- the places of the members' residues
  places : (ms : List Vector) → All (IsInLattice g) ms → List ℕ
  places [] inside = []
  places (m ∷ ms) inside = ((h.same m).1 (All-head (IsInLattice g) m ms inside)).0 ∷ places ms (All-tail (IsInLattice g) m ms inside)

  length-places : (ms : List Vector) (inside : All (IsInLattice g) ms) → length (places ms inside) ≡ length ms
  unfolding places
  length-places [] inside = refl
  length-places (m ∷ ms) inside = ap suc (length-places ms (All-tail (IsInLattice g) m ms inside))

  places-below : (ms : List Vector) (inside : All (IsInLattice g) ms) (k d : ℕ) → k < length ms → get_or (places ms inside) k d < length rs
  unfolding places
  places-below [] inside k d l = absurd (omega arith)
  places-below (m ∷ ms) inside zero d l = ((h.same m).1 (All-head (IsInLattice g) m ms inside)).1
  places-below (m ∷ ms) inside (suc k) d l = places-below ms (All-tail (IsInLattice g) m ms inside) k d (omega arith)

  place-is : (ms : List Vector) (inside : All (IsInLattice g) ms) (k d : ℕ) (v : Vector) → k < length ms
      → get_or rs (get_or (places ms inside) k d) origin ≡ residue (get_or ms k v)
  unfolding places
  place-is [] inside k d v l = absurd (omega arith)
  place-is (m ∷ ms) inside zero d v l =
      let c = (h.same m).1 (All-head (IsInLattice g) m ms inside) in
      get_or_default rs c.0 origin (residue m) c.1 ∙ c.2
  place-is (m ∷ ms) inside (suc k) d v l = place-is ms (All-tail (IsInLattice g) m ms inside) k d v (omega arith)

  pub not_too_fine : length rs ≤ 64 → ¬ IsTooFine g
  not_too_fine few f =
      let ms = f.members in
      let ks = places ms f.inside in
      let long : length ks ≡ length ms = length-places ms f.inside in
      let apart : AllPairs (λ (j k : ℕ). ¬ (j ≡ k)) ks =
      λ i j d less within e.
      f.apart i j origin less (omega arith)
      (whole_from_residues (get_or ms i origin) (get_or ms j origin)
      (sym (place-is ms f.inside i d origin (omega arith)) ∙ ap (λ (k : ℕ). get_or rs k origin) e ∙ place-is ms f.inside j d origin (omega arith))) in
      let all_below : (q : ℕ) → list_any (eqb q) ks ≡ true → q < length rs =
      λ q t.
      let c = Contains-from_any {eq = eqb} eqb-true q ks t in
      subst (λ (k : ℕ). k < length rs) c.2 (places-below ms f.inside c.0 q (omega (arith, c.1))) in
      let fits : length ks ≤ length rs = length-le_from_distinct_below ks (length rs) (distinct_from_apart eqb different ks apart) all_below in
      let many = f.many in
      absurd (omega arith)
