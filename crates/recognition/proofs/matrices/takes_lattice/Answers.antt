-- The table has exactly the matrices that take the lattice.
use Rattle.std.proofs.Common.{◌≡◌, ◌∙◌, sym, ap, subst, List, ℤ, rules, tests}
use Rattle.std.proofs.lemmas.Iterator.{cases_from_any, YieldsList-from_slice}
use Rattle.quotient.proofs.ListLaws.{All-from_map, Contains-from_map}
use Rattle.motions.specs.PlaneViews.{matrix2_of}
use Rattle.recognition.specs.Listed.{TakesLattice}
use Rattle.quotient.proofs.Searches.{some_is}
use Rattle.recognition.proofs.matrices.takes_lattice.Goals as goal

pub returns : goal.returns
returns c =
    let p = matrix2_of c.args.p.now in
    let rows = c.matrices.result.now in
    let table = c.matrices.ensures in
    let Same : List (List ℤ) → Type 0 = λ q. p ≡ matrix2_of q in
    let found =
    some_is Same rows c.any.result
    (cases_from_any _ _ _ Same (λ q. ¬ Same q) c.any.ensures.ran (YieldsList-from_slice rows cc) (λ x q k. search (rules, tests)) (λ x q k. search (rules, tests))) in (
      λ t.
          let (k, q, within, at, is) = found.0 t in
          subst (TakesLattice c.args.centred) (sym (is ∙ ap matrix2_of (sym at))) (All-from_map matrix2_of (TakesLattice c.args.centred) rows table.takes k q within),
      λ h.
          let (q, (k, within, at), is) = Contains-from_map matrix2_of rows p (table.complete p c.requires h) in
          found.1 (k, q, within, at, sym is),
    )
