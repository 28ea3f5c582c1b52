use Rattle.std.proofs.Common.{rules, tests}
use Rattle.std.proofs.lemmas.Iterator.{cases_from_all, YieldsList-from_slice}
use Rattle.motions.specs.BasisView.{basis_of}
use Rattle.motions.specs.Views.{parts}
use Rattle.plane_lattice.specs.Coordinates.{IsCombination}
use Rattle.quotient.proofs.Searches.{all_are}
use Rattle.plane_lattice.proofs.frame_tests.holds_all.Goals as goal

pub returns : goal.returns
returns c =
    let f = basis_of c.args.dual.now.basis in
    let vs = c.args.vectors.now in
    all_are (λ v. IsCombination f (parts v)) vs c.all.result
    (cases_from_all _ _ _ (λ v. IsCombination f (parts v)) (λ v. ¬ IsCombination f (parts v)) c.all.ensures.ran (YieldsList-from_slice vs cc) (λ x q k. search (rules, tests)) (λ x q k. search (rules, tests)))
