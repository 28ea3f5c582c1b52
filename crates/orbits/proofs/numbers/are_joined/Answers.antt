use Rattle.std.proofs.Common.{rules, tests}
use Rattle.std.proofs.lemmas.Iterator.{cases_from_any, YieldsList-from_slice}
use Rattle.orbits.specs.JoinedLevels.{TakesLevel}
use Rattle.orbits.specs.HeightMotionView.{height_motion_of}
use Rattle.quotient.proofs.Searches.{some_of}
use Rattle.orbits.proofs.numbers.are_joined.Goals as goal

pub returns : goal.returns
returns c =
    let P = TakesLevel c.args.frame.now.period.0 c.args.height.now.level c.args.image.now.level in
    let list = c.args.motions.now in
    some_of height_motion_of P list c.any.result
    (cases_from_any _ _ _ (λ h. P (height_motion_of h)) (λ h. ¬ P (height_motion_of h)) c.any.ensures.ran (YieldsList-from_slice list cc) (λ x q k. search (rules, tests)) (λ x q k. search (rules, tests)))
