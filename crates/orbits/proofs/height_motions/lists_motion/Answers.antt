use Rattle.std.proofs.Common.{◌≡◌, rules, tests}
use Rattle.std.proofs.lemmas.Iterator.{cases_from_any, YieldsList-from_slice}
use Rattle.orbits.specs.HeightMotionView.{height_motion_of}
use Rattle.quotient.proofs.Searches.{some_of}
use Rattle.orbits.proofs.height_motions.lists_motion.Goals as goal

pub returns : goal.returns
returns c =
    let m = height_motion_of c.args.motion.now in
    let list = c.args.motions.now in
    some_of height_motion_of (λ h. m ≡ h) list c.any.result
    (cases_from_any _ _ _ (λ h. m ≡ height_motion_of h) (λ h. ¬ (m ≡ height_motion_of h)) c.any.ensures.ran (YieldsList-from_slice list cc) (λ x q k. search (rules, tests)) (λ x q k. search (rules, tests)))
