-- The sign tells whether the row is turned, and the remainder is whole periods away.
use Rattle.std.proofs.Common.{Some, ap, ◌∙◌, FitsSigned, rules}
use Rattle.std.specs.Int.{w64}
use Rattle.std.proofs.lemmas.Int.{to_z-of_z}
use Rattle.integers.proofs.Coded.{again}
use Rattle.motions.specs.declared.motion.Sign.TheVariants.{Minus}
use Rattle.motions.specs.Laws.SignLaws.{not_both_signs}
use Rattle.integers.proofs.Remainders.{rem_between}
use Rattle.motions.proofs.rows.turned_shift.Goals as goal

pub returns-in-Plus : goal.returns-in-Plus
returns-in-Plus c = λ turns. not_both_signs c.side.result (c.in_ok-side.was ∙ ap Some c.in-Plus.is) ((c.side.ensures.sign Minus).1 turns)

pub returns-in-Minus : goal.returns-in-Minus
returns-in-Minus c =
    let d = c.args.period.0 in
    let rest : FitsSigned w64 c.rem_euclid.result = search rules in
    let shift : FitsSigned w64 c.shift.result = search rules in
    let period : FitsSigned w64 d = search rules in
    let by = rem_between (again c.shift.result) (again d) _ d (again c.rem_euclid.result) (to_z-of_z w64 c.shift.result shift ∙ c.shift.ensures)
    (to_z-of_z w64 d period)
    (to_z-of_z w64 c.rem_euclid.result rest ∙ c.rem_euclid.ensures.value) c.requires.above in
    ((c.side.ensures.sign Minus).0 (c.in_ok-side.was ∙ ap Some c.in-Minus.is), by.0, by.1, by.2)
