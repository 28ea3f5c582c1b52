use Rattle.motions.specs.Signs.{sign_value}
use Rattle.scanning.proofs.Shifts.{period_within}
use Rattle.orbits.proofs.LevelMotions.{doubled_fits, moved_fits, sum_fits, takes_is, twice_fits, twice_positive}
use Rattle.orbits.proofs.numbers.takes.Goals as goal

pub overflow_mul-motion : goal.overflow_mul-motion
overflow_mul-motion c =
    let q = c.args.frame.now in
    doubled_fits c.signed-turned.result c.args.motion.now.shift c.args.image.now.level q.period.0 c.signed-turned.ensures.small c.args.motion.now.in_range
    c.args.image.now.in_range (period_within q)

pub overflow_add-turned : goal.overflow_add-turned
overflow_add-turned c =
    let q = c.args.frame.now in
    moved_fits c.signed-turned.result c.args.motion.now.shift c.args.image.now.level q.period.0 c.signed-turned.ensures.small c.args.motion.now.in_range
    c.args.image.now.in_range (period_within q)

pub overflow_sub-turned : goal.overflow_sub-turned
overflow_sub-turned c =
    let q = c.args.frame.now in
    sum_fits c.signed-turned.result c.args.motion.now.shift c.args.image.now.level q.period.0 c.signed-turned.ensures.small c.args.motion.now.in_range
    c.args.image.now.in_range (period_within q)

pub overflow_mul-frame : goal.overflow_mul-frame
overflow_mul-frame c =
    let q = c.args.frame.now in
    twice_fits c.signed-turned.result c.args.motion.now.shift c.args.image.now.level q.period.0 c.signed-turned.ensures.small c.args.motion.now.in_range
    c.args.image.now.in_range (period_within q)

pub is_multiple-requires : goal.is_multiple-requires
is_multiple-requires c =
    let q = c.args.frame.now in
    twice_positive c.signed-turned.result c.args.motion.now.shift c.args.image.now.level q.period.0 c.signed-turned.ensures.small c.args.motion.now.in_range
    c.args.image.now.in_range (period_within q) q.above

pub returns : goal.returns
returns c =
    let q = c.args.frame.now in
    takes_is c.signed-turned.result c.args.motion.now.shift c.args.image.now.level q.period.0 c.signed-turned.ensures.small c.args.motion.now.in_range
    c.args.image.now.in_range (period_within q) c.is_multiple.result (sign_value c.args.motion.now.sign) c.args.height.now.level c.signed-turned.ensures.is
    c.is_multiple.ensures
