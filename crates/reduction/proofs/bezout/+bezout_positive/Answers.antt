-- One step, as the code computes it.
use Rattle.reduction.proofs.BezoutSteps.{fits_ky, fits_y, fits_kp, fits_p, step_is, y_small, p_small}
use Rattle.reduction.proofs.bezout.+bezout_positive.Goals as goal

pub overflow_mul-result : goal.overflow_mul-result
overflow_mul-result t c =
    fits_ky c.args.p c.args.q c.div_euclid-k.result c.rem_euclid-r.result c.requires.p c.requires.q c.requires.p_from c.requires.q_from c.div_euclid-k.ensures c.rem_euclid-r.ensures.value c.rem_euclid-r.ensures.lower_bound c.rem_euclid-r.ensures.upper_bound
    c.bezout_positive-m.result c.bezout_positive-m.ensures.is c.bezout_positive-m.ensures.x c.bezout_positive-m.ensures.y c.bezout_positive-m.ensures.p c.bezout_positive-m.ensures.q c.bezout_positive-m.ensures.divisor

pub overflow_sub-result : goal.overflow_sub-result
overflow_sub-result t c =
    fits_y c.args.p c.args.q c.div_euclid-k.result c.rem_euclid-r.result c.requires.p c.requires.q c.requires.p_from c.requires.q_from c.div_euclid-k.ensures c.rem_euclid-r.ensures.value c.rem_euclid-r.ensures.lower_bound c.rem_euclid-r.ensures.upper_bound
    c.bezout_positive-m.result c.bezout_positive-m.ensures.is c.bezout_positive-m.ensures.x c.bezout_positive-m.ensures.y c.bezout_positive-m.ensures.p c.bezout_positive-m.ensures.q c.bezout_positive-m.ensures.divisor

pub overflow_mul-result-2 : goal.overflow_mul-result-2
overflow_mul-result-2 t c =
    fits_kp c.args.p c.args.q c.div_euclid-k.result c.rem_euclid-r.result c.requires.p c.requires.q c.requires.p_from c.requires.q_from c.div_euclid-k.ensures c.rem_euclid-r.ensures.value c.rem_euclid-r.ensures.lower_bound c.rem_euclid-r.ensures.upper_bound
    c.bezout_positive-m.result c.bezout_positive-m.ensures.is c.bezout_positive-m.ensures.x c.bezout_positive-m.ensures.y c.bezout_positive-m.ensures.p c.bezout_positive-m.ensures.q c.bezout_positive-m.ensures.divisor

pub overflow_add-result : goal.overflow_add-result
overflow_add-result t c =
    fits_p c.args.p c.args.q c.div_euclid-k.result c.rem_euclid-r.result c.requires.p c.requires.q c.requires.p_from c.requires.q_from c.div_euclid-k.ensures c.rem_euclid-r.ensures.value c.rem_euclid-r.ensures.lower_bound c.rem_euclid-r.ensures.upper_bound
    c.bezout_positive-m.result c.bezout_positive-m.ensures.is c.bezout_positive-m.ensures.x c.bezout_positive-m.ensures.y c.bezout_positive-m.ensures.p c.bezout_positive-m.ensures.q c.bezout_positive-m.ensures.divisor

pub returns-clause-is : goal.returns-clause-is
returns-clause-is t c =
    step_is c.args.p c.args.q c.div_euclid-k.result c.rem_euclid-r.result c.requires.p c.requires.q c.requires.p_from c.requires.q_from c.div_euclid-k.ensures c.rem_euclid-r.ensures.value c.rem_euclid-r.ensures.lower_bound c.rem_euclid-r.ensures.upper_bound
    c.bezout_positive-m.result c.bezout_positive-m.ensures.is c.bezout_positive-m.ensures.x c.bezout_positive-m.ensures.y c.bezout_positive-m.ensures.p c.bezout_positive-m.ensures.q c.bezout_positive-m.ensures.divisor

pub returns-clause-y : goal.returns-clause-y
returns-clause-y t c =
    y_small c.args.p c.args.q c.div_euclid-k.result c.rem_euclid-r.result c.requires.p c.requires.q c.requires.p_from c.requires.q_from c.div_euclid-k.ensures c.rem_euclid-r.ensures.value c.rem_euclid-r.ensures.lower_bound c.rem_euclid-r.ensures.upper_bound
    c.bezout_positive-m.result c.bezout_positive-m.ensures.is c.bezout_positive-m.ensures.x c.bezout_positive-m.ensures.y c.bezout_positive-m.ensures.p c.bezout_positive-m.ensures.q c.bezout_positive-m.ensures.divisor

pub returns-clause-p : goal.returns-clause-p
returns-clause-p t c =
    p_small c.args.p c.args.q c.div_euclid-k.result c.rem_euclid-r.result c.requires.p c.requires.q c.requires.p_from c.requires.q_from c.div_euclid-k.ensures c.rem_euclid-r.ensures.value c.rem_euclid-r.ensures.lower_bound c.rem_euclid-r.ensures.upper_bound
    c.bezout_positive-m.result c.bezout_positive-m.ensures.is c.bezout_positive-m.ensures.x c.bezout_positive-m.ensures.y c.bezout_positive-m.ensures.p c.bezout_positive-m.ensures.q c.bezout_positive-m.ensures.divisor
