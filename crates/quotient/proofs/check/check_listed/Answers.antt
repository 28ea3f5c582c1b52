use Rattle.std.proofs.Common.{map, subst}
use Rattle.quotient.specs.declared.check.GroupFault.TheVariants.{ShiftMoved, NotClosed, NoInverse}
use Rattle.quotient.specs.Modulo.{modulo}
use Rattle.quotient.specs.Groups.{IsFault}
use Rattle.quotient.specs.Lists.{IsListed}
use Rattle.quotient.proofs.Faults.{not_accepted, not_refused, refused_exactly}
use Rattle.quotient.proofs.check.check_listed.Goals as goal

pub returns-in-Some : goal.returns-in-Some
returns-in-Some g c =
    let M = g.Q.M.Motion in
    let K = modulo M (g.Q.Quotient.IsShift c.args.q.now) in
    let l = map M.meaning c.args.list.now in
    let identity = subst (IsListed K l) c.identity.ensures (c.find.ensures.found.0 c.if-is_none.ensures) in
    let fault : IsFault K l (ShiftMoved c.in-Some.i) = (identity, c.in-Some.ensures) in
    record { accepted = not_accepted K l (ShiftMoved c.in-Some.i) fault; refused = refused_exactly K l (ShiftMoved c.in-Some.i) fault }

pub returns-in-Some-first_open_pair : goal.returns-in-Some-first_open_pair
returns-in-Some-first_open_pair g c =
    let M = g.Q.M.Motion in
    let K = modulo M (g.Q.Quotient.IsShift c.args.q.now) in
    let l = map M.meaning c.args.list.now in
    let identity = subst (IsListed K l) c.identity.ensures (c.find.ensures.found.0 c.if-is_none.ensures) in
    let pair = c.in-Some-first_open_pair in
    let fault : IsFault K l (NotClosed pair.i pair.j) = (identity, c.in_default.ensures, pair.ensures) in
    record { accepted = not_accepted K l (NotClosed pair.i pair.j) fault; refused = refused_exactly K l (NotClosed pair.i pair.j) fault }

pub returns-in-Some-first_without_inverse : goal.returns-in-Some-first_without_inverse
returns-in-Some-first_without_inverse g c =
    let M = g.Q.M.Motion in
    let K = modulo M (g.Q.Quotient.IsShift c.args.q.now) in
    let l = map M.meaning c.args.list.now in
    let identity = subst (IsListed K l) c.identity.ensures (c.find.ensures.found.0 c.if-is_none.ensures) in
    let first = c.in-Some-first_without_inverse in
    let fault : IsFault K l (NoInverse first.i) = (identity, c.in_default.ensures, c.in_default-first_open_pair.ensures, first.ensures) in
    record { accepted = not_accepted K l (NoInverse first.i) fault; refused = refused_exactly K l (NoInverse first.i) fault }

pub returns-in-None-clause-refused : goal.returns-in-None-clause-refused
returns-in-None-clause-refused g c =
    let M = g.Q.M.Motion in
    let K = modulo M (g.Q.Quotient.IsShift c.args.q.now) in
    let l = map M.meaning c.args.list.now in
    let identity = subst (IsListed K l) c.identity.ensures (c.find.ensures.found.0 c.if-is_none.ensures) in
    not_refused K l (record { identity = identity; keeps = c.in_default.ensures; closed = c.in_default-first_open_pair.ensures; inverses = c.in-None.ensures })
