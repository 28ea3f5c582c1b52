use Rattle.std.proofs.Common.{rules, ◌≡◌, ◌+◌, sym, slice_index}
use Rattle.fractions.specs.WrittenRatio.{number_at}
use Rattle.fractions.proofs.Faults.{fault_of_zeros, no_fault}
use Rattle.fractions.proofs.read.read_denominator.Goals as goal

pub returns-then-den-eq0-clause-fault : goal.returns-then-den-eq0-clause-fault
returns-then-den-eq0-clause-fault c =
    let is_slash : slice_index c.args.bytes.now c.args.slash ≡ 47 = search rules in
    let zero : number_at c.args.bytes.now (c.args.slash + 1) ≡ 0 = search rules in
    sym (fault_of_zeros c.args.bytes.now c.args.slash is_slash (sym c.in_ok-den.ensures.fault) zero)

pub returns-clause-fault : goal.returns-clause-fault
returns-clause-fault c =
    let is_slash : slice_index c.args.bytes.now c.args.slash ≡ 47 = search rules in
    let nonzero : ¬ (number_at c.args.bytes.now (c.args.slash + 1) ≡ 0) = search rules in
    sym (no_fault c.args.bytes.now c.args.slash is_slash (sym c.in_ok-den.ensures.fault) nonzero)
