use Rattle.std.proofs.Common.{◌+◌, ◌<◌, arith, subst, map}
use Rattle.std.proofs.lemmas.Result.{err_from_is_err_and}
use Rattle.motions.specs.Views.{parts}
use Rattle.closure.specs.Spans.{AreResiduesOf}
use Rattle.closure.specs.Faults.{IsLatticeFault}
use Rattle.closure.proofs.Made.{zero_alone, centrings-more, fault-first}
use Rattle.closure.proofs.residues.residues_of_sums.Goals as goal

pub loop-v-init : goal.loop-v-init
loop-v-init c =
    let len = c.in_ok-push.ensures.len in
    let zero = zero_alone c.new-residues.result.items c.push.new.self.items c.new-residues.ensures.items c.in_ok-push.ensures.items in
    record { reduced = zero.0; some = omega arith; few = omega arith; lattice = zero.1 }

pub returns-in_err-add_vector-clause-fault : goal.returns-in_err-add_vector-clause-fault
returns-in_err-add_vector-clause-fault c =
    let r = c.from_residual-in_err-add_vector in
    let p = err_from_is_err_and r.result r.ensures.1 in
    let within : c.loop-v.v-index < _ = omega arith in
    rw (p.1, p.2) (fault-first c.args.vectors.now (c.loop-v.v-index + 1) c.in_err-add_vector.field-0.0
    (subst (λ g. IsLatticeFault g c.in_err-add_vector.field-0.0) (centrings-more c.args.vectors.now c.loop-v.v-index within) (c.in_err-add_vector.ensures.fault _ c.loop-v.invariant.lattice)))

pub loop-v-preserved : goal.loop-v-preserved
loop-v-preserved c =
    let new = c.in_ok-add_vector.ensures in
    record {
      reduced = new.reduced;
      some = new.some;
      few = new.few;
      lattice = subst (λ g. AreResiduesOf g (map parts c.add_vector.new.residues.items)) (centrings-more c.args.vectors.now c.loop-v.v-index (omega arith))
          (new.lattice _ c.loop-v.invariant.lattice);
    }
