use Rattle.std.proofs.Common.{arith, map, sym, ap, ◌∙◌}
use Rattle.motions.specs.Views.{parts}
use Rattle.closure.specs.Residues.{has_residue}
use Rattle.closure.proofs.Growth.{cosets_begin, cosets_turn, cosets_overflow, cosets_end, length-turn}
use Rattle.closure.proofs.residues.add_vector.Goals as goal

pub loop-step-init : goal.loop-step-init
loop-step-init c = record {
  reduced = c.requires.reduced;
  step = c.residue_of-step.ensures.reduced;
  some = omega arith;
  size = omega arith;
  few = c.requires.few;
  cosets = λ g h. cosets_begin g _ c.args.residues.now.items c.len-size.result c.residue_of-step.result (omega arith) c.residue_of-step.ensures.value h;
}

pub returns-then-len-size-gt-MAX_RESIDUES-clause-fault : goal.returns-then-len-size-gt-MAX_RESIDUES-clause-fault
returns-then-len-size-gt-MAX_RESIDUES-clause-fault c g h =
    let now = c.loop-step.residues.items in
    let new_step = ap (λ rs. has_residue (map parts rs) (parts c.loop-step.step)) (sym c.deref.ensures.value) ∙ sym c.lists_residue.ensures ∙ c.loop-step-test.true in
    cosets_overflow g _ c.len-size.result now c.loop-step.step (c.loop-step.invariant.cosets g h) new_step (omega arith)

pub loop-step-smaller : goal.loop-step-smaller
loop-step-smaller c =
    let now = c.loop-step.residues.items in
    let longer = length-turn now c.append_coset.new.residues.items c.loop-step.step c.len-size.result (omega arith) c.in_ok-append_coset.ensures.items in
    omega (arith, longer)

pub loop-step-preserved : goal.loop-step-preserved
loop-step-preserved c =
    let now = c.loop-step.residues.items in
    let kept = c.loop-step.invariant in
    let all = c.in_ok-append_coset.ensures in
    let new_step = ap (λ rs. has_residue (map parts rs) (parts c.loop-step.step)) (sym c.deref.ensures.value) ∙ sym c.lists_residue.ensures ∙ c.loop-step-test.true in
    let longer = length-turn now c.append_coset.new.residues.items c.loop-step.step c.len-size.result (omega arith) all.items in
    record {
      reduced = all.reduced;
      step = c.residue_of_sum-step.ensures.reduced;
      some = kept.some;
      size = omega (arith, longer);
      few = omega (arith, longer);
      cosets = λ g h. cosets_turn g _ c.len-size.result now c.loop-step.step (kept.cosets g h) new_step c.append_coset.new.residues.items c.residue_of_sum-step.result
          all.items c.residue_of_sum-step.ensures.value;
    }

pub returns-clause-lattice : goal.returns-clause-lattice
returns-clause-lattice c g h =
    let now = c.loop-step.residues.items in
    cosets_end g _ c.len-size.result now c.loop-step.step (c.loop-step.invariant.cosets g h)
    (ap (λ rs. has_residue (map parts rs) (parts c.loop-step.step)) (sym c.deref.ensures.value) ∙ sym c.loop-step-test.ensures)
