use Rattle.std.proofs.Common.{◌≤◌, sym, subst, arith, vec_len}
use Rattle.std.proofs.lemmas.List.{length-map}
use Rattle.std.proofs.lemmas.List.Sorted.{All-permutation, IsPermutation-map}
use Rattle.motions.specs.Views.{parts}
use Rattle.closure.specs.Residues.{IsResidue}
use Rattle.closure.proofs.Sorting.{residues-permuted, residue_group, in_order}
use Rattle.closure.proofs.Counting.{not_too_fine}
use Rattle.closure.proofs.lattice.Lattice.make.Goals as goal

pub invariant_of-result : goal.invariant_of-result
invariant_of-result c =
    let made = c.in_ok-residues.ensures in
    let moved = c.in_ok-sort.ensures in
    let reduced = All-permutation IsResidue _ _ moved.permutation made.reduced in
    let sorted = residues-permuted _ _ _ (IsPermutation-map parts _ _ moved.permutation) made.lattice in
    let few : vec_len c.sort.new.self ≤ 64 = omega arith in
    record {
      group = residue_group _ _ sorted;
      reduced = reduced;
      ordered = in_order _ reduced sorted.apart moved.sorted;
      few = few;
    }

pub returns-clause-lattice : goal.returns-clause-lattice
returns-clause-lattice c =
    let sorted = residues-permuted _ _ _ (IsPermutation-map parts _ _ c.in_ok-sort.ensures.permutation) c.in_ok-residues.ensures.lattice in
    sorted.same

pub returns-clause-fine : goal.returns-clause-fine
returns-clause-fine c =
    let made = c.in_ok-residues.ensures in
    not_too_fine _ _ made.lattice (subst (λ n. n ≤ 64) (sym (length-map c.in_ok-residues.residues.items parts)) (omega arith))
