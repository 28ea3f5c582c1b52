use Rattle.std.proofs.Common.{ap, ◌∙◌}
use Rattle.symmetry.specs.Vectors.{plus}
use Rattle.symmetry.proofs.VectorLaws.{vector_path}
use Rattle.closure.specs.Residues.{residue}
use Rattle.closure.proofs.residues.residue_of_sum.Goals as goal

pub returns-clause-value : goal.returns-clause-value
unfolding plus
returns-clause-value c = c.residue_of.ensures.value ∙ ap residue (vector_path c.add.ensures c.add-2.ensures c.add-3.ensures)
