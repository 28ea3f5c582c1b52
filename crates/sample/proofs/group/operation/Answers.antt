use Rattle.std.proofs.Common.{◌∙◌}
use Rattle.motions.specs.Views.{motion_of}
use Rattle.report.proofs.Blocks.{block_by_form}
use Rattle.sample.specs.Shears.{sheared}
use Rattle.sample.proofs.ShearSizes.{there_again}
use Rattle.sample.proofs.group.operation.Goals as goal

pub returns-clause-is : goal.returns-clause-is
returns-clause-is c =
    c.sheared.ensures.is
    ∙ (λ i. sheared (there_again c.args.j c.requires.shear i) (block_by_form c.args.m.now (motion_of c.in-Some.block) c.in-Some.ensures.block i))
