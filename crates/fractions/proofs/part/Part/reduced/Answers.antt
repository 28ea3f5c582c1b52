use Rattle.std.proofs.Common.{rules}
use Rattle.fractions.proofs.Reduced.{IsReduced-reduced_parts}
use Rattle.fractions.proofs.part.Part.reduced.Goals as goal

pub returns-clause-reduced : goal.returns-clause-reduced
returns-clause-reduced c = IsReduced-reduced_parts _ _ (search rules)
