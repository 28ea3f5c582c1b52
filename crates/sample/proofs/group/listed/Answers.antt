use Rattle.sample.proofs.Listed.{type_operations}
use Rattle.sample.proofs.group.listed.Goals as goal

pub operations-requires-clause-ops : goal.operations-requires-clause-ops
operations-requires-clause-ops c = type_operations _ c.args.layer_type.now c.requires.layer_type
