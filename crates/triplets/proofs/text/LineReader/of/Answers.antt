use Rattle.triplets.proofs.FirstKept.{keeps_nothing}
use Rattle.triplets.proofs.text.LineReader.of.Goals as goal

pub returns-clause-told : goal.returns-clause-told
returns-clause-told c = keeps_nothing c.args.notation c.new.result.items c.new-2.result.items c.new.ensures.items c.new-2.ensures.items
