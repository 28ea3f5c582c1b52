use Rattle.requests.proofs.Ratios.{ratio_result}
use Rattle.requests.proofs.words.read_placed.Goals as goal

pub returns-clause-value : goal.returns-clause-value
returns-clause-value c = rw c.ok.ensures.value (ratio_result _ _ c.read_ratio.result c.read_ratio.ensures.value c.read_ratio.ensures.end c.read_ratio.ensures.fault)
