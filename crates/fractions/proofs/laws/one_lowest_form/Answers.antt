use Rattle.fractions.proofs.Lowest.{one_lowest}
use Rattle.fractions.proofs.laws.one_lowest_form.Goals as goal

pub returns : goal.returns
returns c = one_lowest
