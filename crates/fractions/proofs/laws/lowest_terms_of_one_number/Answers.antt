use Rattle.fractions.proofs.Lowest.{lowest_terms-same, lowest_terms-only}
use Rattle.fractions.proofs.laws.lowest_terms_of_one_number.Goals as goal

pub returns : goal.returns
returns c = record { same = lowest_terms-same; only = lowest_terms-only }
