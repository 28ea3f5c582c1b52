use Rattle.fractions.proofs.Lowest.{IsLowestForm-lowest_terms, IsNoLarger-lowest_terms}
use Rattle.fractions.proofs.laws.lowest_form_by_divisor.Goals as goal

pub returns : goal.returns
returns c = record { lowest = IsLowestForm-lowest_terms; no_larger = IsNoLarger-lowest_terms }
