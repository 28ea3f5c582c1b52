use Rattle.requests.proofs.OneAnswer.{one_request, one_words_refusal, not_refused}
use Rattle.requests.proofs.laws.one_request.Goals as goal

pub returns-clause-asked : goal.returns-clause-asked
returns-clause-asked c = one_request

pub returns-clause-refusal : goal.returns-clause-refusal
returns-clause-refusal c = one_words_refusal

pub returns-clause-apart : goal.returns-clause-apart
returns-clause-apart c = not_refused
