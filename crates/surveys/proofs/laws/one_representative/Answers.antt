use Rattle.surveys.proofs.Greatest.{one_listed, only_representative, some_representative}
use Rattle.surveys.proofs.laws.one_representative.Goals as goal

pub returns-clause-some : goal.returns-clause-some
returns-clause-some c = λ g n r group. some_representative g group n r

pub returns-clause-only : goal.returns-clause-only
returns-clause-only c = λ g n r s t group. only_representative g group n r s t

pub returns-clause-listed : goal.returns-clause-listed
returns-clause-listed c = λ g n list r group. one_listed g group n list r
