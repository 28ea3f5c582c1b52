use Rattle.recognition.proofs.RodCarries.{fits_carries, carries_fits}
use Rattle.recognition.proofs.rod_laws.carries_by_listed.Goals as goal

pub returns : goal.returns
returns c = λ section ops p z. (fits_carries section ops p z, carries_fits section ops p z)
