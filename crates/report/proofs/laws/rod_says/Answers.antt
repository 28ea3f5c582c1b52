use Rattle.report.proofs.RodSays.{rod_says}
use Rattle.report.proofs.laws.rod_says.Goals as goal

pub returns : goal.returns
returns c g group direction basis frame point rod is_group made is = rod_says g group direction basis frame point rod is_group made is
