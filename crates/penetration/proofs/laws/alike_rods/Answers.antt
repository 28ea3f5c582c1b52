use Rattle.penetration.proofs.AlikeRods.{frame_fault_from, rod_frame_from, rod_from, rod_operations_from, rod_skewed_from}
use Rattle.penetration.proofs.laws.alike_rods.Goals as goal

pub returns-clause-frame : goal.returns-clause-frame
returns-clause-frame c g h alike u f = rod_frame_from g h alike u f

pub returns-clause-skewed : goal.returns-clause-skewed
returns-clause-skewed c g h alike u f = rod_skewed_from g h alike u f

pub returns-clause-rod : goal.returns-clause-rod
returns-clause-rod c g h alike u f p ms change = rod_from g h alike u f p ms change

pub returns-clause-fault : goal.returns-clause-fault
returns-clause-fault c g h alike u a b fault = frame_fault_from g h alike u a b fault

pub returns-clause-rods : goal.returns-clause-rods
returns-clause-rods c g h alike u rods = rod_operations_from g h alike u rods
