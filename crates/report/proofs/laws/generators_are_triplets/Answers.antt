-- Each text of the tables is read: computed.
use Rattle.report.proofs.WrittenGenerators.{friezes, layers, rods}
use Rattle.report.proofs.laws.generators_are_triplets.Goals as goal

pub returns-clause-layers : goal.returns-clause-layers
returns-clause-layers c = layers

pub returns-clause-rods : goal.returns-clause-rods
returns-clause-rods c = rods

pub returns-clause-friezes : goal.returns-clause-friezes
returns-clause-friezes c = friezes
