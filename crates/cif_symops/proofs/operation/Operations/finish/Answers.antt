use Rattle.std.proofs.Common.{refl, ap}
use Rattle.cif_symops.specs.declared.position.Position.{Position}
use Rattle.cif_symops.specs.declared.fault.CifFault.TheVariants as faults
use Rattle.cif_symops.proofs.Given.{given_operations, given_misread}
use Rattle.cif_symops.proofs.operation.Operations.finish.Goals as goal

pub returns-in-Some : goal.returns-in-Some
returns-in-Some c ws h = given_misread c.args.bytes.now ws c.args.self c.in-Some.misread _ c.in-Some.is h
    (ap (λ (p : Position). faults.Symop p.line p.column c.in-Some.misread.kind) c.position_of-place.ensures)

pub returns-in-None : goal.returns-in-None
returns-in-None c ws h =
    given_operations c.args.bytes.now ws c.args.self _ c.in-None.is h c.requires.kept.small refl c.new.ensures.items refl
