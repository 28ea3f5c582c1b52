use Rattle.std.proofs.Common.{◌^◌}
use Rattle.std.proofs.lemmas.List.Elements.{All-map}
use Rattle.integers.specs.Size.{IsWithin}
use Rattle.motions.specs.FriezeMotions.{FriezeOperation}
use Rattle.friezes.specs.Lines.{line_of}
use Rattle.friezes.proofs.section.is_section.Goals as goal

pub check_group-requires-clause-small : goal.check_group-requires-clause-small
check_group-requires-clause-small c = All-map (λ (m : FriezeOperation). IsWithin (2 ^ 40) m.translation) line_of c.args.section.now c.requires
