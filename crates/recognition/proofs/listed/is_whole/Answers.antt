use Rattle.std.proofs.Common.{arith, w64, FitsSigned}
use Rattle.std.proofs.lemmas.Int.{to_z-of_z}
use Rattle.recognition.specs.Grid.{grid}
use Rattle.recognition.proofs.Multiples.{multiple_by_rest}
use Rattle.recognition.proofs.listed.is_whole.Goals as goal

pub returns : goal.returns
returns c =
    let f : FitsSigned w64 c.args.z = c.ranges.z in
    multiple_by_rest grid c.args.z c.unsigned_abs.result (omega arith) (simp to_z-of_z at c.unsigned_abs.ensures.value)
