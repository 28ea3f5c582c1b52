use Rattle.std.specs.Prelude.{unsigned_abs}
use Rattle.fractions.specs.declared.part.TheConstants.{UNIT}
use Rattle.recognition.specs.declared.found_rod.TheConstants.{ROD_GRID}
use Rattle.std.proofs.Common.{◌*ℤ◌, arith, w64, FitsSigned}
use Rattle.std.proofs.lemmas.Int.{to_z-of_z}
use Rattle.recognition.proofs.Multiples.{multiple_by_rest}
use Rattle.recognition.proofs.rod_pairs.is_whole.Goals as goal

-- the axis has so many parts of the grid
pub returns : goal.returns
returns c =
    let f : FitsSigned w64 c.args.z = c.ranges.z in
    multiple_by_rest (unsigned_abs (ROD_GRID *ℤ UNIT)) c.args.z c.unsigned_abs.result (omega arith) (simp to_z-of_z at c.unsigned_abs.ensures.value)
