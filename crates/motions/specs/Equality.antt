-- Equality as a test.
use Rattle.std.specs.Prelude.{Bool, ◌&&◌}
use Rattle.symmetry.specs.Vectors.{Matrix}
use Rattle.symmetry.specs.Motions.{Motion}
use Rattle.symmetry.specs.Frames.{same_vector}

-- whether two matrices are equal
abbrev pub same_matrix : Matrix → Matrix → Bool
same_matrix m n = same_vector m.first n.first && same_vector m.second n.second && same_vector m.third n.third

-- whether two motions are equal
abbrev pub same_motion : Motion → Motion → Bool
same_motion m n = same_matrix m.matrix n.matrix && same_vector m.translation n.translation
