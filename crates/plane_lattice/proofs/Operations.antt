-- The operation at a place of a list.
use Rattle.std.proofs.Common.{ℕ, List, [], get_or}
use Rattle.motions.specs.declared.motion.Motion3.{Motion3}

abbrev pub operation_at : List Motion3 → ℕ → Motion3
operation_at ops i = get_or ops i (record { w = []; t = [] })
