-- Values that pass the tests are the rod types.
use Rattle.std.proofs.Common.{◌≡◌, ℕ, Bool, true}
use Rattle.line_types.specs.declared.rods.RodType.{RodType}
use Rattle.line_types.specs.Rods.{IsRodType, rod_line, rod_type_of}
use Rattle.line_types.specs.Laws.RodLaws.{rod_line_laws}
use Rattle.line_types.specs.RodRows.{rod_row}
use Rattle.line_types.proofs.LineTests.{is_type, is_type_is}

abbrev pub is_rod_type : ℕ → RodType → Bool
is_rod_type n t = is_type rod_line (rod_row n) n (rod_type_of t)

pub is_rod_type_is : (n : ℕ) (t : RodType) → is_rod_type n t ≡ true → IsRodType n t
is_rod_type_is n t e = is_type_is rod_line rod_line_laws (rod_row n) n (rod_type_of t) e
