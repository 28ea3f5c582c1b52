-- Values that pass the tests are the frieze types.
use Rattle.std.proofs.Common.{◌≡◌, ℕ, Bool, true}
use Rattle.line_types.specs.declared.friezes.FriezeType.{FriezeType}
use Rattle.line_types.specs.Friezes.{IsFriezeType, frieze_line, frieze_type_of}
use Rattle.line_types.specs.Laws.FriezeLaws.{frieze_line_laws}
use Rattle.line_types.specs.FriezeRows.{frieze_row}
use Rattle.line_types.proofs.LineTests.{is_type, is_type_is}

abbrev pub is_frieze_type : ℕ → FriezeType → Bool
is_frieze_type n t = is_type frieze_line (frieze_row n) n (frieze_type_of t)

pub is_frieze_type_is : (n : ℕ) (t : FriezeType) → is_frieze_type n t ≡ true → IsFriezeType n t
is_frieze_type_is n t e = is_type_is frieze_line frieze_line_laws (frieze_row n) n (frieze_type_of t) e
