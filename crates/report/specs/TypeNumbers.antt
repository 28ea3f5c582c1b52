-- The numbers of types.
use Rattle.std.specs.Prelude.{ℕ, ◌≤◌}
use Rattle.report.specs.declared.types.Kind.{Kind}
use Rattle.report.specs.declared.types.Kind.TheVariants.{Layer, Rod, Frieze}

-- how many types there are of a kind
abbrev pub type_count : Kind → ℕ
type_count Layer = 80
type_count Rod = 75
type_count Frieze = 7

-- a number of a type of this kind
abbrev pub IsTypeNumber : Kind → ℕ → Type 0
IsTypeNumber kind n = (1 ≤ n) × (n ≤ type_count kind)
