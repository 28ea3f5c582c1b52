-- Three fractions, and the code's array of ratios as these.
use Rattle.std.specs.Prelude.{ℕ, pos, List, map, slice_index_or}
use Rattle.fractions.specs.declared.ratio.Ratio.{Ratio}
use Rattle.fractions.specs.Fraction.{Fraction}
use Rattle.fractions.specs.FractionOf.{fraction_of}

-- three fractions, counted in cell edges
pub record Fractions : Type 0 where
  pub x : Fraction
  pub y : Fraction
  pub z : Fraction

-- the fraction at a place of an array
abbrev pub fraction_at : List Ratio → ℕ → Fraction
fraction_at c i = slice_index_or (map fraction_of c) i (record { num = pos 0; den = pos 1 })

-- the three entries of an array of ratios
abbrev pub fractions_of : List Ratio → Fractions
fractions_of c = record { x = fraction_at c 0; y = fraction_at c 1; z = fraction_at c 2 }
