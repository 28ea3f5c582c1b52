-- Parts of a cell edge, and half parts, modulo whole edges.
use Rattle.std.specs.Prelude.{◌≡◌, ℤ, pos, ◌+ℤ◌, ◌*ℤ◌, ◌≤ℤ◌, ◌<ℤ◌, int_div}
use Rattle.std.specs.Int.{int_rem_euclid}
use Rattle.fractions.specs.declared.part.TheConstants.{UNIT}
use Rattle.fractions.specs.Fraction.{Fraction}

-- what is left of a number of parts without the whole edges in it
abbrev pub reduced_parts : ℤ → ℤ
reduced_parts parts = int_rem_euclid parts UNIT

-- the other number is from 0 to below an edge, and whole edges away
pub record IsReduced (parts rest : ℤ) : Type 0 where
  pub least : pos 0 ≤ℤ rest
  pub below : rest <ℤ UNIT
  pub edges : ℤ
  pub is : parts ≡ rest +ℤ edges *ℤ UNIT

-- half a cell edge, in parts
abbrev pub half_an_edge : ℤ
half_an_edge = int_div UNIT (pos 2)

-- a cell edge, in half parts
abbrev pub edge : ℤ
edge = pos 2 *ℤ UNIT

-- what is left of a number of half parts without the whole edges in it
abbrev pub rest_of_edge : ℤ → ℤ
rest_of_edge n = int_rem_euclid n edge

-- a number of parts, as a part of a cell edge
abbrev pub part_of_edge : ℤ → Fraction
part_of_edge t = record { num = t; den = UNIT }
