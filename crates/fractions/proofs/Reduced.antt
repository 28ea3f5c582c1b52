-- Euclid's remainder is from 0 to below the divisor, and whole multiples of it away.
use Rattle.std.proofs.Common.{◌≡◌, ℤ, arith, subst, sym}
use Rattle.std.proofs.lemmas.Int.{ints}
use Rattle.std.specs.Prelude.{unsigned_abs}
use Rattle.integers.proofs.Remainders.{divided, rem-below, zero-le-rem}
use Rattle.fractions.specs.Parts.{IsReduced, reduced_parts}
use Rattle.fractions.specs.declared.part.TheConstants.{UNIT}

pub IsReduced-reduced_parts : (parts rest : ℤ) → rest ≡ reduced_parts parts → IsReduced parts rest
IsReduced-reduced_parts parts rest e =
    let edge = unsigned_abs UNIT in
    let h = divided edge (omega arith) parts in
    let reduced : IsReduced parts (reduced_parts parts) = record {
      least = zero-le-rem edge (omega arith) parts;
      below = rem-below edge (omega arith) parts;
      edges = h.times;
      is = omega (arith, ints, h.is, h.rem);
    } in
    subst (IsReduced parts) (sym e) reduced
