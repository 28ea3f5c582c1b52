use Rattle.std.proofs.Common.{◌≡◌, ◌⊎◌, ◌<ℤ◌, ◌≤ℤ◌, pos, Contains, List, map, ℕ, ◌<◌, get_or}
use Rattle.fractions.specs.declared.part.TheConstants.{UNIT}
use Rattle.fractions.specs.declared.part.Part.{Part}
use Rattle.motions.specs.Views.{parts}
use Rattle.reduction.specs.LeadingEntries.{edge_at, leading_entry}
use Rattle.reduction.proofs.leading.least_along.Given as goal

abbrev pub invariant-loop-r : goal.invariant-loop-r
invariant-loop-r l = record {
  one : (parts l.least ≡ edge_at l.place) ⊎ Contains (map parts l.residues) (parts l.least);
  positive : pos 0 <ℤ leading_entry l.place (parts l.least);
  most : leading_entry l.place (parts l.least) ≤ℤ UNIT;
  least : (k : ℕ) (d : List Part) → k < l.r-index → pos 0 <ℤ leading_entry l.place (parts (get_or l.residues k d)) → leading_entry l.place (parts l.least) ≤ℤ leading_entry l.place (parts (get_or l.residues k d));
}
