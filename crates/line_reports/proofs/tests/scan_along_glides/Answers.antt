use Rattle.std.proofs.Common.{◌≡◌, [], ◌∷◌, List, lit≤, sym, subst, arith}
use Rattle.std.specs.Prelude.{All}
use Rattle.std.proofs.lemmas.Int.{ints}
use Rattle.std.proofs.lemmas.List.Elements.{All-cons, All-nil}
use Rattle.fractions.specs.FractionOf.{fraction_of}
use Rattle.plane_lattice.specs.SmallHeights.{IsSmallHeight}
use Rattle.line_reports.proofs.tests.scan_along_glides.Goals as goal

all_of_two : {X : Type 0} (P : X → Type 0) (x y : X) {xs : List X} → xs ≡ x ∷ y ∷ [] → P x → P y → All P xs
all_of_two P x y e h k = subst (All P) (sym e) (All-cons P x (y ∷ []) h (All-cons P y [] k (All-nil P)))

pub returns : goal.returns
returns c = record {
  a = record { x = record { most = lit≤ tt }; y = record { most = lit≤ tt } };
  tau = record { x = record { most = lit≤ tt }; y = record { most = lit≤ tt } };
  period = record { within = record { most = lit≤ tt }; above = omega (arith, ints) };
  heights = all_of_two (λ h. IsSmallHeight (fraction_of h.s)) _ _ c.in_ok-heights.ensures.items c.halves.ensures c.halves-2.ensures;
}
