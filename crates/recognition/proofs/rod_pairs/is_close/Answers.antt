use Rattle.std.proofs.Common.{◌≡◌, ◌∙◌, IsTrue, subst, rules, w64, FitsSigned, ℤ, ◌-ℤ◌, ◌*ℤ◌}
use Rattle.std.specs.Prelude.{◌↔◌}
use Rattle.std.proofs.lemmas.Int.{to_z-of_z}
use Rattle.fractions.specs.declared.part.TheConstants.{UNIT}
use Rattle.recognition.specs.declared.found_rod.TheConstants.{ROD_GRID}
use Rattle.motions.specs.Rationals.{IsMultiple}
use Rattle.recognition.proofs.rod_pairs.is_close.Goals as goal

pub returns : goal.returns
returns c =
    let fr : FitsSigned w64 c.rest.result = search rules in
    let fm : FitsSigned w64 c.args.m.now.t = search rules in
    let fn' : FitsSigned w64 c.args.n.now.t = search rules in
    let fh : FitsSigned w64 c.hand.result = search rules in
    let fz : FitsSigned w64 c.from.result = search rules in
    let fv : FitsSigned w64 c.value.result = search rules in
    let whole : IsTrue c.is_whole.result ↔ IsMultiple (ROD_GRID *ℤ UNIT) c.rest.result = simp to_z-of_z at c.is_whole.ensures in
    let is : c.rest.result ≡ ROD_GRID *ℤ (c.args.m.now.t -ℤ c.hand.result *ℤ c.args.n.now.t) -ℤ UNIT *ℤ (c.from.result -ℤ c.value.result *ℤ c.from.result) = simp to_z-of_z at c.rest.ensures in
    let Claim : ℤ → Type 0 = λ x. IsTrue c.is_whole.result ↔ IsMultiple (ROD_GRID *ℤ UNIT) x in
    subst Claim
    (is ∙ (λ i. ROD_GRID *ℤ (c.args.m.now.t -ℤ c.hand.ensures.is i *ℤ c.args.n.now.t) -ℤ UNIT *ℤ (c.from.ensures i -ℤ c.value.ensures i *ℤ c.from.ensures i)))
    whole
