-- The two rows, of the numbers that were passed.
use Rattle.std.proofs.Common.{rules, ◌++◌, ℕ, List, pos, FitsSigned, w64, subst, sym, ◌∙◌, append_assoc}
use Rattle.std.specs.Prelude.{codes}
use Rattle.std.specs.Fmt.{HasWritten}
use Rattle.std.proofs.lemmas.Int.{to_z-of_z}
use Rattle.triplets.specs.Writing.{row_text}
use Rattle.triplets.proofs.frieze.FriezeDisplay.fmt.Goals as goal

pub returns-clause-writes : goal.returns-clause-writes
returns-clause-writes g c plain ok =
    let m = c.args.self.now.0.now in
    let f : FitsSigned w64 c.value.result = search rules in
    let e : FitsSigned w64 c.value-2.result = search rules in
    let t : FitsSigned w64 m.t = search rules in
    let along =
    c.of-along.ensures ∙ (λ i. row_text (record { x = (to_z-of_z w64 c.value.result f ∙ c.value.ensures) i; y = pos 0; z = pos 0 }) (to_z-of_z w64 m.t t i)) in
    let across =
    c.of-across.ensures ∙ (λ i. row_text (record { x = pos 0; y = (to_z-of_z w64 c.value-2.result e ∙ c.value-2.ensures) i; z = pos 0 }) (pos 0)) in
    subst (λ (text : List ℕ). HasWritten {W = g.row.W.Denot} g.W.Write.write_str_gives c.args.f.now text c.write.new.self)
    ((λ i. along i ++ (codes "," ++ across i)) ∙ sym (append_assoc _ (codes ",") _)) (c.write.ensures.writes plain ok)
