-- What has no plus shows as it is, also where it is the first.
use Rattle.std.proofs.Common.{rules, ◌≡◌, ◌⊎◌, inl, inr, List, ℕ, true, subst, sym, pos, ◌≤ℤ◌, w64, ap, of_z}
use Rattle.std.specs.Fmt.{HasWritten}
use Rattle.triplets.proofs.Terms.{placed-no_plus}
use Rattle.triplets.proofs.display.NumberDisplay.fmt.Goals as goal
use Rattle.triplets.proofs.display.NumberDisplay.fmt.Goals.{else-translation-gt0-via-then-translation-gt0+else-not-self, else-translation-gt0-via-else-translation-gt0}

pub returns-else-translation-gt0-clause-writes : goal.returns-else-translation-gt0-clause-writes
returns-else-translation-gt0-clause-writes g c plain ok =
    let t = c.args.self.now.translation.0 in
    let not_zero = λ (e : t ≡ pos 0). c.if-translation-eq0.false (ap (of_z w64) e) in
    let bare : (c.args.self.now.first ≡ true) ⊎ (t ≤ℤ pos 0) =
    elim c.else-translation-gt0.branch [ else-translation-gt0-via-then-translation-gt0+else-not-self w ↦ inl w.if-not-self.false | else-translation-gt0-via-else-translation-gt0 w ↦ inr (search rules) ] in
    subst (λ (text : List ℕ). HasWritten {W = g.row.W.Denot} g.W.Write.write_str_gives c.args.f.now text c.write-else-translation-gt0.new.self)
    (sym (placed-no_plus c.args.self.now.first t not_zero bare)) (c.write-else-translation-gt0.ensures.writes plain ok)
