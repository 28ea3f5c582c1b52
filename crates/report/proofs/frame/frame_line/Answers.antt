use Rattle.std.proofs.Common.{◌≡◌, ◌∙◌, ap, Vec, ℕ, List, ◌++◌, Global, append_assoc}
use Rattle.std.specs.Prelude.{codes}
use Rattle.report.specs.Texts.{frame_line}
use Rattle.report.proofs.frame.frame_line.Goals as goal

joined : (a b tau : List ℕ) → a ++ (codes " " ++ (b ++ (codes " " ++ (tau ++ codes "\n")))) ≡ a ++ codes " " ++ b ++ codes " " ++ tau ++ codes "\n"
joined a b tau = simp append_assoc

pub returns : goal.returns
returns c =
    ap (λ (v : Vec ℕ Global). v.items) c.into_bytes.ensures.value ∙ c.in_ok-line.ensures.ok ∙ joined _ _ _
    ∙ (λ i. frame_line (record { a = c.of-a.ensures i; b = c.of-b.ensures i; tau = c.of-tau.ensures i }))
