use Rattle.std.proofs.Common.{◌≡◌, ◌++◌, subst}
use Rattle.std.specs.Prelude.{OnOk, string_bytes}
use Rattle.report.specs.Texts.{basis_line}
use Rattle.report.proofs.named_lines.write_basis.Goals as goal

pub returns : goal.returns
returns c =
    subst (λ line. OnOk c.write_vectors.result (string_bytes c.write_vectors.new.text ≡ string_bytes c.args.text.now ++ line))
    (λ i. basis_line (c.of.ensures.first i) (c.of.ensures.second i) (c.of.ensures.third i)) c.write_vectors.ensures
