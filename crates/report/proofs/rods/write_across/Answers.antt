use Rattle.std.proofs.Common.{◌≡◌, ◌++◌, subst}
use Rattle.std.specs.Prelude.{OnOk, codes, string_bytes}
use Rattle.report.specs.Texts.{fractions_text}
use Rattle.report.proofs.rods.write_across.Goals as goal

pub returns : goal.returns
returns c =
    subst (λ v. OnOk c.write_edges.result (string_bytes c.write_edges.new.text ≡ string_bytes c.args.text.now ++ c.args.name.now ++ fractions_text v ++ codes "\n"))
    c.across_at-v.ensures c.write_edges.ensures
