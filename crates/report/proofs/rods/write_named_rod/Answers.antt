use Rattle.std.proofs.Common.{◌≡◌, ◌++◌, [], ap, subst, ◌∙◌}
use Rattle.std.specs.Prelude.{OnOk, string_bytes}
use Rattle.triplets.proofs.TextLines.{three_lines_more}
use Rattle.triplets.specs.Writing.{number_line}
use Rattle.report.specs.RodTexts.{rod_basis_line}
use Rattle.report.specs.Texts.{origin_line}
use Rattle.report.proofs.rods.write_named_rod.Goals as goal

pub returns : goal.returns
returns c =
    let found = c.args.found.now in
    let of = c.of.ensures in
    subst (λ t. OnOk c.write_origin.result (string_bytes c.write_origin.new.text ≡ t))
    (three_lines_more (string_bytes c.args.text.now) _ _ _
    (c.in_ok-write_number.ensures ∙ ap (λ s. string_bytes c.args.text.now ++ number_line found.number s) c.symbol.ensures)
    (c.in_ok-write_rod_basis.ensures ∙ (λ i. string_bytes c.write_number.new.text ++ rod_basis_line (of.first i) (of.second i) (of.third i)))
    (λ i. origin_line (c.origin_along.ensures i) []))
    c.write_origin.ensures
