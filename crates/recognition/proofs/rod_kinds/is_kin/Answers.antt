use Rattle.std.proofs.Common.{◌≡◌, sym, ◌∙◌, rules, FitsSigned, w64}
use Rattle.integers.proofs.Coded.{same_number, equal_is}
use Rattle.motions.specs.RodMotions.{rod_of}
use Rattle.recognition.proofs.rod_kinds.is_kin.Goals as goal

pub returns : goal.returns
returns c =
    let a : FitsSigned w64 c.determinant-first.result = search rules in
    let b : FitsSigned w64 c.determinant.result = search rules in
    let s : FitsSigned w64 c.trace-first.result = search rules in
    let t : FitsSigned w64 c.trace.result = search rules in
    let along : (rod_of c.args.m.now).along ≡ (rod_of c.args.n.now).along = search rules in
    let equal = equal_is c.determinant-first.result c.determinant.result a b in (
      λ h. record {
        along = along;
        trace = sym c.trace-first.ensures ∙ same_number c.trace-first.result c.trace.result s t c.if-first-trace.false ∙ c.trace.ensures;
        determinant = sym c.determinant-first.ensures ∙ equal.0 h ∙ c.determinant.ensures;
      },
      λ kin. equal.1 (c.determinant-first.ensures ∙ kin.determinant ∙ sym c.determinant.ensures),
    )
