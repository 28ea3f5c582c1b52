use Rattle.std.proofs.Common.{sym, ◌∙◌, arith}
use Rattle.triplets.proofs.TextBounds.{text_place_within}
use Rattle.triplets.proofs.text.LineReader.advance.Goals as goal

pub invariant_of-self-2 : goal.invariant_of-self-2
invariant_of-self-2 c = record {
  few = c.args.self.now.few;
  line_within = omega arith;
  column_within = omega arith;
  place_within =
      text_place_within c.args.self.now.notation c.args.byte c.args.self.now.column c.args.self.now.place c.in-Ok.next c.args.self.now.place_within (sym c.step.ensures ∙ c.in-Ok.is);
}
