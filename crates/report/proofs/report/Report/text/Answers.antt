use Rattle.std.proofs.Common.{sym, subst}
use Rattle.std.specs.Prelude.{All}
use Rattle.fractions.specs.FractionOf.{fraction_of}
use Rattle.plane_lattice.specs.SmallHeights.{IsSmallHeight}
use Rattle.report.proofs.SmallSizes.{small_sections}
use Rattle.report.proofs.report.Report.text.Goals as goal

pub write_heights-requires : goal.write_heights-requires
write_heights-requires c = subst (All (λ h. IsSmallHeight (fraction_of h.s))) (sym c.deref.ensures.value) (small_sections c.args.self.now)
