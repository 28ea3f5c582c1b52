-- A translation is a shift where its vector is in the lattice.
use Rattle.std.proofs.Common.{sym, ◌∙◌}
use Rattle.motions.specs.Layers.{planar_of}
use Rattle.layer_types.specs.Laws.LatticeLaws.{in_lattice-is}
use Rattle.layer_types.proofs.shifts.LayerShiftsQuotient.is_shift.Goals as goal

pub returns-then-is_translation : goal.returns-then-is_translation
returns-then-is_translation c =
    let translation = c.is_translation.ensures.0 c.if-is_translation.true in
    let is = c.is_in_lattice.ensures in
    let decides = in_lattice-is c.args.self.now.centred (planar_of c.args.m.now).translation in (
      λ t. record { matrix = translation.0; side = translation.1; translation = decides.0 (sym is ∙ t) },
      λ s. is ∙ decides.1 s.translation,
    )
