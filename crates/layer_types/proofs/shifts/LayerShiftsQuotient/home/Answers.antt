-- The vector at home is what the code computes.
use Rattle.std.proofs.Common.{subst, sym}
use Rattle.motions.specs.Layers.{planar_of}
use Rattle.layer_types.specs.Lattices.{IsHome}
use Rattle.layer_types.specs.Laws.LatticeLaws.{home_is_home}
use Rattle.layer_types.proofs.shifts.LayerShiftsQuotient.home.Goals as goal

pub returns-clause-first : goal.returns-clause-first
returns-clause-first c =
    let v = (planar_of c.args.m.now).translation in
    subst (IsHome c.args.self.now.centred v) (sym c.home_vector.ensures) (home_is_home v c.args.self.now.centred)
