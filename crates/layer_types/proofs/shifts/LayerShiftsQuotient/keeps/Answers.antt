-- The matrix decides whether the motion carries shifts into shifts.
use Rattle.std.proofs.lemmas.Bool.Decides.{Decides-at}
use Rattle.motions.specs.Layers.{planar_of}
use Rattle.layer_types.specs.Lattices.{keeps_lattice}
use Rattle.layer_types.specs.Laws.ShiftLaws.{keeps_is}
use Rattle.layer_types.proofs.shifts.LayerShiftsQuotient.keeps.Goals as goal

pub returns : goal.returns
returns c =
    let m = planar_of c.args.m.now in
    let centred = c.args.self.now.centred in
    Decides-at c.keeps_lattice.result (keeps_lattice centred m.matrix) c.keeps_lattice.ensures (keeps_is centred m)
