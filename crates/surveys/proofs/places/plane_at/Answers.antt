use Rattle.motions.specs.Views.{vector_of}
use Rattle.surveys.proofs.PlacedPlanes.{at_place}
use Rattle.surveys.proofs.places.plane_at.Goals as goal

pub returns : goal.returns
returns c =
    at_place c.args.n c.requires.from c.requires.most c.args.place (vector_of c.triple_at.result) c.triple_at.ensures.within c.triple_at.ensures.place
    c.make.result c.make.ensures.ok c.make.ensures.faults c.ok.result c.ok.ensures.value
