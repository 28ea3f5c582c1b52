use Rattle.symmetry.specs.Vectors.{multiple}
use Rattle.motions.specs.Views.{vector_of}
use Rattle.symmetry.proofs.VectorLaws.{vector_path}
use Rattle.reduction.proofs.TurnedPassed.{neg_short}
use Rattle.reduction.proofs.shorten.opposite.Goals as goal

pub returns : goal.returns
unfolding multiple
returns c = vector_path (neg_short (vector_of c.args.w.now).x c.requires.x) (neg_short (vector_of c.args.w.now).y c.requires.y) (neg_short (vector_of c.args.w.now).z c.requires.z)
