-- The direction is turned to itself, to its opposite, or to neither.
use Rattle.std.proofs.Common.{◌∙◌, sym, ap}
use Rattle.symmetry.specs.Vectors.{image}
use Rattle.symmetry.proofs.VectorLaws.{multiple-one}
use Rattle.motions.specs.Views.{motion_of}
use Rattle.penetration.specs.DirectionView.{direction_of}
use Rattle.penetration.proofs.signs.sign_along.Goals as goal

pub returns-then-is_same : goal.returns-then-is_same
returns-then-is_same c =
    ap (image (motion_of c.args.m.now).matrix) (sym c.vector-along.ensures.is) ∙ sym c.image-turned.ensures.is ∙ c.is_same.ensures.0 c.if-is_same.true
    ∙ c.vector-along.ensures.is ∙ sym (multiple-one (direction_of c.args.direction.now))
