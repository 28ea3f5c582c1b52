-- It has a sign.
use Rattle.std.proofs.Common.{refl}
use Rattle.motions.specs.Views.{motion_of}
use Rattle.motions.specs.Signs.{sign_value}
use Rattle.motions.specs.Laws.SignLaws.{sign_is_sign}
use Rattle.penetration.specs.DirectionView.{direction_of}
use Rattle.penetration.proofs.DirectionSigns.{keeps_by_sign}
use Rattle.penetration.proofs.signs.keeps_direction.Goals as goal

pub returns-in-Some : goal.returns-in-Some
returns-in-Some c = (
  λ t. keeps_by_sign (direction_of c.args.direction.now) (motion_of c.args.m.now) (sign_value c.in-Some.field-0) (sign_is_sign c.in-Some.field-0) c.in-Some.ensures,
  λ h. refl,
)
