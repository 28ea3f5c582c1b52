-- Motions of a plane that map a line of it to itself.
use Rattle.std.specs.Prelude.{ℤ, pos, ◌+ℤ◌, ◌*ℤ◌, Bool, ◌&&◌}
use Rattle.std.specs.Ordering.{int_eq}
use Rattle.symmetry.specs.Motions.{Motion}
use Rattle.motions.specs.declared.motion.Sign.{Sign}
use Rattle.motions.specs.declared.motion.Sign.TheVariants.{Plus}
use Rattle.motions.specs.declared.frieze.FriezeMotion.{FriezeMotion}
use Rattle.motions.specs.Signs.{same_sign, sign_value, sign_product}

-- (x, y) goes to (f x + t, e y): the sign f along the line, the sign e across it, and the translation t in parts
pub record FriezeOperation : Type 0 where
  pub along : Sign
  pub across : Sign
  pub translation : ℤ

-- the operation that a FriezeMotion is
abbrev pub frieze_of : FriezeMotion → FriezeOperation
frieze_of m = record { along = m.f; across = m.e; translation = m.t }

-- first (f, e, t), then (f', e', t'): the operation (f' f, e' e, f' t + t')
abbrev pub frieze_followed_by : FriezeOperation → FriezeOperation → FriezeOperation
frieze_followed_by first next = record {
  along = sign_product next.along first.along;
  across = sign_product next.across first.across;
  translation = sign_value next.along *ℤ first.translation +ℤ next.translation;
}

-- the translation along the line
abbrev pub frieze_translation : ℤ → FriezeOperation
frieze_translation t = record { along = Plus; across = Plus; translation = t }

-- the operation that moves nothing
abbrev pub frieze_identity : FriezeOperation
frieze_identity = frieze_translation (pos 0)

-- whether two operations are equal
abbrev pub same_frieze : FriezeOperation → FriezeOperation → Bool
same_frieze m n = same_sign m.along n.along && same_sign m.across n.across && int_eq m.translation n.translation

-- the motion of space: f along the first axis with the translation along it, e along the second, and the third as it is
abbrev pub frieze_block : FriezeOperation → Motion
frieze_block m = record {
  matrix = record {
    first = record { x = sign_value m.along; y = pos 0; z = pos 0 };
    second = record { x = pos 0; y = sign_value m.across; z = pos 0 };
    third = record { x = pos 0; y = pos 0; z = pos 1 };
  };
  translation = record { x = m.translation; y = pos 0; z = pos 0 };
}
