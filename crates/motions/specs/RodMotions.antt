-- Motions of space that map an axis to itself, how they multiply, and their block form.
use Rattle.std.specs.Prelude.{ℤ, pos, ◌+ℤ◌, ◌*ℤ◌, ◌^◌, Bool, ◌&&◌}
use Rattle.std.specs.Ordering.{int_eq}
use Rattle.integers.specs.Size.{IsWithin}
use Rattle.symmetry.specs.Motions.{Motion}
use Rattle.motions.specs.declared.motion.Sign.{Sign}
use Rattle.motions.specs.declared.motion.Sign.TheVariants.{Plus}
use Rattle.motions.specs.declared.rod.RodMotion.{RodMotion}
use Rattle.motions.specs.Signs.{same_sign, sign_product, sign_value}
use Rattle.motions.specs.PlaneMatrices.{Matrix2, product2, same_matrix2, unit2}
use Rattle.motions.specs.PlaneSizes.{IsMatrix2Within}
use Rattle.motions.specs.PlaneViews.{matrix2_of}

-- (x, y, z) goes to (A (x, y), e z + t): the matrix A across the axis, the sign e along it, and the translation t in parts
pub record RodOperation : Type 0 where
  pub matrix : Matrix2
  pub along : Sign
  pub translation : ℤ

-- the operation that a RodMotion is
abbrev pub rod_of : RodMotion → RodOperation
rod_of m = record { matrix = matrix2_of m.a; along = m.e; translation = m.t }

-- first (A, e, t), then (B, f, u): the operation (B A, f e, f t + u)
abbrev pub rod_followed_by : RodOperation → RodOperation → RodOperation
rod_followed_by first next = record {
  matrix = product2 next.matrix first.matrix;
  along = sign_product next.along first.along;
  translation = sign_value next.along *ℤ first.translation +ℤ next.translation;
}

-- the translation along the axis
abbrev pub rod_translation : ℤ → RodOperation
rod_translation t = record { matrix = unit2; along = Plus; translation = t }

-- the operation that moves nothing
abbrev pub rod_identity : RodOperation
rod_identity = rod_translation (pos 0)

-- a small operation: matrix entries at most 500 in size, and a translation of at most 2^40 parts
pub record IsRodSmall (m : RodOperation) : Type 0 where
  pub matrix : IsMatrix2Within 500 m.matrix
  pub translation : IsWithin (2 ^ 40) m.translation

-- whether two operations are equal
abbrev pub same_rod : RodOperation → RodOperation → Bool
same_rod m n = same_matrix2 m.matrix n.matrix && same_sign m.along n.along && int_eq m.translation n.translation

-- the motion of space: A across the third axis, e along it, and the translation along it
abbrev pub rod_block : RodOperation → Motion
rod_block m = record {
  matrix = record {
    first = record { x = m.matrix.first.x; y = m.matrix.first.y; z = pos 0 };
    second = record { x = m.matrix.second.x; y = m.matrix.second.y; z = pos 0 };
    third = record { x = pos 0; y = pos 0; z = sign_value m.along };
  };
  translation = record { x = pos 0; y = pos 0; z = m.translation };
}
