-- Proofs that rod motions meet the laws of operations along a line. They stand here since an `impl` cites them.
use Rattle.std.proofs.Common.{pos, ◌+ℤ◌, ◌^◌, All, ap, refl, lit≤}
use Rattle.integers.specs.Size.{IsWithin}
use Rattle.integers.proofs.Ring.{one_mul, IsWithin-more}
use Rattle.motions.specs.Laws.SignLaws.{sign_product-plus}
use Rattle.motions.specs.Laws.PlaneMatrixLaws.{product2-unit_left, product2-unit_right}
use Rattle.motions.specs.RodMotions.{IsRodSmall, RodOperation}
use Rattle.motions.specs.Laws.RodLaws.{rod_laws, rod_path, same_rod-is}
use Rattle.line_types.specs.Laws.LineLaws.{LineLaws}
use Rattle.line_types.specs.Rods.{rod_entries, rod_line}

small_rod : (m : RodOperation) → All (IsWithin 1) (rod_entries m) → IsWithin (2 ^ 40) m.translation → IsRodSmall m
small_rod m h k = record {
  matrix = record {
    first = record { x = IsWithin-more (h 0 (pos 0) (lit≤ tt)) (lit≤ tt); y = IsWithin-more (h 1 (pos 0) (lit≤ tt)) (lit≤ tt) };
    second = record { x = IsWithin-more (h 3 (pos 0) (lit≤ tt)) (lit≤ tt); y = IsWithin-more (h 4 (pos 0) (lit≤ tt)) (lit≤ tt) };
  };
  translation = k;
}

pub rod_line_laws : LineLaws rod_line
rod_line_laws = record {
  monoid = rod_laws;
  origin = refl;
  after = λ m t. rod_path (product2-unit_left m.matrix) refl (ap (λ s. s +ℤ t) (one_mul m.translation));
  before = λ m t. rod_path (product2-unit_right m.matrix) (sign_product-plus m.along) refl;
  shift_of = λ m t. refl;
  once = λ m s t. refl;
  kept = λ m. refl;
  translations = λ s t. refl;
  translated = λ t. refl;
  entries = λ m t. refl;
  same = same_rod-is;
  small = small_rod;
}
