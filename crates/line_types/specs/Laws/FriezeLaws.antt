-- Proofs that frieze motions meet the laws of operations along a line. They stand here since an `impl` cites them.
use Rattle.std.proofs.Common.{refl, ◌+ℤ◌, ap}
use Rattle.integers.proofs.Ring.{one_mul}
use Rattle.motions.specs.Laws.SignLaws.{sign_product-plus}
use Rattle.motions.specs.Laws.FriezeLaws.{frieze_laws, frieze_path, same_frieze-is}
use Rattle.line_types.specs.Laws.LineLaws.{LineLaws}
use Rattle.line_types.specs.Friezes.{frieze_line}

pub frieze_line_laws : LineLaws frieze_line
frieze_line_laws = record {
  monoid = frieze_laws;
  origin = refl;
  after = λ m t. frieze_path refl refl (ap (λ s. s +ℤ t) (one_mul m.translation));
  before = λ m t. frieze_path (sign_product-plus m.along) (sign_product-plus m.across) refl;
  shift_of = λ m t. refl;
  once = λ m s t. refl;
  kept = λ m. refl;
  translations = λ s t. refl;
  translated = λ t. refl;
  entries = λ m t. refl;
  same = same_frieze-is;
  small = λ m h k. k;
}
