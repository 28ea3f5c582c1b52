-- Proofs that rod motions meet the laws of `PartialEq`, `Eq` and `Motion`. They stand here since an `impl` cites them.
use Rattle.std.proofs.Common.{◌≡◌, ◌↔◌, ◌&&◌, IsTrue, pos, ◌*ℤ◌, ap, sym, ◌∙◌, refl}
use Rattle.std.specs.Ordering.{int_eq}
use Rattle.std.specs.Cmp.Derive.{both_true}
use Rattle.std.specs.Cmp.{first_so, second_so, IsEquivalence, both_ways}
use Rattle.std.proofs.lemmas.Bool.Decides.{Decides-int_eq}
use Rattle.integers.proofs.Ring.{add_zero, one_mul}
use Rattle.quotient.specs.Kind.{IsMonoid}
use Rattle.motions.specs.Signs.{same_sign}
use Rattle.motions.specs.Laws.SignLaws.{same_sign-is, sign_product_assoc, sign_product-plus}
use Rattle.motions.specs.PlaneMatrices.{same_matrix2}
use Rattle.motions.specs.Laws.PlaneMatrixLaws.{product2-unit_left, product2-unit_right, product2_assoc, same_matrix2-is}
use Rattle.motions.specs.Laws.LineLaws.{along_assoc, along_from_zero}
use Rattle.motions.specs.RodMotions.{RodOperation, rod_followed_by, rod_identity, same_rod}

pub rod_path : {m n : RodOperation} → m.matrix ≡ n.matrix → m.along ≡ n.along → m.translation ≡ n.translation → m ≡ n
rod_path p q s = λ i. record { matrix = p i; along = q i; translation = s i }

-- ---- equality

pub same_rod-is : (m n : RodOperation) → IsTrue (same_rod m n) ↔ (m ≡ n)
same_rod-is m n =
    let matrix = same_matrix2 m.matrix n.matrix in
    let along = same_sign m.along n.along in
    let shift = int_eq m.translation n.translation in (
      λ t.
          let form = first_so (matrix && along) shift t in
          rod_path ((same_matrix2-is m.matrix n.matrix).0 (first_so matrix along form)) ((same_sign-is m.along n.along).0 (second_so matrix along form))
          ((Decides-int_eq m.translation n.translation).0 (second_so (matrix && along) shift t)),
      λ e.
          both_true (both_true ((same_matrix2-is m.matrix n.matrix).1 (ap (λ (k : RodOperation). k.matrix) e))
          ((same_sign-is m.along n.along).1 (ap (λ (k : RodOperation). k.along) e)))
          ((Decides-int_eq m.translation n.translation).1 (ap (λ (k : RodOperation). k.translation) e)),
    )

pub same_rod_laws : IsEquivalence same_rod
same_rod_laws = record {
  refl = λ m. (same_rod-is m m).1 refl;
  symm = λ m n. both_ways (same_rod m n) (same_rod n m)
      (λ t. (same_rod-is n m).1 (sym ((same_rod-is m n).0 t))) (λ t. (same_rod-is m n).1 (sym ((same_rod-is n m).0 t)));
  congr = λ k m n e. ap (λ j. same_rod j n) ((same_rod-is k m).0 e);
}

-- ---- products

pub rod_laws : IsMonoid rod_followed_by rod_identity
rod_laws = record {
  assoc = λ a b c.
      rod_path (sym (product2_assoc c.matrix b.matrix a.matrix)) (sym (sign_product_assoc c.along b.along a.along))
      (along_assoc b.along c.along a.translation b.translation c.translation);
  one_left = λ a. rod_path (product2-unit_right a.matrix) (sign_product-plus a.along) (along_from_zero a.along a.translation);
  one_right = λ a. rod_path (product2-unit_left a.matrix) refl (add_zero (pos 1 *ℤ a.translation) ∙ one_mul a.translation);
}
