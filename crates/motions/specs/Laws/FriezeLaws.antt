-- Proofs that frieze motions meet the laws of `Motion`. They stand here since an `impl` cites them.
use Rattle.std.proofs.Common.{◌≡◌, ◌↔◌, ◌&&◌, IsTrue, pos, ◌*ℤ◌, ap, sym, ◌∙◌, refl}
use Rattle.std.specs.Ordering.{int_eq}
use Rattle.std.specs.Cmp.Derive.{both_true}
use Rattle.std.specs.Cmp.{first_so, second_so, IsEquivalence, both_ways}
use Rattle.std.proofs.lemmas.Bool.Decides.{Decides-int_eq}
use Rattle.integers.proofs.Ring.{add_zero, one_mul}
use Rattle.quotient.specs.Kind.{IsMonoid}
use Rattle.motions.specs.Signs.{same_sign}
use Rattle.motions.specs.Laws.SignLaws.{same_sign-is, sign_product_assoc, sign_product-plus}
use Rattle.motions.specs.Laws.LineLaws.{along_assoc, along_from_zero}
use Rattle.motions.specs.FriezeMotions.{FriezeOperation, frieze_followed_by, frieze_identity, same_frieze}

pub frieze_path : {m n : FriezeOperation} → m.along ≡ n.along → m.across ≡ n.across → m.translation ≡ n.translation → m ≡ n
frieze_path p q s = λ i. record { along = p i; across = q i; translation = s i }

-- ---- equality

pub same_frieze-is : (m n : FriezeOperation) → IsTrue (same_frieze m n) ↔ (m ≡ n)
same_frieze-is m n =
    let along = same_sign m.along n.along in
    let across = same_sign m.across n.across in
    let shift = int_eq m.translation n.translation in (
      λ t.
          let signs = first_so (along && across) shift t in
          frieze_path ((same_sign-is m.along n.along).0 (first_so along across signs)) ((same_sign-is m.across n.across).0 (second_so along across signs))
          ((Decides-int_eq m.translation n.translation).0 (second_so (along && across) shift t)),
      λ e.
          both_true (both_true ((same_sign-is m.along n.along).1 (ap (λ (k : FriezeOperation). k.along) e))
          ((same_sign-is m.across n.across).1 (ap (λ (k : FriezeOperation). k.across) e)))
          ((Decides-int_eq m.translation n.translation).1 (ap (λ (k : FriezeOperation). k.translation) e)),
    )

pub same_frieze_laws : IsEquivalence same_frieze
same_frieze_laws = record {
  refl = λ m. (same_frieze-is m m).1 refl;
  symm = λ m n. both_ways (same_frieze m n) (same_frieze n m)
      (λ t. (same_frieze-is n m).1 (sym ((same_frieze-is m n).0 t))) (λ t. (same_frieze-is m n).1 (sym ((same_frieze-is n m).0 t)));
  congr = λ k m n e. ap (λ j. same_frieze j n) ((same_frieze-is k m).0 e);
}

-- ---- the laws

pub frieze_laws : IsMonoid frieze_followed_by frieze_identity
frieze_laws = record {
  assoc = λ a b c.
      frieze_path (sym (sign_product_assoc c.along b.along a.along)) (sym (sign_product_assoc c.across b.across a.across))
      (along_assoc b.along c.along a.translation b.translation c.translation);
  one_left = λ a. frieze_path (sign_product-plus a.along) (sign_product-plus a.across) (along_from_zero a.along a.translation);
  one_right = λ a. frieze_path refl refl (add_zero (pos 1 *ℤ a.translation) ∙ one_mul a.translation);
}
