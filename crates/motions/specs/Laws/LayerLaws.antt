-- Proofs that motions of a layer meet the laws of `PartialEq`, `Eq` and `Motion`. They stand here since an `impl` cites them.
use Rattle.std.proofs.Common.{◌≡◌, ◌↔◌, ℕ, ◌&&◌, ◌^◌, ◌≤◌, ◌+◌, ◌*◌, IsTrue, sym, ap, ◌∙◌, refl, lit≤}
use Rattle.std.specs.Cmp.Derive.{both_true}
use Rattle.std.specs.Cmp.{first_so, second_so, IsEquivalence, both_ways}
use Rattle.integers.specs.Size.{IsWithin}
use Rattle.integers.proofs.Ring.{IsWithin-add, IsWithin-mul, IsWithin-more}
use Rattle.quotient.specs.Kind.{IsMonoid}
use Rattle.motions.specs.Signs.{same_sign}
use Rattle.motions.specs.Laws.SignLaws.{same_sign-is, sign_product_assoc, sign_product-plus}
use Rattle.motions.specs.PlaneMatrices.{Pair, dot2, image2, origin2, plus2, same_matrix2, same_pair}
use Rattle.motions.specs.Laws.PlaneMatrixLaws.{image2-origin, image2-plus, image2-product, image2-unit, origin-plus2, plus2-origin, plus2_assoc, product2-unit_left, product2-unit_right, product2_assoc, same_matrix2-is, same_pair-is}
use Rattle.motions.specs.PlaneSizes.{IsPairWithin}
use Rattle.motions.specs.Layers.{IsPlanarSmall, PlanarMotion, planar_followed_by, planar_identity, planar_translation, same_planar}

-- two motions are equal when their parts are
pub planar_path : {m n : PlanarMotion} → m.matrix ≡ n.matrix → m.side ≡ n.side → m.translation ≡ n.translation → m ≡ n
planar_path p q r = λ i. record { matrix = p i; side = q i; translation = r i }

-- ---- equality

pub same_planar-is : (m n : PlanarMotion) → IsTrue (same_planar m n) ↔ (m ≡ n)
same_planar-is m n = (from, λ e. to (ap (λ (a : PlanarMotion). a.matrix) e) (ap (λ (a : PlanarMotion). a.side) e) (ap (λ (a : PlanarMotion). a.translation) e))
  where
    from : IsTrue (same_planar m n) → m ≡ n
    from t =
        let matrix = same_matrix2 m.matrix n.matrix in
        let side = same_sign m.side n.side in
        let shift = same_pair m.translation n.translation in
        let two = first_so (matrix && side) shift t in
        planar_path ((same_matrix2-is m.matrix n.matrix).0 (first_so matrix side two)) ((same_sign-is m.side n.side).0 (second_so matrix side two))
        ((same_pair-is m.translation n.translation).0 (second_so (matrix && side) shift t))

    to : m.matrix ≡ n.matrix → m.side ≡ n.side → m.translation ≡ n.translation → IsTrue (same_planar m n)
    to p q r =
        both_true (both_true ((same_matrix2-is m.matrix n.matrix).1 p) ((same_sign-is m.side n.side).1 q)) ((same_pair-is m.translation n.translation).1 r)

pub same_planar_laws : IsEquivalence same_planar
same_planar_laws = record {
  refl = λ m. (same_planar-is m m).1 refl;
  symm = λ m n. symmetric m n;
  congr = λ k m n e. ap (λ j. same_planar j n) ((same_planar-is k m).0 e);
}
  where
    symmetric : (m n : PlanarMotion) → same_planar m n ≡ same_planar n m
    symmetric m n =
        both_ways (same_planar m n) (same_planar n m)
        (λ t. (same_planar-is n m).1 (sym ((same_planar-is m n).0 t))) (λ t. (same_planar-is m n).1 (sym ((same_planar-is n m).0 t)))

-- ---- products

planar_assoc : (k m n : PlanarMotion) → planar_followed_by (planar_followed_by k m) n ≡ planar_followed_by k (planar_followed_by m n)
planar_assoc k m n =
    planar_path (sym (product2_assoc n.matrix m.matrix k.matrix)) (sym (sign_product_assoc n.side m.side k.side))
    (ap (λ v. plus2 v n.translation) (image2-plus n.matrix (image2 m.matrix k.translation) m.translation)
    ∙ plus2_assoc (image2 n.matrix (image2 m.matrix k.translation)) (image2 n.matrix m.translation) n.translation
    ∙ ap (λ v. plus2 v (plus2 (image2 n.matrix m.translation) n.translation)) (sym (image2-product n.matrix m.matrix k.translation)))

-- the product with a translation on either side
pub followed_by-planar_translation : (m : PlanarMotion) (v : Pair)
    → planar_followed_by m (planar_translation v) ≡ record { matrix = m.matrix; side = m.side; translation = plus2 m.translation v }
followed_by-planar_translation m v = planar_path (product2-unit_left m.matrix) refl (ap (λ u. plus2 u v) (image2-unit m.translation))

pub planar_translation-followed_by : (m : PlanarMotion) (v : Pair)
    → planar_followed_by (planar_translation v) m ≡ record { matrix = m.matrix; side = m.side; translation = plus2 (image2 m.matrix v) m.translation }
planar_translation-followed_by m v = planar_path (product2-unit_right m.matrix) (sign_product-plus m.side) refl

followed_by-identity : (m : PlanarMotion) → planar_followed_by m planar_identity ≡ m
followed_by-identity m = followed_by-planar_translation m origin2 ∙ planar_path refl refl (plus2-origin m.translation)

identity-followed_by : (m : PlanarMotion) → planar_followed_by planar_identity m ≡ m
identity-followed_by m =
    planar_translation-followed_by m origin2
    ∙ planar_path refl refl (ap (λ u. plus2 u m.translation) (image2-origin m.matrix) ∙ origin-plus2 m.translation)

pub planar_followed_by_laws : IsMonoid planar_followed_by planar_identity
planar_followed_by_laws = record { assoc = planar_assoc; one_left = identity-followed_by; one_right = followed_by-identity }

-- ---- sizes

pub IsPairWithin-more : {m n : ℕ} {v : Pair} → IsPairWithin m v → m ≤ n → IsPairWithin n v
IsPairWithin-more h le = record { x = IsWithin-more h.x le; y = IsWithin-more h.y le }

pub planar_identity_within : IsPairWithin 0 planar_identity.translation
planar_identity_within = record { x = record { most = lit≤ tt }; y = record { most = lit≤ tt } }

dot2_within : {m n : ℕ} {r v : Pair} → IsPairWithin m r → IsPairWithin n v → IsWithin (m * n + m * n) (dot2 r v)
dot2_within h k = IsWithin-add (IsWithin-mul h.x k.x) (IsWithin-mul h.y k.y)

-- the product of two small motions has translations of at most 2^52
pub planar_followed_by_within : (m n : PlanarMotion) → IsPlanarSmall m → IsPlanarSmall n → IsPairWithin (2 ^ 52) (planar_followed_by m n).translation
planar_followed_by_within m n h k = record {
  x = IsWithin-more (IsWithin-add (dot2_within k.matrix.first h.translation) k.translation.x) (lit≤ tt);
  y = IsWithin-more (IsWithin-add (dot2_within k.matrix.second h.translation) k.translation.y) (lit≤ tt);
}
