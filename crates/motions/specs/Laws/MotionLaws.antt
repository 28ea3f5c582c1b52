-- Proofs that motions meet the laws of `PartialEq`, `Eq` and `Motion`. They stand here since an `impl` cites them.
use Rattle.std.proofs.Common.{◌≡◌, ◌↔◌, ◌^◌, ◌≤◌, ◌&&◌, IsTrue, sym, ap, refl, lit≤}
use Rattle.std.specs.Ordering.{int_eq}
use Rattle.std.specs.Cmp.Derive.{both_true}
use Rattle.std.specs.Cmp.{first_so, second_so, IsEquivalence, both_ways}
use Rattle.std.proofs.lemmas.Bool.Decides.{Decides-int_eq}
use Rattle.integers.proofs.Ring.{IsWithin-add, IsWithin-more}
use Rattle.quotient.specs.Kind.{IsMonoid}
use Rattle.symmetry.specs.Vectors.{Vector, Matrix, plus}
use Rattle.symmetry.specs.Motions.{Motion, followed_by, identity}
use Rattle.symmetry.specs.Frames.{same_vector}
use Rattle.symmetry.specs.Sizes.{IsVectorWithin, IsSmall}
use Rattle.symmetry.proofs.VectorLaws.{vector_path}
use Rattle.symmetry.proofs.Sizes.{dot_within}
use Rattle.symmetry.proofs.MatrixLaws.{matrix_path}
use Rattle.symmetry.proofs.MotionLaws.{motion_path, followed_by-assoc, followed_by-identity, identity-followed_by}
use Rattle.motions.specs.Equality.{same_matrix, same_motion}

-- ---- equality

pub same_vector-is : (v w : Vector) → IsTrue (same_vector v w) ↔ (v ≡ w)
same_vector-is v w = (from, λ e. to (ap (λ (u : Vector). u.x) e) (ap (λ (u : Vector). u.y) e) (ap (λ (u : Vector). u.z) e))
  where
    from : IsTrue (same_vector v w) → v ≡ w
    from t =
        let xy = first_so (int_eq v.x w.x && int_eq v.y w.y) (int_eq v.z w.z) t in
        vector_path ((Decides-int_eq v.x w.x).0 (first_so (int_eq v.x w.x) (int_eq v.y w.y) xy))
        ((Decides-int_eq v.y w.y).0 (second_so (int_eq v.x w.x) (int_eq v.y w.y) xy))
        ((Decides-int_eq v.z w.z).0 (second_so (int_eq v.x w.x && int_eq v.y w.y) (int_eq v.z w.z) t))

    to : v.x ≡ w.x → v.y ≡ w.y → v.z ≡ w.z → IsTrue (same_vector v w)
    to x y z = both_true (both_true ((Decides-int_eq v.x w.x).1 x) ((Decides-int_eq v.y w.y).1 y)) ((Decides-int_eq v.z w.z).1 z)

pub same_matrix-is : (m n : Matrix) → IsTrue (same_matrix m n) ↔ (m ≡ n)
same_matrix-is m n = (from, λ e. to (ap (λ (a : Matrix). a.first) e) (ap (λ (a : Matrix). a.second) e) (ap (λ (a : Matrix). a.third) e))
  where
    from : IsTrue (same_matrix m n) → m ≡ n
    from t =
        let first = same_vector m.first n.first in
        let second = same_vector m.second n.second in
        let third = same_vector m.third n.third in
        let two = first_so (first && second) third t in
        matrix_path ((same_vector-is m.first n.first).0 (first_so first second two))
        ((same_vector-is m.second n.second).0 (second_so first second two))
        ((same_vector-is m.third n.third).0 (second_so (first && second) third t))

    to : m.first ≡ n.first → m.second ≡ n.second → m.third ≡ n.third → IsTrue (same_matrix m n)
    to x y z =
        both_true (both_true ((same_vector-is m.first n.first).1 x) ((same_vector-is m.second n.second).1 y)) ((same_vector-is m.third n.third).1 z)

pub same_motion-is : (m n : Motion) → IsTrue (same_motion m n) ↔ (m ≡ n)
same_motion-is m n = (from, λ e. to (ap (λ (a : Motion). a.matrix) e) (ap (λ (a : Motion). a.translation) e))
  where
    from : IsTrue (same_motion m n) → m ≡ n
    from t =
        let matrix = same_matrix m.matrix n.matrix in
        let shift = same_vector m.translation n.translation in
        motion_path ((same_matrix-is m.matrix n.matrix).0 (first_so matrix shift t)) ((same_vector-is m.translation n.translation).0 (second_so matrix shift t))

    to : m.matrix ≡ n.matrix → m.translation ≡ n.translation → IsTrue (same_motion m n)
    to p q = both_true ((same_matrix-is m.matrix n.matrix).1 p) ((same_vector-is m.translation n.translation).1 q)

pub same_motion_laws : IsEquivalence same_motion
same_motion_laws = record {
  refl = λ m. (same_motion-is m m).1 refl;
  symm = λ m n. symmetric m n;
  congr = λ k m n e. ap (λ j. same_motion j n) ((same_motion-is k m).0 e);
}
  where
    symmetric : (m n : Motion) → same_motion m n ≡ same_motion n m
    symmetric m n =
        both_ways (same_motion m n) (same_motion n m)
        (λ t. (same_motion-is n m).1 (sym ((same_motion-is m n).0 t))) (λ t. (same_motion-is m n).1 (sym ((same_motion-is n m).0 t)))

-- ---- products

pub followed_by_laws : IsMonoid followed_by identity
followed_by_laws = record { assoc = followed_by-assoc; one_left = identity-followed_by; one_right = followed_by-identity }

-- ---- sizes

pub identity_within : IsVectorWithin 0 identity.translation
identity_within = record { x = record { most = lit≤ tt }; y = record { most = lit≤ tt }; z = record { most = lit≤ tt } }

-- the product of two small motions has translations of at most 2^52
pub followed_by_within : (m n : Motion) → IsSmall m → IsSmall n → IsVectorWithin (2 ^ 52) (followed_by m n).translation
unfolding plus
followed_by_within m n h k = record {
  x = IsWithin-more (IsWithin-add (dot_within k.matrix.first h.translation) k.translation.x) (lit≤ tt);
  y = IsWithin-more (IsWithin-add (dot_within k.matrix.second h.translation) k.translation.y) (lit≤ tt);
  z = IsWithin-more (IsWithin-add (dot_within k.matrix.third h.translation) k.translation.z) (lit≤ tt);
}
