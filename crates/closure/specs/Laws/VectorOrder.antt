-- The laws of the lexicographic order of vectors. Proofs: they stand here since an `impl` cites them.
use Rattle.std.proofs.Common.{◌≡◌, false, IsTrue, refl, sym, ap, ◌∙◌, ℤ}
use Rattle.std.specs.Cmp.{IsTotalOrder}
use Rattle.std.specs.declared.cmp.Ordering.{Ordering}
use Rattle.std.specs.declared.cmp.Ordering.TheVariants.{Less, Equal, Greater}
use Rattle.std.specs.Ordering.{int_cmp, is_lt, ordering_then, ordering_reverse}
use Rattle.std.proofs.lemmas.Cmp.{int_cmp_total, int_ranked, on_total, then_total}
use Rattle.symmetry.specs.Vectors.{Vector}
use Rattle.symmetry.proofs.VectorLaws.{vector_path}
use Rattle.closure.specs.Residues.{vector_cmp, is_before}

pub vector_cmp_total : IsTotalOrder vector_cmp
vector_cmp_total = then_total (on_total (λ (v : Vector). v.x) int_cmp_total) (then_total (on_total (λ (v : Vector). v.y) int_cmp_total) (on_total (λ (v : Vector). v.z) int_cmp_total))

-- entries that are neither less nor greater are equal
int_cmp_equal : (x y : ℤ) → int_cmp x y ≡ Equal → x ≡ y
int_cmp_equal x y e = int_ranked x y Equal (sym e)

both_equal : (o p : Ordering) → ordering_then o p ≡ Equal → (o ≡ Equal) × (p ≡ Equal)
both_equal Less p e = cc
both_equal Equal p e = (refl, e)
both_equal Greater p e = cc

pub vector_cmp_equal : (v w : Vector) → vector_cmp v w ≡ Equal → v ≡ w
vector_cmp_equal v w e =
    let p = both_equal (int_cmp v.x w.x) (ordering_then (int_cmp v.y w.y) (int_cmp v.z w.z)) e in
    let q = both_equal (int_cmp v.y w.y) (int_cmp v.z w.z) p.1 in
    vector_path (int_cmp_equal v.x w.x p.0) (int_cmp_equal v.y w.y q.0) (int_cmp_equal v.z w.z q.1)

-- of two vectors that are not equal, one comes before the other
pub before_from_not : (v w : Vector) → is_before w v ≡ false → ¬ (v ≡ w) → IsTrue (is_before v w)
before_from_not v w e n = go (vector_cmp w v) refl e
  where
    go : (o : Ordering) → vector_cmp w v ≡ o → is_lt o ≡ false → IsTrue (is_before v w)
    go Less q f = cc
    go Equal q f = absurd (n (sym (vector_cmp_equal w v q)))
    go Greater q f = ap is_lt (vector_cmp_total.antisymm v w ∙ ap ordering_reverse q)
