-- How short the two vectors of a pair are, and their sum and difference.
use Rattle.std.proofs.Common.{ℕ, ◌*◌, ◌≤◌, ℤ, pos, negsuc, ◌+ℤ◌, ◌*ℤ◌, ◌≤ℤ◌, sym, subst, lit≤, arith}
use Rattle.std.proofs.lemmas.Int.{ints}
use Rattle.integers.specs.Size.{IsWithin}
use Rattle.integers.proofs.Order.{le_pos-more, lt-le_trans}
use Rattle.symmetry.specs.Vectors.{Vector, Matrix}
use Rattle.symmetry.specs.Sizes.{IsVectorWithin}
use Rattle.symmetry.specs.Frames.{Basis}
use Rattle.symmetry.proofs.Sizes.{dot_within, image_within}
use Rattle.reduction.specs.Bounds.{largest_begun, largest_short, largest_twice}
use Rattle.reduction.specs.Forms.{by_form, IsForm, IsShort, IsUnshortened, Shortens}
use Rattle.reduction.specs.LatticeBases.{combined}
use Rattle.reduction.specs.Pairs.{IsShortPair}
use Rattle.reduction.proofs.Shortening.{form-combined}
use Rattle.reduction.proofs.Unshortened.{above, below}

module _ (g : Matrix) where
  pub short : (v : Vector) → by_form g v v ≤ℤ pos largest_begun → IsShort g v
  short v h = record { most = le_pos-more (by_form g v v) largest_begun (largest_short * largest_short) h (lit≤ tt) }

  -- a shorter vector is as short
  pub shorter : (v w u : Vector) → by_form g v v ≤ℤ pos largest_begun → Shortens g v w u → by_form g u u ≤ℤ pos largest_begun
  shorter v w u h s = let l = s.less in lt-le_trans (by_form g u u) (by_form g v v) (pos largest_begun) l h

-- the sum and the difference of a pair of which the first does not shorten the second
module _ (g : Matrix) (form : IsForm g) (f : Basis) (pair : IsShortPair g f) (first : IsUnshortened g f.b f.a) where
  three : (x : ℤ) → x ≤ℤ pos (3 * largest_begun) → x ≤ℤ pos (largest_short * largest_short)
  three x h = le_pos-more x (3 * largest_begun) (largest_short * largest_short) h (lit≤ tt)

  within_three : (p q r : ℤ) (n : ℕ) → p ≤ℤ pos n → r ≤ℤ pos n → (pos 2 *ℤ q) ≤ℤ p → (negsuc 1 *ℤ q) ≤ℤ p
      → ((p +ℤ pos 1 *ℤ (pos 2 *ℤ q +ℤ pos 1 *ℤ r)) ≤ℤ pos (3 * n)) × ((p +ℤ negsuc 0 *ℤ (pos 2 *ℤ q +ℤ negsuc 0 *ℤ r)) ≤ℤ pos (3 * n))
  within_three p q r n hp hr h k = (omega (arith, ints), omega (arith, ints))

  both : ((by_form g f.a f.a +ℤ pos 1 *ℤ (pos 2 *ℤ by_form g f.a f.b +ℤ pos 1 *ℤ by_form g f.b f.b)) ≤ℤ pos (3 * largest_begun))
      × ((by_form g f.a f.a +ℤ negsuc 0 *ℤ (pos 2 *ℤ by_form g f.a f.b +ℤ negsuc 0 *ℤ by_form g f.b f.b)) ≤ℤ pos (3 * largest_begun))
  both =
      within_three (by_form g f.a f.a) (by_form g f.a f.b) (by_form g f.b f.b) largest_begun pair.a pair.b
      (subst (λ z. (pos 2 *ℤ z) ≤ℤ by_form g f.a f.a) (form.symmetric f.b f.a) (above g form f.b f.a first))
      (subst (λ z. (negsuc 1 *ℤ z) ≤ℤ by_form g f.a f.a) (form.symmetric f.b f.a) (below g form f.b f.a first))

  pub short_sum : IsShort g (combined (pos 1) f.a (pos 1) f.b)
  short_sum = record { most = three _ (subst (λ z. z ≤ℤ pos (3 * largest_begun)) (sym (form-combined g form f.a f.b (pos 1))) both.0) }

  pub short_difference : IsShort g (combined (pos 1) f.a (negsuc 0) f.b)
  short_difference = record { most = three _ (subst (λ z. z ≤ℤ pos (3 * largest_begun)) (sym (form-combined g form f.a f.b (negsuc 0))) both.1) }

-- ---- the vectors that the reduction begins with

pub begins_short : (g : Matrix) (v : Vector) → IsForm g → IsVectorWithin largest_twice v → by_form g v v ≤ℤ pos largest_begun
begins_short g v form h = go _ _ largest_begun (dot_within h (image_within form.small h)) (lit≤ tt)
  where
    go : (m : ℕ) (x : ℤ) (n : ℕ) → IsWithin m x → m ≤ n → x ≤ℤ pos n
    go m x n h k = let l = h.most in omega (arith, ints)
