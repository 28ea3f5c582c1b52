-- How large the entries of a sheared operation are.
use Rattle.std.proofs.Common.{◌≡◌, ℕ, ◌+◌, ◌*◌, ℤ, pos, neg_ℤ, ◌+ℤ◌, ◌-ℤ◌, ◌*ℤ◌, ◌≤ℤ◌, ◌<ℤ◌, ◌^◌, ◌≤◌, arith, lit≤, lit<, ap, subst, sym, ◌∙◌}
use Rattle.std.proofs.lemmas.Int.{ints}
use Rattle.integers.specs.Size.{IsWithin}
use Rattle.integers.proofs.Coded.{again, again_is}
use Rattle.integers.proofs.Ring.{IsWithin-mul, IsWithin-neg}
use Rattle.fractions.specs.Parts.{edge}
use Rattle.symmetry.specs.Vectors.{Matrix, Vector, dot, image, multiple, plus, product, row_times}
use Rattle.symmetry.specs.Motions.{Motion, followed_by}
use Rattle.symmetry.proofs.MatrixLaws.{image-origin}
use Rattle.symmetry.proofs.VectorLaws.{origin-plus}
use Rattle.symmetry.specs.Sizes.{IsMatrixWithin, IsSmall, IsVectorWithin}
use Rattle.motions.specs.ListedSizes.{IsSmallWithin}
use Rattle.symmetry.proofs.Sizes.{IsMatrixWithin-more, IsVectorWithin-more}
use Rattle.motions.specs.declared.motion.Sign.{Sign}
use Rattle.motions.specs.declared.motion.Sign.TheVariants.{Plus, Minus}
use Rattle.motions.specs.Signs.{sign_value}
use Rattle.motions.specs.Layers.{IsBlockForm, PlanarMotion, block_matrix}
use Rattle.motions.specs.PlaneSizes.{IsMatrix2Within}
use Rattle.layer_types.specs.Lattices.{IsReduced}
use Rattle.sample.specs.Shears.{shear, sheared}
use Rattle.sample.proofs.Conjugates.{linear}

module _ (j : ℤ) (within : IsWithin 2 j) where
  -- j and -j, as the code hands them on
  pub there_again : again j ≡ j
  there_again = again_is j 2 within (lit< tt)

  pub back_again : again (pos 0 -ℤ again j) ≡ neg_ℤ j
  back_again = ap (λ k. again (pos 0 -ℤ k)) there_again ∙ again_is (pos 0 -ℤ j) 2 (record { most = omega (arith, ints, within.most) }) (lit< tt) ∙ omega (arith, ints)

  -- a row with entries of at most 3 times the matrix back
  row_back : (r : Vector) → IsVectorWithin 3 r → IsVectorWithin 9 (row_times r (shear (neg_ℤ j)))
  unfolding plus multiple
  row_back r h =
      let x = h.x.most in
      let y = h.y.most in
      let z = h.z.most in
      let product = (IsWithin-mul h.x (IsWithin-neg within)).most in
      record { x = record { most = omega (arith, ints) }; y = record { most = omega (arith, ints) }; z = record { most = omega (arith, ints) } }

  matrix_back : (m : Matrix) → IsMatrixWithin 3 m → IsMatrixWithin 9 (product m (shear (neg_ℤ j)))
  matrix_back m h = record { first = row_back m.first h.first; second = row_back m.second h.second; third = row_back m.third h.third }

  entry : (n : ℕ) (a b c : ℤ) → IsWithin n a → IsWithin n c → IsWithin (n + 2 * n) (pos 1 *ℤ a +ℤ pos 0 *ℤ b +ℤ j *ℤ c)
  entry n a b c h l =
      let x = h.most in
      let product = (IsWithin-mul within l).most in
      record { most = omega (arith, ints) }

  first_row : (m : Matrix) → IsMatrixWithin 1 m → IsVectorWithin 3 (row_times (shear j).first m)
  unfolding plus multiple
  first_row m h = record {
    x = entry 1 m.first.x m.second.x m.third.x h.first.x h.third.x;
    y = entry 1 m.first.y m.second.y m.third.y h.first.y h.third.y;
    z = entry 1 m.first.z m.second.z m.third.z h.first.z h.third.z;
  }

  alone : (n : ℕ) (a b c : ℤ) → IsWithin n b → IsWithin (n + 2 * n) (pos 0 *ℤ a +ℤ pos 1 *ℤ b +ℤ pos 0 *ℤ c)
  alone n a b c h = let x = h.most in record { most = omega (arith, ints) }

  last : (n : ℕ) (a b c : ℤ) → IsWithin n c → IsWithin (n + 2 * n) (pos 0 *ℤ a +ℤ pos 0 *ℤ b +ℤ pos 1 *ℤ c)
  last n a b c h = let x = h.most in record { most = omega (arith, ints) }

  matrix_there : (m : Matrix) → IsMatrixWithin 1 m → IsMatrixWithin 3 (product (shear j) m)
  unfolding plus multiple
  matrix_there m h = record {
    first = first_row m h;
    second = record {
      x = alone 1 m.first.x m.second.x m.third.x h.second.x;
      y = alone 1 m.first.y m.second.y m.third.y h.second.y;
      z = alone 1 m.first.z m.second.z m.third.z h.second.z;
    };
    third = record {
      x = last 1 m.first.x m.second.x m.third.x h.third.x;
      y = last 1 m.first.y m.second.y m.third.y h.third.y;
      z = last 1 m.first.z m.second.z m.third.z h.third.z;
    };
  }

  shift_there : (n : ℕ) (v : Vector) → IsVectorWithin n v → IsVectorWithin (n + 2 * n) (image (shear j) v)
  unfolding dot
  shift_there n v h = record { x = entry n v.x v.y v.z h.x h.z; y = alone n v.x v.y v.z h.y; z = last n v.x v.y v.z h.z }

  module _ (m : Motion) (matrix : IsMatrixWithin 1 m.matrix) (shift : IsVectorWithin (2 ^ 30) m.translation) where
    -- first back, then the operation
    pub stepped_small : IsSmall (followed_by (linear (shear (neg_ℤ j))) m)
    stepped_small = record {
      matrix = IsMatrixWithin-more (matrix_back m.matrix (IsMatrixWithin-more matrix (lit≤ tt))) (lit≤ tt);
      translation = subst (IsVectorWithin (2 ^ 40)) (sym (ap (λ v. plus v m.translation) (image-origin m.matrix) ∙ origin-plus m.translation)) (IsVectorWithin-more shift (lit≤ tt));
    }

    pub sheared_small : IsSmallWithin 50 (sheared j m)
    sheared_small =
        let entries = matrix_back (product (shear j) m.matrix) (matrix_there m.matrix matrix) in
        record {
          small = record { matrix = IsMatrixWithin-more entries (lit≤ tt); translation = IsVectorWithin-more (shift_there (2 ^ 30) m.translation shift) (lit≤ tt) };
          matrix = IsMatrixWithin-more entries (lit≤ tt);
        }

-- the block form of an operation of a layer type
pub block_within : (p : PlanarMotion) → IsMatrix2Within 1 p.matrix → IsMatrixWithin 1 (block_matrix p)
block_within p h = record {
  first = record { x = h.first.x; y = h.first.y; z = record { most = lit≤ tt } };
  second = record { x = h.second.x; y = h.second.y; z = record { most = lit≤ tt } };
  third = record { x = record { most = lit≤ tt }; y = record { most = lit≤ tt }; z = sign_within p.side };
}
  where
    sign_within : (s : Sign) → IsWithin 1 (sign_value s)
    sign_within Plus = record { most = lit≤ tt }
    sign_within Minus = record { most = lit≤ tt }

pub block_shift_within : (p : PlanarMotion) (b : Motion) → IsBlockForm p b → IsReduced p.translation → IsVectorWithin (2 ^ 30) b.translation
block_shift_within p b k h = record {
  x = half_within p.translation.x b.translation.x k.x h.x_least h.x_below;
  y = half_within p.translation.y b.translation.y k.y h.y_least h.y_below;
  z = subst (IsWithin (2 ^ 30)) (sym k.z) (record { most = lit≤ tt });
}
  where
    half_within : (z x : ℤ) → z ≡ pos 2 *ℤ x → pos 0 ≤ℤ z → z <ℤ edge → IsWithin (2 ^ 30) x
    half_within z x e from below = record { most = omega (arith, ints, e, from, below) }
