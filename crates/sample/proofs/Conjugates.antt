-- Products of operations in sheared coordinates.
use Rattle.std.proofs.Common.{◌≡◌, ℤ, neg_ℤ, sym, ap, ◌∙◌, arith}
use Rattle.std.proofs.lemmas.Int.{ints}
use Rattle.symmetry.specs.Vectors.{Matrix, Vector, image, multiple, origin, plus, product, unit_matrix}
use Rattle.symmetry.specs.Motions.{Motion, followed_by, identity}
use Rattle.symmetry.proofs.VectorLaws.{origin-plus, plus-origin, vector_path}
use Rattle.symmetry.proofs.MatrixLaws.{image-origin, image-plus, image-product, matrix_path, product-unit_left, product-unit_right, product_assoc}
use Rattle.symmetry.proofs.MotionLaws.{motion_path}
use Rattle.sample.specs.Shears.{shear, sheared}

-- a matrix as a motion that leaves the origin
abbrev pub linear : Matrix → Motion
linear m = record { matrix = m; translation = origin }

module _ (j : ℤ) where
  abbrev pub S : Matrix
  S = shear j

  abbrev pub T : Matrix
  T = shear (neg_ℤ j)

  pub sheared_back : product T S ≡ unit_matrix
  unfolding plus multiple
  sheared_back =
      matrix_path
      (vector_path (omega (arith, ints)) (omega (arith, ints)) (omega (arith, ints)))
      (vector_path (omega (arith, ints)) (omega (arith, ints)) (omega (arith, ints)))
      (vector_path (omega (arith, ints)) (omega (arith, ints)) (omega (arith, ints)))

  there_and_back : product S T ≡ unit_matrix
  unfolding plus multiple
  there_and_back =
      matrix_path
      (vector_path (omega (arith, ints)) (omega (arith, ints)) (omega (arith, ints)))
      (vector_path (omega (arith, ints)) (omega (arith, ints)) (omega (arith, ints)))
      (vector_path (omega (arith, ints)) (omega (arith, ints)) (omega (arith, ints)))

  -- first back, then the operation, then into the new coordinates
  pub sheared_steps : (m : Motion) → followed_by (followed_by (linear T) m) (linear S) ≡ sheared j m
  sheared_steps m =
      motion_path (sym (product_assoc S m.matrix T))
      (plus-origin (image S (plus (image m.matrix origin) m.translation)) ∙ ap (image S) (ap (λ v. plus v m.translation) (image-origin m.matrix) ∙ origin-plus m.translation))

  -- (A T) (S B) is A B
  between : (A B : Matrix) → product (product A T) (product S B) ≡ product A B
  between A B =
      product_assoc A T (product S B)
      ∙ ap (product A) (sym (product_assoc T S B) ∙ ap (λ m. product m B) sheared_back ∙ product-unit_left B)

  -- a sheared matrix takes S v to S (W v)
  pub image-sheared : (m : Matrix) (v : Vector) → image (product (product S m) T) (image S v) ≡ image S (image m v)
  image-sheared m v =
      sym (image-product (product (product S m) T) S v)
      ∙ ap (λ w. image w v) (product_assoc (product S m) T S ∙ ap (product (product S m)) sheared_back ∙ product-unit_right (product S m))
      ∙ image-product S m v

  pub sheared-followed_by : (m n : Motion) → followed_by (sheared j m) (sheared j n) ≡ sheared j (followed_by m n)
  sheared-followed_by m n =
      motion_path
      (ap (product (product (product S n.matrix) T)) (product_assoc S m.matrix T)
      ∙ between (product S n.matrix) (product m.matrix T)
      ∙ product_assoc S n.matrix (product m.matrix T)
      ∙ ap (product S) (sym (product_assoc n.matrix m.matrix T))
      ∙ sym (product_assoc S (product n.matrix m.matrix) T))
      (ap (λ v. plus v (image S n.translation)) (image-sheared n.matrix m.translation) ∙ sym (image-plus S (image n.matrix m.translation) n.translation))

  pub sheared-identity : sheared j identity ≡ identity
  sheared-identity = motion_path (ap (λ m. product m T) (product-unit_right S) ∙ there_and_back) (image-origin S)
