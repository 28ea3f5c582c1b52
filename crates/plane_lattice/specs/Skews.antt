-- Operations that skew a frame.
use Rattle.std.specs.Prelude.{◌≡◌, ◌⊎◌}
use Rattle.symmetry.specs.Vectors.{Vector, image}
use Rattle.symmetry.specs.Motions.{Motion}
use Rattle.symmetry.specs.Sizes.{IsVectorWithin}
use Rattle.symmetry.specs.Frames.{Basis, combination, KeepsOrientation}

-- the vector is a combination with a coefficient above 500 in size
abbrev pub IsFar : Basis → Vector → Type 0
IsFar f v = (c : Vector) × (combination f c ≡ v) × ¬ IsVectorWithin 500 c

-- the operation keeps the orientation, and takes a, b or tau to such a vector
pub record Skews (r : Vector) (f : Basis) (m : Motion) : Type 0 where
  pub scanning : KeepsOrientation r m
  pub far : IsFar f (image m.matrix f.a) ⊎ (IsFar f (image m.matrix f.b) ⊎ IsFar f (image m.matrix f.tau))
