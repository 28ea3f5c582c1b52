-- Symmetry operations in the coordinates x + j z, y, z.
use Rattle.std.specs.Prelude.{ℤ, pos, neg_ℤ}
use Rattle.symmetry.specs.Vectors.{Matrix, image, product}
use Rattle.symmetry.specs.Motions.{Motion}

-- the matrix S of the change of coordinates: x + j z, y, z
abbrev pub shear : ℤ → Matrix
shear j = record {
  first = record { x = pos 1; y = pos 0; z = j };
  second = record { x = pos 0; y = pos 1; z = pos 0 };
  third = record { x = pos 0; y = pos 0; z = pos 1 };
}

-- the operation (W, w) in the new coordinates: (S W S^-1, S w)
abbrev pub sheared : ℤ → Motion → Motion
sheared j m = record {
  matrix = product (product (shear j) m.matrix) (shear (neg_ℤ j));
  translation = image (shear j) m.translation;
}
