-- Three arrays of numbers as three vectors.
use Rattle.symmetry.specs.Frames.{Basis}
use Rattle.motions.specs.Views.{vector_of}
use Rattle.reduction.specs.declared.lattice_basis.LatticeBasis.{LatticeBasis}

-- the three vectors that a LatticeBasis is
abbrev pub vectors_of : LatticeBasis → Basis
vectors_of s = record { a = vector_of s.a; b = vector_of s.b; tau = vector_of s.tau }
