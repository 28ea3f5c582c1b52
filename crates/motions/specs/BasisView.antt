-- The code's basis as three vectors.
use Rattle.motions.specs.declared.basis.Basis.{Basis}
use Rattle.symmetry.specs.Frames.{Basis as ThreeVectors}
use Rattle.motions.specs.Views.{parts}

-- the three vectors that a Basis is
abbrev pub basis_of : Basis → ThreeVectors
basis_of basis = record { a = parts basis.a; b = parts basis.b; tau = parts basis.tau }
