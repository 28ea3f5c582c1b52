-- What tells on finitely many vectors that three vectors are a frame.
use Rattle.std.specs.Prelude.{◌≡◌, ℤ, pos, ◌<ℤ◌}
use Rattle.symmetry.specs.Vectors.{Vector, dot}
use Rattle.symmetry.specs.Groups.{Listing, Generates, IsInLattice}
use Rattle.symmetry.specs.Frames.{Basis, IsRightHanded, combination}

-- a and b lie in the plane, tau points above it, and a and b are right-handed seen from there
pub record IsOriented (r : Vector) (f : Basis) : Type 0 where
  pub a_in_plane : dot r f.a ≡ pos 0
  pub b_in_plane : dot r f.b ≡ pos 0
  pub tau_above : pos 0 <ℤ dot r f.tau
  pub right_handed : IsRightHanded r f

-- a, b and tau are in the lattice, lie in the plane, lie in the plane and point above it, are right-handed, and what the lattice is made of are whole combinations of them
pub record PassesFrameTests (g : Listing) (r : Vector) (f : Basis) : Type 0 where
  pub a_in : IsInLattice g f.a
  pub b_in : IsInLattice g f.b
  pub tau_in : IsInLattice g f.tau
  pub a_in_plane : dot r f.a ≡ pos 0
  pub b_in_plane : dot r f.b ≡ pos 0
  pub tau_above : pos 0 <ℤ dot r f.tau
  pub right_handed : IsRightHanded r f
  pub combined : (v : Vector) → Generates g v → (c : Vector) × (combination f c ≡ v)
