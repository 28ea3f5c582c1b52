-- Reduced frames.
use Rattle.std.specs.Prelude.{ℤ, pos, ◌*◌, ◌≤ℤ◌, nat_abs, List}
use Rattle.integers.specs.Size.{IsWithin}
use Rattle.symmetry.specs.Vectors.{Vector}
use Rattle.symmetry.specs.Motions.{Motion}
use Rattle.symmetry.specs.Groups.{Listing}
use Rattle.symmetry.specs.Frames.{Basis, IsFrame, combination}
use Rattle.symmetry.specs.Lists.{AreScanning}
use Rattle.reduction.specs.Forms.{form_value}

-- i a + j b + tau
abbrev pub tau_and : Basis → ℤ → ℤ → Vector
tau_and f i j = combination f (record { x = i; y = j; z = pos 1 })

-- reduced by the form Q: 2 |Q(a,b)| <= Q(a,a) <= Q(b,b), and no tau + i a + j b with i and j from -1 to 1 is shorter than tau
pub record IsReduced (Q : Vector → Vector → ℤ) (f : Basis) : Type 0 where
  pub pair : pos (2 * nat_abs (Q f.a f.b)) ≤ℤ Q f.a f.a
  pub order : Q f.a f.a ≤ℤ Q f.b f.b
  pub tau : (i j : ℤ) → IsWithin 1 i → IsWithin 1 j → Q f.tau f.tau ≤ℤ Q (tau_and f i j) (tau_and f i j)

-- a frame of the group and the orientation, reduced by the sum of (W u).(W v) over the scanning operations
pub record IsReducedFrame (g : Listing) (r : Vector) (f : Basis) : Type 0 where
  pub is_frame : IsFrame g r f
  pub scanning : List Motion
  pub are_scanning : AreScanning g r scanning
  pub reduced : IsReduced (form_value scanning) f
