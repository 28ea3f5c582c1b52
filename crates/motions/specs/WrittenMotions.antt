-- The motions that coordinate triplets and pairs such as -x+1/2,y,-z write, as the tables of types name their generators: parts
-- with commas between them, each of signed letters and then, where it has one, a signed fraction of two digits.
use Prim.Native.Char.{code}
use Rattle.std.specs.Prelude.{ℕ, ◌-◌, ◌==◌, ℤ, pos, negsuc, ◌*ℤ◌, int_div, if◌then◌else◌, List, [], ◌∷◌, slice_index_or}
use Rattle.std.specs.List.{slice_split}
use Rattle.fractions.specs.declared.part.TheConstants.{UNIT}
use Rattle.motions.specs.declared.motion.Sign.{Sign}
use Rattle.motions.specs.declared.motion.Sign.TheVariants.{Plus, Minus}
use Rattle.motions.specs.Signs.{sign_value}
use Rattle.motions.specs.PlaneMatrices.{Matrix2}
use Rattle.motions.specs.Layers.{PlanarMotion}
use Rattle.motions.specs.RodMotions.{RodOperation}
use Rattle.motions.specs.FriezeMotions.{FriezeOperation}

-- multiples of x, y and z, and a number of parts of a cell edge
pub record Sum : Type 0 where
  pub x : ℤ
  pub y : ℤ
  pub z : ℤ
  pub translation : ℤ

-- a fraction n/d of a cell edge, in parts
abbrev pub fraction_of : List ℕ → ℤ
fraction_of (n ∷ _ ∷ d ∷ []) = int_div (pos (n - code "0") *ℤ UNIT) (pos (d - code "0"))
fraction_of _ = pos 0

-- a number of parts alone
abbrev number : ℤ → Sum
number t = record { x = pos 0; y = pos 0; z = pos 0; translation = t }

-- the sum of the terms, of which the first has this sign
abbrev pub sum_of : Sign → List ℕ → Sum
sum_of s [] = number (pos 0)
sum_of s (c ∷ cs) =
    if c == code "+" then sum_of Plus cs else
    if c == code "-" then sum_of Minus cs else
    if c == code "x" then record (sum_of s cs) { x = sign_value s } else
    if c == code "y" then record (sum_of s cs) { y = sign_value s } else
    if c == code "z" then record (sum_of s cs) { z = sign_value s } else
    number (sign_value s *ℤ fraction_of (c ∷ cs))

-- what the part at a place says
abbrev pub part_sum : List ℕ → ℕ → Sum
part_sum text i = sum_of Plus (slice_index_or (slice_split (λ c. c == code ",") text) i [])

-- the sign of 1 or -1
abbrev sign_of : ℤ → Sign
sign_of (pos n) = Plus
sign_of (negsuc n) = Minus

-- the matrix in the plane
abbrev plane_matrix : Sum → Sum → Matrix2
plane_matrix p q = record { first = record { x = p.x; y = p.y }; second = record { x = q.x; y = q.y } }

-- a triplet as a motion of a layer
abbrev pub planar_written : List ℕ → PlanarMotion
planar_written text =
    let first = part_sum text 0 in
    let second = part_sum text 1 in
    record {
      matrix = plane_matrix first second;
      side = sign_of (part_sum text 2).z;
      translation = record { x = pos 2 *ℤ first.translation; y = pos 2 *ℤ second.translation };
    }

-- a triplet as a motion along the third axis
abbrev pub rod_written : List ℕ → RodOperation
rod_written text =
    let third = part_sum text 2 in
    record { matrix = plane_matrix (part_sum text 0) (part_sum text 1); along = sign_of third.z; translation = third.translation }

-- a pair as a motion along the first axis
abbrev pub frieze_written : List ℕ → FriezeOperation
frieze_written text =
    let first = part_sum text 0 in
    record { along = sign_of first.x; across = sign_of (part_sum text 1).y; translation = first.translation }
