-- The limits of a request.
use Rattle.std.specs.Prelude.{ℕ, zero, suc, ◌*◌, ◌/◌, ◌%◌, ◌&&◌, ◌==◌, nat_le, if◌then◌else◌, Bool, true, false, ℤ, pos, ◌+ℤ◌, neg_ℤ, int_lt, Option, Some, None, option_map, Result, Ok, Err, unsigned_abs}
use Rattle.std.specs.Ordering.{int_eq}
use Rattle.integers.specs.Size.{IsWithin}
use Rattle.fractions.specs.declared.part.TheConstants.{UNIT}
use Rattle.fractions.specs.Fraction.{Fraction}
use Rattle.fractions.specs.LowestTerms.{gcd}
use Rattle.fractions.specs.Fractions.{Fractions}
use Rattle.symmetry.specs.Vectors.{Vector}
use Rattle.symmetry.specs.Frames.{Basis}
use Rattle.motions.specs.declared.miller.TheConstants.{INDEX}
use Rattle.motions.specs.declared.miller.PlaneFault.{PlaneFault}
use Rattle.motions.specs.declared.miller.PlaneFault.TheVariants as planes
use Rattle.requests.specs.declared.refusal.Refusal.{Refusal}
use Rattle.requests.specs.declared.refusal.Refusal.TheVariants.{FourIndex, OutOfRange, AllZero, NotCoprime, FrameLimit, HeightLimit}
use Rattle.requests.specs.Words.{all_three, FrameWords, Indices}

-- whether the three numbers are at most INDEX in size
abbrev pub are_small_indices : Vector → Bool
are_small_indices row =
    nat_le (unsigned_abs row.x) (unsigned_abs INDEX) && nat_le (unsigned_abs row.y) (unsigned_abs INDEX) && nat_le (unsigned_abs row.z) (unsigned_abs INDEX)

-- what is wrong with numbers that have this greatest common divisor
abbrev pub divisor_fault : ℕ → Option PlaneFault
divisor_fault zero = Some planes.AllZero
divisor_fault (suc zero) = None
divisor_fault (suc (suc n)) = Some (planes.NotCoprime (pos (suc (suc n))))

-- what is wrong with three numbers that are no Miller indices
unfoldable pub plane_fault : Vector → Option PlaneFault
plane_fault row =
    if are_small_indices row then divisor_fault (gcd (gcd (unsigned_abs row.x) (unsigned_abs row.y)) (unsigned_abs row.z)) else Some planes.OutOfRange

-- a size over a denominator in parts: the denominator divides UNIT, and it is at most 1,000
unfoldable pub size_parts : ℕ → ℕ → Option ℤ
size_parts size den =
    let unit = unsigned_abs UNIT in
    if unit % den == 0 && nat_le size (1000 * den) then Some (pos (size * (unit / den))) else None

-- an entry of a frame vector in parts: its size, with its sign
abbrev pub entry_parts : Fraction → Option ℤ
entry_parts q = option_map (λ size. if int_lt q.num (pos 0) then neg_ℤ size else size) (size_parts (unsigned_abs q.num) (unsigned_abs q.den))

-- a frame vector in parts
abbrev pub vector_parts : Fractions → Option Vector
vector_parts v = all_three (λ x y z. record { x = x; y = y; z = z }) (entry_parts v.x) (entry_parts v.y) (entry_parts v.z)

-- the three cell edges
abbrev pub edges_basis : Basis
edges_basis = record {
  a = record { x = UNIT; y = pos 0; z = pos 0 };
  b = record { x = pos 0; y = UNIT; z = pos 0 };
  tau = record { x = pos 0; y = pos 0; z = UNIT };
}

-- the vectors that the words give, in parts, or the cell edges
abbrev pub basis_parts : Option FrameWords → Option Basis
basis_parts None = Some edges_basis
basis_parts (Some f) = all_three (λ a b tau. record { a = a; b = b; tau = tau }) (vector_parts f.a) (vector_parts f.b) (vector_parts f.tau)

-- numerator and denominator are at most 10^9 in size
pub record IsHeightInRange (s : Fraction) : Type 0 where
  pub num : IsWithin 1000000000 s.num
  pub den : IsWithin 1000000000 s.den

-- whether they are
abbrev pub is_height_in_range : Fraction → Bool
is_height_in_range s = nat_le (unsigned_abs s.num) 1000000000 && nat_le (unsigned_abs s.den) 1000000000

-- the same, where a height is given
abbrev pub is_height_limit : Option Fraction → Bool
is_height_limit None = true
is_height_limit (Some s) = is_height_in_range s

abbrev pub IsHeightLimit : Option Fraction → Type 0
IsHeightLimit None = Unit {0}
IsHeightLimit (Some s) = IsHeightInRange s

-- what words say of a plane: its indices, the vectors of a frame and a height, where they have them
pub record PlaneWords : Type 0 where
  pub indices : Indices
  pub frame : Option FrameWords
  pub height : Option Fraction

-- an orientation and the vectors of a frame
pub record Planes : Type 0 where
  pub row : Vector
  pub basis : Basis

-- whether i is -(h+k), where it is given: h + k + i is 0
abbrev pub is_third : Vector → Option ℤ → Bool
is_third row None = true
is_third row (Some i) = int_eq (row.x +ℤ row.y +ℤ i) (pos 0)

-- the refusal of indices that are no Miller indices
abbrev pub plane_refusal : PlaneFault → Refusal
plane_refusal planes.OutOfRange = OutOfRange
plane_refusal planes.AllZero = AllZero
plane_refusal (planes.NotCoprime g) = NotCoprime g

-- the row, if i is right and it is that of a plane, with the vectors, if they are in range, and the height is, else the first
-- that is wrong
abbrev pub first_limit : Vector → Bool → Option PlaneFault → Option Basis → Bool → Result Planes Refusal
first_limit row false fault basis height = Err FourIndex
first_limit row true (Some fault) basis height = Err (plane_refusal fault)
first_limit row true None None height = Err FrameLimit
first_limit row true None (Some basis) false = Err HeightLimit
first_limit row true None (Some basis) true = Ok (record { row = row; basis = basis })

-- the orientation and the frame of the words, or the first limit that they pass
abbrev pub within_limits : PlaneWords → Result Planes Refusal
within_limits w =
    let row = w.indices.row in
    first_limit row (is_third row w.indices.third) (plane_fault row) (basis_parts w.frame) (is_height_limit w.height)
