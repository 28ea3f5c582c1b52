-- How large the translation at home is, modulo the axis of a rod frame.
use Rattle.std.proofs.Common.{◌≡◌, ℕ, zero, suc, ◌+◌, ◌*◌, ◌/◌, ◌≤◌, ◌^◌, ℤ, pos, negsuc, ◌-ℤ◌, ◌*ℤ◌, ◌≤ℤ◌, ◌<ℤ◌, nat_abs, arith, lit≤}
use Rattle.std.specs.Prelude.{unsigned_abs}
use Rattle.std.proofs.lemmas.Int.{ints}
use Rattle.std.proofs.Math.Nat.{mul-le-mul}
use Rattle.fractions.specs.declared.part.TheConstants.{UNIT}
use Rattle.integers.specs.Size.{IsWithin}
use Rattle.integers.proofs.Ring.{IsWithin-add, IsWithin-mul, IsWithin-more, IsWithin-sub, abs-mul}
use Rattle.symmetry.specs.Vectors.{Vector, plus, multiple, dot, cross}
use Rattle.symmetry.specs.Frames.{Basis}
use Rattle.symmetry.specs.Sizes.{IsVectorWithin}
use Rattle.closure.specs.declared.lattice.TheConstants.{MAX_RESIDUES}
use Rattle.plane_lattice.specs.Bounds.{largest_entry, largest_cross}
use Rattle.plane_lattice.specs.Coordinates.{volume}
use Rattle.plane_lattice.specs.Laws.QuotientLaws.{div_euclid_from, div_euclid_below}
use Rattle.penetration.specs.RodHomes.{rod_home_shift, whole_turns}

-- the cell of the edges, in parts
abbrev edge_cell : ℕ
edge_cell = unsigned_abs UNIT * unsigned_abs UNIT * unsigned_abs UNIT

-- (a x b).v for a vector of at most 2^23 parts
abbrev largest_along : ℕ
largest_along = 3 * (largest_cross * 2 ^ 23)

-- how many whole axes such a vector has
abbrev pub largest_turns : ℕ
largest_turns = MAX_RESIDUES * largest_along / edge_cell + 1

cross_within : {a b : Vector} → IsVectorWithin largest_entry a → IsVectorWithin largest_entry b → IsVectorWithin largest_cross (cross a b)
unfolding cross
cross_within ha hb = record {
  x = IsWithin-more (IsWithin-sub (IsWithin-mul ha.y hb.z) (IsWithin-mul ha.z hb.y)) (lit≤ tt);
  y = IsWithin-more (IsWithin-sub (IsWithin-mul ha.z hb.x) (IsWithin-mul ha.x hb.z)) (lit≤ tt);
  z = IsWithin-more (IsWithin-sub (IsWithin-mul ha.x hb.y) (IsWithin-mul ha.y hb.x)) (lit≤ tt);
}

along_within : {l v : Vector} → IsVectorWithin largest_cross l → IsVectorWithin (2 ^ 23) v → IsWithin largest_along (dot l v)
unfolding dot
along_within hl hv = IsWithin-more (IsWithin-add (IsWithin-add (IsWithin-mul hl.x hv.x) (IsWithin-mul hl.y hv.y)) (IsWithin-mul hl.z hv.z)) (lit≤ tt)

-- a quotient rounded down, by a volume that is not small
turns_within : (s v q : ℤ) → pos 1 ≤ℤ v → pos 0 ≤ℤ (s -ℤ v *ℤ q) → (s -ℤ v *ℤ q) <ℤ v → IsWithin largest_along s
    → (UNIT *ℤ UNIT *ℤ UNIT) ≤ℤ (pos MAX_RESIDUES *ℤ v) → IsWithin largest_turns q
turns_within s v q positive from below small large = record { most = by (nat_abs q) (abs-mul v q) }
  where
    by : (n : ℕ) → nat_abs (v *ℤ q) ≡ nat_abs v * n → n ≤ largest_turns
    by zero e = omega arith
    by (suc n) e =
        let left : n * nat_abs v ≤ largest_along = omega (arith, ints, e, small.most) in
        let cells : edge_cell ≤ MAX_RESIDUES * nat_abs v = omega (arith, ints, large) in
        let same : n ≤ n = omega arith in
        let more : n * edge_cell ≤ n * (MAX_RESIDUES * nat_abs v) = mul-le-mul same cells in
        omega (arith, more, left)

pub rod_home_within : (f : Basis) → pos 1 ≤ℤ volume f → (UNIT *ℤ UNIT *ℤ UNIT) ≤ℤ (pos MAX_RESIDUES *ℤ volume f) → IsVectorWithin largest_entry f.a → IsVectorWithin largest_entry f.b
    → IsVectorWithin largest_entry f.tau → (v : Vector) → IsVectorWithin (2 ^ 23) v → IsVectorWithin (2 ^ 62) (rod_home_shift f v)
unfolding plus multiple
rod_home_within f positive large a b tau v small =
    let s = dot (cross f.a f.b) v in
    let turns : IsWithin largest_turns (whole_turns f v) =
    turns_within s (volume f) (whole_turns f v) positive (div_euclid_from s (volume f) positive) (div_euclid_below s (volume f) positive)
    (along_within (cross_within a b) small) large in
    record {
      x = IsWithin-more (IsWithin-add small.x (IsWithin-mul (minus_one) (IsWithin-mul turns tau.x))) (lit≤ tt);
      y = IsWithin-more (IsWithin-add small.y (IsWithin-mul (minus_one) (IsWithin-mul turns tau.y))) (lit≤ tt);
      z = IsWithin-more (IsWithin-add small.z (IsWithin-mul (minus_one) (IsWithin-mul turns tau.z))) (lit≤ tt);
    }
  where
    minus_one : IsWithin 1 (negsuc 0)
    minus_one = record { most = lit≤ tt }
