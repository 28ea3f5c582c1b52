-- The vectors of the sample's frames.
use Rattle.std.proofs.Common.{◌≡◌, ◌⊎◌, ℕ, ◌*◌, ℤ, pos, negsuc, ◌+ℤ◌, ◌-ℤ◌, ◌*ℤ◌, ◌<ℤ◌, Bool, true, false, inl, inr, refl, ap, arith, unsigned_abs}
use Rattle.std.proofs.lemmas.Int.{ints}
use Rattle.fractions.specs.declared.part.TheConstants.{UNIT}
use Rattle.integers.specs.Size.{IsWithin}
use Rattle.fractions.specs.Parts.{half_an_edge}
use Rattle.symmetry.specs.Vectors.{Matrix, Vector, cross, dot, image, multiple, plus}
use Rattle.symmetry.specs.Frames.{combination}
use Rattle.symmetry.specs.Sizes.{IsMatrixWithin, IsVectorWithin}
use Rattle.symmetry.proofs.VectorLaws.{vector_path}
use Rattle.plane_lattice.specs.Coordinates.{IsCombination}
use Rattle.sample.specs.SampleGroups.{sample_frame, upright}
use Rattle.sample.proofs.Lattices.{InCell, centring_in_cell}

-- ---- they are in the lattice

pub a_in_cell : (c : Bool) → InCell c (sample_frame c).a
a_in_cell true = centring_in_cell true refl
a_in_cell false = inl (record { x = record { times = pos 1; is = refl }; y = record { times = pos 0; is = refl }; z = record { times = pos 0; is = refl } })

pub b_in_cell : (c : Bool) → InCell c (sample_frame c).b
unfolding plus multiple
b_in_cell true = inr (refl, record { x = record { times = negsuc 0; is = refl }; y = record { times = pos 0; is = refl }; z = record { times = pos 0; is = refl } })
b_in_cell false = inl (record { x = record { times = pos 0; is = refl }; y = record { times = pos 1; is = refl }; z = record { times = pos 0; is = refl } })

pub tau_in_cell : (c : Bool) → InCell c (sample_frame c).tau
tau_in_cell c = inl (record { x = record { times = pos 0; is = refl }; y = record { times = pos 0; is = refl }; z = record { times = pos 1; is = refl } })

-- ---- they are oriented

pub a_in_plane : (c : Bool) → dot upright (sample_frame c).a ≡ pos 0
unfolding dot
a_in_plane true = refl
a_in_plane false = refl

pub b_in_plane : (c : Bool) → dot upright (sample_frame c).b ≡ pos 0
unfolding dot
b_in_plane true = refl
b_in_plane false = refl

pub tau_above : (c : Bool) → pos 0 <ℤ dot upright (sample_frame c).tau
unfolding dot
tau_above c = omega (arith, ints)

pub right_handed : (c : Bool) → (k : ℤ) × (pos 0 <ℤ k) × (cross (sample_frame c).a (sample_frame c).b ≡ multiple k upright)
unfolding cross multiple
right_handed true = (pos 2 *ℤ half_an_edge *ℤ half_an_edge, omega (arith, ints), refl)
right_handed false = (UNIT *ℤ UNIT, omega (arith, ints), refl)

-- ---- they span the lattice

pub cell_combined : (c : Bool) (v : Vector) → InCell c v → IsCombination (sample_frame c) v
unfolding plus multiple
cell_combined false v (inl w) = (
  record { x = w.x.times; y = w.y.times; z = w.z.times },
  vector_path (omega (arith, ints, w.x.is)) (omega (arith, ints, w.y.is)) (omega (arith, ints, w.z.is)),
)
cell_combined false v (inr (t, w)) = cc
cell_combined true v (inl w) = (
  record { x = w.x.times +ℤ w.y.times; y = w.y.times -ℤ w.x.times; z = w.z.times },
  vector_path (omega (arith, ints, w.x.is)) (omega (arith, ints, w.y.is)) (omega (arith, ints, w.z.is)),
)
cell_combined true v (inr (t, w)) = (
  record { x = w.x.times +ℤ w.y.times +ℤ pos 1; y = w.y.times -ℤ w.x.times; z = w.z.times },
  vector_path (omega (arith, ints, w.x.is)) (omega (arith, ints, w.y.is)) (omega (arith, ints, w.z.is)),
)

-- ---- no operation skews them

-- a row with entries of at most 50 takes each to at most 50 edges
abbrev most : ℕ
most = 50 * unsigned_abs UNIT

taken_a : (c : Bool) (r : Vector) → IsVectorWithin 50 r → IsWithin most (dot r (sample_frame c).a)
unfolding dot
taken_a true r h = let x = h.x.most in let y = h.y.most in record { most = omega (arith, ints) }
taken_a false r h = let x = h.x.most in record { most = omega (arith, ints) }

taken_b : (c : Bool) (r : Vector) → IsVectorWithin 50 r → IsWithin most (dot r (sample_frame c).b)
unfolding dot
taken_b true r h = let x = h.x.most in let y = h.y.most in record { most = omega (arith, ints) }
taken_b false r h = let y = h.y.most in record { most = omega (arith, ints) }

taken_tau : (c : Bool) (r : Vector) → IsVectorWithin 50 r → IsWithin most (dot r (sample_frame c).tau)
unfolding dot
taken_tau c r h = let z = h.z.most in record { most = omega (arith, ints) }

-- and a combination that is such a vector has small coefficients
near : (c : Bool) (k v : Vector) → combination (sample_frame c) k ≡ v → IsVectorWithin most v → IsVectorWithin 500 k
unfolding plus multiple
near true k v e h =
    let ex = ap (λ (u : Vector). u.x) e in
    let ey = ap (λ (u : Vector). u.y) e in
    let ez = ap (λ (u : Vector). u.z) e in
    let x = h.x.most in
    let y = h.y.most in
    let z = h.z.most in
    record { x = record { most = omega (arith, ints) }; y = record { most = omega (arith, ints) }; z = record { most = omega (arith, ints) } }
near false k v e h =
    let ex = ap (λ (u : Vector). u.x) e in
    let ey = ap (λ (u : Vector). u.y) e in
    let ez = ap (λ (u : Vector). u.z) e in
    let x = h.x.most in
    let y = h.y.most in
    let z = h.z.most in
    record { x = record { most = omega (arith, ints) }; y = record { most = omega (arith, ints) }; z = record { most = omega (arith, ints) } }

pub not_far : (c : Bool) (w : Matrix) → IsMatrixWithin 50 w → (k : Vector)
    → (combination (sample_frame c) k ≡ image w (sample_frame c).a)
    ⊎ ((combination (sample_frame c) k ≡ image w (sample_frame c).b) ⊎ (combination (sample_frame c) k ≡ image w (sample_frame c).tau))
    → IsVectorWithin 500 k
not_far c w h k (inl e) = near c k _ e (record { x = taken_a c w.first h.first; y = taken_a c w.second h.second; z = taken_a c w.third h.third })
not_far c w h k (inr (inl e)) = near c k _ e (record { x = taken_b c w.first h.first; y = taken_b c w.second h.second; z = taken_b c w.third h.third })
not_far c w h k (inr (inr e)) = near c k _ e (record { x = taken_tau c w.first h.first; y = taken_tau c w.second h.second; z = taken_tau c w.third h.third })
