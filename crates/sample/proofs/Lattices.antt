-- The lattice of a sheared group: the whole vectors, and for a centred type those with the centring vector added besides.
use Rattle.std.proofs.Common.{◌≡◌, ◌⊎◌, zero, suc, pos, ◌*ℤ◌, Bool, true, false, IsTrue, List, inl, inr, refl, sym, subst, arith, lit<}
use Rattle.std.specs.Prelude.{Contains}
use Rattle.std.proofs.lemmas.Int.{ints}
use Rattle.symmetry.specs.Vectors.{Vector, minus, multiple, opposite, origin, plus}
use Rattle.symmetry.specs.Motions.{Motion, translation}
use Rattle.symmetry.specs.Groups.{Generates, IsInLattice, Listing, added, subtracted, zero_vector}
use Rattle.symmetry.proofs.VectorLaws.{minus-plus, minus-same, vector_path}
use Rattle.symmetry.proofs.LatticeLaws.{lattice-made, lattice-plus}
use Rattle.motions.specs.PlaneMatrices.{Pair}
use Rattle.layer_types.specs.Lattices.{InLattice}
use Rattle.closure.specs.Fineness.{IsTooFine}
use Rattle.closure.specs.Residues.{IsWhole}
use Rattle.closure.specs.Laws.ResidueLaws.{whole-minus, whole-opposite, whole-origin, whole-plus}
use Rattle.closure.proofs.Spans.{lattice-whole}
use Rattle.closure.proofs.Made.{edge-whole}
use Rattle.sample.specs.SampleGroups.{centring, centrings}

-- a whole vector, or for a centred type one that has the centring vector added
abbrev pub InCell : Bool → Vector → Type 0
InCell c v = IsWhole v ⊎ (IsTrue c × IsWhole (minus v centring))

-- ---- sums and differences

twice_centring : IsWhole (plus centring centring)
unfolding plus
twice_centring = record { x = record { times = pos 1; is = refl }; y = record { times = pos 1; is = refl }; z = record { times = pos 0; is = refl } }

behind : (v w : Vector) → plus v (minus w centring) ≡ minus (plus v w) centring
unfolding plus multiple
behind v w = vector_path (omega (arith, ints)) (omega (arith, ints)) (omega (arith, ints))

before : (v w : Vector) → plus (minus v centring) w ≡ minus (plus v w) centring
unfolding plus multiple
before v w = vector_path (omega (arith, ints)) (omega (arith, ints)) (omega (arith, ints))

twice : (v w : Vector) → plus (plus (minus v centring) (minus w centring)) (plus centring centring) ≡ plus v w
unfolding plus multiple
twice v w = vector_path (omega (arith, ints)) (omega (arith, ints)) (omega (arith, ints))

turned : (v : Vector) → minus (opposite (minus v centring)) (plus centring centring) ≡ minus (opposite v) centring
unfolding plus multiple
turned v = vector_path (omega (arith, ints)) (omega (arith, ints)) (omega (arith, ints))

pub cell-plus : (c : Bool) (v w : Vector) → InCell c v → InCell c w → InCell c (plus v w)
cell-plus c v w (inl h) (inl k) = inl (whole-plus v w h k)
cell-plus c v w (inl h) (inr (t, k)) = inr (t, subst IsWhole (behind v w) (whole-plus v (minus w centring) h k))
cell-plus c v w (inr (t, h)) (inl k) = inr (t, subst IsWhole (before v w) (whole-plus (minus v centring) w h k))
cell-plus c v w (inr (t, h)) (inr (u, k)) =
    inl (subst IsWhole (twice v w)
    (whole-plus (plus (minus v centring) (minus w centring)) (plus centring centring) (whole-plus (minus v centring) (minus w centring) h k) twice_centring))

cell-opposite : (c : Bool) (v : Vector) → InCell c v → InCell c (opposite v)
cell-opposite c v (inl h) = inl (whole-opposite v h)
cell-opposite c v (inr (t, h)) =
    inr (t, subst IsWhole (turned v) (whole-minus (opposite (minus v centring)) (plus centring centring) (whole-opposite (minus v centring) h) twice_centring))

-- ---- the lattice

pub centring_alone : (c : Bool) (v : Vector) → Contains (centrings c) v → IsTrue c × (centring ≡ v)
centring_alone true v (zero, _, is) = (refl, is)
centring_alone true v (suc k, within, _) = absurd (omega arith)
centring_alone false v (k, within, _) = absurd (omega arith)

has_centring : (c : Bool) → IsTrue c → Contains (centrings c) centring
has_centring true t = (0, lit< tt, refl)
has_centring false t = cc

pub centring_in_cell : (c : Bool) → IsTrue c → InCell c centring
centring_in_cell c t = inr (t, subst IsWhole (sym (minus-same centring)) whole-origin)

-- operations with the centring vectors
abbrev pub with_centrings : Bool → List Motion → Listing
with_centrings c ops = record { ops = ops; centrings = centrings c }

-- the operations have no translation but 0
module _ (c : Bool) (ops : List Motion) (alone : (v : Vector) → Contains ops (translation v) → v ≡ origin) where
  abbrev listed : Listing
  listed = with_centrings c ops

  pub generator_in_cell : (v : Vector) → Generates (with_centrings c ops) v → InCell c v
  generator_in_cell v (inl edge) = inl (edge-whole v edge)
  generator_in_cell v (inr (inl is)) = let (t, e) = centring_alone c v is in subst (InCell c) e (centring_in_cell c t)
  generator_in_cell v (inr (inr is)) = inl (subst IsWhole (sym (alone v is)) whole-origin)

  pub lattice_in_cell : (v : Vector) → IsInLattice (with_centrings c ops) v → InCell c v
  lattice_in_cell _ zero_vector = inl whole-origin
  lattice_in_cell _ (added t v h made) = cell-plus c t v (lattice_in_cell t h) (generator_in_cell v made)
  lattice_in_cell _ (subtracted t v h made) = cell-plus c t (opposite v) (lattice_in_cell t h) (cell-opposite c v (generator_in_cell v made))

  pub cell_in_lattice : (v : Vector) → InCell c v → IsInLattice (with_centrings c ops) v
  cell_in_lattice v (inl h) = lattice-whole listed v h
  cell_in_lattice v (inr (t, h)) =
      subst (IsInLattice listed) (minus-plus v centring)
      (lattice-plus listed (minus v centring) centring (lattice-whole listed (minus v centring) h) (lattice-made listed centring (inr (inl (has_centring c t)))))

  -- ---- of three members two differ by a whole vector

  less_centring : (v w : Vector) → minus (minus v centring) (minus w centring) ≡ minus v w
  unfolding plus multiple
  less_centring v w = vector_path (omega (arith, ints)) (omega (arith, ints)) (omega (arith, ints))

  both_centred : (v w : Vector) → IsWhole (minus v centring) → IsWhole (minus w centring) → IsWhole (minus v w)
  both_centred v w h k = subst IsWhole (less_centring v w) (whole-minus (minus v centring) (minus w centring) h k)

  two_of_three : (u v w : Vector) → InCell c u → InCell c v → InCell c w → ¬ IsWhole (minus u v) → ¬ IsWhole (minus u w) → ¬ IsWhole (minus v w) → ⊥
  two_of_three u v w (inl h) (inl k) l p q r = p (whole-minus u v h k)
  two_of_three u v w (inl h) (inr k) (inl l) p q r = q (whole-minus u w h l)
  two_of_three u v w (inl h) (inr k) (inr l) p q r = r (both_centred v w k.1 l.1)
  two_of_three u v w (inr h) (inl k) (inl l) p q r = r (whole-minus v w k l)
  two_of_three u v w (inr h) (inl k) (inr l) p q r = q (both_centred u w h.1 l.1)
  two_of_three u v w (inr h) (inr k) l p q r = p (both_centred u v h.1 k.1)

  pub not_too_fine : ¬ IsTooFine (with_centrings c ops)
  not_too_fine f =
      let many = f.many in
      two_of_three _ _ _ (lattice_in_cell _ (f.inside 0 origin (omega (arith, many)))) (lattice_in_cell _ (f.inside 1 origin (omega (arith, many))))
      (lattice_in_cell _ (f.inside 2 origin (omega (arith, many))))
      (f.apart 0 1 origin (lit< tt) (omega (arith, many))) (f.apart 0 2 origin (lit< tt) (omega (arith, many))) (f.apart 1 2 origin (lit< tt) (omega (arith, many)))

-- ---- vectors of the plane, in half parts

pub flat_in_cell : (c : Bool) (p : Pair) (v : Vector) → InLattice c p → p.x ≡ pos 2 *ℤ v.x → p.y ≡ pos 2 *ℤ v.y → v.z ≡ pos 0 → InCell c v
unfolding plus multiple
flat_in_cell c p v (inl w) x y z = inl (record {
  x = record { times = w.a; is = omega (arith, ints, x, w.x) };
  y = record { times = w.b; is = omega (arith, ints, y, w.y) };
  z = record { times = pos 0; is = omega (arith, ints, z) };
})
flat_in_cell c p v (inr (t, w)) x y z = inr (t, centred)
  where
    centred : IsWhole (minus v centring)
    centred = record {
      x = record { times = w.a; is = omega (arith, ints, x, w.x) };
      y = record { times = w.b; is = omega (arith, ints, y, w.y) };
      z = record { times = pos 0; is = omega (arith, ints, z) };
    }
