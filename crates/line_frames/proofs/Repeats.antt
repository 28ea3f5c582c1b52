-- The lattice repeats along the lines by the least multiple of (k,-h) in it.
use Rattle.std.proofs.Common.{◌≡◌, inl, zero, suc, ℤ, pos, negsuc, ◌+ℤ◌, ◌-ℤ◌, ◌*ℤ◌, ◌≤ℤ◌, ◌<ℤ◌, refl, subst, lit<, arith}
use Rattle.std.proofs.lemmas.Int.{ints}
use Rattle.fractions.specs.declared.part.TheConstants.{UNIT}
use Rattle.integers.proofs.Division.{floor}
use Rattle.symmetry.specs.Vectors.{Vector, multiple, plus}
use Rattle.symmetry.specs.Groups.{Listing, IsInLattice}
use Rattle.symmetry.proofs.LatticeLaws.{lattice-made, lattice-minus, lattice-plus, lattice-multiple}
use Rattle.symmetry.proofs.VectorLaws.{vector_path}
use Rattle.line_frames.specs.Searches.{along_lines, IsRepeat}
use Rattle.line_frames.proofs.Along.{along_lines-minus, multiple-along_lines}

-- a vector of whole edges of the plane is in the lattice
pub edges_inside : (g : Listing) (x y : ℤ) → IsInLattice g (record { x = UNIT *ℤ x; y = UNIT *ℤ y; z = pos 0 })
unfolding plus multiple
edges_inside g x y =
    subst (IsInLattice g) (vector_path (go x y) (go' x y) (none x y))
    (lattice-plus g _ _ (lattice-multiple g x _ (lattice-made g _ (inl (0, lit< tt, refl)))) (lattice-multiple g y _ (lattice-made g _ (inl (1, lit< tt, refl)))))
  where
    go : (x y : ℤ) → x *ℤ UNIT +ℤ y *ℤ pos 0 ≡ UNIT *ℤ x
    go x y = omega (arith, ints)

    go' : (x y : ℤ) → x *ℤ pos 0 +ℤ y *ℤ UNIT ≡ UNIT *ℤ y
    go' x y = omega (arith, ints)

    none : (x y : ℤ) → x *ℤ pos 0 +ℤ y *ℤ pos 0 ≡ pos 0
    none x y = omega (arith, ints)

-- at the latest it repeats by whole edges
pub repeats_by_edges : (g : Listing) (r : Vector) → ((m : ℤ) → pos 1 ≤ℤ m → m <ℤ UNIT → ¬ IsInLattice g (along_lines r m)) → IsRepeat g r UNIT
repeats_by_edges g r least = record {
  from = omega (arith, ints);
  most = omega (arith, ints);
  inside = edges_inside g r.y (pos 0 -ℤ r.x);
  least = least;
}

module _ (g : Listing) (r : Vector) (n : ℤ) (repeat : IsRepeat g r n) where
  -- (k,-h) times a multiple of n is in it
  pub multiples_inside : (q : ℤ) → IsInLattice g (along_lines r (q *ℤ n))
  multiples_inside q = subst (IsInLattice g) (multiple-along_lines r q n) (lattice-multiple g q (along_lines r n) repeat.inside)

  -- and no other
  pub multiple_of_repeat : (m : ℤ) → IsInLattice g (along_lines r m) → (q : ℤ) × (m ≡ q *ℤ n)
  multiple_of_repeat m h =
      let (q, from, below) = floor m n repeat.from in
      let rest : IsInLattice g (along_lines r (m -ℤ q *ℤ n)) =
      subst (IsInLattice g) (along_lines-minus r m (q *ℤ n)) (lattice-minus g (along_lines r m) (along_lines r (q *ℤ n)) h (multiples_inside q)) in
      let same : n *ℤ q ≡ q *ℤ n = omega (arith, ints) in
      (q, only (m -ℤ q *ℤ n) m (q *ℤ n) (omega (arith, ints, from, same)) (omega (arith, ints, below, same)) (omega (arith, ints)) rest)
    where
      only : (s m k : ℤ) → pos 0 ≤ℤ s → s <ℤ n → s ≡ m -ℤ k → IsInLattice g (along_lines r s) → m ≡ k
      only (pos zero) m k from below is h = omega (arith, ints, is)
      only (pos (suc s)) m k from below is h = absurd (repeat.least (pos (suc s)) (omega (arith, ints)) below h)
      only (negsuc s) m k from below is h = absurd (omega (arith, ints, from))
