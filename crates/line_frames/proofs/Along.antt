-- Vectors along lines are whole multiples of (k,-h).
use Rattle.std.proofs.Common.{◌≡◌, ℤ, pos, negsuc, ◌+ℤ◌, ◌-ℤ◌, ◌*ℤ◌, List, [], ◌∷◌, arith}
use Rattle.std.proofs.lemmas.Int.{ints}
use Rattle.integers.proofs.Solver.{Expr, Expr.{var, num, neg, ◌⊕◌, ◌⊝◌, ◌⊗◌}, linear, given, ring}
use Rattle.symmetry.specs.Vectors.{Vector, plus, minus, multiple, dot}
use Rattle.symmetry.specs.Planes.{IsCoprime}
use Rattle.symmetry.proofs.Coprime.{unit_column}
use Rattle.symmetry.proofs.VectorLaws.{vector_path}
use Rattle.line_frames.specs.Searches.{along_lines}

module _ (r : Vector) where
  -- they lie along the lines
  pub dot-along_lines : (n : ℤ) → dot r (along_lines r n) ≡ pos 0
  unfolding dot
  dot-along_lines n =
      ring (r.x ∷ r.y ∷ r.z ∷ n ∷ []) (var 0 ⊗ (var 3 ⊗ var 1) ⊕ var 1 ⊗ (var 3 ⊗ (num (pos 0) ⊝ var 0)) ⊕ var 2 ⊗ num (pos 0)) (num (pos 0)) tt

  pub multiple-along_lines : (c n : ℤ) → multiple c (along_lines r n) ≡ along_lines r (c *ℤ n)
  unfolding multiple
  multiple-along_lines c n = vector_path (go c n r.y) (go c n (pos 0 -ℤ r.x)) (omega (arith, ints))
    where
      go : (c n x : ℤ) → c *ℤ (n *ℤ x) ≡ c *ℤ n *ℤ x
      go c n x = ring (c ∷ n ∷ x ∷ []) (var 0 ⊗ (var 1 ⊗ var 2)) (var 0 ⊗ var 1 ⊗ var 2) tt

  pub along_lines-minus : (m n : ℤ) → minus (along_lines r m) (along_lines r n) ≡ along_lines r (m -ℤ n)
  unfolding plus multiple
  along_lines-minus m n = vector_path (go m n r.y) (go m n (pos 0 -ℤ r.x)) (omega (arith, ints))
    where
      go : (m n x : ℤ) → m *ℤ x +ℤ negsuc 0 *ℤ (n *ℤ x) ≡ (m -ℤ n) *ℤ x
      go m n x = ring (m ∷ n ∷ x ∷ []) (var 0 ⊗ var 2 ⊕ num (negsuc 0) ⊗ (var 1 ⊗ var 2)) ((var 0 ⊝ var 1) ⊗ var 2) tt

-- and each vector of the plane along them is one
module _ (r : Vector) (line : r.z ≡ pos 0) (coprime : IsCoprime r) where
  abbrev entries : Vector → Vector → List ℤ
  entries u v = r.x ∷ r.y ∷ r.z ∷ u.x ∷ u.y ∷ u.z ∷ v.x ∷ v.y ∷ v.z ∷ []

  abbrev row_by : Expr → Expr → Expr → Expr
  row_by x y z = var 0 ⊗ x ⊕ var 1 ⊗ y ⊕ var 2 ⊗ z

  pub along_of : (v : Vector) → v.z ≡ pos 0 → dot r v ≡ pos 0 → (m : ℤ) × (v ≡ along_lines r m)
  unfolding dot
  along_of v flat along =
      let (u, one) = unit_column r coprime in
      let m : Expr = var 4 ⊗ var 6 ⊝ var 3 ⊗ var 7 in
      let of_u : Expr = row_by (var 3) (var 4) (var 5) in
      let of_v : Expr = row_by (var 6) (var 7) (var 8) in (
        u.y *ℤ v.x -ℤ u.x *ℤ v.y,
        vector_path
            (linear (entries u v) (var 6) (m ⊗ var 1)
            (given (neg (var 6)) of_u (num (pos 1)) ∷ given (var 3) of_v (num (pos 0)) ∷ given (var 6 ⊗ var 5 ⊝ var 3 ⊗ var 8) (var 2) (num (pos 0)) ∷ [])
            tt (one, (along, (line, tt))))
            (linear (entries u v) (var 7) (m ⊗ (num (pos 0) ⊝ var 0))
            (given (neg (var 7)) of_u (num (pos 1)) ∷ given (var 4) of_v (num (pos 0)) ∷ given (var 7 ⊗ var 5 ⊝ var 4 ⊗ var 8) (var 2) (num (pos 0)) ∷ [])
            tt (one, (along, (line, tt))))
            flat,
      )
