-- Each vector of a height is, but for a multiple of a, one that is reduced along a; and at the height UNIT there is one.
use Rattle.std.proofs.Common.{◌≡◌, ◌⊎◌, inl, inr, ℤ, pos, negsuc, ◌+ℤ◌, ◌-ℤ◌, ◌*ℤ◌, ◌≤ℤ◌, ◌<ℤ◌, [], ◌∷◌, refl, sym, ap, subst, ◌∙◌, arith}
use Rattle.std.proofs.lemmas.Int.{ints}
use Rattle.fractions.specs.declared.part.TheConstants.{UNIT}
use Rattle.integers.proofs.Division.{floor}
use Rattle.integers.proofs.Solver.{Expr.{var, num, ◌⊕◌, ◌⊝◌, ◌⊗◌}, linear, given, ring}
use Rattle.integers.proofs.Order.{zero_or_not}
use Rattle.symmetry.specs.Vectors.{Vector, plus, minus, multiple, opposite, dot}
use Rattle.symmetry.specs.Groups.{Listing}
use Rattle.symmetry.specs.Planes.{IsCoprime}
use Rattle.symmetry.proofs.Coprime.{unit_column}
use Rattle.symmetry.proofs.LatticeLaws.{lattice-minus, lattice-multiple}
use Rattle.symmetry.proofs.VectorLaws.{dot-plus, dot-multiple}
use Rattle.line_frames.specs.Searches.{coordinate, IsAt, IsForwardAlong, IsReducedAt}
use Rattle.line_frames.proofs.Points.{coordinate_x, coordinate_y}
use Rattle.line_frames.proofs.Repeats.{edges_inside}

-- a vector without a multiple of another
abbrev pub without : Vector → ℤ → Vector → Vector
without v q a = minus v (multiple q a)

less : (x q y : ℤ) → x +ℤ negsuc 0 *ℤ (q *ℤ y) ≡ x -ℤ q *ℤ y
less x q y = ring (x ∷ q ∷ y ∷ []) (var 0 ⊕ num (negsuc 0) ⊗ (var 1 ⊗ var 2)) (var 0 ⊝ var 1 ⊗ var 2) tt

pub dot-without : (r v : Vector) (q : ℤ) (a : Vector) → dot r (without v q a) ≡ dot r v -ℤ q *ℤ dot r a
dot-without r v q a =
    dot-plus r v (opposite (multiple q a)) ∙ ap (λ x. dot r v +ℤ x) (dot-multiple r (negsuc 0) (multiple q a) ∙ ap (λ x. negsuc 0 *ℤ x) (dot-multiple r q a))
    ∙ less (dot r v) q (dot r a)

coordinate-without : (r v : Vector) (q : ℤ) (a : Vector) → coordinate r (without v q a) ≡ coordinate r v -ℤ q *ℤ coordinate r a
unfolding plus multiple
coordinate-without r v q a = by (zero_or_not r.y)
  where
    by : (r.y ≡ pos 0) ⊎ (¬ (r.y ≡ pos 0)) → coordinate r (without v q a) ≡ coordinate r v -ℤ q *ℤ coordinate r a
    by (inl y) = coordinate_y r (without v q a) y ∙ less v.y q a.y ∙ (λ i. sym (coordinate_y r v y) i -ℤ q *ℤ sym (coordinate_y r a y) i)
    by (inr n) = coordinate_x r (without v q a) n ∙ less v.x q a.x ∙ (λ i. sym (coordinate_x r v n) i -ℤ q *ℤ sym (coordinate_x r a n) i)

module _ (g : Listing) (r a : Vector) (along : IsForwardAlong g r a) where
  pub reduced_of : (d : ℤ) (v : Vector) → IsAt g r d v → (w : Vector) × IsReducedAt g r a d w
  unfolding plus multiple
  reduced_of d v at =
      let (q, from, below) = floor (coordinate r v) (coordinate r a) along.from in
      let w = without v q a in
      let is : coordinate r w ≡ coordinate r v -ℤ coordinate r a *ℤ q = coordinate-without r v q a ∙ swapped (coordinate r v) q (coordinate r a) in (
        w,
        record {
          at = record {
            inside = lattice-minus g v (multiple q a) at.inside (lattice-multiple g q a along.at.inside);
            flat = (λ i. at.flat i +ℤ negsuc 0 *ℤ (q *ℤ along.at.flat i)) ∙ nothing q;
            gives = dot-without r v q a ∙ (λ i. at.gives i -ℤ q *ℤ along.at.gives i) ∙ only d q;
          };
          from = subst (λ x. pos 0 ≤ℤ x) (sym is) from;
          below = subst (λ x. x <ℤ coordinate r a) (sym is) below;
        },
      )
    where
      swapped : (x q y : ℤ) → x -ℤ q *ℤ y ≡ x -ℤ y *ℤ q
      swapped x q y = ring (x ∷ q ∷ y ∷ []) (var 0 ⊝ var 1 ⊗ var 2) (var 0 ⊝ var 2 ⊗ var 1) tt

      nothing : (q : ℤ) → pos 0 +ℤ negsuc 0 *ℤ (q *ℤ pos 0) ≡ pos 0
      nothing q = omega (arith, ints)

      only : (d q : ℤ) → d -ℤ q *ℤ pos 0 ≡ d
      only d q = omega (arith, ints)

-- some whole edges together have the height UNIT
pub at_unit : (g : Listing) (r : Vector) → IsCoprime r → r.z ≡ pos 0 → (v : Vector) × IsAt g r UNIT v
unfolding dot
at_unit g r coprime line =
    let (u, one) = unit_column r coprime in (
      record { x = UNIT *ℤ u.x; y = UNIT *ℤ u.y; z = pos 0 },
      record {
        inside = edges_inside g u.x u.y;
        flat = refl;
        gives = linear (r.x ∷ r.y ∷ r.z ∷ u.x ∷ u.y ∷ u.z ∷ []) (var 0 ⊗ (num UNIT ⊗ var 3) ⊕ var 1 ⊗ (num UNIT ⊗ var 4) ⊕ var 2 ⊗ num (pos 0)) (num UNIT)
            (given (num UNIT) (var 0 ⊗ var 3 ⊕ var 1 ⊗ var 4 ⊕ var 2 ⊗ var 5) (num (pos 1)) ∷ given (num (pos 0) ⊝ num UNIT ⊗ var 5) (var 2) (num (pos 0)) ∷ [])
            tt (one, (line, tt));
      },
    )
