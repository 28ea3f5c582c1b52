-- The vector a: the sign that points forward, times the least multiple of (k,-h).
use Rattle.std.proofs.Common.{◌≡◌, inl, inr, ◌*◌, ℤ, pos, ◌-ℤ◌, ◌*ℤ◌, ◌≤ℤ◌, ◌<ℤ◌, [], ◌∷◌, refl, sym, ap, subst, ◌∙◌, arith}
use Rattle.std.specs.Prelude.{unsigned_abs}
use Rattle.std.proofs.lemmas.Int.{ints}
use Rattle.fractions.specs.declared.part.TheConstants.{UNIT}
use Rattle.motions.specs.declared.miller.TheConstants.{INDEX}
use Rattle.integers.specs.Size.{IsWithin}
use Rattle.integers.proofs.Order.{one-le-mul}
use Rattle.integers.proofs.Ring.{IsWithin-mul}
use Rattle.integers.proofs.Solver.{Expr.{var, num, ◌⊝◌, ◌⊗◌}, linear, given, ring}
use Rattle.symmetry.specs.Vectors.{Vector, multiple, dot}
use Rattle.symmetry.specs.Groups.{Listing, IsInLattice}
use Rattle.symmetry.specs.Planes.{IsCoprime}
use Rattle.symmetry.specs.HeightMotions.{IsSign}
use Rattle.symmetry.proofs.Signs.{sign-square}
use Rattle.symmetry.proofs.LatticeLaws.{lattice-multiple}
use Rattle.line_frames.specs.Searches.{along_lines, coordinate, IsForwardAlong, IsRepeat, IsSense, across_y, along_y}
use Rattle.line_frames.proofs.Along.{along_of, dot-along_lines, multiple-along_lines}
use Rattle.line_frames.proofs.Points.{coordinate_x, coordinate_y}
use Rattle.line_frames.proofs.Repeats.{multiple_of_repeat}

-- a number of parts times an index with a sign, where that is positive
module _ (n e x : ℤ) (from : pos 1 ≤ℤ n) (most : n ≤ℤ UNIT) (sign : IsSign e) (small : IsWithin (unsigned_abs INDEX) x) (forward : pos 0 <ℤ (e *ℤ x)) where
  apart : e *ℤ n *ℤ x ≡ n *ℤ (e *ℤ x)
  apart = ring (e ∷ n ∷ x ∷ []) (var 0 ⊗ var 1 ⊗ var 2) (var 1 ⊗ (var 0 ⊗ var 2)) tt

  pub forward_from : pos 1 ≤ℤ (e *ℤ n *ℤ x)
  forward_from = subst (λ z. pos 1 ≤ℤ z) (sym apart) (one-le-mul n (e *ℤ x) from (omega (arith, ints, forward)))

  unit_within : IsWithin 1 e
  unit_within = by sign
    where
      by : IsSign e → IsWithin 1 e
      by (inl is) = record { most = omega (arith, ints, is) }
      by (inr is) = record { most = omega (arith, ints, is) }

  pub forward_most : (e *ℤ n *ℤ x) ≤ℤ (UNIT *ℤ INDEX)
  forward_most =
      let l : IsWithin (unsigned_abs UNIT) n = record { most = omega (arith, ints, from, most) } in
      let w : IsWithin (1 * unsigned_abs UNIT * unsigned_abs INDEX) (e *ℤ n *ℤ x) = IsWithin-mul (IsWithin-mul unit_within l) small in
      let m = w.most in
      omega (arith, ints, m)

module _ (g : Listing) (r : Vector) (n e : ℤ) (repeat : IsRepeat g r n) (sign : IsSign e) where
  abbrev pub a : Vector
  a = along_lines r (e *ℤ n)

  pub a_inside : IsInLattice g a
  a_inside = subst (IsInLattice g) (multiple-along_lines r e n) (lattice-multiple g e (along_lines r n) repeat.inside)

  -- each vector of the lattice along the lines is a multiple of it
  pub multiple_of_a : IsCoprime r → r.z ≡ pos 0 → (v : Vector) → IsInLattice g v → v.z ≡ pos 0 → dot r v ≡ pos 0 → (q : ℤ) × (v ≡ multiple q a)
  multiple_of_a coprime line v inside flat along =
      let (j, is) = along_of r line coprime v flat along in
      let (q, times) = multiple_of_repeat g r n repeat j (subst (IsInLattice g) is inside) in
      (q *ℤ e, is ∙ ap (along_lines r) (times ∙ twice q) ∙ sym (multiple-along_lines r (q *ℤ e) (e *ℤ n)))
    where
      twice : (q : ℤ) → q *ℤ n ≡ q *ℤ e *ℤ (e *ℤ n)
      twice q =
          linear (q ∷ n ∷ e ∷ []) (var 0 ⊗ var 1) (var 0 ⊗ var 2 ⊗ (var 2 ⊗ var 1)) (given (num (pos 0) ⊝ var 0 ⊗ var 1) (var 2 ⊗ var 2) (num (pos 1)) ∷ []) tt
          (sign-square e sign, tt)

  pub a_forward : IsSense r e → IsWithin (unsigned_abs INDEX) r.x → IsWithin (unsigned_abs INDEX) r.y → IsForwardAlong g r a
  a_forward sense x_small y_small = record {
    at = record { inside = a_inside; flat = refl; gives = dot-along_lines r (e *ℤ n) };
    from = from sense;
    most = most sense;
  }
    where
      some : pos 0 <ℤ (e *ℤ r.y) → ¬ (r.y ≡ pos 0)
      some h y = go e r.y y h
        where
          go : (e y : ℤ) → y ≡ pos 0 → pos 0 <ℤ (e *ℤ y) → ⊥
          go e y is h = zero e (subst (λ z. pos 0 <ℤ (e *ℤ z)) is h)
            where
              zero : (e : ℤ) → pos 0 <ℤ (e *ℤ pos 0) → ⊥
              zero e h = absurd (omega (arith, ints, h))

      turned : IsWithin (unsigned_abs INDEX) (pos 0 -ℤ r.x)
      turned = let m = x_small.most in record { most = omega (arith, ints, m) }

      from : IsSense r e → pos 1 ≤ℤ coordinate r a
      from (across_y h) = subst (λ z. pos 1 ≤ℤ z) (sym (coordinate_x r a (some h))) (forward_from n e r.y repeat.from repeat.most sign y_small h)
      from (along_y y h) = subst (λ z. pos 1 ≤ℤ z) (sym (coordinate_y r a y)) (forward_from n e (pos 0 -ℤ r.x) repeat.from repeat.most sign turned h)

      most : IsSense r e → coordinate r a ≤ℤ (UNIT *ℤ INDEX)
      most (across_y h) = subst (λ z. z ≤ℤ (UNIT *ℤ INDEX)) (sym (coordinate_x r a (some h))) (forward_most n e r.y repeat.from repeat.most sign y_small h)
      most (along_y y h) = subst (λ z. z ≤ℤ (UNIT *ℤ INDEX)) (sym (coordinate_y r a y)) (forward_most n e (pos 0 -ℤ r.x) repeat.from repeat.most sign turned h)
