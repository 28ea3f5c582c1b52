-- The vectors a and tau are the frame of the lines.
use Rattle.std.proofs.Common.{◌≡◌, ◌≢◌, ◌⊎◌, inl, inr, ℤ, pos, negsuc, ◌+ℤ◌, ◌*ℤ◌, ◌≤ℤ◌, ◌<ℤ◌, [], ◌∷◌, refl, sym, ap, subst, ◌∙◌, arith}
use Rattle.std.proofs.lemmas.Int.{ints}
use Rattle.integers.proofs.Ring.{mul-eq-one, mul_right_cancel, mul_zero}
use Rattle.integers.proofs.Solver.{Expr.{var, num, ◌⊕◌, ◌⊝◌, ◌⊗◌}, linear, given, ring}
use Rattle.integers.proofs.Order.{zero_or_not}
use Rattle.symmetry.specs.Vectors.{Vector, multiple, dot}
use Rattle.symmetry.specs.Groups.{Listing, IsInLattice}
use Rattle.symmetry.specs.Planes.{IsCoprime}
use Rattle.symmetry.specs.Frames.{IsPeriod}
use Rattle.symmetry.specs.HeightMotions.{IsSign}
use Rattle.symmetry.proofs.VectorLaws.{vector_path}
use Rattle.symmetry.proofs.LatticeLaws.{lattice-multiple}
use Rattle.motions.specs.PlaneMatrices.{Pair, dot2, in_space}
use Rattle.motions.specs.Laws.PlaneMatrixLaws.{pair_path}
use Rattle.line_frames.specs.Lines.{first_two, times2, IsAlong, IsBefore, IsInPlaneLattice, IsLineFrame, IsLinePeriod, IsReducedAlong}
use Rattle.line_frames.specs.Searches.{along_lines, coordinate, IsFirstAbove, IsForwardAlong, IsRepeat}
use Rattle.line_frames.proofs.Forward.{a_inside, multiple_of_a}
use Rattle.line_frames.proofs.Points.{coordinate_x, coordinate_y}

module _ (r : Vector) where
  pub dot-in_space : (v : Pair) → dot r (in_space v) ≡ dot2 (first_two r) v
  unfolding dot
  dot-in_space v = go r.x r.y r.z v.x v.y
    where
      go : (a b c x y : ℤ) → a *ℤ x +ℤ b *ℤ y +ℤ c *ℤ pos 0 ≡ a *ℤ x +ℤ b *ℤ y
      go a b c x y = omega (arith, ints)

multiple-in_space : (m : ℤ) (a : Vector) → a.z ≡ pos 0 → multiple m a ≡ in_space (times2 m (first_two a))
unfolding multiple
multiple-in_space m a flat = vector_path refl refl (ap (λ z. m *ℤ z) flat ∙ mul_zero m)

whole_factors : (x y z m k : ℤ) → pos 1 ≤ℤ x → y ≡ k *ℤ x → x ≡ m *ℤ y → (k ≡ pos 1) ⊎ (k ≡ negsuc 0)
whole_factors x y z m k some e e' =
    mul-eq-one m k (mul_right_cancel (m *ℤ k) (pos 1) x (λ n. absurd (omega (arith, ints, n, some)))
    (linear (x ∷ y ∷ m ∷ k ∷ []) (var 2 ⊗ var 3 ⊗ var 0) (num (pos 1) ⊗ var 0) (given (num (negsuc 0) ⊗ var 2) (var 1) (var 3 ⊗ var 0) ∷ given (num (negsuc 0)) (var 0) (var 2 ⊗ var 1) ∷ []) tt (e, (e', tt))))

module _ (g : Listing) (r : Vector) (coprime : IsCoprime r) (line : r.z ≡ pos 0) (n e : ℤ) (repeat : IsRepeat g r n) (sign : IsSign e)
    (forward : IsForwardAlong g r (along_lines r (e *ℤ n))) where
  abbrev a : Vector
  a = along_lines r (e *ℤ n)

  a_along : IsAlong g (first_two r) (first_two a)
  a_along = record {
    inside = λ m. subst (IsInLattice g) (multiple-in_space m a refl) (lattice-multiple g m a (a_inside g r n e repeat sign));
    along = λ m. flat m;
    only = λ v inside along.
        let (q, is) = multiple_of_a g r n e repeat sign coprime line (in_space v) inside refl (dot-in_space r v ∙ along) in
        let same : in_space v ≡ in_space (times2 q (first_two a)) = is ∙ multiple-in_space q a refl in
        (q, pair_path (ap (λ (u : Vector). u.x) same) (ap (λ (u : Vector). u.y) same));
  }
    where
      flat : (m : ℤ) → dot2 (first_two r) (times2 m (first_two a)) ≡ pos 0
      flat m =
          ring (r.x ∷ r.y ∷ e ∷ n ∷ m ∷ []) (var 0 ⊗ (var 4 ⊗ (var 2 ⊗ var 3 ⊗ var 1)) ⊕ var 1 ⊗ (var 4 ⊗ (var 2 ⊗ var 3 ⊗ (num (pos 0) ⊝ var 0)))) (num (pos 0)) tt

  -- the coordinate in which a points forward
  by_coordinate : (P : Type 0) → (a.x ≢ pos 0 → pos 1 ≤ℤ a.x → P) → (a.x ≡ pos 0 → pos 1 ≤ℤ a.y → P) → P
  by_coordinate P first second = by (zero_or_not r.y)
    where
      by : (r.y ≡ pos 0) ⊎ (¬ (r.y ≡ pos 0)) → P
      by (inl y) = second (ap (λ z. e *ℤ n *ℤ z) y ∙ mul_zero (e *ℤ n)) (subst (λ z. pos 1 ≤ℤ z) (coordinate_y r a y) forward.from)
      by (inr not) =
          let some : pos 1 ≤ℤ a.x = subst (λ z. pos 1 ≤ℤ z) (coordinate_x r a not) forward.from in
          first (λ e. absurd (omega (arith, ints, e, some))) some

  greater : (b : Pair) → IsAlong g (first_two r) b → (b ≡ first_two a) ⊎ IsBefore b (first_two a)
  greater b along =
      let (m, of_b) = along.only (first_two a) (a_inside g r n e repeat sign) (one_times (first_two r) (first_two a) ∙ a_along.along (pos 1)) in
      let (k, of_a) = a_along.only b (subst (IsInPlaneLattice g) (times_one b) (along.inside (pos 1))) (one_times (first_two r) b ∙ along.along (pos 1)) in
      by_coordinate ((b ≡ first_two a) ⊎ IsBefore b (first_two a))
      (λ _ some. by_x k (whole_factors a.x b.x (pos 0) m k some (ap (λ (p : Pair). p.x) of_a) (ap (λ (p : Pair). p.x) of_b)) of_a some)
      (λ none some. by_y k (whole_factors a.y b.y (pos 0) m k some (ap (λ (p : Pair). p.y) of_a) (ap (λ (p : Pair). p.y) of_b)) of_a none some)
    where
      times_one : (p : Pair) → times2 (pos 1) p ≡ p
      times_one p = pair_path (omega (arith, ints)) (omega (arith, ints))

      one_times : (s p : Pair) → dot2 s p ≡ dot2 s (times2 (pos 1) p)
      one_times s p = ap (dot2 s) (sym (times_one p))

      same : (k : ℤ) → k ≡ pos 1 → b ≡ times2 k (first_two a) → b ≡ first_two a
      same k is of_a = of_a ∙ ap (λ z. times2 z (first_two a)) is ∙ times_one (first_two a)

      by_x : (k : ℤ) → (k ≡ pos 1) ⊎ (k ≡ negsuc 0) → b ≡ times2 k (first_two a) → pos 1 ≤ℤ a.x → (b ≡ first_two a) ⊎ IsBefore b (first_two a)
      by_x k (inl is) of_a some = inl (same k is of_a)
      by_x k (inr is) of_a some =
          let x : b.x ≡ negsuc 0 *ℤ a.x = ap (λ (p : Pair). p.x) of_a ∙ ap (λ z. z *ℤ a.x) is in inr (inl (omega (arith, ints, x, some)))

      by_y : (k : ℤ) → (k ≡ pos 1) ⊎ (k ≡ negsuc 0) → b ≡ times2 k (first_two a) → a.x ≡ pos 0 → pos 1 ≤ℤ a.y → (b ≡ first_two a) ⊎ IsBefore b (first_two a)
      by_y k (inl is) of_a none some = inl (same k is of_a)
      by_y k (inr is) of_a none some =
          let x : b.x ≡ negsuc 0 *ℤ a.x = ap (λ (p : Pair). p.x) of_a ∙ ap (λ z. z *ℤ a.x) is in
          let y : b.y ≡ negsuc 0 *ℤ a.y = ap (λ (p : Pair). p.y) of_a ∙ ap (λ z. z *ℤ a.y) is in
          inr (inr (omega (arith, ints, x, none), omega (arith, ints, y, some)))

  module _ (tau : Vector) (first : IsFirstAbove g r a tau) (is_period : IsPeriod g r (dot r tau)) where
    tau_again : in_space (first_two tau) ≡ tau
    tau_again = vector_path refl refl (sym first.reduced.at.flat)

    tau_gives : dot2 (first_two r) (first_two tau) ≡ dot r tau
    tau_gives = sym (dot-in_space r (first_two tau)) ∙ ap (dot r) tau_again

    tau_in : IsInPlaneLattice g (first_two tau)
    tau_in = subst (IsInLattice g) (sym tau_again) first.reduced.at.inside

    reduced : IsReducedAlong (first_two a) (first_two tau)
    reduced = by (zero_or_not r.y)
      where
        by : (r.y ≡ pos 0) ⊎ (¬ (r.y ≡ pos 0)) → IsReducedAlong (first_two a) (first_two tau)
        by (inl y) =
            let some : pos 1 ≤ℤ a.y = subst (λ z. pos 1 ≤ℤ z) (coordinate_y r a y) forward.from in inr (
              ap (λ z. e *ℤ n *ℤ z) y ∙ mul_zero (e *ℤ n),
              (λ e. absurd (omega (arith, ints, e, some))),
              subst (λ z. pos 0 ≤ℤ z) (coordinate_y r tau y) first.reduced.from,
              subst (λ z. z <ℤ a.y) (coordinate_y r tau y) (subst (λ z. coordinate r tau <ℤ z) (coordinate_y r a y) first.reduced.below),
            )
        by (inr not) =
            let some : pos 1 ≤ℤ a.x = subst (λ z. pos 1 ≤ℤ z) (coordinate_x r a not) forward.from in inl (
              (λ e. absurd (omega (arith, ints, e, some))),
              subst (λ z. pos 0 ≤ℤ z) (coordinate_x r tau not) first.reduced.from,
              subst (λ z. z <ℤ a.x) (coordinate_x r tau not) (subst (λ z. coordinate r tau <ℤ z) (coordinate_x r a not) first.reduced.below),
            )

    period : IsLinePeriod g (first_two r) (dot r tau)
    period = record {
      positive = is_period.positive;
      taken = (first_two tau, tau_in, tau_gives);
      least = λ t inside above.
          subst (λ z. dot r tau ≤ℤ z) (dot-in_space r t) (is_period.least (in_space t) inside (subst (λ z. pos 0 <ℤ z) (sym (dot-in_space r t)) above));
    }

    pub line_frame : IsLineFrame g (first_two r) (first_two a) (first_two tau) (dot r tau)
    line_frame = record { along = a_along; greater = greater; period = period; tau_in = tau_in; tau_gives = tau_gives; reduced = reduced }
