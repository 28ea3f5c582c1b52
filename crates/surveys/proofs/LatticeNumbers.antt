-- The period as the greatest common divisor of the numbers (hkl).v of the lattice.
use Rattle.std.proofs.Common.{◌≡◌, ℕ, ◌+◌, ◌<◌, ◌≤◌, ℤ, pos, negsuc, ◌+ℤ◌, ◌-ℤ◌, ◌*ℤ◌, ◌≤ℤ◌, ◌<ℤ◌, List, [], ◌∷◌, length, get_or, sym, ◌∙◌, ap, subst, arith, unsigned_abs, below_more, All, FitsSigned, map, w64}
use Rattle.std.specs.Prelude.{Contains}
use Rattle.std.specs.Int.{IsGcd}
use Rattle.std.proofs.lemmas.Int.{ints, by_lt_z, to_z-of_z}
use Rattle.std.proofs.lemmas.List.{get_or-map, get_or_default}
use Rattle.fractions.specs.declared.part.Part.{Part}
use Rattle.fractions.specs.declared.part.TheConstants.{UNIT}
use Rattle.integers.specs.Size.{Divides}
use Rattle.integers.proofs.Coded.{again}
use Rattle.integers.proofs.Division.{floor}
use Rattle.integers.proofs.Divisors.{Divides-trans, divided_by_size, greatest_combined}
use Rattle.integers.proofs.Order.{least_multiple}
use Rattle.integers.proofs.Ring.{mul_one}
use Rattle.integers.proofs.Solver.{Expr.{var, num, ◌⊕◌, ◌⊝◌, ◌⊗◌}, given, linear}
use Rattle.quotient.proofs.Items.{Contains-item}
use Rattle.symmetry.specs.Vectors.{Vector, dot, minus, multiple, opposite, origin, plus}
use Rattle.symmetry.specs.Planes.{IsCoprime}
use Rattle.symmetry.specs.Groups.{IsInLattice, Listing}
use Rattle.symmetry.specs.Frames.{IsPeriod}
use Rattle.symmetry.proofs.Coprime.{unit_column}
use Rattle.symmetry.proofs.LatticeLaws.{lattice-minus, lattice-plus, lattice-multiple}
use Rattle.symmetry.proofs.VectorLaws.{dot-multiple, dot-plus, minus-plus}
use Rattle.motions.specs.Views.{parts}
use Rattle.closure.specs.declared.lattice.Lattice.{Lattice}
use Rattle.closure.specs.Lattices.{IsLatticeOf, residues_of}
use Rattle.closure.specs.Residues.{IsResidue, IsWhole, residue}
use Rattle.integers.proofs.Remainders.{Divides-add, Divides-multiple, Divides-self}
use Rattle.closure.specs.Laws.ResidueLaws.{residue-parts, whole-minus_residue, whole-multiple_of_unit}
use Rattle.closure.proofs.Spans.{lattice-whole}
use Rattle.surveys.proofs.ShiftLists.{period_again}

-- ---- what a period says

-- each number of the lattice is a whole number of periods
pub whole_periods : (g : Listing) (r : Vector) (d : ℤ) → IsPeriod g r d → (t : Vector) → IsInLattice g t → (k : ℤ) × (dot r t ≡ k *ℤ d)
whole_periods g r d period t inside =
    let (s, in_it, is) = period.taken in
    let (k, from, below) = floor (dot r t) d (omega (arith, ints, period.positive)) in
    let rest : dot r (minus t (multiple k s)) ≡ dot r t -ℤ d *ℤ k =
    dot-plus r t (opposite (multiple k s)) ∙ ap (λ x. dot r t +ℤ x) (dot-multiple r (negsuc 0) (multiple k s) ∙ ap (λ x. negsuc 0 *ℤ x) (dot-multiple r k s ∙ ap (λ x. k *ℤ x) is))
    ∙ taken (dot r t) k d in
    let member = lattice-minus g t (multiple k s) inside (lattice-multiple g k s in_it) in
    by_lt_z (pos 0) (dot r t -ℤ d *ℤ k)
    (λ above. let least = period.least (minus t (multiple k s)) member (subst (λ x. pos 0 <ℤ x) (sym rest) above) in
    absurd (omega (arith, ints, rest, least, below)))
    (λ none. (k, nothing_left (dot r t) k d (omega (arith, ints, none, from))))
  where
    taken : (x k d : ℤ) → x +ℤ negsuc 0 *ℤ (k *ℤ d) ≡ x -ℤ d *ℤ k
    taken x k d = linear (x ∷ k ∷ d ∷ []) (var 0 ⊕ num (negsuc 0) ⊗ (var 1 ⊗ var 2)) (var 0 ⊝ var 2 ⊗ var 1) [] tt tt

    nothing_left : (x k d : ℤ) → x -ℤ d *ℤ k ≡ pos 0 → x ≡ k *ℤ d
    nothing_left x k d e = linear (x ∷ k ∷ d ∷ []) (var 0) (var 1 ⊗ var 2) (given (num (pos 1)) (var 0 ⊝ var 2 ⊗ var 1) (num (pos 0)) ∷ []) tt (e, tt)

-- ---- one vector after the other

-- what divides UNIT divides the number of a whole vector
whole_divided : (d : ℕ) → Divides d UNIT → (r v : Vector) → IsWhole v → Divides d (dot r v)
unfolding dot
whole_divided d h r v whole =
    Divides-add d _ _ (Divides-add d _ _ (of_entry r.x v.x whole.x) (of_entry r.y v.y whole.y)) (of_entry r.z v.z whole.z)
  where
    of_entry : (c x : ℤ) → Divides (unsigned_abs UNIT) x → Divides d (c *ℤ x)
    of_entry c x k = Divides-multiple d c x (Divides-trans d (unsigned_abs UNIT) x h k)

-- d is a number of the lattice that divides UNIT and the numbers of the first vectors
pub record IsDivisorOf (g : Listing) (r : Vector) (vs : List Vector) (n : ℕ) (d : ℤ) : Type 0 where
  pub from : pos 1 ≤ℤ d
  pub most : d ≤ℤ UNIT
  pub taken : (t : Vector) × IsInLattice g t × (dot r t ≡ d)
  pub whole : Divides (unsigned_abs d) UNIT
  pub each : (k : ℕ) → k < n → Divides (unsigned_abs d) (dot r (get_or vs k origin))

module _ (g : Listing) (r : Vector) (vs : List Vector) where
  -- UNIT is a number of the lattice, since the row is coprime
  pub divisor_begins : IsCoprime r → IsDivisorOf g r vs 0 UNIT
  divisor_begins coprime =
      let (u, one) = unit_column r coprime in
      record {
        from = omega (arith, ints);
        most = omega (arith, ints);
        taken = (multiple UNIT u, lattice-whole g (multiple UNIT u) (whole-multiple_of_unit u), dot-multiple r UNIT u ∙ ap (λ x. UNIT *ℤ x) one ∙ mul_one UNIT);
        whole = Divides-self (unsigned_abs UNIT);
        each = λ k none. absurd (omega (arith, none));
      }

  pub divisor_more : (n : ℕ) (d e : ℤ) (v : Vector) → IsDivisorOf g r vs n d → IsInLattice g v → get_or vs n origin ≡ v
      → IsGcd (unsigned_abs d) (unsigned_abs (dot r v)) (unsigned_abs e) → pos 1 ≤ℤ e → e ≤ℤ UNIT → IsDivisorOf g r vs (n + 1) e
  divisor_more n d e v so_far inside is greatest from most =
      let (t, in_it, at) = so_far.taken in
      let (a, b, sum) = greatest_combined d (dot r v) (unsigned_abs e) greatest in
      let divides_old = divided_by_size (unsigned_abs e) d greatest.0 in
      let value : dot r (plus (multiple a t) (multiple b v)) ≡ e =
      dot-plus r (multiple a t) (multiple b v)
      ∙ (λ i. dot-multiple r a t i +ℤ dot-multiple r b v i) ∙ combined a b (dot r t) d (dot r v) at ∙ sum ∙ size_is e from in
      record {
        from = from;
        most = most;
        taken = (plus (multiple a t) (multiple b v), lattice-plus g (multiple a t) (multiple b v) (lattice-multiple g a t in_it) (lattice-multiple g b v inside), value);
        whole = Divides-trans (unsigned_abs e) (unsigned_abs d) UNIT (sized d so_far.from divides_old) so_far.whole;
        each = below_more (λ k. Divides (unsigned_abs e) (dot r (get_or vs k origin))) n
            (λ k less. Divides-trans (unsigned_abs e) (unsigned_abs d) (dot r (get_or vs k origin)) (sized d so_far.from divides_old) (so_far.each k less))
            (subst (λ w. Divides (unsigned_abs e) (dot r w)) (sym is) (divided_by_size (unsigned_abs e) (dot r v) greatest.1));
      }
    where
      size_is : (z : ℤ) → pos 1 ≤ℤ z → pos (unsigned_abs z) ≡ z
      size_is z h = omega (arith, ints, h)

      sized : (z : ℤ) → pos 1 ≤ℤ z → Divides (unsigned_abs e) z → Divides (unsigned_abs e) (pos (unsigned_abs z))
      sized z h = subst (Divides (unsigned_abs e)) (sym (size_is z h))

      combined : (a b x d y : ℤ) → x ≡ d → a *ℤ x +ℤ b *ℤ y ≡ d *ℤ a +ℤ y *ℤ b
      combined a b x d y h =
          linear (a ∷ b ∷ x ∷ d ∷ y ∷ []) (var 0 ⊗ var 2 ⊕ var 1 ⊗ var 4) (var 3 ⊗ var 0 ⊕ var 4 ⊗ var 1) (given (var 0) (var 2) (var 3) ∷ []) tt (h, tt)

  -- ---- all residues

  pub divisor_is_period : (n : ℕ) (d : ℤ) → IsDivisorOf g r vs n d → length vs ≤ n → ((t : Vector) → IsInLattice g t → Contains vs (residue t)) → IsPeriod g r d
  divisor_is_period n d by past residues = record {
    positive = omega (arith, ints, by.from);
    taken = by.taken;
    least = λ t inside above.
        let (k, within, is) = residues t inside in
        let rest : Divides (unsigned_abs d) (dot r (residue t)) =
        subst (λ w. Divides (unsigned_abs d) (dot r w)) (get_or_default vs k origin (residue t) within ∙ is) (by.each k (omega (arith, within, past))) in
        let whole = whole-minus_residue t in
        let sum : dot r (minus t (residue t)) +ℤ dot r (residue t) ≡ dot r t = sym (dot-plus r (minus t (residue t)) (residue t)) ∙ ap (dot r) (minus-plus t (residue t)) in
        let all = subst (Divides (unsigned_abs d)) sum (Divides-add (unsigned_abs d) _ _ (whole_divided (unsigned_abs d) by.whole r (minus t (residue t)) whole) rest) in
        at_least all.times d (dot r t) by.from all.is above;
  }
    where
      at_least : (k d x : ℤ) → pos 1 ≤ℤ d → x ≡ k *ℤ pos (unsigned_abs d) → pos 0 <ℤ x → d ≤ℤ x
      at_least k d x h e above =
          let is : pos (unsigned_abs d) ≡ d = omega (arith, ints, h) in
          let f : x ≡ k *ℤ d = e ∙ ap (λ z. k *ℤ z) is in
          subst (λ z. d ≤ℤ z) (sym f) (least_multiple k d (omega (arith, ints, h)) (subst (λ z. pos 0 <ℤ z) f above))

-- ---- the residues of the code

module _ (g : Listing) (lattice : Lattice) (same : IsLatticeOf g lattice) (now : List (List Part)) (are : map parts now ≡ residues_of lattice) where
  residue_inside : All IsResidue now → (i : ℕ) (e : List Part) → i < length now → IsInLattice g (parts (get_or now i e))
  residue_inside reduced i e within =
      let x = get_or now i e in
      (same (parts x)).0
      (subst (Contains (residues_of lattice)) (sym (residue-parts x (reduced i e within)))
      (subst (λ l. Contains l (parts x)) are (Contains-item parts now i x within (sym (get_or_default now i x e within)))))

  pub all_residues : (t : Vector) → IsInLattice g t → Contains (map parts now) (residue t)
  all_residues t inside = subst (λ l. Contains l (residue t)) (sym are) ((same t).1 inside)

  -- the divisor with one more residue
  pub divisor_with : (r : Vector) → All IsResidue now → (n : ℕ) (x : List Part) → n < length now → (d e height : ℤ)
      → IsDivisorOf g r (map parts now) n d → FitsSigned w64 height → height ≡ dot r (parts (get_or now n x))
      → IsGcd (unsigned_abs d) (unsigned_abs (again height)) (unsigned_abs e) → pos 1 ≤ℤ e → e ≤ℤ UNIT → IsDivisorOf g r (map parts now) (n + 1) (again e)
  divisor_with r reduced n x within d e height so_far fits is greatest from most =
      subst (IsDivisorOf g r (map parts now) (n + 1)) (sym (period_again e from most))
      (divisor_more g r (map parts now) n d e (parts (get_or now n x)) so_far (residue_inside reduced n x within) (get_or-map parts now n x origin within)
      (subst (λ z. IsGcd (unsigned_abs d) (unsigned_abs z) (unsigned_abs e)) (to_z-of_z w64 height fits ∙ is) greatest) from most)
