-- A pair that neither vector shortens, with a tau that four vectors do not shorten, is reduced.
use Rattle.std.proofs.Common.{◌≡◌, ℕ, zero, suc, ◌*◌, ℤ, pos, negsuc, ◌+ℤ◌, ◌*ℤ◌, ◌≤ℤ◌, nat_abs, [], ◌∷◌, sym, subst, arith}
use Rattle.std.proofs.lemmas.Int.{ints}
use Rattle.integers.specs.Size.{IsWithin}
use Rattle.integers.proofs.Solver.{Expr.{var, num, ◌⊕◌, ◌⊗◌}, ring}
use Rattle.symmetry.specs.Vectors.{Vector, Matrix, plus, multiple, opposite}
use Rattle.symmetry.specs.Frames.{Basis}
use Rattle.symmetry.proofs.VectorLaws.{vector_path}
use Rattle.reduction.specs.Forms.{by_form, IsForm, IsUnshortened}
use Rattle.reduction.specs.LatticeBases.{combined}
use Rattle.reduction.specs.Reduced.{IsReduced, tau_and}
use Rattle.reduction.proofs.Shortening.{form-multiple, multiple-form}
use Rattle.reduction.proofs.TurnedPassed.{of_opposite, opposite_within}
use Rattle.reduction.proofs.Unshortened.{above, below, no_shorter_sum, no_shorter_difference}

-- i a + j b + tau, as tau and a multiple of one of a, b, a + b and a - b
module _ (f : Basis) where
  only_tau : tau_and f (pos 0) (pos 0) ≡ f.tau
  unfolding plus multiple
  only_tau = vector_path (omega (arith, ints)) (omega (arith, ints)) (omega (arith, ints))

  with_a : (k : ℤ) → tau_and f k (pos 0) ≡ combined (pos 1) f.tau k f.a
  unfolding plus multiple
  with_a k = vector_path (go k f.a.x f.b.x f.tau.x) (go k f.a.y f.b.y f.tau.y) (go k f.a.z f.b.z f.tau.z)
    where
      go : (k a b t : ℤ) → k *ℤ a +ℤ pos 0 *ℤ b +ℤ pos 1 *ℤ t ≡ pos 1 *ℤ t +ℤ k *ℤ a
      go k a b t = omega (arith, ints)

  with_b : (k : ℤ) → tau_and f (pos 0) k ≡ combined (pos 1) f.tau k f.b
  unfolding plus multiple
  with_b k = vector_path (go k f.a.x f.b.x f.tau.x) (go k f.a.y f.b.y f.tau.y) (go k f.a.z f.b.z f.tau.z)
    where
      go : (k a b t : ℤ) → pos 0 *ℤ a +ℤ k *ℤ b +ℤ pos 1 *ℤ t ≡ pos 1 *ℤ t +ℤ k *ℤ b
      go k a b t = omega (arith, ints)

  abbrev sum : Vector
  sum = combined (pos 1) f.a (pos 1) f.b

  abbrev difference : Vector
  difference = combined (pos 1) f.a (negsuc 0) f.b

  plus_sum : tau_and f (pos 1) (pos 1) ≡ combined (pos 1) f.tau (pos 1) sum
  unfolding plus multiple
  plus_sum = vector_path (omega (arith, ints)) (omega (arith, ints)) (omega (arith, ints))

  minus_sum : tau_and f (negsuc 0) (negsuc 0) ≡ combined (pos 1) f.tau (negsuc 0) sum
  unfolding plus multiple
  minus_sum = vector_path (omega (arith, ints)) (omega (arith, ints)) (omega (arith, ints))

  plus_difference : tau_and f (pos 1) (negsuc 0) ≡ combined (pos 1) f.tau (pos 1) difference
  unfolding plus multiple
  plus_difference = vector_path (omega (arith, ints)) (omega (arith, ints)) (omega (arith, ints))

  minus_difference : tau_and f (negsuc 0) (pos 1) ≡ combined (pos 1) f.tau (negsuc 0) difference
  unfolding plus multiple
  minus_difference = vector_path (omega (arith, ints)) (omega (arith, ints)) (omega (arith, ints))

too_large : (n : ℕ) {A : Type 0} → IsWithin 1 (pos (suc (suc n))) → A
too_large n h = let m = h.most in absurd (omega arith)

too_small : (n : ℕ) {A : Type 0} → IsWithin 1 (negsuc (suc n)) → A
too_small n h = let m = h.most in absurd (omega arith)

module _ (g : Matrix) (form : IsForm g) (f : Basis) where
  abbrev NoShorter : Vector → Type 0
  NoShorter v = by_form g f.tau f.tau ≤ℤ by_form g v v

  module _ (by_a : IsUnshortened g f.tau f.a) (by_b : IsUnshortened g f.tau f.b)
      (by_sum : IsUnshortened g f.tau (sum f)) (by_difference : IsUnshortened g f.tau (difference f)) where
    shortest : (i j : ℤ) → IsWithin 1 i → IsWithin 1 j → NoShorter (tau_and f i j)
    shortest (pos (suc (suc n))) j h k = too_large n h
    shortest (negsuc (suc n)) j h k = too_small n h
    shortest i (pos (suc (suc n))) h k = too_large n k
    shortest i (negsuc (suc n)) h k = too_small n k
    shortest (pos zero) (pos zero) h k = subst NoShorter (sym (only_tau f)) (omega (arith, ints))
    shortest (pos (suc zero)) (pos zero) h k = subst NoShorter (sym (with_a f (pos 1))) (no_shorter_sum g form f.tau f.a by_a)
    shortest (negsuc zero) (pos zero) h k = subst NoShorter (sym (with_a f (negsuc 0))) (no_shorter_difference g form f.tau f.a by_a)
    shortest (pos zero) (pos (suc zero)) h k = subst NoShorter (sym (with_b f (pos 1))) (no_shorter_sum g form f.tau f.b by_b)
    shortest (pos zero) (negsuc zero) h k = subst NoShorter (sym (with_b f (negsuc 0))) (no_shorter_difference g form f.tau f.b by_b)
    shortest (pos (suc zero)) (pos (suc zero)) h k = subst NoShorter (sym (plus_sum f)) (no_shorter_sum g form f.tau (sum f) by_sum)
    shortest (negsuc zero) (negsuc zero) h k = subst NoShorter (sym (minus_sum f)) (no_shorter_difference g form f.tau (sum f) by_sum)
    shortest (pos (suc zero)) (negsuc zero) h k = subst NoShorter (sym (plus_difference f)) (no_shorter_sum g form f.tau (difference f) by_difference)
    shortest (negsuc zero) (pos (suc zero)) h k = subst NoShorter (sym (minus_difference f)) (no_shorter_difference g form f.tau (difference f) by_difference)

    twice_within : (p q : ℤ) → (pos 2 *ℤ p) ≤ℤ q → (negsuc 1 *ℤ p) ≤ℤ q → pos (2 * nat_abs p) ≤ℤ q
    twice_within (pos n) q h k = omega (arith, ints)
    twice_within (negsuc n) q h k = omega (arith, ints)

    pub reduced : IsUnshortened g f.b f.a → by_form g f.a f.a ≤ℤ by_form g f.b f.b → IsReduced (by_form g) f
    reduced first order = record {
      pair = subst (λ z. pos (2 * nat_abs z) ≤ℤ by_form g f.a f.a) (form.symmetric f.b f.a)
          (twice_within (by_form g f.b f.a) (by_form g f.a f.a) (above g form f.b f.a first) (below g form f.b f.a first));
      order = order;
      tau = shortest;
    }

-- ---- the opposite of b, or of a

abbrev pub with_opposite_b : Basis → Basis
with_opposite_b f = record { a = f.a; b = opposite f.b; tau = f.tau }

abbrev pub with_opposite_a : Basis → Basis
with_opposite_a f = record { a = opposite f.a; b = f.b; tau = f.tau }

opposite_combination : (f : Basis) (i j : ℤ) → tau_and f i (negsuc 0 *ℤ j) ≡ tau_and (with_opposite_b f) i j
unfolding plus multiple
opposite_combination f i j = vector_path (go i j f.a.x f.b.x f.tau.x) (go i j f.a.y f.b.y f.tau.y) (go i j f.a.z f.b.z f.tau.z)
  where
    go : (i j a b t : ℤ) → i *ℤ a +ℤ (negsuc 0 *ℤ j) *ℤ b +ℤ pos 1 *ℤ t ≡ i *ℤ a +ℤ j *ℤ (negsuc 0 *ℤ b) +ℤ pos 1 *ℤ t
    go i j a b t =
        ring (i ∷ j ∷ a ∷ b ∷ t ∷ []) (var 0 ⊗ var 2 ⊕ (num (negsuc 0) ⊗ var 1) ⊗ var 3 ⊕ num (pos 1) ⊗ var 4)
        (var 0 ⊗ var 2 ⊕ var 1 ⊗ (num (negsuc 0) ⊗ var 3) ⊕ num (pos 1) ⊗ var 4) tt

opposite_combination_first : (f : Basis) (i j : ℤ) → tau_and f (negsuc 0 *ℤ i) j ≡ tau_and (with_opposite_a f) i j
unfolding plus multiple
opposite_combination_first f i j = vector_path (go i j f.a.x f.b.x f.tau.x) (go i j f.a.y f.b.y f.tau.y) (go i j f.a.z f.b.z f.tau.z)
  where
    go : (i j a b t : ℤ) → (negsuc 0 *ℤ i) *ℤ a +ℤ j *ℤ b +ℤ pos 1 *ℤ t ≡ i *ℤ (negsuc 0 *ℤ a) +ℤ j *ℤ b +ℤ pos 1 *ℤ t
    go i j a b t =
        ring (i ∷ j ∷ a ∷ b ∷ t ∷ []) ((num (negsuc 0) ⊗ var 0) ⊗ var 2 ⊕ var 1 ⊗ var 3 ⊕ num (pos 1) ⊗ var 4)
        (var 0 ⊗ (num (negsuc 0) ⊗ var 2) ⊕ var 1 ⊗ var 3 ⊕ num (pos 1) ⊗ var 4) tt

same_size : (p q r : ℤ) → q ≡ negsuc 0 *ℤ p → pos (2 * nat_abs p) ≤ℤ r → pos (2 * nat_abs q) ≤ℤ r
same_size (pos zero) q r e h = subst (λ z. pos (2 * nat_abs z) ≤ℤ r) (sym e) h
same_size (pos (suc n)) q r e h = subst (λ z. pos (2 * nat_abs z) ≤ℤ r) (sym e) (omega (arith, ints))
same_size (negsuc n) q r e h = subst (λ z. pos (2 * nat_abs z) ≤ℤ r) (sym e) (omega (arith, ints))

pub reduced_opposite : (g : Matrix) (f : Basis) → IsReduced (by_form g) f → IsReduced (by_form g) (with_opposite_b f)
reduced_opposite g f h = record {
  pair = let p = h.pair in let e = form-multiple g f.a (negsuc 0) f.b in same_size (by_form g f.a f.b) (by_form g f.a (opposite f.b)) (by_form g f.a f.a) e p;
  order = subst (λ z. by_form g f.a f.a ≤ℤ z) (sym (of_opposite g f.b f.b)) h.order;
  tau = λ i j k l. subst (λ (v : Vector). by_form g f.tau f.tau ≤ℤ by_form g v v) (opposite_combination f i j)
      (h.tau i (negsuc 0 *ℤ j) k (opposite_within 1 j l));
}

pub reduced_opposite_first : (g : Matrix) (f : Basis) → IsReduced (by_form g) f → IsReduced (by_form g) (with_opposite_a f)
reduced_opposite_first g f h = record {
  pair = let p = h.pair in
      let e = multiple-form g (negsuc 0) f.a f.b in
      subst (λ z. pos (2 * nat_abs (by_form g (opposite f.a) f.b)) ≤ℤ z) (sym (of_opposite g f.a f.a))
      (same_size (by_form g f.a f.b) (by_form g (opposite f.a) f.b) (by_form g f.a f.a) e p);
  order = subst (λ z. z ≤ℤ by_form g f.b f.b) (sym (of_opposite g f.a f.a)) h.order;
  tau = λ i j k l. subst (λ (v : Vector). by_form g f.tau f.tau ≤ℤ by_form g v v) (opposite_combination_first f i j)
      (h.tau (negsuc 0 *ℤ i) j (opposite_within 1 i k) l);
}
