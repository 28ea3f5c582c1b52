-- Congruences whose factor divides the number of the grid.
use lib.IntN.{pos-*ℤ-pos}
use Rattle.std.proofs.Common.{◌≡◌, ◌↔◌, ℕ, suc, ◌+◌, ◌*◌, ◌/◌, ◌%◌, ◌<◌, ◌≤◌, ℤ, pos, negsuc, ◌+ℤ◌, ◌-ℤ◌, ◌*ℤ◌, ◌≤ℤ◌, ◌<ℤ◌, inl, inr, [], ◌∷◌, refl, ◌∙◌, ap, arith, sym}
use Rattle.std.specs.Int.{int_rem_euclid}
use Rattle.std.specs.Prelude.{unsigned_abs, MatchOption, Option, None, Some}
use Rattle.std.proofs.lemmas.Bool.{cases_lt}
use Rattle.std.proofs.lemmas.Int.{ints}
use Rattle.std.proofs.Math.Nat.{mul-le-mul_left}
use Rattle.std.proofs.lemmas.Bool.{cases_lt}
use Rattle.integers.proofs.Order.{mul-le-mul_right, mul_left_cancel_pos}
use Rattle.integers.proofs.Solver.{Expr.{var, num, neg, ◌⊕◌, ◌⊝◌, ◌⊗◌}, given, linear}
use Rattle.recognition.specs.Grid.{grid}
use Rattle.recognition.specs.declared.classes.Class.{Class}
use Rattle.motions.specs.Rationals.{IsMultiple}
use Rattle.recognition.specs.Classes.{InClass, Leaves, Solves}
use Rattle.recognition.proofs.Multiples.{to_rest}

-- ---- what the factor times y has to leave

-- a negative factor
pub wanted_negative : (c : ℤ) (n rest v : ℕ) → IsMultiple (pos grid) (c -ℤ pos rest) → Solves c (negsuc n) v ↔ Leaves (suc n) rest v
wanted_negative c n rest v (k, e) = (
  λ (x, s). (k -ℤ x, one (pos grid) c (negsuc n) (pos (suc n)) (pos rest) (pos v) k x (opposite n) e s),
  λ (y, l). (k -ℤ y, two (pos grid) c (negsuc n) (pos (suc n)) (pos rest) (pos v) k y (opposite n) e l),
)
  where
    opposite : (n : ℕ) → negsuc n ≡ negsuc 0 *ℤ pos (suc n)
    opposite n = omega (arith, ints)

    one : (g c a s r v k x : ℤ) → a ≡ negsuc 0 *ℤ s → c -ℤ r ≡ g *ℤ k → c +ℤ a *ℤ v ≡ g *ℤ x → s *ℤ v -ℤ r ≡ g *ℤ (k -ℤ x)
    one g c a s r v k x o e f =
        linear (g ∷ c ∷ a ∷ s ∷ r ∷ v ∷ k ∷ x ∷ []) (var 3 ⊗ var 5 ⊝ var 4) (var 0 ⊗ (var 6 ⊝ var 7))
        (given (var 5) (var 2) (num (negsuc 0) ⊗ var 3) ∷ given (num (pos 1)) (var 1 ⊝ var 4) (var 0 ⊗ var 6) ∷ given (num (negsuc 0)) (var 1 ⊕ var 2 ⊗ var 5) (var 0 ⊗ var 7) ∷ [])
        tt (o, (e, (f, tt)))

    two : (g c a s r v k y : ℤ) → a ≡ negsuc 0 *ℤ s → c -ℤ r ≡ g *ℤ k → s *ℤ v -ℤ r ≡ g *ℤ y → c +ℤ a *ℤ v ≡ g *ℤ (k -ℤ y)
    two g c a s r v k y o e f =
        linear (g ∷ c ∷ a ∷ s ∷ r ∷ v ∷ k ∷ y ∷ []) (var 1 ⊕ var 2 ⊗ var 5) (var 0 ⊗ (var 6 ⊝ var 7))
        (given (var 5) (var 2) (num (negsuc 0) ⊗ var 3) ∷ given (num (pos 1)) (var 1 ⊝ var 4) (var 0 ⊗ var 6) ∷ given (num (negsuc 0)) (var 3 ⊗ var 5 ⊝ var 4) (var 0 ⊗ var 7) ∷ [])
        tt (o, (e, (f, tt)))

-- a factor that is not negative
pub wanted_positive : (c d : ℤ) (n rest v : ℕ) → d ≡ negsuc 0 *ℤ c → IsMultiple (pos grid) (d -ℤ pos rest) → Solves c (pos n) v ↔ Leaves n rest v
wanted_positive c d n rest v o (k, e) = (
  λ (x, s). (x +ℤ k, one (pos grid) c d (pos n) (pos rest) (pos v) k x o e s),
  λ (y, l). (y -ℤ k, two (pos grid) c d (pos n) (pos rest) (pos v) k y o e l),
)
  where
    one : (g c d s r v k x : ℤ) → d ≡ negsuc 0 *ℤ c → d -ℤ r ≡ g *ℤ k → c +ℤ s *ℤ v ≡ g *ℤ x → s *ℤ v -ℤ r ≡ g *ℤ (x +ℤ k)
    one g c d s r v k x o e f =
        linear (g ∷ c ∷ d ∷ s ∷ r ∷ v ∷ k ∷ x ∷ []) (var 3 ⊗ var 5 ⊝ var 4) (var 0 ⊗ (var 7 ⊕ var 6))
        (given (num (negsuc 0)) (var 2) (num (negsuc 0) ⊗ var 1) ∷ given (num (pos 1)) (var 2 ⊝ var 4) (var 0 ⊗ var 6) ∷ given (num (pos 1)) (var 1 ⊕ var 3 ⊗ var 5) (var 0 ⊗ var 7) ∷ [])
        tt (o, (e, (f, tt)))

    two : (g c d s r v k y : ℤ) → d ≡ negsuc 0 *ℤ c → d -ℤ r ≡ g *ℤ k → s *ℤ v -ℤ r ≡ g *ℤ y → c +ℤ s *ℤ v ≡ g *ℤ (y -ℤ k)
    two g c d s r v k y o e f =
        linear (g ∷ c ∷ d ∷ s ∷ r ∷ v ∷ k ∷ y ∷ []) (var 1 ⊕ var 3 ⊗ var 5) (var 0 ⊗ (var 7 ⊝ var 6))
        (given (num (pos 1)) (var 2) (num (negsuc 0) ⊗ var 1) ∷ given (num (negsuc 0)) (var 2 ⊝ var 4) (var 0 ⊗ var 6) ∷ given (num (pos 1)) (var 3 ⊗ var 5 ⊝ var 4) (var 0 ⊗ var 7) ∷ [])
        tt (o, (e, (f, tt)))

-- ---- where the factor s makes parts of the length l

module _ (s l rest : ℕ) (some : 1 ≤ s) (below : rest < grid) (divides : grid ≡ s * l) where
  parts : pos grid ≡ pos s *ℤ pos l
  parts = ap pos divides ∙ sym (pos-*ℤ-pos s l)

  one_positive : pos 1 ≤ℤ pos s
  one_positive = omega (arith, ints)

  -- s q is the rest
  module _ (q : ℕ) (is : rest ≡ s * q) where
    short : q < l
    short = elim (cases_lt q l) [ inl less ↦ less | inr more ↦ absurd (omega (arith, mul-le-mul_left s more)) ]

    rest_is : pos rest ≡ pos s *ℤ pos q
    rest_is = ap pos is ∙ sym (pos-*ℤ-pos s q)

    step : (v : ℕ) (y : ℤ) → pos s *ℤ pos v -ℤ pos rest ≡ pos grid *ℤ y → pos v ≡ pos q +ℤ y *ℤ pos l
    step v y e =
        mul_left_cancel_pos (pos s) (pos v) (pos q +ℤ y *ℤ pos l) one_positive
        (linear (pos s ∷ pos v ∷ pos rest ∷ pos grid ∷ y ∷ pos q ∷ pos l ∷ []) (var 0 ⊗ var 1) (var 0 ⊗ (var 5 ⊕ var 4 ⊗ var 6))
        (given (num (pos 1)) (var 0 ⊗ var 1 ⊝ var 2) (var 3 ⊗ var 4) ∷ given (num (pos 1)) (var 2) (var 0 ⊗ var 5) ∷ given (var 4) (var 3) (var 0 ⊗ var 6) ∷ [])
        tt (e, (rest_is, (parts, tt))))

    not_before : (v k : ℕ) → pos v ≡ pos q +ℤ negsuc k *ℤ pos l → ⊥
    not_before v k e =
        let h = mul-le-mul_right (negsuc k) (negsuc 0) (pos l) (omega (arith, ints)) (omega (arith, ints)) in
        let less = short in
        absurd (omega (arith, ints))

    forth : (v : ℕ) (y : ℤ) → pos v ≡ pos q +ℤ y *ℤ pos l → (k : ℕ) × (v ≡ q + k * l)
    forth v (pos k) e = (k, omega (arith, ints))
    forth v (negsuc k) e = absurd (not_before v k e)

    back : (v k : ℕ) → v ≡ q + k * l → Leaves s rest v
    back v k e = (
      pos k,
      linear (pos s ∷ pos v ∷ pos rest ∷ pos grid ∷ pos k ∷ pos q ∷ pos l ∷ []) (var 0 ⊗ var 1 ⊝ var 2) (var 3 ⊗ var 4)
          (given (var 0) (var 1) (var 5 ⊕ var 4 ⊗ var 6) ∷ given (num (negsuc 0)) (var 2) (var 0 ⊗ var 5) ∷ given (neg (var 4)) (var 3) (var 0 ⊗ var 6) ∷ [])
          tt (place, (rest_is, (parts, tt))),
    )
      where
        place : pos v ≡ pos q +ℤ pos k *ℤ pos l
        place = omega (arith, ints)

  pub divided : rest % s ≡ 0 → (v : ℕ) → InClass (rest / s) l v ↔ ((v < grid) × Leaves s rest v)
  divided e v =
      let is : rest ≡ s * (rest / s) = omega (arith, e) in (
        λ (small, (k, at)). (small, back (rest / s) is v k at),
        λ (small, (y, leaves)). (small, forth (rest / s) is v y (step (rest / s) is v y leaves)),
      )

  pub undivided : ¬ (rest % s ≡ 0) → (v : ℕ) → ¬ Leaves s rest v
  undivided left v (y, e) =
      left (to_rest s (pos rest) (omega arith) (
        pos v -ℤ pos l *ℤ y,
        linear (pos s ∷ pos v ∷ pos rest ∷ pos grid ∷ y ∷ pos l ∷ []) (var 2) (var 0 ⊗ (var 1 ⊝ var 5 ⊗ var 4))
            (given (num (negsuc 0)) (var 0 ⊗ var 1 ⊝ var 2) (var 3 ⊗ var 4) ∷ given (neg (var 4)) (var 3) (var 0 ⊗ var 5) ∷ [])
            tt (e, (parts, tt)),
      ))

-- ---- all numbers of the grid

in_all : (v : ℕ) → InClass 0 1 v ↔ (v < grid)
in_all v = (λ h. h.0, λ h. (h, (v, omega arith)))

pub from_all : (y step : ℕ) (c a : ℤ) (o : Option Class) → y ≡ 0 → step ≡ 1
    → MatchOption o ((v : ℕ) → v < grid → ¬ (Solves c a v)) (λ n. (v : ℕ) → InClass n.y n.step v ↔ ((v < grid) × Solves c a v))
    → MatchOption o ((v : ℕ) → InClass y step v → ¬ (Solves c a v)) (λ n. (v : ℕ) → InClass n.y n.step v ↔ (InClass y step v × Solves c a v))
from_all y step c a None ey es h = λ v i. h v i.0
from_all y step c a (Some n) ey es h = λ v. (
  λ i. let (small, s) = (h v).0 i in ((small, (v, (omega (arith, ey, es, ap (λ k. v * k) es)))), s),
  λ (i, s). (h v).1 (i.0, s),
)

pub to_all : (c a : ℤ) (o : Option Class)
    → MatchOption o ((v : ℕ) → InClass 0 1 v → ¬ (Solves c a v)) (λ n. (v : ℕ) → InClass n.y n.step v ↔ (InClass 0 1 v × Solves c a v))
    → MatchOption o ((v : ℕ) → v < grid → ¬ (Solves c a v)) (λ n. (v : ℕ) → InClass n.y n.step v ↔ ((v < grid) × Solves c a v))
to_all c a None h = λ v i. h v ((in_all v).1 i)
to_all c a (Some n) h = λ v. (λ i. let (j, s) = (h v).0 i in (j.0, s), λ (i, s). (h v).1 ((in_all v).1 i, s))

-- ---- by the sign of the factor

pub wanted_if : (c a : ℤ) (rest : ℕ) → a <ℤ pos 0 → IsMultiple (pos grid) (c -ℤ pos rest) → (v : ℕ) → Solves c a v ↔ Leaves (unsigned_abs a) rest v
wanted_if c (pos n) rest h m v = absurd (omega (arith, ints))
wanted_if c (negsuc n) rest h m v = wanted_negative c n rest v m

pub wanted_else : (c d a : ℤ) (rest : ℕ) → ¬ (a <ℤ pos 0) → d ≡ pos 0 -ℤ c → IsMultiple (pos grid) (d -ℤ pos rest) → (v : ℕ) → Solves c a v ↔ Leaves (unsigned_abs a) rest v
wanted_else c d (pos n) rest h e m v = wanted_positive c d n rest v (e ∙ negative c) m
  where
    negative : (c : ℤ) → pos 0 -ℤ c ≡ negsuc 0 *ℤ c
    negative c = omega (arith, ints)
wanted_else c d (negsuc n) rest h e m v = absurd (h (omega (arith, ints)))

-- ---- the rest of a division

pub rest_divides : (z : ℤ) → IsMultiple (pos grid) (z -ℤ int_rem_euclid z (pos grid))
rest_divides (pos n) = (pos (n / grid), omega (arith, ints))
rest_divides (negsuc n) = (negsuc (n / grid), omega (arith, ints))

pub same_size : (z : ℤ) → pos 0 ≤ℤ z → pos (unsigned_abs z) ≡ z
same_size (pos n) h = refl
same_size (negsuc n) h = absurd (omega (arith, ints))

pub rest_size : (z r : ℤ) → r ≡ int_rem_euclid z (pos grid) → IsMultiple (pos grid) (z -ℤ pos (unsigned_abs r))
rest_size (pos n) r e = (pos (n / grid), omega (arith, ints, e))
rest_size (negsuc n) r e = (negsuc (n / grid), omega (arith, ints, e))
