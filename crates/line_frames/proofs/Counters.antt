-- Loops over whole numbers.
use Rattle.std.proofs.Common.{◌≡◌, ◌⊎◌, inl, inr, zero, suc, ◌^◌, ℤ, pos, negsuc, ◌+ℤ◌, ◌-ℤ◌, ◌≤ℤ◌, ◌<ℤ◌, refl, subst, lit<, arith}
use Rattle.std.proofs.lemmas.Int.{ints}
use Rattle.integers.proofs.Coded.{again, again_is}

-- the number that comes next
pub next_is : (n : ℤ) → pos 0 ≤ℤ n → n <ℤ pos (2 ^ 40) → again (n +ℤ pos 1) ≡ n +ℤ pos 1
next_is n from below = again_is (n +ℤ pos 1) (2 ^ 41) (record { most = omega (arith, ints, from, below) }) (lit< tt)

-- what holds of none below n, and not of n, holds of none below the next
pub none_below_next : (P : ℤ → Type 0) (from n k : ℤ) → k ≡ n +ℤ pos 1
    → ((m : ℤ) → from ≤ℤ m → m <ℤ n → ¬ P m) → ¬ P n → (m : ℤ) → from ≤ℤ m → m <ℤ k → ¬ P m
none_below_next P from n k is none not m above below h = by (last m n (omega (arith, ints, below, is)))
  where
    last : (m n : ℤ) → m <ℤ (n +ℤ pos 1) → (m <ℤ n) ⊎ (m ≡ n)
    last m n l = by_difference (n -ℤ m) refl
      where
        by_difference : (d : ℤ) → d ≡ n -ℤ m → (m <ℤ n) ⊎ (m ≡ n)
        by_difference (pos zero) e = inr (omega (arith, ints, e))
        by_difference (pos (suc d)) e = inl (omega (arith, ints, e))
        by_difference (negsuc d) e = absurd (omega (arith, ints, e, l))

    by : (m <ℤ n) ⊎ (m ≡ n) → ⊥
    by (inl l) = none m above l h
    by (inr e) = not (subst P e h)
