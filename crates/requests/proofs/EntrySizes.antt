-- A size over a denominator that divides the unit.
use Rattle.std.proofs.Common.{◌≡◌, ℕ, zero, suc, ◌*◌, ◌/◌, ◌%◌, ◌<◌, ◌≤◌, pos, unsigned_abs, w64, to_z, None, Some, ap, sym, ◌∙◌, subst, arith}
use Rattle.std.specs.Prelude.{◌&&◌, ◌==◌, nat_le}
use Rattle.std.specs.Bool.{Decides}
use Rattle.std.proofs.Math.Nat.{mul-le-mul_right}
use Rattle.std.proofs.lemmas.Bool.Decides.{Decides-and, Decides-eqb}
use Rattle.std.proofs.lemmas.Int.{ints}
use Rattle.integers.specs.Size.{IsWithin}
use Rattle.fractions.specs.declared.part.TheConstants.{UNIT}
use Rattle.requests.specs.Limits.{size_parts}
use Rattle.requests.proofs.Numerals.{Decides-le, some_if, none_if}

abbrev pub unit : ℕ
unit = unsigned_abs UNIT

-- n divides m where nothing is left
divided : (m n : ℕ) → m % n ≡ 0 → (m / n) * n ≡ m
divided m n e = omega (arith, e)

-- how many parts it is
parts_le : (size den : ℕ) → unit % den ≡ 0 → size ≤ 1000 * den → size * (unit / den) ≤ 1000 * unit
parts_le size den e small =
    omega (arith, mul-le-mul_right (unit / den) small, regrouped 1000 den (unit / den), ap (λ n. 1000 * n) (divided unit den e))
  where
    regrouped : (a b c : ℕ) → a * b * c ≡ a * (c * b)
    regrouped a b c = omega arith

module _ (size den : ℕ) where
  tells : Decides (unit % den == 0 && nat_le size (1000 * den)) ((unit % den ≡ 0) × (size ≤ 1000 * den))
  tells = Decides-and (unit % den == 0) (nat_le size (1000 * den)) (Decides-eqb (unit % den) 0) (Decides-le size (1000 * den))

  coded : unit % den ≡ 0 → size ≤ 1000 * den → pos (size * (unit / den)) ≡ to_z w64 (size * (unit / den))
  coded e small = let le : size * (unit / den) ≤ 1000 * unit = parts_le size den e small in omega (arith, ints)

  pub size_is : unit % den ≡ 0 → size ≤ 1000 * den → Some (to_z w64 (size * (unit / den))) ≡ size_parts size den
  unfolding size_parts
  size_is e small = ap Some (sym (coded e small)) ∙ some_if _ _ tells (e, small)

  pub size_within : unit % den ≡ 0 → size ≤ 1000 * den → IsWithin (1000 * unit) (to_z w64 (size * (unit / den)))
  size_within e small = subst (IsWithin (1000 * unit)) (coded e small) (record { most = parts_le size den e small })

  pub no_size : ((unit % den ≡ 0) × (size ≤ 1000 * den) → ⊥) → None ≡ size_parts size den
  unfolding size_parts
  no_size none = none_if _ _ tells none

  pub not_above : unit < den → unit % den ≡ 0 → ⊥
  not_above above e = by (unit / den) (divided unit den e)
    where
      by : (q : ℕ) → q * den ≡ unit → ⊥
      by zero is = absurd (omega (arith, is))
      by (suc q) is = let one : 1 ≤ suc q = omega arith in absurd (omega (arith, is, mul-le-mul_right den one))
