-- For `simp`: products spread over sums, each product sorted and bracketed to the right.
use Rattle.std.proofs.Common.{◌≡◌, ℕ, ℤ, pos, negsuc, ◌*ℤ◌, sym, ◌∙◌, ap}
use lib.IntN.{*ℤ_comm}
use Rattle.integers.proofs.Ring.{mul_assoc, mul_add, add_mul, mul_neg, neg_mul}

pub mul_left_comm : (a b c : ℤ) → a *ℤ (b *ℤ c) ≡ b *ℤ (a *ℤ c)
mul_left_comm a b c = sym (mul_assoc a b c) ∙ ap (λ x. x *ℤ c) (*ℤ_comm a b) ∙ mul_assoc b a c

pub ruleset spread = (mul_add, add_mul, mul_assoc, mul_left_comm, mul_neg, neg_mul, *ℤ_comm)

pub numeral_out : (a b : ℤ) (n : ℕ) → a *ℤ (b *ℤ pos n) ≡ (a *ℤ b) *ℤ pos n
numeral_out a b n = sym (mul_assoc a b (pos n))

pub negative_out : (a b : ℤ) (n : ℕ) → a *ℤ (b *ℤ negsuc n) ≡ (a *ℤ b) *ℤ negsuc n
negative_out a b n = sym (mul_assoc a b (negsuc n))

-- for a second `simp`: the numeral of each product comes to its end, where `omega` reads it
pub ruleset numerals_out = (numeral_out, negative_out)
