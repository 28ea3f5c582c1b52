-- Bézout's identity of two numbers.
use Rattle.std.specs.Prelude.{◌≡◌, ℤ, pos, ◌+ℤ◌, ◌*ℤ◌, ◌≤ℤ◌}
use Rattle.integers.specs.Size.{IsWithin}
use Rattle.reduction.specs.declared.bezout.BezoutIdentity.{BezoutIdentity}
use Rattle.reduction.specs.Bounds.{largest_value}

-- both numbers are multiples of the divisor, and the factors are coprime: x and y show it
pub record IsBezoutOf (p q : ℤ) (m : BezoutIdentity) : Type 0 where
  pub first : p ≡ m.p *ℤ m.divisor
  pub second : q ≡ m.q *ℤ m.divisor
  pub unit : m.p *ℤ m.x +ℤ m.q *ℤ m.y ≡ pos 1
  pub from : pos 0 ≤ℤ m.divisor

-- no number of it is large
pub record IsSmallBezout (m : BezoutIdentity) : Type 0 where
  pub divisor : IsWithin largest_value m.divisor
  pub x : IsWithin largest_value m.x
  pub y : IsWithin largest_value m.y
  pub p : IsWithin largest_value m.p
  pub q : IsWithin largest_value m.q
