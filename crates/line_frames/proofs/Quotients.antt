-- Quotients of opposite numbers.
use Rattle.std.proofs.Common.{◌≡◌, ℤ, pos, negsuc, ◌-ℤ◌, ◌*ℤ◌, [], ◌∷◌}
use Rattle.std.specs.Prelude.{Option, Some, None, MatchOption}
use Rattle.integers.proofs.Solver.{Expr.{var, num, ◌⊝◌, ◌⊗◌}, linear, given}

-- of two numbers
abbrev pub IsQuotient : ℤ → ℤ → Option ℤ → Type 0
IsQuotient n d o = MatchOption o ((q : ℤ) → ¬ (d *ℤ q ≡ n)) (λ q. d *ℤ q ≡ n)

turned : (n d q : ℤ) → d *ℤ q ≡ n → (pos 0 -ℤ d) *ℤ q ≡ pos 0 -ℤ n
turned n d q e = linear (n ∷ d ∷ q ∷ []) ((num (pos 0) ⊝ var 1) ⊗ var 2) (num (pos 0) ⊝ var 0) (given (num (negsuc 0)) (var 1 ⊗ var 2) (var 0) ∷ []) tt (e, tt)

back : (n d q : ℤ) → (pos 0 -ℤ d) *ℤ q ≡ pos 0 -ℤ n → d *ℤ q ≡ n
back n d q e = linear (n ∷ d ∷ q ∷ []) (var 1 ⊗ var 2) (var 0) (given (num (negsuc 0)) ((num (pos 0) ⊝ var 1) ⊗ var 2) (num (pos 0) ⊝ var 0) ∷ []) tt (e, tt)

pub quotient_of_opposites : (n d : ℤ) (o : Option ℤ) → IsQuotient (pos 0 -ℤ n) (pos 0 -ℤ d) o → IsQuotient n d o
quotient_of_opposites n d (Some q) h = back n d q h
quotient_of_opposites n d None h = λ q e. h q (turned n d q e)
