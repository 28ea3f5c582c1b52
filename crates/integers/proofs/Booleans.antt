-- Tests that are joined.
use Rattle.std.proofs.Common.{◌≡◌, Bool, true, false, T, ◌&&◌, refl}

pub both : (a b : Bool) → T (a && b) → T a × T b
both true b t = (tt, t)
both false b t = absurd t

-- three tests, as a walk along a list joins them
pub bracketed : (a b c : Bool) → (a && (b && (c && true))) ≡ (a && b && c)
bracketed true true true = refl
bracketed true true false = refl
bracketed true false c = refl
bracketed false b c = refl
