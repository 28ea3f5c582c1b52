-- Whether there is an answer.
use Rattle.std.proofs.Common.{◌≡◌, ◌↔◌, Bool, true, IsTrue}
use Rattle.std.specs.Prelude.{Option, Some, None, MatchOption, is_some}

-- the test tells the fact, where Some comes with it and None without it
pub some_tells : {A : Type 0} (P : Type 0) (Q : A → Type 0) (o : Option A) (b : Bool) → b ≡ is_some o → MatchOption o (¬ P) Q
    → ((x : A) → Q x → P) → IsTrue b ↔ P
some_tells P Q (Some x) b e m f = (λ t. f x m, λ p. e)
some_tells P Q None b e m f = (λ (t : b ≡ true). absurd (cc (t, e)), λ p. absurd (m p))
