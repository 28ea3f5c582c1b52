-- The vectors that stand whole at the beginning of a line, whether or not it has ended.
use Rattle.std.specs.Prelude.{◌≡◌, ℕ, List, [], ◌∷◌, ◌++◌}
use Rattle.symmetry.specs.Vectors.{Vector}
use Rattle.triplets.specs.declared.notation.Notation.{Notation}
use Rattle.triplets.specs.Lines.{Centring, centring_text, centring_value}

-- the bytes begin with these vectors, each with its +, and no further one stands whole behind them
abbrev pub AreBegunVectors : Notation → List ℕ → List Vector → Type 0
AreBegunVectors notation bytes [] = (c : Centring notation) (rest : List ℕ) → ¬ (bytes ≡ centring_text notation c ++ rest)
AreBegunVectors notation bytes (v ∷ vs) = (c : Centring notation) × (rest : List ℕ) × (bytes ≡ centring_text notation c ++ rest) × (v ≡ centring_value notation c) × AreBegunVectors notation rest vs
