-- Words behind `rod` with more of them than a line.
use Rattle.std.proofs.Common.{◌≡◌, ◌≤◌, ℕ, List, [], ◌∷◌, length, map, Some, None, refl, subst, arith}
use Rattle.std.specs.Prelude.{option_and_then, option_map}
use Rattle.requests.specs.declared.request.Format.{Format}
use Rattle.requests.specs.RodLimits.{LineWords}
use Rattle.requests.specs.Words.{at_end, format_first}
use Rattle.command.specs.Rods.{line_first, rod_asked, rod_words}

pub no_rod_asked : {A : Type 0} (f : A → List ℕ) (words : List (List ℕ)) (line : LineWords × List (List ℕ)) (format : Format)
    (others : List A) → Some line ≡ line_first words → (format, map f others) ≡ format_first line.1 → 1 ≤ length others
    → None ≡ rod_words words
no_rod_asked f words line format [] h_line h_format some = absurd (omega (arith, some))
no_rod_asked f words line format (word ∷ others) h_line h_format some =
    subst (λ o. None ≡ option_and_then (λ l. option_map (rod_asked l.0) (at_end (format_first l.1))) o) h_line
    (subst (λ (q : Format × List (List ℕ)). None ≡ option_map (rod_asked line.0) (at_end q)) h_format refl)
