-- Lines behind lines.
use Rattle.std.proofs.Common.{◌≡◌, ℕ, ◌+◌, ◌<◌, List, ◌++◌, length, map, take, get_or, sym, ◌∙◌, ap, append_assoc}
use Rattle.std.specs.Prelude.{flat_map}
use Rattle.std.proofs.lemmas.List.{flat_map_more, map_more}

-- one line more behind the lines of the first i
pub one_line_more : {X Y : Type 0} (line : Y → List ℕ) (view : X → Y) (before text : List ℕ) (xs : List X) (i : ℕ) (d : X) → i < length xs
    → text ≡ before ++ flat_map line (map view (take i xs))
    → text ++ line (view (get_or xs i d)) ≡ before ++ flat_map line (map view (take (i + 1) xs))
one_line_more line view before text xs i d h e =
    ap (λ t. t ++ line (view (get_or xs i d))) e ∙ flat_map_more line before (map view (take i xs)) (view (get_or xs i d))
    ∙ ap (λ ys. before ++ flat_map line ys) (sym (map_more view xs i d h))

-- three pieces more behind a text
pub three_pieces_more : (t l a b c : List ℕ) {u v : List ℕ} → u ≡ t ++ l → v ≡ u ++ a ++ b ++ c → v ≡ t ++ (l ++ a ++ b ++ c)
three_pieces_more t l a b c before after = after ∙ ap (λ s. s ++ a ++ b ++ c) before ∙ joined
  where
    joined : (t ++ l) ++ a ++ b ++ c ≡ t ++ (l ++ a ++ b ++ c)
    joined = simp append_assoc

-- three lines behind a text, of which the last is written otherwise
pub three_lines_more : (t a b c : List ℕ) {u v d : List ℕ} → u ≡ t ++ a → v ≡ u ++ b → d ≡ c → v ++ d ≡ t ++ (a ++ b ++ c)
three_lines_more t a b c {u} {v} {d} first second third =
    (λ i. second i ++ third i) ∙ ap (λ s. (s ++ b) ++ c) first ∙ joined
  where
    joined : ((t ++ a) ++ b) ++ c ≡ t ++ (a ++ b ++ c)
    joined = simp append_assoc
