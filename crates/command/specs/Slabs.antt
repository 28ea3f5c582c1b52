-- `slab`: the operations that map a slab to itself.
use Rattle.std.specs.Prelude.{ℕ, List, Option, Result, option_and_then, option_map}
use Rattle.requests.specs.declared.request.Format.{Format}
use Rattle.requests.specs.declared.refusal.Refusal.{Refusal}
use Rattle.requests.specs.Words.{at_end, format_first, frame_first, three_indices}
use Rattle.requests.specs.RodWords.{ratio_first}
use Rattle.requests.specs.SlabLimits.{SlabWords, within_slab_limits}
use Rattle.requests.specs.Questions.{Asked, about, between_heights, result_map}

-- the slab is asked for in the frame, or the first limit is passed
abbrev pub slab_asked : SlabWords → Format → Result Asked Refusal
slab_asked words format =
    result_map (λ p. about format (between_heights p.row p.basis words.low words.high)) (within_slab_limits words)

-- `h k l s1 s2`, and a frame behind them
abbrev pub slab_first : List (List ℕ) → Option (SlabWords × List (List ℕ))
slab_first words =
    option_and_then (λ indices. option_and_then (λ low. option_and_then (λ high. option_map (λ frame.
    (record { indices = indices.0; frame = frame.0; low = low.0; high = high.0 }, frame.1))
    (frame_first high.1)) (ratio_first low.1)) (ratio_first indices.1)) (three_indices words)

-- a slab, and last `--cif`
abbrev pub slab_words : List (List ℕ) → Option (Result Asked Refusal)
slab_words words = option_and_then (λ slab. option_map (slab_asked slab.0) (at_end (format_first slab.1))) (slab_first words)
