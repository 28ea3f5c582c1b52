-- `at`: the operations that map one plane to itself.
use Rattle.std.specs.Prelude.{ℕ, List, Option, Some, Result, option_and_then, option_map}
use Rattle.fractions.specs.Fraction.{Fraction}
use Rattle.requests.specs.declared.request.Format.{Format}
use Rattle.requests.specs.declared.refusal.Refusal.{Refusal}
use Rattle.requests.specs.Words.{at_end, first_word, format_first, frame_first, FrameWords, Indices, ratio_to_end, three_indices}
use Rattle.requests.specs.Limits.{within_limits}
use Rattle.requests.specs.Questions.{Asked, about, at_height, result_map}

-- the height is asked for in the frame, or the first limit is passed
abbrev pub at_asked : Indices → Fraction → Option FrameWords → Format → Result Asked Refusal
at_asked indices s frame format =
    result_map (λ p. about format (at_height p.row p.basis s)) (within_limits (record { indices = indices; frame = frame; height = Some s }))

-- `h k l s`, behind it a frame, and last `--cif`
abbrev pub at_words : List (List ℕ) → Option (Result Asked Refusal)
at_words words =
    option_and_then (λ indices. option_and_then (λ s. option_and_then (λ frame. option_map (at_asked indices.0 s.0 frame.0) (at_end (format_first frame.1)))
    (frame_first s.1)) (first_word (λ word. ratio_to_end word 0) indices.1)) (three_indices words)
