-- `rod`: the operations that map one line to itself, and their rod type.
use Rattle.std.specs.Prelude.{ℕ, List, Option, Result, option_and_then, option_map}
use Rattle.requests.specs.declared.request.Format.{Format}
use Rattle.requests.specs.declared.refusal.Refusal.{Refusal}
use Rattle.requests.specs.Words.{at_end, format_first}
use Rattle.requests.specs.RodWords.{direction_first, point_first, rod_frame_first}
use Rattle.requests.specs.RodLimits.{LineWords, within_line_limits}
use Rattle.requests.specs.Questions.{Asked, about, along_line, result_map}

-- the rod of the line is asked for in the rod frame, or the first limit is passed
abbrev pub rod_asked : LineWords → Format → Result Asked Refusal
rod_asked words format = result_map (λ l. about format (along_line l.direction l.basis.a l.basis.b l.point)) (within_line_limits words)

-- `u v w x y z`, and a rod frame behind it
abbrev pub line_first : List (List ℕ) → Option (LineWords × List (List ℕ))
line_first words =
    option_and_then (λ direction. option_and_then (λ point. option_map (λ frame.
    (record { direction = direction.0; frame = frame.0; point = point.0 }, frame.1))
    (rod_frame_first point.1)) (point_first direction.1)) (direction_first words)

-- a line, and last `--cif`
abbrev pub rod_words : List (List ℕ) → Option (Result Asked Refusal)
rod_words words = option_and_then (λ line. option_map (rod_asked line.0) (at_end (format_first line.1))) (line_first words)
