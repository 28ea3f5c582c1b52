-- `layers`: the report of all heights of an orientation.
use Rattle.std.specs.Prelude.{ℕ, List, Option, None, Result, option_and_then, option_map}
use Rattle.requests.specs.declared.request.Form.{Form}
use Rattle.requests.specs.declared.request.Format.{Format}
use Rattle.requests.specs.declared.refusal.Refusal.{Refusal}
use Rattle.requests.specs.Words.{at_end, form_first, format_first, frame_first, FrameWords, Indices, indices_first}
use Rattle.requests.specs.Limits.{within_limits}
use Rattle.requests.specs.Questions.{Asked, about, all_heights, result_map}

-- all heights are asked for in the frame, or the first limit is passed
abbrev pub layers_asked : Indices → Option FrameWords → Form → Format → Result Asked Refusal
layers_asked indices frame form format =
    result_map (λ p. about format (all_heights p.row p.basis form)) (within_limits (record { indices = indices; frame = frame; height = None }))

-- `h k l` or `h k i l`, behind it a frame, `--json` and `--cif`
abbrev pub layers_words : List (List ℕ) → Option (Result Asked Refusal)
layers_words words =
    option_and_then (λ indices. option_and_then (λ frame.
    let form = form_first frame.1 in option_map (layers_asked indices.0 frame.0 form.0) (at_end (format_first form.1)))
    (frame_first indices.1)) (indices_first words)
