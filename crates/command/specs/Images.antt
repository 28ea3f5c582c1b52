-- `images`: the images of an orientation.
use Rattle.std.specs.Prelude.{ℕ, List, Option, None, Result, option_and_then, option_map}
use Rattle.requests.specs.declared.request.Format.{Format}
use Rattle.requests.specs.declared.refusal.Refusal.{Refusal}
use Rattle.requests.specs.Words.{at_end, format_first, Indices, three_indices}
use Rattle.requests.specs.Limits.{within_limits}
use Rattle.requests.specs.Questions.{Asked, about, image_rows, result_map}

-- the images of the row are asked for, or the first limit is passed
abbrev pub images_asked : Indices → Format → Result Asked Refusal
images_asked indices format =
    result_map (λ p. about format (image_rows p.row)) (within_limits (record { indices = indices; frame = None; height = None }))

-- `h k l`, and last `--cif`
abbrev pub images_words : List (List ℕ) → Option (Result Asked Refusal)
images_words words = option_and_then (λ indices. option_map (images_asked indices.0) (at_end (format_first indices.1))) (three_indices words)
