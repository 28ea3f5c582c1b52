-- Requests, and why words are refused.
use Rattle.std.specs.Prelude.{ℕ, List, [], ◌∷◌, if◌then◌else◌, Option, Some, None, Result, Err, codes}
use Rattle.std.specs.Str.{bytes_eq}
use Rattle.requests.specs.declared.refusal.Refusal.{Refusal}
use Rattle.requests.specs.declared.refusal.Refusal.TheVariants.{Usage}
use Rattle.requests.specs.Questions.{Asked}
use Rattle.command.specs.At.{at_words}
use Rattle.command.specs.Slabs.{slab_words}
use Rattle.command.specs.Layers.{layers_words}
use Rattle.command.specs.Images.{images_words}
use Rattle.command.specs.Surveys.{survey_words}
use Rattle.command.specs.Rods.{rod_words}
use Rattle.command.specs.Lines.{lines_words}
use Rattle.command.specs.Types.{types_words}
use Rattle.command.specs.Samples.{sample_words}

-- what a command asks for, or the first limit that it passes: its name, and its arguments behind it
abbrev pub command_words : List (List ℕ) → Option (Result Asked Refusal)
command_words [] = None
command_words (name ∷ arguments) =
    if bytes_eq name (codes "at") then at_words arguments else
    if bytes_eq name (codes "slab") then slab_words arguments else
    if bytes_eq name (codes "layers") then layers_words arguments else
    if bytes_eq name (codes "images") then images_words arguments else
    if bytes_eq name (codes "survey") then survey_words arguments else
    if bytes_eq name (codes "rod") then rod_words arguments else
    if bytes_eq name (codes "lines") then lines_words arguments else
    if bytes_eq name (codes "types") then types_words arguments else
    if bytes_eq name (codes "sample") then sample_words arguments else None

-- what is no command is refused
abbrev pub or_usage : Option (Result Asked Refusal) → Result Asked Refusal
or_usage (Some read) = read
or_usage None = Err Usage

-- what the words ask for, or why they are refused
unfoldable pub asked_by : List (List ℕ) → Result Asked Refusal
asked_by words = or_usage (command_words words)
