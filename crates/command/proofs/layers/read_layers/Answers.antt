use Rattle.std.proofs.Common.{rules, map, option_map, string_bytes}
use Rattle.requests.specs.Views.{frame_of, indices_of}
use Rattle.command.proofs.HeightWords.{heights_asked, no_words}
use Rattle.command.proofs.layers.read_layers.Goals as goal

pub returns-in-empty-clause-is : goal.returns-in-empty-clause-is
returns-in-empty-clause-is c =
    heights_asked (map string_bytes c.args.arguments.now) (indices_of c.in_ok-indices.indices, map string_bytes c.in_ok-indices.others.now)
    (option_map frame_of c.in_ok-frame.frame, map string_bytes c.in_ok-frame.others.now)
    (c.split_form-form.result.0, map string_bytes c.split_form-form.result.1.now) c.split_format-format.result.0
    (map string_bytes c.split_format-format.result.1.now) _ (search rules) (search rules) (search rules) c.split_format-format.ensures (no_words string_bytes c.split_format-format.result.1.now c.in-empty.len_below) c.heights_request.ensures.is
