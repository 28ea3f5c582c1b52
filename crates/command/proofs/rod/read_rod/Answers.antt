use Rattle.std.proofs.Common.{rules, map, string_bytes}
use Rattle.requests.specs.RodViews.{line_words}
use Rattle.command.proofs.LineWords.{no_rod_asked}
use Rattle.command.proofs.rod.read_rod.Goals as goal

pub returns-in_default-clause-is : goal.returns-in_default-clause-is
returns-in_default-clause-is c =
    no_rod_asked string_bytes (map string_bytes c.args.arguments.now)
    (line_words c.in_ok-line.line, map string_bytes c.in_ok-line.others.now) c.split_format-format.result.0
    c.split_format-format.result.1.now (search rules) c.split_format-format.ensures c.in_default.len_at_least
