use Rattle.requests.proofs.Indices.{parsed, too_long}
use Rattle.requests.proofs.words.read_index.Goals as goal

pub returns-then-is_short : goal.returns-then-is_short
returns-then-is_short c =
    let short = rw c.as_bytes.ensures.value at (c.is_short.ensures.0 c.if-is_short.true) in
    rw c.ok.ensures.value (parsed c.args.word.now c.parse.result short.0 short.1 c.parse.ensures.value.0)

pub returns-else-is_short : goal.returns-else-is_short
returns-else-is_short c =
    let short = rw c.as_bytes.ensures.value at c.is_short.ensures in
    too_long c.args.word.now (λ s. let e = short.1 s in cc)
