-- Both products are within 10 ^ 36.
use Rattle.std.proofs.Common.{◌^◌, lit<}
use Rattle.slabs.proofs.HeightNumbers.{less_tells, wide_product}
use Rattle.slabs.proofs.heights.is_empty.Goals as goal

pub returns : goal.returns
returns c =
    let low = c.args.low in
    let high = c.args.high in
    let n = 10 ^ 18 in
    less_tells _ _ _ _
    (wide_product n n high.num low.den (lit< tt) (lit< tt) c.requires.high.num c.requires.low.den _ _ (lit< tt) c.num.ensures c.den.ensures)
    (wide_product n n low.num high.den (lit< tt) (lit< tt) c.requires.low.num c.requires.high.den _ _ (lit< tt) c.num-2.ensures c.den-2.ensures)
