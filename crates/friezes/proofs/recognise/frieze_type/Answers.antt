use Rattle.std.proofs.Common.{sym, subst}
use Rattle.friezes.specs.Order.{IsFirst}
use Rattle.friezes.specs.Types.{HasChange}
use Rattle.friezes.proofs.Recognised.{first_change}
use Rattle.friezes.proofs.recognise.frieze_type.Goals as goal

pub returns : goal.returns
returns c =
    subst (IsFirst (HasChange c.args.section.now)) (λ i. record { number = sym c.number.ensures i; x = sym c.origin.ensures i })
    (first_change c.args.section.now c.requires c.shift_of-glide.result c.shift_of-mirror.result c.shift_of-turn.result
    c.shift_of-glide.ensures c.shift_of-mirror.ensures c.shift_of-turn.ensures)
