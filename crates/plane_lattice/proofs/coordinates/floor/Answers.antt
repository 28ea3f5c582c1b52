-- The quotient is no larger than the number.
use Rattle.std.proofs.Common.{◌∙◌, ℤ, ap, sym, subst, lit<}
use Rattle.std.specs.Int.{int_div_euclid}
use Rattle.integers.specs.Size.{IsWithin}
use Rattle.integers.proofs.Wide.{wide, wide_is}
use Rattle.plane_lattice.specs.Bounds.{largest_scaled}
use Rattle.plane_lattice.proofs.Quotients.{IsWithin-div_euclid}
use Rattle.plane_lattice.proofs.coordinates.floor.Goals as goal

pub returns : goal.returns
returns c =
    let x = c.args.x in
    let d = c.args.d in
    let small = IsWithin-div_euclid largest_scaled x d c.requires.positive c.requires.x in
    let is = c.div_euclid.ensures
    ∙ (λ i. int_div_euclid (wide_is largest_scaled x (lit< tt) c.requires.x i) (wide_is largest_scaled d (lit< tt) c.requires.d i)) in
    let read = ap wide is ∙ wide_is largest_scaled (int_div_euclid x d) (lit< tt) small in
    let P : ℤ → Type 0 = IsWithin largest_scaled in
    record { is = read; small = subst P (sym read) small }
