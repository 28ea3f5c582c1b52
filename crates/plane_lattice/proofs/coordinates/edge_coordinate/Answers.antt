-- The product with UNIT fits, and the quotient is exact.
use Rattle.std.proofs.Common.{◌*◌, ◌*ℤ◌, ◌∙◌, ap, lit<, lit≤}
use Rattle.std.specs.Prelude.{unsigned_abs}
use Rattle.std.specs.Int.{int_div_euclid, w64}
use Rattle.std.proofs.lemmas.Int.{to_z-of_z}
use Rattle.fractions.specs.declared.part.TheConstants.{UNIT}
use Rattle.integers.specs.Size.{IsWithin}
use Rattle.integers.proofs.Coded.{again}
use Rattle.integers.proofs.Ring.{IsWithin-mul}
use Rattle.integers.proofs.Wide.{wide, wide_is}
use Rattle.plane_lattice.specs.Bounds.{largest_scaled}
use Rattle.plane_lattice.proofs.Quotients.{IsWithin-div_euclid, exact_quotient}
use Rattle.plane_lattice.proofs.coordinates.edge_coordinate.Goals as goal

pub returns : goal.returns
returns c =
    let x = c.args.x in
    let d = c.args.d in
    let product : IsWithin (largest_scaled * unsigned_abs UNIT) (x *ℤ UNIT) = IsWithin-mul {n = unsigned_abs UNIT} c.requires.x (record { most = lit≤ tt }) in
    let quotient = IsWithin-div_euclid (largest_scaled * unsigned_abs UNIT) (x *ℤ UNIT) d c.requires.positive product in
    let computed = c.div_euclid.ensures
    ∙ (λ i. int_div_euclid ((ap (λ z. wide (z *ℤ UNIT)) (wide_is largest_scaled x (lit< tt) c.requires.x) ∙ wide_is (largest_scaled * unsigned_abs UNIT) (x *ℤ UNIT) (lit< tt) product) i)
    (wide_is largest_scaled d (lit< tt) c.requires.d i)) in
    ap (λ q. d *ℤ again (wide q)) computed
    ∙ ap (λ q. d *ℤ again q) (wide_is (largest_scaled * unsigned_abs UNIT) (int_div_euclid (x *ℤ UNIT) d) (lit< tt) quotient)
    ∙ ap (λ q. d *ℤ q) (to_z-of_z w64 (int_div_euclid (x *ℤ UNIT) d) c.requires.fits)
    ∙ exact_quotient (x *ℤ UNIT) d c.requires.positive c.requires.whole
