-- Two quotients and 0.
use Rattle.std.proofs.Common.{◌≡◌, ℤ, ◌∙◌, refl, lit<, lit≤, sym, subst}
use Rattle.std.specs.Int.{int_div_euclid}
use Rattle.integers.specs.Size.{IsWithin}
use Rattle.integers.proofs.Wide.{wide, wide_is}
use Rattle.symmetry.proofs.VectorLaws.{vector_path}
use Rattle.motions.specs.Views.{vector_of}
use Rattle.plane_lattice.specs.Bounds.{largest_scaled}
use Rattle.plane_lattice.proofs.coordinates.whole_part.Goals as goal

-- a quotient of numbers that were passed, and read again
module _ (q x d : ℤ) (hx : IsWithin largest_scaled x) (hd : IsWithin largest_scaled d) (small : IsWithin largest_scaled q) where
  read : q ≡ int_div_euclid (wide x) (wide d) → wide q ≡ int_div_euclid x d
  read e =
      wide_is largest_scaled q (lit< tt) small ∙ e
      ∙ (λ i. int_div_euclid (wide_is largest_scaled x (lit< tt) hx i) (wide_is largest_scaled d (lit< tt) hd i))

read_within : (q : ℤ) → IsWithin largest_scaled q → IsWithin largest_scaled (wide q)
read_within q h = let P : ℤ → Type 0 = IsWithin largest_scaled in subst P (sym (wide_is largest_scaled q (lit< tt) h)) h

pub returns : goal.returns
returns c =
    let v = vector_of c.args.scaled.now in
    let h = c.requires.scaled in
    record {
      is = vector_path (read c.floor.result v.x c.args.d h.x c.requires.d c.floor.ensures.small c.floor.ensures.is)
          (read c.floor-2.result v.y c.args.d h.y c.requires.d c.floor-2.ensures.small c.floor-2.ensures.is) refl;
      small = record {
        x = read_within c.floor.result c.floor.ensures.small;
        y = read_within c.floor-2.result c.floor-2.ensures.small;
        z = record { most = lit≤ tt };
      };
    }
