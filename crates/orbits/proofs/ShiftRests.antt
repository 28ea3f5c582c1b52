-- What is left of the shift of a motion without whole periods.
use Rattle.std.proofs.Common.{◌≡◌, ℕ, ◌<◌, ◌^◌, ℤ, pos, negsuc, ◌+ℤ◌, ◌*ℤ◌, ◌≤ℤ◌, ◌<ℤ◌, lit<, sym, ◌∙◌, subst, arith}
use Rattle.std.specs.Int.{int_rem_euclid}
use Rattle.std.proofs.lemmas.Int.{ints}
use Rattle.integers.specs.Size.{IsWithin}
use Rattle.integers.proofs.Coded.{again, again_is}
use Rattle.integers.proofs.Ring.{add_comm}
use Rattle.integers.proofs.Remainders.{divided}
use Rattle.plane_lattice.specs.Bounds.{largest_period}

-- x is the rest and some periods
pub record IsRest (x d rest : ℤ) : Type 0 where
  pub periods : ℤ
  pub is : x ≡ rest +ℤ periods *ℤ d
  pub from : pos 0 ≤ℤ rest
  pub below : rest <ℤ d

rest_is : (x d : ℤ) → pos 1 ≤ℤ d → IsRest x d (int_rem_euclid x d)
rest_is x (pos n) h =
    let by = divided n (omega (arith, ints)) x in
    subst (IsRest x (pos n)) (sym by.rem) (record {
      periods = by.times;
      is = by.is ∙ add_comm (by.times *ℤ pos n) (pos by.rest);
      from = omega (arith, ints);
      below = omega (arith, ints, by.below);
    })
rest_is x (negsuc n) h = absurd (omega (arith, ints))

-- as the code has it
module _ (x d rest : ℤ) (n : ℕ) (x_small : IsWithin n x) (small : n < 2 ^ 63) (d_small : IsWithin largest_period d) (positive : pos 1 ≤ℤ d)
    (is : rest ≡ int_rem_euclid (again x) (again d)) where
  pub coded_rest : IsRest x d rest
  coded_rest =
      subst (IsRest x d) (sym (is ∙ (λ i. int_rem_euclid (again_is x n x_small small i) (again_is d largest_period d_small (lit< tt) i)))) (rest_is x d positive)

  pub rest_within : IsWithin largest_period rest
  rest_within = let by = coded_rest in record { most = omega (arith, ints, by.from, by.below, d_small.most) }

  pub again_rest : again rest ≡ rest
  again_rest = again_is rest largest_period rest_within (lit< tt)
