-- What is wrong with numbers that are no Miller indices, as a function.
use Rattle.std.proofs.Common.{◌≡◌, ◌↔◌, ℕ, zero, suc, pos, Option, Some, None, Result, Ok, Err, Bool, true, false, refl, sym, ap, arith}
use Rattle.std.specs.Prelude.{◌&&◌, nat_le, if◌then◌else◌, MatchOption, unsigned_abs}
use Rattle.std.specs.Bool.{Decides}
use Rattle.std.specs.Result.{result_err}
use Rattle.std.proofs.lemmas.Bool.{true≢false}
use Rattle.std.proofs.lemmas.Bool.Decides.{Decides-and, Decides-like}
use Rattle.std.proofs.lemmas.Int.{ints}
use Rattle.fractions.specs.LowestTerms.{gcd}
use Rattle.fractions.proofs.Gcd.{IsGcd-gcd}
use Rattle.symmetry.specs.Vectors.{Vector}
use Rattle.symmetry.specs.Sizes.{IsVectorWithin}
use Rattle.motions.specs.declared.miller.TheConstants.{INDEX}
use Rattle.motions.specs.declared.miller.PlaneFault.{PlaneFault}
use Rattle.motions.specs.declared.miller.PlaneFault.TheVariants.{OutOfRange}
use Rattle.motions.specs.PlaneFaults.{IsPlaneFault}
use Rattle.motions.specs.Divisors.{IsGreatestDivisor}
use Rattle.motions.proofs.Indices.{coprime_by_greatest, origin_by_greatest, greatest_of_three, no_fault}
use Rattle.requests.specs.Limits.{are_small_indices, divisor_fault, plane_fault}
use Rattle.requests.proofs.Numerals.{Decides-le}

module _ (row : Vector) where
  abbrev most : ℕ
  most = unsigned_abs INDEX

  small : Decides (are_small_indices row) (IsVectorWithin most row)
  small = Decides-like (are_small_indices row)
      (λ h. record { x = record { most = h.0.0 }; y = record { most = h.0.1 }; z = record { most = h.1 } })
      (λ h. ((h.x.most, h.y.most), h.z.most))
      (Decides-and (nat_le (unsigned_abs row.x) most && nat_le (unsigned_abs row.y) most) (nat_le (unsigned_abs row.z) most)
      (Decides-and (nat_le (unsigned_abs row.x) most) (nat_le (unsigned_abs row.y) most) (Decides-le (unsigned_abs row.x) most) (Decides-le (unsigned_abs row.y) most))
      (Decides-le (unsigned_abs row.z) most))

  -- the fault that the numbers have, or that they have none
  abbrev Tells : Option PlaneFault → Type 0
  Tells found = MatchOption found ((fault : PlaneFault) → ¬ IsPlaneFault row fault) (λ fault. IsPlaneFault row fault)

  tells : (b : Bool) (g : ℕ) → Decides b (IsVectorWithin most row) → IsGreatestDivisor g row → Tells (if b then divisor_fault g else Some OutOfRange)
  tells false g d h = λ w. true≢false (sym (d.1 w))
  tells true zero d h = origin_by_greatest {g = pos 0} row refl h
  tells true (suc zero) d h = no_fault row (coprime_by_greatest {g = pos 1} row refl h) (d.0 refl)
  tells true (suc (suc n)) d h = (d.0 refl, h, omega (arith, ints))

  found : Tells (plane_fault row)
  unfolding plane_fault
  found =
      let two = IsGcd-gcd (unsigned_abs row.x) (unsigned_abs row.y) in
      let three = IsGcd-gcd (gcd (unsigned_abs row.x) (unsigned_abs row.y)) (unsigned_abs row.z) in
      tells (are_small_indices row) _ small (greatest_of_three row refl refl refl two three)

  pub fault_is : {A : Type 0} (r : Result A PlaneFault) → ((fault : PlaneFault) → (r ≡ Err fault) ↔ IsPlaneFault row fault) → result_err r ≡ plane_fault row
  fault_is {A} r faults = by (plane_fault row) r found faults
    where
      by : (o : Option PlaneFault) (r : Result A PlaneFault) → Tells o → ((fault : PlaneFault) → (r ≡ Err fault) ↔ IsPlaneFault row fault) → result_err r ≡ o
      by None (Ok made) h faults = refl
      by (Some f) (Ok made) h faults = let e = (faults f).1 h in absurd cc
      by None (Err e) h faults = absurd (h e ((faults e).0 refl))
      by (Some f) (Err e) h faults = let is = (faults f).1 h in ap Some cc
