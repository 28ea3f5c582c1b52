-- The orientation at a place, where the triple there is coprime.
use Rattle.std.proofs.Common.{◌≡◌, ◌↔◌, ℕ, ℤ, pos, ◌≤ℤ◌, Option, Result, Ok, Err, IfOk, refl, sym, ◌∙◌, ap, subst, lit<, arith, unsigned_abs}
use Rattle.std.specs.Prelude.{MatchOption}
use Rattle.std.specs.Result.{result_ok}
use Rattle.std.proofs.lemmas.Int.{ints}
use Rattle.integers.specs.Size.{IsWithin}
use Rattle.integers.proofs.Coded.{again, again_is}
use Rattle.symmetry.specs.Sizes.{IsVectorWithin}
use Rattle.symmetry.specs.Vectors.{Vector}
use Rattle.symmetry.proofs.VectorLaws.{vector_path}
use Rattle.motions.specs.declared.miller.TheConstants.{INDEX}
use Rattle.motions.specs.declared.miller.Miller.{Miller}
use Rattle.motions.specs.declared.miller.PlaneFault.{PlaneFault}
use Rattle.motions.specs.PlaneFaults.{IsPlaneFault}
use Rattle.motions.specs.Views.{row_of}
use Rattle.motions.proofs.Indices.{no_fault}
use Rattle.surveys.specs.Places.{place_of}
use Rattle.surveys.specs.Surveys.{IsWithinSurvey}
use Rattle.surveys.proofs.Digits.{one_triple}

-- what an answer at the place says
abbrev pub IsAtPlace : ℤ → ℕ → Option Miller → Type 0
IsAtPlace n p o = MatchOption o
    ((r : Vector) → IsWithinSurvey (unsigned_abs n) r → ¬ (place_of n r ≡ pos p))
    (λ (plane : Miller). IsVectorWithin (unsigned_abs n) (row_of plane) × (place_of n (row_of plane) ≡ pos p))

module _ (n : ℤ) (from : pos 1 ≤ℤ n) (most : n ≤ℤ pos 5) (p : ℕ) (v : Vector) where
  number_is : again n ≡ n
  number_is = again_is n 5 (record { most = omega (arith, ints, from, most) }) (lit< tt)

  abbrev coded : Vector
  coded = record { x = again v.x; y = again v.y; z = again v.z }

  module _ (within : IsVectorWithin (unsigned_abs n) v) (place : place_of n v ≡ pos p) where
    coded_is : coded ≡ v
    coded_is = vector_path (entry v.x within.x) (entry v.y within.y) (entry v.z within.z)
      where
        entry : (z : ℤ) → IsWithin (unsigned_abs n) z → again z ≡ z
        entry z h = again_is z 5 (record { most = omega (arith, ints, h.most, from, most) }) (lit< tt)

    in_range : IsVectorWithin (unsigned_abs INDEX) v
    in_range = record { x = entry v.x within.x; y = entry v.y within.y; z = entry v.z within.z }
      where
        entry : (z : ℤ) → IsWithin (unsigned_abs n) z → IsWithin (unsigned_abs INDEX) z
        entry z h = record { most = omega (arith, ints, h.most, from, most) }

    by_result : (made : Result Miller PlaneFault) → IfOk made (λ (plane : Miller). row_of plane ≡ v) → ((f : PlaneFault) → (made ≡ Err f) ↔ IsPlaneFault v f)
        → IsAtPlace n p (result_ok made)
    by_result (Ok plane) is faults = (subst (IsVectorWithin (unsigned_abs n)) (sym is) within, ap (place_of n) is ∙ place)
    by_result (Err f) is faults = λ r inside there.
        let same : r ≡ v = one_triple n from r v inside.size within (there ∙ sym place) in
        no_fault r inside.coprime (subst (IsVectorWithin (unsigned_abs INDEX)) (sym same) in_range) f
        (subst (λ u. IsPlaneFault u f) (sym same) ((faults f).0 refl))

  pub at_place : IsVectorWithin (unsigned_abs (again n)) v → place_of (again n) v ≡ pos p → (made : Result Miller PlaneFault)
      → IfOk made (λ (plane : Miller). row_of plane ≡ coded) → ((f : PlaneFault) → (made ≡ Err f) ↔ IsPlaneFault coded f)
      → (o : Option Miller) → o ≡ result_ok made → IsAtPlace n p o
  at_place within place made is faults o e =
      let small = subst (λ z. IsVectorWithin (unsigned_abs z) v) number_is within in
      let there = subst (λ z. place_of z v ≡ pos p) number_is place in
      subst (IsAtPlace n p) (sym e)
      (by_result small there made (subst (λ u. IfOk made (λ (plane : Miller). row_of plane ≡ u)) (coded_is small there) is)
      (subst (λ u. (f : PlaneFault) → (made ≡ Err f) ↔ IsPlaneFault u f) (coded_is small there) faults))
