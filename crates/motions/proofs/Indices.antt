-- Which triples of numbers are Miller indices, and what is wrong with any other.
use Rattle.std.proofs.Common.{◌≡◌, ◌↔◌, ◌∙◌, ℕ, zero, suc, ◌<◌, ◌≤◌, ℤ, pos, sym, ap, refl, subst, inl, inr, ◌⊎◌, arith, FitsSigned, w64}
use Rattle.std.specs.Prelude.{Result, Err, unsigned_abs}
use Rattle.std.specs.Int.{◌∣◌, IsGcd}
use Rattle.std.proofs.Math.Nat.{one-dvd, eq-zero_of_zero-dvd}
use Rattle.std.proofs.lemmas.Int.{ints, to_z-of_z}
use Rattle.std.proofs.lemmas.Nat.Gcd.{dvd-zero, dvd_trans, dvd_antisymm, le_of_dvd}
use Rattle.integers.specs.Size.{IsWithin}
use Rattle.integers.proofs.Ring.{abs-zero}
use Rattle.integers.proofs.Coded.{again}
use Rattle.symmetry.specs.Vectors.{Vector, opposite, origin}
use Rattle.symmetry.specs.Planes.{IsCoprime}
use Rattle.symmetry.specs.Sizes.{IsVectorWithin}
use Rattle.symmetry.proofs.Coprime.{not_opposite}
use Rattle.symmetry.proofs.VectorLaws.{vector_path, opposite-origin}
use Rattle.motions.specs.declared.miller.TheConstants.{INDEX}
use Rattle.motions.specs.declared.miller.PlaneFault.{PlaneFault}
use Rattle.motions.specs.declared.miller.PlaneFault.TheVariants.{OutOfRange, AllZero, NotCoprime}
use Rattle.motions.specs.Divisors.{IsGreatestDivisor}
use Rattle.motions.specs.PlaneFaults.{IsPlaneFault}

abbrev pub row : ℤ → ℤ → ℤ → Vector
row h k l = record { x = h; y = k; z = l }

-- ---- greatest common divisors

-- of the sizes of two numbers, and of that and the size of the third
pub greatest_of_three : (r : Vector) {a b c d g : ℕ} → a ≡ unsigned_abs r.x → b ≡ unsigned_abs r.y → c ≡ unsigned_abs r.z
    → IsGcd a b d → IsGcd d c g → IsGreatestDivisor g r
greatest_of_three r {a} {b} {c} {d} {g} p q s two three = record {
  x = subst (λ n. g ∣ n) p (dvd_trans g three.0 two.0);
  y = subst (λ n. g ∣ n) q (dvd_trans g three.0 two.1);
  z = subst (λ n. g ∣ n) s three.1;
  greatest = λ k x y z.
      three.2 k (two.2 k (subst (λ n. k ∣ n) (sym p) x) (subst (λ n. k ∣ n) (sym q) y)) (subst (λ n. k ∣ n) (sym s) z);
}

pub coprime_by_greatest : {g : ℤ} (r : Vector) → g ≡ pos 1 → IsGreatestDivisor (unsigned_abs g) r → IsCoprime r
coprime_by_greatest r e h =
    let one : IsGreatestDivisor 1 r = subst (λ g. IsGreatestDivisor (unsigned_abs g) r) e h in
    λ d x y z. dvd_antisymm (one.greatest d x y z) (one-dvd d)

pub origin_by_greatest : {g : ℤ} (r : Vector) → g ≡ pos 0 → IsGreatestDivisor (unsigned_abs g) r → r ≡ origin
origin_by_greatest r e h =
    let none : IsGreatestDivisor 0 r = subst (λ g. IsGreatestDivisor (unsigned_abs g) r) e h in
    vector_path (abs-zero r.x (eq-zero_of_zero-dvd none.x)) (abs-zero r.y (eq-zero_of_zero-dvd none.y)) (abs-zero r.z (eq-zero_of_zero-dvd none.z))

greatest_of_origin : (g : ℕ) (r : Vector) → r ≡ origin → IsGreatestDivisor g r → g ≡ 0
greatest_of_origin g r e h =
    let all : IsGreatestDivisor g origin = subst (IsGreatestDivisor g) e h in
    eq-zero_of_zero-dvd (all.greatest 0 (dvd-zero 0) (dvd-zero 0) (dvd-zero 0))

-- a divisor of a number is no larger, or the number is 0
within_or_zero : (n g m : ℕ) → g ∣ m → m ≤ n → (g ≤ n) ⊎ (m ≡ 0)
within_or_zero n g zero d h = inr refl
within_or_zero n g (suc m) d h =
    let positive : 0 < suc m = omega arith in
    let le = le_of_dvd positive d in
    inl (omega arith)

pub greatest_within : (n g : ℕ) (r : Vector) → IsVectorWithin n r → IsGreatestDivisor g r → g ≤ n
greatest_within n g r w h =
    elim (within_or_zero n g (unsigned_abs r.x) h.x w.x.most) [
      | inl le ↦ le
      | inr x ↦ elim (within_or_zero n g (unsigned_abs r.y) h.y w.y.most) [
        | inl le ↦ le
        | inr y ↦ elim (within_or_zero n g (unsigned_abs r.z) h.z w.z.most) [ inl le ↦ le | inr z ↦ at_zero x y z ]
      ]
    ]
  where
    at_zero : unsigned_abs r.x ≡ 0 → unsigned_abs r.y ≡ 0 → unsigned_abs r.z ≡ 0 → g ≤ n
    at_zero x y z =
        let e = greatest_of_origin g r (vector_path (abs-zero r.x x) (abs-zero r.y y) (abs-zero r.z z)) h in
        omega arith

same_greatest : (g k : ℕ) (r : Vector) → IsGreatestDivisor g r → IsGreatestDivisor k r → g ≡ k
same_greatest g k r h i = dvd_antisymm (i.greatest g h.x h.y h.z) (h.greatest k i.x i.y i.z)

-- ---- faults

origin_within : (n : ℕ) (r : Vector) → r ≡ origin → IsVectorWithin n r
origin_within n r e = subst (IsVectorWithin n) (sym e) (record { x = nothing; y = nothing; z = nothing })
  where
    nothing : IsWithin n (pos 0)
    nothing = record { most = omega arith }

abbrev pub refusal : (M : Type 0) → PlaneFault → Result M PlaneFault
refusal M f = Err f

-- three numbers have at most one fault
one_fault : (r : Vector) (f e : PlaneFault) → IsPlaneFault r f → IsPlaneFault r e → f ≡ e
one_fault r OutOfRange OutOfRange h k = refl
one_fault r OutOfRange AllZero h k = absurd (h (origin_within (unsigned_abs INDEX) r k))
one_fault r OutOfRange (NotCoprime g) h k = absurd (h k.0)
one_fault r AllZero OutOfRange h k = absurd (k (origin_within (unsigned_abs INDEX) r h))
one_fault r AllZero AllZero h k = refl
one_fault r AllZero (NotCoprime g) h k = let e = greatest_of_origin (unsigned_abs g) r h k.1 in absurd (omega (arith, ints, k.2))
one_fault r (NotCoprime g) OutOfRange h k = absurd (k h.0)
one_fault r (NotCoprime g) AllZero h k = let e = greatest_of_origin (unsigned_abs g) r k h.1 in absurd (omega (arith, ints, h.2))
one_fault r (NotCoprime g) (NotCoprime d) h k =
    let e = same_greatest (unsigned_abs g) (unsigned_abs d) r h.1 k.1 in
    ap NotCoprime (omega (arith, ints, h.2, k.2))

-- and Miller indices have none
pub no_fault : (r : Vector) → IsCoprime r → IsVectorWithin (unsigned_abs INDEX) r → (f : PlaneFault) → ¬ (IsPlaneFault r f)
no_fault r coprime within OutOfRange h = h within
no_fault r coprime within AllZero h = not_opposite r coprime (h ∙ sym opposite-origin ∙ ap opposite (sym h))
no_fault r coprime within (NotCoprime g) h =
    let e : unsigned_abs g ≡ 1 = coprime (unsigned_abs g) h.1.x h.1.y h.1.z in
    absurd (omega (arith, ints, h.2))

-- so a refusal names the fault, and is the only one
pub refused : {M : Type 0} (r : Vector) (f : PlaneFault) → IsPlaneFault r f → (e : PlaneFault)
    → (refusal M f ≡ refusal M e) ↔ IsPlaneFault r e
refused {M} r f h e =
    (λ (q : refusal M f ≡ refusal M e). let same : f ≡ e = cc in subst (IsPlaneFault r) same h, λ k. ap (refusal M) (one_fault r f e h k))

-- ---- numbers that were passed

-- three numbers that went to bits and back
pub passed : {h k l : ℤ} → FitsSigned w64 h → FitsSigned w64 k → FitsSigned w64 l → row (again h) (again k) (again l) ≡ row h k l
passed {h} {k} {l} p q s = vector_path (to_z-of_z w64 h p) (to_z-of_z w64 k q) (to_z-of_z w64 l s)
