-- what the code's tests of the determinant say
use Rattle.std.proofs.Common.{◌≡◌, ℕ, ◌*◌, ℤ, pos, negsuc, ◌+ℤ◌, ◌-ℤ◌, ◌*ℤ◌, inl, inr, sym, ◌∙◌, ap, arith}
use Rattle.std.specs.Prelude.{◌↔◌, unsigned_abs}
use Rattle.std.proofs.lemmas.Int.{ints, unsigned_abs-mul}
use Rattle.symmetry.specs.HeightMotions.{IsSign}
use Rattle.motions.specs.PlaneMatrices.{Matrix2, determinant2}
use Rattle.motions.specs.Rationals.{IsMultiple}
use Rattle.recognition.specs.Listed.{TakesCentred}
use Rattle.integers.proofs.Spread.{spread, numerals_out}

unit_from_size : (d : ℤ) → unsigned_abs d ≡ 1 → IsSign d
unit_from_size (pos n) e = inl (ap pos e)
unit_from_size (negsuc n) e = inr (ap negsuc (omega (arith, e)))

size_of_unit : (d : ℤ) → IsSign d → unsigned_abs d ≡ 1
size_of_unit d (inl e) = ap unsigned_abs e
size_of_unit d (inr e) = ap unsigned_abs e

pub unit_is : (d : ℤ) → (unsigned_abs d ≡ 1) ↔ IsSign d
unit_is d = (unit_from_size d, size_of_unit d)

-- a matrix whose rows have even sums has an even determinant2
pub half_determinant : (p0 p1 q0 q1 a b : ℤ) → p0 +ℤ p1 ≡ pos 2 *ℤ a → q0 +ℤ q1 ≡ pos 2 *ℤ b → p0 *ℤ q1 -ℤ p1 *ℤ q0 ≡ pos 2 *ℤ (a *ℤ q1 -ℤ p1 *ℤ b)
half_determinant p0 p1 q0 q1 a b e f = grouped p0 p1 q0 q1 ∙ (λ i. e i *ℤ q1 -ℤ p1 *ℤ f i) ∙ regrouped p1 q1 a b
  where
    grouped : (p0 p1 q0 q1 : ℤ) → p0 *ℤ q1 -ℤ p1 *ℤ q0 ≡ (p0 +ℤ p1) *ℤ q1 -ℤ p1 *ℤ (q0 +ℤ q1)
    grouped p0 p1 q0 q1 = simp spread (omega (arith, ints))

    regrouped : (p1 q1 a b : ℤ) → (pos 2 *ℤ a) *ℤ q1 -ℤ p1 *ℤ (pos 2 *ℤ b) ≡ pos 2 *ℤ (a *ℤ q1 -ℤ p1 *ℤ b)
    regrouped p1 q1 a b = simp spread (simp numerals_out (omega (arith, ints)))

halved : (n : ℕ) → 2 * n ≡ 2 → n ≡ 1
halved n e = omega arith

pub centred_from_tests : (p : Matrix2) → IsMultiple (pos 2) (p.first.x +ℤ p.first.y) → IsMultiple (pos 2) (p.second.x +ℤ p.second.y) → unsigned_abs (determinant2 p) ≡ 2 → TakesCentred p
centred_from_tests p (a, e) (b, f) h =
    let z = a *ℤ p.second.y -ℤ p.first.y *ℤ b in
    record {
      a = a;
      b = b;
      first = e;
      second = f;
      unit =
          unit_from_size z
          (halved (unsigned_abs z) (sym (unsigned_abs-mul (pos 2) z) ∙ ap unsigned_abs (sym (half_determinant p.first.x p.first.y p.second.x p.second.y a b e f)) ∙ h));
    }

pub size_of_centred : (p : Matrix2) → TakesCentred p → unsigned_abs (determinant2 p) ≡ 2
size_of_centred p h =
    let z = h.a *ℤ p.second.y -ℤ p.first.y *ℤ h.b in
    ap unsigned_abs (half_determinant p.first.x p.first.y p.second.x p.second.y h.a h.b h.first h.second) ∙ unsigned_abs-mul (pos 2) z
    ∙ ap (λ n. 2 * n) (size_of_unit z h.unit)
