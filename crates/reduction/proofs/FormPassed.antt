-- The numbers that the code passes to the form.
use Rattle.std.proofs.Common.{◌≡◌, ℤ, pos, ◌-ℤ◌, ◌*ℤ◌, ◌≤ℤ◌, ◌<ℤ◌, sym, subst, ◌∙◌, lit<, arith}
use Rattle.std.specs.Int.{int_div_euclid}
use Rattle.std.proofs.lemmas.Int.{ints}
use Rattle.integers.specs.Size.{IsWithin}
use Rattle.integers.proofs.Coded.{again, again_is}
use Rattle.integers.proofs.Wide.{wide, wide_is}
use Rattle.plane_lattice.specs.Laws.QuotientLaws.{div_euclid_from}
use Rattle.plane_lattice.proofs.Quotients.{IsWithin-div_euclid}
use Rattle.reduction.specs.Bounds.{largest_form, largest_short, largest_form_value}

pub form_again : (x : ℤ) → IsWithin largest_form x → again x ≡ x
form_again x h = again_is x largest_form h (lit< tt)

pub short_again : (x : ℤ) → IsWithin largest_short x → again x ≡ x
short_again x h = again_is x largest_short h (lit< tt)

pub form_within : (x : ℤ) → IsWithin largest_form x → IsWithin largest_form (again x)
form_within x h = let P : ℤ → Type 0 = IsWithin largest_form in subst P (sym (form_again x h)) h

pub short_again_within : (x : ℤ) → IsWithin largest_short x → IsWithin largest_short (again x)
short_again_within x h = let P : ℤ → Type 0 = IsWithin largest_short in subst P (sym (short_again x h)) h

pub value_wide : (x : ℤ) → IsWithin largest_form_value x → wide x ≡ x
value_wide x h = wide_is largest_form_value x (lit< tt) h

-- the quotient is a multiple that is small enough
pub multiple_below : (h a k : ℤ) → IsWithin largest_form_value h → IsWithin largest_form_value a → pos 1 ≤ℤ a → a <ℤ (pos 2 *ℤ h)
    → k ≡ int_div_euclid (wide h) (wide a) → (wide k *ℤ a) <ℤ (pos 2 *ℤ h)
multiple_below h a k hh ha from below is =
    let k_is : k ≡ int_div_euclid h a = is ∙ (λ i. int_div_euclid (value_wide h hh i) (value_wide a ha i)) in
    let P : ℤ → Type 0 = IsWithin largest_form_value in
    let k_small : IsWithin largest_form_value k = subst P (sym k_is) (IsWithin-div_euclid largest_form_value h a from hh) in
    let d : pos 0 ≤ℤ (h -ℤ a *ℤ k) = subst (λ z. pos 0 ≤ℤ (h -ℤ a *ℤ z)) (sym k_is) (div_euclid_from h a from) in
    subst (λ z. (z *ℤ a) <ℤ (pos 2 *ℤ h)) (sym (value_wide k k_small)) (omega (arith, ints, d))
