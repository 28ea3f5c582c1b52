-- Sameness is an equivalence, and how code tells it.
use Rattle.std.proofs.Common.{◌≡◌, ◌↔◌, ap, refl, sym, ◌∙◌}
use Rattle.quotient.specs.Kind.{AreShiftsGroup, IsEquivalence, IsMonoid, IsSame, Keeps, Kind, kind_of}

module _ (K : Kind) (monoid : IsMonoid K.then K.one) (shifts : AreShiftsGroup K) where
  pub same_reflexive : (m : K.Motion) → IsSame K m m
  same_reflexive m = record { shift = K.one; is_shift = shifts.identity; is = sym (monoid.one_right m) }

  -- m = n s, so n = m t for the inverse t of s
  pub same_symmetric : (m n : K.Motion) → IsSame K m n → IsSame K n m
  same_symmetric m n e =
      let (t, is_shift, undoes) = shifts.inverses e.shift e.is_shift in
      record {
        shift = t;
        is_shift = is_shift;
        is = sym (monoid.one_right n) ∙ ap (K.then n) (sym undoes.after) ∙ sym (monoid.assoc n e.shift t) ∙ ap (λ x. K.then x t) (sym e.is);
      }

  pub same_transitive : (l m n : K.Motion) → IsSame K l m → IsSame K m n → IsSame K l n
  same_transitive l m n e f = record {
    shift = K.then f.shift e.shift;
    is_shift = shifts.products f.shift e.shift f.is_shift e.is_shift;
    is = e.is ∙ ap (λ x. K.then x e.shift) f.is ∙ monoid.assoc n f.shift e.shift;
  }

  pub same_is_equivalence : IsEquivalence (IsSame K)
  same_is_equivalence = record { reflexive = same_reflexive; symmetric = same_symmetric; transitive = same_transitive }

  -- m n = (m' s) n = m' n s' = m' n' t s', where n carries the shift s into s'
  pub same_products : (m m' n n' : K.Motion) → Keeps K n → IsSame K m m' → IsSame K n n' → IsSame K (K.then m n) (K.then m' n')
  same_products m m' n n' keeps e f =
      let (s', is_shift, moved) = keeps e.shift e.is_shift in
      record {
        shift = K.then f.shift s';
        is_shift = shifts.products f.shift s' f.is_shift is_shift;
        is =
            ap (λ x. K.then x n) e.is
            ∙ monoid.assoc m' e.shift n
            ∙ ap (K.then m') (moved ∙ ap (λ x. K.then x s') f.is ∙ monoid.assoc n' f.shift s')
            ∙ sym (monoid.assoc m' n' (K.then f.shift s'));
      }

  -- m = n s, so first t and then m is n t' s, which is m s⁻¹ t' s
  pub keeps_same : (m n : K.Motion) → IsSame K m n → Keeps K n → Keeps K m
  keeps_same m n e keeps t is_shift =
      let (t', moved, is) = keeps t is_shift in
      let back = same_symmetric m n e in
      let s = K.then t' e.shift in
      let s_is : K.IsShift s = shifts.products t' e.shift moved e.is_shift in (
        K.then back.shift s,
        shifts.products back.shift s back.is_shift s_is,
        ap (K.then t) e.is
            ∙ sym (monoid.assoc t n e.shift)
            ∙ ap (λ x. K.then x e.shift) is
            ∙ monoid.assoc n t' e.shift
            ∙ ap (λ x. K.then x s) back.is
            ∙ monoid.assoc m back.shift s,
      )

-- the same as the identity is what a shift is
pub shift_is_same : {M S : Type 0} (meaning : M → S) {product : S → S → S} {one : S} (IsShift : M → Type 0) → IsMonoid product one
    → ((a b : M) → meaning a ≡ meaning b → IsShift a → IsShift b)
    → (x : M) (m : S) → meaning x ≡ m → IsShift x ↔ IsSame (kind_of meaning product one IsShift) m one
shift_is_same {M} {S} meaning {product} {one} IsShift monoid by_meaning x m is = (
  λ h. record { shift = meaning x; is_shift = (x, h, refl); is = sym is ∙ sym (monoid.one_left (meaning x)) },
  λ s.
      let (k, h, e) = s.is_shift in
      by_meaning k x (e ∙ sym (monoid.one_left s.shift) ∙ sym s.is ∙ sym is) h,
)

-- an equivalence of what values stand for is one of the values
pub IsEquivalence-of_values : {M S : Type 0} {Same : S → S → Type 0} (f : M → S) → IsEquivalence Same → IsEquivalence (λ (m n : M). Same (f m) (f n))
IsEquivalence-of_values f E = record {
  reflexive = λ a. E.reflexive (f a);
  symmetric = λ a b. E.symmetric (f a) (f b);
  transitive = λ a b c. E.transitive (f a) (f b) (f c);
}
