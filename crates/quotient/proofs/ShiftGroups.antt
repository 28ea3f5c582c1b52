-- Shifts that are the motions by the members of a group: that they are a group, which motions are the same, and which
-- motions carry shifts into shifts.
use Rattle.std.proofs.Common.{◌≡◌, ◌↔◌, sym, ap, subst, ◌∙◌}
use Rattle.quotient.specs.Kind.{Kind, AreShiftsGroup, IsSame, Keeps}

module _ (K : Kind) {V : Type 0} (by : V → K.Motion) (In : V → Type 0) (is_shift : (v : V) → In v → K.IsShift (by v))
    (shift_is : (s : K.Motion) → K.IsShift s → (v : V) × In v × (s ≡ by v)) where
  pub shifts_group : (zero : V) (plus : V → V → V) (opposite : V → V) → by zero ≡ K.one → ((v w : V) → K.then (by v) (by w) ≡ by (plus v w))
      → ((v : V) → plus v (opposite v) ≡ zero) → ((v : V) → plus (opposite v) v ≡ zero)
      → In zero → ((v w : V) → In v → In w → In (plus v w)) → ((v : V) → In v → In (opposite v)) → AreShiftsGroup K
  shifts_group zero plus opposite by_zero by-by after before zero_in plus_in opposite_in = record {
    identity = subst K.IsShift by_zero (is_shift zero zero_in);
    products = λ s t p q.
        let (v, h, e) = shift_is s p in
        let (w, k, f) = shift_is t q in
        subst K.IsShift (sym (by-by v w) ∙ sym (λ i. K.then (e i) (f i))) (is_shift (plus v w) (plus_in v w h k));
    inverses = λ s p.
        let (v, h, e) = shift_is s p in (
          by (opposite v),
          is_shift (opposite v) (opposite_in v h),
          record {
            after = ap (λ m. K.then m (by (opposite v))) e ∙ by-by v (opposite v) ∙ ap by (after v) ∙ by_zero;
            before = ap (K.then (by (opposite v))) e ∙ by-by (opposite v) v ∙ ap by (before v) ∙ by_zero;
          },
        );
  }

  -- the same but for a shift: by a member after the other
  pub same_by : (m n : K.Motion) → IsSame K m n ↔ ((v : V) × In v × (m ≡ K.then n (by v)))
  same_by m n = (
    λ s. let (v, h, e) = shift_is s.shift s.is_shift in (v, h, s.is ∙ ap (K.then n) e),
    λ (v, h, e). record { shift = by v; is_shift = is_shift v h; is = e },
  )

  -- where by v and then m is m and then by what m turns v to, it is to keep the members of the group
  pub keeps_by : (m : K.Motion) (turn : V → V) → ((v : V) → K.then (by v) m ≡ K.then m (by (turn v)))
      → ((v w : V) → K.then m (by v) ≡ K.then m (by w) → v ≡ w) → Keeps K m ↔ ((v : V) → In v → In (turn v))
  keeps_by m turn turned once = (
    λ keeps v h.
        let (t, p, e) = keeps (by v) (is_shift v h) in
        let (w, k, f) = shift_is t p in
        subst In (sym (once (turn v) w (sym (turned v) ∙ e ∙ ap (K.then m) f))) k,
    λ all t p.
        let (v, h, e) = shift_is t p in
        (by (turn v), is_shift (turn v) (all v h), ap (λ s. K.then s m) e ∙ turned v),
  )
