-- The least origin from its steps.
use Rattle.std.proofs.Common.{◌≡◌, ℕ, ◌<◌, ◌⊎◌, inl, inr, sym, subst}
use Rattle.integers.proofs.Order.{compare_nat}
use Rattle.recognition.specs.Grid.{grid}
use Rattle.recognition.specs.Search.{HasNoNumber, IsLeastOrigin, IsOrigin}
use Rattle.recognition.specs.Order.{IsOriginBefore}

module _ (C : ℕ → ℕ → Type 0) where
  pub least_origin : (x y : ℕ) → x < grid → ((u : ℕ) → u < x → HasNoNumber (C u)) → y < grid → C x y → ((v : ℕ) → v < y → ¬ C x v) → IsLeastOrigin C x y
  least_origin x y hx before hy has least = record { origin = (hx, hy); has = has; least = later }
    where
      later : (u v : ℕ) → IsOrigin u v → C u v → ((u ≡ x) × (v ≡ y)) ⊎ IsOriginBefore x y u v
      later u v (hu, hv) h =
          elim (compare_nat x u) [
            | inl less ↦ inr (inl less)
            | inr r ↦ elim r [
              | inr less ↦ absurd (before u less v hv h)
              | inl same ↦ elim (compare_nat y v) [
                | inl less ↦ inr (inr (same, less))
                | inr s ↦ elim s [
                  | inl is ↦ inl (sym same, sym is)
                  | inr less ↦ absurd (least v less (subst (λ k. C k v) (sym same) h))
                ]
              ]
            ]
          ]
