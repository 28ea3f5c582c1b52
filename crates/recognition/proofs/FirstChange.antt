-- The first change from its steps.
use Rattle.std.proofs.Common.{◌≡◌, ℕ, ◌<◌, ◌≤◌, ◌⊎◌, inl, inr, refl, subst, List}
use Rattle.motions.specs.declared.layer.LayerMotion.{LayerMotion}
use Rattle.motions.specs.PlaneMatrices.{Matrix2}
use Rattle.recognition.specs.Changes.{Carries}
use Rattle.recognition.specs.Order.{Change, IsBefore, IsBounded, IsChangeOf, IsFirstChange, IsTypeNumber, origin_at}
use Rattle.recognition.specs.Search.{HasNoMatrix, IsFirstMatrix}
use Rattle.recognition.proofs.MatrixOrders.{before_or_same}

change_path : (c d : Change) → c.number ≡ d.number → c.matrix ≡ d.matrix → c.x ≡ d.x → c.y ≡ d.y → c ≡ d
change_path c d k p x y = λ i. record { number = k i; matrix = p i; x = x i; y = y i }

abbrev change : ℕ → Matrix2 → ℕ → ℕ → Change
change k p x y = record { number = k; matrix = p; x = x; y = y }

module _ (section : List LayerMotion) where
  abbrev At : ℕ → Matrix2 → ℕ → ℕ → Type 0
  At n p x y = Carries section n p (origin_at x y)

  pub first_change : (k : ℕ) (p : Matrix2) (x y : ℕ) → IsTypeNumber k → ((n : ℕ) → 1 ≤ n → n < k → HasNoMatrix (At n)) → IsFirstMatrix (At k) p x y
      → IsFirstChange section (record { number = k; matrix = p; x = x; y = y })
  first_change k p x y within none f = record {
    bounded = record { number = within; matrix = f.bounded; x = f.origin.origin.0; y = f.origin.origin.1 };
    carries = f.origin.has;
    first = before;
  }
    where
      before : (d : Change) → IsBounded d → IsChangeOf section d → (d ≡ change k p x y) ⊎ IsBefore (change k p x y) d
      before d b h =
          let at : (q : Matrix2) → d.number ≡ k → d.matrix ≡ q → At k q d.x d.y =
          λ q ek ep. subst (IsChangeOf section) (change_path d (change k q d.x d.y) ek ep refl refl) h in
          before_or_same k d.number p d.matrix
          (λ less. none d.number b.number.0 less d.matrix b.matrix d.x d.y (b.x, b.y) h)
          (λ ek less. f.first d.matrix b.matrix less d.x d.y (b.x, b.y) (at d.matrix ek refl))
          (λ ek ep. elim (f.origin.least d.x d.y (b.x, b.y) (at p ek ep)) [ inl s ↦ inl (change_path d (change k p x y) ek ep s.0 s.1) | inr s ↦ inr s ])
