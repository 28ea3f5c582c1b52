-- The steps for the matrices of a table, one after the other.
use Rattle.std.proofs.Common.{◌≡◌, ℕ, ◌+◌, ◌<◌, ◌≤◌, ◌⊎◌, inl, inr, ℤ, List, [], length, map, slice_index_or, refl, sym, ap, subst, ◌∙◌, arith}
use Rattle.motions.specs.declared.layer.LayerMotion.{LayerMotion}
use Rattle.motions.specs.PlaneMatrices.{Matrix2}
use Rattle.motions.specs.PlaneViews.{matrix2_of}
use Rattle.layer_types.specs.declared.layer_type.LayerType.{LayerType}
use Rattle.layer_types.specs.LayerTypes.{IsLayerType}
use Rattle.recognition.specs.Agreement.{IsAgreeing, IsWithinSteps, Pairing, steps_of_pair}
use Rattle.recognition.specs.Changes.{Carries}
use Rattle.recognition.specs.Order.{IsMatrixBefore, IsTypeNumber, origin_at}
use Rattle.recognition.specs.Search.{IsMatrixTable}
use Rattle.recognition.specs.Listed.{Agrees, TakesLattice}
use Rattle.recognition.proofs.AgreementLemma.{agrees_is}
use Rattle.recognition.proofs.ByTests.{carries_is}
use Rattle.recognition.proofs.FirstMatrix.{before_at, bounded_at}
use Rattle.recognition.proofs.MatrixOrders.{not_before, not_both_before}
use Rattle.recognition.proofs.StepsOfPairs.{within_more}

-- the matrix of a change takes the lattice of its type
pub carries_takes : (section : List LayerMotion) (n : ℕ) (t : LayerType) → IsLayerType n t → (q : Matrix2) (x y : ℕ) → Carries section n q (origin_at x y) → TakesLattice t.centred q
carries_takes section n t h q x y c = ((carries_is section n t q h x y).1 c).lattice

module _ (section : List LayerMotion) (n : ℕ) (number : IsTypeNumber n) (t : LayerType) (of_type : IsLayerType n t)
    (rows : List (List (List ℤ))) (table : IsMatrixTable t.centred (map matrix2_of rows)) (k : ℕ) (within : k < length rows) (s s' s'' : ℕ) where
  abbrev row : Matrix2
  row = matrix2_of (slice_index_or rows k [])

  -- a pair with one of the first matrices
  abbrev pub IsTried : ℕ → Pairing → Type 0
  IsTried i a = (a.number ≡ n) × IsAgreeing section a × ((j : ℕ) × (d : List (List ℤ)) × (j < i) × (a.matrix ≡ matrix2_of (slice_index_or rows j d)))

  abbrev here : Pairing
  here = record { number = n; matrix = row }

  agreeing : Agrees section t row → IsAgreeing section here
  agreeing h = record { number = number; bounded = bounded_at t.centred rows table k [] within; agrees = (agrees_is section n t row of_type).0 h }

  before_row : (j : ℕ) (d : List (List ℤ)) → j < k → IsMatrixBefore (matrix2_of (slice_index_or rows j d)) row
  before_row j d less = before_at t.centred rows table j k d [] less within

  apart : (b : Pairing) → IsTried k b → ¬ (b ≡ here)
  apart b (_, _, (j, d, less, is)) e =
      let P : Matrix2 → Type 0 = λ q. IsMatrixBefore q row in
      not_before row (subst P (sym is ∙ ap (λ (a : Pairing). a.matrix) e) (before_row j d less))

  pub one_tried : IsWithinSteps (IsTried k) s s' → (s'' ≡ s') ⊎ (Agrees section t row × (s'' ≤ s' + steps_of_pair)) → IsWithinSteps (IsTried (k + 1)) s s''
  one_tried w r =
      within_more (IsTried k) (IsTried (k + 1)) here s s' s'' (λ b (e, a, (j, d, less, is)). (e, a, (j, d, omega arith, is))) apart w
      (elim r [ inl e ↦ inl e | inr (a, le) ↦ inr ((refl, agreeing a, (k, [], omega arith, refl)), le) ])

  -- a pair with no matrix behind this one
  abbrev pub IsNotBehind : Pairing → Type 0
  IsNotBehind a = (a.number ≡ n) × IsAgreeing section a × (¬ IsMatrixBefore row a.matrix)

  pub last_tried : IsWithinSteps (IsTried k) s s' → (s'' ≡ s') ⊎ (Agrees section t row × (s'' ≤ s' + steps_of_pair)) → IsWithinSteps IsNotBehind s s''
  last_tried w r =
      within_more (IsTried k) IsNotBehind here s s' s''
      (λ b (e, a, (j, d, less, is)). (e, a, λ h. not_both_before row (matrix2_of (slice_index_or rows j d)) (subst (IsMatrixBefore row) is h) (before_row j d less)))
      apart w
      (elim r [ inl e ↦ inl e | inr (a, le) ↦ inr ((refl, agreeing a, not_before row), le) ])
