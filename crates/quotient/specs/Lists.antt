-- Lists of motions, read modulo shifts.
use Rattle.std.specs.Prelude.{◌≡◌, ℕ, ◌<◌, List, [], ◌∷◌, ◌++◌, length, map, slice_index_or, Any, Contains}
use Rattle.quotient.specs.Kind.{Kind, IsSame}

-- some motion of the list is the same as m
pub record IsListed (K : Kind) (list : List K.Motion) (m : K.Motion) : Type 0 where
  pub of : K.Motion
  pub listed : Contains list of
  pub same : IsSame K m of

-- i is the index, from 0, of the first motion of the list that is the same as m
pub record IsFirstSame (K : Kind) (list : List K.Motion) (m : K.Motion) (i : ℕ) : Type 0 where
  pub within : i < length list
  pub same : IsSame K m (slice_index_or list i K.one)
  pub before : (k : ℕ) → k < i → ¬ IsSame K m (slice_index_or list k K.one)

-- of a list, read from the left, the items that are the same as no earlier one, in their order
pub data AreFirst {A : Type 0} (Same : A → A → Type 0) : List A → List A → Type 0 where
  none : AreFirst Same [] []
  kept : (list firsts : List A) (x : A) → AreFirst Same list firsts → ¬ Any (Same x) list → AreFirst Same (list ++ x ∷ []) (firsts ++ x ∷ [])
  left_out : (list firsts : List A) (x : A) → AreFirst Same list firsts → Any (Same x) list → AreFirst Same (list ++ x ∷ []) firsts

-- the values of the other list stand, place by place, for what the homes of the values of the list stand for
abbrev pub AreHomes : {M S : Type 0} → (M → S) → (M → M) → List M → List M → Type 0
AreHomes meaning home list homes = map meaning homes ≡ map (λ m. meaning (home m)) list

-- p is the index of the first item of the list that is the same as x, and x stands there
pub record StandsFirst {A : Type 0} (Same : A → A → Type 0) (list : List A) (x : A) (p : ℕ) : Type 0 where
  pub within : p < length list
  pub is : slice_index_or list p x ≡ x
  pub before : (q : ℕ) → q < p → ¬ Same x (slice_index_or list q x)

-- of each two items of the one list, the earlier stands earlier in the other list, each where the first stands that is the same
pub record KeepsOrder {A : Type 0} (Same : A → A → Type 0) (list : List A) (x y : A) : Type 0 where
  pub p : ℕ
  pub q : ℕ
  pub first_of_x : StandsFirst Same list x p
  pub first_of_y : StandsFirst Same list y q
  pub before : p < q
