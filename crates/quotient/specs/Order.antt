-- The order in which a type lists its motions.
use Rattle.std.specs.Prelude.{◌≡◌, ℕ, ℤ, ◌<◌, ◌<ℤ◌, List, [], ◌∷◌, length, slice_index_or, All, Some, slice_get, ◌⊎◌, Bool, true, false, ◌&&◌, ◌||◌}
use Rattle.std.specs.List.{list_all}
use Rattle.std.specs.Ordering.{int_eq}
use lib.Signed.{lt_z}
use Rattle.quotient.specs.Kind.{Kind}

-- the entries of a motion's matrix row by row, and whether its translation is the one that a list has
pub record Form (K : Kind) : Type 1 where
  pub entries : K.Motion → List ℤ
  pub IsHome : K.Motion → Type 0

-- the first of two lists of one length is lexicographically less
abbrev pub IsLexBelow : List ℤ → List ℤ → Type 0
IsLexBelow [] _ = ⊥
IsLexBelow (x ∷ xs) [] = ⊥
IsLexBelow (x ∷ xs) (y ∷ ys) = (x <ℤ y) ⊎ ((x ≡ y) × IsLexBelow xs ys)

-- the identity is first, the others follow with the greatest matrix first, and each translation is at home
pub record IsInOrder (K : Kind) (F : Form K) (list : List K.Motion) : Type 0 where
  pub first : slice_get list 0 ≡ Some K.one
  pub falling : (i j : ℕ) (d : K.Motion) → 0 < i → i < j → j < length list
      → IsLexBelow (F.entries (slice_index_or list j d)) (F.entries (slice_index_or list i d))
  pub home : All F.IsHome list

-- ---- tests that compute

pub record FormTests (K : Kind) : Type 0 where
  pub entries : K.Motion → List ℤ
  pub is_one : K.Motion → Bool
  pub is_home : K.Motion → Bool

abbrev pub lex_below : List ℤ → List ℤ → Bool
lex_below [] _ = false
lex_below (x ∷ xs) [] = false
lex_below (x ∷ xs) (y ∷ ys) = lt_z x y || (int_eq x y && lex_below xs ys)

module _ (K : Kind) (T : FormTests K) where
  abbrev pub falls : List K.Motion → Bool
  falls [] = true
  falls (m ∷ ms) = list_all (λ n. lex_below (T.entries n) (T.entries m)) ms && falls ms

  abbrev pub in_order : List K.Motion → Bool
  in_order [] = false
  in_order (m ∷ ms) = T.is_one m && (falls ms && list_all T.is_home (m ∷ ms))
