-- Tests of a list of motions that compute: whether it is the closure of generators.
use Rattle.std.specs.Prelude.{ℕ, zero, suc, Bool, true, false, List, [], ◌∷◌, ◌++◌, ◌&&◌}
use Rattle.std.specs.List.{list_all, list_any}
use Rattle.quotient.specs.Kind.{Kind}

-- whether two motions are the same modulo shifts; whether they are certainly not; whether a motion carries shifts into shifts
pub record Tests (K : Kind) : Type 0 where
  pub same : K.Motion → K.Motion → Bool
  pub apart : K.Motion → K.Motion → Bool
  pub keeps : K.Motion → Bool

module _ (K : Kind) (T : Tests K) where
  abbrev pub is_listed : List K.Motion → K.Motion → Bool
  is_listed list m = list_any (λ n. T.same m n) list

  -- those of the second list that are the same as none of the first and none before them, put before the first
  abbrev pub with_new : List K.Motion → List K.Motion → List K.Motion
  with_new known [] = known
  with_new known (m ∷ ms) = elim (is_listed known m) [ true ↦ with_new known ms | false ↦ with_new (m ∷ known) ms ]

  abbrev pub by_generators : List K.Motion → K.Motion → List K.Motion
  by_generators [] m = []
  by_generators (g ∷ gs) m = K.then m g ∷ by_generators gs m

  abbrev pub products : List K.Motion → List K.Motion → List K.Motion
  products generators [] = []
  products generators (m ∷ ms) = by_generators generators m ++ products generators ms

  -- what so many rounds of products by generators reach
  abbrev pub reached : ℕ → List K.Motion → List K.Motion → List K.Motion
  reached zero generators known = known
  reached (suc rounds) generators known = reached rounds generators (with_new known (products generators known))

  abbrev pub has_products : List K.Motion → Bool
  has_products list = list_all (λ m. list_all (λ n. is_listed list (K.then m n)) list) list

  abbrev pub has_inverses : List K.Motion → Bool
  has_inverses list = list_all (λ m. list_any (λ n. T.same (K.then m n) K.one && T.same (K.then n m) K.one) list) list

  abbrev pub is_reached : ℕ → List K.Motion → List K.Motion → Bool
  is_reached rounds generators list = let known = reached rounds generators (K.one ∷ []) in list_all (is_listed known) list

  abbrev pub each_once : List K.Motion → Bool
  each_once [] = true
  each_once (m ∷ ms) = list_all (T.apart m) ms && each_once ms

  -- a group, with the generators in it, that products by generators reach in so many rounds; each motion once
  abbrev pub meets : ℕ → List K.Motion → List K.Motion → Bool
  meets rounds generators list =
      is_listed list K.one
      && (list_all T.keeps list
      && (has_products list
      && (has_inverses list
      && (list_all (is_listed list) generators
      && (is_reached rounds generators list
      && each_once list)))))
