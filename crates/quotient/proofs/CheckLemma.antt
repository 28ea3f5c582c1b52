-- A list that passes the tests is, with the shifts, the closure of the generators.
use Rattle.std.proofs.Common.{◌≡◌, ℕ, zero, suc, Bool, true, false, ◌&&◌, List, [], ◌∷◌, get_or, All, AllPairs, Contains, arith}
use Rattle.std.specs.List.{list_all, list_any}
use Rattle.std.proofs.lemmas.Bool.{and_parts}
use Rattle.std.proofs.lemmas.List.Elements.{All-nil, All-cons, All-head, All-tail, All-append, All-contains, All-contains_itself}
use Rattle.std.proofs.lemmas.List.Sums.{AllPass-from_list_all}
use Rattle.std.proofs.lemmas.List.Folds.{Any-from_list_any}
use Rattle.quotient.specs.Kind.{AreShiftsGroup, IsMonoid, IsSame, Keeps, Kind}
use Rattle.quotient.specs.Lists.{IsListed}
use Rattle.quotient.specs.Groups.{AllHaveInverse, AllKeep, IsClosed}
use Rattle.quotient.specs.Closure.{IsClosure, IsProduct}
use Rattle.quotient.specs.Closure.IsFactor.{generator}
use Rattle.quotient.specs.Closure.IsProduct.{empty, further}
use Rattle.quotient.specs.Check.{Tests, is_listed, with_new, by_generators, products, reached, has_products, has_inverses, is_reached, each_once, meets}
use Rattle.quotient.proofs.ClosureLemma.{IsGeneratedGroup, covers, within}

-- what the tests say when they are passed
pub record TestsLaws (K : Kind) (T : Tests K) : Type 0 where
  pub same_is : (m n : K.Motion) → T.same m n ≡ true → IsSame K m n
  pub apart_is : (m n : K.Motion) → T.apart m n ≡ true → ¬ IsSame K m n
  pub keeps_is : (m : K.Motion) → T.keeps m ≡ true → Keeps K m

all_at : {X : Type 0} (p : X → Bool) (xs : List X) (x : X) → list_all p xs ≡ true → Contains xs x → p x ≡ true
all_at p xs x e c = All-contains (λ y. p y ≡ true) xs x (AllPass-from_list_all p xs e) c

any_found : {X : Type 0} (p : X → Bool) (xs : List X) → list_any p xs ≡ true → (x : X) × Contains xs x × (p x ≡ true)
any_found p xs e =
    let (k, x, within, is, passes) = Any-from_list_any p xs e in
    (x, (k, within, is), passes)

module _ (K : Kind) (T : Tests K) (S : TestsLaws K T) where
  listed : (list : List K.Motion) (m : K.Motion) → is_listed K T list m ≡ true → IsListed K list m
  listed list m e =
      let (n, stands, same) = any_found (λ n. T.same m n) list e in
      record { of = n; listed = stands; same = S.same_is m n same }

  products_are : (list : List K.Motion) → has_products K T list ≡ true → IsClosed K list
  products_are list e m n h k =
      listed list (K.then m n)
      (all_at (λ y. is_listed K T list (K.then m y)) list n (all_at (λ x. list_all (λ y. is_listed K T list (K.then x y)) list) list m e h) k)

  inverses_are : (list : List K.Motion) → has_inverses K T list ≡ true → AllHaveInverse K list
  inverses_are list e m h =
      let (n, stands, passes) =
      any_found (λ n. T.same (K.then m n) K.one && T.same (K.then n m) K.one) list
      (all_at (λ x. list_any (λ n. T.same (K.then x n) K.one && T.same (K.then n x) K.one) list) list m e h) in
      let (after, before) = and_parts (T.same (K.then m n) K.one) (T.same (K.then n m) K.one) passes in
      record { inverse = n; listed = stands; undoes = record { after = S.same_is (K.then m n) K.one after; before = S.same_is (K.then n m) K.one before } }

  each_keeps : (list : List K.Motion) → list_all T.keeps list ≡ true → AllKeep K list
  each_keeps list e m h = S.keeps_is m (all_at T.keeps list m e h)

  once_is : (list : List K.Motion) → each_once K T list ≡ true → AllPairs (λ m n. ¬ IsSame K m n) list
  once_is [] e i j d h l s = absurd (omega arith)
  once_is (m ∷ ms) e i zero d h l s = absurd (omega arith)
  once_is (m ∷ ms) e zero (suc j) d h l s =
      S.apart_is m (get_or ms j d) (AllPass-from_list_all (T.apart m) ms (and_parts (list_all (T.apart m) ms) (each_once K T ms) e).0 j d (omega arith)) s
  once_is (m ∷ ms) e (suc i) (suc j) d h l s =
      once_is ms (and_parts (list_all (T.apart m) ms) (each_once K T ms) e).1 i j d (omega arith) (omega arith) s

  module _ (generators : List K.Motion) where
    abbrev AllProducts : List K.Motion → Type 0
    AllProducts = All (IsProduct K generators)

    generators_reach : (gs : List K.Motion) → All (Contains generators) gs → (m : K.Motion) → IsProduct K generators m → AllProducts (by_generators K T gs m)
    generators_reach [] c m p = All-nil (IsProduct K generators)
    generators_reach (g ∷ gs) c m p =
        All-cons (IsProduct K generators) (K.then m g) (by_generators K T gs m)
        (further m g p (generator (All-head (Contains generators) g gs c)))
        (generators_reach gs (All-tail (Contains generators) g gs c) m p)

    products_reach : (ms : List K.Motion) → AllProducts ms → AllProducts (products K T generators ms)
    products_reach [] h = All-nil (IsProduct K generators)
    products_reach (m ∷ ms) h =
        All-append (IsProduct K generators) (by_generators K T generators m) (products K T generators ms)
        (generators_reach generators (All-contains_itself generators) m (All-head (IsProduct K generators) m ms h))
        (products_reach ms (All-tail (IsProduct K generators) m ms h))

    new_reach : (known ms : List K.Motion) → AllProducts known → AllProducts ms → AllProducts (with_new K T known ms)
    new_reach known [] k h = k
    new_reach known (m ∷ ms) k h =
        let t : AllProducts ms = All-tail (IsProduct K generators) m ms h in
        let skip : AllProducts (with_new K T known ms) = new_reach known ms k t in
        let add : AllProducts (with_new K T (m ∷ known) ms) =
        new_reach (m ∷ known) ms (All-cons (IsProduct K generators) m known (All-head (IsProduct K generators) m ms h) k) t in
        elim (is_listed K T known m) as (λ b. AllProducts (elim b [ true ↦ with_new K T known ms | false ↦ with_new K T (m ∷ known) ms ])) [ true ↦ skip | false ↦ add ]

    rounds_reach : (n : ℕ) (known : List K.Motion) → AllProducts known → AllProducts (reached K T n generators known)
    rounds_reach zero known k = k
    rounds_reach (suc n) known k =
        rounds_reach n (with_new K T known (products K T generators known)) (new_reach known (products K T generators known) k (products_reach known k))

    reached_are : (rounds : ℕ) (list : List K.Motion) → is_reached K T rounds generators list ≡ true
        → (m : K.Motion) → Contains list m → (n : K.Motion) × IsProduct K generators n × IsSame K m n
    reached_are rounds list e m h =
        let known = reached K T rounds generators (K.one ∷ []) in
        let a : IsListed K known m = listed known m (all_at (is_listed K T known) list m e h) in
        let k : AllProducts known = rounds_reach rounds (K.one ∷ []) (All-cons (IsProduct K generators) K.one [] empty (All-nil (IsProduct K generators))) in
        (a.of, All-contains (IsProduct K generators) known a.of k a.listed, a.same)

    pub meets_is : IsMonoid K.then K.one → AreShiftsGroup K → (rounds : ℕ) (list : List K.Motion) → meets K T rounds generators list ≡ true → IsClosure K generators list
    meets_is monoid shifts rounds list e =
        let (identity, e1) = and_parts (is_listed K T list K.one) _ e in
        let (keep, e2) = and_parts (list_all T.keeps list) _ e1 in
        let (closed, e3) = and_parts (has_products K T list) _ e2 in
        let (inverses, e4) = and_parts (has_inverses K T list) _ e3 in
        let (has, e5) = and_parts (list_all (is_listed K T list) generators) _ e4 in
        let (reach, once) = and_parts (is_reached K T rounds generators list) (each_once K T list) e5 in
        let H : IsGeneratedGroup K generators list = record {
          group = record { identity = listed list K.one identity; keeps = each_keeps list keep; closed = products_are list closed; inverses = inverses_are list inverses };
          has_generators = λ g h. listed list g (all_at (is_listed K T list) generators g has h);
          reached = reached_are rounds list reach;
        } in
        record { covers = covers K monoid shifts generators list H; within = within K monoid shifts generators list H; once = once_is list once }
