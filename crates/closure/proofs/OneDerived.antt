-- There is one derived list, and nothing is generated for one reason.
use Rattle.std.proofs.Common.{◌≡◌, ◌≢◌, ◌⊎◌, ℕ, zero, suc, ◌<◌, ◌-◌, Bool, true, false, ℤ, Some, None, inl, inr, arith, refl, sym, ap, subst, ◌∙◌, List, [], ◌∷◌, slice_index_or}
use Rattle.std.specs.Prelude.{AllPairs, Contains}
use Rattle.std.proofs.lemmas.Bool.{true≢false}
use Rattle.std.proofs.lemmas.Int.{ints}
use Rattle.std.proofs.lemmas.List.Elements.{All-contains, Contains-get_or}
use Rattle.quotient.specs.Order.{IsLexBelow}
use Rattle.symmetry.specs.Vectors.{Vector}
use Rattle.symmetry.specs.Motions.{Motion, identity}
use Rattle.symmetry.specs.Groups.{Listing}
use Rattle.symmetry.specs.Frames.{same_vector}
use Rattle.symmetry.proofs.MotionLaws.{motion_path}
use Rattle.motions.specs.Laws.MotionLaws.{same_vector-is}
use Rattle.closure.specs.Residues.{is_before}
use Rattle.closure.specs.Laws.VectorOrder.{before_from_not}
use Rattle.closure.specs.declared.generated_error.GeneratedError.{GeneratedError}
use Rattle.closure.specs.declared.generated_error.GeneratedError.TheVariants.{TooMany, NoInverse, TooLarge, TooFine, NoMemory}
use Rattle.closure.specs.Generated.{entries_of, IsGenerated, AllInvertible, IsLeast, IsDerived}
use Rattle.closure.specs.Derived.{IsFirstSingular, IsGeneratedError}
use Rattle.closure.proofs.GeneratedGroup.{difference_generated}

-- ---- lists in strict order with the same elements

module _ {X : Type 0} (R : X → X → Type 0) (asymmetric : (x y : X) → R x y → ¬ R y x) where
  before_all : (x : X) (xs : List X) → AllPairs R (x ∷ xs) → (z : X) → Contains xs z → R x z
  before_all x xs p z (k, within, e) = subst (R x) e (p 0 (suc k) z (omega arith) (omega arith))

  rest_pairs : (x : X) (xs : List X) → AllPairs R (x ∷ xs) → AllPairs R xs
  rest_pairs x xs p i j d less within = p (suc i) (suc j) d (omega arith) (omega arith)

  in_front : (x z : X) (xs : List X) → Contains (x ∷ xs) z → (x ≡ z) ⊎ Contains xs z
  in_front x z xs (zero, within, e) = inl e
  in_front x z xs (suc k, within, e) = inr (k, omega arith, e)

  front : (x : X) (xs : List X) → Contains (x ∷ xs) x
  front x xs = (0, omega arith, refl)

  behind : (x z : X) (xs : List X) → Contains xs z → Contains (x ∷ xs) z
  behind x z xs (k, within, e) = (suc k, omega arith, e)

  heads : (x y : X) (xs ys : List X) → AllPairs R (x ∷ xs) → AllPairs R (y ∷ ys) → Contains (y ∷ ys) x → Contains (x ∷ xs) y → x ≡ y
  heads x y xs ys p q hx hy = elim (in_front y x ys hx) [
    | inl e ↦ sym e
    | inr later ↦ elim (in_front x y xs hy) [
      | inl e ↦ e
      | inr also ↦ absurd (asymmetric x y (before_all x xs p y also) (before_all y ys q x later))
    ]
  ]

  tails : (x y : X) (xs ys : List X) → x ≡ y → AllPairs R (x ∷ xs) → ((z : X) → Contains (x ∷ xs) z → Contains (y ∷ ys) z) → (z : X) → Contains xs z → Contains ys z
  tails x y xs ys e p to z is = elim (in_front y z ys (to z (behind x z xs is))) [
    | inl f ↦
        let r : R x z = before_all x xs p z is in
        let s : R z x = subst (λ a. R a x) (e ∙ f) (subst (R x) (sym f ∙ sym e) r) in
        absurd (asymmetric x z r s)
    | inr later ↦ later
  ]

  pub one_order : (xs ys : List X) → AllPairs R xs → AllPairs R ys → ((z : X) → Contains xs z → Contains ys z) → ((z : X) → Contains ys z → Contains xs z) → xs ≡ ys
  one_order [] [] p q to from = refl
  one_order [] (y ∷ ys) p q to from = let (k, within, e) = from y (front y ys) in absurd (omega arith)
  one_order (x ∷ xs) [] p q to from = let (k, within, e) = to x (front x xs) in absurd (omega arith)
  one_order (x ∷ xs) (y ∷ ys) p q to from =
      let e : x ≡ y = heads x y xs ys p q (to x (front x xs)) (from y (front y ys)) in
      let rest : xs ≡ ys = one_order xs ys (rest_pairs x xs p) (rest_pairs y ys q) (tails x y xs ys e p to) (tails y x ys xs (sym e) q from) in
      λ i. e i ∷ rest i

lex_asymmetric : (xs ys : List ℤ) → IsLexBelow xs ys → ¬ IsLexBelow ys xs
lex_asymmetric [] ys p q = absurd p
lex_asymmetric (x ∷ xs) [] p q = absurd p
lex_asymmetric (x ∷ xs) (y ∷ ys) (inl p) (inl q) = absurd (omega (arith, ints))
lex_asymmetric (x ∷ xs) (y ∷ ys) (inl p) (inr (e, q)) = absurd (omega (arith, ints))
lex_asymmetric (x ∷ xs) (y ∷ ys) (inr (e, p)) (inl q) = absurd (omega (arith, ints))
lex_asymmetric (x ∷ xs) (y ∷ ys) (inr (e, p)) (inr (f, q)) = lex_asymmetric xs ys p q

-- ---- one derived list

vector_decided : (v w : Vector) → (v ≡ w) ⊎ ¬ (v ≡ w)
vector_decided v w = go (same_vector v w) refl
  where
    go : (b : Bool) → same_vector v w ≡ b → (v ≡ w) ⊎ ¬ (v ≡ w)
    go true e = inl ((same_vector-is v w).0 e)
    go false e = inr (λ p. true≢false (sym ((same_vector-is v w).1 p) ∙ e))

one_least : (v w : Vector) → is_before v w ≡ false → is_before w v ≡ false → v ≡ w
one_least v w p q = elim (vector_decided v w) [
  | inl e ↦ e
  | inr n ↦ absurd (true≢false (sym (before_from_not v w q n) ∙ p))
]

abbrev pub Falls : Motion → Motion → Type 0
Falls m n = IsLexBelow (entries_of n) (entries_of m)

-- the identity, and falling matrices
pub record IsHeaded (list : List Motion) : Type 0 where
  pub rest : List Motion
  pub is : list ≡ identity ∷ rest
  pub falling : AllPairs Falls rest
  pub others : (z : Motion) → Contains rest z → ¬ (z ≡ identity)

pub headed : (g : Listing) (list : List Motion) → IsDerived g list → IsHeaded list
headed g [] d = absurd (none d.order.first)
  where
    none : ¬ (None ≡ Some identity)
    none e = cc
headed g (x ∷ xs) d = record {
  rest = xs;
  is = ap (λ m. m ∷ xs) x_is;
  falling = λ i j e less within. d.order.falling (suc i) (suc j) e (omega arith) (omega arith) (omega arith);
  others = λ z (k, within, e) f. d.once 0 (suc k) z (omega arith) (omega arith) (ap (λ (m : Motion). m.matrix) (x_is ∙ sym f ∙ sym e));
}
  where
    some : (a b : Motion) → Some a ≡ Some b → a ≡ b
    some a b e = cc

    x_is : x ≡ identity
    x_is = some x identity d.order.first

module _ (g : Listing) (invertible : AllInvertible g) (xs ys : List Motion) (d : IsDerived g xs) (e : IsDerived g ys) where
  in_other : (m : Motion) → Contains xs m → Contains ys m
  in_other m is =
      let (n, stands, same) = e.covers m.matrix (d.matrices m is) in
      let in_m = All-contains (IsGenerated g) xs m d.inside is in
      let in_n = All-contains (IsGenerated g) ys n e.inside stands in
      let least_m = All-contains (λ (m : Motion). IsLeast g m.translation) xs m d.order.home is in
      let least_n = All-contains (λ (m : Motion). IsLeast g m.translation) ys n e.order.home stands in
      let shift : n.translation ≡ m.translation =
      one_least n.translation m.translation
      (least_m.first n.translation (difference_generated g invertible n m in_n in_m same) least_n.reduced)
      (least_n.first m.translation (difference_generated g invertible m n in_m in_n (sym same)) least_m.reduced) in
      subst (Contains ys) (motion_path same shift) stands

module _ (xs ys : List Motion) (a : IsHeaded xs) (b : IsHeaded ys) (to : (z : Motion) → Contains xs z → Contains ys z) where
  rest_to : (z : Motion) → Contains a.rest z → Contains b.rest z
  rest_to z (k, within, e) =
      let in_xs : Contains xs z = subst (λ l. Contains l z) (sym a.is) (suc k, omega arith, e) in
      let in_ys : Contains (identity ∷ b.rest) z = subst (λ l. Contains l z) b.is (to z in_xs) in
      elim (in_front Falls falls_asymmetric identity z b.rest in_ys) [
        | inl f ↦ absurd (a.others z (k, within, e) (sym f))
        | inr later ↦ later
      ]
    where
      falls_asymmetric : (m n : Motion) → Falls m n → ¬ Falls n m
      falls_asymmetric m n = lex_asymmetric (entries_of n) (entries_of m)

pub one_derived : (g : Listing) (xs ys : List Motion) → AllInvertible g → IsDerived g xs → IsDerived g ys → xs ≡ ys
one_derived g xs ys invertible d e =
    let a = headed g xs d in
    let b = headed g ys e in
    let to = in_other g invertible xs ys d e in
    let from = in_other g invertible ys xs e d in
    a.is
    ∙ ap (λ l. identity ∷ l)
    (one_order Falls (λ m n. lex_asymmetric (entries_of n) (entries_of m)) a.rest b.rest a.falling b.falling (rest_to xs ys a b to) (rest_to ys xs b a from))
    ∙ sym b.is

-- ---- one reason

one_singular : (list : List Motion) (i j : ℕ) → IsFirstSingular list i → IsFirstSingular list j → i ≡ j
one_singular list i j p q =
    let not_before : ¬ (i < j) = λ less. p.lacks (q.before i p.least less) in
    let not_behind : ¬ (j < i) = λ less. q.lacks (p.before j q.least less) in
    omega arith

-- a first singular operation has no inverse
not_all : (g : Listing) (i : ℕ) → AllInvertible g → ¬ IsFirstSingular g.ops i
not_all g i invertible f =
    f.lacks (invertible (slice_index_or g.ops (i - 1) identity) (Contains-get_or g.ops (i - 1) identity (let a = f.least in let b = f.within in omega arith)))

pub one_error : (g : Listing) (e f : GeneratedError) → e ≢ NoMemory → f ≢ NoMemory → IsGeneratedError g e → IsGeneratedError g f → e ≡ f
one_error g NoMemory f n _ p q = absurd (n refl)
one_error g e NoMemory _ n p q = absurd (n refl)
one_error g (TooMany m) (TooMany n) _ _ p q = ap TooMany (p.0 ∙ sym q.0)
one_error g (TooMany m) (NoInverse i) _ _ (p, r) (few, q) = absurd (omega arith)
one_error g (TooMany m) TooLarge _ _ (p, r) (few, all, q) = absurd (omega arith)
one_error g (TooMany m) TooFine _ _ (p, r) (few, all, n, q) = absurd (omega arith)
one_error g (NoInverse i) (TooMany n) _ _ (few, p) (q, r) = absurd (omega arith)
one_error g (NoInverse i) (NoInverse j) _ _ (few, p) (_, q) = ap NoInverse (one_singular g.ops i j p q)
one_error g (NoInverse i) TooLarge _ _ (few, p) (_, all, q) = absurd (not_all g i all p)
one_error g (NoInverse i) TooFine _ _ (few, p) (_, all, k, q) = absurd (not_all g i all p)
one_error g TooLarge (TooMany n) _ _ (few, all, p) (q, r) = absurd (omega arith)
one_error g TooLarge (NoInverse j) _ _ (_, all, q) (few, p) = absurd (not_all g j all p)
one_error g TooLarge TooLarge _ _ p q = refl
one_error g TooLarge TooFine _ _ (_, all, p) (_, _, n, q) = absurd (n p)
one_error g TooFine (TooMany n) _ _ (few, all, k, p) (q, r) = absurd (omega arith)
one_error g TooFine (NoInverse j) _ _ (_, all, k, q) (few, p) = absurd (not_all g j all p)
one_error g TooFine TooLarge _ _ (_, _, n, q) (_, all, p) = absurd (n p)
one_error g TooFine TooFine _ _ p q = refl
