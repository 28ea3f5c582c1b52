-- A table of matrices that passes a test is that of a lattice: the test computes.
use Rattle.std.proofs.Common.{◌≡◌, ℕ, ◌≤◌, ◌%◌, Bool, true, false, ◌&&◌, ◌||◌, cond, eqb, leb, ltb, List, [], ◌∷◌, refl, ap, ◌∙◌, inl, inr, ◌⊎◌, ℤ, pos, negsuc, ◌+ℤ◌, ◌<ℤ◌, nat_abs, arith}
use Rattle.std.specs.Prelude.{AllPairs, Contains}
use Rattle.std.specs.Bool.{Decides, passes}
use Rattle.std.specs.List.{list_all, list_any}
use Rattle.std.specs.Ordering.{int_eq}
use Rattle.std.proofs.lemmas.Bool.{and_parts}
use Rattle.std.proofs.lemmas.Bool.Decides.{Decides-eqb, Decides-int_eq}
use Rattle.std.proofs.lemmas.List.Elements.{All-weaker}
use Rattle.std.proofs.lemmas.List.Kept.{AllPairs-cons}
use Rattle.std.proofs.lemmas.List.Sums.{AllPass-from_list_all}
use Rattle.std.proofs.lemmas.Map.Views.{Contains-from_any}
use lib.Dec.{leb→le, ltb→lt}
use lib.Signed.{lt_z, lt_z_yes}
use Rattle.integers.specs.Size.{IsWithin}
use Rattle.motions.specs.PlaneMatrices.{Matrix2, determinant2, same_matrix2}
use Rattle.motions.specs.Laws.PlaneMatrixLaws.{same_matrix2-is}
use Rattle.recognition.specs.Order.{IsBoundedMatrix, IsGreater, IsMatrixBefore, size_of}
use Rattle.recognition.specs.Search.{IsMatrixTable}
use Rattle.recognition.specs.Listed.{TakesLattice}
use Rattle.recognition.proofs.Determinants.{centred_from_tests, size_of_centred, unit_is}
use Rattle.recognition.proofs.Multiples.{multiple_is}

-- ---- one matrix

abbrev is_small : ℤ → Bool
is_small z = leb (nat_abs z) 2

small : (z : ℤ) → is_small z ≡ true → IsWithin 2 z
small z e = record { most = leb→le (nat_abs z) 2 (passes (is_small z) e) }

abbrev is_bounded : Matrix2 → Bool
is_bounded p = (is_small p.first.x && is_small p.first.y) && (is_small p.second.x && is_small p.second.y)

bounded : (p : Matrix2) → is_bounded p ≡ true → IsBoundedMatrix p
bounded p e =
    let (first, second) = and_parts (is_small p.first.x && is_small p.first.y) (is_small p.second.x && is_small p.second.y) e in
    let (a, b) = and_parts (is_small p.first.x) (is_small p.first.y) first in
    let (c, d) = and_parts (is_small p.second.x) (is_small p.second.y) second in
    record { first = record { x = small p.first.x a; y = small p.first.y b }; second = record { x = small p.second.x c; y = small p.second.y d } }

abbrev is_even : ℤ → Bool
is_even z = eqb (nat_abs z % 2) 0

abbrev has_size : ℕ → ℤ → Bool
has_size n z = eqb (nat_abs z) n

abbrev takes : Bool → Matrix2 → Bool
takes true p = (is_even (p.first.x +ℤ p.first.y) && is_even (p.second.x +ℤ p.second.y)) && has_size 2 (determinant2 p)
takes false p = has_size 1 (determinant2 p)

both : (a b : Bool) → a ≡ true → b ≡ true → (a && b) ≡ true
both a b e f = λ i. e i && f i

takes_is : (c : Bool) (p : Matrix2) → Decides (takes c p) (TakesLattice c p)
takes_is true p = (to, from)
  where
    s : ℤ
    s = p.first.x +ℤ p.first.y

    t : ℤ
    t = p.second.x +ℤ p.second.y

    to : (is_even s && is_even t) && has_size 2 (determinant2 p) ≡ true → TakesLattice true p
    to e =
        let (rows, size) = and_parts (is_even s && is_even t) (has_size 2 (determinant2 p)) e in
        let (a, b) = and_parts (is_even s) (is_even t) rows in
        centred_from_tests p ((multiple_is 2 s (omega arith)).0 ((Decides-eqb (nat_abs s % 2) 0).0 a)) ((multiple_is 2 t (omega arith)).0 ((Decides-eqb (nat_abs t % 2) 0).0 b))
        ((Decides-eqb (nat_abs (determinant2 p)) 2).0 size)

    from : TakesLattice true p → (is_even s && is_even t) && has_size 2 (determinant2 p) ≡ true
    from h =
        both (is_even s && is_even t) (has_size 2 (determinant2 p))
        (both (is_even s) (is_even t) ((Decides-eqb (nat_abs s % 2) 0).1 ((multiple_is 2 s (omega arith)).1 (h.a, h.first))) ((Decides-eqb (nat_abs t % 2) 0).1 ((multiple_is 2 t (omega arith)).1 (h.b, h.second))))
        ((Decides-eqb (nat_abs (determinant2 p)) 2).1 (size_of_centred p h))
takes_is false p = (
  λ e. (unit_is (determinant2 p)).0 ((Decides-eqb (nat_abs (determinant2 p)) 1).0 e),
  λ h. (Decides-eqb (nat_abs (determinant2 p)) 1).1 ((unit_is (determinant2 p)).1 h),
)

-- ---- the order

or_parts : (a b : Bool) → (a || b) ≡ true → (a ≡ true) ⊎ (b ≡ true)
or_parts true b e = inl refl
or_parts false b e = inr e

-- less, or equal and what follows
abbrev first_less : ℤ → ℤ → Bool → Bool
first_less x y rest = lt_z x y || (int_eq x y && rest)

less_first : (x y : ℤ) (rest : Bool) → first_less x y rest ≡ true → (x <ℤ y) ⊎ ((x ≡ y) × (rest ≡ true))
less_first x y rest e =
    elim (or_parts (lt_z x y) (int_eq x y && rest) e) [
      | inl l ↦ inl (lt_z_yes (passes (lt_z x y) l))
      | inr r ↦ let (is, after) = and_parts (int_eq x y) rest r in inr ((Decides-int_eq x y).0 is, after)
    ]

abbrev is_greater : Matrix2 → Matrix2 → Bool
is_greater p q =
    first_less q.first.x p.first.x (first_less q.first.y p.first.y (first_less q.second.x p.second.x (lt_z q.second.y p.second.y)))

greater : (p q : Matrix2) → is_greater p q ≡ true → IsGreater p q
greater p q e =
    elim (less_first q.first.x p.first.x (first_less q.first.y p.first.y (first_less q.second.x p.second.x (lt_z q.second.y p.second.y))) e) [
      | inl a ↦ inl a
      | inr (a, f) ↦ inr (
        a,
        elim (less_first q.first.y p.first.y (first_less q.second.x p.second.x (lt_z q.second.y p.second.y)) f) [
          | inl b ↦ inl b
          | inr (b, g) ↦ inr (
            b,
            elim (less_first q.second.x p.second.x (lt_z q.second.y p.second.y) g) [
              | inl c ↦ inl c
              | inr (c, h) ↦ inr (c, lt_z_yes (passes (lt_z q.second.y p.second.y) h))
            ],
          )
        ],
      )
    ]

abbrev is_before : Matrix2 → Matrix2 → Bool
is_before p q = ltb (size_of p) (size_of q) || (eqb (size_of p) (size_of q) && is_greater p q)

before : (p q : Matrix2) → is_before p q ≡ true → IsMatrixBefore p q
before p q e =
    elim (or_parts (ltb (size_of p) (size_of q)) (eqb (size_of p) (size_of q) && is_greater p q) e) [
      | inl l ↦ inl (ltb→lt (size_of p) (size_of q) (passes (ltb (size_of p) (size_of q)) l))
      | inr r ↦
          let (is, after) = and_parts (eqb (size_of p) (size_of q)) (is_greater p q) r in inr ((Decides-eqb (size_of p) (size_of q)).0 is, greater p q after)
    ]

abbrev are_ordered : List Matrix2 → Bool
are_ordered [] = true
are_ordered (p ∷ ps) = list_all (is_before p) ps && are_ordered ps

ordered : (ps : List Matrix2) → are_ordered ps ≡ true → AllPairs IsMatrixBefore ps
ordered [] e = λ i j d h l. absurd (omega arith)
ordered (p ∷ ps) e =
    let (first, rest) = and_parts (list_all (is_before p) ps) (are_ordered ps) e in
    AllPairs-cons IsMatrixBefore p ps
    (All-weaker (λ q. is_before p q ≡ true) (IsMatrixBefore p) (before p) ps (AllPass-from_list_all (is_before p) ps first)) (ordered ps rest)

-- ---- all matrices

abbrev for_each : (ℤ → Bool) → Bool
for_each f = f (pos 2) && (f (pos 1) && (f (pos 0) && (f (negsuc 0) && f (negsuc 1))))

each : (f : ℤ → Bool) → for_each f ≡ true → (z : ℤ) → IsWithin 2 z → f z ≡ true
each f e z h =
    let (a, e1) = and_parts (f (pos 2)) (f (pos 1) && (f (pos 0) && (f (negsuc 0) && f (negsuc 1)))) e in
    let (b, e2) = and_parts (f (pos 1)) (f (pos 0) && (f (negsuc 0) && f (negsuc 1))) e1 in
    let (c, e3) = and_parts (f (pos 0)) (f (negsuc 0) && f (negsuc 1)) e2 in
    let (d, g) = and_parts (f (negsuc 0)) (f (negsuc 1)) e3 in
    elim (five z h) [
      | inl is ↦ ap f is ∙ a
      | inr r ↦ elim r [
        | inl is ↦ ap f is ∙ b
        | inr r ↦ elim r [
          | inl is ↦ ap f is ∙ c
          | inr r ↦ elim r [ inl is ↦ ap f is ∙ d | inr is ↦ ap f is ∙ g ]
        ]
      ]
    ]
  where
    natural : (n : ℕ) → n ≤ 2 → (n ≡ 2) ⊎ ((n ≡ 1) ⊎ (n ≡ 0))
    natural n h = grind arith

    negative : (n : ℕ) → n ≤ 1 → (n ≡ 0) ⊎ (n ≡ 1)
    negative n h = grind arith

    five : (z : ℤ) → IsWithin 2 z → (z ≡ pos 2) ⊎ ((z ≡ pos 1) ⊎ ((z ≡ pos 0) ⊎ ((z ≡ negsuc 0) ⊎ (z ≡ negsuc 1))))
    five (pos n) h =
        let m = h.most in
        elim (natural n (omega arith)) [
          | inl e ↦ inl (ap pos e)
          | inr r ↦ elim r [ inl e ↦ inr (inl (ap pos e)) | inr e ↦ inr (inr (inl (ap pos e))) ]
        ]
    five (negsuc n) h =
        let m = h.most in
        elim (negative n (omega arith)) [ inl e ↦ inr (inr (inr (inl (ap negsuc e)))) | inr e ↦ inr (inr (inr (inr (ap negsuc e)))) ]

abbrev matrix : ℤ → ℤ → ℤ → ℤ → Matrix2
matrix a b c d = record { first = record { x = a; y = b }; second = record { x = c; y = d } }

-- a matrix that takes the lattice is in the table
abbrev is_found : Bool → List Matrix2 → Matrix2 → Bool
is_found c ps p = cond (takes c p) (list_any (same_matrix2 p) ps) true

abbrev is_complete : Bool → List Matrix2 → Bool
is_complete c ps = for_each (λ a. for_each (λ b. for_each (λ d. for_each (λ e. is_found c ps (matrix a b d e)))))

found : (c : Bool) (ps : List Matrix2) (p : Matrix2) → is_found c ps p ≡ true → TakesLattice c p → Contains ps p
found c ps p e h =
    Contains-from_any {eq = same_matrix2} (λ q r s. (same_matrix2-is q r).0 s) p ps (by_test (takes c p) ((takes_is c p).1 h) (list_any (same_matrix2 p) ps) e)
  where
    by_test : (t : Bool) → t ≡ true → (b : Bool) → cond t b true ≡ true → b ≡ true
    by_test true h b e = e
    by_test false h b e = absurd (cc)

complete : (c : Bool) (ps : List Matrix2) → is_complete c ps ≡ true → (p : Matrix2) → IsBoundedMatrix p → TakesLattice c p → Contains ps p
complete c ps e p h =
    let f = each (λ a. for_each (λ b. for_each (λ d. for_each (λ e. is_found c ps (matrix a b d e))))) e p.first.x h.first.x in
    let g = each (λ b. for_each (λ d. for_each (λ e. is_found c ps (matrix p.first.x b d e)))) f p.first.y h.first.y in
    let k = each (λ d. for_each (λ e. is_found c ps (matrix p.first.x p.first.y d e))) g p.second.x h.second.x in
    found c ps p (each (λ e. is_found c ps (matrix p.first.x p.first.y p.second.x e)) k p.second.y h.second.y)

-- ---- the table

abbrev pub is_table : Bool → List Matrix2 → Bool
is_table c ps = list_all is_bounded ps && (list_all (takes c) ps && (are_ordered ps && is_complete c ps))

pub table : (c : Bool) (ps : List Matrix2) → is_table c ps ≡ true → IsMatrixTable c ps
table c ps e =
    let (within, e1) = and_parts (list_all is_bounded ps) (list_all (takes c) ps && (are_ordered ps && is_complete c ps)) e in
    let (onto, e2) = and_parts (list_all (takes c) ps) (are_ordered ps && is_complete c ps) e1 in
    let (rising, all) = and_parts (are_ordered ps) (is_complete c ps) e2 in
    record {
      bounded = All-weaker (λ p. is_bounded p ≡ true) IsBoundedMatrix bounded ps (AllPass-from_list_all is_bounded ps within);
      takes = All-weaker (λ p. takes c p ≡ true) (TakesLattice c) (λ p t. (takes_is c p).0 t) ps (AllPass-from_list_all (takes c) ps onto);
      order = ordered ps rising;
      complete = complete c ps all;
    }
