-- The motions of each frieze type: at each pair of signs none, or one but for whole edges.
use Rattle.std.proofs.Common.{◌≡◌, ℕ, zero, suc, ◌-◌, ◌≤◌, ℤ, pos, ◌+ℤ◌, ◌*ℤ◌, refl, sym, ◌∙◌, ap, subst, arith, List, [], ◌∷◌, slice_index_or, Bool, true, false, IsTrue}
use Rattle.std.specs.Prelude.{Option, Some, None, Contains, ◌&&◌, cond}
use Rattle.std.specs.List.{list_all}
use Rattle.std.specs.Ordering.{int_eq}
use Rattle.std.specs.Cmp.{first_so, second_so}
use Rattle.std.proofs.lemmas.Int.{ints}
use Rattle.std.proofs.lemmas.Bool.Decides.{Decides-int_eq}
use Rattle.std.proofs.lemmas.List.Elements.{All-contains}
use Rattle.std.proofs.lemmas.List.Sums.{AllPass-from_list_all}
use Rattle.fractions.specs.declared.part.TheConstants.{UNIT}
use Rattle.fractions.specs.Parts.{edge, half_an_edge}
use Rattle.quotient.specs.Kind.{IsSame, Kind}
use Rattle.motions.specs.declared.motion.Sign.{Sign}
use Rattle.motions.specs.declared.motion.Sign.TheVariants.{Plus, Minus}
use Rattle.motions.specs.Signs.{same_sign}
use Rattle.motions.specs.FriezeMotions.{FriezeOperation, frieze_identity, frieze_translation}
use Rattle.motions.specs.Laws.SignLaws.{same_sign-is}
use Rattle.line_types.specs.Lines.{modulo_lattice}
use Rattle.line_types.specs.Friezes.{frieze_line}
use Rattle.line_types.specs.FriezeRows.{frieze_row}
use Rattle.line_types.specs.Types.{IsLineType, LineType}
use Rattle.line_types.specs.Laws.FriezeLaws.{frieze_line_laws}
use Rattle.line_types.proofs.LineTests as line_tests
use Rattle.friezes.proofs.Agreement.{Shows}
use Rattle.friezes.proofs.Bridge.{InType}

-- ---- the motions of each type

abbrev op : Sign → Sign → ℤ → FriezeOperation
op f e t = record { along = f; across = e; translation = t }

-- in the order of the numbers, from 1
abbrev frieze_ops : List (List FriezeOperation)
frieze_ops =
    (frieze_identity ∷ []) ∷
    (frieze_identity ∷ op Minus Minus (pos 0) ∷ []) ∷
    (frieze_identity ∷ op Minus Plus (pos 0) ∷ []) ∷
    (frieze_identity ∷ op Plus Minus (pos 0) ∷ []) ∷
    (frieze_identity ∷ op Plus Minus half_an_edge ∷ []) ∷
    (frieze_identity ∷ op Plus Minus (pos 0) ∷ op Minus Plus (pos 0) ∷ op Minus Minus (pos 0) ∷ []) ∷
    (frieze_identity ∷ op Plus Minus half_an_edge ∷ op Minus Plus half_an_edge ∷ op Minus Minus (pos 0) ∷ []) ∷
    []

abbrev pub ops : ℕ → List FriezeOperation
ops n = slice_index_or frieze_ops (n - 1) []

-- what holds of each of the seven numbers
pub seven : (P : ℕ → Type 0) → P 1 → P 2 → P 3 → P 4 → P 5 → P 6 → P 7 → (n : ℕ) → 1 ≤ n → n ≤ 7 → P n
seven P a b c d e f g zero h k = absurd (omega arith)
seven P a b c d e f g (suc zero) h k = a
seven P a b c d e f g (suc (suc zero)) h k = b
seven P a b c d e f g (suc (suc (suc zero))) h k = c
seven P a b c d e f g (suc (suc (suc (suc zero)))) h k = d
seven P a b c d e f g (suc (suc (suc (suc (suc zero))))) h k = e
seven P a b c d e f g (suc (suc (suc (suc (suc (suc zero)))))) h k = f
seven P a b c d e f g (suc (suc (suc (suc (suc (suc (suc zero))))))) h k = g
seven P a b c d e f g (suc (suc (suc (suc (suc (suc (suc (suc n)))))))) h k = absurd (omega arith)

abbrev type_at : ℕ → LineType FriezeOperation
type_at n = record { number = n; symbol = (frieze_row n).symbol; ops = ops n }

abbrev Is : ℕ → Type 0
Is n = IsLineType frieze_line (frieze_row n) n (type_at n)

by_tests : (n : ℕ) → line_tests.is_type frieze_line (frieze_row n) n (type_at n) ≡ true → Is n
by_tests n e = line_tests.is_type_is frieze_line frieze_line_laws (frieze_row n) n (type_at n) e

is_type : (n : ℕ) → 1 ≤ n → n ≤ 7 → Is n
unfolding frieze_row
is_type = seven Is (by_tests 1 refl) (by_tests 2 refl) (by_tests 3 refl) (by_tests 4 refl) (by_tests 5 refl) (by_tests 6 refl) (by_tests 7 refl)

-- ---- the first motion with a pair of signs

abbrev has_signs : Sign → Sign → FriezeOperation → Bool
has_signs f e o = same_sign o.along f && same_sign o.across e

-- its translation in half parts
abbrev pub of_signs : Sign → Sign → List FriezeOperation → Option ℤ
of_signs f e [] = None
of_signs f e (o ∷ os) = cond (has_signs f e o) (Some (pos 2 *ℤ o.translation)) (of_signs f e os)

-- what a type has at a pair of signs
abbrev pub shape : ℕ → Sign → Sign → Option ℤ
shape n f e = of_signs f e (ops n)

record Found (list : List FriezeOperation) (f e : Sign) (t : ℤ) : Type 0 where
  motion : FriezeOperation
  listed : Contains list motion
  along : motion.along ≡ f
  across : motion.across ≡ e
  is : t ≡ pos 2 *ℤ motion.translation

further : (o : FriezeOperation) (os : List FriezeOperation) (f e : Sign) (t : ℤ) → Found os f e t → Found (o ∷ os) f e t
further o os f e t h =
    let (k, within, is) = h.listed in
    record { motion = h.motion; listed = (suc k, omega arith, is); along = h.along; across = h.across; is = h.is }

first : (o : FriezeOperation) (os : List FriezeOperation) (f e : Sign) (t : ℤ) → IsTrue (has_signs f e o) → t ≡ pos 2 *ℤ o.translation → Found (o ∷ os) f e t
first o os f e t h is =
    let along = same_sign o.along f in
    let across = same_sign o.across e in
    record {
      motion = o;
      listed = (0, omega arith, refl);
      along = (same_sign-is o.along f).0 (first_so along across h);
      across = (same_sign-is o.across e).0 (second_so along across h);
      is = is;
    }

some_is : (s t : ℤ) → Some s ≡ Some t → t ≡ s
some_is s t e = cc

choose : (o : FriezeOperation) (os : List FriezeOperation) (f e : Sign) (t : ℤ) (b : Bool) → has_signs f e o ≡ b
    → (of_signs f e os ≡ Some t → Found os f e t) → cond b (Some (pos 2 *ℤ o.translation)) (of_signs f e os) ≡ Some t → Found (o ∷ os) f e t
choose o os f e t true h later is = first o os f e t h (some_is (pos 2 *ℤ o.translation) t is)
choose o os f e t false h later is = further o os f e t (later is)

found : (list : List FriezeOperation) (f e : Sign) (t : ℤ) → of_signs f e list ≡ Some t → Found list f e t
found [] f e t is = absurd (cc)
found (o ∷ os) f e t is = choose o os f e t (has_signs f e o) refl (found os f e t) is

-- ---- each motion of a type is the first with its signs

abbrev is_at : ℤ → Option ℤ → Bool
is_at t None = false
is_at t (Some v) = int_eq v t

abbrev is_told : List FriezeOperation → FriezeOperation → Bool
is_told list o = is_at (pos 2 *ℤ o.translation) (of_signs o.along o.across list)

all_told : (n : ℕ) → 1 ≤ n → n ≤ 7 → list_all (is_told (ops n)) (ops n) ≡ true
all_told = seven (λ n. list_all (is_told (ops n)) (ops n) ≡ true) refl refl refl refl refl refl refl

-- ---- the motions of a type are the listed ones, but for whole edges

module _ (n : ℕ) (from : 1 ≤ n) (to : n ≤ 7) where
  abbrev K : Kind
  K = modulo_lattice frieze_line

  record Listed (f e : Sign) (u : ℤ) : Type 0 where
    motion : FriezeOperation
    listed : Contains (ops n) motion
    along : motion.along ≡ f
    across : motion.across ≡ e
    times : ℤ
    is : u ≡ pos 2 *ℤ motion.translation +ℤ times *ℤ edge

  same_to : (o l : FriezeOperation) → IsSame K o l → (k : ℤ) × (o ≡ record l { translation = l.translation +ℤ k *ℤ UNIT })
  same_to o l same =
      let (s, lattice, e) = same.is_shift in
      (lattice.times, same.is ∙ ap (frieze_line.then l) (sym e ∙ lattice.is) ∙ frieze_line_laws.after l (lattice.times *ℤ UNIT))

  to_listed : (f e : Sign) (u : ℤ) → InType n f e u → Listed f e u
  to_listed f e u h =
      let l = (is_type n from to).closure.covers h.operation h.product in
      let (k, same) = same_to h.operation l.of l.same in
      let shift : h.operation.translation ≡ l.of.translation +ℤ k *ℤ UNIT = ap (λ (o : FriezeOperation). o.translation) same in
      let is = h.is in
      record {
        motion = l.of;
        listed = l.listed;
        along = sym (ap (λ (o : FriezeOperation). o.along) same) ∙ h.along;
        across = sym (ap (λ (o : FriezeOperation). o.across) same) ∙ h.across;
        times = k;
        is = omega (arith, ints);
      }

  from_listed : (f e : Sign) (u : ℤ) → Listed f e u → InType n f e u
  from_listed f e u h =
      let o = h.motion in
      let k = h.times in
      let is = h.is in
      let shift : K.IsShift (frieze_translation (k *ℤ UNIT)) = (frieze_line.translation_by (k *ℤ UNIT), record { times = k; is = refl }, refl) in
      record {
        operation = record o { translation = o.translation +ℤ k *ℤ UNIT };
        product = (is_type n from to).closure.within (record o { translation = o.translation +ℤ k *ℤ UNIT })
            (record { of = o; listed = h.listed; same = record { shift = frieze_translation (k *ℤ UNIT); is_shift = shift; is = sym (frieze_line_laws.after o (k *ℤ UNIT)) } });
        along = h.along;
        across = h.across;
        is = omega (arith, ints);
      }

  told : (f e : Sign) (u : ℤ) → (h : Listed f e u) → is_at (pos 2 *ℤ h.motion.translation) (shape n f e) ≡ true
  told f e u h =
      let o = h.motion in
      let is = All-contains (λ o. is_told (ops n) o ≡ true) (ops n) o (AllPass-from_list_all (is_told (ops n)) (ops n) (all_told n from to)) h.listed in
      subst (λ s. is_at (pos 2 *ℤ o.translation) (shape n f s) ≡ true) h.across (subst (λ s. is_at (pos 2 *ℤ o.translation) (shape n s o.across) ≡ true) h.along is)

  differ : ¬ (false ≡ true)
  differ e = cc

  shown : (f e : Sign) (r : Option ℤ) → shape n f e ≡ r → Shows (InType n f e) r
  shown f e None is = λ u h. let l = to_listed f e u h in differ (ap (is_at (pos 2 *ℤ l.motion.translation)) (sym is) ∙ told f e u l)
  shown f e (Some t) is = (
    λ k.
        let o = found (ops n) f e t is in
        let far = o.is in
        from_listed f e (t +ℤ k *ℤ edge) (record { motion = o.motion; listed = o.listed; along = o.along; across = o.across; times = k; is = omega (arith, ints) }),
    λ u h.
        let l = to_listed f e u h in
        let same = (Decides-int_eq t (pos 2 *ℤ l.motion.translation)).0 (ap (is_at (pos 2 *ℤ l.motion.translation)) (sym is) ∙ told f e u l) in
        let far = l.is in
        (l.times, omega (arith, ints)),
  )

  pub type_shows : (f e : Sign) → Shows (InType n f e) (shape n f e)
  type_shows f e = shown f e (shape n f e) refl
