-- Proofs that operations modulo the lattice along a line meet the laws of `Quotient`. They stand here since an `impl`
-- cites them.
use Rattle.std.proofs.Common.{◌≡◌, ◌↔◌, ◌^◌, IsTrue, All, refl, sym, ap, subst, ◌∙◌, arith, ℤ, pos, ◌+ℤ◌, ◌-ℤ◌, ◌*ℤ◌, ◌≤ℤ◌, ◌<ℤ◌, neg_ℤ}
use Rattle.std.proofs.lemmas.Int.{ints}
use Rattle.integers.specs.Size.{IsWithin}
use Rattle.integers.proofs.Ring.{add_mul, mul_assoc, zero_add, zero_mul}
use Rattle.fractions.specs.declared.part.TheConstants.{UNIT}
use Rattle.fractions.specs.Parts.{reduced_parts, IsReduced}
use Rattle.fractions.proofs.Reduced.{IsReduced-reduced_parts}
use Rattle.quotient.specs.Kind.{AreShiftsGroup, IsInverse, IsMonoid, IsSame, Keeps, Kind}
use Rattle.motions.specs.Signs.{sign_value}
use Rattle.line_types.specs.Lines.{Line, IsLatticeTranslation, modulo_lattice, at_home}

-- what holds of a kind of operations along a line
pub record LineLaws (L : Line) : Type 0 where
  pub monoid : IsMonoid L.then L.one
  pub origin : L.of (L.translation_by (pos 0)) ≡ L.one
  pub after : (m : L.Operation) (t : ℤ) → L.then m (L.of (L.translation_by t)) ≡ L.with_translation m (L.translation m +ℤ t)
  pub before : (m : L.Operation) (t : ℤ) → L.then (L.of (L.translation_by t)) m ≡ L.with_translation m (sign_value (L.along m) *ℤ t +ℤ L.translation m)
  pub shift_of : (m : L.Operation) (t : ℤ) → L.translation (L.with_translation m t) ≡ t
  pub once : (m : L.Operation) (s t : ℤ) → L.with_translation (L.with_translation m s) t ≡ L.with_translation m t
  pub kept : (m : L.Operation) → L.with_translation m (L.translation m) ≡ m
  pub translations : (s t : ℤ) → L.with_translation (L.of (L.translation_by s)) t ≡ L.of (L.translation_by t)
  pub translated : (t : ℤ) → L.translation (L.of (L.translation_by t)) ≡ t
  pub entries : (m : L.Operation) (t : ℤ) → L.entries (L.with_translation m t) ≡ L.entries m
  pub same : (m n : L.Operation) → IsTrue (L.same m n) ↔ (m ≡ n)
  pub small : (m : L.Operation) → All (IsWithin 1) (L.entries m) → IsWithin (2 ^ 40) (L.translation m) → L.IsSmall m

-- ---- numbers of parts modulo the cell edge

reduced : (t : ℤ) → IsReduced t (reduced_parts t)
reduced t = IsReduced-reduced_parts t (reduced_parts t) refl

-- two numbers from 0 to below the edge that differ by a multiple of it
one_rest : (r s k : ℤ) → pos 0 ≤ℤ r → r <ℤ UNIT → pos 0 ≤ℤ s → s <ℤ UNIT → r ≡ s +ℤ k *ℤ UNIT → r ≡ s
one_rest r s k h i j l e = omega (arith, ints)

pub reduced-edges : (t k : ℤ) → reduced_parts (t +ℤ k *ℤ UNIT) ≡ reduced_parts t
reduced-edges t k =
    let a = reduced (t +ℤ k *ℤ UNIT) in
    let b = reduced t in
    let e : reduced_parts (t +ℤ k *ℤ UNIT) ≡ reduced_parts t +ℤ (b.edges +ℤ k -ℤ a.edges) *ℤ UNIT = let p = a.is in let q = b.is in omega (arith, ints) in
    one_rest (reduced_parts (t +ℤ k *ℤ UNIT)) (reduced_parts t) (b.edges +ℤ k -ℤ a.edges) a.least a.below b.least b.below e

pub edges_between : (s t : ℤ) → reduced_parts s ≡ reduced_parts t → (k : ℤ) × (s ≡ t +ℤ k *ℤ UNIT)
edges_between s t e =
    let a = reduced s in
    let b = reduced t in
    let p = a.is in
    let q = b.is in
    (a.edges -ℤ b.edges, omega (arith, ints))

module _ (L : Line) (laws : LineLaws L) where
  abbrev K : Kind
  K = modulo_lattice L

  abbrev by : ℤ → L.Operation
  by t = L.of (L.translation_by t)

  -- ---- the lattice is a group

  edges : (k : ℤ) → K.IsShift (by (k *ℤ UNIT))
  edges k = (L.translation_by (k *ℤ UNIT), record { times = k; is = refl }, refl)

  edges_of : (s : L.Operation) → K.IsShift s → (k : ℤ) × (s ≡ by (k *ℤ UNIT))
  edges_of s (m, h, e) = (h.times, sym e ∙ h.is)

  by-by : (s t : ℤ) → L.then (by s) (by t) ≡ by (s +ℤ t)
  by-by s t = laws.after (by s) t ∙ laws.translations s (L.translation (by s) +ℤ t) ∙ ap (λ r. by (r +ℤ t)) (laws.translated s)

  product : (s t : L.Operation) → K.IsShift s → K.IsShift t → K.IsShift (L.then s t)
  product s t p q =
      let (k, a) = edges_of s p in
      let (l, b) = edges_of t q in
      subst K.IsShift (ap by (add_mul k l UNIT) ∙ sym (by-by (k *ℤ UNIT) (l *ℤ UNIT)) ∙ sym (λ i. L.then (a i) (b i))) (edges (k +ℤ l))

  inverse : (s : L.Operation) → K.IsShift s → (t : L.Operation) × K.IsShift t × IsInverse K s t
  inverse s p =
      let (k, a) = edges_of s p in
      let back = neg_ℤ k *ℤ UNIT in
      let after : k *ℤ UNIT +ℤ neg_ℤ k *ℤ UNIT ≡ pos 0 = omega (arith, ints) in
      let before : neg_ℤ k *ℤ UNIT +ℤ k *ℤ UNIT ≡ pos 0 = omega (arith, ints) in (
        by back,
        edges (neg_ℤ k),
        record {
          after = ap (λ m. L.then m (by back)) a ∙ by-by (k *ℤ UNIT) back ∙ ap by after ∙ laws.origin;
          before = ap (L.then (by back)) a ∙ by-by back (k *ℤ UNIT) ∙ ap by before ∙ laws.origin;
        },
      )

  pub lattice_group : AreShiftsGroup K
  lattice_group = record { identity = subst K.IsShift (ap by (zero_mul UNIT) ∙ laws.origin) (edges (pos 0)); products = product; inverses = inverse }

  pub by_meaning : (a b : L.Value) → L.of a ≡ L.of b → IsLatticeTranslation L a → IsLatticeTranslation L b
  by_meaning a b e h = record { times = h.times; is = sym e ∙ h.is }

  -- ---- sameness

  -- the same operation, but for so many edges
  same_from : (m : L.Operation) (t k : ℤ) → t ≡ L.translation m +ℤ k *ℤ UNIT → IsSame K (L.with_translation m t) m
  same_from m t k e = record { shift = by (k *ℤ UNIT); is_shift = edges k; is = ap (L.with_translation m) e ∙ sym (laws.after m (k *ℤ UNIT)) }

  same_to : (m n : L.Operation) → IsSame K m n → (k : ℤ) × (m ≡ L.with_translation n (L.translation n +ℤ k *ℤ UNIT))
  same_to m n s =
      let (k, a) = edges_of s.shift s.is_shift in
      (k, s.is ∙ ap (L.then n) a ∙ laws.after n (k *ℤ UNIT))

  pub home_is_same : (m : L.Operation) → IsSame K (at_home L m) m
  home_is_same m =
      let h = reduced (L.translation m) in
      let e : reduced_parts (L.translation m) ≡ L.translation m +ℤ neg_ℤ h.edges *ℤ UNIT = let p = h.is in omega (arith, ints) in
      same_from m (reduced_parts (L.translation m)) (neg_ℤ h.edges) e

  home_of_same : (m n : L.Operation) → IsSame K m n → at_home L m ≡ at_home L n
  home_of_same m n s =
      let (k, e) = same_to m n s in
      let t = L.translation n +ℤ k *ℤ UNIT in
      ap (at_home L) e
      ∙ laws.once n t (reduced_parts (L.translation (L.with_translation n t)))
      ∙ ap (λ r. L.with_translation n (reduced_parts r)) (laws.shift_of n t)
      ∙ ap (L.with_translation n) (reduced-edges (L.translation n) k)

  same_of_home : (m n : L.Operation) → at_home L m ≡ at_home L n → IsSame K m n
  same_of_home m n e =
      let rests = sym (laws.shift_of m (reduced_parts (L.translation m))) ∙ ap L.translation e ∙ laws.shift_of n (reduced_parts (L.translation n)) in
      let (k, apart) = edges_between (L.translation m) (L.translation n) rests in
      let is : L.with_translation n (L.translation m) ≡ m =
      sym (laws.once n (reduced_parts (L.translation n)) (L.translation m)) ∙ sym (ap (λ h. L.with_translation h (L.translation m)) e) ∙ laws.once m (reduced_parts (L.translation m)) (L.translation m) ∙ laws.kept m in
      subst (λ h. IsSame K h n) is (same_from n (L.translation m) k apart)

  pub homes : (m n : L.Operation) → IsSame K m n ↔ (at_home L m ≡ at_home L n)
  homes m n = (home_of_same m n, same_of_home m n)

  -- the same operations have one matrix
  pub entries_of_same : (m n : L.Operation) → IsSame K m n → L.entries m ≡ L.entries n
  entries_of_same m n s =
      let (k, e) = same_to m n s in
      ap L.entries e ∙ laws.entries n (L.translation n +ℤ k *ℤ UNIT)

  -- ---- each operation carries the lattice into itself

  pub keeps : (m : L.Operation) → Keeps K m
  keeps m t is_shift =
      let (k, a) = edges_of t is_shift in
      let e = sign_value (L.along m) in
      let turned : e *ℤ (k *ℤ UNIT) +ℤ L.translation m ≡ L.translation m +ℤ e *ℤ k *ℤ UNIT = omega (arith, ints, mul_assoc e k UNIT) in (
        by (e *ℤ k *ℤ UNIT),
        edges (e *ℤ k),
        ap (λ s. L.then s m) a ∙ laws.before m (k *ℤ UNIT) ∙ ap (L.with_translation m) turned ∙ sym (laws.after m (e *ℤ k *ℤ UNIT)),
      )

  -- ---- the values that are lattice translations

  at_home-by : (t : ℤ) → at_home L (by t) ≡ by (reduced_parts t)
  at_home-by t = laws.translations t (reduced_parts (L.translation (by t))) ∙ ap (λ s. by (reduced_parts s)) (laws.translated t)

  home_of_edges : (k : ℤ) → at_home L (by (k *ℤ UNIT)) ≡ L.one
  home_of_edges k = at_home-by (k *ℤ UNIT) ∙ ap (λ t. by (reduced_parts t)) (sym (zero_add (k *ℤ UNIT))) ∙ ap by (reduced-edges (pos 0) k) ∙ laws.origin

  edges_from_home : (m : L.Operation) → at_home L m ≡ L.one → (k : ℤ) × (m ≡ by (k *ℤ UNIT))
  edges_from_home m e =
      let rest : reduced_parts (L.translation m) ≡ pos 0 =
      sym (laws.shift_of m (reduced_parts (L.translation m))) ∙ ap L.translation (e ∙ sym laws.origin) ∙ laws.translated (pos 0) in
      let h = reduced (L.translation m) in
      let whole : L.translation m ≡ h.edges *ℤ UNIT = let p = h.is in omega (arith, ints) in (
        h.edges,
        sym (laws.kept m)
            ∙ sym (laws.once m (reduced_parts (L.translation m)) (L.translation m))
            ∙ ap (λ n. L.with_translation n (L.translation m)) (e ∙ sym laws.origin)
            ∙ laws.translations (pos 0) (L.translation m)
            ∙ ap by whole,
      )

  pub translation_by_home : (m : L.Value) → (at_home L (L.of m) ≡ L.one) ↔ IsLatticeTranslation L m
  translation_by_home m = (
    λ e. let (k, is) = edges_from_home (L.of m) e in record { times = k; is = is },
    λ h. ap (at_home L) h.is ∙ home_of_edges h.times,
  )
