-- The laws of whole cell edges along a line. They stand here since an `impl` cites them.
use Rattle.std.proofs.Common.{◌≡◌, ◌↔◌, ◌/◌, refl, sym, ap, subst, ◌∙◌, arith, ℤ, pos, negsuc, neg_ℤ, ◌+ℤ◌, ◌-ℤ◌, ◌*ℤ◌, ◌≤ℤ◌, ◌<ℤ◌}
use Rattle.std.specs.Prelude.{unsigned_abs}
use Rattle.std.specs.Int.{int_rem_euclid}
use Rattle.std.proofs.lemmas.Int.{ints}
use Rattle.integers.proofs.Ring.{mul_assoc}
use Rattle.fractions.specs.Parts.{edge}
use Rattle.quotient.specs.Kind.{AreShiftsGroup, IsSame, Keeps}
use Rattle.motions.specs.Signs.{sign_value}
use Rattle.motions.specs.FriezeMotions.{FriezeOperation, frieze_followed_by, frieze_identity, frieze_translation}
use Rattle.motions.specs.Laws.SignLaws.{sign_product-plus}
use Rattle.motions.specs.Laws.FriezeLaws.{frieze_path}
use Rattle.friezes.specs.declared.line_op.LineOp.{LineOp}
use Rattle.friezes.specs.Lines.{IsLineShift, line_home, line_kind, line_of}

-- ---- a number of half parts without the whole edges in it

pub record Divided (t : ℤ) : Type 0 where
  pub edges : ℤ
  pub least : pos 0 ≤ℤ int_rem_euclid t edge
  pub below : int_rem_euclid t edge <ℤ edge
  pub is : t ≡ int_rem_euclid t edge +ℤ edges *ℤ edge

pub divided : (t : ℤ) → Divided t
divided (pos n) = record { edges = pos (n / unsigned_abs edge); least = omega (arith, ints); below = omega (arith, ints); is = omega (arith, ints) }
divided (negsuc n) = record { edges = negsuc (n / unsigned_abs edge); least = omega (arith, ints); below = omega (arith, ints); is = omega (arith, ints) }

pub one_rest : (t k r : ℤ) → t ≡ r +ℤ k *ℤ edge → pos 0 ≤ℤ r → r <ℤ edge → int_rem_euclid t edge ≡ r
one_rest t k r e l h = let d = divided t in let least = d.least in let below = d.below in let is = d.is in omega (arith, ints)

-- ---- whole edges are a group

edges : (k : ℤ) → line_kind.IsShift (frieze_translation (k *ℤ edge))
edges k = (record { f = (frieze_translation (k *ℤ edge)).along; e = (frieze_translation (k *ℤ edge)).across; t = k *ℤ edge }, record { times = k; is = refl }, refl)

pub edges_of : (s : FriezeOperation) → line_kind.IsShift s → (k : ℤ) × (s ≡ frieze_translation (k *ℤ edge))
edges_of s (m, h, e) = (h.times, sym e ∙ h.is)

by-by : (s t : ℤ) → frieze_followed_by (frieze_translation s) (frieze_translation t) ≡ frieze_translation (s +ℤ t)
by-by s t = frieze_path refl refl (omega (arith, ints))

pub shifts_lem : AreShiftsGroup line_kind
shifts_lem = record {
  identity = edges (pos 0);
  products = λ s t p q.
      let (k, a) = edges_of s p in
      let (l, b) = edges_of t q in
      let sum : (k +ℤ l) *ℤ edge ≡ k *ℤ edge +ℤ l *ℤ edge = omega (arith, ints) in
      subst line_kind.IsShift (ap frieze_translation sum ∙ sym (by-by (k *ℤ edge) (l *ℤ edge)) ∙ sym (λ i. frieze_followed_by (a i) (b i))) (edges (k +ℤ l));
  inverses = λ s p.
      let (k, a) = edges_of s p in
      let back = neg_ℤ k *ℤ edge in
      let after : k *ℤ edge +ℤ neg_ℤ k *ℤ edge ≡ pos 0 = omega (arith, ints) in
      let before : neg_ℤ k *ℤ edge +ℤ k *ℤ edge ≡ pos 0 = omega (arith, ints) in (
        frieze_translation back,
        edges (neg_ℤ k),
        record {
          after = ap (λ m. frieze_followed_by m (frieze_translation back)) a ∙ by-by (k *ℤ edge) back ∙ ap frieze_translation after;
          before = ap (frieze_followed_by (frieze_translation back)) a ∙ by-by back (k *ℤ edge) ∙ ap frieze_translation before;
        },
      );
}

pub by_meaning_lem : (a b : LineOp) → line_of a ≡ line_of b → IsLineShift a → IsLineShift b
by_meaning_lem a b e h = record { times = h.times; is = sym e ∙ h.is }

-- ---- sameness

-- the same signs, and whole edges between the translations
pub record ByEdges (m n : FriezeOperation) : Type 0 where
  pub along : m.along ≡ n.along
  pub across : m.across ≡ n.across
  pub times : ℤ
  pub translation : m.translation ≡ n.translation +ℤ times *ℤ edge

pub same_to : (m n : FriezeOperation) → IsSame line_kind m n → ByEdges m n
same_to m n s =
    let (k, a) = edges_of s.shift s.is_shift in
    let is : m ≡ frieze_followed_by n (frieze_translation (k *ℤ edge)) = s.is ∙ ap (frieze_followed_by n) a in
    let shift = ap (λ (o : FriezeOperation). o.translation) is in
    record {
      along = ap (λ (o : FriezeOperation). o.along) is;
      across = ap (λ (o : FriezeOperation). o.across) is;
      times = k;
      translation = omega (arith, ints);
    }

pub same_from : (m n : FriezeOperation) → ByEdges m n → IsSame line_kind m n
same_from m n h =
    let shift = h.translation in
    record {
      shift = frieze_translation (h.times *ℤ edge);
      is_shift = edges h.times;
      is = frieze_path h.along h.across (omega (arith, ints));
    }

pub home_is_same_lem : (m : LineOp) → IsSame line_kind (line_of (line_home m)) (line_of m)
home_is_same_lem m =
    let d = divided m.t in
    let is = d.is in
    same_from (line_of (line_home m)) (line_of m) (record { along = refl; across = refl; times = neg_ℤ d.edges; translation = omega (arith, ints) })

pub homes_lem : (m n : LineOp) → IsSame line_kind (line_of m) (line_of n) ↔ (line_of (line_home m) ≡ line_of (line_home n))
homes_lem m n = (
  λ s.
      let h = same_to (line_of m) (line_of n) s in
      let d = divided n.t in
      let far = h.translation in
      let is = d.is in
      frieze_path h.along h.across (one_rest m.t (d.edges +ℤ h.times) (int_rem_euclid n.t edge) (omega (arith, ints)) d.least d.below),
  λ e.
      let c = divided m.t in
      let d = divided n.t in
      let rest : int_rem_euclid m.t edge ≡ int_rem_euclid n.t edge = ap (λ (o : FriezeOperation). o.translation) e in
      let first = c.is in
      let second = d.is in
      same_from (line_of m) (line_of n)
      (record {
        along = ap (λ (o : FriezeOperation). o.along) e;
        across = ap (λ (o : FriezeOperation). o.across) e;
        times = c.edges -ℤ d.edges;
        translation = omega (arith, ints);
      }),
)

-- ---- each motion carries whole edges into whole edges

pub keeps : (m : FriezeOperation) → Keeps line_kind m
keeps m t is_shift =
    let (k, a) = edges_of t is_shift in
    let e = sign_value m.along in
    let turned : e *ℤ (k *ℤ edge) +ℤ m.translation ≡ pos 1 *ℤ m.translation +ℤ e *ℤ k *ℤ edge = omega (arith, ints, mul_assoc e k edge) in (
      frieze_translation (e *ℤ k *ℤ edge),
      edges (e *ℤ k),
      ap (λ s. frieze_followed_by s m) a ∙ frieze_path (sign_product-plus m.along) (sign_product-plus m.across) turned,
    )

-- ---- the motions that are whole edges

pub shift_by_home : (m : LineOp) → (line_of (line_home m) ≡ frieze_identity) ↔ IsLineShift m
shift_by_home m = (
  λ e.
      let d = divided m.t in
      let rest : int_rem_euclid m.t edge ≡ pos 0 = ap (λ (o : FriezeOperation). o.translation) e in
      let is = d.is in
      record {
        times = d.edges;
        is = frieze_path (ap (λ (o : FriezeOperation). o.along) e) (ap (λ (o : FriezeOperation). o.across) e) (omega (arith, ints));
      },
  λ h.
      let shift = ap (λ (o : FriezeOperation). o.translation) h.is in
      frieze_path (ap (λ (o : FriezeOperation). o.along) h.is) (ap (λ (o : FriezeOperation). o.across) h.is)
      (one_rest m.t h.times (pos 0) (omega (arith, ints)) (omega (arith, ints)) (omega (arith, ints))),
)
