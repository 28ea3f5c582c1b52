-- The operations of a rod type are what the table of types lists, but for whole multiples of the axis.
use Rattle.std.proofs.Common.{◌≡◌, ℕ, ℤ, pos, ◌+ℤ◌, ◌-ℤ◌, ◌*ℤ◌, refl, sym, ◌∙◌, ap, List, [], ◌∷◌}
use Rattle.std.specs.Prelude.{All}
use Rattle.fractions.specs.declared.part.TheConstants.{UNIT}
use Rattle.integers.proofs.Solver.{Expr.{var, num, ◌⊕◌, ◌⊝◌, ◌⊗◌}, linear, given}
use Rattle.quotient.specs.Kind.{Kind, IsSame}
use Rattle.quotient.proofs.ListLaws.{All-from_map, Contains-from_map, Contains-map}
use Rattle.motions.specs.declared.rod.RodMotion.{RodMotion}
use Rattle.motions.specs.PlaneMatrices.{Matrix2}
use Rattle.motions.specs.RodMotions.{IsRodSmall, RodOperation, rod_of}
use Rattle.line_types.specs.declared.rods.RodType.{RodType}
use Rattle.line_types.specs.Lines.{modulo_lattice}
use Rattle.line_types.specs.Rods.{rod_line, IsRodType}
use Rattle.line_types.specs.Laws.RodLaws.{rod_line_laws}
use Rattle.recognition.specs.RationalRods.{RationalRod, IsListedRod, multiple2}
use Rattle.recognition.specs.RodChanges.{CarriesOnto, Carries, grid_part}
use Rattle.recognition.specs.RodSearch.{IsFirstMatrix, IsOfNoMatrix}
use Rattle.recognition.specs.RodTests.{IsSmallRod}
use Rattle.recognition.specs.RodTypes.{HasChangeOnto, IsOfRodType}

abbrev K : Kind
K = modulo_lattice rod_line

-- two operations of rods that are the same modulo the axis
pub same_rod : (m n : RodOperation) → IsSame K m n → (k : ℤ) × (m ≡ record n { translation = n.translation +ℤ k *ℤ UNIT })
same_rod m n same =
    let (s, lattice, e) = same.is_shift in (
      lattice.times,
      same.is ∙ ap (rod_line.then n) (sym e ∙ lattice.is) ∙ rod_line_laws.after n (lattice.times *ℤ UNIT),
    )

pub moved_same : (n : RodOperation) (k : ℤ) → IsSame K (record n { translation = n.translation +ℤ k *ℤ UNIT }) n
moved_same n k = record {
  shift = rod_of (rod_line.translation_by (k *ℤ UNIT));
  is_shift = (rod_line.translation_by (k *ℤ UNIT), record { times = k; is = refl }, refl);
  is = sym (rod_line_laws.after n (k *ℤ UNIT));
}

pub to_list : (c s t d k : ℤ) → t *ℤ c ≡ (s +ℤ k *ℤ c) *ℤ d → t *ℤ c -ℤ s *ℤ d ≡ k *ℤ (d *ℤ c)
to_list c s t d k e =
    linear (c ∷ s ∷ t ∷ d ∷ k ∷ []) (var 2 ⊗ var 0 ⊝ var 1 ⊗ var 3) (var 4 ⊗ (var 3 ⊗ var 0))
    (given (num (pos 1)) (var 2 ⊗ var 0) ((var 1 ⊕ var 4 ⊗ var 0) ⊗ var 3) ∷ []) tt (e, tt)

pub from_list : (c s t d k : ℤ) → t *ℤ c -ℤ s *ℤ d ≡ k *ℤ (d *ℤ c) → t *ℤ c ≡ (s +ℤ k *ℤ c) *ℤ d
from_list c s t d k e =
    linear (c ∷ s ∷ t ∷ d ∷ k ∷ []) (var 2 ⊗ var 0) ((var 1 ⊕ var 4 ⊗ var 0) ⊗ var 3)
    (given (num (pos 1)) (var 2 ⊗ var 0 ⊝ var 1 ⊗ var 3) (var 4 ⊗ (var 3 ⊗ var 0)) ∷ []) tt (e, tt)

module _ (n : ℕ) (t : RodType) (is : IsRodType n t) where
  abbrev ops : List RodMotion
  ops = t.ops.now

  to_listed : (op : RationalRod) → IsOfRodType n op → IsListedRod ops op
  to_listed op h =
      let listed = is.closure.covers h.operation h.product in
      let (m, in_ops, e) = Contains-from_map rod_of ops listed.of listed.listed in
      let (k, same) = same_rod h.operation listed.of listed.same in
      let o : h.operation ≡ record (rod_of m) { translation = (rod_of m).translation +ℤ k *ℤ UNIT } = same ∙ ap (λ (o : RodOperation). record o { translation = o.translation +ℤ k *ℤ UNIT }) (sym e) in
      record {
        motion = m;
        listed = in_ops;
        matrix = h.matrix ∙ ap (λ (o : RodOperation). multiple2 op.over o.matrix) o;
        along = h.along ∙ ap (λ (o : RodOperation). o.along) o;
        translation = (k, to_list UNIT (rod_of m).translation op.translation.num op.translation.den k (h.translation ∙ ap (λ (o : RodOperation). o.translation *ℤ op.translation.den) o));
      }

  from_listed : (op : RationalRod) → IsListedRod ops op → IsOfRodType n op
  from_listed op h =
      let (k, e) = h.translation in
      let m = rod_of h.motion in
      record {
        operation = record m { translation = m.translation +ℤ k *ℤ UNIT };
        product = is.closure.within (record m { translation = m.translation +ℤ k *ℤ UNIT })
            (record { of = m; listed = Contains-map rod_of ops h.motion h.listed; same = moved_same m k });
        matrix = h.matrix;
        along = h.along;
        translation = from_list UNIT m.translation op.translation.num op.translation.den k e;
      }

  module _ (section : List RodMotion) (p : Matrix2) (z : ℕ) where
    pub carries_type : Carries section ops p z → CarriesOnto (IsListedRod section) (IsOfRodType n) p (grid_part z)
    carries_type h = record {
      crossed = h.crossed;
      operations = λ op rational. (
        λ in_it. let (like, high, i, c) = (h.operations op rational).0 in_it in (like, high, from_listed like i, c),
        λ (like, high, i, c). (h.operations op rational).1 (like, high, to_listed like i, c),
      );
    }

    pub carries_list : CarriesOnto (IsListedRod section) (IsOfRodType n) p (grid_part z) → Carries section ops p z
    carries_list h = record {
      crossed = h.crossed;
      operations = λ op rational. (
        λ in_it. let (like, high, i, c) = (h.operations op rational).0 in_it in (like, high, to_listed like i, c),
        λ (like, high, i, c). (h.operations op rational).1 (like, high, from_listed like i, c),
      );
    }

  -- the listed operations of a type are small
  pub small_ops : All IsSmallRod ops
  small_ops = All-from_map rod_of IsRodSmall ops is.small

  module _ (section : List RodMotion) where
    pub of_no_matrix : IsOfNoMatrix (Carries section ops) → IsOfNoMatrix (HasChangeOnto section n)
    of_no_matrix none q bounded v below h = none q bounded v below (carries_list section q v h)

    pub of_first_matrix : (p : Matrix2) (z : ℕ) → IsFirstMatrix (Carries section ops) p z → IsFirstMatrix (HasChangeOnto section n) p z
    of_first_matrix p z f = record {
      bounded = f.bounded;
      point = record {
        within = f.point.within;
        has = carries_type section p z f.point.has;
        least = λ v less h. f.point.least v less (carries_list section p v h);
      };
      first = λ q bounded before v below h. f.first q bounded before v below (carries_list section q v h);
    }
