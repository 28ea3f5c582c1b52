-- Half the number of parts, in lowest terms.
use Rattle.std.proofs.Common.{◌≡◌, ℤ, pos, ◌*ℤ◌, FitsSigned, IfSome, Option, Some, rules, sym, subst, ◌∙◌}
use Rattle.std.specs.Int.{w64, w128}
use Rattle.std.proofs.lemmas.Int.{to_z-of_z}
use Rattle.fractions.specs.FractionOf.{fraction_of}
use Rattle.fractions.specs.LowestTerms.{IsLowestForm}
use Rattle.fractions.specs.declared.part.TheConstants.{UNIT}
use Rattle.fractions.specs.declared.ratio.Ratio.{Ratio}
use Rattle.integers.specs.Size.{IsWithin}
use Rattle.integers.proofs.Wide.{wide}
use Rattle.scanning.specs.Bounds.{largest_level}
use Rattle.scanning.specs.Levels.{IsLevel}
use Rattle.scanning.proofs.MadeHeights.{level_of_form}
use Rattle.scanning.proofs.Shifts.{below_two_periods}
use Rattle.scanning.proofs.heights.height_at.Goals as goal

pub members-requires-clause-turned : goal.members-requires-clause-turned
members-requires-clause-turned c =
    let P : ℤ → Type 0 = IsWithin largest_level in
    subst P (sym (to_z-of_z w64 c.args.level c.ranges.level)) (below_two_periods c.args.frame.now c.args.level c.requires.level.from c.requires.level.below)

-- half the number of parts, which went through 64 and 128 bits
form : (o : Option Ratio) (s : Ratio) (n m level t : ℤ) → FitsSigned w128 n → FitsSigned w128 m → o ≡ Some s → IfSome o (λ r. IsLowestForm (fraction_of r) (wide n) (wide m))
    → n ≡ level → m ≡ pos 2 *ℤ UNIT → level ≡ t → IsLowestForm (fraction_of s) t (pos 2 *ℤ UNIT)
form o s n m level t num den is lowest n_is m_is level_is =
    let P : Option Ratio → Type 0 = λ o. IfSome o (λ r. IsLowestForm (fraction_of r) (wide n) (wide m)) in
    let Q : ℤ → Type 0 = λ x. IsLowestForm (fraction_of s) x (wide m) in
    subst (IsLowestForm (fraction_of s) t) (to_z-of_z w128 m den ∙ m_is) (subst Q (to_z-of_z w128 n num ∙ n_is ∙ level_is) (subst P is lowest))

pub invariant_of-result : goal.invariant_of-result
invariant_of-result c =
    let num : FitsSigned w128 c.from.result = search rules in
    let den : FitsSigned w128 c.from-2.result = search rules in
    let level = to_z-of_z w64 c.args.level c.ranges.level in
    let lowest = form c.make.result c.unwrap-s.result _ _ _ c.args.level num den c.unwrap-s.ensures c.make.ensures.some c.from.ensures c.from-2.ensures level in
    record {
      is_level = subst (IsLevel (fraction_of c.unwrap-s.result)) (sym level) (level_of_form (fraction_of c.unwrap-s.result) c.args.level lowest);
      in_range = subst (IsWithin largest_level) (sym level) (below_two_periods c.args.frame.now c.args.level c.requires.level.from c.requires.level.below);
    }

pub returns : goal.returns
returns c =
    let num : FitsSigned w128 c.from.result = search rules in
    let den : FitsSigned w128 c.from-2.result = search rules in
    let level = to_z-of_z w64 c.args.level c.ranges.level in
    record {
      within = c.requires.level;
      form = form c.make.result c.unwrap-s.result _ _ _ c.args.level num den c.unwrap-s.ensures c.make.ensures.some c.from.ensures c.from-2.ensures level;
      chosen = rw level at c.in_ok-ops.ensures;
    }
