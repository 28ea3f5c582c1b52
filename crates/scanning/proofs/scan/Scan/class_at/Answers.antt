-- The height has no level, or a level of which what is left is listed or not.
use Rattle.std.proofs.Common.{◌≡◌, ℕ, ◌<◌, List, get_or, length, ◌^◌, ℤ, FitsSigned, lit<, lit≤, rules, sym, ◌∙◌, subst}
use Rattle.std.specs.Int.{w128}
use Rattle.std.proofs.lemmas.Int.{to_z-of_z}
use Rattle.fractions.specs.FractionOf.{fraction_of}
use Rattle.integers.proofs.Ring.{IsWithin-more}
use Rattle.integers.proofs.Wide.{wide, wide_is}
use Rattle.scanning.specs.declared.height.Height.{Height}
use Rattle.scanning.specs.HeightView.{specials_of}
use Rattle.scanning.specs.PlaceView.{IsPlaceOf}
use Rattle.scanning.specs.declared.class.Place.TheVariants.{Special}
use Rattle.scanning.proofs.Places.{no_level_place, no_rest_place, rest_place}
use Rattle.scanning.proofs.Shifts.{period_within}
use Rattle.scanning.proofs.scan.Scan.class_at.Goals as goal

pub returns-in_default : goal.returns-in_default
returns-in_default c =
    let scan = c.args.self.now in
    no_level_place scan.frame.period.0 scan.special.items scan.in_period scan.rising (fraction_of c.args.s) c.args.s.positive c.in_default.ensures.is

pub periods_in-k-requires-clause-small : goal.periods_in-k-requires-clause-small
periods_in-k-requires-clause-small c = IsWithin-more (period_within c.args.self.now.frame) (lit≤ tt)

-- no level of the list that was read, and one at an index
abbrev HasNone : List Height → ℤ → Type 0
HasNone hs t = (i : ℕ) (e : Height) → i < length hs → ¬ ((get_or hs i e).level ≡ t)

abbrev HasAt : List Height → ℕ → ℤ → Type 0
HasAt hs i t = (i < length hs) × ((e : Height) → (get_or hs i e).level ≡ t)

pub returns-in-None : goal.returns-in-None
returns-in-None c =
    let scan = c.args.self.now in
    let rest : FitsSigned w128 c.periods_in-k.result.1 = search rules in
    no_rest_place scan.frame.period.0 scan.special.items scan.in_period scan.rising (fraction_of c.args.s) c.args.s.positive
    c.in-Some.level c.in-Some.ensures.is c.periods_in-k.result.1 c.periods_in-k.result.0 c.periods_in-k.ensures.within
    (sym (wide_is (2 ^ 70) c.in-Some.level (lit< tt) c.in-Some.ensures.small) ∙ c.periods_in-k.ensures.is)
    (subst (HasNone scan.special.items) (to_z-of_z w128 c.periods_in-k.result.1 rest)
    (subst (λ hs. HasNone hs (wide c.periods_in-k.result.1)) c.deref.ensures.value c.in-None.ensures))

pub returns-in-Some-index_of : goal.returns-in-Some-index_of
returns-in-Some-index_of c =
    let scan = c.args.self.now in
    let i = c.in-Some-index_of.index in
    let rest : FitsSigned w128 c.periods_in-k.result.1 = search rules in
    let times : FitsSigned w128 c.periods_in-k.result.0 = search rules in
    let R : ℤ → Type 0 = λ k. IsPlaceOf scan.frame.period.0 (specials_of scan.special.items) (fraction_of c.args.s) (Special i k) in
    let found = subst (HasAt scan.special.items i) (to_z-of_z w128 c.periods_in-k.result.1 rest)
    (subst (λ hs. HasAt hs i (wide c.periods_in-k.result.1)) c.deref.ensures.value c.in-Some-index_of.ensures) in
    subst R (sym (to_z-of_z w128 c.periods_in-k.result.0 times))
    (rest_place scan.frame.period.0 scan.special.items scan.in_period scan.rising (fraction_of c.args.s) c.args.s.positive
    c.in-Some.level c.in-Some.ensures.is c.periods_in-k.result.1 c.periods_in-k.result.0 c.periods_in-k.ensures.within
    (sym (wide_is (2 ^ 70) c.in-Some.level (lit< tt) c.in-Some.ensures.small) ∙ c.periods_in-k.ensures.is) i found.0 found.1)
