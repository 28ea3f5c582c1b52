-- The general operations, or those at the special height, moved.
use Rattle.std.proofs.Common.{◌≡◌, ◌<◌, ℤ, map, Ok, Err, Result, refl, sym, ◌∙◌, subst, arith, length, FitsSigned, lit<}
use Rattle.std.specs.Int.{w64}
use Rattle.fractions.specs.FractionOf.{fraction_of}
use Rattle.integers.specs.Size.{IsWithin}
use Rattle.integers.proofs.Coded.{fits_within}
use Rattle.motions.specs.Views.{motion_of}
use Rattle.scanning.specs.Bounds.{largest_periods}
use Rattle.scanning.specs.declared.at_fault.AtFault.{AtFault}
use Rattle.scanning.specs.declared.at_fault.AtFault.TheVariants.{Large}
use Rattle.scanning.proofs.GivenLists.{general_given, given_list, index_within, ops_small, periods_are, periods_small, periods_wide, special_given}
use Rattle.scanning.proofs.scan.Scan.ops_at.Goals as goal

pub index-requires : goal.index-requires
index-requires c =
    let scan = c.args.self.now in
    let within : c.in-Special.index < length scan.special.items =
    index_within scan (fraction_of c.args.s) c.args.s.positive c.in-Special.index c.in-Special.k ((c.in-Special.ensures.over c.in-Special.index c.in-Special.k).0 refl) in
    omega (arith, scan.special.ok)

pub overflow_cast-k : goal.overflow_cast-k
overflow_cast-k c =
    let scan = c.args.self.now in
    let stands = (c.in-Special.ensures.over c.in-Special.index c.in-Special.k).0 refl in
    let small = c.if-not-is_in_range.ensures.0 refl in
    let P : ℤ → Type 0 = FitsSigned w64 in
    subst P (sym (periods_wide scan (fraction_of c.args.s) c.args.s.positive small c.in-Special.index c.in-Special.k stands))
    (fits_within c.in-Special.k largest_periods (periods_small scan (fraction_of c.args.s) c.args.s.positive small c.in-Special.index c.in-Special.k stands) (lit< tt))

pub moved-requires-clause-ops : goal.moved-requires-clause-ops
moved-requires-clause-ops c =
    let scan = c.args.self.now in
    let stands = (c.in-Special.ensures.over c.in-Special.index c.in-Special.k).0 refl in
    ops_small scan.special.items c.in-Special.index c.index.result.now (index_within scan (fraction_of c.args.s) c.args.s.positive c.in-Special.index c.in-Special.k stands)
    c.index.ensures c.deref-in-Special.result.now c.deref-in-Special.ensures.value scan.special_small

pub moved-requires-clause-periods : goal.moved-requires-clause-periods
moved-requires-clause-periods c =
    let scan = c.args.self.now in
    let stands = (c.in-Special.ensures.over c.in-Special.index c.in-Special.k).0 refl in
    let small = c.if-not-is_in_range.ensures.0 refl in
    let P : ℤ → Type 0 = IsWithin largest_periods in
    subst P (sym (periods_are scan (fraction_of c.args.s) c.args.s.positive small c.in-Special.index c.in-Special.k stands))
    (periods_small scan (fraction_of c.args.s) c.args.s.positive small c.in-Special.index c.in-Special.k stands)

not_large : {T : Type 0} (x : T) (r : Result T AtFault) → r ≡ Ok x → r ≡ Err Large → ⊥
not_large x r p q = let e = sym p ∙ q in cc e

pub returns-in_ok-moved-in-Special-clause-large : goal.returns-in_ok-moved-in-Special-clause-large
returns-in_ok-moved-in-Special-clause-large c =
    (λ e w. not_large c.in_ok-moved-in-Special.field-0 _ refl e, λ not. absurd (not (c.if-not-is_in_range.ensures.0 refl)))

pub returns-in_ok-moved-in-Special-clause-gives : goal.returns-in_ok-moved-in-Special-clause-gives
returns-in_ok-moved-in-Special-clause-gives c = λ g group frame is_scan.
    let scan = c.args.self.now in
    let stands = (c.in-Special.ensures.over c.in-Special.index c.in-Special.k).0 refl in
    let small = c.if-not-is_in_range.ensures.0 refl in
    special_given scan (fraction_of c.args.s) c.args.s.positive g group frame is_scan c.in-Special.index c.in-Special.k _
    (periods_are scan (fraction_of c.args.s) c.args.s.positive small c.in-Special.index c.in-Special.k stands) stands
    c.index.result.now c.index.ensures c.deref-in-Special.result.now c.in_ok-moved-in-Special.field-0.items c.deref-in-Special.ensures.value c.in_ok-moved-in-Special.ensures

pub returns-in_ok-moved-in-Special-clause-list : goal.returns-in_ok-moved-in-Special-clause-list
returns-in_ok-moved-in-Special-clause-list c = λ g group frame is_scan.
    let scan = c.args.self.now in
    let stands = (c.in-Special.ensures.over c.in-Special.index c.in-Special.k).0 refl in
    let small = c.if-not-is_in_range.ensures.0 refl in
    given_list scan (fraction_of c.args.s) c.args.s.positive g group frame is_scan (map motion_of c.in_ok-moved-in-Special.field-0.items)
    (special_given scan (fraction_of c.args.s) c.args.s.positive g group frame is_scan c.in-Special.index c.in-Special.k _
    (periods_are scan (fraction_of c.args.s) c.args.s.positive small c.in-Special.index c.in-Special.k stands) stands
    c.index.result.now c.index.ensures c.deref-in-Special.result.now c.in_ok-moved-in-Special.field-0.items c.deref-in-Special.ensures.value c.in_ok-moved-in-Special.ensures)

pub returns-in_ok-from_slice-in-General-clause-list : goal.returns-in_ok-from_slice-in-General-clause-list
returns-in_ok-from_slice-in-General-clause-list c = λ g group frame is_scan.
    let scan = c.args.self.now in
    given_list scan (fraction_of c.args.s) c.args.s.positive g group frame is_scan (map motion_of c.in_ok-from_slice-in-General.field-0.items)
    (general_given scan (fraction_of c.args.s) c.args.s.positive g group frame is_scan c.in_ok-from_slice-in-General.field-0.items
    (c.in_ok-from_slice-in-General.ensures.items ∙ c.deref.ensures.value) (c.in-General.ensures.none.0 refl))
