-- The numbers and the count, by the motions of the planes and the levels of the heights.
use Rattle.std.proofs.Common.{◌≡◌, ℕ, ◌<◌, ◌^◌, List, length, map, sym, subst, arith}
use Rattle.symmetry.specs.HeightMotions.{AreHeightMotions}
use Rattle.symmetry.proofs.AlikeScans.{numbers_from, planes_from}
use Rattle.motions.specs.Views.{row_of}
use Rattle.closure.specs.Groups.{group_listing}
use Rattle.plane_lattice.specs.FrameView.{basis_of_frame}
use Rattle.scanning.specs.declared.height.Height.{Height}
use Rattle.scanning.proofs.Shifts.{period_within}
use Rattle.orbits.specs.HeightMotionView.{height_motion_of}
use Rattle.orbits.specs.LevelView.{AreJoinedAt}
use Rattle.orbits.specs.Numbers.{AreClasses, AreNumbered}
use Rattle.orbits.specs.declared.height_motion.HeightMotion.{HeightMotion}
use Rattle.orbits.proofs.JoinedHeights.{coded_classes, coded_numbers, coded_planes}
use Rattle.orbits.proofs.SpecialHeights.{few_heights}
use Rattle.orbits.proofs.orbits.height_orbits.Goals as goal

pub orbit_numbers-requires-clause-classes : goal.orbit_numbers-requires-clause-classes
orbit_numbers-requires-clause-classes c =
    let scan = c.args.scan.now in
    let q = scan.frame in
    let Motions : List HeightMotion → Type 0 = λ l. AreHeightMotions (group_listing c.args.group.now) (row_of q.plane) q.period.0 (map height_motion_of l) in
    let Classes : List Height → Type 0 = λ l. AreClasses (AreJoinedAt c.deref-2.result.now q.period.0 l) (length l) in
    subst Classes (sym c.deref.ensures.value)
    (coded_classes (group_listing c.args.group.now) (row_of q.plane) (basis_of_frame q) c.requires c.in_ok-motions.ensures.group q.plane.coprime q.period.0 q.tau_gives c.deref-2.result.now
    (subst Motions (sym c.deref-2.ensures.value) c.in_ok-motions.ensures.motions) scan.special.items scan.in_period)

pub orbit_numbers-requires-clause-few : goal.orbit_numbers-requires-clause-few
orbit_numbers-requires-clause-few c =
    let scan = c.args.scan.now in
    let few = few_heights scan.special.items scan.frame.period.0 scan.in_period scan.rising (period_within scan.frame) in
    subst (λ (l : List Height). length l < 2 ^ 32) (sym c.deref.ensures.value) few

pub returns-clause-numbers : goal.returns-clause-numbers
returns-clause-numbers c = λ g of.
    let scan = c.args.scan.now in
    let q = scan.frame in
    let Motions : List HeightMotion → Type 0 = λ l. AreHeightMotions (group_listing c.args.group.now) (row_of q.plane) q.period.0 (map height_motion_of l) in
    let Numbers : List Height → Type 0 = λ l. (classes : ℕ) × AreNumbered (AreJoinedAt c.deref-2.result.now q.period.0 l) (length l) c.in_ok-of.of.items classes in
    numbers_from g (group_listing c.args.group.now) of.alike (row_of q.plane) _ _
    (coded_numbers (group_listing c.args.group.now) (row_of q.plane) (basis_of_frame q) c.requires c.in_ok-motions.ensures.group q.plane.coprime q.period.0 q.tau_gives c.deref-2.result.now
    (subst Motions (sym c.deref-2.ensures.value) c.in_ok-motions.ensures.motions) scan.special.items scan.in_period c.in_ok-of.of.items
    (subst Numbers c.deref.ensures.value c.in_ok-of.ensures))

pub returns-clause-planes : goal.returns-clause-planes
returns-clause-planes c = λ g of.
    let h = group_listing c.args.group.now in
    let q = c.args.scan.now.frame in
    let len : c.len-planes.result ≡ length c.in_ok-motions.motions.items = omega (arith, c.len-planes.ensures, c.in_ok-motions.motions.ok.0) in
    planes_from g h of.alike (row_of q.plane) _ _
    (coded_planes h (row_of q.plane) (basis_of_frame q) c.requires c.in_ok-motions.ensures.group q.plane.coprime q.period.0 q.tau_gives c.in_ok-motions.motions.items
    c.in_ok-motions.ensures.motions c.len-planes.result len)
