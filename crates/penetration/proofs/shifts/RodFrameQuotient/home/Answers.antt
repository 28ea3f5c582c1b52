-- The motion is the one at home of the definition.
use Rattle.std.proofs.Common.{◌≡◌, ◌^◌, ◌∙◌, sym, subst, refl}
use Rattle.symmetry.specs.Sizes.{IsVectorWithin}
use Rattle.symmetry.specs.Vectors.{Vector}
use Rattle.symmetry.proofs.MotionLaws.{motion_path}
use Rattle.motions.specs.BasisView.{basis_of}
use Rattle.motions.specs.Views.{motion_of, parts, vector_of}
use Rattle.penetration.specs.RodFrames.{DiffersAlong}
use Rattle.penetration.specs.RodFrameView.{basis_of_rod}
use Rattle.penetration.specs.RodHomes.{IsAtRodHome, rod_home, rod_home_shift}
use Rattle.penetration.specs.declared.frame.RodFrame.{RodFrame}
use Rattle.penetration.proofs.AxisTests.{less_turns}
use Rattle.penetration.proofs.RodHomeLaws.{rod_home_at_home, rod_home_differs}
use Rattle.penetration.proofs.RodHomeSizes.{rod_home_within}
use Rattle.penetration.proofs.shifts.RodFrameQuotient.home.Goals as goal
use Rattle.penetration.proofs.shifts.RodFrameQuotient.home.Goals.{After-without}

within : (q : RodFrame) (v : Vector) → IsVectorWithin (2 ^ 23) v → IsVectorWithin (2 ^ 62) (rod_home_shift (basis_of_rod q) v)
within q v small = rod_home_within (basis_of_rod q) q.right_handed q.large q.a_in_range q.b_in_range q.axis_in_range v small

pub without-requires-clause-rest : goal.without-requires-clause-rest
without-requires-clause-rest c =
    let q = c.args.self.now in
    let v = parts c.args.m.now.t in
    let d = c.dual-dual.result in
    let P : Vector → Type 0 = IsVectorWithin (2 ^ 62) in
    subst P
    (sym (less_turns (basis_of_rod q) (basis_of d.basis) v d.volume (vector_of c.scaled.result) c.floor-turns.result c.dual-dual.ensures d.volume_small d.volume_is
    c.scaled.ensures.small c.scaled.ensures.is c.floor-turns.ensures.small c.floor-turns.ensures.is))
    (within q v c.requires)

shift : (c : After-without) → parts c.without.result ≡ rod_home_shift (basis_of_rod c.args.self.now) (parts c.args.m.now.t)
shift c =
    let d = c.dual-dual.result in
    c.without.ensures
    ∙ less_turns (basis_of_rod c.args.self.now) (basis_of d.basis) (parts c.args.m.now.t) d.volume (vector_of c.scaled.result) c.floor-turns.result c.dual-dual.ensures
    d.volume_small d.volume_is c.scaled.ensures.small c.scaled.ensures.is c.floor-turns.ensures.small c.floor-turns.ensures.is

is : (c : After-without) → motion_of (record { w = c.args.m.now.w; t = c.without.result }) ≡ rod_home (basis_of_rod c.args.self.now) (motion_of c.args.m.now)
is c = motion_path refl (shift c)

pub returns-clause-value : goal.returns-clause-value
returns-clause-value c = is c

pub returns-clause-at_home : goal.returns-clause-at_home
returns-clause-at_home c =
    let f = basis_of_rod c.args.self.now in
    subst (IsAtRodHome f) (sym (is c)) (rod_home_at_home f c.args.self.now.right_handed (motion_of c.args.m.now))

pub returns-clause-differs : goal.returns-clause-differs
returns-clause-differs c =
    let f = basis_of_rod c.args.self.now in
    subst (DiffersAlong f (motion_of c.args.m.now)) (sym (is c)) (rod_home_differs f (motion_of c.args.m.now))

pub returns-clause-small : goal.returns-clause-small
returns-clause-small c =
    let P : Vector → Type 0 = IsVectorWithin (2 ^ 62) in
    subst P (sym (shift c)) (within c.args.self.now (parts c.args.m.now.t) c.requires)
