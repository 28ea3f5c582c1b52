-- With the axis the vectors are no frame, one that is skewed, or one that is given.
use Rattle.std.proofs.Common.{◌≡◌, ◌≤◌, List, length, map, refl, sym, subst, arith}
use Rattle.integers.proofs.Order.{at_least_one}
use Rattle.fractions.specs.declared.ratio.Ratio.{Ratio}
use Rattle.symmetry.specs.Vectors.{Vector}
use Rattle.motions.specs.BasisView.{basis_of}
use Rattle.symmetry.specs.Motions.{Motion}
use Rattle.motions.specs.Views.{motion_of, parts}
use Rattle.motions.specs.declared.basis.Basis.{Basis as BasisOfCode}
use Rattle.closure.specs.Groups.{group_listing}
use Rattle.closure.proofs.OwnLattice.{own_fine}
use Rattle.plane_lattice.specs.Coordinates.{volume}
use Rattle.plane_lattice.proofs.LatticeTests.{edges_held}
use Rattle.plane_lattice.proofs.FrameTestFacts.{told}
use Rattle.penetration.specs.declared.frame.RodFrame.{RodFrame}
use Rattle.penetration.specs.DirectionView.{direction_of}
use Rattle.penetration.specs.FrameOf.{with_axis}
use Rattle.penetration.specs.RodFrames.{IsRodFrame, IsRodSkewed, levelled}
use Rattle.penetration.specs.RodOperations.{ArePointsOf, rod_ops}
use Rattle.penetration.proofs.AcrossSizes.{across_within, few_rods}
use Rattle.penetration.proofs.FrameFaults.{no_fault, not_frame, skewed}
use Rattle.penetration.proofs.RodSums.{rod_ops_are, some_rod}
use Rattle.penetration.proofs.VolumeBound.{volume_bound}
use Rattle.penetration.proofs.frame.RodFrame.make.Goals as goal

-- a' and b' of one basis and one list are those of the same
across_as : (u : Vector) (kept basis : BasisOfCode) (ops ms : List Motion) (across : List (List Ratio)) → kept ≡ basis → ops ≡ ms
    → ArePointsOf (levelled u (basis_of kept) (rod_ops u ops) (basis_of kept).a) (levelled u (basis_of kept) (rod_ops u ops) (basis_of kept).b) across
    → ArePointsOf (levelled u (basis_of basis) (rod_ops u ms) (basis_of basis).a) (levelled u (basis_of basis) (rod_ops u ms) (basis_of basis).b) across
across_as u kept basis ops ms across e h are =
    subst (λ (l : List Motion). ArePointsOf (levelled u (basis_of basis) (rod_ops u l) (basis_of basis).a) (levelled u (basis_of basis) (rod_ops u l) (basis_of basis).b) across) h
    (subst (λ (b : BasisOfCode). ArePointsOf (levelled u (basis_of b) (rod_ops u ops) (basis_of b).a) (levelled u (basis_of b) (rod_ops u ops) (basis_of b).b) across) e are)

pub invariant_of-result : goal.invariant_of-result
invariant_of-result c =
    let g = group_listing c.args.group.now in
    let u = direction_of c.args.direction in
    let f = with_axis (parts c.args.basis.a) (parts c.args.basis.b) (parts c.axis-axis.result) in
    let frame = (told (IsRodFrame g u) c.make-dual.ensures c.is_rod_frame.ensures).0 c.if-not-is_rod_frame.false in
    let positive = at_least_one (volume f) frame.right_handed in
    let tells = told (IsRodSkewed g u) c.make-dual.ensures c.is_rod_skewed.ensures in
    let some = some_rod g u c.ops.ensures.group in
    record {
      axis_in_range = c.axis-axis.ensures.small;
      a_in_range = c.args.basis.a_in_range;
      b_in_range = c.args.basis.b_in_range;
      across_in_range = across_within g u f (rod_ops u g.ops) (omega (arith, some))
          (few_rods u c.ops.result.now g.ops c.ops.ensures.ops c.ops.ensures.few) positive c.axis-axis.ensures.small
          c.ops.ensures.group c.args.direction.coprime frame (λ s. cc (c.if-is_rod_skewed.false, tells.1 s)) (rod_ops_are g u c.ops.ensures.apart)
          c.args.basis.a_in_range c.args.basis.b_in_range c.across-across.result
          (across_as u _ _ (map motion_of c.ops.result.now) g.ops c.across-across.result c.make-dual.ensures c.ops.ensures.ops c.across-across.ensures);
      right_handed = positive;
      holds_edges = ∣ edges_held g f frame.spans ∣₁;
      large = volume_bound f g frame.inside (own_fine c.args.group.now) positive;
    }

pub returns-then-not-is_rod_frame-clause-faults : goal.returns-then-not-is_rod_frame-clause-faults
returns-then-not-is_rod_frame-clause-faults c =
    let g = group_listing c.args.group.now in
    let u = direction_of c.args.direction in
    let tells = told (IsRodFrame g u) c.make-dual.ensures c.is_rod_frame.ensures in
    not_frame g u (parts c.args.basis.a) (parts c.args.basis.b) (parts c.axis-axis.result) c.axis-axis.ensures.axis RodFrame
    (λ h. absurd (cc (c.if-not-is_rod_frame.true, tells.1 h)))

pub returns-then-is_rod_skewed-clause-faults : goal.returns-then-is_rod_skewed-clause-faults
returns-then-is_rod_skewed-clause-faults c =
    let g = group_listing c.args.group.now in
    let u = direction_of c.args.direction in
    skewed g u (parts c.args.basis.a) (parts c.args.basis.b) (parts c.axis-axis.result) c.axis-axis.ensures.axis RodFrame
    ((told (IsRodFrame g u) c.make-dual.ensures c.is_rod_frame.ensures).0 c.if-not-is_rod_frame.false)
    ((told (IsRodSkewed g u) c.make-dual.ensures c.is_rod_skewed.ensures).0 c.if-is_rod_skewed.true)

pub returns-clause-faults : goal.returns-clause-faults
returns-clause-faults c fault =
    let g = group_listing c.args.group.now in
    let u = direction_of c.args.direction in
    let tells = told (IsRodSkewed g u) c.make-dual.ensures c.is_rod_skewed.ensures in
    let none = no_fault g u (parts c.args.basis.a) (parts c.args.basis.b) (parts c.axis-axis.result) c.axis-axis.ensures.axis
    ((told (IsRodFrame g u) c.make-dual.ensures c.is_rod_frame.ensures).0 c.if-not-is_rod_frame.false)
    (λ h. absurd (cc (c.if-is_rod_skewed.false, tells.1 h))) in
    (λ e. absurd (cc e), λ h. absurd (none fault h))

pub across-across-requires-clause-operations : goal.across-across-requires-clause-operations
across-across-requires-clause-operations c k d h = (c.ops.ensures.small k d h).small

pub across-across-requires-clause-some : goal.across-across-requires-clause-some
across-across-requires-clause-some c =
    let u = direction_of c.args.direction in
    let some = some_rod (group_listing c.args.group.now) u c.ops.ensures.group in
    subst (λ (ms : List Motion). 1 ≤ length (rod_ops u ms)) (sym c.ops.ensures.ops) (omega (arith, some))

pub returns-clause-ok : goal.returns-clause-ok
returns-clause-ok c =
    let g = group_listing c.args.group.now in
    let u = direction_of c.args.direction in
    let f = with_axis (parts c.args.basis.a) (parts c.args.basis.b) (parts c.axis-axis.result) in
    let tells = told (IsRodSkewed g u) c.make-dual.ensures c.is_rod_skewed.ensures in
    record {
      along = refl;
      a = refl;
      b = refl;
      is_frame = (told (IsRodFrame g u) c.make-dual.ensures c.is_rod_frame.ensures).0 c.if-not-is_rod_frame.false;
      not_skewed = λ s. cc (c.if-is_rod_skewed.false, tells.1 s);
      rods = rod_ops u g.ops;
      are_rods = rod_ops_are g u c.ops.ensures.apart;
      across = across_as u _ _ (map motion_of c.ops.result.now) g.ops c.across-across.result c.make-dual.ensures c.ops.ensures.ops c.across-across.ensures;
    }

pub returns-clause-made : goal.returns-clause-made
returns-clause-made c = (c.args.basis, returns-clause-ok c)
