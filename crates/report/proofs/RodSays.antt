-- What a rod says of its line, for each listing of the group.
use Rattle.std.proofs.Common.{◌≡◌, inl, ℕ, ◌<◌, ℤ, pos, ◌*ℤ◌, ◌≤ℤ◌, ◌<ℤ◌, List, [], length, map, sym, ap, subst, ◌∙◌, arith}
use Rattle.std.specs.Prelude.{slice_index_or}
use Rattle.std.proofs.lemmas.Int.{ints}
use Rattle.fractions.specs.declared.part.TheConstants.{UNIT}
use Rattle.fractions.specs.declared.part.Part.{Part}
use Rattle.fractions.specs.declared.ratio.Ratio.{Ratio}
use Rattle.fractions.specs.Fractions.{fractions_of}
use Rattle.fractions.proofs.Lowest.{lowest_terms-only}
use Rattle.integers.proofs.Order.{one-le-mul}
use Rattle.symmetry.specs.Vectors.{Vector}
use Rattle.symmetry.specs.Motions.{Motion, Point, identity}
use Rattle.symmetry.specs.Groups.{Listing, IsGroup}
use Rattle.symmetry.specs.Frames.{Basis}
use Rattle.symmetry.proofs.Alike.{alike_sym}
use Rattle.symmetry.proofs.MatrixLaws.{image-unit}
use Rattle.motions.specs.Views.{motion_of, parts}
use Rattle.closure.specs.declared.group.Group.{Group}
use Rattle.closure.specs.Groups.{IsGroupOf, group_listing}
use Rattle.plane_lattice.specs.Scanning.{IsPointOf}
use Rattle.penetration.specs.declared.direction.Direction.{Direction}
use Rattle.penetration.specs.declared.frame.RodBasis.{RodBasis}
use Rattle.penetration.specs.declared.frame.RodFrame.{RodFrame}
use Rattle.penetration.specs.declared.rod.Rod.{Rod}
use Rattle.penetration.specs.DirectionView.{direction_of}
use Rattle.penetration.specs.FrameOf.{IsRodFrameOf, with_axis}
use Rattle.penetration.specs.RodFrameView.{basis_of_rod}
use Rattle.penetration.specs.RodFrames.{AreRodOperations, IsRodFrame, IsRodSkewed, levelled}
use Rattle.penetration.specs.RodOperations.{vector_across}
use Rattle.penetration.specs.RodSections.{counted}
use Rattle.penetration.specs.RodView.{IsRodAlong, IsRodOf}
use Rattle.penetration.proofs.AlikeRods.{rod_frame_from, rod_from, rod_operations_from, rod_skewed_from}
use Rattle.report.specs.RodReports.{IsRodReport}
use Rattle.report.specs.RodReportView.{rod_report_of}
use Rattle.report.specs.TypeVectors.{lowest_point}
use Rattle.report.proofs.Means.{point_in_lowest_terms}

-- an array of ratios that is a point is the point in lowest terms
lowest_of : (p : Point) (c : List Ratio) → ¬ (p.over ≡ pos 0) → IsPointOf p c → fractions_of c ≡ lowest_point p
lowest_of p c over is =
    let form = point_in_lowest_terms p c is in
    λ i. record { x = lowest_terms-only _ _ _ over form.x i; y = lowest_terms-only _ _ _ over form.y i; z = lowest_terms-only _ _ _ over form.z i }

-- a group has a rod operation
some_operation : (g : Listing) (u : Vector) (ms : List Motion) → IsGroup g → AreRodOperations g u ms → 0 < length ms
some_operation g u ms group are =
    let e = are.once identity group.has_identity (inl (image-unit u)) in
    let within = e.within in
    omega (arith, within)

-- the number below a' and b' is not 0
over_not_zero : (n : ℕ) (d : ℤ) → 0 < n → pos 0 <ℤ d → ¬ (UNIT *ℤ (pos n *ℤ d) ≡ pos 0)
over_not_zero n d some positive e =
    let below : pos 1 ≤ℤ (pos n *ℤ d) = one-le-mul (pos n) d (omega (arith, ints, some)) (omega (arith, ints, positive)) in
    absurd (omega (arith, ints, below, e))

module _ (g : Listing) (group : Group) (direction : Direction) (basis : RodBasis) (frame : RodFrame) (point : List Part) (rod : Rod)
    (is_group : IsGroupOf g group) (made : IsRodFrameOf group direction basis frame) (is : IsRodOf group frame point rod) where
  abbrev h : Listing
  h = group_listing group

  abbrev u : Vector
  u = direction_of direction

  abbrev f : Vector → Basis
  f c = with_axis (parts basis.a) (parts basis.b) c

  axis_is : parts frame.axis ≡ parts rod.frame.axis
  axis_is = ap (λ (q : RodFrame). parts q.axis) (sym is.frame_is)

  same_basis : basis_of_rod frame ≡ f (parts rod.frame.axis)
  same_basis = λ i. record { a = parts (made.a i); b = parts (made.b i); tau = axis_is i }

  is_frame : IsRodFrame g u (f (parts rod.frame.axis))
  is_frame = rod_frame_from g h is_group.alike u (f (parts rod.frame.axis)) (subst (λ c. IsRodFrame h u (f c)) axis_is made.is_frame)

  are_rods : AreRodOperations g u made.rods
  are_rods = rod_operations_from g h is_group.alike u made.rods made.are_rods

  across_is : (v : Vector) (k : ℕ) → IsPointOf (levelled u (f (parts frame.axis)) made.rods v) (slice_index_or frame.across k [])
      → vector_across rod.frame.across k ≡ lowest_point (levelled u (f (parts rod.frame.axis)) made.rods v)
  across_is v k points =
      lowest_of (levelled u (f (parts rod.frame.axis)) made.rods v) (slice_index_or rod.frame.across k [])
      (over_not_zero (length made.rods) _ (some_operation g u made.rods is_group.is_group are_rods) is_frame.right_handed)
      (subst (λ (q : RodFrame). IsPointOf (levelled u (f (parts q.axis)) made.rods v) (slice_index_or q.across k [])) (sym is.frame_is) points)

  told : IsRodAlong g u (f (parts rod.frame.axis)) (counted (parts point)) (map motion_of rod.ops.items) rod.found
  told =
      rod_from g h is_group.alike u (f (parts rod.frame.axis)) (counted (parts point)) (map motion_of rod.ops.items) rod.found
      (subst (λ w. IsRodAlong h w (f (parts rod.frame.axis)) (counted (parts point)) (map motion_of rod.ops.items) rod.found) (ap direction_of made.along)
      (subst (λ b. IsRodAlong h (direction_of frame.direction) b (counted (parts point)) (map motion_of rod.ops.items) rod.found) same_basis is.told))

  pub rod_says : IsRodReport g u (parts basis.a) (parts basis.b) (parts point) (rod_report_of rod)
  rod_says = record {
    direction = ap (λ (q : RodFrame). direction_of q.direction) is.frame_is ∙ ap direction_of made.along;
    point = ap parts is.point_is;
    frame = is_frame;
    not_skewed = λ skewed.
        made.not_skewed (subst (λ c. IsRodSkewed h u (f c)) (sym axis_is)
        (rod_skewed_from h g (alike_sym g h is_group.alike) u (f (parts rod.frame.axis)) skewed));
    rods = made.rods;
    are_rods = are_rods;
    first = across_is (parts basis.a) 0 made.across.first;
    second = across_is (parts basis.b) 1 made.across.second;
    told = told;
  }
