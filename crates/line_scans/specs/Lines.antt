-- Lines h x + k y = s of a plane group, and the motions that map them to themselves.
use Rattle.std.specs.Prelude.{◌≡◌, ◌⊎◌, ℤ, pos, negsuc, ◌*ℤ◌, ◌≤ℤ◌, Contains}
use Rattle.fractions.specs.declared.part.TheConstants.{UNIT}
use Rattle.symmetry.specs.Motions.{Motion}
use Rattle.symmetry.specs.Planes.{Height, IsHeight}
use Rattle.symmetry.specs.Groups.{Listing}
use Rattle.motions.specs.PlaneMatrices.{Pair, dot2, image2, minus2, plus2, row_times2}
use Rattle.plane_motions.specs.PlaneMotions.{PlaneMotion, plane_block}
use Rattle.line_frames.specs.Lines.{IsInPlaneLattice, first_two, times2}

-- the rational point (X,Y) over n
pub record PlanePoint : Type 0 where
  pub at : Pair
  pub over : ℤ

-- the number below is at least 1
abbrev pub IsPlanePoint : PlanePoint → Type 0
IsPlanePoint p = pos 1 ≤ℤ p.over

-- where a motion takes a point: UNIT W (X,Y) + n w over UNIT n
abbrev pub moved2 : PlaneMotion → PlanePoint → PlanePoint
moved2 m p = record {
  at = plus2 (times2 UNIT (image2 m.matrix p.at)) (times2 p.over m.translation);
  over = UNIT *ℤ p.over;
}

-- the point (X,Y) over n lies on the line of height p/q: (h X + k Y) q = p n
abbrev pub IsOnLine : Pair → Height → PlanePoint → Type 0
IsOnLine r s p = dot2 r p.at *ℤ s.den ≡ s.num *ℤ p.over

-- the motion takes every point of the line s to a point of it
abbrev pub KeepsLine : Pair → Height → PlaneMotion → Type 0
KeepsLine r s m = (p : PlanePoint) → IsPlanePoint p → IsOnLine r s p → IsOnLine r s (moved2 m p)

-- a motion of the plane is the same as a listed operation modulo L2, where that is seen as a pair: one matrix, and
-- translations that differ by a member of L2
pub record IsSameInPlane (g : Listing) (m : PlaneMotion) (of : Motion) : Type 0 where
  pub matrix : (plane_block m).matrix ≡ of.matrix
  pub translation : IsInPlaneLattice g (minus2 m.translation (first_two of.translation))

-- the group G2 of the plane: the motions that are the same as a listed operation modulo L2
pub record IsPlaneMember (g : Listing) (m : PlaneMotion) : Type 0 where
  pub of : Motion
  pub listed : Contains g.ops of
  pub same : IsSameInPlane g m of

-- Stab2(p/q): the members that map the line of this height to itself
abbrev pub InLineStabiliser : Listing → Pair → Height → PlaneMotion → Type 0
InLineStabiliser g r s m = IsPlaneMember g m × KeepsLine r s m

-- the members that map every line of the orientation to itself
abbrev pub FixesEveryLine : Listing → Pair → PlaneMotion → Type 0
FixesEveryLine g r m = IsPlaneMember g m × ((s : Height) → IsHeight s → KeepsLine r s m)

-- a height where some member maps the line to itself that does not map every line to itself
abbrev pub IsSpecialLine : Listing → Pair → Height → Type 0
IsSpecialLine g r s = (m : PlaneMotion) × InLineStabiliser g r s m × ¬ (FixesEveryLine g r m)

-- a motion that keeps the orientation: (hk) W = (hk) or (hk) W = -(hk)
abbrev pub KeepsLines : Pair → PlaneMotion → Type 0
KeepsLines r m = (row_times2 r m.matrix ≡ r) ⊎ (row_times2 r m.matrix ≡ times2 (negsuc 0) r)
