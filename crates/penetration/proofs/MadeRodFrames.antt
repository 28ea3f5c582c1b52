-- What a rod frame is that `RodFrame::make` gives for a group, and what members of the group do in it.
use Rattle.std.proofs.Common.{◌≡◌, inl, inr, ℤ, pos, ◌*ℤ◌, ◌≤ℤ◌, sym, ap, subst, ◌∙◌}
use Rattle.fractions.specs.declared.part.TheConstants.{UNIT}
use Rattle.integers.proofs.Order.{mul_left_cancel_pos}
use Rattle.integers.proofs.Ring.{mul_zero}
use Rattle.symmetry.specs.Vectors.{Vector, multiple, image}
use Rattle.symmetry.specs.Motions.{Motion}
use Rattle.symmetry.specs.Planes.{IsCoprime}
use Rattle.symmetry.specs.Groups.{Listing, IsGroup, IsMember}
use Rattle.symmetry.specs.Frames.{Basis}
use Rattle.symmetry.specs.Sizes.{IsVectorWithin}
use Rattle.symmetry.proofs.GroupLaws.{member_keeps}
use Rattle.motions.specs.Views.{parts}
use Rattle.closure.specs.declared.group.Group.{Group}
use Rattle.closure.specs.Groups.{group_listing}
use Rattle.plane_lattice.specs.Coordinates.{IsCombination, scaled, volume}
use Rattle.plane_lattice.specs.Laws.QuotientLaws.{scaled-combination}
use Rattle.plane_lattice.proofs.SectionFacts.{near_or_far}
use Rattle.plane_lattice.proofs.Skewness.{IsTurned, same_turned}
use Rattle.penetration.specs.declared.frame.RodFrame.{RodFrame}
use Rattle.penetration.specs.DirectionView.{direction_of}
use Rattle.penetration.specs.Lines.{InLineStabiliser}
use Rattle.penetration.specs.RodFrames.{IsRodFrame, IsRodSkewed, KeepsDirection}
use Rattle.penetration.specs.RodFrameView.{basis_of_rod, IsRodMadeFor}
use Rattle.penetration.specs.RodHomes.{IsAlongAxis}
use Rattle.penetration.specs.RodSections.{counted, drift}
use Rattle.penetration.proofs.AxisFacts.{a_inside, b_inside}
use Rattle.penetration.proofs.AxisTests.{along_by_coordinates}
use Rattle.penetration.proofs.LatticeMultiples.{lattice-edges}
use Rattle.penetration.proofs.LineMembers.{drift_flat, frame_volume, scaled_multiple}
use Rattle.penetration.proofs.DirectionSigns.{same_direction}

module _ (group : Group) (frame : RodFrame) (made : IsRodMadeFor group frame) where
  same_basis : record { a = parts made.0.a; b = parts made.0.b; tau = parts frame.axis } ≡ basis_of_rod frame
  same_basis = λ i. record { a = parts (sym made.1.a i); b = parts (sym made.1.b i); tau = parts frame.axis }

  pub made_rod_frame : IsRodFrame (group_listing group) (direction_of frame.direction) (basis_of_rod frame)
  made_rod_frame = subst (IsRodFrame (group_listing group) (direction_of frame.direction)) same_basis made.1.is_frame

  pub made_rod_not_skewed : ¬ IsRodSkewed (group_listing group) (direction_of frame.direction) (basis_of_rod frame)
  made_rod_not_skewed = subst (λ f. ¬ IsRodSkewed (group_listing group) (direction_of frame.direction) f) same_basis made.1.not_skewed

-- ---- coordinates of what a member turns

pub rod_turned_near : (g : Listing) (u : Vector) (f : Basis) (m : Motion) → ¬ IsRodSkewed g u f → IsMember g m → KeepsDirection u m
    → (c : Vector) → IsTurned f m c → IsVectorWithin 500 c
rod_turned_near g u f m not_skewed member keeps c turned =
    elim (near_or_far 500 c) [
      | inl near ↦ near
      | inr far ↦ absurd (not_skewed (record {
        op = member.of;
        listed = member.listed;
        along = same_direction u m member.of member.same.matrix keeps;
        coefficients = c;
        of = same_turned f m member.of c member.same.matrix turned;
        large = far;
      }))
    ]

cancelled : (v n c s : ℤ) → pos 1 ≤ℤ v → v *ℤ c ≡ n *ℤ s → s ≡ pos 0 → c ≡ pos 0
cancelled v n c s positive e h = mul_left_cancel_pos v c (pos 0) positive (e ∙ ap (λ x. n *ℤ x) h ∙ mul_zero n ∙ sym (mul_zero v))

first : (v s : Vector) (k l : ℤ) → multiple k v ≡ multiple l s → k *ℤ v.x ≡ l *ℤ s.x
unfolding multiple
first v s k l e = λ i. (e i).x

second : (v s : Vector) (k l : ℤ) → multiple k v ≡ multiple l s → k *ℤ v.y ≡ l *ℤ s.y
unfolding multiple
second v s k l e = λ i. (e i).y

module _ (g : Listing) (u : Vector) (f : Basis) (group : IsGroup g) (coprime : IsCoprime u) (frame : IsRodFrame g u f) (m : Motion) where
  pub turned_a : IsMember g m → IsCombination f (image m.matrix f.a)
  turned_a member = frame.spans (image m.matrix f.a) (member_keeps g group m member f.a (a_inside g u f frame.axis frame))

  pub turned_b : IsMember g m → IsCombination f (image m.matrix f.b)
  turned_b member = frame.spans (image m.matrix f.b) (member_keeps g group m member f.b (b_inside g u f frame.axis frame))

  -- where it maps the line to itself, its drift is a whole number of parts of the axis
  pub drift_in_parts : (at : Vector) → InLineStabiliser g u (counted at) m → IsAlongAxis f (multiple UNIT (drift m at))
  drift_in_parts at in_it =
      let (c, is) = frame.spans (multiple UNIT (drift m at)) (lattice-edges g (drift m at)) in
      let positive = frame_volume g u f group coprime frame at in
      let (x, y) = drift_flat g u f group coprime frame at m in_it in
      let e : multiple (volume f) c ≡ multiple UNIT (scaled f (drift m at)) = sym (scaled-combination f c) ∙ ap (scaled f) is ∙ scaled_multiple f UNIT (drift m at) in
      (along_by_coordinates f (multiple UNIT (drift m at)) c positive is).0
      (cancelled (volume f) UNIT c.x (scaled f (drift m at)).x positive (first c (scaled f (drift m at)) (volume f) UNIT e) x, cancelled (volume f) UNIT c.y (scaled f (drift m at)).y positive (second c (scaled f (drift m at)) (volume f) UNIT e) y)
