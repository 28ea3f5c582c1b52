-- A line is answered, or refused for one fault of its rod frame.
use Rattle.std.proofs.Common.{◌≡◌, ℕ, List, refl, sym, ap, ◌∙◌, subst}
use Rattle.symmetry.specs.Vectors.{Vector}
use Rattle.symmetry.specs.Groups.{Listing}
use Rattle.motions.specs.declared.basis.FrameFault.{FrameFault}
use Rattle.motions.specs.declared.basis.FrameFault.TheVariants.{NotFrame, Skewed}
use Rattle.penetration.specs.FrameOf.{IsRodFrameFault, with_axis}
use Rattle.penetration.specs.RodFrames.{IsRodSkewed}
use Rattle.penetration.proofs.AxisFacts.{axis_once}
use Rattle.requests.specs.declared.refusal.Refusal.{Refusal}
use Rattle.requests.specs.Obstacles.{refusal_of_frame}
use Rattle.requests.specs.Rods.{IsFairRod, IsRodAnswer, RefusesRod}

module _ (g : Listing) (u a b : Vector) where
  one_rod_fault : (f f' : FrameFault) → IsRodFrameFault g u a b f → IsRodFrameFault g u a b f' → f ≡ f'
  one_rod_fault NotFrame NotFrame p q = refl
  one_rod_fault NotFrame Skewed p (c, is, skewed) = absurd (p c is.axis is)
  one_rod_fault Skewed NotFrame (c, is, skewed) q = absurd (q c is.axis is)
  one_rod_fault Skewed Skewed p q = refl

  pub one_rod_refusal : (r r' : Refusal) → RefusesRod g u a b r → RefusesRod g u a b r' → r ≡ r'
  one_rod_refusal r r' p q = p.2 ∙ ap refusal_of_frame (one_rod_fault p.0 q.0 p.1 q.1) ∙ sym q.2

  -- a frame that is skewed has the axis of that which is not
  pub rod_frame_holds : (f : FrameFault) → IsFairRod g u a b → IsRodFrameFault g u a b f → ⊥
  rod_frame_holds NotFrame fair p = p fair.axis fair.is_frame.axis fair.is_frame
  rod_frame_holds Skewed fair (c, is, skewed) =
      fair.not_skewed (subst (λ (c : Vector). IsRodSkewed g u (with_axis a b c)) (axis_once g u c fair.axis is.axis fair.is_frame.axis) skewed)

  pub answered_rod_fair : (p : Vector) (text : List ℕ) → IsRodAnswer g u a b p text → IsFairRod g u a b
  answered_rod_fair p text answer = record {
    axis = answer.report.axis;
    is_frame = answer.is_report.frame;
    not_skewed = answer.is_report.not_skewed;
  }
