-- Frames and their faults, by any listing of the group; there is one fault at most.
use Rattle.std.proofs.Common.{◌≡◌, ◌↔◌, refl}
use Rattle.std.specs.Prelude.{Result, Ok, Err}
use Rattle.symmetry.specs.Groups.{Listing}
use Rattle.symmetry.specs.Listings.{AreAlike}
use Rattle.symmetry.specs.Vectors.{Vector}
use Rattle.symmetry.specs.Frames.{Basis, IsFrame, IsSkewed}
use Rattle.symmetry.proofs.Alike.{alike_sym, frame_from, frame_to, member_from, member_to, period_from, skewed_as}
use Rattle.symmetry.proofs.AlikeScans.{scanning_from}
use Rattle.motions.specs.BasisView.{basis_of}
use Rattle.motions.specs.Views.{row_of}
use Rattle.motions.specs.declared.basis.Basis.{Basis as BasisOfCode}
use Rattle.motions.specs.declared.basis.FrameFault.{FrameFault}
use Rattle.motions.specs.declared.basis.FrameFault.TheVariants.{NotFrame, Skewed}
use Rattle.motions.specs.declared.miller.Miller.{Miller}
use Rattle.plane_lattice.specs.declared.frame.Frame.{Frame}
use Rattle.plane_lattice.specs.FrameOf.{IsFrameFault, IsFrameOf}

-- ---- the answer that a frame, or its fault, is

abbrev pub Refuses : Result Frame FrameFault → FrameFault → Type 0
Refuses result fault = result ≡ Err fault

module _ (g : Listing) (r : Vector) (f : Basis) where
  pub no_frame : ¬ IsFrame g r f → (fault : FrameFault) → Refuses (Err NotFrame) fault ↔ IsFrameFault g r f fault
  no_frame none NotFrame = (λ _. none, λ _. refl)
  no_frame none Skewed = (λ e. absurd (cc e), λ (frame, skewed). absurd (none frame))

  pub skewed_frame : IsFrame g r f → IsSkewed g r f → (fault : FrameFault) → Refuses (Err Skewed) fault ↔ IsFrameFault g r f fault
  skewed_frame frame skewed NotFrame = (λ e. absurd (cc e), λ none. absurd (none frame))
  skewed_frame frame skewed Skewed = (λ _. (frame, skewed), λ _. refl)

  pub good_frame : (is : Frame) → IsFrame g r f → ¬ IsSkewed g r f → (fault : FrameFault) → Refuses (Ok is) fault ↔ IsFrameFault g r f fault
  good_frame is frame straight NotFrame = (λ e. absurd (cc e), λ none. absurd (none frame))
  good_frame is frame straight Skewed = (λ e. absurd (cc e), λ (_, skewed). absurd (straight skewed))

  pub one_frame_fault : (fault fault' : FrameFault) → IsFrameFault g r f fault → IsFrameFault g r f fault' → fault ≡ fault'
  one_frame_fault NotFrame NotFrame _ _ = refl
  one_frame_fault NotFrame Skewed none (frame, _) = absurd (none frame)
  one_frame_fault Skewed NotFrame (frame, _) none = absurd (none frame)
  one_frame_fault Skewed Skewed _ _ = refl

-- ---- from the one listing to the other

fault_from : (g h : Listing) → AreAlike g h → (r : Vector) (f : Basis) (fault : FrameFault) → IsFrameFault h r f fault → IsFrameFault g r f fault
fault_from g h alike r f NotFrame none = λ frame. none (frame_to g h alike r f frame)
fault_from g h alike r f Skewed (frame, skewed) = (frame_from g h alike r f frame, skewed_as h g (member_from g h alike) r f skewed)

pub refused_alike : (g h : Listing) → AreAlike g h → (r : Vector) (f : Basis) (result : Result Frame FrameFault) (fault : FrameFault)
    → Refuses result fault ↔ IsFrameFault h r f fault → Refuses result fault ↔ IsFrameFault g r f fault
refused_alike g h alike r f result fault own =
    (λ e. fault_from g h alike r f fault (own.0 e), λ is. own.1 (fault_from h g (alike_sym g h alike) r f fault is))

pub frame_alike : (g h : Listing) → AreAlike g h → (plane : Miller) (basis : BasisOfCode) (frame : Frame)
    → IsFrameOf h plane basis frame → IsFrameOf g plane basis frame
frame_alike g h alike plane basis frame of =
    let r = row_of plane in
    let f = basis_of basis in record {
      plane = of.plane;
      a = of.a;
      b = of.b;
      tau = of.tau;
      is_frame = frame_from g h alike r f of.is_frame;
      not_skewed = λ skewed. of.not_skewed (skewed_as g h (member_to g h alike) r f skewed);
      period = period_from g h alike r frame.period.0 of.period;
      scanning = of.scanning;
      are_scanning = scanning_from g h alike r of.scanning of.are_scanning;
      mean = of.mean;
    }
