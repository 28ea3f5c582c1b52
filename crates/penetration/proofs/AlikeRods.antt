-- Listings of one group have the same axis, rod frames and rods.
use Rattle.std.proofs.Common.{◌≡◌, ◌⊎◌, ℕ, List, Option, Some, None, subst}
use Rattle.std.specs.Prelude.{IfSome}
use Rattle.symmetry.specs.Vectors.{Vector, Matrix, image, multiple, opposite}
use Rattle.symmetry.specs.Motions.{Motion, Point}
use Rattle.symmetry.specs.Groups.{Listing, IsMember}
use Rattle.symmetry.specs.Frames.{Basis, combination}
use Rattle.symmetry.specs.Lists.{motion_at}
use Rattle.symmetry.specs.Listings.{AreAlike}
use Rattle.symmetry.proofs.Alike.{alike_sym, before_from, member_from, member_to, same_from, same_to}
use Rattle.symmetry.proofs.LatticeLaws.{listed_member}
use Rattle.motions.specs.declared.basis.FrameFault.{FrameFault}
use Rattle.motions.specs.declared.basis.FrameFault.TheVariants.{NotFrame, Skewed}
use Rattle.recognition.specs.declared.found_rod.FoundRod.{FoundRod}
use Rattle.recognition.specs.RationalRods.{RationalRod}
use Rattle.recognition.specs.RodOrder.{Change, IsFirst}
use Rattle.recognition.specs.RodTypes.{change_of}
use Rattle.penetration.specs.FrameOf.{IsRodFrameFault, with_axis}
use Rattle.penetration.specs.Lines.{InLineStabiliser, IsAxis}
use Rattle.penetration.specs.RodFrames.{AreRodOperations, IsRodFrame, IsRodSkewed}
use Rattle.penetration.specs.RodSections.{InRodSection}
use Rattle.penetration.specs.RodView.{CarriesRod, IsFoundOf, IsRodAlong}

-- the first change by another property that says the same
first_as : (n : ℕ) (P Q : Change → Type 0) → ((c : Change) → P c → Q c) → ((c : Change) → Q c → P c) → (c : Change) → IsFirst n P c → IsFirst n Q c
first_as n P Q to from c f = record { bounded = f.bounded; has = to c f.has; first = λ d b q. f.first d b (from d q) }

module _ (g h : Listing) (alike : AreAlike g h) where
  axis_from : (u c : Vector) → IsAxis h u c → IsAxis g u c
  axis_from u c a = record {
    times = a.times;
    positive = a.positive;
    is = a.is;
    inside = (alike.lattice c).1 a.inside;
    least = λ k p inside. a.least k p ((alike.lattice (multiple k u)).0 inside);
  }

  pub rod_frame_from : (u : Vector) (f : Basis) → IsRodFrame h u f → IsRodFrame g u f
  rod_frame_from u f r = record {
    axis = axis_from u f.tau r.axis;
    spans = λ t is. r.spans t ((alike.lattice t).0 is);
    once = r.once;
    inside = λ c. (alike.lattice (combination f c)).1 (r.inside c);
    right_handed = r.right_handed;
  }

  -- a listed operation is a member, so that the other listing has one with its matrix
  pub rod_skewed_from : (u : Vector) (f : Basis) → IsRodSkewed h u f → IsRodSkewed g u f
  rod_skewed_from u f s =
      let member : IsMember g s.op = member_from g h alike s.op (listed_member h s.op s.listed) in
      record {
        op = member.of;
        listed = member.listed;
        along = subst (λ (w : Matrix). (image w u ≡ u) ⊎ (image w u ≡ opposite u)) member.same.matrix s.along;
        coefficients = s.coefficients;
        of = subst (λ (w : Matrix). (combination f s.coefficients ≡ image w f.a) ⊎ ((combination f s.coefficients ≡ image w f.b) ⊎ (combination f s.coefficients ≡ image w f.tau))) member.same.matrix s.of;
        large = s.large;
      }

  rod_operations_to : (u : Vector) (ms : List Motion) → AreRodOperations g u ms → AreRodOperations h u ms
  rod_operations_to u ms r = record {
    listed = λ k w. let l = r.listed k w in (member_to g h alike (motion_at ms k) l.0, l.1);
    once = λ m member keeps.
        let e = r.once m (member_from g h alike m member) keeps in
        record {
          place = e.place;
          within = e.within;
          has = same_to g h alike m (motion_at ms e.place) e.has;
          only = λ k w same. e.only k w (same_from g h alike m (motion_at ms k) same);
        };
  }

  stabiliser_from : (u : Vector) (p : Point) (m : Motion) → InLineStabiliser h u p m → InLineStabiliser g u p m
  stabiliser_from u p m s = (member_from g h alike m s.0, s.1)

  stabiliser_to : (u : Vector) (p : Point) (m : Motion) → InLineStabiliser g u p m → InLineStabiliser h u p m
  stabiliser_to u p m s = (member_to g h alike m s.0, s.1)

  module _ (u : Vector) (f : Basis) (p : Point) where
    section_from : (rods : List Motion) (op : RationalRod) → InRodSection h u f rods p op → InRodSection g u f rods p op
    section_from rods op s = record { motion = s.motion; in_stabiliser = stabiliser_from u p s.motion s.in_stabiliser; acts = s.acts }

    section_to : (rods : List Motion) (op : RationalRod) → InRodSection g u f rods p op → InRodSection h u f rods p op
    section_to rods op s = record { motion = s.motion; in_stabiliser = stabiliser_to u p s.motion s.in_stabiliser; acts = s.acts }

    carries_from : (rods : List Motion) (c : Change) → CarriesRod h u f rods p c → CarriesRod g u f rods p c
    carries_from rods c k = record {
      crossed = k.crossed;
      operations = λ op is. let e = k.operations op is in (λ s. e.0 (section_to rods op s), λ l. section_from rods op (e.1 l));
    }

    carries_to : (rods : List Motion) (c : Change) → CarriesRod g u f rods p c → CarriesRod h u f rods p c
    carries_to rods c k = record {
      crossed = k.crossed;
      operations = λ op is. let e = k.operations op is in (λ s. e.0 (section_from rods op s), λ l. section_to rods op (e.1 l));
    }

    found_first : (found : Option FoundRod)
        → IfSome found (λ r. (rods : List Motion) → AreRodOperations h u rods → IsFirst 75 (CarriesRod h u f rods p) (change_of r))
        → IfSome found (λ r. (rods : List Motion) → AreRodOperations g u rods → IsFirst 75 (CarriesRod g u f rods p) (change_of r))
    found_first None first = tt
    found_first (Some r) first = λ rods are.
        first_as 75 (CarriesRod h u f rods p) (CarriesRod g u f rods p) (carries_from rods) (carries_to rods) (change_of r) (first rods (rod_operations_to u rods are))

    found_from : (found : Option FoundRod) → IsFoundOf h u f p found → IsFoundOf g u f p found
    found_from found is = record {
      first = found_first found is.first;
      none = λ rods are.
          let e = is.none rods (rod_operations_to u rods are) in
          (λ n c b k. e.0 n c b (carries_to rods c k), λ no. e.1 (λ c b k. no c b (carries_from rods c k)));
    }

    pub rod_from : (ms : List Motion) (found : Option FoundRod) → IsRodAlong h u f p ms found → IsRodAlong g u f p ms found
    rod_from ms found is =
        let list = is.ops in
        let along = is.all in
        record {
          ops = record {
            listed = λ k w. let l = list.listed k w in (stabiliser_from u p (motion_at ms k) l.0, l.1);
            once = λ m s home. list.once m (stabiliser_to u p m s) home;
            ordered = λ j k before w. before_from g h alike (motion_at ms j) (motion_at ms k) (list.ordered j k before w);
          };
          all = record {
            listed = λ k w. stabiliser_from u p (motion_at ms k) (along.listed k w);
            once = λ m s. along.once m (stabiliser_to u p m s);
          };
          found = found_from found is.found;
        }

module _ (g h : Listing) (alike : AreAlike g h) (u : Vector) where
  pub frame_fault_from : (a b : Vector) (fault : FrameFault) → IsRodFrameFault h u a b fault → IsRodFrameFault g u a b fault
  frame_fault_from a b NotFrame none = λ c axis frame.
      none c (axis_from h g (alike_sym g h alike) u c axis) (rod_frame_from h g (alike_sym g h alike) u (with_axis a b c) frame)
  frame_fault_from a b Skewed (c, frame, skewed) =
      (c, rod_frame_from g h alike u (with_axis a b c) frame, rod_skewed_from g h alike u (with_axis a b c) skewed)

  pub rod_operations_from : (ms : List Motion) → AreRodOperations h u ms → AreRodOperations g u ms
  rod_operations_from ms r = rod_operations_to h g (alike_sym g h alike) u ms r
