-- What is found of the section of a line is what is found of the list that stands for it, and the members brought home.
use Rattle.std.proofs.Common.{◌↔◌, List, map, Option, None, Some}
use Rattle.std.specs.Prelude.{IfSome, IsNone}
use Rattle.symmetry.specs.Vectors.{Vector}
use Rattle.symmetry.specs.Motions.{Motion}
use Rattle.symmetry.specs.Planes.{IsCoprime}
use Rattle.symmetry.specs.Groups.{Listing, IsGroup}
use Rattle.symmetry.specs.Frames.{Basis}
use Rattle.motions.specs.declared.rod.RodMotion.{RodMotion}
use Rattle.motions.specs.RodMotions.{rod_of}
use Rattle.recognition.specs.declared.found_rod.FoundRod.{FoundRod}
use Rattle.recognition.specs.RodOrder.{Change, IsBounded, IsFirst}
use Rattle.recognition.specs.RodTypes.{HasChange, change_of}
use Rattle.penetration.specs.RodFrames.{IsRodFrame, AreRodOperations}
use Rattle.penetration.specs.RodSections.{AreSections, ListsAlong, counted}
use Rattle.penetration.specs.RodView.{CarriesRod, IsFoundOf}
use Rattle.penetration.proofs.SectionSets.{section_by_list}

-- the first change with a property is the first with another that the same changes have
first_same : (Has Has' : Change → Type 0) → ((c : Change) → Has c ↔ Has' c) → (c : Change) → IsFirst 75 Has c → IsFirst 75 Has' c
first_same Has Has' same c first =
    record { bounded = first.bounded; has = (same c).0 first.has; first = λ d bounded has. first.first d bounded ((same d).1 has) }

module _ (g : Listing) (u : Vector) (f : Basis) (group : IsGroup g) (coprime : IsCoprime u) (frame : IsRodFrame g u f) (at : Vector)
    (ms : List Motion) (section : List RodMotion) (lists : ListsAlong g u f (counted at) ms)
    (acts : (rods : List Motion) → AreRodOperations g u rods → AreSections u f rods (counted at) ms (map rod_of section)) where
  -- a change carries the list exactly where it carries the section
  carries_is : (rods : List Motion) → AreRodOperations g u rods → (c : Change) → HasChange section c ↔ CarriesRod g u f rods (counted at) c
  carries_is rods are c =
      let set = section_by_list g u f rods group coprime frame are at ms section lists (acts rods are) in (
        λ h. record {
          crossed = h.crossed;
          operations = λ op rational. (λ x. (h.operations op rational).0 ((set op rational).0 x), λ y. (set op rational).1 ((h.operations op rational).1 y));
        },
        λ h. record {
          crossed = h.crossed;
          operations = λ op rational. (λ x. (h.operations op rational).0 ((set op rational).1 x), λ y. (set op rational).0 ((h.operations op rational).1 y));
        },
      )

  pub found_of : (found : Option FoundRod) → IfSome found (λ r. IsFirst 75 (HasChange section) (change_of r))
      → (IsNone found ↔ ((c : Change) → IsBounded 75 c → ¬ (HasChange section c))) → IsFoundOf g u f (counted at) found
  found_of found first none = record {
    first = by found first;
    none = λ rods are. (
      λ t c bounded h. none.0 t c bounded ((carries_is rods are c).1 h),
      λ no. none.1 (λ c bounded h. no c bounded ((carries_is rods are c).0 h)),
    );
  }
    where
      by : (found : Option FoundRod) → IfSome found (λ r. IsFirst 75 (HasChange section) (change_of r))
          → IfSome found (λ r. (rods : List Motion) → AreRodOperations g u rods → IsFirst 75 (CarriesRod g u f rods (counted at)) (change_of r))
      by None first = tt
      by (Some r) first = λ rods are. first_same (HasChange section) (CarriesRod g u f rods (counted at)) (carries_is rods are) (change_of r) first
