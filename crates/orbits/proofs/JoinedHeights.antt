-- Which special heights are in one orbit, by their levels.
use Rattle.std.proofs.Common.{◌≡◌, ◌↔◌, ℕ, ◌<◌, ℤ, pos, List, length, map, All, Any, sym, subst, ◌∙◌}
use Rattle.std.proofs.lemmas.List.{length-map}
use Rattle.symmetry.specs.Vectors.{Vector, dot}
use Rattle.symmetry.specs.Planes.{Height, IsCoprime, IsHeight}
use Rattle.symmetry.specs.Groups.{IsGroup, Listing}
use Rattle.symmetry.specs.Frames.{Basis, IsFrame}
use Rattle.symmetry.specs.Scans.{IsInPeriod}
use Rattle.symmetry.specs.HeightMotions.{AreHeightMotions, HeightMotion, TakesHeight}
use Rattle.symmetry.specs.Orbits.{AreInOneOrbit, AreOrbitNumbers, height_at, IsPlaneCount}
use Rattle.symmetry.proofs.PlaneCounts.{orbit_by_motions, plane_count}
use Rattle.symmetry.proofs.PlaneOrbits.{orbit_refl, orbit_sym, orbit_trans}
use Rattle.scanning.specs.HeightView.{heights_of_specials}
use Rattle.scanning.specs.Levels.{IsLevel}
use Rattle.scanning.specs.declared.height.Height.{Height as SpecialHeight}
use Rattle.orbits.specs.JoinedLevels.{AreJoined}
use Rattle.orbits.specs.LevelView.{AreJoinedAt, level_at}
use Rattle.orbits.specs.HeightMotionView.{height_motion_of}
use Rattle.orbits.specs.declared.height_motion.HeightMotion.{HeightMotion as CodedMotion}
use Rattle.orbits.specs.Numbers.{AreClasses, AreNumbered}
use Rattle.orbits.proofs.LevelMotions.{takes_by_level}
use Rattle.orbits.proofs.SpecialHeights.{has_level, length-heights}

module _ (g : Listing) (r : Vector) (f : Basis) (frame : IsFrame g r f) (group : IsGroup g) (coprime : IsCoprime r) (d : ℤ) (period : dot r f.tau ≡ d)
    (hs : List HeightMotion) (are : AreHeightMotions g r d hs) where
  motions : AreHeightMotions g r (dot r f.tau) hs
  motions = subst (λ d. AreHeightMotions g r d hs) (sym period) are

  orbit_is : (s t : Height) → IsHeight s → IsHeight t → AreInOneOrbit g r s t ↔ Any (TakesHeight d s t) hs
  orbit_is s t high high' =
      subst (λ d. AreInOneOrbit g r s t ↔ Any (TakesHeight d s t) hs) period (orbit_by_motions g r f frame group coprime hs motions s t high high')

  module _ (special : List SpecialHeight) (inside : All (IsInPeriod d) (heights_of_specials special)) where
    abbrev heights : List Height
    heights = heights_of_specials special

    abbrev AreOne : ℕ → ℕ → Type 0
    AreOne i j = AreJoined hs d (level_at special i) (level_at special j)

    high : (i : ℕ) → i < length heights → IsHeight (height_at heights i)
    high i h = (inside i (record { num = pos 0; den = pos 1 }) h).positive

    level : (i : ℕ) → i < length heights → IsLevel (height_at heights i) (level_at special i)
    level i h = has_level special i (subst (λ n. i < n) (length-heights special) h)

    joined_is : (i j : ℕ) → i < length heights → j < length heights → AreInOneOrbit g r (height_at heights i) (height_at heights j) ↔ AreOne i j
    joined_is i j h k =
        let orbit = orbit_is (height_at heights i) (height_at heights j) (high i h) (high j k) in
        let takes = takes_by_level (height_at heights i) (height_at heights j) (level_at special i) (level_at special j) d (high i h) (high j k) (level i h) (level j k) in (
          λ o. let (n, m, within, is, t) = orbit.0 o in (n, m, within, is, (takes m).0 t),
          λ (n, m, within, is, t). orbit.1 (n, m, within, is, (takes m).1 t),
        )

    pub are_classes : AreClasses AreOne (length heights)
    are_classes = record {
      reflexive = λ i h. (joined_is i i h h).0 (orbit_refl g r group coprime (height_at heights i) (high i h));
      symmetric = λ i j h k o.
          (joined_is j i k h).0 (orbit_sym g r group coprime (height_at heights i) (height_at heights j) (high i h) (high j k) ((joined_is i j h k).1 o));
      transitive = λ i j k h h' h'' o p.
          (joined_is i k h h'').0
          (orbit_trans g r group coprime (height_at heights i) (height_at heights j) (height_at heights k) (high i h) (high j h') (high k h'')
          ((joined_is i j h h').1 o) ((joined_is j k h' h'').1 p));
    }

    pub are_orbit_numbers : (numbers : List ℕ) (classes : ℕ) → AreNumbered AreOne (length heights) numbers classes → AreOrbitNumbers g r heights numbers
    are_orbit_numbers numbers classes n = record {
      count = n.count;
      equal = λ i j h k. (λ e. (joined_is i j h k).1 ((n.equal i j h k).0 e), λ o. (n.equal i j h k).1 ((joined_is i j h k).0 o));
      from_one = n.from_one;
      in_order = n.in_order;
    }

  pub planes_are : IsPlaneCount g r (dot r f.tau) (length hs)
  planes_are = plane_count g r f frame group coprime hs motions

-- ---- as the code has them

module _ (g : Listing) (r : Vector) (f : Basis) (frame : IsFrame g r f) (group : IsGroup g) (coprime : IsCoprime r) (d : ℤ) (period : dot r f.tau ≡ d)
    (ms : List CodedMotion) (are : AreHeightMotions g r d (map height_motion_of ms)) (special : List SpecialHeight)
    (inside : All (IsInPeriod d) (heights_of_specials special)) where
  pub coded_classes : AreClasses (AreJoinedAt ms d special) (length special)
  coded_classes =
      subst (AreClasses (AreJoinedAt ms d special)) (length-heights special)
      (are_classes g r f frame group coprime d period (map height_motion_of ms) are special inside)

  pub coded_numbers : (numbers : List ℕ) → ((classes : ℕ) × AreNumbered (AreJoinedAt ms d special) (length special) numbers classes)
      → AreOrbitNumbers g r (heights_of_specials special) numbers
  coded_numbers numbers (classes, are_numbered) =
      are_orbit_numbers g r f frame group coprime d period (map height_motion_of ms) are special inside numbers classes
      (subst (λ n. AreNumbered (AreJoinedAt ms d special) n numbers classes) (sym (length-heights special)) are_numbered)

pub coded_planes : (g : Listing) (r : Vector) (f : Basis) → IsFrame g r f → IsGroup g → IsCoprime r → (d : ℤ) → dot r f.tau ≡ d → (ms : List CodedMotion)
    → AreHeightMotions g r d (map height_motion_of ms) → (n : ℕ) → n ≡ length ms → IsPlaneCount g r (dot r f.tau) n
coded_planes g r f frame group coprime d period ms are n e =
    subst (IsPlaneCount g r (dot r f.tau)) (length-map ms height_motion_of ∙ sym e) (planes_are g r f frame group coprime d period (map height_motion_of ms) are)
