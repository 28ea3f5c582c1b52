-- Listings of one group have the same lists, scans, orbits and orbit numbers.
use Rattle.std.proofs.Common.{ℕ, ℤ, List}
use Rattle.std.proofs.lemmas.List.Elements.{All-weaker}
use Rattle.symmetry.specs.Vectors.{Vector, dot}
use Rattle.symmetry.specs.Motions.{Motion}
use Rattle.symmetry.specs.Planes.{Height}
use Rattle.symmetry.specs.Groups.{Listing, SameModulo, FixesEveryPlane, InStabiliser}
use Rattle.symmetry.specs.Frames.{Basis, IsAtHome}
use Rattle.symmetry.specs.Lists.{AreScanning, ExactlyOne, IsListOf, motion_at}
use Rattle.symmetry.specs.Scans.{IsInOneClass, IsInPeriod, IsScan, Scan, SpecialHeight}
use Rattle.symmetry.specs.Orbits.{AreInOneOrbit, AreOrbitNumbers, IsPlaneCount, ListsOrbit}
use Rattle.symmetry.specs.Listings.{AreAlike}
use Rattle.symmetry.proofs.Alike.{before_from, member_from, member_to, same_from, same_to, special_from, special_to}

module _ (g h : Listing) (alike : AreAlike g h) (r : Vector) where
  -- ---- the scanning operations

  one_from : (m : Motion) (ms : List Motion) → ExactlyOne ms (SameModulo h m) → ExactlyOne ms (SameModulo g m)
  one_from m ms one = record {
    place = one.place;
    within = one.within;
    has = same_from g h alike m (motion_at ms one.place) one.has;
    only = λ k l same. one.only k l (same_to g h alike m (motion_at ms k) same);
  }

  pub scanning_from : (ms : List Motion) → AreScanning h r ms → AreScanning g r ms
  scanning_from ms are = record {
    listed = λ k l. (member_from g h alike (motion_at ms k) (are.listed k l).0, (are.listed k l).1);
    once = λ m member keeps. one_from m ms (are.once m (member_to g h alike m member) keeps);
  }

  -- ---- lists

  pub list_from : (f : Basis) (s : Height) (ms : List Motion)
      → IsListOf (SameModulo h) h.ops (IsAtHome f) (InStabiliser h r s) ms → IsListOf (SameModulo g) g.ops (IsAtHome f) (InStabiliser g r s) ms
  list_from f s ms list = record {
    listed = λ k l. ((member_from g h alike (motion_at ms k) (list.listed k l).0.0, (list.listed k l).0.1), (list.listed k l).1);
    once = λ m in_set home. list.once m (member_to g h alike m in_set.0, in_set.1) home;
    ordered = λ j k l within. before_from g h alike (motion_at ms j) (motion_at ms k) (list.ordered j k l within);
  }

  pub all_from : (f : Basis) (ms : List Motion)
      → IsListOf (SameModulo h) h.ops (IsAtHome f) (FixesEveryPlane h r) ms → IsListOf (SameModulo g) g.ops (IsAtHome f) (FixesEveryPlane g r) ms
  all_from f ms list = record {
    listed = λ k l. ((member_from g h alike (motion_at ms k) (list.listed k l).0.0, (list.listed k l).0.1), (list.listed k l).1);
    once = λ m in_set home. list.once m (member_to g h alike m in_set.0, in_set.1) home;
    ordered = λ j k l within. before_from g h alike (motion_at ms j) (motion_at ms k) (list.ordered j k l within);
  }

  -- ---- scans

  pub class_from : (d : ℤ) (special : List SpecialHeight) (s : Height) → IsInOneClass h r d special s → IsInOneClass g r d special s
  class_from d special s (IsInOneClass.general not none) = IsInOneClass.general (λ is. not (special_to g h alike r s is)) none
  class_from d special s (IsInOneClass.special i k is stands only) = IsInOneClass.special i k (special_from g h alike r s is) stands only

  pub scan_from : (f : Basis) (scan : Scan) → IsScan h r f scan → IsScan g r f scan
  scan_from f scan is = record {
    in_period = is.in_period;
    rising = is.rising;
    classes = λ s height. class_from (dot r f.tau) scan.special s (is.classes s height);
    general = all_from f scan.general is.general;
    lists = All-weaker (λ (b : SpecialHeight). IsListOf (SameModulo h) h.ops (IsAtHome f) (InStabiliser h r b.height) b.ops)
        (λ (b : SpecialHeight). IsListOf (SameModulo g) g.ops (IsAtHome f) (InStabiliser g r b.height) b.ops)
        (λ (b : SpecialHeight) list. list_from f b.height b.ops list) scan.special is.lists;
  }

  -- ---- orbits

  pub orbit_from : (s t : Height) → AreInOneOrbit h r s t → AreInOneOrbit g r s t
  orbit_from s t (m, member, maps) = (m, member_from g h alike m member, maps)

  pub orbit_to : (s t : Height) → AreInOneOrbit g r s t → AreInOneOrbit h r s t
  orbit_to s t (m, member, maps) = (m, member_to g h alike m member, maps)

  pub numbers_from : (heights : List Height) (numbers : List ℕ) → AreOrbitNumbers h r heights numbers → AreOrbitNumbers g r heights numbers
  numbers_from heights numbers are = record {
    count = are.count;
    equal = λ i j a b. ((λ e. orbit_from _ _ ((are.equal i j a b).0 e)), (λ o. (are.equal i j a b).1 (orbit_to _ _ o)));
    from_one = are.from_one;
    in_order = are.in_order;
  }

  lists_orbit_from : (d : ℤ) (s : Height) (heights : List Height) → ListsOrbit h r d s heights → ListsOrbit g r d s heights
  lists_orbit_from d s heights are = record {
    each = All-weaker (λ t. IsInPeriod d t × AreInOneOrbit h r s t) (λ t. IsInPeriod d t × AreInOneOrbit g r s t)
        (λ t both. (both.0, orbit_from s t both.1)) heights are.each;
    apart = are.apart;
    whole = λ t within orbit. are.whole t within (orbit_to s t orbit);
  }

  pub planes_from : (d : ℤ) (n : ℕ) → IsPlaneCount h r d n → IsPlaneCount g r d n
  planes_from d n counts s height general =
      let listed = counts s height (λ special. general (special_from g h alike r s special)) in
      (listed.0, lists_orbit_from d s listed.0 listed.1, listed.2)
