-- The list of the motions that map a line to itself and are near, and the list of those at home.
use Rattle.std.proofs.Common.{◌≡◌, ℕ, ◌<◌, sym, subst, arith, List, length, map}
use Rattle.std.proofs.lemmas.List.{get_or-map, length-map}
use Rattle.symmetry.specs.Vectors.{Vector}
use Rattle.symmetry.specs.Motions.{Motion, identity}
use Rattle.symmetry.specs.Planes.{IsCoprime}
use Rattle.symmetry.specs.Groups.{Listing, IsGroup, SameModulo}
use Rattle.symmetry.specs.Frames.{Basis}
use Rattle.symmetry.specs.Lists.{motion_at, IsFirstPlace, IsListOf}
use Rattle.symmetry.proofs.LatticeLaws.{same_sym, same_trans}
use Rattle.penetration.specs.Lines.{InLineStabiliser}
use Rattle.penetration.specs.RodFrames.{IsRodFrame, DiffersAlong}
use Rattle.penetration.specs.RodHomes.{IsAtRodHome, IsNear, rod_home}
use Rattle.penetration.specs.RodSections.{ListsAlong, counted}
use Rattle.penetration.proofs.LineMembers.{frame_volume, near_once}
use Rattle.penetration.proofs.RodHomeLaws.{differs_same, differs_stabiliser, differs_sym, differs_trans, near_of, rod_home_at_home, rod_home_differs, rod_home_once}

module _ (g : Listing) (u : Vector) (f : Basis) (group : IsGroup g) (coprime : IsCoprime u) (frame : IsRodFrame g u f) (at : Vector) where
  abbrev S : Motion → Type 0
  S = InLineStabiliser g u (counted at)

  -- where each member differs by a multiple of the axis from one member of a kind, the list of these lists all modulo the axis
  lists_along : (Is : Motion → Type 0) → ((m : Motion) → S m → (n : Motion) × S n × Is n × DiffersAlong f m n)
      → ((m n : Motion) → Is m → Is n → DiffersAlong f m n → m ≡ n)
      → (ms : List Motion) → IsListOf (SameModulo g) g.ops Is S ms → ListsAlong g u f (counted at) ms
  lists_along Is of once ms list = record {
    listed = λ k h. (list.listed k h).0;
    once = λ m in_it.
        let (n, in_n, is_n, differs) = of m in_it in
        let one = list.once n in_n is_n in record {
          place = one.place;
          within = one.within;
          has = subst (DiffersAlong f m) one.has differs;
          only = λ k h d.
              one.only k h
              (once n (motion_at ms k) is_n (list.listed k h).1 (differs_trans f n m (motion_at ms k) (differs_sym f m n differs) d));
        };
  }

  pub near_lists_along : (ms : List Motion) → IsListOf (SameModulo g) g.ops (IsNear f at) S ms → ListsAlong g u f (counted at) ms
  near_lists_along = lists_along (IsNear f at) (near_of g u f group coprime frame at) (near_once g u f group coprime frame at)

  home_of : (m : Motion) → S m → (n : Motion) × S n × IsAtRodHome f n × DiffersAlong f m n
  home_of m in_it = (
    rod_home f m,
    differs_stabiliser g u f group coprime frame at m (rod_home f m) (differs_sym f m (rod_home f m) (rod_home_differs f m)) in_it,
    rod_home_at_home f (frame_volume g u f group coprime frame at) m,
    rod_home_differs f m,
  )

  pub home_lists_along : (ms : List Motion) → IsListOf (SameModulo g) g.ops (IsAtRodHome f) S ms → ListsAlong g u f (counted at) ms
  home_lists_along = lists_along (IsAtRodHome f) home_of (rod_home_once g u f frame)

  -- the near motions, each brought home, are the list of those at home
  module _ (ms : List Motion) (list : IsListOf (SameModulo g) g.ops (IsNear f at) S ms) where
    abbrev hs : List Motion
    hs = map (rod_home f) ms

    at_place : (k : ℕ) → k < length ms → motion_at hs k ≡ rod_home f (motion_at ms k)
    at_place k h = get_or-map (rod_home f) ms k identity identity h

    count : length hs ≡ length ms
    count = length-map ms (rod_home f)

    inside : (k : ℕ) → k < length hs → k < length ms
    inside k h = subst (λ (n : ℕ). k < n) count h

    outside : (k : ℕ) → k < length ms → k < length hs
    outside k h = subst (λ (n : ℕ). k < n) (sym count) h

    differs : (k : ℕ) → k < length ms → DiffersAlong f (motion_at ms k) (motion_at hs k)
    differs k h = subst (DiffersAlong f (motion_at ms k)) (sym (at_place k h)) (rod_home_differs f (motion_at ms k))

    home : (k : ℕ) → k < length ms → IsAtRodHome f (motion_at hs k)
    home k h = subst (IsAtRodHome f) (sym (at_place k h)) (rod_home_at_home f (frame_volume g u f group coprime frame at) (motion_at ms k))

    first_at : (j p : ℕ) → j < length ms → IsFirstPlace g.ops (SameModulo g (motion_at ms j)) p → IsFirstPlace g.ops (SameModulo g (motion_at hs j)) p
    first_at j p h first =
        let same = differs_same g u f frame (motion_at ms j) (motion_at hs j) (differs j h) in record {
          within = first.within;
          has = same_trans g (motion_at hs j) (motion_at ms j) (motion_at g.ops p) (same_sym g (motion_at ms j) (motion_at hs j) same) first.has;
          none_before = λ q l s. first.none_before q l (same_trans g (motion_at ms j) (motion_at hs j) (motion_at g.ops q) same s);
        }

    pub homes_list : IsListOf (SameModulo g) g.ops (IsAtRodHome f) S hs
    homes_list = record {
      listed = λ k h.
          let l = inside k h in (
            differs_stabiliser g u f group coprime frame at (motion_at ms k) (motion_at hs k)
                (differs_sym f (motion_at ms k) (motion_at hs k) (differs k l)) (list.listed k l).0,
            home k l,
          );
      once = λ n in_n home_n.
          let (m, in_m, near, apart) = near_of g u f group coprime frame at n in_n in
          let one = list.once m in_m near in record {
            place = one.place;
            within = outside one.place one.within;
            has = rod_home_once g u f frame n (motion_at hs one.place) home_n (home one.place one.within)
                (differs_trans f n m (motion_at hs one.place) apart
                (subst (λ x. DiffersAlong f x (motion_at hs one.place)) (sym one.has) (differs one.place one.within)));
            only = λ k h is.
                let l = inside k h in
                one.only k l
                (near_once g u f group coprime frame at m (motion_at ms k) near (list.listed k l).1
                (differs_trans f m n (motion_at ms k) (differs_sym f n m apart)
                (subst (λ x. DiffersAlong f x (motion_at ms k)) (sym is) (differs_sym f (motion_at ms k) (motion_at hs k) (differs k l)))));
          };
      ordered = λ i j l h.
          let before : i < length ms = let w = inside j h in omega arith in
          let order = list.ordered i j l (inside j h) in record {
            p = order.p;
            q = order.q;
            first_of_m = first_at i order.p before order.first_of_m;
            first_of_n = first_at j order.q (inside j h) order.first_of_n;
            before = order.before;
          };
    }
