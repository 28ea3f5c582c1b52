-- What a scan gives at a height lists its stabiliser.
use Rattle.std.proofs.Common.{◌≡◌, ◌↔◌, ℕ, ◌<◌, ℤ, pos, negsuc, ◌*ℤ◌, ◌⊎◌, inl, inr, List, [], length, map, refl, sym, subst, arith}
use Rattle.std.specs.Prelude.{⊤}
use Rattle.std.proofs.lemmas.List.{get_or-map, length-map}
use Rattle.fractions.specs.Fraction.{SameFraction}
use Rattle.symmetry.specs.Vectors.{Vector, dot, multiple, opposite}
use Rattle.symmetry.specs.Motions.{Motion, identity}
use Rattle.symmetry.specs.Planes.{Height, IsCoprime, IsHeight, KeepsRow, TurnsRow}
use Rattle.symmetry.specs.Groups.{Listing, IsGroup, FixesEveryPlane, InStabiliser, SameModulo}
use Rattle.symmetry.specs.Frames.{Basis, DiffersInPlane, IsAtHome, IsFrame, IsSpecial}
use Rattle.symmetry.specs.Lists.{HasOneAtHome, IsFirstPlace, IsListOf, ListsInPlane, motion_at}
use Rattle.symmetry.specs.Scans.{AreConjugated, GivesAt, general, special, IsInOneClass, IsScan, Scan, StandsAt, conjugated, raised_height, special_at}
use Rattle.symmetry.proofs.Conjugates.{conjugated_is, lifted, lifted-lowered, lifted_differs, lifted_same, lifted_stabiliser, lowered-lifted}
use Rattle.symmetry.proofs.FrameLaws.{tau_multiple}
use Rattle.symmetry.proofs.Heights.{at_in_period, raised_back}
use Rattle.symmetry.proofs.HomeLaws.{has_one_at_home, home_once}
use Rattle.symmetry.proofs.LatticeLaws.{same_sym, same_trans}
use Rattle.symmetry.proofs.ListLaws.{list_of_same_set, lists_in_plane}
use Rattle.symmetry.proofs.PlaneLattice.{differs_in_lattice, differs_stabiliser, differs_sym, differs_trans}
use Rattle.symmetry.proofs.PlaneRows.{all_by_row, special_by_row, stabiliser_by_row}
use Rattle.symmetry.proofs.VectorLaws.{multiple-multiple}

module _ (g : Listing) (r : Vector) (f : Basis) (frame : IsFrame g r f) (group : IsGroup g) (coprime : IsCoprime r) where
  -- ---- whole periods above a height

  module _ (k : ℤ) (s s' : Height) (high : IsHeight s) (high' : IsHeight s') (above : SameFraction s' (raised_height (dot r f.tau) k s)) where
    abbrev t : Vector
    t = multiple k f.tau

    lower_stabiliser : (m : Motion) → InStabiliser g r s' m → InStabiliser g r s (lifted (opposite t) m)
    lower_stabiliser m in_it =
        subst (λ v. InStabiliser g r s (lifted v m)) (sym (multiple-multiple (negsuc 0) k f.tau))
        (lifted_stabiliser g r f frame group coprime (negsuc 0 *ℤ k) s' s high' high (raised_back (dot r f.tau) k s s' above) m in_it)

    module _ (ms ns : List Motion) (of_ms : IsListOf (SameModulo g) g.ops (IsAtHome f) (InStabiliser g r s) ms) (conjugates : AreConjugated g r f t ms ns) where
      within : (p : ℕ) → p < length ns → p < length ms
      within p h = let count = conjugates.count in omega arith

      differs : (p : ℕ) → p < length ns → DiffersInPlane g r (lifted t (motion_at ms p)) (motion_at ns p)
      differs p h = subst (λ m. DiffersInPlane g r m (motion_at ns p)) (conjugated_is t (motion_at ms p)) (conjugates.each p (within p h)).0

      home : (p : ℕ) → p < length ns → IsAtHome f (motion_at ns p)
      home p h = (conjugates.each p (within p h)).1

      in_stabiliser : (p : ℕ) → p < length ns → InStabiliser g r s' (motion_at ns p)
      in_stabiliser p h =
          differs_stabiliser g r s' (lifted t (motion_at ms p)) (motion_at ns p) (differs p h)
          (lifted_stabiliser g r f frame group coprime k s s' high high' above (motion_at ms p) (of_ms.listed p (within p h)).0)

      -- the motion at home below a member of the upper stabiliser
      below : (n : Motion) → InStabiliser g r s' n → HasOneAtHome g r (IsAtHome f) (InStabiliser g r s) (lifted (opposite t) n)
      below n in_it =
          has_one_at_home g r f frame (InStabiliser g r s) (differs_stabiliser g r s) (lifted (opposite t) n) (lower_stabiliser n in_it)

      -- it is at a place of the one list where the member is at that of the other
      at_place : (n : Motion) (in_it : InStabiliser g r s' n) → IsAtHome f n → (p : ℕ) → p < length ns → (below n in_it).companion ≡ motion_at ms p → n ≡ motion_at ns p
      at_place n in_it at_home p h is =
          let m = (below n in_it).companion in
          let up : DiffersInPlane g r n (lifted t m) =
          subst (λ x. DiffersInPlane g r x (lifted t m)) (lifted-lowered t n) (lifted_differs g r t (lifted (opposite t) n) m (below n in_it).differs) in
          home_once g r f frame n (motion_at ns p) at_home (home p h)
          (differs_trans g r n (lifted t m) (motion_at ns p) up (subst (λ x. DiffersInPlane g r (lifted t x) (motion_at ns p)) (sym is) (differs p h)))

      from_place : (n : Motion) (in_it : InStabiliser g r s' n) → (p : ℕ) → p < length ns → n ≡ motion_at ns p → (below n in_it).companion ≡ motion_at ms p
      from_place n in_it p h is =
          let m = motion_at ms p in
          let at = of_ms.listed p (within p h) in
          let down : DiffersInPlane g r m (lifted (opposite t) (motion_at ns p)) =
          subst (λ x. DiffersInPlane g r x (lifted (opposite t) (motion_at ns p))) (lowered-lifted t m)
          (lifted_differs g r (opposite t) (lifted t m) (motion_at ns p) (differs p h)) in
          (below n in_it).only m at.0 at.1
          (differs_sym g r m (lifted (opposite t) n) (subst (λ x. DiffersInPlane g r m (lifted (opposite t) x)) (sym is) down))

      same_at : (p : ℕ) → p < length ns → SameModulo g (motion_at ns p) (motion_at ms p)
      same_at p h =
          let m = motion_at ms p in
          same_trans g (motion_at ns p) (lifted t m) m (same_sym g (lifted t m) (motion_at ns p) (differs_in_lattice g r (lifted t m) (motion_at ns p) (differs p h)))
          (lifted_same g group t (tau_multiple g r f frame k) m (of_ms.listed p (within p h)).0.0)

      first_at : (j p : ℕ) → j < length ns → IsFirstPlace g.ops (SameModulo g (motion_at ms j)) p → IsFirstPlace g.ops (SameModulo g (motion_at ns j)) p
      first_at j p h first = record {
        within = first.within;
        has = same_trans g (motion_at ns j) (motion_at ms j) (motion_at g.ops p) (same_at j h) first.has;
        none_before = λ q l same.
            first.none_before q l (same_trans g (motion_at ms j) (motion_at ns j) (motion_at g.ops q) (same_sym g (motion_at ns j) (motion_at ms j) (same_at j h)) same);
      }

      pub conjugated_list : IsListOf (SameModulo g) g.ops (IsAtHome f) (InStabiliser g r s') ns
      conjugated_list = record {
        listed = λ p h. (in_stabiliser p h, home p h);
        once = λ n in_it at_home.
            let one = of_ms.once (below n in_it).companion (below n in_it).in_set (below n in_it).is_home in
            let h : one.place < length ns = let count = conjugates.count in let inside = one.within in omega arith in record {
              place = one.place;
              within = h;
              has = at_place n in_it at_home one.place h one.has;
              only = λ q l is. one.only q (within q l) (from_place n in_it q l is);
            };
        ordered = λ i j l h.
            let before : i < length ns = omega arith in
            let order = of_ms.ordered i j l (within j h) in record {
              p = order.p;
              q = order.q;
              first_of_m = first_at i order.p before order.first_of_m;
              first_of_n = first_at j order.q h order.first_of_n;
              before = order.before;
            };
      }

  -- ---- general heights

  -- where a height is general, its stabiliser has those that map every plane to itself, and no more
  all_is_stabiliser : (s : Height) → IsHeight s → ¬ IsSpecial g r s → (m : Motion) → FixesEveryPlane g r m ↔ InStabiliser g r s m
  all_is_stabiliser s high not m = (λ fixes. (fixes.0, fixes.1 s high), λ in_it. back in_it ((stabiliser_by_row g r s m group coprime high).0 in_it).1)
    where
      back : InStabiliser g r s m → KeepsRow r m ⊎ TurnsRow r s m → FixesEveryPlane g r m
      back in_it (inl keeps) = (all_by_row g r m group coprime).1 (in_it.0, keeps)
      back in_it (inr turns) = absurd (not ((special_by_row g r s group coprime high).1 (m, in_it.0, turns)))

  -- ---- each height

  module _ (scan : Scan) (is : IsScan g r f scan) (s : Height) (high : IsHeight s) where
    in_general : (ops : List Motion) → ((i : ℕ) (k : ℤ) → ¬ StandsAt (dot r f.tau) scan.special s i k) → ops ≡ scan.general → IsInOneClass g r (dot r f.tau) scan.special s
        → IsListOf (SameModulo g) g.ops (IsAtHome f) (InStabiliser g r s) ops
    in_general ops none same (general not none') =
        subst (IsListOf (SameModulo g) g.ops (IsAtHome f) (InStabiliser g r s)) (sym same)
        ((list_of_same_set (SameModulo g) g.ops (IsAtHome f) (FixesEveryPlane g r) (InStabiliser g r s) scan.general (all_is_stabiliser s high not)).0 is.general)
    in_general ops none same (special i k is_special stands only) = absurd (none i k stands)

    pub scan_list : (ops : List Motion) → GivesAt g r f scan s ops → IsListOf (SameModulo g) g.ops (IsAtHome f) (InStabiliser g r s) ops
    scan_list ops (general none same) = in_general ops none same (is.classes s high)
    scan_list ops (special i k stands conjugates) =
        let h = special_at scan.special i in
        conjugated_list k h.height s (at_in_period (dot r f.tau) scan.special is.in_period is.rising i stands.within).positive high stands.is
        h.ops ops (is.lists i (record { height = record { num = pos 0; den = pos 1 }; ops = [] }) stands.within) conjugates

    pub scan_lists_in_plane : (ops : List Motion) → GivesAt g r f scan s ops → ListsInPlane g r (InStabiliser g r s) ops
    scan_lists_in_plane ops given =
        lists_in_plane (SameModulo g) g.ops (IsAtHome f) (InStabiliser g r s) ops g r (has_one_at_home g r f frame (InStabiliser g r s) (differs_stabiliser g r s))
        (scan_list ops given)

-- ---- there are such operations

module _ (g : Listing) (r : Vector) (f : Basis) (frame : IsFrame g r f) where
  brought_home : Vector → Motion → Motion
  brought_home t m = (has_one_at_home g r f frame (λ _. ⊤) (λ m n differs any. any) (conjugated t m) tt).companion

  brought_home_is : (t : Vector) (m : Motion) → DiffersInPlane g r (conjugated t m) (brought_home t m) × IsAtHome f (brought_home t m)
  unfolding brought_home
  brought_home_is t m = let one = has_one_at_home g r f frame (λ _. ⊤) (λ m n differs any. any) (conjugated t m) tt in (one.differs, one.is_home)

  conjugates : (t : Vector) (ms : List Motion) → AreConjugated g r f t ms (map (brought_home t) ms)
  conjugates t ms = record {
    count = length-map ms (brought_home t);
    each = λ i h.
        subst (λ n. DiffersInPlane g r (conjugated t (motion_at ms i)) n × IsAtHome f n) (sym (get_or-map (brought_home t) ms i identity identity h))
        (brought_home_is t (motion_at ms i));
  }

  given_in : (scan : Scan) (s : Height) → IsInOneClass g r (dot r f.tau) scan.special s → (ops : List Motion) × GivesAt g r f scan s ops
  given_in scan s (general not none) = (scan.general, general none refl)
  given_in scan s (special i k is_special stands only) =
      let t = multiple k f.tau in
      let ms = (special_at scan.special i).ops in
      (map (brought_home t) ms, special i k stands (conjugates t ms))

  pub scan_gives_some : (scan : Scan) → IsScan g r f scan → (s : Height) → IsHeight s → (ops : List Motion) × GivesAt g r f scan s ops
  scan_gives_some scan is s high = given_in scan s (is.classes s high)
