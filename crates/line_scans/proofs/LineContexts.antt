-- A plane group in the frame of an orientation of its lines.
use Rattle.std.proofs.Common.{◌≡◌, ◌↔◌, ◌⊎◌, inl, inr, ℕ, ◌<◌, ℤ, pos, negsuc, ◌+ℤ◌, ◌*ℤ◌, ◌≤ℤ◌, ◌<ℤ◌, List, [], ◌∷◌, length, map, refl, sym, ap, subst, ◌∙◌, arith}
use Rattle.std.proofs.lemmas.Int.{ints}
use Rattle.std.proofs.lemmas.List.{get_or_default, length-map}
use Rattle.integers.proofs.Ring.{mul_assoc, mul_zero}
use Rattle.fractions.specs.declared.part.TheConstants.{UNIT}
use Rattle.integers.proofs.Order.{mul_right_cancel_pos, small_multiple}
use Rattle.integers.proofs.Solver.{Expr.{var, num, neg, ◌⊕◌, ◌⊗◌}, linear, given}
use Rattle.symmetry.specs.Vectors.{Vector, dot, image, multiple, opposite, plus, row_times}
use Rattle.symmetry.specs.Motions.{Motion, identity}
use Rattle.symmetry.specs.Planes.{IsCoprime}
use Rattle.symmetry.specs.Groups.{Listing, IsGroup, IsMember, SameModulo, third_edge}
use Rattle.symmetry.specs.Frames.{Basis, DiffersInPlane, IsAtHome, IsFrame, total_up}
use Rattle.symmetry.specs.Lists.{AreScanning, IsFirstPlace, IsListOf, ListsInPlane, motion_at}
use Rattle.symmetry.specs.Lists as lists
use Rattle.symmetry.proofs.Coprime.{not_opposite}
use Rattle.symmetry.proofs.HomeLaws.{has_one_at_home}
use Rattle.symmetry.proofs.LatticeLaws.{same_refl}
use Rattle.symmetry.proofs.ListLaws.{lists_in_plane}
use Rattle.symmetry.proofs.MatrixLaws.{row_times-unit}
use Rattle.symmetry.proofs.Means.{image-total_up}
use Rattle.symmetry.proofs.PlaneRows.{all_by_row}
use Rattle.motions.specs.PlaneMatrices.{Pair, dot2, image2, in_space}
use Rattle.motions.specs.Signs.{sign_value}
use Rattle.motions.specs.declared.motion.Sign.{Sign}
use Rattle.motions.specs.declared.motion.Sign.TheVariants.{Plus, Minus}
use Rattle.motions.specs.Laws.PlaneMatrixLaws.{pair_path}
use Rattle.motions.specs.Laws.SignLaws.{sign_is_sign}
use Rattle.plane_lattice.proofs.SectionLaws.{above_mean}
use Rattle.plane_motions.specs.PlaneMotions.{IsFlat, PlaneMotion, plane_block}
use Rattle.line_frames.specs.Lines.{IsAlong, IsInPlaneLattice, first_two, times2}
use Rattle.line_scans.specs.Lines.{FixesEveryLine, IsPlaneMember, IsSameInPlane, PlanePoint}
use Rattle.line_scans.specs.LineLists.{ComesBefore, DiffersAlong, ExactlyOne, IsAtLineHome, IsLineList, plane_at}
use Rattle.line_scans.specs.LineSections.{line_mean, line_total}
use Rattle.line_scans.proofs.LineActions.{times_one}
use Rattle.line_scans.proofs.LineMeans.{at_below, flat_scanning, total_below}
use Rattle.line_scans.proofs.LineOps.{image_block}
use Rattle.line_scans.proofs.LineStabilisers.{differs_along, differs_in_plane}
use Rattle.line_scans.proofs.PlaneBridges.{IsFlatMatrix, IsFlatModulo, all_by_lines, block_is, block_matrix_flat, block_member, dot_in_space, pair_motion, same_by_plane}

-- the plane group g, the lines (hk) with a, tau and the period d, the frame f of the planes (h k 0), and the scanning operations
pub record IsLines (g : Listing) (r a tau : Pair) (d : ℤ) (f : Basis) (scanning : List Motion) : Type 0 where
  pub group : IsGroup g
  pub coprime : IsCoprime (in_space r)
  pub flat : IsFlatModulo g
  pub frame : IsFrame g (in_space r) f
  pub f_a : f.a ≡ in_space a
  pub f_tau : f.tau ≡ in_space tau
  pub across : (f.b ≡ third_edge) ⊎ (f.b ≡ opposite third_edge)
  pub along : IsAlong g r a
  pub tau_in : IsInPlaneLattice g tau
  pub tau_gives : dot2 r tau ≡ d
  pub are_scanning : AreScanning g (in_space r) scanning
  pub once_a : (k l : ℤ) → times2 k a ≡ times2 l a → k ≡ l

flat_of : (m : Motion) → IsFlatMatrix m.matrix → m.translation.z ≡ pos 0 → IsFlat m
flat_of m w none = record { row_x = w.row_x; row_y = w.row_y; row_z = w.row_z; column_x = w.column_x; column_y = w.column_y; translation = none }

-- a whole number k with n k from 0 to below n, or from -n to above it, is 0
none_between : (n y k : ℤ) → pos 1 ≤ℤ n → y ≡ n *ℤ k → pos 0 ≤ℤ y → y <ℤ n → k ≡ pos 0
none_between n y k above is from below = small_multiple n k (subst (λ x. x <ℤ n) is below) (omega (arith, ints, subst (λ (x : ℤ). pos 0 ≤ℤ x) is from, above))

zero_of_none : (n y k : ℤ) → y ≡ n *ℤ k → k ≡ pos 0 → y ≡ pos 0
zero_of_none n y k is none = is ∙ ap (λ j. n *ℤ j) none ∙ mul_zero n

up_none : (n y k : ℤ) → pos 1 ≤ℤ n → pos 0 ≤ℤ y → y <ℤ n → y *ℤ UNIT ≡ n *ℤ (k *ℤ UNIT) → (y ≡ pos 0) × (k ≡ pos 0)
up_none n y k above from below e =
    let is : y ≡ n *ℤ k = mul_right_cancel_pos y (n *ℤ k) UNIT (omega (arith, ints)) (e ∙ sym (mul_assoc n k UNIT)) in
    let none = none_between n y k above is from below in
    (zero_of_none n y k is none, none)

down_none : (n y k : ℤ) → pos 1 ≤ℤ n → pos 0 ≤ℤ y → y <ℤ n → y *ℤ (negsuc 0 *ℤ UNIT) ≡ n *ℤ (k *ℤ UNIT) → (y ≡ pos 0) × (k ≡ pos 0)
down_none n y k above from below e =
    let turned : y *ℤ UNIT ≡ n *ℤ (negsuc 0 *ℤ k *ℤ UNIT) =
    linear (n ∷ y ∷ k ∷ []) (var 1 ⊗ num UNIT) (var 0 ⊗ (num (negsuc 0) ⊗ var 2 ⊗ num UNIT))
    (given (num (negsuc 0)) (var 1 ⊗ (num (negsuc 0) ⊗ num UNIT)) (var 0 ⊗ (var 2 ⊗ num UNIT)) ∷ []) tt (e, tt) in
    let (zero, none) = up_none n y (negsuc 0 *ℤ k) above from below turned in
    (zero, omega (arith, ints, none))

module _ (g : Listing) (r a tau : Pair) (d : ℤ) (f : Basis) (scanning : List Motion) (x : IsLines g r a tau d f scanning) where
  abbrev row : Vector
  row = in_space r

  abbrev ops : List PlaneMotion
  ops = map pair_motion scanning

  abbrev pub c : PlanePoint
  c = line_mean r tau ops

  pub above_d : pos 1 ≤ℤ d
  above_d =
      subst (λ (n : ℤ). pos 1 ≤ℤ n) (ap (dot row) x.f_tau ∙ dot_in_space r (in_space tau) ∙ x.tau_gives)
      (omega (arith, ints, x.frame.tau_above))

  -- ---- the vector c'

  pub total_is : total_up row f.tau scanning ≡ in_space (line_total r tau ops)
  total_is = ap (λ v. total_up row v scanning) x.f_tau ∙ total_below r tau scanning (flat_scanning g r x.flat scanning x.are_scanning)

  pub up : pos 1 ≤ℤ dot2 r c.at
  up =
      subst (λ (n : ℤ). pos 1 ≤ℤ n) (ap (dot row) total_is ∙ dot_in_space r (in_space (line_total r tau ops)))
      (above_mean g row f scanning x.group x.coprime x.frame x.are_scanning)

  some_scanning : pos 1 ≤ℤ pos (length ops)
  some_scanning =
      let one = x.are_scanning.once identity x.group.has_identity (inl (row_times-unit row)) in
      omega (arith, ints, one.within, length-map scanning pair_motion)

  pub over_c : pos 1 ≤ℤ c.over
  over_c = omega (arith, ints, some_scanning)

  pub level_a : dot2 r a ≡ pos 0
  level_a = ap (dot2 r) (sym (times_one a)) ∙ x.along.along (pos 1)

  -- a member that keeps the orientation keeps c' but for its sign
  pub mean_kept : (m : PlaneMotion) → IsPlaneMember g m → (e : Sign) → row_times row (plane_block m).matrix ≡ multiple (sign_value e) row
      → image2 m.matrix c.at ≡ times2 (sign_value e) c.at
  unfolding multiple
  mean_kept m member e at =
      let kept = image-total_up g row scanning x.group x.coprime x.are_scanning f.tau (plane_block m) (sign_value e) ((block_member g x.flat m).0 member) (sign_is_sign e) at in
      ap first_two (sym (image_block m c.at) ∙ ap (image (plane_block m).matrix) (sym total_is) ∙ kept ∙ ap (multiple (sign_value e)) total_is)

  -- one that keeps every line keeps it
  pub mean_stays : (m : PlaneMotion) → FixesEveryLine g r m → (e : Sign) → row_times row (plane_block m).matrix ≡ multiple (sign_value e) row
      → image2 m.matrix c.at ≡ c.at
  mean_stays m fixes e at = by e at
    where
      plain : row_times row (plane_block m).matrix ≡ row
      plain = ((all_by_row g row (plane_block m) x.group x.coprime).0 ((all_by_lines g x.flat r m).1 fixes)).1.0

      by : (e : Sign) → row_times row (plane_block m).matrix ≡ multiple (sign_value e) row → image2 m.matrix c.at ≡ c.at
      by Plus at = mean_kept m fixes.0 Plus at ∙ times_one c.at
      by Minus at = absurd (not_opposite row x.coprime (sym plain ∙ at))

  -- ---- motions at home

  -- the third entry of a combination
  third_of : (by : Vector) → (plus (plus (multiple by.x f.a) (multiple by.y f.b)) (multiple by.z f.tau)).z ≡ by.y *ℤ f.b.z
  unfolding plus multiple
  third_of by =
      (λ i. by.x *ℤ (x.f_a i).z +ℤ by.y *ℤ f.b.z +ℤ by.z *ℤ (x.f_tau i).z) ∙ only by.x (by.y *ℤ f.b.z) by.z
    where
      only : (p q s : ℤ) → p *ℤ pos 0 +ℤ q +ℤ s *ℤ pos 0 ≡ q
      only p q s = omega (arith, ints)

  -- a member at home moves nothing along the third axis
  third_none : (m : Motion) → IsMember g m → (home : IsAtHome f m) → (home.by.y ≡ pos 0) × (m.translation.z ≡ pos 0)
  unfolding multiple
  third_none m member home = by x.across
    where
      whole : (k : ℤ) × (m.translation.z ≡ k *ℤ UNIT)
      whole = x.flat.shifts m member

      third : home.by.y *ℤ f.b.z ≡ home.over *ℤ (whole.0 *ℤ UNIT)
      third = sym (third_of home.by) ∙ ap (λ (v : Vector). v.z) home.is ∙ ap (λ z. home.over *ℤ z) whole.1

      at : (k : ℤ) → k ≡ pos 0 → k *ℤ UNIT ≡ pos 0
      at k e = omega (arith, ints, e)

      by : (f.b ≡ third_edge) ⊎ (f.b ≡ opposite third_edge) → (home.by.y ≡ pos 0) × (m.translation.z ≡ pos 0)
      by (inl e) =
          let (zero, none) = up_none home.over home.by.y whole.0 home.positive home.y_from home.y_below (ap (λ (v : Vector). home.by.y *ℤ v.z) (sym e) ∙ third) in
          (zero, whole.1 ∙ at whole.0 none)
      by (inr e) =
          let (zero, none) = down_none home.over home.by.y whole.0 home.positive home.y_from home.y_below (ap (λ (v : Vector). home.by.y *ℤ v.z) (sym e) ∙ third) in
          (zero, whole.1 ∙ at whole.0 none)

  -- a member at home is flat
  pub home_flat : (m : Motion) → IsMember g m → IsAtHome f m → IsFlat m
  home_flat m member home = flat_of m (x.flat.matrices m member) (third_none m member home).1

  pub home_below : (m : PlaneMotion) → IsMember g (plane_block m) → IsAtHome f (plane_block m) → IsAtLineHome a tau m
  unfolding plus multiple
  home_below m member home =
      let none = (third_none (plane_block m) member home).0 in
      record {
        over = home.over;
        positive = home.positive;
        x = home.by.x;
        k = home.by.z;
        is = pair_path
            (entry home.by.x home.by.y home.by.z a.x f.b.x tau.x none ∙ (λ i. home.by.x *ℤ (sym x.f_a i).x +ℤ home.by.y *ℤ f.b.x +ℤ home.by.z *ℤ (sym x.f_tau i).x)
            ∙ ap (λ (v : Vector). v.x) home.is)
            (entry home.by.x home.by.y home.by.z a.y f.b.y tau.y none ∙ (λ i. home.by.x *ℤ (sym x.f_a i).y +ℤ home.by.y *ℤ f.b.y +ℤ home.by.z *ℤ (sym x.f_tau i).y)
            ∙ ap (λ (v : Vector). v.y) home.is);
        from = home.x_from;
        below = home.x_below;
      }
    where
      entry : (p q k y b t : ℤ) → q ≡ pos 0 → p *ℤ y +ℤ k *ℤ t ≡ p *ℤ y +ℤ q *ℤ b +ℤ k *ℤ t
      entry p q k y b t e =
          linear (p ∷ q ∷ k ∷ y ∷ b ∷ t ∷ []) (var 0 ⊗ var 3 ⊕ var 2 ⊗ var 5) (var 0 ⊗ var 3 ⊕ var 1 ⊗ var 4 ⊕ var 2 ⊗ var 5)
          (given (neg (var 4)) (var 1) (num (pos 0)) ∷ []) tt (e, tt)

  -- ---- lists

  -- the order of the listed operations
  first_below : (m : PlaneMotion) (p : ℕ) → IsFirstPlace g.ops (SameModulo g (plane_block m)) p → IsFirstPlace g.ops (IsSameInPlane g m) p
  first_below m p first = record {
    within = first.within;
    has = (same p first.within).0 first.has;
    none_before = λ q less is. first.none_before q less ((same q (omega (arith, less, first.within))).1 is);
  }
    where
      member_at : (q : ℕ) → q < length g.ops → IsMember g (motion_at g.ops q)
      member_at q h = record {
        of = motion_at g.ops q;
        listed = (q, h, get_or_default g.ops q (motion_at g.ops q) identity h);
        same = same_refl g (motion_at g.ops q);
      }

      same : (q : ℕ) → q < length g.ops → SameModulo g (plane_block m) (motion_at g.ops q) ↔ IsSameInPlane g m (motion_at g.ops q)
      same q h = same_by_plane g x.flat (plane_block m) (motion_at g.ops q) (block_matrix_flat m) (pos 0) refl (member_at q h)

  pub before_below : (m n : PlaneMotion) → lists.ComesBefore (SameModulo g) g.ops (plane_block m) (plane_block n) → ComesBefore g m n
  before_below m n b = record { p = b.p; q = b.q; first_of_m = first_below m b.p b.first_of_m; first_of_n = first_below n b.q b.first_of_n; before = b.before }

  -- a set of members of space, and the set of the plane that it is
  module _ (S : Motion → Type 0) (S2 : PlaneMotion → Type 0) (same : (m : PlaneMotion) → S (plane_block m) ↔ S2 m) (members : (m : Motion) → S m → IsMember g m)
      (closed : (m n : Motion) → DiffersInPlane g row m n → S m → S n)
      (ms : List Motion) (list : IsListOf (SameModulo g) g.ops (IsAtHome f) S ms) where
    pub flat_at : (k : ℕ) → k < length ms → IsFlat (motion_at ms k)
    flat_at k h = let (in_set, home) = list.listed k h in home_flat (motion_at ms k) (members (motion_at ms k) in_set) home

    abbrev pub qs : List PlaneMotion
    qs = map pair_motion ms

    pub count : length qs ≡ length ms
    count = length-map ms pair_motion

    pub block_at : (k : ℕ) → k < length ms → motion_at ms k ≡ plane_block (plane_at qs k)
    block_at k h =
        let flat = flat_at k h in
        sym (block_is (motion_at ms k) (x.flat.matrices (motion_at ms k) (members (motion_at ms k) (list.listed k h).0)) flat.translation)
        ∙ ap plane_block (sym (at_below ms k h))

    within : (k : ℕ) → k < length qs → k < length ms
    within k h = subst (λ n. k < n) count h

    pub listed_at : (k : ℕ) → k < length ms → S2 (plane_at qs k)
    listed_at k h = (same (plane_at qs k)).0 (subst S (block_at k h) (list.listed k h).0)

    in_plane : ListsInPlane g row S ms
    in_plane = lists_in_plane (SameModulo g) g.ops (IsAtHome f) S ms g row (has_one_at_home g row f x.frame S closed) list

    pub once : (m : PlaneMotion) → S2 m → ExactlyOne qs (DiffersAlong a m)
    once m in_set =
        let one = in_plane.once (plane_block m) ((same m).1 in_set) in
        record {
          place = one.place;
          within = subst (λ n. one.place < n) (sym count) one.within;
          has = differs_along g r a x.group x.coprime x.flat x.along m (plane_at qs one.place) (subst (DiffersInPlane g row (plane_block m)) (block_at one.place one.within) one.has);
          only = λ k h differs.
              one.only k (within k h)
              (subst (DiffersInPlane g row (plane_block m)) (sym (block_at k (within k h)))
              (differs_in_plane g r a x.group x.coprime x.flat x.along m (plane_at qs k) differs));
        }

    pub line_list : IsLineList g a tau S2 qs
    line_list = record {
      listed = λ k h.
          let l = within k h in
          let is = block_at k l in (
            listed_at k l,
            home_below (plane_at qs k) (subst (IsMember g) is (members (motion_at ms k) (list.listed k l).0)) (subst (IsAtHome f) is (list.listed k l).1),
          );
      once = once;
      ordered = λ j k less h.
          let l = within k h in
          before_below (plane_at qs j) (plane_at qs k)
          (subst (λ m. lists.ComesBefore (SameModulo g) g.ops m (plane_block (plane_at qs k))) (block_at j (omega (arith, less, l)))
          (subst (lists.ComesBefore (SameModulo g) g.ops (motion_at ms j)) (block_at k l) (list.ordered j k less l)));
    }
