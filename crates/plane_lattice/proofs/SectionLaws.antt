-- The general section is one, the section of a height is one, and (hkl).c' is the period.
use Rattle.std.proofs.Common.{◌≡◌, ◌↔◌, inl, ℕ, suc, ◌<◌, ℤ, pos, ◌+ℤ◌, ◌*ℤ◌, ◌≤ℤ◌, List, [], ◌∷◌, length, get_or, refl, sym, ap, subst, ◌∙◌, arith}
use Rattle.std.specs.List.{AllPairs}
use Rattle.std.proofs.lemmas.Int.{ints}
use Rattle.fractions.specs.Fraction.{SameFraction}
use Rattle.fractions.specs.declared.part.TheConstants.{UNIT}
use Rattle.integers.proofs.Order.{mul_left_cancel_pos, one-le-mul}
use Rattle.integers.proofs.Ring.{mul_assoc, one_mul, zero_mul}
use Rattle.integers.proofs.Solver.{Expr.{var, num, ◌⊗◌}, linear, ring, given}
use Rattle.symmetry.specs.Vectors.{Vector, dot, image, multiple}
use Rattle.symmetry.specs.Motions.{IsPoint, Motion, Point, identity, moved, SamePoint}
use Rattle.symmetry.specs.Planes.{Height, IsCoprime, IsHeight, IsOn, KeepsPlane}
use Rattle.symmetry.specs.Groups.{FixesEveryPlane, InStabiliser, IsGroup, Listing}
use Rattle.symmetry.specs.Frames.{Basis, IsFrame, KeepsOrientation, mean_of, sign_at, total_up}
use Rattle.symmetry.specs.Lists.{AreScanning, ListsInPlane, motion_at}
use Rattle.symmetry.proofs.MatrixLaws.{row_times-dot, row_times-unit}
use Rattle.symmetry.proofs.Means.{mean_is_kept}
use Rattle.symmetry.proofs.PlaneRows.{all_by_row}
use Rattle.symmetry.proofs.PlaneLattice.{differs_all, differs_stabiliser}
use Rattle.symmetry.proofs.Signs.{row_sign, sign-square, sign_is}
use Rattle.symmetry.proofs.VectorLaws.{vector_path, dot-multiple, dot-origin, dot-plus, multiple-dot, multiple-multiple, multiple-one}
use Rattle.motions.specs.Layers.{planar_of}
use Rattle.motions.specs.declared.layer.LayerMotion.{LayerMotion}
use Rattle.motions.specs.Rationals.{DifferByWhole, InSection, RationalMotion, SameRationals, rational_of}
use Rattle.plane_lattice.specs.Sections.{AreSeenAs, InGeneralSection, InSectionAt, IsSeenAs, IsSeenFrom, height_in_steps, in_cell, point_at}
use Rattle.plane_lattice.proofs.SeenPoints.{seen_along, seen_same_point}
use Rattle.plane_lattice.proofs.SectionSets.{matrix_once, section_by_list, section_once, shift_once, side_once}

-- ---- the mean

module _ (r : Vector) (tau : Vector) (coprime : IsCoprime r) where
  dot-up : (m : Motion) → KeepsOrientation r m → dot r (multiple (sign_at r m) (image m.matrix tau)) ≡ dot r tau
  dot-up m keeps =
      let (e, sign, row) = row_sign r m keeps in
      dot-multiple r (sign_at r m) (image m.matrix tau)
      ∙ (λ i. sign_is r m e coprime sign row i *ℤ (sym (row_times-dot r m.matrix tau) ∙ ap (λ t. dot t tau) row ∙ multiple-dot e r tau) i)
      ∙ sym (mul_assoc e e (dot r tau)) ∙ ap (λ x. x *ℤ dot r tau) (sign-square e sign) ∙ one_mul (dot r tau)

  one_more : (n : ℕ) (d : ℤ) → d +ℤ pos n *ℤ d ≡ pos (suc n) *ℤ d
  one_more n d = omega (arith, ints)

  pub dot-total_up : (ms : List Motion) → ((k : ℕ) → k < length ms → KeepsOrientation r (motion_at ms k))
      → dot r (total_up r tau ms) ≡ pos (length ms) *ℤ dot r tau
  dot-total_up [] keeps = dot-origin r ∙ sym (zero_mul (dot r tau))
  dot-total_up (m ∷ ms) keeps =
      dot-plus r (multiple (sign_at r m) (image m.matrix tau)) (total_up r tau ms)
      ∙ (λ i. dot-up m (keeps 0 (omega arith)) i +ℤ dot-total_up ms (λ k h. keeps (suc k) (omega arith)) i)
      ∙ one_more (length ms) (dot r tau)

pub mean_is_above : (g : Listing) (r tau : Vector) (ms : List Motion) → IsCoprime r → AreScanning g r ms
    → dot r (mean_of r tau ms).at *ℤ UNIT ≡ dot r tau *ℤ (mean_of r tau ms).over
mean_is_above g r tau ms coprime scanning =
    linear (dot r (total_up r tau ms) ∷ pos (length ms) ∷ dot r tau ∷ []) (var 0 ⊗ num UNIT) (var 2 ⊗ (num UNIT ⊗ var 1))
    (given (num UNIT) (var 0) (var 1 ⊗ var 2) ∷ []) tt
    (dot-total_up r tau coprime ms (λ k h. (scanning.listed k h).1), tt)

-- the mean is over some operations
pub mean_over : (g : Listing) (r tau : Vector) (ms : List Motion) → IsGroup g → AreScanning g r ms → pos 1 ≤ℤ (mean_of r tau ms).over
mean_over g r tau ms group scanning =
    let one = scanning.once identity group.has_identity (inl (row_times-unit r)) in
    let some : pos 1 ≤ℤ pos (length ms) = omega (arith, ints, one.within) in
    one-le-mul UNIT (pos (length ms)) (omega (arith, ints)) some

-- ---- the general section

module _ (g : Listing) (r : Vector) (f : Basis) (ms : List Motion) (group : IsGroup g) (coprime : IsCoprime r) (frame : IsFrame g r f)
    (scanning : AreScanning g r ms) where
  -- what maps every plane to itself leaves c' as it is
  pub all_keep_mean : (m : Motion) → FixesEveryPlane g r m → image m.matrix (mean_of r f.tau ms).at ≡ (mean_of r f.tau ms).at
  all_keep_mean m fixes =
      let (member, (row, flat)) = (all_by_row g r m group coprime).0 fixes in
      mean_is_kept g r ms group coprime scanning f.tau m member (inl row)
      ∙ ap (λ e. multiple e (mean_of r f.tau ms).at) (sign_is r m (pos 1) coprime (inl refl) (row ∙ sym (multiple-one r)))
      ∙ multiple-one (mean_of r f.tau ms).at

  pub point_over : (s : Height) → IsHeight s → pos 1 ≤ℤ (point_at (dot r f.tau) s (mean_of r f.tau ms)).over
  point_over s high =
      let above : pos 1 ≤ℤ dot r f.tau = omega (arith, ints, frame.tau_above) in
      one-le-mul (s.den *ℤ dot r f.tau) (mean_of r f.tau ms).over (one-le-mul s.den (dot r f.tau) high above) (mean_over g r f.tau ms group scanning)

  from_height : (s s' : Height) → IsHeight s → (op : RationalMotion)
      → InGeneralSection g r f (mean_of r f.tau ms) s op → InGeneralSection g r f (mean_of r f.tau ms) s' op
  from_height s s' high op seen = record {
    motion = seen.motion;
    in_set = seen.in_set;
    seen = seen_along f (mean_of r f.tau ms) seen.motion op _ _ _ _ (point_over s high) (all_keep_mean seen.motion seen.in_set) seen.seen;
  }

  pub one_general_section : (s s' : Height) → IsHeight s → IsHeight s' → (op : RationalMotion)
      → InGeneralSection g r f (mean_of r f.tau ms) s op ↔ InGeneralSection g r f (mean_of r f.tau ms) s' op
  one_general_section s s' high high' op = (from_height s s' high op, from_height s' s high' op)

-- ---- the section of a height, written otherwise

on_entry : (x p q p' q' n : ℤ) → pos 1 ≤ℤ q → p *ℤ q' ≡ p' *ℤ q → x *ℤ q ≡ p *ℤ n → x *ℤ q' ≡ p' *ℤ n
on_entry x p q p' q' n high same on =
    mul_left_cancel_pos q _ _ high
    (linear (x ∷ p ∷ q ∷ p' ∷ q' ∷ n ∷ []) (var 2 ⊗ (var 0 ⊗ var 4)) (var 2 ⊗ (var 3 ⊗ var 5))
    (given (var 5) (var 1 ⊗ var 4) (var 3 ⊗ var 2) ∷ given (var 4) (var 0 ⊗ var 2) (var 1 ⊗ var 5) ∷ []) tt (same, (on, tt)))

module _ (r : Vector) (s s' : Height) (high : IsHeight s) (high' : IsHeight s') (same : SameFraction s s') where
  on_same : (p : Point) → IsOn r s p → IsOn r s' p
  on_same p on = on_entry (dot r p.at) s.num s.den s'.num s'.den p.over high same on

  on_back : (p : Point) → IsOn r s' p → IsOn r s p
  on_back p on = on_entry (dot r p.at) s'.num s'.den s.num s.den p.over high' (sym same) on

  pub keeps_same : (m : Motion) → KeepsPlane r s m → KeepsPlane r s' m
  keeps_same m keeps p is on = on_same (moved m p) (keeps p is (on_back p on))

point_entry : (p q p' q' d v : ℤ) → p *ℤ q' ≡ p' *ℤ q → q' *ℤ d *ℤ v *ℤ (p *ℤ UNIT) ≡ q *ℤ d *ℤ v *ℤ (p' *ℤ UNIT)
point_entry p q p' q' d v same =
    linear (p ∷ q ∷ p' ∷ q' ∷ d ∷ v ∷ []) (var 3 ⊗ var 4 ⊗ var 5 ⊗ (var 0 ⊗ num UNIT)) (var 1 ⊗ var 4 ⊗ var 5 ⊗ (var 2 ⊗ num UNIT))
    (given (var 4 ⊗ var 5 ⊗ num UNIT) (var 0 ⊗ var 3) (var 2 ⊗ var 1) ∷ []) tt (same, tt)

pub same_point_at : (d : ℤ) (s s' : Height) (v : Point) → SameFraction s s' → SamePoint (point_at d s v) (point_at d s' v)
same_point_at d s s' v same =
    multiple-multiple (s'.den *ℤ d *ℤ v.over) (s.num *ℤ UNIT) v.at
    ∙ ap (λ x. multiple x v.at) (point_entry s.num s.den s'.num s'.den d v.over same)
    ∙ sym (multiple-multiple (s.den *ℤ d *ℤ v.over) (s'.num *ℤ UNIT) v.at)

module _ (g : Listing) (r : Vector) (f : Basis) (frame : IsFrame g r f) (c : Point) where
  over_at : (s : Height) → IsHeight s → pos 1 ≤ℤ (point_at (dot r f.tau) s (in_cell f.tau)).over
  over_at s high =
      let above : pos 1 ≤ℤ dot r f.tau = omega (arith, ints, frame.tau_above) in
      one-le-mul (s.den *ℤ dot r f.tau) UNIT (one-le-mul s.den (dot r f.tau) high above) (omega (arith, ints))

  otherwise : (s s' : Height) → IsHeight s → IsHeight s' → SameFraction s s' → (op : RationalMotion) → InSectionAt g r f c s op → InSectionAt g r f c s' op
  otherwise s s' high high' same op seen = record {
    motion = seen.motion;
    in_set = (seen.in_set.0, keeps_same r s s' high high' same seen.motion seen.in_set.1);
    seen = seen_same_point f c (point_at (dot r f.tau) s (in_cell f.tau)) (point_at (dot r f.tau) s' (in_cell f.tau)) seen.motion op (over_at s high)
        (same_point_at (dot r f.tau) s s' (in_cell f.tau) same) seen.seen;
  }

  pub section_of_height : (s s' : Height) → IsHeight s → IsHeight s' → SameFraction s s' → (op : RationalMotion)
      → InSectionAt g r f c s op ↔ InSectionAt g r f c s' op
  section_of_height s s' high high' same op = (otherwise s s' high high' same op, otherwise s' s high' high (sym same) op)

-- ---- sections by lists

-- all motions that leave c' as it is are seen from the origin as from any point along c'
zero_along : (d : ℤ) (tau : Vector) (c : Point) → SamePoint (point_at d (height_in_steps d (pos 0)) (in_cell tau)) (record { at = multiple (pos 0) c.at; over = pos 1 })
unfolding multiple
zero_along d tau c = vector_path (zero_entry tau.x c.at.x) (zero_entry tau.y c.at.y) (zero_entry tau.z c.at.z)
  where
    zero_entry : (x y : ℤ) → pos 1 *ℤ (pos 0 *ℤ d *ℤ UNIT *ℤ x) ≡ pos 2 *ℤ UNIT *ℤ UNIT *ℤ d *ℤ UNIT *ℤ (pos 0 *ℤ y)
    zero_entry x y = ring (d ∷ x ∷ y ∷ []) (num (pos 1) ⊗ (num (pos 0) ⊗ var 0 ⊗ num UNIT ⊗ var 1)) (num (pos 2 *ℤ UNIT *ℤ UNIT) ⊗ var 0 ⊗ num UNIT ⊗ (num (pos 0) ⊗ var 2)) tt

along_zero : (d : ℤ) (tau : Vector) (c : Point) → SamePoint (record { at = multiple (pos 0) c.at; over = pos 1 }) (point_at d (height_in_steps d (pos 0)) (in_cell tau))
along_zero d tau c = sym (zero_along d tau c)

module _ (g : Listing) (r : Vector) (f : Basis) (ms : List Motion) (group : IsGroup g) (coprime : IsCoprime r) (frame : IsFrame g r f)
    (scanning : AreScanning g r ms) where
  abbrev c : Point
  c = mean_of r f.tau ms

  above_tau : pos 1 ≤ℤ dot r f.tau
  above_tau = omega (arith, ints, frame.tau_above)

  pub above_mean : pos 1 ≤ℤ dot r c.at
  above_mean =
      let one = scanning.once identity group.has_identity (inl (row_times-unit r)) in
      let some : pos 1 ≤ℤ pos (length ms) = omega (arith, ints, one.within) in
      subst (λ (x : ℤ). pos 1 ≤ℤ x) (sym (dot-total_up r f.tau coprime ms (λ k h. (scanning.listed k h).1))) (one-le-mul (pos (length ms)) (dot r f.tau) some above_tau)

  module _ (s s' : Height) (high : IsHeight s) (high' : IsHeight s') (same : SameFraction s s') (ops : List Motion) (section : List LayerMotion)
      (lists : ListsInPlane g r (InStabiliser g r s) ops) (seen : AreSeenAs f c (point_at (dot r f.tau) s' (in_cell f.tau)) ops section) where
    seen_at : AreSeenAs f c (point_at (dot r f.tau) s (in_cell f.tau)) ops section
    seen_at = record {
      count = seen.count;
      each = λ i d h. seen_same_point f c (point_at (dot r f.tau) s' (in_cell f.tau)) (point_at (dot r f.tau) s (in_cell f.tau)) (motion_at ops i)
          (rational_of (planar_of (get_or section i d))) (over_at g r f frame c s' high') (same_point_at (dot r f.tau) s' s (in_cell f.tau) (sym same)) (seen.each i d h);
    }

    pub stabiliser_by_list : (op : RationalMotion) → InSectionAt g r f c s op ↔ InSection section op
    stabiliser_by_list op =
        section_by_list g r f frame c (point_at (dot r f.tau) s (in_cell f.tau)) above_mean (over_at g r f frame c s high) (InStabiliser g r s)
        (differs_stabiliser g r s) ops section lists seen_at op

    pub stabiliser_once : AllPairs (λ m n. ¬ DifferByWhole m n) section
    stabiliser_once =
        section_once g r f frame c (point_at (dot r f.tau) s (in_cell f.tau)) above_mean (over_at g r f frame c s high) (InStabiliser g r s)
        (differs_stabiliser g r s) ops section lists seen_at

  pub seen_once : (o : Point) → IsPoint o → (m : Motion) (op op' : RationalMotion) → IsSeenAs f c o m op → IsSeenAs f c o m op'
      → (op.matrix ≡ op'.matrix) × (op.side ≡ op'.side) × SameRationals op.translation op'.translation
  seen_once o above m op op' seen seen' = (
    matrix_once g r f frame c o above_mean above m m op op' refl seen seen',
    side_once g r f frame c o above_mean above m m op op' refl seen seen',
    shift_once g r f frame c o above_mean above m op op' seen seen',
  )

  abbrev bottom : Height
  bottom = height_in_steps (dot r f.tau) (pos 0)

  bottom_high : IsHeight bottom
  bottom_high = omega (arith, ints)

  abbrev start : Point
  start = point_at (dot r f.tau) bottom (in_cell f.tau)

  pub general_from_bottom : (s : Height) → IsHeight s → (op : RationalMotion) → InGeneralSection g r f c s op ↔ IsSeenFrom (FixesEveryPlane g r) f c start op
  general_from_bottom s high op = (
    λ x. record {
      motion = x.motion;
      in_set = x.in_set;
      seen = seen_same_point f c (record { at = multiple (pos 0) c.at; over = pos 1 }) start x.motion op (omega (arith, ints)) (along_zero (dot r f.tau) f.tau c)
          (seen_along f c x.motion op _ _ (pos 0) (pos 1) (point_over g r f ms group coprime frame scanning s high)
          (all_keep_mean g r f ms group coprime frame scanning x.motion x.in_set) x.seen);
    },
    λ x. record {
      motion = x.motion;
      in_set = x.in_set;
      seen = seen_along f c x.motion op (pos 0) (pos 1) _ _ (omega (arith, ints)) (all_keep_mean g r f ms group coprime frame scanning x.motion x.in_set)
          (seen_same_point f c start (record { at = multiple (pos 0) c.at; over = pos 1 }) x.motion op (over_at g r f frame c bottom bottom_high) (zero_along (dot r f.tau) f.tau c) x.seen);
    },
  )

  pub all_by_list : (s : Height) → IsHeight s → (ops : List Motion) (section : List LayerMotion) → ListsInPlane g r (FixesEveryPlane g r) ops
      → AreSeenAs f c start ops section → (op : RationalMotion) → InGeneralSection g r f c s op ↔ InSection section op
  all_by_list s high ops section lists seen op =
      let there = general_from_bottom s high op in
      let back = section_by_list g r f frame c start above_mean (over_at g r f frame c bottom bottom_high) (FixesEveryPlane g r) (differs_all g r) ops section lists seen op in
      (λ x. back.0 (there.0 x), λ x. there.1 (back.1 x))

  pub all_once : (ops : List Motion) (section : List LayerMotion) → ListsInPlane g r (FixesEveryPlane g r) ops → AreSeenAs f c start ops section
      → AllPairs (λ m n. ¬ DifferByWhole m n) section
  all_once ops section lists seen =
      section_once g r f frame c start above_mean (over_at g r f frame c bottom bottom_high) (FixesEveryPlane g r) (differs_all g r) ops section lists seen
