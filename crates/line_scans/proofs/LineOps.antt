-- What members of a plane group do along a line, from the points of it that the section is taken at.
use Rattle.std.proofs.Common.{◌≡◌, ℤ, pos, ◌+ℤ◌, ◌-ℤ◌, ◌*ℤ◌, ◌≤ℤ◌, [], ◌∷◌, inl, refl, sym, ap, subst, ◌∙◌, arith, lit<}
use Rattle.std.proofs.lemmas.Int.{ints}
use Rattle.fractions.specs.declared.part.TheConstants.{UNIT}
use Rattle.fractions.specs.Fraction.{SameFraction}
use Rattle.integers.proofs.Order.{mul_left_cancel_pos}
use Rattle.integers.proofs.Solver.{Expr, Expr.{var, num, ◌⊕◌, ◌⊝◌, ◌⊗◌}, linear, ring, given}
use Rattle.integers.proofs.Ring.{mul_zero}
use Rattle.fractions.specs.Parts.{edge}
use Rattle.symmetry.specs.Vectors.{Vector, dot, image, minus, multiple, plus}
use Rattle.symmetry.specs.Planes.{Height, IsCoprime, IsHeight}
use Rattle.symmetry.specs.Groups.{Listing, IsGroup, IsInLattice}
use Rattle.symmetry.specs.Frames.{Basis}
use Rattle.symmetry.proofs.LatticeLaws.{lattice-made, lattice-minus, lattice-plus, lattice-multiple}
use Rattle.symmetry.proofs.VectorLaws.{vector_path}
use Rattle.motions.specs.PlaneMatrices.{Pair, dot2, image2, minus2, plus2, in_space}
use Rattle.motions.specs.Signs.{sign_value}
use Rattle.motions.specs.declared.motion.Sign.{Sign}
use Rattle.motions.specs.Laws.PlaneMatrixLaws.{pair_path}
use Rattle.plane_lattice.specs.Sections.{drift, height_in_steps}
use Rattle.plane_motions.specs.PlaneMotions.{PlaneMotion, plane_block}
use Rattle.friezes.specs.declared.line_op.LineOp.{LineOp}
use Rattle.friezes.specs.Lines.{line_of}
use Rattle.line_frames.specs.Lines.{IsAlong, IsInPlaneLattice, first_two, times2}
use Rattle.line_scans.specs.Lines.{InLineStabiliser, IsPlaneMember, PlanePoint}
use Rattle.line_scans.specs.LineOps.{HasLineOp, IsLineOp}
use Rattle.line_scans.specs.LineSections.{ActsAlong, in_edges2, point_at2}
use Rattle.line_scans.proofs.LineActions.{image_times, rational_line}
use Rattle.line_scans.proofs.LineStabilisers.{Follows, dot_turned, image_in_lattice, stabiliser_follows, turned_along}
use Rattle.line_scans.proofs.PlaneBridges.{IsFlatModulo, block_matrix_flat, dot_in_space, flat_minus, image_below}

-- ---- in the plane

-- 2 UNIT (W o + w - o) for the point k steps along tau
abbrev pub line_drift : PlaneMotion → Pair → ℤ → Pair
line_drift m tau k = plus2 (times2 k (minus2 (image2 m.matrix tau) tau)) (times2 (pos 2 *ℤ UNIT) m.translation)

pub image_block : (m : PlaneMotion) (v : Pair) → image (plane_block m).matrix (in_space v) ≡ in_space (image2 m.matrix v)
unfolding dot
image_block m v =
    let below = image_below (plane_block m) (in_space v) (block_matrix_flat m) in
    vector_path (λ i. (below i).x) (λ i. (below i).y) (none v.x v.y)
  where
    none : (x y : ℤ) → pos 0 *ℤ x +ℤ pos 0 *ℤ y +ℤ pos 1 *ℤ pos 0 ≡ pos 0
    none x y = omega (arith, ints)

drift_block : (m : PlaneMotion) (tau : Pair) (k : ℤ) → drift (plane_block m) (in_space tau) k ≡ in_space (line_drift m tau k)
unfolding plus multiple
drift_block m tau k =
    ap (λ v. plus (multiple k (minus v (in_space tau))) (multiple (pos 2 *ℤ UNIT) (in_space m.translation))) (image_block m tau)
    ∙ ap (λ v. plus (multiple k v) (multiple (pos 2 *ℤ UNIT) (in_space m.translation))) (flat_minus (image2 m.matrix tau) tau)
    ∙ vector_path refl refl (none k)
  where
    none : (k : ℤ) → k *ℤ pos 0 +ℤ pos 2 *ℤ UNIT *ℤ pos 0 ≡ pos 0
    none k = omega (arith, ints)

pub multiple_in_space : (k : ℤ) (v : Pair) → multiple k (in_space v) ≡ in_space (times2 k v)
unfolding multiple
multiple_in_space k v = vector_path refl refl (mul_zero k)

from_in_space : (v w : Pair) → in_space v ≡ in_space w → v ≡ w
from_in_space v w e = ap first_two e

-- ---- what is told along the line is what the motion does

special_entry : (n q d k t a y x w : ℤ) → n *ℤ (pos 2 *ℤ UNIT *ℤ UNIT) ≡ k *ℤ d *ℤ q → k *ℤ (y -ℤ x) +ℤ pos 2 *ℤ UNIT *ℤ w ≡ t *ℤ a
    → edge *ℤ (UNIT *ℤ (n *ℤ UNIT *ℤ y) +ℤ q *ℤ d *ℤ UNIT *ℤ w -ℤ UNIT *ℤ (n *ℤ UNIT *ℤ x)) ≡ q *ℤ d *ℤ UNIT *ℤ t *ℤ a
special_entry n q d k t a y x w steps drifts =
    let u : Expr = num UNIT in
    linear (n ∷ q ∷ d ∷ k ∷ t ∷ a ∷ y ∷ x ∷ w ∷ [])
    (num edge ⊗ (u ⊗ (var 0 ⊗ u ⊗ var 6) ⊕ var 1 ⊗ var 2 ⊗ u ⊗ var 8 ⊝ u ⊗ (var 0 ⊗ u ⊗ var 7)))
    (var 1 ⊗ var 2 ⊗ u ⊗ var 4 ⊗ var 5)
    (given (u ⊗ (var 6 ⊝ var 7)) (var 0 ⊗ num (pos 2 *ℤ UNIT *ℤ UNIT)) (var 3 ⊗ var 2 ⊗ var 1)
    ∷ given (u ⊗ var 1 ⊗ var 2) (var 3 ⊗ (var 6 ⊝ var 7) ⊕ num (pos 2 *ℤ UNIT) ⊗ var 8) (var 4 ⊗ var 5) ∷ []) tt (steps, (drifts, tt))

general_entry : (n q d l t a y x c w : ℤ) → pos 0 *ℤ (y -ℤ x) +ℤ pos 2 *ℤ UNIT *ℤ w ≡ t *ℤ a
    → edge *ℤ (UNIT *ℤ (n *ℤ UNIT *ℤ c) +ℤ q *ℤ d *ℤ l *ℤ w -ℤ UNIT *ℤ (n *ℤ UNIT *ℤ c)) ≡ q *ℤ d *ℤ l *ℤ t *ℤ a
general_entry n q d l t a y x c w drifts =
    let u : Expr = num UNIT in
    linear (n ∷ q ∷ d ∷ l ∷ t ∷ a ∷ y ∷ x ∷ c ∷ w ∷ [])
    (num edge ⊗ (u ⊗ (var 0 ⊗ u ⊗ var 8) ⊕ var 1 ⊗ var 2 ⊗ var 3 ⊗ var 9 ⊝ u ⊗ (var 0 ⊗ u ⊗ var 8)))
    (var 1 ⊗ var 2 ⊗ var 3 ⊗ var 4 ⊗ var 5)
    (given (var 1 ⊗ var 2 ⊗ var 3) (num (pos 0) ⊗ (var 6 ⊝ var 7) ⊕ num (pos 2 *ℤ UNIT) ⊗ var 9) (var 4 ⊗ var 5) ∷ []) tt (drifts, tt)

module _ (r a tau : Pair) (d : ℤ) (c : PlanePoint) (f : Basis) (f_a : f.a ≡ in_space a) (f_tau : f.tau ≡ in_space tau) (m : PlaneMotion) (k : ℤ) (op : LineOp)
    (is : IsLineOp (in_space r) f k (plane_block m) op) (mean : image2 m.matrix c.at ≡ times2 (sign_value op.e) c.at) where
  along : image2 m.matrix a ≡ times2 (sign_value op.f) a
  along =
      from_in_space (image2 m.matrix a) (times2 (sign_value op.f) a)
      (sym (image_block m a) ∙ ap (image (plane_block m).matrix) (sym f_a) ∙ is.along ∙ ap (multiple (sign_value op.f)) f_a ∙ multiple_in_space (sign_value op.f) a)

  drifts : line_drift m tau k ≡ times2 op.t a
  drifts =
      from_in_space (line_drift m tau k) (times2 op.t a)
      (sym (drift_block m tau k) ∙ ap (λ v. drift (plane_block m) v k) (sym f_tau) ∙ is.translation ∙ ap (multiple op.t) f_a ∙ multiple_in_space op.t a)

  -- from (s/d) tau, at a height s that is k steps above the origin
  pub acts_at : (s : Height) → SameFraction s (height_in_steps d k) → ActsAlong a c (point_at2 d s (in_edges2 tau)) m (rational_line (line_of op))
  acts_at s steps = record {
    along = along;
    across = mean;
    translation = ap (λ v. times2 edge (minus2 (plus2 (times2 UNIT v) (times2 (s.den *ℤ d *ℤ UNIT) m.translation)) (times2 UNIT (times2 (s.num *ℤ UNIT) tau))))
        (image_times m.matrix (s.num *ℤ UNIT) tau)
        ∙ pair_path
        (special_entry s.num s.den d k op.t a.x (image2 m.matrix tau).x tau.x m.translation.x steps (λ i. (drifts i).x))
        (special_entry s.num s.den d k op.t a.y (image2 m.matrix tau).y tau.y m.translation.y steps (λ i. (drifts i).y));
  }

  -- from (s/d) c', where the motion leaves c' as it is, and the drift is that from the origin
  pub acts_generally : k ≡ pos 0 → image2 m.matrix c.at ≡ c.at → (s : Height) → ActsAlong a c (point_at2 d s c) m (rational_line (line_of op))
  acts_generally none stays s =
      let at_origin : line_drift m tau (pos 0) ≡ times2 op.t a = ap (line_drift m tau) (sym none) ∙ drifts in
      record {
        along = along;
        across = mean;
        translation = ap (λ v. times2 edge (minus2 (plus2 (times2 UNIT v) (times2 (s.den *ℤ d *ℤ c.over) m.translation)) (times2 UNIT (times2 (s.num *ℤ UNIT) c.at))))
            (image_times m.matrix (s.num *ℤ UNIT) c.at ∙ ap (times2 (s.num *ℤ UNIT)) stays)
            ∙ pair_path
            (general_entry s.num s.den d c.over op.t a.x (image2 m.matrix tau).x tau.x c.at.x m.translation.x (λ i. (at_origin i).x))
            (general_entry s.num s.den d c.over op.t a.y (image2 m.matrix tau).y tau.y c.at.y m.translation.y (λ i. (at_origin i).y));
      }

-- ---- there is one at each member that maps the line to itself

-- (hk).(2 UNIT (W o + w - o)) is 0 where the line is kept: q times it, for a height n/q
level_entry : (n q d k e w g : ℤ) → pos 1 ≤ℤ q → n *ℤ (pos 2 *ℤ UNIT *ℤ UNIT) ≡ k *ℤ d *ℤ q → e *ℤ n *ℤ UNIT +ℤ q *ℤ w ≡ n *ℤ UNIT
    → g ≡ k *ℤ (e *ℤ d -ℤ d) +ℤ pos 2 *ℤ UNIT *ℤ w → g ≡ pos 0
level_entry n q d k e w g high steps follows is =
    mul_left_cancel_pos q g (pos 0) high
    (linear (n ∷ q ∷ d ∷ k ∷ e ∷ w ∷ g ∷ []) (var 1 ⊗ var 6) (var 1 ⊗ num (pos 0))
    (given (var 1) (var 6) (var 3 ⊗ (var 4 ⊗ var 2 ⊝ var 2) ⊕ num (pos 2 *ℤ UNIT) ⊗ var 5)
    ∷ given (num (pos 1) ⊝ var 4) (var 0 ⊗ num (pos 2 *ℤ UNIT *ℤ UNIT)) (var 3 ⊗ var 2 ⊗ var 1)
    ∷ given (num (pos 2 *ℤ UNIT)) (var 4 ⊗ var 0 ⊗ num UNIT ⊕ var 1 ⊗ var 5) (var 0 ⊗ num UNIT) ∷ []) tt (is, (steps, (follows, tt))))

dot_drift_entry : (h l k y z x w v u : ℤ)
    → h *ℤ (k *ℤ (y -ℤ x) +ℤ pos 2 *ℤ UNIT *ℤ v) +ℤ l *ℤ (k *ℤ (z -ℤ w) +ℤ pos 2 *ℤ UNIT *ℤ u)
    ≡ k *ℤ (h *ℤ y +ℤ l *ℤ z -ℤ (h *ℤ x +ℤ l *ℤ w)) +ℤ pos 2 *ℤ UNIT *ℤ (h *ℤ v +ℤ l *ℤ u)
dot_drift_entry h l k y z x w v u =
    let two : Expr = num (pos 2 *ℤ UNIT) in
    ring (h ∷ l ∷ k ∷ y ∷ z ∷ x ∷ w ∷ v ∷ u ∷ [])
    (var 0 ⊗ (var 2 ⊗ (var 3 ⊝ var 5) ⊕ two ⊗ var 7) ⊕ var 1 ⊗ (var 2 ⊗ (var 4 ⊝ var 6) ⊕ two ⊗ var 8))
    (var 2 ⊗ (var 0 ⊗ var 3 ⊕ var 1 ⊗ var 4 ⊝ (var 0 ⊗ var 5 ⊕ var 1 ⊗ var 6)) ⊕ two ⊗ (var 0 ⊗ var 7 ⊕ var 1 ⊗ var 8)) tt

module _ (g : Listing) (r a tau : Pair) (d : ℤ) (group : IsGroup g) (coprime : IsCoprime (in_space r)) (flat : IsFlatModulo g) (along_lines : IsAlong g r a)
    (once_a : (k l : ℤ) → times2 k a ≡ times2 l a → k ≡ l) (tau_in : IsInPlaneLattice g tau) (tau_gives : dot2 r tau ≡ d) where
  -- whole edges are in L2
  edges_in : (v : Pair) → IsInPlaneLattice g (times2 (pos 2 *ℤ UNIT) v)
  unfolding plus multiple
  edges_in v =
      subst (IsInLattice g) (vector_path (first v.x v.y) (second v.x v.y) (last v.x v.y))
      (lattice-plus g (multiple (pos 2 *ℤ v.x) along_x) (multiple (pos 2 *ℤ v.y) along_y)
      (lattice-multiple g (pos 2 *ℤ v.x) along_x (lattice-made g along_x (inl (0, lit< tt, refl))))
      (lattice-multiple g (pos 2 *ℤ v.y) along_y (lattice-made g along_y (inl (1, lit< tt, refl)))))
    where
      along_x : Vector
      along_x = record { x = UNIT; y = pos 0; z = pos 0 }

      along_y : Vector
      along_y = record { x = pos 0; y = UNIT; z = pos 0 }

      first : (x y : ℤ) → pos 2 *ℤ x *ℤ UNIT +ℤ pos 2 *ℤ y *ℤ pos 0 ≡ pos 2 *ℤ UNIT *ℤ x
      first x y = omega (arith, ints)

      second : (x y : ℤ) → pos 2 *ℤ x *ℤ pos 0 +ℤ pos 2 *ℤ y *ℤ UNIT ≡ pos 2 *ℤ UNIT *ℤ y
      second x y = omega (arith, ints)

      last : (x y : ℤ) → pos 2 *ℤ x *ℤ pos 0 +ℤ pos 2 *ℤ y *ℤ pos 0 ≡ pos 0
      last x y = omega (arith, ints)

  drift_in : (m : PlaneMotion) (k : ℤ) → IsInPlaneLattice g (image2 m.matrix tau) → IsInPlaneLattice g (line_drift m tau k)
  unfolding plus
  drift_in m k turned =
      lattice-plus g (in_space (times2 k (minus2 (image2 m.matrix tau) tau))) (in_space (times2 (pos 2 *ℤ UNIT) m.translation))
      (subst (IsInLattice g) (multiple_in_space k (minus2 (image2 m.matrix tau) tau))
      (lattice-multiple g k (in_space (minus2 (image2 m.matrix tau) tau))
      (subst (IsInLattice g) (flat_minus (image2 m.matrix tau) tau) (lattice-minus g (in_space (image2 m.matrix tau)) (in_space tau) turned tau_in))))
      (edges_in m.translation)

  dot_drift : (m : PlaneMotion) (k e : ℤ) → dot2 r (image2 m.matrix tau) ≡ e *ℤ dot2 r tau
      → dot2 r (line_drift m tau k) ≡ k *ℤ (e *ℤ d -ℤ d) +ℤ pos 2 *ℤ UNIT *ℤ dot2 r m.translation
  dot_drift m k e turned =
      dot_drift_entry r.x r.y k (image2 m.matrix tau).x (image2 m.matrix tau).y tau.x tau.y m.translation.x m.translation.y
      ∙ ap (λ y. k *ℤ (y -ℤ dot2 r tau) +ℤ pos 2 *ℤ UNIT *ℤ dot2 r m.translation) turned
      ∙ ap (λ x. k *ℤ (e *ℤ x -ℤ x) +ℤ pos 2 *ℤ UNIT *ℤ dot2 r m.translation) tau_gives

  module _ (f : Basis) (f_a : f.a ≡ in_space a) (f_tau : f.tau ≡ in_space tau) where
    pub some_op : (s : Height) → IsHeight s → (k : ℤ) → SameFraction s (height_in_steps d k) → (m : PlaneMotion) → InLineStabiliser g r s m
        → HasLineOp (in_space r) f k (plane_block m)
    some_op s high k steps m in_it = (
      record { f = sign.0; e = follows.sign; t = shift.0 },
      record {
        along = ap (image (plane_block m).matrix) f_a ∙ image_block m a ∙ ap in_space sign.1 ∙ sym (multiple_in_space (sign_value sign.0) a)
            ∙ ap (multiple (sign_value sign.0)) (sym f_a);
        across = follows.row;
        translation = ap (λ v. drift (plane_block m) v k) f_tau ∙ drift_block m tau k ∙ ap in_space shift.1 ∙ sym (multiple_in_space shift.0 a)
            ∙ ap (multiple shift.0) (sym f_a);
      },
    )
      where
        both : IsPlaneMember g m × Follows (in_space r) s (plane_block m)
        both = (stabiliser_follows g r a group coprime flat along_lines s m high).0 in_it

        follows : Follows (in_space r) s (plane_block m)
        follows = both.1

        sign : (e : Sign) × (image2 m.matrix a ≡ times2 (sign_value e) a)
        sign = turned_along g r a group coprime flat along_lines once_a m both.0 follows.sign follows.row

        level : dot2 r (line_drift m tau k) ≡ pos 0
        level =
            level_entry s.num s.den d k (sign_value follows.sign) (dot2 r m.translation) (dot2 r (line_drift m tau k)) high steps
            (ap (λ w. sign_value follows.sign *ℤ s.num *ℤ UNIT +ℤ s.den *ℤ w) (sym (dot_in_space r (in_space m.translation))) ∙ follows.translation)
            (dot_drift m k (sign_value follows.sign) (dot_turned g r a group coprime flat along_lines m both.0 follows.sign follows.row tau))

        shift : (t : ℤ) × (line_drift m tau k ≡ times2 t a)
        shift =
            along_lines.only (line_drift m tau k)
            (drift_in m k (image_in_lattice g r a group coprime flat along_lines m both.0 follows.sign follows.row tau tau_in)) level
