-- What motions of the plane do along a line: of products, of motions that differ by a multiple of a, and only once.
use Rattle.std.proofs.Common.{◌≡◌, ℤ, pos, ◌+ℤ◌, ◌-ℤ◌, ◌*ℤ◌, ◌≤ℤ◌, [], ◌∷◌, refl, sym, ap, ◌∙◌, arith}
use Rattle.std.proofs.lemmas.Int.{ints}
use Rattle.fractions.specs.declared.part.TheConstants.{UNIT}
use Rattle.fractions.specs.Fraction.{SameFraction}
use Rattle.integers.proofs.Order.{mul_left_cancel_pos}
use Rattle.integers.proofs.Solver.{Expr, Expr.{var, num, neg, ◌⊕◌, ◌⊝◌, ◌⊗◌}, ring, linear, given}
use Rattle.fractions.specs.Parts.{edge}
use Rattle.motions.specs.PlaneMatrices.{Matrix2, Pair, image2, minus2, origin2, plus2, product2}
use Rattle.motions.specs.Signs.{sign_product, sign_value}
use Rattle.motions.specs.declared.motion.Sign.{Sign}
use Rattle.motions.specs.declared.motion.Sign.TheVariants.{Plus, Minus}
use Rattle.motions.specs.FriezeMotions.{FriezeOperation, frieze_followed_by, frieze_identity}
use Rattle.motions.specs.Laws.PlaneMatrixLaws.{pair_path, image2-product, image2-unit}
use Rattle.plane_motions.specs.PlaneMotions.{PlaneMotion, plane_followed_by, plane_identity}
use Rattle.friezes.specs.RationalLines.{RationalLine, half_parts}
use Rattle.line_frames.specs.Lines.{times2}
use Rattle.line_scans.specs.Lines.{PlanePoint, moved2}
use Rattle.line_scans.specs.LineLists.{DiffersAlong}
use Rattle.line_scans.specs.LineSections.{ActsAlong}

-- an operation along the line with its translation as a part of the cell edge
abbrev pub rational_line : FriezeOperation → RationalLine
rational_line op = record { along = op.along; across = op.across; translation = half_parts op.translation }

-- how far a motion moves a point: W o + w - o
abbrev pub drift2 : PlaneMotion → PlanePoint → Pair
drift2 m o = minus2 (moved2 m o).at (times2 UNIT o.at)

-- ---- products

image_times_entry : (p q k x y : ℤ) → p *ℤ (k *ℤ x) +ℤ q *ℤ (k *ℤ y) ≡ k *ℤ (p *ℤ x +ℤ q *ℤ y)
image_times_entry p q k x y =
    ring (p ∷ q ∷ k ∷ x ∷ y ∷ []) (var 0 ⊗ (var 2 ⊗ var 3) ⊕ var 1 ⊗ (var 2 ⊗ var 4)) (var 2 ⊗ (var 0 ⊗ var 3 ⊕ var 1 ⊗ var 4)) tt

pub image_times : (w : Matrix2) (k : ℤ) (v : Pair) → image2 w (times2 k v) ≡ times2 k (image2 w v)
image_times w k v = pair_path (image_times_entry w.first.x w.first.y k v.x v.y) (image_times_entry w.second.x w.second.y k v.x v.y)

pub times_times : (k l : ℤ) (v : Pair) → times2 k (times2 l v) ≡ times2 (k *ℤ l) v
times_times k l v = pair_path (entry v.x) (entry v.y)
  where
    entry : (x : ℤ) → k *ℤ (l *ℤ x) ≡ k *ℤ l *ℤ x
    entry x = ring (k ∷ l ∷ x ∷ []) (var 0 ⊗ (var 1 ⊗ var 2)) (var 0 ⊗ var 1 ⊗ var 2) tt

pub times_one : (v : Pair) → times2 (pos 1) v ≡ v
times_one v = pair_path (omega (arith, ints)) (omega (arith, ints))

pub sign_of_product : (f g : Sign) → sign_value f *ℤ sign_value g ≡ sign_value (sign_product f g)
sign_of_product Plus Plus = refl
sign_of_product Plus Minus = refl
sign_of_product Minus Plus = refl
sign_of_product Minus Minus = refl

-- a vector that both matrices take to itself but for a sign
turned_twice : (n m : Matrix2) (v : Pair) (f g : Sign) → image2 m v ≡ times2 (sign_value g) v → image2 n v ≡ times2 (sign_value f) v
    → image2 (product2 n m) v ≡ times2 (sign_value (sign_product f g)) v
turned_twice n m v f g a b =
    image2-product n m v ∙ ap (image2 n) a ∙ image_times n (sign_value g) v ∙ ap (times2 (sign_value g)) b ∙ times_times (sign_value g) (sign_value f) v
    ∙ ap (λ k. times2 k v) (swap ∙ sign_of_product f g)
  where
    swap : sign_value g *ℤ sign_value f ≡ sign_value f *ℤ sign_value g
    swap = ring (sign_value g ∷ sign_value f ∷ []) (var 0 ⊗ var 1) (var 1 ⊗ var 0) tt

drift_entry : (p q a b c d x y s t u n z : ℤ)
    → UNIT *ℤ ((p *ℤ a +ℤ q *ℤ c) *ℤ x +ℤ (p *ℤ b +ℤ q *ℤ d) *ℤ y) +ℤ n *ℤ (p *ℤ s +ℤ q *ℤ t +ℤ u) -ℤ UNIT *ℤ z
    ≡ p *ℤ (UNIT *ℤ (a *ℤ x +ℤ b *ℤ y) +ℤ n *ℤ s -ℤ UNIT *ℤ x) +ℤ q *ℤ (UNIT *ℤ (c *ℤ x +ℤ d *ℤ y) +ℤ n *ℤ t -ℤ UNIT *ℤ y)
    +ℤ (UNIT *ℤ (p *ℤ x +ℤ q *ℤ y) +ℤ n *ℤ u -ℤ UNIT *ℤ z)
drift_entry p q a b c d x y s t u n z =
    let one : Expr = num UNIT in
    ring (p ∷ q ∷ a ∷ b ∷ c ∷ d ∷ x ∷ y ∷ s ∷ t ∷ u ∷ n ∷ z ∷ [])
    (one ⊗ ((var 0 ⊗ var 2 ⊕ var 1 ⊗ var 4) ⊗ var 6 ⊕ (var 0 ⊗ var 3 ⊕ var 1 ⊗ var 5) ⊗ var 7) ⊕ var 11 ⊗ (var 0 ⊗ var 8 ⊕ var 1 ⊗ var 9 ⊕ var 10) ⊝ one ⊗ var 12)
    (var 0 ⊗ (one ⊗ (var 2 ⊗ var 6 ⊕ var 3 ⊗ var 7) ⊕ var 11 ⊗ var 8 ⊝ one ⊗ var 6) ⊕ var 1 ⊗ (one ⊗ (var 4 ⊗ var 6 ⊕ var 5 ⊗ var 7) ⊕ var 11 ⊗ var 9 ⊝ one ⊗ var 7)
    ⊕ (one ⊗ (var 0 ⊗ var 6 ⊕ var 1 ⊗ var 7) ⊕ var 11 ⊗ var 10 ⊝ one ⊗ var 12)) tt

-- the drift of a product is that of the first, turned, and that of the second
drift_product : (m n : PlaneMotion) (o : PlanePoint) → drift2 (plane_followed_by m n) o ≡ plus2 (image2 n.matrix (drift2 m o)) (drift2 n o)
drift_product m n o =
    pair_path
    (drift_entry n.matrix.first.x n.matrix.first.y m.matrix.first.x m.matrix.first.y m.matrix.second.x m.matrix.second.y o.at.x o.at.y m.translation.x m.translation.y n.translation.x o.over o.at.x)
    (drift_entry n.matrix.second.x n.matrix.second.y m.matrix.first.x m.matrix.first.y m.matrix.second.x m.matrix.second.y o.at.x o.at.y m.translation.x m.translation.y n.translation.y o.over o.at.y)

-- e D = n t a and e E = n u a, and W a = f a
along_entry : (e n t u f p q d d' b a a' : ℤ) → e *ℤ d ≡ n *ℤ t *ℤ a → e *ℤ d' ≡ n *ℤ t *ℤ a' → p *ℤ a +ℤ q *ℤ a' ≡ f *ℤ b
    → (g : ℤ) → e *ℤ g ≡ n *ℤ u *ℤ b → e *ℤ (p *ℤ d +ℤ q *ℤ d' +ℤ g) ≡ n *ℤ (f *ℤ t +ℤ u) *ℤ b
along_entry e n t u f p q d d' b a a' first second turned g last =
    linear (e ∷ n ∷ t ∷ u ∷ f ∷ p ∷ q ∷ d ∷ d' ∷ b ∷ a ∷ a' ∷ g ∷ [])
    (var 0 ⊗ (var 5 ⊗ var 7 ⊕ var 6 ⊗ var 8 ⊕ var 12)) (var 1 ⊗ (var 4 ⊗ var 2 ⊕ var 3) ⊗ var 9)
    (given (var 5) (var 0 ⊗ var 7) (var 1 ⊗ var 2 ⊗ var 10) ∷ given (var 6) (var 0 ⊗ var 8) (var 1 ⊗ var 2 ⊗ var 11)
    ∷ given (var 1 ⊗ var 2) (var 5 ⊗ var 10 ⊕ var 6 ⊗ var 11) (var 4 ⊗ var 9) ∷ given (num (pos 1)) (var 0 ⊗ var 12) (var 1 ⊗ var 3 ⊗ var 9) ∷ [])
    tt (first, (second, (turned, (last, tt))))

-- ---- one number from entries

once_entry : (e e' n d t t' a : ℤ) → pos 1 ≤ℤ n → e *ℤ d ≡ n *ℤ t *ℤ a → e' *ℤ d ≡ n *ℤ t' *ℤ a → t *ℤ e' *ℤ a ≡ t' *ℤ e *ℤ a
once_entry e e' n d t t' a above first second =
    mul_left_cancel_pos n _ _ above
    (linear (e ∷ e' ∷ n ∷ d ∷ t ∷ t' ∷ a ∷ []) (var 2 ⊗ (var 4 ⊗ var 1 ⊗ var 6)) (var 2 ⊗ (var 5 ⊗ var 0 ⊗ var 6))
    (given (neg (var 1)) (var 0 ⊗ var 3) (var 2 ⊗ var 4 ⊗ var 6) ∷ given (var 0) (var 1 ⊗ var 3) (var 2 ⊗ var 5 ⊗ var 6) ∷ []) tt (first, (second, tt)))

-- e D = n t a, and t/e = t'/e'
same_entry : (e e' n d t t' a : ℤ) → pos 1 ≤ℤ e → e *ℤ d ≡ n *ℤ t *ℤ a → t *ℤ e' ≡ t' *ℤ e → e' *ℤ d ≡ n *ℤ t' *ℤ a
same_entry e e' n d t t' a above first same =
    mul_left_cancel_pos e _ _ above
    (linear (e ∷ e' ∷ n ∷ d ∷ t ∷ t' ∷ a ∷ []) (var 0 ⊗ (var 1 ⊗ var 3)) (var 0 ⊗ (var 2 ⊗ var 5 ⊗ var 6))
    (given (var 1) (var 0 ⊗ var 3) (var 2 ⊗ var 4 ⊗ var 6) ∷ given (var 2 ⊗ var 6) (var 4 ⊗ var 1) (var 5 ⊗ var 0) ∷ []) tt (first, (same, tt)))

-- a translation that is k a smaller
moved_entry : (e n t k a x z w v : ℤ) → w -ℤ v ≡ k *ℤ a → e *ℤ (UNIT *ℤ x +ℤ n *ℤ w -ℤ UNIT *ℤ z) ≡ n *ℤ t *ℤ a
    → e *ℤ (UNIT *ℤ x +ℤ n *ℤ v -ℤ UNIT *ℤ z) ≡ n *ℤ (t -ℤ k *ℤ e) *ℤ a
moved_entry e n t k a x z w v differs is =
    let one : Expr = num UNIT in
    linear (e ∷ n ∷ t ∷ k ∷ a ∷ x ∷ z ∷ w ∷ v ∷ [])
    (var 0 ⊗ (one ⊗ var 5 ⊕ var 1 ⊗ var 8 ⊝ one ⊗ var 6)) (var 1 ⊗ (var 2 ⊝ var 3 ⊗ var 0) ⊗ var 4)
    (given (num (pos 1)) (var 0 ⊗ (one ⊗ var 5 ⊕ var 1 ⊗ var 7 ⊝ one ⊗ var 6)) (var 1 ⊗ var 2 ⊗ var 4)
    ∷ given (neg (var 0 ⊗ var 1)) (var 7 ⊝ var 8) (var 3 ⊗ var 4) ∷ []) tt (is, (differs, tt))

nothing_entry : (x n a : ℤ) → edge *ℤ (UNIT *ℤ x +ℤ n *ℤ pos 0 -ℤ UNIT *ℤ x) ≡ n *ℤ pos 0 *ℤ a
nothing_entry x n a =
    ring (x ∷ n ∷ a ∷ []) (num edge ⊗ (num UNIT ⊗ var 0 ⊕ var 1 ⊗ num (pos 0) ⊝ num UNIT ⊗ var 0)) (var 1 ⊗ num (pos 0) ⊗ var 2) tt

module _ (a : Pair) (c o : PlanePoint) where
  abbrev pub Acts : PlaneMotion → FriezeOperation → Type 0
  Acts m op = ActsAlong a c o m (rational_line op)

  pub acts_product : (m n : PlaneMotion) (op like : FriezeOperation) → Acts m op → Acts n like → Acts (plane_followed_by m n) (frieze_followed_by op like)
  acts_product m n op like acts_m acts_n = record {
    along = turned_twice n.matrix m.matrix a like.along op.along acts_m.along acts_n.along;
    across = turned_twice n.matrix m.matrix c.at like.across op.across acts_m.across acts_n.across;
    translation = ap (times2 edge) (drift_product m n o) ∙ pair_path
        (along_entry edge o.over op.translation like.translation (sign_value like.along) n.matrix.first.x n.matrix.first.y (drift2 m o).x (drift2 m o).y a.x a.x a.y
        (λ i. (acts_m.translation i).x) (λ i. (acts_m.translation i).y) (λ i. (acts_n.along i).x) (drift2 n o).x (λ i. (acts_n.translation i).x))
        (along_entry edge o.over op.translation like.translation (sign_value like.along) n.matrix.second.x n.matrix.second.y (drift2 m o).x (drift2 m o).y a.y a.x a.y
        (λ i. (acts_m.translation i).x) (λ i. (acts_m.translation i).y) (λ i. (acts_n.along i).y) (drift2 n o).y (λ i. (acts_n.translation i).y));
  }

  pub acts_identity : Acts plane_identity frieze_identity
  acts_identity = record {
    along = image2-unit a ∙ sym (times_one a);
    across = image2-unit c.at ∙ sym (times_one c.at);
    translation = ap (λ v. times2 edge (minus2 (plus2 (times2 UNIT v) (times2 o.over origin2)) (times2 UNIT o.at))) (image2-unit o.at)
        ∙ pair_path (nothing_entry o.at.x o.over a.x) (nothing_entry o.at.y o.over a.y);
  }

  -- a motion whose translation is k a smaller
  abbrev pub less : RationalLine → ℤ → RationalLine
  less op k = record op { translation = record { num = op.translation.num -ℤ k *ℤ op.translation.den; den = op.translation.den } }

  pub acts_differs : (m n : PlaneMotion) (op : RationalLine) (differs : DiffersAlong a m n) → ActsAlong a c o m op → ActsAlong a c o n (less op differs.times)
  acts_differs m n op differs acts =
      let same : (v : Pair) → image2 n.matrix v ≡ image2 m.matrix v = λ v. ap (λ w. image2 w v) (sym differs.matrix) in
      let k = differs.times in
      record {
        along = same a ∙ acts.along;
        across = same c.at ∙ acts.across;
        translation = ap (λ v. times2 op.translation.den (minus2 (plus2 (times2 UNIT v) (times2 o.over n.translation)) (times2 UNIT o.at))) (same o.at)
            ∙ pair_path
            (moved_entry op.translation.den o.over op.translation.num k a.x (image2 m.matrix o.at).x o.at.x m.translation.x n.translation.x (λ i. (differs.translation i).x) (λ i. (acts.translation i).x))
            (moved_entry op.translation.den o.over op.translation.num k a.y (image2 m.matrix o.at).y o.at.y m.translation.y n.translation.y (λ i. (differs.translation i).y) (λ i. (acts.translation i).y));
      }

  -- and the same translation, written otherwise
  pub acts_same : (m : PlaneMotion) (op like : RationalLine) → pos 1 ≤ℤ op.translation.den → op.along ≡ like.along → op.across ≡ like.across
      → SameFraction op.translation like.translation → ActsAlong a c o m op → ActsAlong a c o m like
  acts_same m op like above along across same acts = record {
    along = acts.along ∙ ap (λ f. times2 (sign_value f) a) along;
    across = acts.across ∙ ap (λ f. times2 (sign_value f) c.at) across;
    translation = pair_path
        (same_entry op.translation.den like.translation.den o.over (drift2 m o).x op.translation.num like.translation.num a.x above (λ i. (acts.translation i).x) same)
        (same_entry op.translation.den like.translation.den o.over (drift2 m o).y op.translation.num like.translation.num a.y above (λ i. (acts.translation i).y) same);
  }

  module _ (once_a : (k l : ℤ) → times2 k a ≡ times2 l a → k ≡ l) (once_c : (k l : ℤ) → times2 k c.at ≡ times2 l c.at → k ≡ l) (above : pos 1 ≤ℤ o.over) where
    pub one_sign : (f g : Sign) → sign_value f ≡ sign_value g → f ≡ g
    one_sign Plus Plus e = refl
    one_sign Plus Minus e = absurd (omega (arith, ints))
    one_sign Minus Plus e = absurd (omega (arith, ints))
    one_sign Minus Minus e = refl

    pub along_once : (m : PlaneMotion) (op like : RationalLine) → ActsAlong a c o m op → ActsAlong a c o m like → op.along ≡ like.along
    along_once m op like p q = one_sign op.along like.along (once_a (sign_value op.along) (sign_value like.along) (sym p.along ∙ q.along))

    pub across_once : (m : PlaneMotion) (op like : RationalLine) → ActsAlong a c o m op → ActsAlong a c o m like → op.across ≡ like.across
    across_once m op like p q = one_sign op.across like.across (once_c (sign_value op.across) (sign_value like.across) (sym p.across ∙ q.across))

    pub shift_once : (m : PlaneMotion) (op like : RationalLine) → ActsAlong a c o m op → ActsAlong a c o m like → SameFraction op.translation like.translation
    shift_once m op like p q =
        once_a (op.translation.num *ℤ like.translation.den) (like.translation.num *ℤ op.translation.den)
        (pair_path
        (once_entry op.translation.den like.translation.den o.over (drift2 m o).x op.translation.num like.translation.num a.x above (λ i. (p.translation i).x) (λ i. (q.translation i).x))
        (once_entry op.translation.den like.translation.den o.over (drift2 m o).y op.translation.num like.translation.num a.y above (λ i. (p.translation i).y) (λ i. (q.translation i).y)))
