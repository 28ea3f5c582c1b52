-- The section of a set of motions along a line is a group modulo a, and what the list of it stands for.
use Rattle.std.proofs.Common.{◌≡◌, ◌↔◌, ℕ, ◌<◌, ℤ, pos, negsuc, ◌+ℤ◌, ◌-ℤ◌, ◌*ℤ◌, ◌≤ℤ◌, List, [], ◌∷◌, length, map, slice_index_or, refl, sym, ap, subst, ◌∙◌, arith}
use Rattle.std.specs.Prelude.{Contains}
use Rattle.std.proofs.lemmas.Int.{ints}
use Rattle.std.proofs.lemmas.List.{get_or_default}
use Rattle.integers.proofs.Order.{mul_left_cancel_pos}
use Rattle.integers.proofs.Ring.{mul_zero, zero_add, zero_mul}
use Rattle.integers.proofs.Solver.{Expr.{var, num, neg, ◌⊕◌, ◌⊝◌, ◌⊗◌}, linear, ring, given}
use Rattle.fractions.specs.Parts.{edge}
use Rattle.quotient.specs.Kind.{IsSame}
use Rattle.quotient.specs.Lists.{IsListed}
use Rattle.quotient.specs.Groups as groups
use Rattle.motions.specs.PlaneMatrices.{Pair, dot2, image2, minus2, unit2}
use Rattle.motions.specs.Signs.{sign_product, sign_value}
use Rattle.motions.specs.declared.motion.Sign.TheVariants.{Plus}
use Rattle.motions.specs.FriezeMotions.{FriezeOperation, frieze_followed_by, frieze_identity}
use Rattle.motions.specs.Laws.FriezeLaws.{frieze_path}
use Rattle.motions.specs.Laws.PlaneMatrixLaws.{pair_path}
use Rattle.plane_motions.specs.PlaneMotions.{PlaneMotion, plane_followed_by, plane_identity}
use Rattle.friezes.specs.declared.line_op.LineOp.{LineOp}
use Rattle.friezes.specs.Lines.{line_kind, line_of}
use Rattle.friezes.specs.RationalLines.{IsListedLine, IsRationalLine, RationalLine}
use Rattle.friezes.specs.Sections.{IsSection}
use Rattle.friezes.specs.Laws.ShiftLaws.{ByEdges, keeps, same_from}
use Rattle.friezes.proofs.SectionShape.{contains_line, motion_of_line}
use Rattle.line_frames.specs.Lines.{times2}
use Rattle.line_scans.specs.Lines.{PlanePoint}
use Rattle.line_scans.specs.LineLists.{DiffersAlong, ExactlyOne, plane_at}
use Rattle.line_scans.specs.LineSections.{ActsFrom}
use Rattle.line_scans.proofs.LineActions.{Acts, acts_differs, acts_identity, acts_product, acts_same, across_once, along_once, less, rational_line, shift_once}

-- a group of motions that holds each that differs by a multiple of a from one of its own, and whose translations are these
pub record IsLineGroup (a : Pair) (S : PlaneMotion → Type 0) : Type 0 where
  pub one : S plane_identity
  pub products : (m n : PlaneMotion) → S m → S n → S (plane_followed_by m n)
  pub inverses : (m : PlaneMotion) → S m
      → (n : PlaneMotion) × S n × (plane_followed_by m n ≡ plane_identity) × (plane_followed_by n m ≡ plane_identity)
  pub shifts : (m n : PlaneMotion) → DiffersAlong a m n → S m → S n
  pub plain : (m : PlaneMotion) → S m → m.matrix ≡ unit2 → (k : ℤ) × (m.translation ≡ times2 k a)

-- ---- only the unit matrix keeps a and c'

-- a row that is 0 at a and c is 0 where (hk).a = 0 and (hk).c is not 0
row_entry : (u v h k a b c d : ℤ) → u *ℤ a +ℤ v *ℤ b ≡ pos 0 → u *ℤ c +ℤ v *ℤ d ≡ pos 0 → h *ℤ a +ℤ k *ℤ b ≡ pos 0
    → (h *ℤ c +ℤ k *ℤ d) *ℤ u *ℤ a ≡ pos 0
row_entry u v h k a b c d at_a at_c flat =
    linear (u ∷ v ∷ h ∷ k ∷ a ∷ b ∷ c ∷ d ∷ []) ((var 2 ⊗ var 6 ⊕ var 3 ⊗ var 7) ⊗ var 0 ⊗ var 4) (num (pos 0))
    (given (var 3 ⊗ var 7) (var 0 ⊗ var 4 ⊕ var 1 ⊗ var 5) (num (pos 0)) ∷ given (neg (var 3 ⊗ var 5)) (var 0 ⊗ var 6 ⊕ var 1 ⊗ var 7) (num (pos 0))
    ∷ given (var 0 ⊗ var 6) (var 2 ⊗ var 4 ⊕ var 3 ⊗ var 5) (num (pos 0)) ∷ []) tt (at_a, (at_c, (flat, tt)))

row_entry' : (u v h k a b c d : ℤ) → u *ℤ a +ℤ v *ℤ b ≡ pos 0 → u *ℤ c +ℤ v *ℤ d ≡ pos 0 → h *ℤ a +ℤ k *ℤ b ≡ pos 0
    → (h *ℤ c +ℤ k *ℤ d) *ℤ u *ℤ b ≡ pos 0
row_entry' u v h k a b c d at_a at_c flat =
    linear (u ∷ v ∷ h ∷ k ∷ a ∷ b ∷ c ∷ d ∷ []) ((var 2 ⊗ var 6 ⊕ var 3 ⊗ var 7) ⊗ var 0 ⊗ var 5) (num (pos 0))
    (given (neg (var 2 ⊗ var 7)) (var 0 ⊗ var 4 ⊕ var 1 ⊗ var 5) (num (pos 0)) ∷ given (var 2 ⊗ var 5) (var 0 ⊗ var 6 ⊕ var 1 ⊗ var 7) (num (pos 0))
    ∷ given (var 0 ⊗ var 7) (var 2 ⊗ var 4 ⊕ var 3 ⊗ var 5) (num (pos 0)) ∷ []) tt (at_a, (at_c, (flat, tt)))

module _ (r a c : Pair) (flat : dot2 r a ≡ pos 0) (up : pos 1 ≤ℤ dot2 r c) (once_a : (k l : ℤ) → times2 k a ≡ times2 l a → k ≡ l) where
  none : (x : ℤ) → dot2 r c *ℤ x *ℤ a.x ≡ pos 0 → dot2 r c *ℤ x *ℤ a.y ≡ pos 0 → x ≡ pos 0
  none x p q =
      let e : dot2 r c *ℤ x ≡ pos 0 = once_a (dot2 r c *ℤ x) (pos 0) (pair_path (p ∙ sym (zero_mul a.x)) (q ∙ sym (zero_mul a.y))) in
      mul_left_cancel_pos (dot2 r c) x (pos 0) up (e ∙ sym (mul_zero (dot2 r c)))

  row_none : (u v : ℤ) → u *ℤ a.x +ℤ v *ℤ a.y ≡ pos 0 → u *ℤ c.x +ℤ v *ℤ c.y ≡ pos 0 → (u ≡ pos 0) × (v ≡ pos 0)
  row_none u v at_a at_c = (
    none u (row_entry u v r.x r.y a.x a.y c.x c.y at_a at_c flat) (row_entry' u v r.x r.y a.x a.y c.x c.y at_a at_c flat),
    none v
        (ap (λ d. d *ℤ v *ℤ a.x) turned ∙ row_entry' v u r.y r.x a.y a.x c.y c.x (swap u v a.x a.y ∙ at_a) (swap u v c.x c.y ∙ at_c) (swap r.x r.y a.x a.y ∙ flat))
        (ap (λ d. d *ℤ v *ℤ a.y) turned ∙ row_entry v u r.y r.x a.y a.x c.y c.x (swap u v a.x a.y ∙ at_a) (swap u v c.x c.y ∙ at_c) (swap r.x r.y a.x a.y ∙ flat)),
  )
    where
      swap : (p q x y : ℤ) → q *ℤ y +ℤ p *ℤ x ≡ p *ℤ x +ℤ q *ℤ y
      swap p q x y = omega (arith, ints)

      turned : dot2 r c ≡ r.y *ℤ c.y +ℤ r.x *ℤ c.x
      turned = sym (swap r.x r.y c.x c.y)

  pub only_unit : (w : Pair) (v : Pair) → image2 (record { first = w; second = v }) a ≡ times2 (pos 1) a
      → image2 (record { first = w; second = v }) c ≡ times2 (pos 1) c → (w ≡ unit2.first) × (v ≡ unit2.second)
  only_unit w v at_a at_c =
      let (p, q) = row_none (w.x -ℤ pos 1) w.y (first w.x w.y a.x a.y (λ i. (at_a i).x)) (first w.x w.y c.x c.y (λ i. (at_c i).x)) in
      let (s, t) = row_none v.x (v.y -ℤ pos 1) (second v.x v.y a.x a.y (λ i. (at_a i).y)) (second v.x v.y c.x c.y (λ i. (at_c i).y)) in
      (pair_path (less_one w.x p) q, pair_path s (less_one v.y t))
    where
      first : (x y p q : ℤ) → x *ℤ p +ℤ y *ℤ q ≡ pos 1 *ℤ p → (x -ℤ pos 1) *ℤ p +ℤ y *ℤ q ≡ pos 0
      first x y p q e =
          linear (x ∷ y ∷ p ∷ q ∷ []) ((var 0 ⊝ num (pos 1)) ⊗ var 2 ⊕ var 1 ⊗ var 3) (num (pos 0))
          (given (num (pos 1)) (var 0 ⊗ var 2 ⊕ var 1 ⊗ var 3) (num (pos 1) ⊗ var 2) ∷ []) tt (e, tt)

      second : (x y p q : ℤ) → x *ℤ p +ℤ y *ℤ q ≡ pos 1 *ℤ q → x *ℤ p +ℤ (y -ℤ pos 1) *ℤ q ≡ pos 0
      second x y p q e =
          linear (x ∷ y ∷ p ∷ q ∷ []) (var 0 ⊗ var 2 ⊕ (var 1 ⊝ num (pos 1)) ⊗ var 3) (num (pos 0))
          (given (num (pos 1)) (var 0 ⊗ var 2 ⊕ var 1 ⊗ var 3) (num (pos 1) ⊗ var 3) ∷ []) tt (e, tt)

      less_one : (x : ℤ) → x -ℤ pos 1 ≡ pos 0 → x ≡ pos 1
      less_one x e = omega (arith, ints)

-- ---- sameness modulo whole edges

edges_sym : (m n : FriezeOperation) → ByEdges m n → ByEdges n m
edges_sym m n h = record { along = sym h.along; across = sym h.across; times = negsuc 0 *ℤ h.times; translation = turned m.translation n.translation h.times h.translation }
  where
    turned : (s t k : ℤ) → s ≡ t +ℤ k *ℤ edge → t ≡ s +ℤ negsuc 0 *ℤ k *ℤ edge
    turned s t k e = omega (arith, ints)

-- numbers of half parts that are one as parts of the cell edge
halves_once : (s t : ℤ) → s *ℤ edge ≡ t *ℤ edge → s ≡ t
halves_once s t e = omega (arith, ints)

-- ---- the list of a set

module _ (r a : Pair) (c o : PlanePoint) (flat : dot2 r a ≡ pos 0) (up : pos 1 ≤ℤ dot2 r c.at) (above : pos 1 ≤ℤ o.over)
    (once_a : (k l : ℤ) → times2 k a ≡ times2 l a → k ≡ l) (S : PlaneMotion → Type 0) (group : IsLineGroup a S) where
  once_c : (k l : ℤ) → times2 k c.at ≡ times2 l c.at → k ≡ l
  once_c k l e = mul_left_cancel_pos (dot2 r c.at) k l up (sym (dotted k) ∙ ap (dot2 r) e ∙ dotted l)
    where
      dotted : (n : ℤ) → dot2 r (times2 n c.at) ≡ dot2 r c.at *ℤ n
      dotted n =
          ring (r.x ∷ r.y ∷ c.at.x ∷ c.at.y ∷ n ∷ []) (var 0 ⊗ (var 4 ⊗ var 2) ⊕ var 1 ⊗ (var 4 ⊗ var 3)) ((var 0 ⊗ var 2 ⊕ var 1 ⊗ var 3) ⊗ var 4) tt

  abbrev Does : PlaneMotion → FriezeOperation → Type 0
  Does m op = Acts a c o m op

  -- what a motion does, it does only once
  does_once : (m : PlaneMotion) (op like : FriezeOperation) → Does m op → Does m like → op ≡ like
  does_once m op like p q =
      frieze_path (along_once a c o once_a once_c above m (rational_line op) (rational_line like) p q)
      (across_once a c o once_a once_c above m (rational_line op) (rational_line like) p q)
      (halves_once op.translation like.translation (shift_once a c o once_a once_c above m (rational_line op) (rational_line like) p q))

  -- what does the same but for whole edges
  does_differs : (m n : PlaneMotion) (op like : FriezeOperation) → DiffersAlong a m n → Does m op → Does n like → ByEdges op like
  does_differs m n op like differs p q =
      let moved = acts_differs a c o m n (rational_line op) differs p in
      let same = shift_once a c o once_a once_c above n (less a c o (rational_line op) differs.times) (rational_line like) moved q in
      record {
        along = along_once a c o once_a once_c above n (less a c o (rational_line op) differs.times) (rational_line like) moved q;
        across = across_once a c o once_a once_c above n (less a c o (rational_line op) differs.times) (rational_line like) moved q;
        times = differs.times;
        translation = apart op.translation like.translation differs.times same;
      }
    where
      apart : (s t k : ℤ) → (s -ℤ k *ℤ edge) *ℤ edge ≡ t *ℤ edge → s ≡ t +ℤ k *ℤ edge
      apart s t k e = omega (arith, ints)

  -- ---- a motion that turns nothing

  plain_edges : (m : PlaneMotion) (op : FriezeOperation) → S m → Does m op → op.along ≡ Plus → op.across ≡ Plus
      → (k : ℤ) × (op.translation ≡ k *ℤ edge)
  plain_edges m op in_set does along across = by (group.plain m in_set unit)
    where
      at_a : image2 m.matrix a ≡ times2 (pos 1) a
      at_a = subst (λ f. image2 m.matrix a ≡ times2 (sign_value f) a) along does.along

      at_c : image2 m.matrix c.at ≡ times2 (pos 1) c.at
      at_c = subst (λ f. image2 m.matrix c.at ≡ times2 (sign_value f) c.at) across does.across

      unit : m.matrix ≡ unit2
      unit = let (p, q) = only_unit r a c.at flat up once_a m.matrix.first m.matrix.second at_a at_c in λ i. record { first = p i; second = q i }

      nothing : (x : ℤ) → x -ℤ pos 0 ≡ x
      nothing x = omega (arith, ints)

      by : (k : ℤ) × (m.translation ≡ times2 k a) → (k : ℤ) × (op.translation ≡ k *ℤ edge)
      by (k, is) =
          let differs : DiffersAlong a m plane_identity =
          record { matrix = unit; times = k; translation = ap (λ v. minus2 v plane_identity.translation) is ∙ pair_path (nothing (k *ℤ a.x)) (nothing (k *ℤ a.y)) } in
          let same = does_differs m plane_identity op frieze_identity differs does (acts_identity a c o) in
          (same.times, same.translation ∙ zero_add (same.times *ℤ edge))

  -- ---- a list of the set and what its motions do

  module _ (ms : List PlaneMotion) (list : List LineOp)
      (listed : (k : ℕ) → k < length ms → S (plane_at ms k)) (once : (m : PlaneMotion) → S m → ExactlyOne ms (DiffersAlong a m))
      (count : length list ≡ length ms) (each : (k : ℕ) (d : LineOp) → k < length ms → Does (plane_at ms k) (line_of (slice_index_or list k d))) where
    motion_of_op : (op : LineOp) → Contains list op → (m : PlaneMotion) × S m × Does m (line_of op)
    motion_of_op op (k, within, is) =
        let below : k < length ms = subst (λ n. k < n) count within in
        (plane_at ms k, listed k below, subst (λ x. Does (plane_at ms k) (line_of x)) is (each k op below))

    some_op : LineOp
    some_op = record { f = Plus; e = Plus; t = pos 0 }

    listed_op : (m : PlaneMotion) (op : FriezeOperation) → S m → Does m op → (like : LineOp) × Contains list like × ByEdges op (line_of like)
    listed_op m op in_set does =
        let found = once m in_set in
        let within : found.place < length list = subst (λ n. found.place < n) (sym count) found.within in
        let like = slice_index_or list found.place some_op in (
          like,
          (found.place, within, get_or_default list found.place like some_op within),
          does_differs m (plane_at ms found.place) op (line_of like) found.has does (each found.place some_op found.within),
        )

    abbrev ops : List FriezeOperation
    ops = map line_of list

    is_listed : (m : PlaneMotion) (op : FriezeOperation) → S m → Does m op → IsListed line_kind ops op
    is_listed m op in_set does =
        let (like, h, same) = listed_op m op in_set does in
        record { of = line_of like; listed = contains_line list like h; same = same_from op (line_of like) same }

    motion_of_meaning : (op : FriezeOperation) → Contains ops op → (m : PlaneMotion) × S m × Does m op
    motion_of_meaning op h =
        let (like, h', is) = motion_of_line list op h in
        let (m, in_set, does) = motion_of_op like h' in
        (m, in_set, subst (Does m) is does)

    -- of two motions that undo one another, what one does undoes what is the same as what the other does
    module _ (m n : PlaneMotion) (op back like : FriezeOperation) (does_m : Does m op) (does_n : Does n back) (same : ByEdges back like) where
      after_same : plane_followed_by m n ≡ plane_identity → IsSame line_kind (frieze_followed_by op like) frieze_identity
      after_same is =
          let one : frieze_followed_by op back ≡ frieze_identity =
          does_once plane_identity (frieze_followed_by op back) frieze_identity
          (subst (λ k. Does k (frieze_followed_by op back)) is (acts_product a c o m n op back does_m does_n)) (acts_identity a c o) in
          same_from (frieze_followed_by op like) frieze_identity (record {
            along = ap (λ f. sign_product f op.along) (sym same.along) ∙ ap (λ (x : FriezeOperation). x.along) one;
            across = ap (λ f. sign_product f op.across) (sym same.across) ∙ ap (λ (x : FriezeOperation). x.across) one;
            times = negsuc 0 *ℤ same.times;
            translation = ap (λ f. sign_value f *ℤ op.translation +ℤ like.translation) (sym same.along)
                ∙ summed (sign_value back.along *ℤ op.translation) back.translation like.translation same.times same.translation (ap (λ (x : FriezeOperation). x.translation) one);
          })
        where
          summed : (x s t k : ℤ) → s ≡ t +ℤ k *ℤ edge → x +ℤ s ≡ pos 0 → x +ℤ t ≡ pos 0 +ℤ negsuc 0 *ℤ k *ℤ edge
          summed x s t k e f = omega (arith, ints)

      before_same : plane_followed_by n m ≡ plane_identity → IsSame line_kind (frieze_followed_by like op) frieze_identity
      before_same is =
          let one : frieze_followed_by back op ≡ frieze_identity =
          does_once plane_identity (frieze_followed_by back op) frieze_identity
          (subst (λ k. Does k (frieze_followed_by back op)) is (acts_product a c o n m back op does_n does_m)) (acts_identity a c o) in
          same_from (frieze_followed_by like op) frieze_identity (record {
            along = ap (sign_product op.along) (sym same.along) ∙ ap (λ (x : FriezeOperation). x.along) one;
            across = ap (sign_product op.across) (sym same.across) ∙ ap (λ (x : FriezeOperation). x.across) one;
            times = negsuc 0 *ℤ (sign_value op.along *ℤ same.times);
            translation = summed (sign_value op.along) op.translation back.translation like.translation same.times same.translation (ap (λ (x : FriezeOperation). x.translation) one);
          })
        where
          summed : (f x s t k : ℤ) → s ≡ t +ℤ k *ℤ edge → f *ℤ s +ℤ x ≡ pos 0 → f *ℤ t +ℤ x ≡ pos 0 +ℤ negsuc 0 *ℤ (f *ℤ k) *ℤ edge
          summed f x s t k e h =
              linear (f ∷ x ∷ s ∷ t ∷ k ∷ []) (var 0 ⊗ var 3 ⊕ var 1) (num (pos 0) ⊕ num (negsuc 0) ⊗ (var 0 ⊗ var 4) ⊗ num edge)
              (given (num (pos 1)) (var 0 ⊗ var 2 ⊕ var 1) (num (pos 0)) ∷ given (neg (var 0)) (var 2) (var 3 ⊕ var 4 ⊗ num edge) ∷ []) tt (h, (e, tt))

    has_inverse : (op : FriezeOperation) → Contains ops op → groups.HasInverse line_kind ops op
    has_inverse op h =
        let (m, in_set, does) = motion_of_meaning op h in
        let (n, in_set', after, before) = group.inverses m in_set in
        let found = once n in_set' in
        let like = slice_index_or list found.place some_op in
        let within : found.place < length list = subst (λ l. found.place < l) (sym count) found.within in
        let does_like = each found.place some_op found.within in
        let differs = differs_sym n (plane_at ms found.place) found.has in
        let back : FriezeOperation = record { along = (line_of like).along; across = (line_of like).across; translation = (line_of like).translation -ℤ differs.times *ℤ edge } in
        let does_n : Does n back = acts_differs a c o (plane_at ms found.place) n (rational_line (line_of like)) differs does_like in
        let same : ByEdges back (line_of like) = does_differs n (plane_at ms found.place) back (line_of like) found.has does_n does_like in
        record {
          inverse = line_of like;
          listed = contains_line list like (found.place, within, get_or_default list found.place like some_op within);
          undoes = record {
            after = after_same m n op back (line_of like) does does_n same after;
            before = before_same m n op back (line_of like) does does_n same before;
          };
        }
      where
        differs_sym : (m n : PlaneMotion) → DiffersAlong a m n → DiffersAlong a n m
        differs_sym m n d = record {
          matrix = sym d.matrix;
          times = negsuc 0 *ℤ d.times;
          translation = pair_path (entry m.translation.x n.translation.x d.times a.x (λ i. (d.translation i).x)) (entry m.translation.y n.translation.y d.times a.y (λ i. (d.translation i).y));
        }
          where
            entry : (s t k x : ℤ) → s -ℤ t ≡ k *ℤ x → t -ℤ s ≡ negsuc 0 *ℤ k *ℤ x
            entry s t k x e = linear (s ∷ t ∷ k ∷ x ∷ []) (var 1 ⊝ var 0) (num (negsuc 0) ⊗ var 2 ⊗ var 3) (given (num (negsuc 0)) (var 0 ⊝ var 1) (var 2 ⊗ var 3) ∷ []) tt (e, tt)

    pub is_section : IsSection list
    is_section = record {
      group = record {
        identity = is_listed plane_identity frieze_identity group.one (acts_identity a c o);
        keeps = λ op h. keeps op;
        closed = λ op like h h'.
            let (m, in_set, does) = motion_of_meaning op h in
            let (n, in_set', does') = motion_of_meaning like h' in
            is_listed (plane_followed_by m n) (frieze_followed_by op like) (group.products m n in_set in_set') (acts_product a c o m n op like does does');
        inverses = has_inverse;
      };
      plain = λ k d within along across.
          let below : k < length ms = subst (λ n. k < n) count within in
          let op = slice_index_or list k d in
          let (times, is) = plain_edges (plane_at ms k) (line_of op) (listed k below) (each k d below) along across in
          record { times = times; is = frieze_path along across is };
    }

    -- ---- what the list stands for

    pub section_is : (op : RationalLine) → IsRationalLine op → IsListedLine list op ↔ ActsFrom S a c o op
    section_is op rational = (to, from)
      where
        to : IsListedLine list op → ActsFrom S a c o op
        to h =
            let (m, in_set, does) = motion_of_op h.motion h.listed in
            let (k, is) = h.translation in
            let n : PlaneMotion = record { matrix = m.matrix; translation = record { x = m.translation.x +ℤ k *ℤ a.x; y = m.translation.y +ℤ k *ℤ a.y } } in
            let differs : DiffersAlong a m n =
            record { matrix = refl; times = negsuc 0 *ℤ k; translation = pair_path (further m.translation.x k a.x) (further m.translation.y k a.y) } in
            record {
              motion = n;
              in_set = group.shifts m n differs in_set;
              acts = acts_same a c o n (less a c o (rational_line (line_of h.motion)) differs.times) op (omega (arith, ints)) (sym h.along) (sym h.across)
                  (whole op.translation.num op.translation.den h.motion.t k is) (acts_differs a c o m n (rational_line (line_of h.motion)) differs does);
            }
          where
            further : (s k x : ℤ) → s -ℤ (s +ℤ k *ℤ x) ≡ negsuc 0 *ℤ k *ℤ x
            further s k x = ring (s ∷ k ∷ x ∷ []) (var 0 ⊝ (var 0 ⊕ var 1 ⊗ var 2)) (num (negsuc 0) ⊗ var 1 ⊗ var 2) tt

            whole : (p q t k : ℤ) → p *ℤ edge -ℤ t *ℤ q ≡ k *ℤ (q *ℤ edge) → (t -ℤ negsuc 0 *ℤ k *ℤ edge) *ℤ q ≡ p *ℤ edge
            whole p q t k e =
                linear (p ∷ q ∷ t ∷ k ∷ []) ((var 2 ⊝ num (negsuc 0) ⊗ var 3 ⊗ num edge) ⊗ var 1) (var 0 ⊗ num edge)
                (given (num (negsuc 0)) (var 0 ⊗ num edge ⊝ var 2 ⊗ var 1) (var 3 ⊗ (var 1 ⊗ num edge)) ∷ []) tt (e, tt)

        from : ActsFrom S a c o op → IsListedLine list op
        from seen =
            let found = once seen.motion seen.in_set in
            let within : found.place < length list = subst (λ l. found.place < l) (sym count) found.within in
            let like = slice_index_or list found.place some_op in
            let n = plane_at ms found.place in
            let lesser = less a c o op found.has.times in
            let moved = acts_differs a c o seen.motion n op found.has seen.acts in
            let does = each found.place some_op found.within in
            record {
              motion = like;
              listed = (found.place, within, get_or_default list found.place like some_op within);
              along = along_once a c o once_a once_c above n lesser (rational_line (line_of like)) moved does;
              across = across_once a c o once_a once_c above n lesser (rational_line (line_of like)) moved does;
              translation = (
                found.has.times,
                whole op.translation.num op.translation.den like.t found.has.times
                    (shift_once a c o once_a once_c above n lesser (rational_line (line_of like)) moved does),
              );
            }
          where
            whole : (p q t k : ℤ) → (p -ℤ k *ℤ q) *ℤ edge ≡ t *ℤ q → p *ℤ edge -ℤ t *ℤ q ≡ k *ℤ (q *ℤ edge)
            whole p q t k e =
                linear (p ∷ q ∷ t ∷ k ∷ []) (var 0 ⊗ num edge ⊝ var 2 ⊗ var 1) (var 3 ⊗ (var 1 ⊗ num edge))
                (given (num (pos 1)) ((var 0 ⊝ var 3 ⊗ var 1) ⊗ num edge) (var 2 ⊗ var 1) ∷ []) tt (e, tt)
