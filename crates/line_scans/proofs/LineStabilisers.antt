-- The members that map a line to itself are a group, as are those that map every line to itself.
use Rattle.std.proofs.Common.{◌≡◌, ◌↔◌, ◌⊎◌, inl, inr, ℤ, pos, negsuc, ◌+ℤ◌, ◌*ℤ◌, ◌≤ℤ◌, [], ◌∷◌, refl, sym, ap, subst, ◌∙◌, arith}
use Rattle.std.proofs.lemmas.Int.{ints}
use Rattle.fractions.specs.declared.part.TheConstants.{UNIT}
use Rattle.integers.proofs.Order.{mul_left_cancel_pos}
use Rattle.integers.proofs.Ring.{mul-eq-one, mul_zero}
use Rattle.integers.proofs.Solver.{Expr.{var, num, neg, ◌⊕◌, ◌⊗◌}, linear, given}
use Rattle.symmetry.specs.Vectors.{Vector, dot, image, minus, multiple, plus, row_times}
use Rattle.symmetry.specs.Motions.{Motion, followed_by, identity, translation}
use Rattle.symmetry.specs.Planes.{Height, IsCoprime, IsHeight, KeepsRow, TurnsRow}
use Rattle.symmetry.specs.Groups.{Listing, IsGroup, IsInLattice, IsMember}
use Rattle.symmetry.specs.Frames.{DiffersInPlane}
use Rattle.symmetry.proofs.Coprime.{not_opposite}
use Rattle.symmetry.proofs.GroupLaws.{member_keeps, member_translation}
use Rattle.symmetry.proofs.MatrixLaws.{row_times-dot, row_times-multiple, row_times-product, row_times-unit}
use Rattle.symmetry.proofs.PlaneLattice.{differs_stabiliser}
use Rattle.symmetry.proofs.PlaneRows.{stabiliser_by_row}
use Rattle.symmetry.proofs.Signs.{row_times-followed_by, sign_twice}
use Rattle.symmetry.proofs.VectorLaws.{dot-origin, multiple-dot, multiple-one, vector_path}
use Rattle.symmetry.proofs.PlaneOrbits.{dot-followed_by}
use Rattle.motions.specs.PlaneMatrices.{Pair, dot2, image2, minus2, unit2, in_space}
use Rattle.motions.specs.Signs.{sign_product, sign_value}
use Rattle.motions.specs.declared.motion.Sign.{Sign}
use Rattle.motions.specs.declared.motion.Sign.TheVariants.{Plus, Minus}
use Rattle.motions.specs.Laws.PlaneMatrixLaws.{image2-product, image2-unit}
use Rattle.motions.specs.Laws.SignLaws.{sign_is_sign}
use Rattle.plane_motions.specs.PlaneMotions.{PlaneMotion, plane_block, plane_followed_by, plane_identity}
use Rattle.plane_motions.proofs.PlaneBlocks.{plane_block_product}
use Rattle.line_frames.specs.Lines.{IsAlong, IsInPlaneLattice, first_two, times2}
use Rattle.line_scans.specs.Lines.{FixesEveryLine, InLineStabiliser, IsPlaneMember}
use Rattle.line_scans.specs.LineLists.{DiffersAlong}
use Rattle.line_scans.proofs.LineActions.{image_times, sign_of_product, times_one, times_times}
use Rattle.line_scans.proofs.LineGroups.{IsLineGroup}
use Rattle.line_scans.proofs.PlaneBridges.{IsFlatModulo, block_is, block_member, dot_in_space, flat_minus, pair_member, pair_motion, stabiliser_by_line}

-- (hkl) W = e (hkl), and e s + (hkl).w = s
pub record Follows (r : Vector) (s : Height) (m : Motion) : Type 0 where
  pub sign : Sign
  pub row : row_times r m.matrix ≡ multiple (sign_value sign) r
  pub translation : sign_value sign *ℤ s.num *ℤ UNIT +ℤ s.den *ℤ dot r m.translation ≡ s.num *ℤ UNIT

kept : (n d w : ℤ) → w ≡ pos 0 → pos 1 *ℤ n *ℤ UNIT +ℤ d *ℤ w ≡ n *ℤ UNIT
kept n d w e = ap (λ x. pos 1 *ℤ n *ℤ UNIT +ℤ d *ℤ x) e ∙ none n d
  where
    none : (n d : ℤ) → pos 1 *ℤ n *ℤ UNIT +ℤ d *ℤ pos 0 ≡ n *ℤ UNIT
    none n d = omega (arith, ints)

kept_back : (n d w : ℤ) → pos 1 ≤ℤ d → pos 1 *ℤ n *ℤ UNIT +ℤ d *ℤ w ≡ n *ℤ UNIT → w ≡ pos 0
kept_back n d w high e =
    mul_left_cancel_pos d w (pos 0) high
    (linear (n ∷ d ∷ w ∷ []) (var 1 ⊗ var 2) (var 1 ⊗ num (pos 0)) (given (num (pos 1)) (num (pos 1) ⊗ var 0 ⊗ num UNIT ⊕ var 1 ⊗ var 2) (var 0 ⊗ num UNIT) ∷ []) tt (e, tt))

turned : (n d w : ℤ) → pos 2 *ℤ n *ℤ UNIT ≡ d *ℤ w → negsuc 0 *ℤ n *ℤ UNIT +ℤ d *ℤ w ≡ n *ℤ UNIT
turned n d w e =
    linear (n ∷ d ∷ w ∷ []) (num (negsuc 0) ⊗ var 0 ⊗ num UNIT ⊕ var 1 ⊗ var 2) (var 0 ⊗ num UNIT)
    (given (num (negsuc 0)) (num (pos 2) ⊗ var 0 ⊗ num UNIT) (var 1 ⊗ var 2) ∷ []) tt (e, tt)

turned_back : (n d w : ℤ) → negsuc 0 *ℤ n *ℤ UNIT +ℤ d *ℤ w ≡ n *ℤ UNIT → pos 2 *ℤ n *ℤ UNIT ≡ d *ℤ w
turned_back n d w e =
    linear (n ∷ d ∷ w ∷ []) (num (pos 2) ⊗ var 0 ⊗ num UNIT) (var 1 ⊗ var 2)
    (given (num (negsuc 0)) (num (negsuc 0) ⊗ var 0 ⊗ num UNIT ⊕ var 1 ⊗ var 2) (var 0 ⊗ num UNIT) ∷ []) tt (e, tt)

from_row : (r : Vector) (s : Height) (m : Motion) → KeepsRow r m ⊎ TurnsRow r s m → Follows r s m
from_row r s m (inl k) = record { sign = Plus; row = k.0 ∙ sym (multiple-one r); translation = kept s.num s.den (dot r m.translation) k.1 }
from_row r s m (inr t) = record { sign = Minus; row = t.0; translation = turned s.num s.den (dot r m.translation) t.1 }

to_row : (r : Vector) (s : Height) (m : Motion) → IsHeight s → (e : Sign) → row_times r m.matrix ≡ multiple (sign_value e) r
    → sign_value e *ℤ s.num *ℤ UNIT +ℤ s.den *ℤ dot r m.translation ≡ s.num *ℤ UNIT → KeepsRow r m ⊎ TurnsRow r s m
to_row r s m high Plus row shift = inl (row ∙ multiple-one r, kept_back s.num s.den (dot r m.translation) high shift)
to_row r s m high Minus row shift = inr (row, turned_back s.num s.den (dot r m.translation) shift)

product_shift : (e f n d v w : ℤ) → f *ℤ n *ℤ UNIT +ℤ d *ℤ v ≡ n *ℤ UNIT → e *ℤ n *ℤ UNIT +ℤ d *ℤ w ≡ n *ℤ UNIT
    → e *ℤ f *ℤ n *ℤ UNIT +ℤ d *ℤ (e *ℤ v +ℤ w) ≡ n *ℤ UNIT
product_shift e f n d v w first next =
    linear (e ∷ f ∷ n ∷ d ∷ v ∷ w ∷ []) (var 0 ⊗ var 1 ⊗ var 2 ⊗ num UNIT ⊕ var 3 ⊗ (var 0 ⊗ var 4 ⊕ var 5)) (var 2 ⊗ num UNIT)
    (given (var 0) (var 1 ⊗ var 2 ⊗ num UNIT ⊕ var 3 ⊗ var 4) (var 2 ⊗ num UNIT)
    ∷ given (num (pos 1)) (var 0 ⊗ var 2 ⊗ num UNIT ⊕ var 3 ⊗ var 5) (var 2 ⊗ num UNIT) ∷ []) tt (first, (next, tt))

inverse_shift : (e n d v w : ℤ) → e *ℤ e ≡ pos 1 → e *ℤ n *ℤ UNIT +ℤ d *ℤ v ≡ n *ℤ UNIT → e *ℤ v +ℤ w ≡ pos 0
    → e *ℤ n *ℤ UNIT +ℤ d *ℤ w ≡ n *ℤ UNIT
inverse_shift e n d v w square first back =
    linear (e ∷ n ∷ d ∷ v ∷ w ∷ []) (var 0 ⊗ var 1 ⊗ num UNIT ⊕ var 2 ⊗ var 4) (var 1 ⊗ num UNIT)
    (given (var 1 ⊗ num UNIT) (var 0 ⊗ var 0) (num (pos 1)) ∷ given (neg (var 0)) (var 0 ⊗ var 1 ⊗ num UNIT ⊕ var 2 ⊗ var 3) (var 1 ⊗ num UNIT)
    ∷ given (var 2) (var 0 ⊗ var 3 ⊕ var 4) (num (pos 0)) ∷ []) tt (square, (first, (back, tt)))

sign_squared : (e : Sign) → sign_value e *ℤ sign_value e ≡ pos 1
sign_squared Plus = refl
sign_squared Minus = refl

follows_product : (r : Vector) (s : Height) (m n : Motion) → Follows r s m → Follows r s n → Follows r s (followed_by m n)
follows_product r s m n p q = record {
  sign = sign_product q.sign p.sign;
  row = row_times-followed_by r m n (sign_value p.sign) (sign_value q.sign) p.row q.row ∙ ap (λ e. multiple e r) signs;
  translation = (λ i. sym signs i *ℤ s.num *ℤ UNIT +ℤ s.den *ℤ dot-followed_by r m n (sign_value q.sign) q.row i)
      ∙ product_shift (sign_value q.sign) (sign_value p.sign) s.num s.den (dot r m.translation) (dot r n.translation) p.translation q.translation;
}
  where
    signs : sign_value q.sign *ℤ sign_value p.sign ≡ sign_value (sign_product q.sign p.sign)
    signs = sign_of_product q.sign p.sign

-- what undoes a motion turns the row by the same sign
pub inverse_row : (r : Vector) (m n : Motion) (e : Sign) → followed_by n m ≡ identity → row_times r m.matrix ≡ multiple (sign_value e) r
    → row_times r n.matrix ≡ multiple (sign_value e) r
inverse_row r m n e back row =
    sym (sign_twice (sign_value e) (sign_is_sign e) (row_times r n.matrix)) ∙ ap (multiple (sign_value e))
    (sym (row_times-multiple (sign_value e) r n.matrix) ∙ ap (λ t. row_times t n.matrix) (sym row) ∙ row_times-product r m.matrix n.matrix
    ∙ ap (λ (k : Motion). row_times r k.matrix) back ∙ row_times-unit r)

follows_inverse : (r : Vector) (s : Height) (m n : Motion) → followed_by m n ≡ identity → followed_by n m ≡ identity → Follows r s m → Follows r s n
follows_inverse r s m n after before p =
    let e = sign_value p.sign in
    let row = inverse_row r m n p.sign before p.row in
    let none : e *ℤ dot r m.translation +ℤ dot r n.translation ≡ pos 0 = sym (dot-followed_by r m n e row) ∙ ap (λ (k : Motion). dot r k.translation) after ∙ dot-origin r in
    record {
      sign = p.sign;
      row = row;
      translation = inverse_shift e s.num s.den (dot r m.translation) (dot r n.translation) (sign_squared p.sign) p.translation none;
    }

-- ---- in a plane group

module _ (g : Listing) (r a : Pair) (group : IsGroup g) (coprime : IsCoprime (in_space r)) (flat : IsFlatModulo g) (along : IsAlong g r a) where
  abbrev row : Vector
  row = in_space r

  pub stabiliser_follows : (s : Height) (m : PlaneMotion) → IsHeight s → InLineStabiliser g r s m ↔ (IsPlaneMember g m × Follows row s (plane_block m))
  stabiliser_follows s m high =
      let by_line = stabiliser_by_line g flat r s m in
      let by_row = stabiliser_by_row g row s (plane_block m) group coprime high in
      let member = block_member g flat m in (
        λ is. let rows = by_row.0 (by_line.1 is) in (is.0, from_row row s (plane_block m) rows.1),
        λ is. by_line.0 (by_row.1 (member.0 is.0, to_row row s (plane_block m) high is.1.sign is.1.row is.1.translation)),
      )

  pub identity_in : (s : Height) → IsHeight s → InLineStabiliser g r s plane_identity
  identity_in s high =
      (stabiliser_follows s plane_identity high).1
      ((block_member g flat plane_identity).1 group.has_identity, from_row row s identity (inl (row_times-unit row, dot-origin row)))

  pub member_product : (m n : PlaneMotion) → IsPlaneMember g m → IsPlaneMember g n → IsPlaneMember g (plane_followed_by m n)
  member_product m n p q =
      (block_member g flat (plane_followed_by m n)).1
      (subst (IsMember g) (plane_block_product m n)
      (group.products (plane_block m) (plane_block n) ((block_member g flat m).0 p) ((block_member g flat n).0 q)))

  pub product_in : (s : Height) → IsHeight s → (m n : PlaneMotion) → InLineStabiliser g r s m → InLineStabiliser g r s n
      → InLineStabiliser g r s (plane_followed_by m n)
  product_in s high m n p q =
      (stabiliser_follows s (plane_followed_by m n) high).1 (
        member_product m n p.0 q.0,
        subst (Follows row s) (plane_block_product m n)
            (follows_product row s (plane_block m) (plane_block n) ((stabiliser_follows s m high).0 p).1 ((stabiliser_follows s n high).0 q).1),
      )

  -- the inverse of a member of the plane is one
  abbrev Inverse : PlaneMotion → Type 0
  Inverse m = (n : PlaneMotion) × IsPlaneMember g n × (plane_followed_by m n ≡ plane_identity) × (plane_followed_by n m ≡ plane_identity)

  pub inverse_of : (m : PlaneMotion) → IsPlaneMember g m → Inverse m
  unfolding plus dot
  inverse_of m member =
      let (n, member', after, before) = group.inverses (plane_block m) ((block_member g flat m).0 member) in
      let at = flat.matrices n member' in
      let sum : n.matrix.third.x *ℤ m.translation.x +ℤ n.matrix.third.y *ℤ m.translation.y +ℤ n.matrix.third.z *ℤ pos 0 +ℤ n.translation.z ≡ pos 0 =
      ap (λ (k : Motion). k.translation.z) after in
      let is : plane_block (pair_motion n) ≡ n =
      block_is n at (only n.matrix.third.x n.matrix.third.y n.matrix.third.z m.translation.x m.translation.y n.translation.z at.row_x at.row_y sum) in (
        pair_motion n,
        pair_member g flat n member',
        ap pair_motion (sym (plane_block_product m (pair_motion n)) ∙ ap (followed_by (plane_block m)) is ∙ after),
        ap pair_motion (sym (plane_block_product (pair_motion n) m) ∙ ap (λ k. followed_by k (plane_block m)) is ∙ before),
      )
    where
      only : (p q t x y z : ℤ) → p ≡ pos 0 → q ≡ pos 0 → p *ℤ x +ℤ q *ℤ y +ℤ t *ℤ pos 0 +ℤ z ≡ pos 0 → z ≡ pos 0
      only p q t x y z e f h =
          linear (p ∷ q ∷ t ∷ x ∷ y ∷ z ∷ []) (var 5) (num (pos 0))
          (given (num (pos 1)) (var 0 ⊗ var 3 ⊕ var 1 ⊗ var 4 ⊕ var 2 ⊗ num (pos 0) ⊕ var 5) (num (pos 0)) ∷ given (neg (var 3)) (var 0) (num (pos 0))
          ∷ given (neg (var 4)) (var 1) (num (pos 0)) ∷ []) tt (h, (e, (f, tt)))

  block_undoes : (m n : PlaneMotion) → plane_followed_by m n ≡ plane_identity → followed_by (plane_block m) (plane_block n) ≡ identity
  block_undoes m n is = plane_block_product m n ∙ ap plane_block is

  pub inverse_in : (s : Height) → IsHeight s → (m : PlaneMotion) → InLineStabiliser g r s m → (i : Inverse m) → InLineStabiliser g r s i.0
  inverse_in s high m p (n, member, after, before) =
      (stabiliser_follows s n high).1
      (member, follows_inverse row s (plane_block m) (plane_block n) (block_undoes m n after) (block_undoes n m before) ((stabiliser_follows s m high).0 p).1)

  -- a whole multiple of a is a vector of the planes (h k 0)
  pub differs_in_plane : (m n : PlaneMotion) → DiffersAlong a m n → DiffersInPlane g row (plane_block m) (plane_block n)
  differs_in_plane m n d = record {
    matrix = ap (λ w. (plane_block (record { matrix = w; translation = m.translation })).matrix) d.matrix;
    translation = (
      subst (IsInLattice g) (sym shift) (along.inside d.times),
      ap (dot row) shift ∙ dot_in_space r (in_space (times2 d.times a)) ∙ along.along d.times,
    );
  }
    where
      shift : minus (in_space m.translation) (in_space n.translation) ≡ in_space (times2 d.times a)
      shift = flat_minus m.translation n.translation ∙ ap in_space d.translation

  pub differs_along : (m n : PlaneMotion) → DiffersInPlane g row (plane_block m) (plane_block n) → DiffersAlong a m n
  differs_along m n d =
      let is = flat_minus m.translation n.translation in
      let (k, e) = along.only (minus2 m.translation n.translation) (subst (IsInLattice g) is d.translation.0)
      (sym (dot_in_space r (in_space (minus2 m.translation n.translation))) ∙ ap (dot row) (sym is) ∙ d.translation.1) in
      record {
        matrix = λ i. record { first = first_two (d.matrix i).first; second = first_two (d.matrix i).second };
        times = k;
        translation = e;
      }

  pub differs_in : (s : Height) (m n : PlaneMotion) → DiffersAlong a m n → InLineStabiliser g r s m → InLineStabiliser g r s n
  differs_in s m n d p =
      (stabiliser_by_line g flat r s n).0
      (differs_stabiliser g row s (plane_block m) (plane_block n) (differs_in_plane m n d) ((stabiliser_by_line g flat r s m).1 p))

  -- the translations are multiples of a
  pub plain_in : (s : Height) → IsHeight s → (m : PlaneMotion) → InLineStabiliser g r s m → m.matrix ≡ unit2 → (k : ℤ) × (m.translation ≡ times2 k a)
  plain_in s high m p unit = by follows.1.sign follows.1.row follows.1.translation
    where
      follows : IsPlaneMember g m × Follows row s (plane_block m)
      follows = (stabiliser_follows s m high).0 p

      is : plane_block m ≡ translation (in_space m.translation)
      is = ap (λ w. plane_block (record { matrix = w; translation = m.translation })) unit

      inside : IsInPlaneLattice g m.translation
      inside = member_translation g group (in_space m.translation) (subst (IsMember g) is ((block_member g flat m).0 p.0))

      plain_row : row_times row (plane_block m).matrix ≡ row
      plain_row = ap (λ (k : Motion). row_times row k.matrix) is ∙ row_times-unit row

      by : (e : Sign) → row_times row (plane_block m).matrix ≡ multiple (sign_value e) row
          → sign_value e *ℤ s.num *ℤ UNIT +ℤ s.den *ℤ dot row (in_space m.translation) ≡ s.num *ℤ UNIT → (k : ℤ) × (m.translation ≡ times2 k a)
      by Plus at shift = along.only m.translation inside (sym (dot_in_space r (in_space m.translation)) ∙ kept_back s.num s.den (dot row (in_space m.translation)) high shift)
      by Minus at shift = absurd (not_opposite row coprime (sym plain_row ∙ at))

  pub stabiliser_group : (s : Height) → IsHeight s → IsLineGroup a (InLineStabiliser g r s)
  stabiliser_group s high = record {
    one = identity_in s high;
    products = product_in s high;
    inverses = λ m p. let i = inverse_of m p.0 in (i.0, inverse_in s high m p i, i.2, i.3);
    shifts = differs_in s;
    plain = plain_in s high;
  }

  abbrev bottom : Height
  bottom = record { num = pos 0; den = pos 1 }

  high_bottom : IsHeight bottom
  high_bottom = omega (arith, ints)

  pub all_group : IsLineGroup a (FixesEveryLine g r)
  all_group = record {
    one = ((identity_in bottom high_bottom).0, λ s high. (identity_in s high).1);
    products = λ m n p q. (member_product m n p.0 q.0, λ s high. (product_in s high m n (p.0, p.1 s high) (q.0, q.1 s high)).1);
    inverses = λ m p. let i = inverse_of m p.0 in (i.0, (i.1, λ s high. (inverse_in s high m (p.0, p.1 s high) i).1), i.2, i.3);
    shifts = λ m n d p. ((differs_in bottom m n d (p.0, p.1 bottom high_bottom)).0, λ s high. (differs_in s m n d (p.0, p.1 s high)).1);
    plain = λ m p. plain_in bottom high_bottom m (p.0, p.1 bottom high_bottom);
  }

  -- ---- what a member does along the line

  -- a member that keeps the orientation takes a to a whole multiple of it
  module _ (m : PlaneMotion) (member : IsPlaneMember g m) (e : Sign) (at : row_times row (plane_block m).matrix ≡ multiple (sign_value e) row) where
    image_in_space : (v : Pair) → image (plane_block m).matrix (in_space v) ≡ in_space (image2 m.matrix v)
    unfolding dot
    image_in_space v = vector_path (last m.matrix.first.x m.matrix.first.y v.x v.y) (last m.matrix.second.x m.matrix.second.y v.x v.y) (none v.x v.y)
      where
        last : (p q x y : ℤ) → p *ℤ x +ℤ q *ℤ y +ℤ pos 0 *ℤ pos 0 ≡ p *ℤ x +ℤ q *ℤ y
        last p q x y = omega (arith, ints)

        none : (x y : ℤ) → pos 0 *ℤ x +ℤ pos 0 *ℤ y +ℤ pos 1 *ℤ pos 0 ≡ pos 0
        none x y = omega (arith, ints)

    -- (hk).(W v) = e (hk).v
    pub dot_turned : (v : Pair) → dot2 r (image2 m.matrix v) ≡ sign_value e *ℤ dot2 r v
    dot_turned v =
        sym (dot_in_space r (in_space (image2 m.matrix v))) ∙ ap (dot row) (sym (image_in_space v)) ∙ sym (row_times-dot row (plane_block m).matrix (in_space v))
        ∙ ap (λ t. dot t (in_space v)) at ∙ multiple-dot (sign_value e) row (in_space v) ∙ ap (λ x. sign_value e *ℤ x) (dot_in_space r (in_space v))

    -- L2 is kept
    pub image_in_lattice : (v : Pair) → IsInPlaneLattice g v → IsInPlaneLattice g (image2 m.matrix v)
    image_in_lattice v inside =
        subst (IsInLattice g) (image_in_space v) (member_keeps g group (plane_block m) ((block_member g flat m).0 member) (in_space v) inside)

    a_inside : IsInPlaneLattice g a
    a_inside = subst (IsInPlaneLattice g) (times_one a) (along.inside (pos 1))

    a_level : dot2 r a ≡ pos 0
    a_level = ap (dot2 r) (sym (times_one a)) ∙ along.along (pos 1)

    pub multiple_along : (k : ℤ) × (image2 m.matrix a ≡ times2 k a)
    multiple_along =
        along.only (image2 m.matrix a) (image_in_lattice a a_inside) (dot_turned a ∙ ap (λ x. sign_value e *ℤ x) a_level ∙ mul_zero (sign_value e))

  -- W a = a or W a = -a
  pub turned_along : (once_a : (k l : ℤ) → times2 k a ≡ times2 l a → k ≡ l) (m : PlaneMotion) → IsPlaneMember g m → (e : Sign)
      → row_times row (plane_block m).matrix ≡ multiple (sign_value e) row → (f : Sign) × (image2 m.matrix a ≡ times2 (sign_value f) a)
  turned_along once_a m member e at = signed (mul-eq-one back.0 there.0 both)
    where
      i : Inverse m
      i = inverse_of m member

      there : (k : ℤ) × (image2 m.matrix a ≡ times2 k a)
      there = multiple_along m member e at

      back : (k : ℤ) × (image2 i.0.matrix a ≡ times2 k a)
      back = multiple_along i.0 i.1 e (inverse_row row (plane_block m) (plane_block i.0) e (block_undoes i.0 m i.3) at)

      both : back.0 *ℤ there.0 ≡ pos 1
      both =
          once_a (back.0 *ℤ there.0) (pos 1)
          (sym (times_times back.0 there.0 a) ∙ ap (times2 back.0) (sym there.1) ∙ sym (image_times m.matrix back.0 a) ∙ ap (image2 m.matrix) (sym back.1)
          ∙ sym (image2-product m.matrix i.0.matrix a) ∙ ap (λ (k : PlaneMotion). image2 k.matrix a) i.3 ∙ image2-unit a ∙ sym (times_one a))

      signed : (there.0 ≡ pos 1) ⊎ (there.0 ≡ negsuc 0) → (f : Sign) × (image2 m.matrix a ≡ times2 (sign_value f) a)
      signed (inl one) = (Plus, there.1 ∙ ap (λ k. times2 k a) one)
      signed (inr less) = (Minus, there.1 ∙ ap (λ k. times2 k a) less)
