-- The motions that take every point of one plane into another, told by their rows.
use Rattle.std.proofs.Common.{◌≡◌, ◌↔◌, ℤ, pos, negsuc, ◌+ℤ◌, ◌*ℤ◌, ◌≤ℤ◌, ◌⊎◌, inl, inr, neg_ℤ, sym, ◌∙◌, ap, arith}
use Rattle.std.proofs.lemmas.Int.{ints}
use lib.IntN.{*ℤ_comm}
use Rattle.fractions.specs.declared.part.TheConstants.{UNIT}
use Rattle.integers.proofs.Order.{mul_left_cancel_pos, mul_right_cancel_pos}
use Rattle.integers.proofs.Ring.{mul_one, add_zero, add_right_cancel, mul-eq-one}
use Rattle.integers.proofs.Spread.{spread}
use Rattle.symmetry.specs.Vectors.{Vector, plus, multiple, dot, image, row_times}
use Rattle.symmetry.specs.Motions.{Motion, Point, moved}
use Rattle.symmetry.specs.Planes.{Height, IsHeight, IsCoprime, IsOn, MapsPlane, MovesRow, IsInvertible}
use Rattle.symmetry.proofs.VectorLaws.{row_path, dot-plus, dot-multiple, multiple-dot}
use Rattle.symmetry.proofs.MatrixLaws.{row_times-dot, image-product, image-unit}
use Rattle.symmetry.proofs.Coprime.{unit_column}

-- what the row gives at a moved point
pub dot-moved : (r : Vector) (g : Motion) (p : Point)
    → dot r (moved g p).at ≡ UNIT *ℤ dot (row_times r g.matrix) p.at +ℤ p.over *ℤ dot r g.translation
dot-moved r g p =
    dot-plus r _ _ ∙ (λ i. dot-multiple r UNIT (image g.matrix p.at) i +ℤ dot-multiple r p.over g.translation i)
    ∙ ap (λ n. UNIT *ℤ n +ℤ p.over *ℤ dot r g.translation) (sym (row_times-dot r g.matrix p.at))

-- ---- from points to rows

module _ (r : Vector) (s s' : Height) (g : Motion) (high : IsHeight s) (high' : IsHeight s') (u : Vector) (one : dot r u ≡ pos 1) where
  -- the row (hkl) W
  abbrev turned : Vector
  turned = row_times r g.matrix

  -- a point of the plane
  abbrev base : Point
  base = record { at = multiple s.num u; over = s.den }

  -- and this point moved by a column that the row takes to 0
  abbrev beside : Vector → Point
  beside e = record { at = plus base.at e; over = s.den }

  base_on : IsOn r s base
  base_on = ap (λ n. n *ℤ s.den) (dot-multiple r s.num u ∙ ap (λ n. s.num *ℤ n) one ∙ mul_one s.num)

  beside_on : (e : Vector) → dot r e ≡ pos 0 → IsOn r s (beside e)
  beside_on e z =
      ap (λ n. n *ℤ s.den) (dot-plus r base.at e ∙ ap (λ n. dot r base.at +ℤ n) z ∙ add_zero (dot r base.at)) ∙ base_on

  module _ (maps : MapsPlane r s s' g) where
    -- what the base point's image says
    at_base : (UNIT *ℤ (s.num *ℤ dot turned u) +ℤ s.den *ℤ dot r g.translation) *ℤ s'.den ≡ s'.num *ℤ (UNIT *ℤ s.den)
    at_base =
        ap (λ n. n *ℤ s'.den)
        (ap (λ n. UNIT *ℤ n +ℤ s.den *ℤ dot r g.translation) (sym (dot-multiple turned s.num u)) ∙ sym (dot-moved r g base))
        ∙ maps base high base_on

    -- what the image of a point beside it says
    at_beside : (e : Vector) → dot r e ≡ pos 0
        → (UNIT *ℤ (s.num *ℤ dot turned u +ℤ dot turned e) +ℤ s.den *ℤ dot r g.translation) *ℤ s'.den ≡ s'.num *ℤ (UNIT *ℤ s.den)
    at_beside e z =
        ap (λ n. n *ℤ s'.den)
        (ap (λ n. UNIT *ℤ n +ℤ s.den *ℤ dot r g.translation) (sym (dot-plus turned base.at e ∙ ap (λ n. n +ℤ dot turned e) (dot-multiple turned s.num u)))
        ∙ sym (dot-moved r g (beside e)))
        ∙ maps (beside e) high (beside_on e z)

    -- the turned row takes to 0 what the row takes to 0
    both_zero : (e : Vector) → dot r e ≡ pos 0 → dot turned e ≡ pos 0
    both_zero e z =
        compared UNIT (s.num *ℤ dot turned u) (dot turned e) (s.den *ℤ dot r g.translation) s'.den (omega (arith, ints)) high'
        (at_base ∙ sym (at_beside e z))
      where
        compared : (n a b c q : ℤ) → pos 1 ≤ℤ n → pos 1 ≤ℤ q → (n *ℤ a +ℤ c) *ℤ q ≡ (n *ℤ (a +ℤ b) +ℤ c) *ℤ q → b ≡ pos 0
        compared n a b c q hn hq h =
            let same : a ≡ a +ℤ b = mul_left_cancel_pos n a (a +ℤ b) hn (add_right_cancel c _ _ (mul_right_cancel_pos _ _ q hq h)) in
            omega (arith, ints)

    -- so it is a multiple of the row
    proportional : (v : Vector) → dot turned v ≡ dot r v *ℤ dot turned u
    proportional v =
        let e = plus v (multiple (neg_ℤ (dot r v)) u) in
        let at_e : (t : Vector) → dot t e ≡ dot t v +ℤ neg_ℤ (dot r v) *ℤ dot t u =
        λ t. dot-plus t v _ ∙ ap (λ n. dot t v +ℤ n) (dot-multiple t (neg_ℤ (dot r v)) u) in
        let r_zero : dot r e ≡ pos 0 = at_e r ∙ ap (λ n. dot r v +ℤ neg_ℤ (dot r v) *ℤ n) one ∙ cancelled (dot r v) in
        moved_over (dot turned v) (dot r v) (dot turned u) (sym (at_e turned) ∙ both_zero e r_zero)
      where
        cancelled : (a : ℤ) → a +ℤ neg_ℤ a *ℤ pos 1 ≡ pos 0
        cancelled a = omega (arith, ints)

        moved_over : (a b c : ℤ) → a +ℤ neg_ℤ b *ℤ c ≡ pos 0 → a ≡ b *ℤ c
        moved_over a b c h = omega (arith, ints, simp spread at h)

    moves_row : (e : ℤ) → dot turned u ≡ e → MovesRow r s s' e g
    moves_row e c = (
      row_path turned (multiple e r) (λ v. proportional v ∙ ap (λ n. dot r v *ℤ n) c ∙ *ℤ_comm (dot r v) e ∙ sym (multiple-dot e r v)),
      ap (λ n. (n +ℤ s.den *ℤ dot r g.translation) *ℤ s'.den) (turned_round e s.num UNIT ∙ ap (λ n. UNIT *ℤ (s.num *ℤ n)) (sym c)) ∙ at_base,
    )
      where
        turned_round : (e p n : ℤ) → e *ℤ p *ℤ n ≡ n *ℤ (p *ℤ e)
        turned_round e p n = simp spread

    -- where the matrix has an inverse, the multiple is by 1 or -1
    moves_by_sign : IsInvertible g.matrix → MovesRow r s s' (pos 1) g ⊎ MovesRow r s s' (negsuc 0) g
    moves_by_sign i =
        elim (mul-eq-one (dot r v) (dot turned u) (sym (proportional v) ∙ undone)) [
          | inl e ↦ inl (moves_row (pos 1) e)
          | inr e ↦ inr (moves_row (negsuc 0) e)
        ]
      where
        v : Vector
        v = image i.inverse u

        undone : dot turned v ≡ pos 1
        undone =
            row_times-dot r g.matrix v
            ∙ ap (dot r) (sym (image-product g.matrix i.inverse u) ∙ ap (λ m. image m u) i.right ∙ image-unit u) ∙ one

-- ---- from rows to points

pub maps_from_row : (r : Vector) (s s' : Height) (e : ℤ) (g : Motion) → IsHeight s → MovesRow r s s' e g → MapsPlane r s s' g
maps_from_row r s s' e g high k p h on =
    ap (λ n. n *ℤ s'.den)
    (dot-moved r g p ∙ ap (λ t. UNIT *ℤ dot t p.at +ℤ p.over *ℤ dot r g.translation) k.0
    ∙ ap (λ n. UNIT *ℤ n +ℤ p.over *ℤ dot r g.translation) (multiple-dot e r p.at))
    ∙ by_unit UNIT (dot r p.at) p.over s.den s.num (dot r g.translation) e s'.num s'.den high on k.1
  where
    by_unit : (n a m q p d e p' q' : ℤ) → pos 1 ≤ℤ q → a *ℤ q ≡ p *ℤ m
        → (e *ℤ p *ℤ n +ℤ q *ℤ d) *ℤ q' ≡ p' *ℤ (n *ℤ q) → (n *ℤ (e *ℤ a) +ℤ m *ℤ d) *ℤ q' ≡ p' *ℤ (n *ℤ m)
    by_unit n a m q p d e p' q' hq f f' =
        let k = simp spread at (ap (λ x. n *ℤ e *ℤ q' *ℤ x) f) in
        let l = simp spread at (ap (λ x. m *ℤ x) f') in
        mul_left_cancel_pos q ((n *ℤ (e *ℤ a) +ℤ m *ℤ d) *ℤ q') (p' *ℤ (n *ℤ m)) hq (simp spread (omega (arith, ints, k, l)))

-- ---- the theorem

pub image_by_row : (r : Vector) (s s' : Height) (g : Motion) → IsCoprime r → IsHeight s → IsHeight s' → IsInvertible g.matrix
    → MapsPlane r s s' g ↔ (MovesRow r s s' (pos 1) g ⊎ MovesRow r s s' (negsuc 0) g)
image_by_row r s s' g coprime high high' inverse =
    let (u, one) = unit_column r coprime in (
      λ maps. moves_by_sign r s s' g high high' u one maps inverse,
      λ either. elim either [ inl k ↦ maps_from_row r s s' (pos 1) g high k | inr k ↦ maps_from_row r s s' (negsuc 0) g high k ],
    )
