-- The motions that map a plane to itself, the stabiliser and the special heights, told by rows.
use Rattle.std.proofs.Common.{◌≡◌, ◌↔◌, ℤ, pos, negsuc, ◌+ℤ◌, ◌*ℤ◌, ◌≤ℤ◌, ◌⊎◌, inl, inr, sym, ◌∙◌, ap, arith}
use Rattle.std.proofs.lemmas.Int.{ints}
use Rattle.fractions.specs.declared.part.TheConstants.{UNIT}
use Rattle.integers.proofs.Order.{mul_left_cancel_pos, mul_right_cancel_pos}
use Rattle.integers.proofs.Ring.{mul_assoc, mul_zero}
use Rattle.symmetry.specs.Vectors.{Vector, dot}
use Rattle.symmetry.specs.Motions.{Motion}
use Rattle.symmetry.specs.Planes.{Height, IsHeight, IsCoprime, KeepsPlane, KeepsRow, TurnsRow, MovesRow, IsInvertible}
use Rattle.symmetry.specs.Groups.{Listing, IsMember, IsGroup, InStabiliser, InRowStabiliser, FixesEveryPlane, FixesEveryPlaneByRow}
use Rattle.symmetry.specs.Frames.{IsSpecial}
use Rattle.symmetry.proofs.VectorLaws.{multiple-one}
use Rattle.symmetry.proofs.Coprime.{not_opposite}
use Rattle.symmetry.proofs.PlaneImages.{image_by_row}

-- ---- a plane to itself

-- e p/q + d/n = p/q, with the denominators multiplied out
same_height : (e p q d n : ℤ) → pos 1 ≤ℤ q → ((e *ℤ p *ℤ n +ℤ q *ℤ d) *ℤ q ≡ p *ℤ (n *ℤ q)) ↔ (e *ℤ (p *ℤ n) +ℤ q *ℤ d ≡ p *ℤ n)
same_height e p q d n h = (
  λ k. ap (λ x. x +ℤ q *ℤ d) (sym (mul_assoc e p n)) ∙ mul_right_cancel_pos _ _ q h (k ∙ sym (mul_assoc p n q)),
  λ k. ap (λ x. (x +ℤ q *ℤ d) *ℤ q) (mul_assoc e p n) ∙ ap (λ x. x *ℤ q) k ∙ mul_assoc p n q,
)

-- with e = 1 this says d = 0, and with e = -1 that d/n is twice the height
kept : (x y : ℤ) → (pos 1 *ℤ x +ℤ y ≡ x) ↔ (y ≡ pos 0)
kept x y = (λ e. omega (arith, ints), λ e. omega (arith, ints))

turned : (x y : ℤ) → (negsuc 0 *ℤ x +ℤ y ≡ x) ↔ (pos 2 *ℤ x ≡ y)
turned x y = (λ e. omega (arith, ints), λ e. omega (arith, ints))

module _ (r : Vector) (s : Height) (g : Motion) (high : IsHeight s) where
  kept_is_moved : MovesRow r s s (pos 1) g ↔ KeepsRow r g
  kept_is_moved =
      let same = same_height (pos 1) s.num s.den (dot r g.translation) UNIT high in
      let one = kept (s.num *ℤ UNIT) (s.den *ℤ dot r g.translation) in (
        λ k. (k.0 ∙ multiple-one r, mul_left_cancel_pos s.den _ (pos 0) high (one.0 (same.0 k.1) ∙ sym (mul_zero s.den))),
        λ k. (k.0 ∙ sym (multiple-one r), same.1 (one.1 (ap (λ x. s.den *ℤ x) k.1 ∙ mul_zero s.den))),
      )

  pub turned_is_moved : MovesRow r s s (negsuc 0) g ↔ TurnsRow r s g
  turned_is_moved =
      let same = same_height (negsuc 0) s.num s.den (dot r g.translation) UNIT high in
      let two = turned (s.num *ℤ UNIT) (s.den *ℤ dot r g.translation) in (
        λ k. (k.0, mul_assoc (pos 2) s.num UNIT ∙ two.0 (same.0 k.1)),
        λ k. (k.0, same.1 (two.1 (sym (mul_assoc (pos 2) s.num UNIT) ∙ k.1))),
      )

pub plane_by_row : (r : Vector) (s : Height) (g : Motion) → IsCoprime r → IsHeight s → IsInvertible g.matrix
    → KeepsPlane r s g ↔ (KeepsRow r g ⊎ TurnsRow r s g)
plane_by_row r s g coprime high inverse =
    let by = image_by_row r s s g coprime high high inverse in (
      λ keeps. elim (by.0 keeps) [ inl k ↦ inl ((kept_is_moved r s g high).0 k) | inr k ↦ inr ((turned_is_moved r s g high).0 k) ],
      λ either. by.1 (elim either [ inl k ↦ inl ((kept_is_moved r s g high).1 k) | inr k ↦ inr ((turned_is_moved r s g high).1 k) ]),
    )

-- ---- groups

-- a member of a group has an inverse of whole entries
pub member_invertible : (g : Listing) (m : Motion) → IsGroup g → IsMember g m → IsInvertible m.matrix
member_invertible g m group member =
    let i = group.inverses m member in record {
      inverse = i.0.matrix;
      right = ap (λ (n : Motion). n.matrix) i.3;
      left = ap (λ (n : Motion). n.matrix) i.2;
    }

pub stabiliser_by_row : (g : Listing) (r : Vector) (s : Height) (m : Motion) → IsGroup g → IsCoprime r → IsHeight s
    → InStabiliser g r s m ↔ InRowStabiliser g r s m
stabiliser_by_row g r s m group coprime high = (
  λ in_it. (in_it.0, (plane_by_row r s m coprime high (member_invertible g m group in_it.0)).0 in_it.1),
  λ in_it. (in_it.0, (plane_by_row r s m coprime high (member_invertible g m group in_it.0)).1 in_it.1),
)

-- the planes of heights 0 and 1 tell that a motion maps every plane to itself
pub all_by_row : (g : Listing) (r : Vector) (m : Motion) → IsGroup g → IsCoprime r → FixesEveryPlane g r m ↔ FixesEveryPlaneByRow g r m
all_by_row g r m group coprime = (
  λ fixes. (fixes.0, keeps_row (at_height fixes zero_height (omega (arith, ints))) (at_height fixes one_height (omega (arith, ints)))),
  λ fixes. (fixes.0, λ s high. ((stabiliser_by_row g r s m group coprime high).1 (fixes.0, inl fixes.1)).1),
)
  where
    zero_height : Height
    zero_height = record { num = pos 0; den = pos 1 }

    one_height : Height
    one_height = record { num = pos 1; den = pos 1 }

    at_height : FixesEveryPlane g r m → (s : Height) → IsHeight s → KeepsRow r m ⊎ TurnsRow r s m
    at_height fixes s high = ((stabiliser_by_row g r s m group coprime high).0 (fixes.0, fixes.1 s high)).1

    keeps_row : KeepsRow r m ⊎ TurnsRow r zero_height m → KeepsRow r m ⊎ TurnsRow r one_height m → KeepsRow r m
    keeps_row (inl k) _ = k
    keeps_row (inr t) (inl k) = k
    keeps_row (inr t) (inr t') = absurd (omega (arith, ints, t.1, t'.1))

-- ---- special heights

pub special_by_row : (g : Listing) (r : Vector) (s : Height) → IsGroup g → IsCoprime r → IsHeight s
    → IsSpecial g r s ↔ ((m : Motion) × IsMember g m × TurnsRow r s m)
special_by_row g r s group coprime high = (turned, from_turned)
  where
    by : (m : Motion) → IsMember g m → ¬ (IsMember g m × KeepsRow r m) → KeepsRow r m ⊎ TurnsRow r s m → TurnsRow r s m
    by m p not (inl k) = absurd (not (p, k))
    by m p not (inr t) = t

    turned : IsSpecial g r s → (m : Motion) × IsMember g m × TurnsRow r s m
    turned (m, stab, not_all) =
        (m, stab.0, by m stab.0 (λ k. not_all ((all_by_row g r m group coprime).1 k)) ((stabiliser_by_row g r s m group coprime high).0 stab).1)

    from_turned : ((m : Motion) × IsMember g m × TurnsRow r s m) → IsSpecial g r s
    from_turned (m, p, t) = (
      m,
      (stabiliser_by_row g r s m group coprime high).1 (p, inr t),
      λ a. not_opposite r coprime (sym ((all_by_row g r m group coprime).0 a).1.0 ∙ t.0),
    )
