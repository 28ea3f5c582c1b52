-- The members that rows tell are those of the stabiliser of a plane, or those that map every plane to itself.
use Rattle.std.proofs.Common.{◌↔◌, ℤ, ◌*ℤ◌, inl, inr, Option, None, Some, MatchOption, sym, ◌∙◌, ap}
use Rattle.integers.proofs.Order.{mul_left_cancel_pos}
use Rattle.symmetry.specs.Vectors.{Vector, dot}
use Rattle.symmetry.specs.Motions.{Motion}
use Rattle.symmetry.specs.Planes.{Height, IsCoprime, IsHeight}
use Rattle.symmetry.specs.Groups.{Listing, IsGroup, IsMember, FixesEveryPlane, InRowStabiliser, InStabiliser}
use Rattle.symmetry.proofs.PlaneRows.{all_by_row, stabiliser_by_row}
use Rattle.scanning.specs.Levels.{IsLevel}
use Rattle.scanning.specs.Members.{InRows}

pub rows_member : (g : Listing) (r : Vector) (turned : Option ℤ) (m : Motion) → InRows g r turned m → IsMember g m
rows_member g r None m in_it = in_it.0
rows_member g r (Some t) m in_it = in_it.0

-- with no shift given: those that map every plane to itself
pub rows_of_all : (g : Listing) (r : Vector) → IsGroup g → IsCoprime r → (m : Motion) → InRows g r None m ↔ FixesEveryPlane g r m
rows_of_all g r group coprime m = let by = all_by_row g r m group coprime in (by.1, by.0)

module _ (g : Listing) (r : Vector) (s : Height) (group : IsGroup g) (coprime : IsCoprime r) (high : IsHeight s) where
  -- what the level of a height says of it
  abbrev pub LevelOf : Option ℤ → Type 0
  LevelOf turned = MatchOption turned ((t : ℤ) → ¬ IsLevel s t) (IsLevel s)

  by_level : (turned : Option ℤ) → LevelOf turned → (m : Motion) → InRows g r turned m ↔ InRowStabiliser g r s m
  by_level None none m = (λ (member, keeps). (member, inl keeps), back)
    where
      back : InRowStabiliser g r s m → InRows g r None m
      back (member, inl keeps) = (member, keeps)
      back (member, inr turns) = absurd (none (dot r m.translation) (sym turns.1))
  by_level (Some t) is m = (on, back)
    where
      on : InRows g r (Some t) m → InRowStabiliser g r s m
      on (member, inl keeps) = (member, inl keeps)
      on (member, inr turns) = (member, inr (turns.0, sym is ∙ ap (λ z. s.den *ℤ z) (sym turns.1)))

      back : InRowStabiliser g r s m → InRows g r (Some t) m
      back (member, inl keeps) = (member, inl keeps)
      back (member, inr turns) = (member, inr (turns.0, mul_left_cancel_pos s.den (dot r m.translation) t high (sym turns.1 ∙ sym is)))

  -- with the level of a height: the stabiliser of its plane
  pub rows_of_stabiliser : (turned : Option ℤ) → LevelOf turned → (m : Motion) → InRows g r turned m ↔ InStabiliser g r s m
  rows_of_stabiliser turned is m =
      let rows = by_level turned is m in
      let by = stabiliser_by_row g r s m group coprime high in (λ x. by.1 (rows.0 x), λ x. rows.1 (by.0 x))
