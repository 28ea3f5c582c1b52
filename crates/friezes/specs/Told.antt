-- What tells the frieze type and the origin: the translations of the motions of each pair of signs.
use Rattle.std.specs.Prelude.{◌≡◌, ℕ, ℤ, pos, Option, Some, None, cond, unsigned_abs, List, Contains}
use Rattle.std.specs.Ordering.{int_eq}
use Rattle.fractions.specs.Parts.{edge, rest_of_edge}
use Rattle.motions.specs.declared.motion.Sign.{Sign}
use Rattle.friezes.specs.declared.line_op.LineOp.{LineOp}

-- a motion of the list with these signs, and its translation
pub record StandsAt (list : List LineOp) (f e : Sign) (t : ℤ) : Type 0 where
  pub motion : LineOp
  pub listed : Contains list motion
  pub along : motion.f ≡ f
  pub across : motion.e ≡ e
  pub translation : motion.t ≡ t

-- the one number for a mirror, a glide by nothing, and the other for a glide by half an edge
abbrev pub mirror_or_glide : ℕ → ℕ → ℤ → ℕ
mirror_or_glide mirror glide t = cond (int_eq (rest_of_edge t) (pos 0)) mirror glide

-- the number of the type, by the glide in the line, the mirror across it and the half-turn
abbrev pub number_of : Option ℤ → Option ℤ → Option ℤ → ℕ
number_of None None None = 1
number_of None None (Some _) = 2
number_of None (Some _) _ = 3
number_of (Some t) _ None = mirror_or_glide 4 5 t
number_of (Some t) _ (Some _) = mirror_or_glide 6 7 t

-- the least origin, by the half-turn and the mirror across the line
abbrev pub origin_of : Option ℤ → Option ℤ → ℕ
origin_of (Some t) _ = unsigned_abs (rest_of_edge t)
origin_of None (Some t) = unsigned_abs (rest_of_edge t)
origin_of None None = 0
