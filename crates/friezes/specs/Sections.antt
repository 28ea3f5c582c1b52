-- Lists of motions along a line that are sections.
use Rattle.std.specs.Prelude.{◌≡◌, ◌^◌, List, All, map}
use Rattle.integers.specs.Size.{IsWithin}
use Rattle.quotient.specs.Groups.{IsGroup}
use Rattle.motions.specs.declared.motion.Sign.TheVariants.{Plus}
use Rattle.friezes.specs.declared.line_op.LineOp.{LineOp}
use Rattle.friezes.specs.Lines.{IsLineShift, line_kind, line_of}

-- a motion that turns nothing moves by whole cell edges
abbrev pub IsTurnOrShift : LineOp → Type 0
IsTurnOrShift m = m.f ≡ Plus → m.e ≡ Plus → IsLineShift m

-- a group modulo whole cell edges, whose shifts are all that turns nothing. That each motion stands once is not needed
pub record IsSection (section : List LineOp) : Type 0 where
  pub group : IsGroup line_kind (map line_of section)
  pub plain : All IsTurnOrShift section

-- a translation of at most 2^40 half parts
abbrev pub IsSmallLine : LineOp → Type 0
IsSmallLine m = IsWithin (2 ^ 40) m.t
