-- What the special heights of the code say.
use Rattle.std.specs.Prelude.{◌≡◌, ◌⊎◌, pos, ◌*ℤ◌, List, map, int_rem}
use Rattle.fractions.specs.declared.part.TheConstants.{UNIT}
use Rattle.fractions.specs.FractionOf.{fraction_of}
use Rattle.symmetry.specs.Vectors.{Vector}
use Rattle.symmetry.specs.Motions.{Motion}
use Rattle.symmetry.specs.Planes.{Height as HeightOfPlane, KeepsRow, TurnsRow}
use Rattle.symmetry.specs.Frames.{Basis, IsAtHome}
use Rattle.symmetry.specs.Scans.{SpecialHeight, heights_of}
use Rattle.motions.specs.Views.{motion_of}
use Rattle.scanning.specs.declared.height.Height.{Height}

-- a special height and its operations
abbrev pub special_of : Height → SpecialHeight
special_of h = record { height = fraction_of h.s; ops = map motion_of h.ops.items }

-- the special heights of a list
abbrev pub specials_of : List Height → List SpecialHeight
specials_of hs = map special_of hs

-- the heights alone
abbrev pub heights_of_specials : List Height → List HeightOfPlane
heights_of_specials hs = heights_of (specials_of hs)

-- a whole number of half parts
abbrev pub IsInHalves : HeightOfPlane → Type 0
IsInHalves s = int_rem (pos 2 *ℤ s.num *ℤ UNIT) s.den ≡ pos 0

-- an operation of the general heights: it is at home, and (hkl) W = (hkl) and (hkl).w = 0
pub record IsGeneralOperation (r : Vector) (f : Basis) (m : Motion) : Type 0 where
  pub home : IsAtHome f m
  pub row : KeepsRow r m

-- an operation at a special height s: it is at home, and has this, or (hkl) W = -(hkl) and (hkl).w = 2 s
pub record IsSpecialOperation (r : Vector) (f : Basis) (s : HeightOfPlane) (m : Motion) : Type 0 where
  pub home : IsAtHome f m
  pub row : KeepsRow r m ⊎ TurnsRow r s m
