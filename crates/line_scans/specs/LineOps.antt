-- What the code takes a motion that maps a line to itself to be.
use Rattle.std.specs.Prelude.{◌≡◌, ℤ, pos, ◌*ℤ◌, ◌≤ℤ◌, ◌<ℤ◌, List, All, map}
use Rattle.std.specs.List.{AllZip}
use Rattle.fractions.specs.declared.part.TheConstants.{UNIT}
use Rattle.symmetry.specs.Vectors.{Vector, image, multiple, row_times}
use Rattle.symmetry.specs.Motions.{Motion}
use Rattle.symmetry.specs.Frames.{Basis}
use Rattle.symmetry.specs.Sizes.{IsSmall}
use Rattle.motions.specs.Signs.{sign_value}
use Rattle.plane_lattice.specs.Sections.{drift}
use Rattle.plane_motions.specs.PlaneMotions.{IsFlat, plane_block, plane_of}
use Rattle.friezes.specs.declared.line_op.LineOp.{LineOp}
use Rattle.friezes.specs.Order.{IsFirst}
use Rattle.friezes.specs.Sections.{IsSection}
use Rattle.friezes.specs.Types.{HasChange, change_of}
use Rattle.line_scans.specs.declared.scan.LineSection.{LineSection}

-- from k steps along tau, of which it has 2 UNIT: W a = f a, (hk0) W = e (hk0), and W o + w - o is t half parts of a
pub record IsLineOp (r : Vector) (f : Basis) (k : ℤ) (m : Motion) (op : LineOp) : Type 0 where
  pub along : image m.matrix f.a ≡ multiple (sign_value op.f) f.a
  pub across : row_times r m.matrix ≡ multiple (sign_value op.e) r
  pub translation : drift m f.tau k ≡ multiple op.t f.a

-- there is such a motion along the line
abbrev pub HasLineOp : Vector → Basis → ℤ → Motion → Type 0
HasLineOp r f k m = (op : LineOp) × IsLineOp r f k m op

-- twice a height is k steps above the origin, of which a period has 2 UNIT: k d is the level times UNIT
pub record IsStep (d level k : ℤ) : Type 0 where
  pub from : pos 0 ≤ℤ k
  pub below : k <ℤ (pos 2 *ℤ UNIT)
  pub is : k *ℤ d ≡ level *ℤ UNIT

-- small motions of the plane, with what each is along the line; whatever lists these is a section
pub record AreLineMotions (r : Vector) (f : Basis) (k : ℤ) (ms : List Motion) : Type 0 where
  pub small : All IsSmall ms
  pub flat : All IsFlat ms
  pub have : All (HasLineOp r f k) ms
  pub section : (list : List LineOp) → AllZip (IsLineOp r f k) ms list → IsSection list

-- the motions as pairs, and the first change of what lists what they are along the line
pub record IsSectionOf (r : Vector) (f : Basis) (k : ℤ) (ms : List Motion) (section : LineSection) : Type 0 where
  pub pairs : ms ≡ map plane_block (map plane_of section.ops.items)
  pub list : List LineOp
  pub listed : AllZip (IsLineOp r f k) ms list
  pub first : IsFirst (HasChange list) (change_of section.found)
