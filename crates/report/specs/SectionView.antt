-- What the sections of the code say.
use Rattle.std.specs.Prelude.{List, map, option_map}
use Rattle.fractions.specs.FractionOf.{fraction_of}
use Rattle.symmetry.specs.Planes.{Height}
use Rattle.motions.specs.Views.{motion_of}
use Rattle.recognition.specs.Search.{change_of}
use Rattle.report.specs.Reports.{HeightBlock, block_heights, Section as SectionOfPlane}
use Rattle.report.specs.declared.report.HeightSection.{HeightSection}
use Rattle.report.specs.declared.report.Section.{Section}

-- the operations and what was found
abbrev pub section_of : Section → SectionOfPlane
section_of section = record { ops = map motion_of section.ops.items; found = option_map change_of section.found }

-- a special height, the number of its orbit, and its section
abbrev pub block_of : HeightSection → HeightBlock
block_of h = record { height = fraction_of h.s; orbit = h.orbit; section = section_of h.section }

-- the heights alone
abbrev pub levels_of_sections : List HeightSection → List Height
levels_of_sections hs = block_heights (map block_of hs)
