-- A special height with the number of its orbit and what was found of its section.
use Rattle.std.specs.Prelude.{ℕ, Option}
use Rattle.recognition.specs.declared.found.Found.{Found}
use Rattle.scanning.specs.declared.height.Height.{Height}
use Rattle.report.specs.declared.report.HeightSection.{HeightSection}

-- the number and what was found
abbrev pub NumberAndType : Type 0
NumberAndType = ℕ × Option Found

-- the height, the number, and the section
abbrev pub numbered : Height × NumberAndType → HeightSection
numbered p = record { s = p.0.s; orbit = p.1.0; section = record { ops = p.0.ops; found = p.1.1 } }
