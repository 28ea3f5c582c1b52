-- What is counted over reports, and how the counts are written.
use Rattle.std.specs.Prelude.{ℕ, ◌+◌, ◌==◌, Bool, false, List, ◌∷◌, ◌++◌, Option, Some, None, codes, count_by, decimal, is_none, length, map}
use Rattle.recognition.specs.Order.{Change}
use Rattle.report.specs.Reports.{HeightBlock, Report}
use Rattle.sample.specs.declared.counts.Counts.{Counts}

-- what is found of the sections of a report: of the general one, and of that of each special height
abbrev pub types_of : Report → List (Option Change)
types_of report = report.general.found ∷ map (λ (block : HeightBlock). block.section.found) report.heights

-- whether a section has the layer type of this number
abbrev pub has_number : ℕ → Option Change → Bool
has_number number None = false
has_number number (Some change) = change.number == number

-- the counts over one report, of a group that is made from the layer type of this number
abbrev pub counts_of : ℕ → Report → Counts
counts_of number report = record {
  groups = 1;
  special = length report.heights;
  sections = length (types_of report);
  own = count_by (has_number number) (types_of report);
  unrecognised = count_by is_none (types_of report);
}

-- the counts over no report
abbrev pub no_counts : Counts
no_counts = record { groups = 0; special = 0; sections = 0; own = 0; unrecognised = 0 }

-- the counts over the reports of both
abbrev pub counts_plus : Counts → Counts → Counts
counts_plus c d = record {
  groups = c.groups + d.groups;
  special = c.special + d.special;
  sections = c.sections + d.sections;
  own = c.own + d.own;
  unrecognised = c.unrecognised + d.unrecognised;
}

-- a line of the text
abbrev pub count_line : List ℕ → ℕ → List ℕ
count_line name n = name ++ codes " " ++ decimal n ++ codes "\n"

-- a line for each count, and the end
abbrev pub counts_text : Counts → List ℕ
counts_text c =
    count_line (codes "groups") c.groups ++ count_line (codes "special") c.special ++ count_line (codes "sections") c.sections ++
    count_line (codes "own") c.own ++ count_line (codes "unrecognised") c.unrecognised ++ codes "end\n"
