-- The count is named by the blank.
use Rattle.report.proofs.report.Report.make.Given as goal

abbrev pub ghosts-recognised : goal.ghosts-recognised
ghosts-recognised a = record { name = a.blank.name; parts = a.blank.parts }
