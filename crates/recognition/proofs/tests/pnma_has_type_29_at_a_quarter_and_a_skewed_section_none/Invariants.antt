-- The ledger is named by the blank.
use Rattle.recognition.proofs.tests.pnma_has_type_29_at_a_quarter_and_a_skewed_section_none.Given as goal

abbrev pub ghosts-recognised : goal.ghosts-recognised
ghosts-recognised g a = record { name = a.blank.name; parts = a.blank.parts }
