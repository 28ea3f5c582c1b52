-- The run of the reader of a part over several bytes, and its states.
use Rattle.std.proofs.Common.{ℕ, ◌+◌, List, [], ◌∷◌, length, Result}
use Rattle.triplets.specs.declared.notation.Notation.{Notation}
use Rattle.triplets.specs.declared.fault.TextKind.{TextKind}
use Rattle.triplets.specs.declared.part.PartReader.{PartReader}
use Rattle.triplets.specs.declared.part.Spot.{Spot}
use Rattle.triplets.specs.declared.part.Spot.TheVariants.{Begin, Signed, Digits, Below, Behind}
use Rattle.triplets.specs.Marks.{mark}
use Rattle.triplets.specs.PartReading.{part_step}
use Rattle.triplets.specs.Grammar.{Blank, Term, letter, multiple, whole, fraction, Lead, bare, sign, more, lead_row, lead_sign, lead_letters, with_term, with_letters, numerator_value}
use Rattle.triplets.specs.Runs.{run_by}

-- a byte, by its mark
abbrev pub part_byte : (nt : Notation) → ℕ → PartReader → Result PartReader TextKind
part_byte nt b p = part_step (mark nt b) p

abbrev pub run_part : (nt : Notation) → Result PartReader TextKind → List ℕ → Result PartReader TextKind
run_part nt = run_by (part_byte nt)

-- where the reader stands behind what is written

abbrev pub lead_spot : Lead → Spot
lead_spot (bare bs) = Begin
lead_spot (sign bs s cs) = Signed
lead_spot (more l t bs s cs) = Signed

abbrev pub state : Lead → Spot → PartReader
state l spot = record { row = lead_row l; used = lead_letters l; sign = lead_sign l; spot = spot }

abbrev pub lead_state : Lead → PartReader
lead_state l = state l (lead_spot l)

abbrev pub behind_state : Lead → Term → PartReader
behind_state l t = record { row = with_term (lead_sign l) t (lead_row l); used = with_letters t (lead_letters l); sign = lead_sign l; spot = Behind }

abbrev pub term_state : Lead → Term → PartReader
term_state l (letter a c) = behind_state l (letter a c)
term_state l (multiple d h a c) = behind_state l (multiple d h a c)
term_state l (whole n) = state l (Digits (1 + length n.others) (numerator_value n))
term_state l (fraction n d) = state l (Below (numerator_value n) d.number)

abbrev pub after_state : Lead → Term → List Blank → PartReader
after_state l t [] = term_state l t
after_state l t (b ∷ bs) = behind_state l t
