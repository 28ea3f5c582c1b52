-- What the reader of a group text does.
use Rattle.std.specs.Prelude.{◌≡◌, ℕ, ◌+◌, ◌==◌, ◌||◌, Bool, false, if◌then◌else◌, List, ◌++◌, length, Option, Some, None, Result, Ok, Err}
use Rattle.triplets.specs.declared.notation.Notation.{Notation}
use Rattle.triplets.specs.declared.fault.TextKind.{TextKind}
use Rattle.triplets.specs.declared.fault.TextKind.TheVariants as kinds
use Rattle.motions.specs.declared.motion.Motion3.{Motion3}
use Rattle.fractions.specs.declared.part.Part.{Part}
use Rattle.triplets.specs.declared.line.LinePlace.TheVariants as places
use Rattle.triplets.specs.declared.place.TextPlace.{TextPlace}
use Rattle.triplets.specs.declared.place.TextPlace.TheVariants as texts
use Rattle.motions.specs.declared.listed.Listed.{Listed}
use Rattle.triplets.specs.declared.fault.TextFault.{TextFault}
use Rattle.triplets.specs.declared.fault.TextFault.TheVariants as faults
use Rattle.triplets.specs.declared.text.LineReader.{LineReader}
use Rattle.symmetry.specs.Groups.{Listing}
use Rattle.motions.specs.Views.{listing_of}
use Rattle.triplets.specs.Marks.{mark}
use Rattle.triplets.specs.Runs.{run_by}
use Rattle.triplets.specs.LineReading.{with_vector, operations_of}
use Rattle.triplets.specs.HeadingReading.{text_step, text_completed, text_ending, is_heading}
use Rattle.triplets.specs.Texts.{Fault, nothing_listed}

-- what a text says: whether its operations are generators, and what it lists
pub record Said : Type 0 where
  pub generated : Bool
  pub listing : Listing

-- what is kept of the text so far
pub record Kept : Type 0 where
  pub said : Said
  pub line : ℕ
  pub column : ℕ
  pub place : TextPlace

-- before the first byte
abbrev pub kept_start : Kept
kept_start = record { said = record { generated = false; listing = nothing_listed }; line = 1; column = 1; place = texts.Beginning }

-- a fault of this kind at the place that comes
abbrev pub fault_here : Kept → TextKind → Fault
fault_here k kind = record { line = k.line; column = k.column; kind = kind }

-- the operation of the line, if there is one
abbrev pub with_operation : Option Motion3 → Listing → Listing
with_operation o listing = record listing { ops = listing.ops ++ operations_of o }

-- what is said when the text or the line ends here, in the heading or not
abbrev pub ended : Option (Option Motion3) → Bool → Kept → Result Said Fault
ended None heading k = Err (fault_here k kinds.MissingPart)
ended (Some o) heading k = Ok (record { generated = heading || k.said.generated; listing = with_operation o k.said.listing })

-- what is said when the text ends here
abbrev pub finished : Notation → Kept → Result Said Fault
finished notation k = ended (text_ending notation k.place) (is_heading k.place) k

-- behind the line feed
abbrev pub new_line : Result Said Fault → Kept → Result Kept Fault
new_line (Err f) k = Err f
new_line (Ok said) k = Ok (record { said = said; line = k.line + 1; column = 1; place = texts.Line places.Start })

-- with the vector, if there is one
abbrev pub said_vector : Option (List Part) → Said → Said
said_vector v s = record { generated = s.generated; listing = record s.listing { centrings = with_vector v s.listing.centrings } }

-- behind another byte
abbrev pub moved : Result TextPlace TextKind → Option (List Part) → Kept → Result Kept Fault
moved (Err kind) v k = Err (fault_here k kind)
moved (Ok p) v k = Ok (record { said = said_vector v k.said; line = k.line; column = k.column + 1; place = p })

-- a byte of the text
abbrev pub byte_step : Notation → ℕ → Kept → Result Kept Fault
byte_step notation b k = if b == 10 then new_line (finished notation k) k else moved (text_step notation b k.place) (text_completed (mark notation b) k.place) k

-- the bytes one by one
abbrev pub text_run : Notation → Result Kept Fault → List ℕ → Result Kept Fault
text_run notation = run_by (byte_step notation)

-- what the end of the text gives
abbrev pub outcome : Notation → Result Kept Fault → Result Said Fault
outcome notation (Err f) = Err f
outcome notation (Ok k) = finished notation k

-- what the bytes of a whole text give
abbrev pub group_of : Notation → List ℕ → Result Said Fault
group_of notation bytes = outcome notation (text_run notation (Ok kept_start) bytes)

-- what a Listed says
abbrev pub said_of : Listed → Said
said_of l = record { generated = l.generated; listing = listing_of l }

-- what a reader has kept
abbrev pub kept : LineReader → Kept
kept r = record { said = said_of r.listed; line = r.line; column = r.column; place = r.place }

-- how many bytes it was fed
abbrev pub bytes_fed : LineReader → ℕ
bytes_fed r = r.fed

-- the fault that it answered
abbrev pub fault_answered : LineReader → Option TextFault
fault_answered r = r.fault

-- the fault that was answered, or what is kept
abbrev pub kept_or : Option TextFault → Kept → Result Kept Fault
kept_or None k = Ok k
kept_or (Some (faults.At line column kind)) k = Err (record { line = line; column = column; kind = kind })
kept_or (Some faults.NoMemory) k = Ok k

-- The reader has read this text, and no memory ran out.
pub record Stands (notation : Notation) (r : LineReader) (text : List ℕ) : Type 0 where
  pub run_is : text_run notation (Ok kept_start) text ≡ kept_or r.fault (kept r)
  pub fed : r.fed ≡ length text
  pub memory : r.fault ≡ Some faults.NoMemory → ⊥
  pub reads : r.notation ≡ notation

-- this fault is given, unless it is one of memory
abbrev pub Refuses : {B : Type 0} → TextFault → Result B Fault → Type 0
Refuses faults.NoMemory r = Unit {0}
Refuses (faults.At line column kind) r = r ≡ Err (record { line = line; column = column; kind = kind })

-- a call answers what is given, unless memory ran out
abbrev pub Gives : {A B : Type 0} → (A → B) → Result A TextFault → Result B Fault → Type 0
Gives view (Ok x) r = r ≡ Ok (view x)
Gives view (Err e) r = Refuses e r

-- all but the list of operations and the word on generators is the same
pub record AreAlike (old new : LineReader) : Type 0 where
  pub centrings : new.listed.centrings.items ≡ old.listed.centrings.items
  pub line : new.line ≡ old.line
  pub column : new.column ≡ old.column
  pub place : new.place ≡ old.place
  pub fed : new.fed ≡ old.fed
  pub fault : new.fault ≡ old.fault
  pub notation : new.notation ≡ old.notation
