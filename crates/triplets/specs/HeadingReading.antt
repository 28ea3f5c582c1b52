-- What the reader does in line 1, and where in a text it stands.
use Rattle.std.specs.Prelude.{ℕ, ◌==◌, Bool, true, false, if◌then◌else◌, List, Option, Some, None, Result, Ok, Err}
use Rattle.triplets.specs.declared.notation.Notation.{Notation}
use Rattle.triplets.specs.Bytes.{hash}
use Rattle.triplets.specs.declared.marks.Mark.{Mark}
use Rattle.triplets.specs.declared.marks.Mark.TheVariants as marks
use Rattle.triplets.specs.declared.fault.TextKind.{TextKind}
use Rattle.triplets.specs.declared.fault.TextKind.TheVariants as kinds
use Rattle.motions.specs.declared.motion.Motion3.{Motion3}
use Rattle.fractions.specs.declared.part.Part.{Part}
use Rattle.triplets.specs.declared.line.LinePlace.{LinePlace}
use Rattle.triplets.specs.declared.heading.HeadingPlace.{HeadingPlace}
use Rattle.triplets.specs.declared.heading.HeadingPlace.TheVariants as words
use Rattle.triplets.specs.declared.place.TextPlace.{TextPlace}
use Rattle.triplets.specs.declared.place.TextPlace.TheVariants as texts
use Rattle.triplets.specs.Marks.{mark}
use Rattle.triplets.specs.LineReading.{start_step, place_step, completed, ending, IsPlaceSmall}

-- a byte where this letter of the word comes
abbrev pub letter_step : ℕ → HeadingPlace → ℕ → Result HeadingPlace TextKind
letter_step letter next b = if b == letter then Ok next else (if b == hash then Err kinds.MissingPart else Err kinds.UnknownSign)

-- a byte behind the word
abbrev pub behind_word : Mark → Result HeadingPlace TextKind
behind_word marks.Blank = Ok words.Generators
behind_word marks.Hash = Ok words.Comment
behind_word _ = Err kinds.UnknownSign

-- a byte of the heading
abbrev pub heading_step : Notation → ℕ → HeadingPlace → Result HeadingPlace TextKind
heading_step notation b words.G = letter_step 101 words.Ge b
heading_step notation b words.Ge = letter_step 110 words.Gen b
heading_step notation b words.Gen = letter_step 101 words.Gene b
heading_step notation b words.Gene = letter_step 114 words.Gener b
heading_step notation b words.Gener = letter_step 97 words.Genera b
heading_step notation b words.Genera = letter_step 116 words.Generat b
heading_step notation b words.Generat = letter_step 111 words.Generato b
heading_step notation b words.Generato = letter_step 114 words.Generator b
heading_step notation b words.Generator = letter_step 115 words.Generators b
heading_step notation b words.Generators = behind_word (mark notation b)
heading_step notation b words.Comment = Ok words.Comment

-- whether the heading may end here
abbrev pub is_whole : HeadingPlace → Bool
is_whole words.Generators = true
is_whole words.Comment = true
is_whole _ = false

-- the step of the heading, in a text
abbrev pub in_heading : Result HeadingPlace TextKind → Result TextPlace TextKind
in_heading (Ok p) = Ok (texts.Heading p)
in_heading (Err k) = Err k

-- the step of a line, in a text
abbrev pub in_line : Result LinePlace TextKind → Result TextPlace TextKind
in_line (Ok p) = Ok (texts.Line p)
in_line (Err k) = Err k

-- the first byte of line 1 that is no blank begins a line, if it does not begin the word
abbrev pub begin_line : Notation → Mark → Result TextPlace TextKind
begin_line notation marks.Blank = Ok texts.Beginning
begin_line notation m = in_line (start_step notation m)

-- a byte of line 1 behind blanks: the letter g begins the word
abbrev pub from_beginning : Notation → ℕ → Result TextPlace TextKind
from_beginning notation b = if b == 103 then Ok (texts.Heading words.G) else begin_line notation (mark notation b)

-- a byte of a line of the text
abbrev pub text_step : Notation → ℕ → TextPlace → Result TextPlace TextKind
text_step notation b texts.Beginning = from_beginning notation b
text_step notation b (texts.Heading p) = in_heading (heading_step notation b p)
text_step notation b (texts.Line p) = in_line (place_step notation (mark notation b) p)

-- the vector that a byte of this meaning completes
abbrev pub text_completed : Mark → TextPlace → Option (List Part)
text_completed m texts.Beginning = None
text_completed m (texts.Heading p) = None
text_completed m (texts.Line p) = completed m p

-- where a line may end, the operation that stands in it
abbrev pub text_ending : Notation → TextPlace → Option (Option Motion3)
text_ending notation texts.Beginning = Some None
text_ending notation (texts.Heading p) = if is_whole p then Some None else None
text_ending notation (texts.Line p) = ending notation p

-- whether the line is the heading
abbrev pub is_heading : TextPlace → Bool
is_heading texts.Beginning = false
is_heading (texts.Heading p) = true
is_heading (texts.Line p) = false

-- the numbers are small
abbrev pub IsTextPlaceSmall : TextPlace → Type 0
IsTextPlaceSmall texts.Beginning = Unit {0}
IsTextPlaceSmall (texts.Heading p) = Unit {0}
IsTextPlaceSmall (texts.Line p) = IsPlaceSmall p
