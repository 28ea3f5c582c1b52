-- The grammar of a group text in a notation, line by line, and its first fault.
use Rattle.std.specs.Prelude.{◌≡◌, ℕ, zero, suc, ◌+◌, ◌==◌, Bool, true, false, if◌then◌else◌, List, [], ◌∷◌, ◌++◌, ◌<◌, ◌⊎◌, ◌≢◌, length}
use Rattle.triplets.specs.declared.notation.Notation.{Notation}
use Rattle.triplets.specs.Bytes.{line_feed}
use Rattle.triplets.specs.declared.fault.TextKind.{TextKind}
use Rattle.symmetry.specs.Groups.{Listing}
use Rattle.triplets.specs.Lines.{IsLine}
use Rattle.triplets.specs.Headings.{IsHeading}
use Rattle.triplets.specs.LineFaults.{IsGoodLine, IsGoodFirstLine, IsFaultIn}

-- bytes before the first line
abbrev pub with_front : List ℕ → List (List ℕ) → List (List ℕ)
with_front bs [] = bs ∷ []
with_front bs (l ∷ ls) = (bs ++ l) ∷ ls

-- the lines of a text: each ends at LF or at the end of the text
abbrev pub lines_of : List ℕ → List (List ℕ)
lines_of [] = [] ∷ []
lines_of (b ∷ bs) = if b == line_feed then [] ∷ lines_of bs else with_front (b ∷ []) (lines_of bs)

-- no operation and no vector
abbrev pub nothing_listed : Listing
nothing_listed = record { ops = []; centrings = [] }

-- what lines list one behind the other
abbrev pub listed_then : Listing → Listing → Listing
listed_then a b = record { ops = a.ops ++ b.ops; centrings = a.centrings ++ b.centrings }

-- these lines say this, one behind the other
abbrev pub AreLines : Notation → List (List ℕ) → Listing → Type 0
AreLines notation [] listing = listing ≡ nothing_listed
AreLines notation (l ∷ ls) listing = (a : Listing) × (b : Listing) × IsLine notation l a × AreLines notation ls b × (listing ≡ listed_then a b)

-- the lines of a text say this: line 1 is the heading exactly where the text is one of generators
abbrev pub AreTextLines : Notation → Bool → List (List ℕ) → Listing → Type 0
AreTextLines notation true [] listing = ⊥
AreTextLines notation true (l ∷ ls) listing = IsHeading l × AreLines notation ls listing
AreTextLines notation false ls listing = AreLines notation ls listing

-- the bytes are a group text that lists this, generators or not
abbrev pub IsGroupText : Notation → List ℕ → Bool → Listing → Type 0
IsGroupText notation bytes generated listing = AreTextLines notation generated (lines_of bytes) listing

-- line n is the first bad one, counted from 0, with this fault, where it is known which lines may be the first
abbrev pub IsFirstBad : Notation → (List ℕ → Type 0) → List (List ℕ) → ℕ → ℕ → TextKind → Type 0
IsFirstBad notation Good [] n before kind = ⊥
IsFirstBad notation Good (l ∷ ls) zero before kind = IsFaultIn notation Good l before kind
IsFirstBad notation Good (l ∷ ls) (suc n) before kind = Good l × IsFirstBad notation (IsGoodLine notation) ls n before kind

-- a place in a text, counted from 1, and what is wrong there
pub record Fault : Type 0 where
  pub line : ℕ
  pub column : ℕ
  pub kind : TextKind

-- the first bad line of the text, its column and its kind
abbrev pub IsTextFault : Notation → List ℕ → Fault → Type 0
IsTextFault notation bytes f = (n : ℕ) × (before : ℕ) × (f.line ≡ n + 1) × (f.column ≡ before + 1) × IsFirstBad notation (IsGoodFirstLine notation) (lines_of bytes) n before f.kind

-- The same where a byte shows the place: the one that stands there, or the LF that ends the line too early.

-- line n is the first bad one, and a byte shows its place
abbrev pub IsFirstShown : Notation → (List ℕ → Type 0) → List (List ℕ) → ℕ → ℕ → TextKind → Type 0
IsFirstShown notation Good [] n before kind = ⊥
IsFirstShown notation Good (l ∷ ls) zero before kind = IsFaultIn notation Good l before kind × ((before < length l) ⊎ (ls ≢ []))
IsFirstShown notation Good (l ∷ ls) (suc n) before kind = Good l × IsFirstShown notation (IsGoodLine notation) ls n before kind

-- the first bad place that the text shows by a byte
abbrev pub IsShownFault : Notation → List ℕ → Fault → Type 0
IsShownFault notation bytes f = (n : ℕ) × (before : ℕ) × (f.line ≡ n + 1) × (f.column ≡ before + 1) × IsFirstShown notation (IsGoodFirstLine notation) (lines_of bytes) n before f.kind
