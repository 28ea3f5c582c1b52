-- The kind of a fault of the heading.
use Rattle.std.proofs.Common.{◌≡◌, ◌≢◌, ℕ, ◌≤◌, false, List, [], ◌∷◌, ◌++◌, refl, sym, ◌∙◌, subst, arith, inl, inr}
use Rattle.std.specs.Prelude.{codes}
use Rattle.triplets.specs.declared.notation.Notation.{Notation}
use Rattle.triplets.specs.declared.fault.TextKind.{TextKind}
use Rattle.triplets.specs.declared.fault.TextKind.TheVariants as kinds
use Rattle.triplets.specs.declared.marks.Mark.TheVariants as marks
use Rattle.triplets.specs.declared.heading.HeadingPlace.{HeadingPlace}
use Rattle.triplets.specs.declared.heading.HeadingPlace.TheVariants as words
use Rattle.triplets.specs.Marks.{mark}
use Rattle.triplets.specs.Rows.{unused}
use Rattle.triplets.specs.Grammar.{Blank, space, blank_byte, blanks_text}
use Rattle.triplets.specs.HeadingReading.{heading_step}
use Rattle.triplets.specs.LineFaults.{line_stands, is_end_of_part, HasLineKind}
use Rattle.triplets.proofs.Bytes.{mark_is}
use Rattle.triplets.proofs.LineSeen.{LineSeen, line_seen, line_seen_step, line_seen_start}
use Rattle.triplets.proofs.LineAgrees.{Between, between_blank}
use Rattle.triplets.proofs.LineTable.{Fresh}
use Rattle.triplets.proofs.LineKinds.{between_kind, line_uses}
use Rattle.triplets.proofs.Headings.{IsBegun, stopped_by}
use Rattle.triplets.proofs.Runs.{stopped}

-- nothing but blanks was seen
record IsBare (f : LineSeen) : Type 0 where
  bracket : f.bracket ≡ 0
  used : f.used ≡ unused

-- behind a letter of the word, or blanks behind it
record IsInWord (f : LineSeen) : Type 0 where
  between : Between f
  no_end : is_end_of_part f.mark ≡ false
  letter : 97 ≤ f.mark

bare_blank : (f : LineSeen) (k : Blank) → IsBare f → IsBare (line_seen_step f (blank_byte k))
bare_blank f space h = record { bracket = h.bracket; used = h.used }
bare_blank f k h = record { bracket = h.bracket; used = h.used }

word_blank : (f : LineSeen) (k : Blank) → IsInWord f → IsInWord (line_seen_step f (blank_byte k))
word_blank f space h = record { between = between_blank f space h.between; no_end = h.no_end; letter = h.letter }
word_blank f k h = record { between = between_blank f k h.between; no_end = h.no_end; letter = h.letter }

word_blanks : (ks : List Blank) (f : LineSeen) → IsInWord f → IsInWord (line_seen f (blanks_text ks))
word_blanks [] f h = h
word_blanks (k ∷ ks) f h = word_blanks ks (line_seen_step f (blank_byte k)) (word_blank f k h)

-- behind a letter
in_word : (f g : LineSeen) → IsBare f → g.bracket ≡ f.bracket → g.used ≡ f.used → g.count ≡ 0 → g.other ≢ 47 → is_end_of_part g.mark ≡ false → 97 ≤ g.mark → IsInWord g
in_word f g h bracket used count other no_end letter = record {
  between = record { count = count; other = other; bracket = λ e. omega (arith, e, bracket, h.bracket); used = used ∙ h.used };
  no_end = no_end;
  letter = letter;
}

-- what was seen behind these letters
abbrev Seen : LineSeen → List ℕ → Type 0
Seen f hs = IsInWord (line_seen f (103 ∷ hs))

along : (f : LineSeen) (hs xs : List ℕ) → hs ≡ xs → Seen f xs → Seen f hs
along f hs xs e h = subst (Seen f) (sym e) h

abbrev pub IsCommented : HeadingPlace → Type 0
IsCommented words.Comment = Unit {0}
IsCommented _ = ⊥

seen_word : (p : HeadingPlace) (f : LineSeen) (hs : List ℕ) → IsBare f → IsBegun p hs → (IsCommented p → ⊥) → Seen f hs
seen_word words.G f hs h g n = along f hs [] g (in_word f _ h refl refl refl (λ e. omega arith) refl (omega arith))
seen_word words.Ge f hs h g n = along f hs (codes "e") g (in_word f _ h refl refl refl (λ e. omega arith) refl (omega arith))
seen_word words.Gen f hs h g n = along f hs (codes "en") g (in_word f _ h refl refl refl (λ e. omega arith) refl (omega arith))
seen_word words.Gene f hs h g n = along f hs (codes "ene") g (in_word f _ h refl refl refl (λ e. omega arith) refl (omega arith))
seen_word words.Gener f hs h g n = along f hs (codes "ener") g (in_word f _ h refl refl refl (λ e. omega arith) refl (omega arith))
seen_word words.Genera f hs h g n = along f hs (codes "enera") g (in_word f _ h refl refl refl (λ e. omega arith) refl (omega arith))
seen_word words.Generat f hs h g n = along f hs (codes "enerat") g (in_word f _ h refl refl refl (λ e. omega arith) refl (omega arith))
seen_word words.Generato f hs h g n = along f hs (codes "enerato") g (in_word f _ h refl refl refl (λ e. omega arith) refl (omega arith))
seen_word words.Generator f hs h g n = along f hs (codes "enerator") g (in_word f _ h refl refl refl (λ e. omega arith) refl (omega arith))
seen_word words.Generators f hs h g n =
    along f hs _ g.1 (word_blanks g.0 (line_seen f (codes "generators")) (in_word f (line_seen f (codes "generators")) h refl refl refl (λ e. omega arith) refl (omega arith)))
seen_word words.Comment f hs h g n = absurd (n tt)

seen_blanks : (bs : List Blank) (p : HeadingPlace) (f : LineSeen) (hs : List ℕ) → IsBare f → IsBegun p hs → (IsCommented p → ⊥) → IsInWord (line_seen f (blanks_text bs ++ (103 ∷ hs)))
seen_blanks [] p f hs h g n = seen_word p f hs h g n
seen_blanks (b ∷ bs) p f hs h g n = seen_blanks bs p (line_seen_step f (blank_byte b)) hs (bare_blank f b h) g n

no_comment : (nt : Notation) → (p : HeadingPlace) (b : ℕ) (k : TextKind) → heading_step nt b p ≡ stopped k → IsCommented p → ⊥
no_comment nt words.Comment b k e h = absurd cc
no_comment nt p b k e h = h

not_fresh : (m n : ℕ) → 97 ≤ m → Fresh m n → ⊥
not_fresh m n h (inl x) = omega (arith, h, x)
not_fresh m n h (inr (inl x)) = omega (arith, h, x)
not_fresh m n h (inr (inr x)) = omega (arith, h, x.0)

-- behind the word and its beginnings the table says nothing of a byte that begins no comment
pub other_kind : (nt : Notation) → (bs : List Blank) (p : HeadingPlace) (hs : List ℕ) (b : ℕ) → IsBegun p hs → (IsCommented p → ⊥) → mark nt b ≢ marks.Hash → HasLineKind nt (blanks_text bs ++ (103 ∷ hs)) b kinds.UnknownSign
other_kind nt bs p hs b g n m =
    let before : List ℕ = blanks_text bs ++ (103 ∷ hs) in
    let f = line_seen line_seen_start before in
    let w : IsInWord f = seen_blanks bs p line_seen_start hs (record { bracket = refl; used = refl }) g n in
    between_kind nt (mark nt b) f (λ a. line_stands a false before) b kinds.UnknownSign refl (mark_is nt b) w.between w.no_end (not_fresh f.mark f.commas w.letter) (line_uses before) m refl

-- a comment comes too early, or the byte is none that may stand there
pub heading_kind : (nt : Notation) → (bs : List Blank) (p : HeadingPlace) (hs : List ℕ) (b : ℕ) (k : TextKind) → IsBegun p hs → heading_step nt b p ≡ stopped k → HasLineKind nt (blanks_text bs ++ (103 ∷ hs)) b k
heading_kind nt bs p hs b k g e =
    elim (stopped_by nt p b k e) [
      | inl x ↦ inl x
      | inr x ↦ subst (HasLineKind nt (blanks_text bs ++ (103 ∷ hs)) b) (sym x.1) (other_kind nt bs p hs b g (no_comment nt p b k e) x.0)
    ]
