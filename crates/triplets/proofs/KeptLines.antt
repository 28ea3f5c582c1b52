-- What the reader keeps of the lines of a text is what they list.
use Rattle.std.proofs.Common.{◌≡◌, ℕ, ◌+◌, List, [], ◌∷◌, ◌++◌, length, Result, Ok, Err, refl, sym, ◌∙◌, ap, subst, arith, append_assoc}
use Rattle.std.proofs.lemmas.List.{append-nil}
use Rattle.symmetry.specs.Vectors.{Vector}
use Rattle.symmetry.specs.Groups.{Listing}
use Rattle.triplets.specs.declared.notation.Notation.{Notation}
use Rattle.triplets.specs.declared.line.LinePlace.{LinePlace}
use Rattle.triplets.specs.Lines.{IsLine}
use Rattle.triplets.specs.Texts.{nothing_listed, listed_then, AreLines, Fault}
use Rattle.triplets.specs.TextReading.{Said, Kept, ended}
use Rattle.triplets.specs.BegunLines.{AreBegunVectors}
use Rattle.triplets.specs.KeptTexts.{with_begun}
use Rattle.triplets.proofs.BegunRows.{begun_row}
use Rattle.triplets.proofs.LineByLine.{said_then, InLine, listing_path, IsByLine, HoldsBehind, by_line}

-- what is kept behind lines that say base, where the one at n is the first
pub record KeptAfter (nt : Notation) (k : Kept) (base : Said) (n : ℕ) (lines : List (List ℕ)) : Type 0 where
  pub ended : List (List ℕ)
  pub begun : List ℕ
  pub lines_are : lines ≡ ended ++ begun ∷ []
  pub said : Listing
  pub vectors : List Vector
  pub ended_say : AreLines nt ended said
  pub begun_says : AreBegunVectors nt begun vectors
  pub generated_is : k.said.generated ≡ base.generated
  pub listing_is : k.said.listing ≡ listed_then base.listing (with_begun said vectors)
  pub line_is : k.line ≡ n + length ended
  pub column_is : k.column ≡ length begun + 1

abbrev pub IsKeptSoFar : (nt : Notation) → Result Kept Fault → Said → ℕ → List (List ℕ) → Type 0
IsKeptSoFar nt (Ok k) base n lines = KeptAfter nt k base n lines
IsKeptSoFar nt (Err f) base n lines = Unit {0}

kept_more : (nt : Notation) → (r : Result Kept Fault) (base : Said) (a : Listing) (n : ℕ) (l : List ℕ) (lines : List (List ℕ)) → IsLine nt l a → IsKeptSoFar nt r (said_then base a) (n + 1) lines → IsKeptSoFar nt r base n (l ∷ lines)
kept_more nt (Ok k) base a n l lines h t = record {
  ended = l ∷ t.ended;
  begun = t.begun;
  lines_are = ap (λ (x : List (List ℕ)). l ∷ x) t.lines_are;
  said = listed_then a t.said;
  vectors = t.vectors;
  ended_say = (a, t.said, h, t.ended_say, refl);
  begun_says = t.begun_says;
  generated_is = t.generated_is;
  listing_is = t.listing_is ∙ listing_path _ _ (append_assoc base.listing.ops a.ops t.said.ops)
      (append_assoc base.listing.centrings a.centrings (t.said.centrings ++ t.vectors) ∙ ap (λ (x : List Vector). base.listing.centrings ++ x) (sym (append_assoc a.centrings t.said.centrings t.vectors)));
  line_is = omega (arith, t.line_is);
  column_is = t.column_is;
}
kept_more nt (Err f) base a n l lines h t = tt

-- in the last line
kept_last : (nt : Notation) → (k : Kept) (here : LinePlace) (base : Said) (n : ℕ) (before : List ℕ) (vs : List Vector) → InLine nt k here base n before vs → KeptAfter nt k base n (before ∷ [])
kept_last nt k here base n before vs h = record {
  ended = [];
  begun = before;
  lines_are = refl;
  said = nothing_listed;
  vectors = vs;
  ended_say = refl;
  begun_says = begun_row nt before (record { place = here; vectors = vs }) h.run;
  generated_is = h.generated;
  listing_is = listing_path _ _ (h.ops ∙ sym (append-nil base.listing.ops)) h.centrings;
  line_is = omega (arith, h.line);
  column_is = h.column;
}

kept_by : (nt : Notation) → IsByLine nt (IsKeptSoFar nt)
kept_by nt = record {
  last = λ k here base n before vs h. subst (λ (x : List ℕ). KeptAfter nt k base n (x ∷ [])) (sym (append-nil before)) (kept_last nt k here base n before vs h);
  short = λ ls k here base n before vs z h e. tt;
  byte = λ kind b ls k here base n before vs h e. tt;
  more = kept_more nt;
}

-- what is kept of a text behind what is kept in a line
pub kept_all : (nt : Notation) → (bs : List ℕ) → HoldsBehind nt (IsKeptSoFar nt) bs
kept_all nt = by_line nt (IsKeptSoFar nt) (kept_by nt)
