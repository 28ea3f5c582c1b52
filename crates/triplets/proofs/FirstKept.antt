-- What the reader keeps of a whole text, and that it is one thing.
use Rattle.std.proofs.Common.{◌≡◌, ℕ, ◌+◌, Bool, false, List, [], length, map, Ok, refl, sym, ◌∙◌, ap, subst}
use Rattle.std.proofs.lemmas.List.{same_from_push}
use Rattle.symmetry.specs.Groups.{Listing}
use Rattle.motions.specs.Views.{motion_of, parts}
use Rattle.motions.specs.declared.motion.Motion3.{Motion3}
use Rattle.fractions.specs.declared.part.Part.{Part}
use Rattle.triplets.specs.declared.notation.Notation.{Notation}
use Rattle.triplets.specs.declared.text.LineReader.{LineReader}
use Rattle.triplets.specs.BegunLines.{AreBegunVectors}
use Rattle.triplets.specs.KeptTexts.{with_begun, IsKept, Keeps}
use Rattle.triplets.specs.Texts.{lines_of, nothing_listed, AreTextLines}
use Rattle.triplets.specs.TextReading.{Said, Kept, kept, kept_start, text_run}
use Rattle.triplets.proofs.BegunRows.{one_begun_row}
use Rattle.triplets.proofs.FirstTexts.{IsTextKept, text_given}
use Rattle.triplets.proofs.Answered.{text_lines_one}
use Rattle.triplets.proofs.LineByLine.{listing_path}
use Rattle.triplets.proofs.LineEnds.{make_listing}

-- what the reader keeps is told by the bytes
is_kept : (nt : Notation) → (bytes : List ℕ) (k : Kept) → text_run nt (Ok kept_start) bytes ≡ Ok k → IsKept nt bytes k.said.generated k.said.listing k.line k.column
is_kept nt bytes k e = subst (λ r. IsTextKept nt r (lines_of bytes)) e (text_given nt bytes).kept_is

-- the same of a reader
pub reader_keeps : (nt : Notation) → (r : LineReader) (bytes : List ℕ) → text_run nt (Ok kept_start) bytes ≡ Ok (kept r) → Keeps nt r bytes
reader_keeps nt r bytes e = is_kept nt bytes (kept r) e

-- before the first byte
pub keeps_nothing : (nt : Notation) → (xs : List Motion3) (ys : List (List Part)) → xs ≡ [] → ys ≡ [] → IsKept nt [] false (make_listing (map motion_of xs) (map parts ys)) 1 1
keeps_nothing nt xs ys e f =
    subst (λ (g : Listing). IsKept nt [] false g 1 1) (listing_path nothing_listed (make_listing (map motion_of xs) (map parts ys)) (ap (map motion_of) (sym e)) (ap (map parts) (sym f))) (is_kept nt [] kept_start refl)

-- what is kept of a text is one thing
pub one_kept : (nt : Notation) → (text : List ℕ) (b b' : Bool) (g g' : Listing) (l l' c c' : ℕ) → IsKept nt text b g l c → IsKept nt text b' g' l' c' → (b ≡ b') × (g ≡ g') × (l ≡ l') × (c ≡ c')
one_kept nt text b b' g g' l l' c c' h i =
    let e = same_from_push h.ended i.ended h.begun i.begun (sym h.lines_are ∙ i.lines_are) in
    let ended = e.0 in
    let begun = e.1 in
    let said = text_lines_one nt b b' i.ended h.said i.said (subst (λ (x : List (List ℕ)). AreTextLines nt b x h.said) ended h.ended_say) i.ended_say in
    let vectors : h.vectors ≡ i.vectors = one_begun_row nt i.begun h.vectors i.vectors (subst (λ (x : List ℕ). AreBegunVectors nt x h.vectors) begun h.begun_says) i.begun_says in (
      ap (λ (x : Said). x.generated) said,
      h.listing_is ∙ (ap (λ (x : Said). with_begun x.listing h.vectors) said ∙ (ap (with_begun i.said) vectors ∙ sym i.listing_is)),
      h.line_is ∙ (ap (λ (x : List (List ℕ)). length x + 1) ended ∙ sym i.line_is),
      h.column_is ∙ (ap (λ (x : List ℕ). length x + 1) begun ∙ sym i.column_is),
    )
