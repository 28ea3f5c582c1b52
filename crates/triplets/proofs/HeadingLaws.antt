-- The kinds of faults behind letters of the heading's word.
use Rattle.std.proofs.Common.{◌≡◌, ◌≢◌, ℕ, cond, List, [], ◌∷◌, ◌++◌, Result, Ok, Err, refl, sym, ◌∙◌, ap, subst, inl, inr, append_assoc}
use Rattle.std.specs.Prelude.{◌==◌}
use Rattle.std.proofs.lemmas.Bool.Decides.{eqb_tells}
use Rattle.std.proofs.lemmas.List.{append-nil}
use Rattle.triplets.specs.declared.notation.Notation.{Notation}
use Rattle.triplets.specs.declared.fault.TextKind.{TextKind}
use Rattle.triplets.specs.declared.fault.TextKind.TheVariants as kinds
use Rattle.triplets.specs.declared.marks.Mark.TheVariants as marks
use Rattle.triplets.specs.declared.heading.HeadingPlace.{HeadingPlace}
use Rattle.triplets.specs.declared.heading.HeadingPlace.TheVariants as words
use Rattle.triplets.specs.Marks.{mark}
use Rattle.triplets.specs.Grammar.{Blank, blanks_text}
use Rattle.triplets.specs.Headings.{heading_word}
use Rattle.triplets.specs.HeadingReading.{heading_step}
use Rattle.triplets.specs.LineFaults.{HasLineKind}
use Rattle.triplets.proofs.Bytes.{IsMark, mark_is}
use Rattle.triplets.proofs.OneFault.{one_line_kind}
use Rattle.triplets.proofs.Headings.{heading_run, comment_run, other_letters, IsBegun, begun_more}
use Rattle.triplets.proofs.HeadingKinds.{IsCommented, other_kind}
use Rattle.triplets.proofs.Runs.{going, run-append, carries, no_run}

-- what is read from a place on
begun_on : (nt : Notation) → (xs hs : List ℕ) (p q : HeadingPlace) → IsBegun p hs → heading_run nt (Ok p) xs ≡ going q → IsBegun q (hs ++ xs)
begun_on nt xs hs p q g w =
    let x = carries (heading_step nt) (λ r ys. (ks : List ℕ) × IsBegun r ks × (hs ++ xs ≡ ks ++ ys)) (λ b ys r s h e. (h.0 ++ b ∷ [], begun_more nt r s h.0 b h.1 e, h.2 ∙ sym (append_assoc h.0 (b ∷ []) ys))) xs p q (hs, g, refl) w in
    subst (IsBegun q) (sym (x.2 ∙ append-nil x.0)) x.1

-- letters of the word, and where the reader stands behind them
record IsPartly (hs : List ℕ) : Type 0 where
  place : HeadingPlace
  begun : IsBegun place hs
  no_comment : IsCommented place → ⊥

commented : (nt : Notation) → (p : HeadingPlace) (xs : List ℕ) → heading_run nt (going p) xs ≡ going words.Generators → IsCommented p → ⊥
commented nt words.Comment xs w h = let z : going words.Comment ≡ going words.Generators = sym (comment_run nt xs) ∙ w in cc
commented nt p xs w h = h

partly_by : (nt : Notation) → (r : Result HeadingPlace TextKind) (hs more : List ℕ) → heading_run nt (going words.G) hs ≡ r → heading_run nt r more ≡ going words.Generators → IsPartly hs
partly_by nt (Err k) hs more h w = no_run (heading_step nt) k more words.Generators w
partly_by nt (Ok p) hs more h w = record { place = p; begun = begun_on nt hs [] words.G p refl h; no_comment = commented nt p more w }

partly : (nt : Notation) → (hs more : List ℕ) → hs ++ more ≡ other_letters → IsPartly hs
partly nt hs more e = partly_by nt (heading_run nt (going words.G) hs) hs more refl (sym (run-append (heading_step nt) (going words.G) hs more) ∙ ap (heading_run nt (going words.G)) e)

hash_is : (nt : Notation) → (b : ℕ) → mark nt b ≡ marks.Hash → b ≡ 35
hash_is nt b e = subst (IsMark nt b) e (mark_is nt b)

kind_by : (nt : Notation) → (bs : List Blank) (hs : List ℕ) (b : ℕ) (kind : TextKind) → IsPartly hs → HasLineKind nt (blanks_text bs ++ (103 ∷ hs)) b kind → kind ≡ cond (b == 35) kinds.MissingPart kinds.UnknownSign
kind_by nt bs hs b kind g h =
    elim (eqb_tells b 35) [
      | inl x ↦ one_line_kind nt (blanks_text bs ++ (103 ∷ hs)) b kind kinds.MissingPart h (inl (x.1, refl)) ∙ sym (ap (λ t. cond t kinds.MissingPart kinds.UnknownSign) x.0)
      | inr x ↦ one_line_kind nt (blanks_text bs ++ (103 ∷ hs)) b kind kinds.UnknownSign h (other_kind nt bs g.place hs b g.begun g.no_comment (λ e. x.1 (hash_is nt b e))) ∙ sym (ap (λ t. cond t kinds.MissingPart kinds.UnknownSign) x.0)
    ]

-- behind letters of the word a comment comes too early, and any other byte is none that may stand there
pub kind_in_heading : (nt : Notation) → (blanks : List Blank) (letters rest : List ℕ) (b : ℕ) (kind : TextKind) → letters ++ rest ≡ heading_word → letters ≢ [] → HasLineKind nt (blanks_text blanks ++ letters) b kind → kind ≡ cond (b == 35) kinds.MissingPart kinds.UnknownSign
kind_in_heading nt bs [] rest b kind e n h = absurd (n refl)
kind_in_heading nt bs (c ∷ hs) rest b kind e n h =
    let first : c ≡ 103 = cc in
    let others : hs ++ rest ≡ other_letters = cc in
    kind_by nt bs hs b kind (partly nt hs rest others) (subst (λ x. HasLineKind nt (blanks_text bs ++ (x ∷ hs)) b kind) first h)
