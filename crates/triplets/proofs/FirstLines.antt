-- The faults of line 1.
use Rattle.std.proofs.Common.{◌≡◌, ◌≢◌, ℕ, ◌+◌, false, List, [], ◌∷◌, ◌++◌, length, take, None, Ok, refl, sym, ◌∙◌, subst, arith, inl, inr, append_assoc}
use Rattle.std.proofs.lemmas.Bool.{cases_lt}
use Rattle.std.proofs.lemmas.List.{append-nil, take-take}
use Rattle.triplets.specs.declared.notation.Notation.{Notation}
use Rattle.triplets.specs.declared.fault.TextKind.{TextKind}
use Rattle.triplets.specs.declared.fault.TextKind.TheVariants as kinds
use Rattle.triplets.specs.declared.heading.HeadingPlace.{HeadingPlace}
use Rattle.triplets.specs.Marks.{mark}
use Rattle.triplets.specs.Grammar.{Blank, space, tab, carriage_return, blank_byte, blanks_text}
use Rattle.triplets.specs.Lines.{empty, IsLine}
use Rattle.triplets.specs.LineReading.{line_start, line_step, line_run, line_byte}
use Rattle.triplets.specs.Headings.{IsHeading}
use Rattle.triplets.specs.HeadingReading.{heading_step, is_whole}
use Rattle.triplets.specs.Places.{IsPrefixIn}
use Rattle.triplets.specs.LineFaults.{IsGoodLine, IsGoodFirstLine, IsPrefixOfGoodLine, IsFaultIn, IsLineFault, HasLineKind}
use Rattle.triplets.specs.Texts.{nothing_listed}
use Rattle.triplets.proofs.LineKinds.{line_kind}
use Rattle.triplets.proofs.LinePlaces.{no_line_prefix}
use Rattle.triplets.proofs.Headings.{IsBegun, begun_prefix, no_heading, no_whole_heading, other_beginning}
use Rattle.triplets.proofs.HeadingKinds.{heading_kind}
use Rattle.triplets.proofs.Runs.{going, stopped, run_more}
use Rattle.triplets.proofs.Places.{end_from, fault_from, shorter, itself}
use Rattle.triplets.proofs.Bytes.{blanks_keep}

-- no line of either kind begins so
neither : (nt : Notation) → (bytes : List ℕ) → (IsPrefixOfGoodLine nt bytes → ⊥) → (IsPrefixIn IsHeading bytes → ⊥) → IsPrefixIn (IsGoodFirstLine nt) bytes → ⊥
neither nt bytes f g h = elim h.1 [ inl x ↦ f (h.0, x) | inr x ↦ g (h.0, x) ]

-- ---- blanks alone

pub blanks_line : (nt : Notation) → (bs : List Blank) → IsLine nt (blanks_text bs ++ []) nothing_listed
blanks_line nt bs = record { form = empty bs; comment = None; text = refl; value = refl }

pub blanks_read : (nt : Notation) → (bs : List Blank) → line_run nt (Ok line_start) (blanks_text bs) ≡ going line_start
blanks_read nt = blanks_keep nt (line_step nt) line_start refl

pub blanks_prefix : (nt : Notation) → (bs : List Blank) → IsPrefixIn (IsGoodFirstLine nt) (blanks_text bs)
blanks_prefix nt bs = ([], inl (nothing_listed, blanks_line nt bs))

-- a byte that begins neither a line of the grammar nor the word
pub beginning_fault : (nt : Notation) → (bs : List Blank) (b : ℕ) (rest : List ℕ) (k : TextKind) → b ≢ 103 → ((c : Blank) → b ≢ blank_byte c) → line_step nt (mark nt b) line_start ≡ stopped k →
    IsFaultIn nt (IsGoodFirstLine nt) (blanks_text bs ++ b ∷ rest) (length (blanks_text bs)) k
beginning_fault nt bs b rest k n m e =
    fault_from (HasLineKind nt) (IsGoodFirstLine nt) (blanks_text bs) rest b k (blanks_prefix nt bs)
    (neither nt (blanks_text bs ++ b ∷ []) (no_line_prefix nt (blanks_text bs ++ b ∷ []) k (run_more (line_byte nt) (Ok line_start) (blanks_text bs) b line_start (stopped k) (blanks_read nt bs) e)) (other_beginning bs b n m))
    (line_kind nt (blanks_text bs) b line_start k (blanks_read nt bs) e)

-- ---- the word

g_stops : (nt : Notation) → (bs : List Blank) → line_run nt (Ok line_start) (blanks_text bs ++ 103 ∷ []) ≡ stopped kinds.UnknownSign
g_stops nt [] = refl
g_stops nt (space ∷ bs) = g_stops nt bs
g_stops nt (tab ∷ bs) = g_stops nt bs
g_stops nt (carriage_return ∷ bs) = g_stops nt bs

no_line : (nt : Notation) → (bs : List Blank) (hs : List ℕ) → IsPrefixOfGoodLine nt (blanks_text bs ++ (103 ∷ hs)) → ⊥
no_line nt bs hs h =
    no_line_prefix nt (blanks_text bs ++ 103 ∷ []) kinds.UnknownSign (g_stops nt bs)
    (hs ++ h.0, subst (IsGoodLine nt) (append_assoc (blanks_text bs) (103 ∷ hs) h.0 ∙ sym (append_assoc (blanks_text bs) (103 ∷ []) (hs ++ h.0))) h.1)

pub word_prefix : (nt : Notation) → (bs : List Blank) (p : HeadingPlace) (hs : List ℕ) → IsBegun p hs → IsPrefixIn (IsGoodFirstLine nt) (blanks_text bs ++ (103 ∷ hs))
word_prefix nt bs p hs g = let h = begun_prefix bs p hs g in (h.0, inr h.1)

-- a byte that the heading does not go on with
pub word_fault : (nt : Notation) → (bs : List Blank) (p : HeadingPlace) (hs : List ℕ) (b : ℕ) (rest : List ℕ) (k : TextKind) → IsBegun p hs → heading_step nt b p ≡ stopped k →
    IsFaultIn nt (IsGoodFirstLine nt) ((blanks_text bs ++ (103 ∷ hs)) ++ b ∷ rest) (length (blanks_text bs ++ (103 ∷ hs))) k
word_fault nt bs p hs b rest k g e =
    fault_from (HasLineKind nt) (IsGoodFirstLine nt) (blanks_text bs ++ (103 ∷ hs)) rest b k (word_prefix nt bs p hs g)
    (subst (λ (x : List ℕ). IsPrefixIn (IsGoodFirstLine nt) x → ⊥) (sym (append_assoc (blanks_text bs) (103 ∷ hs) (b ∷ [])))
    (neither nt (blanks_text bs ++ (103 ∷ (hs ++ b ∷ []))) (no_line nt bs (hs ++ b ∷ [])) (no_heading nt bs p hs b k g e)))
    (heading_kind nt bs p hs b k g e)

-- a word that ends too early
pub short_word_fault : (nt : Notation) → (bs : List Blank) (p : HeadingPlace) (hs : List ℕ) → IsBegun p hs → is_whole p ≡ false →
    (let before : List ℕ = blanks_text bs ++ (103 ∷ hs) in IsFaultIn nt (IsGoodFirstLine nt) (before ++ []) (length before) kinds.MissingPart)
short_word_fault nt bs p hs g e =
    let before : List ℕ = blanks_text bs ++ (103 ∷ hs) in
    subst (λ (x : List ℕ). IsFaultIn nt (IsGoodFirstLine nt) x (length before) kinds.MissingPart) (sym (append-nil before))
    (end_from (HasLineKind nt) (IsGoodFirstLine nt) before (λ h. elim h [ inl x ↦ no_line nt bs hs ([], subst (IsGoodLine nt) (sym (append-nil before)) x) | inr x ↦ no_whole_heading nt bs p hs g e x ]) (word_prefix nt bs p hs g))

-- ---- a line of the grammar

-- the first m bytes begin a line of the grammar and no heading
pub record IsApart (nt : Notation) (l : List ℕ) (m : ℕ) : Type 0 where
  pub line : IsPrefixOfGoodLine nt (take m l)
  pub heading : IsPrefixIn IsHeading (take m l) → ⊥

pub no_whole : (nt : Notation) → (l : List ℕ) (m : ℕ) → IsApart nt l m → IsHeading l → ⊥
no_whole nt l m a h = a.heading (shorter IsHeading l m (itself IsHeading l h))

-- a fault stands behind these bytes, and no heading goes on so
not_so_far : (Good : List ℕ → Type 0) (l : List ℕ) (m n : ℕ) → IsPrefixIn Good (take m l) → (IsPrefixIn IsHeading (take m l) → ⊥) → (IsPrefixIn Good (take n l) → ⊥) → IsPrefixIn IsHeading (take n l) → ⊥
not_so_far Good l m n good heading bad h =
    elim (cases_lt n m) [
      | inl x ↦ bad (subst (IsPrefixIn Good) (take-take n m l (omega (arith, x))) (shorter Good (take m l) n good))
      | inr x ↦ heading (subst (IsPrefixIn IsHeading) (take-take m n l x) (shorter IsHeading (take n l) m h))
    ]

pub first_of_line : (nt : Notation) → (l : List ℕ) (m n : ℕ) (k : TextKind) → IsApart nt l m → IsLineFault nt l n k → IsFaultIn nt (IsGoodFirstLine nt) l n k
first_of_line nt l m n k a f = record {
  place = record {
    within = f.place.within;
    good = λ h. elim h [ inl x ↦ f.place.good x | inr x ↦ no_whole nt l m a x ];
    prefix = (f.place.prefix.0, inl f.place.prefix.1);
    here = λ z. neither nt (take (n + 1) l) (f.place.here z) (not_so_far (IsGoodLine nt) l m (n + 1) a.line a.heading (f.place.here z));
  };
  kind_is = f.kind_is;
}

-- the other way round
pub line_of_first : (nt : Notation) → (l : List ℕ) (m n : ℕ) (k : TextKind) → IsApart nt l m → IsFaultIn nt (IsGoodFirstLine nt) l n k → IsLineFault nt l n k
line_of_first nt l m n k a f = record {
  place = record {
    within = f.place.within;
    good = λ h. f.place.good (inl h);
    prefix = elim (cases_lt n m) [
      | inl x ↦ subst (IsPrefixOfGoodLine nt) (take-take n m l (omega (arith, x))) (shorter (IsGoodLine nt) (take m l) n a.line)
      | inr x ↦ elim f.place.prefix.1 [
        | inl y ↦ (f.place.prefix.0, y)
        | inr y ↦ absurd (a.heading (subst (IsPrefixIn IsHeading) (take-take m n l x) (shorter IsHeading (take n l) m (f.place.prefix.0, y))))
      ]
    ];
    here = λ z h. f.place.here z (h.0, inl h.1);
  };
  kind_is = f.kind_is;
}

-- no line is both
pub not_both : (nt : Notation) → (l : List ℕ) → IsHeading l → IsGoodLine nt l → ⊥
not_both nt l h g = no_line nt h.before _ (subst (IsPrefixOfGoodLine nt) h.text ([], subst (IsGoodLine nt) (sym (append-nil l)) g))
