-- What the reader of the heading takes, and where it stops.
use Rattle.std.proofs.Common.{◌≡◌, ◌≢◌, ℕ, Bool, true, false, cond, List, [], ◌∷◌, ◌++◌, Option, Some, None, Result, Ok, refl, sym, ◌∙◌, ap, subst, arith, inl, inr, ◌⊎◌, append_assoc}
use Rattle.std.specs.Prelude.{◌==◌, codes}
use Rattle.std.proofs.lemmas.Bool.Decides.{eqb_tells}
use Rattle.std.proofs.lemmas.List.{append-nil}
use Rattle.triplets.specs.declared.notation.Notation.{Notation}
use Rattle.triplets.specs.declared.fault.TextKind.{TextKind}
use Rattle.triplets.specs.declared.fault.TextKind.TheVariants as kinds
use Rattle.triplets.specs.declared.marks.Mark.{Mark}
use Rattle.triplets.specs.declared.marks.Mark.TheVariants as marks
use Rattle.triplets.specs.declared.heading.HeadingPlace.{HeadingPlace}
use Rattle.triplets.specs.declared.heading.HeadingPlace.TheVariants as words
use Rattle.triplets.specs.Marks.{mark}
use Rattle.triplets.specs.Grammar.{Blank, space, tab, carriage_return, blank_byte, blanks_text}
use Rattle.triplets.specs.Lines.{comment_text}
use Rattle.triplets.specs.Bytes.{opening}
use Rattle.triplets.specs.BegunLines.{AreBegunVectors}
use Rattle.triplets.specs.Headings.{IsHeading}
use Rattle.triplets.specs.Places.{IsPrefixIn}
use Rattle.triplets.specs.HeadingReading.{letter_step, behind_word, heading_step, is_whole}
use Rattle.triplets.proofs.Bytes.{IsMark, mark_is}
use Rattle.triplets.proofs.Partials.{blanks_more}
use Rattle.triplets.proofs.Runs.{going, stopped, going_is, stopped_is, not_going, run_more}
use Rattle.triplets.specs.Runs.{run_by}
use Rattle.triplets.proofs.Places.{itself, none_begins}

-- the bytes behind the first letter one by one
abbrev pub heading_run : (nt : Notation) → Result HeadingPlace TextKind → List ℕ → Result HeadingPlace TextKind
heading_run nt = run_by (heading_step nt)

-- the word behind its first letter
abbrev pub other_letters : List ℕ
other_letters = codes "enerators"

-- ---- the beginning of a heading

-- what stands behind the first letter, at each place
abbrev pub IsBegun : HeadingPlace → List ℕ → Type 0
IsBegun words.G hs = hs ≡ []
IsBegun words.Ge hs = hs ≡ codes "e"
IsBegun words.Gen hs = hs ≡ codes "en"
IsBegun words.Gene hs = hs ≡ codes "ene"
IsBegun words.Gener hs = hs ≡ codes "ener"
IsBegun words.Genera hs = hs ≡ codes "enera"
IsBegun words.Generat hs = hs ≡ codes "enerat"
IsBegun words.Generato hs = hs ≡ codes "enerato"
IsBegun words.Generator hs = hs ≡ codes "enerator"
IsBegun words.Generators hs = (ks : List Blank) × (hs ≡ other_letters ++ blanks_text ks)
IsBegun words.Comment hs = (ks : List Blank) × (cs : List ℕ) × (hs ≡ other_letters ++ (blanks_text ks ++ 35 ∷ cs))

letter_by : (t u : Bool) (next q : HeadingPlace) → cond t (going next) (cond u (stopped kinds.MissingPart) (stopped kinds.UnknownSign)) ≡ going q → (t ≡ true) × (q ≡ next)
letter_by true u next q e = (refl, let z : q ≡ next = cc in z)
letter_by false true next q e = absurd cc
letter_by false false next q e = absurd cc

is_equal : (b n : ℕ) → (b == n) ≡ true → b ≡ n
is_equal b n e = elim (eqb_tells b n) [ inl h ↦ h.1 | inr h ↦ absurd (let z : true ≡ false = sym e ∙ h.0 in cc) ]

longer : (hs xs : List ℕ) (b n : ℕ) → hs ≡ xs → b ≡ n → hs ++ b ∷ [] ≡ xs ++ n ∷ []
longer hs xs b n e f = ap (λ (x : List ℕ). x ++ b ∷ []) e ∙ ap (λ c. xs ++ c ∷ []) f

-- the letter that comes was read
letter_more : (xs hs : List ℕ) (n b : ℕ) (next q : HeadingPlace) → (hs ++ b ∷ [] ≡ xs ++ n ∷ [] → IsBegun next (hs ++ b ∷ [])) → hs ≡ xs → letter_step n next b ≡ going q → IsBegun q (hs ++ b ∷ [])
letter_more xs hs n b next q f g h =
    let e = letter_by (b == n) (b == 35) next q h in
    subst (λ x. IsBegun x (hs ++ b ∷ [])) (sym e.1) (f (longer hs xs b n g (is_equal b n e.0)))

behind_more : (nt : Notation) → (m : Mark) (hs : List ℕ) (b : ℕ) (q : HeadingPlace) → IsMark nt b m → IsBegun words.Generators hs → behind_word m ≡ going q → IsBegun q (hs ++ b ∷ [])
behind_more nt marks.Blank hs b q i g h =
    subst (λ x. IsBegun x (hs ++ b ∷ [])) (sym (going_is words.Generators q h))
    (g.0 ++ i.0 ∷ [], longer hs (other_letters ++ blanks_text g.0) b (blank_byte i.0) g.1 i.1 ∙ ap (λ (x : List ℕ). other_letters ++ x) (blanks_more g.0 i.0))
behind_more nt marks.Hash hs b q i g h = subst (λ x. IsBegun x (hs ++ b ∷ [])) (sym (going_is words.Comment q h)) (g.0, [], longer hs (other_letters ++ blanks_text g.0) b 35 g.1 i)
behind_more nt m hs b q i g h = not_going _ q h

-- one more byte
pub begun_more : (nt : Notation) → (p q : HeadingPlace) (hs : List ℕ) (b : ℕ) → IsBegun p hs → heading_step nt b p ≡ going q → IsBegun q (hs ++ b ∷ [])
begun_more nt words.G q hs b g h = letter_more [] hs 101 b words.Ge q (λ e. e) g h
begun_more nt words.Ge q hs b g h = letter_more (codes "e") hs 110 b words.Gen q (λ e. e) g h
begun_more nt words.Gen q hs b g h = letter_more (codes "en") hs 101 b words.Gene q (λ e. e) g h
begun_more nt words.Gene q hs b g h = letter_more (codes "ene") hs 114 b words.Gener q (λ e. e) g h
begun_more nt words.Gener q hs b g h = letter_more (codes "ener") hs 97 b words.Genera q (λ e. e) g h
begun_more nt words.Genera q hs b g h = letter_more (codes "enera") hs 116 b words.Generat q (λ e. e) g h
begun_more nt words.Generat q hs b g h = letter_more (codes "enerat") hs 111 b words.Generato q (λ e. e) g h
begun_more nt words.Generato q hs b g h = letter_more (codes "enerato") hs 114 b words.Generator q (λ e. e) g h
begun_more nt words.Generator q hs b g h = letter_more (codes "enerator") hs 115 b words.Generators q (λ e. ([], e)) g h
begun_more nt words.Generators q hs b g h = behind_more nt (mark nt b) hs b q (mark_is nt b) g h
begun_more nt words.Comment q hs b g h =
    subst (λ x. IsBegun x (hs ++ b ∷ [])) (sym (going_is words.Comment q h)) (
      g.0,
      g.1 ++ b ∷ [],
      longer hs (other_letters ++ (blanks_text g.0 ++ 35 ∷ g.1)) b b g.2 refl ∙ ap (λ (x : List ℕ). other_letters ++ x) (append_assoc (blanks_text g.0) (35 ∷ g.1) (b ∷ [])),
    )

-- ---- what was read goes on to a heading

heading_with : (bs : List Blank) (hs rest : List ℕ) (ks : List Blank) (c : Option (List ℕ)) → hs ++ rest ≡ other_letters ++ (blanks_text ks ++ comment_text c) → IsPrefixIn IsHeading (blanks_text bs ++ (103 ∷ hs))
heading_with bs hs rest ks c e = (
  rest,
  record {
    before = bs;
    behind = ks;
    comment = c;
    text = append_assoc (blanks_text bs) (103 ∷ hs) rest ∙ ap (λ (x : List ℕ). blanks_text bs ++ (103 ∷ x)) e;
  },
)

letters_prefix : (bs : List Blank) (xs hs rest : List ℕ) → xs ++ rest ≡ other_letters → hs ≡ xs → IsPrefixIn IsHeading (blanks_text bs ++ (103 ∷ hs))
letters_prefix bs xs hs rest e g = heading_with bs hs rest [] None (ap (λ (x : List ℕ). x ++ rest) g ∙ (e ∙ refl))

pub whole_heading : (bs : List Blank) (p : HeadingPlace) (hs : List ℕ) → IsBegun p hs → is_whole p ≡ true → IsHeading (blanks_text bs ++ (103 ∷ hs))
whole_heading bs words.Generators hs g e =
    record { before = bs; behind = g.0; comment = None; text = ap (λ (x : List ℕ). blanks_text bs ++ (103 ∷ x)) (g.1 ∙ ap (λ (x : List ℕ). other_letters ++ x) (sym (append-nil (blanks_text g.0)))) }
whole_heading bs words.Comment hs g e = record { before = bs; behind = g.0; comment = Some g.1; text = ap (λ (x : List ℕ). blanks_text bs ++ (103 ∷ x)) g.2 }
whole_heading bs p hs g e = absurd cc

pub begun_prefix : (bs : List Blank) (p : HeadingPlace) (hs : List ℕ) → IsBegun p hs → IsPrefixIn IsHeading (blanks_text bs ++ (103 ∷ hs))
begun_prefix bs words.G hs g = letters_prefix bs [] hs (codes "enerators") refl g
begun_prefix bs words.Ge hs g = letters_prefix bs (codes "e") hs (codes "nerators") refl g
begun_prefix bs words.Gen hs g = letters_prefix bs (codes "en") hs (codes "erators") refl g
begun_prefix bs words.Gene hs g = letters_prefix bs (codes "ene") hs (codes "rators") refl g
begun_prefix bs words.Gener hs g = letters_prefix bs (codes "ener") hs (codes "ators") refl g
begun_prefix bs words.Genera hs g = letters_prefix bs (codes "enera") hs (codes "tors") refl g
begun_prefix bs words.Generat hs g = letters_prefix bs (codes "enerat") hs (codes "ors") refl g
begun_prefix bs words.Generato hs g = letters_prefix bs (codes "enerato") hs (codes "rs") refl g
begun_prefix bs words.Generator hs g = letters_prefix bs (codes "enerator") hs (codes "s") refl g
begun_prefix bs words.Generators hs g = itself IsHeading (blanks_text bs ++ (103 ∷ hs)) (whole_heading bs words.Generators hs g refl)
begun_prefix bs words.Comment hs g = itself IsHeading (blanks_text bs ++ (103 ∷ hs)) (whole_heading bs words.Comment hs g refl)

-- ---- a heading is read

blanks_run : (nt : Notation) → (ks : List Blank) (xs : List ℕ) → heading_run nt (going words.Generators) (blanks_text ks ++ xs) ≡ heading_run nt (going words.Generators) xs
blanks_run nt [] xs = refl
blanks_run nt (space ∷ ks) xs = blanks_run nt ks xs
blanks_run nt (tab ∷ ks) xs = blanks_run nt ks xs
blanks_run nt (carriage_return ∷ ks) xs = blanks_run nt ks xs

pub comment_run : (nt : Notation) → (cs : List ℕ) → heading_run nt (going words.Comment) cs ≡ going words.Comment
comment_run nt [] = refl
comment_run nt (c ∷ cs) = comment_run nt cs

begun_run : (nt : Notation) → (p : HeadingPlace) (hs : List ℕ) → IsBegun p hs → heading_run nt (going words.G) hs ≡ going p
begun_run nt words.G hs g = ap (heading_run nt (going words.G)) g
begun_run nt words.Generators hs g = ap (heading_run nt (going words.G)) (g.1 ∙ ap (λ (x : List ℕ). other_letters ++ x) (sym (append-nil (blanks_text g.0)))) ∙ blanks_run nt g.0 []
begun_run nt words.Comment hs g = ap (heading_run nt (going words.G)) g.2 ∙ (blanks_run nt g.0 (35 ∷ g.1) ∙ comment_run nt g.1)
begun_run nt p hs g = ap (heading_run nt (going words.G)) g

-- the bytes behind the first letter are read to the end of the heading
record IsRead (nt : Notation) (hs : List ℕ) : Type 0 where
  last : HeadingPlace
  run_is : heading_run nt (going words.G) hs ≡ going last
  whole : is_whole last ≡ true

word_read : (nt : Notation) → (ks : List Blank) (c : Option (List ℕ)) → IsRead nt (other_letters ++ (blanks_text ks ++ comment_text c))
word_read nt ks None = record { last = words.Generators; run_is = blanks_run nt ks []; whole = refl }
word_read nt ks (Some cs) = record { last = words.Comment; run_is = blanks_run nt ks (35 ∷ cs) ∙ comment_run nt cs; whole = refl }

-- ---- where the word begins

blank_no_g : (k : Blank) → blank_byte k ≢ 103
blank_no_g space e = omega arith
blank_no_g k e = omega arith

head_is : (a b : ℕ) (xs ys : List ℕ) → a ∷ xs ≡ b ∷ ys → a ≡ b
head_is a b xs ys e = cc

tail_is : (a b : ℕ) (xs ys : List ℕ) → a ∷ xs ≡ b ∷ ys → xs ≡ ys
tail_is a b xs ys e = cc

behind_g : (bs ks : List Blank) (xs ys : List ℕ) → blanks_text bs ++ (103 ∷ xs) ≡ blanks_text ks ++ (103 ∷ ys) → xs ≡ ys
behind_g [] [] xs ys e = tail_is 103 103 xs ys e
behind_g [] (k ∷ ks) xs ys e = absurd (blank_no_g k (sym (head_is _ _ _ _ e)))
behind_g (b ∷ bs) [] xs ys e = absurd (blank_no_g b (head_is _ _ _ _ e))
behind_g (b ∷ bs) (k ∷ ks) xs ys e = behind_g bs ks xs ys (tail_is _ _ _ _ e)

begins_by : (bs ks : List Blank) (b : ℕ) (xs ys : List ℕ) → blanks_text bs ++ (b ∷ xs) ≡ blanks_text ks ++ (103 ∷ ys) → (b ≡ 103) ⊎ ((k : Blank) × (b ≡ blank_byte k))
begins_by [] [] b xs ys e = inl (head_is b 103 xs ys e)
begins_by [] (k ∷ ks) b xs ys e = inr (k, head_is _ _ _ _ e)
begins_by (c ∷ bs) [] b xs ys e = absurd (blank_no_g c (head_is _ _ _ _ e))
begins_by (c ∷ bs) (k ∷ ks) b xs ys e = begins_by bs ks b xs ys (tail_is _ _ _ _ e)

heading_read : (nt : Notation) → (bs : List Blank) (hs : List ℕ) → IsHeading (blanks_text bs ++ (103 ∷ hs)) → IsRead nt hs
heading_read nt bs hs h = subst (IsRead nt) (sym (behind_g bs h.before hs (other_letters ++ (blanks_text h.behind ++ comment_text h.comment)) h.text)) (word_read nt h.behind h.comment)

-- ---- what is no heading

-- where the reader stops none begins so
pub no_heading : (nt : Notation) → (bs : List Blank) (p : HeadingPlace) (hs : List ℕ) (b : ℕ) (k : TextKind) → IsBegun p hs → heading_step nt b p ≡ stopped k → IsPrefixIn IsHeading (blanks_text bs ++ (103 ∷ (hs ++ b ∷ []))) → ⊥
no_heading nt bs p hs b k g e h =
    none_begins (heading_step nt) words.G (λ xs. IsHeading (blanks_text bs ++ (103 ∷ xs))) (λ xs i. let r = heading_read nt bs xs i in (r.last, r.run_is)) (hs ++ b ∷ []) k
    (run_more (heading_step nt) (Ok words.G) hs b p (stopped k) (begun_run nt p hs g) e)
    (h.0, subst IsHeading (append_assoc (blanks_text bs) (103 ∷ (hs ++ b ∷ [])) h.0) h.1)

-- a word that ends too early
pub no_whole_heading : (nt : Notation) → (bs : List Blank) (p : HeadingPlace) (hs : List ℕ) → IsBegun p hs → is_whole p ≡ false → IsHeading (blanks_text bs ++ (103 ∷ hs)) → ⊥
no_whole_heading nt bs p hs g e h =
    let r = heading_read nt bs hs h in
    let s : p ≡ r.last = going_is r.last p (sym r.run_is ∙ begun_run nt p hs g) in
    let z : true ≡ false = sym r.whole ∙ (ap is_whole (sym s) ∙ e) in
    cc

-- no other byte begins it
pub other_beginning : (bs : List Blank) (b : ℕ) → b ≢ 103 → ((k : Blank) → b ≢ blank_byte k) → IsPrefixIn IsHeading (blanks_text bs ++ b ∷ []) → ⊥
other_beginning bs b n m h =
    elim (begins_by bs h.1.before b h.0 _ (sym (append_assoc (blanks_text bs) (b ∷ []) h.0) ∙ h.1.text)) [
      | inl e ↦ n e
      | inr e ↦ m e.0 e.1
    ]

-- no vector stands where it begins
pub no_vector : (nt : Notation) → (bs : List Blank) (hs : List ℕ) → AreBegunVectors nt (blanks_text bs ++ (103 ∷ hs)) []
no_vector nt bs hs c rest e =
    elim (begins_by c.before bs opening _ hs (sym (append_assoc (blanks_text c.before) _ rest) ∙ sym e)) [
      | inl z ↦ omega (arith, z)
      | inr z ↦ blank_no_bracket z.0 (sym z.1)
    ]
  where
    blank_no_bracket : (k : Blank) → blank_byte k ≢ opening
    blank_no_bracket space e = omega arith
    blank_no_bracket k e = omega arith

-- ---- the faults of the reader

-- a byte that the heading does not go on with: a comment too early, or any other
pub stopped_by : (nt : Notation) → (p : HeadingPlace) (b : ℕ) (k : TextKind) → heading_step nt b p ≡ stopped k → ((b ≡ 35) × (k ≡ kinds.MissingPart)) ⊎ ((mark nt b ≢ marks.Hash) × (k ≡ kinds.UnknownSign))
stopped_by nt p b k h = by_place p h
  where
    hash_is : mark nt b ≡ marks.Hash → b ≡ 35
    hash_is e = subst (IsMark nt b) e (mark_is nt b)

    letter : (n : ℕ) (next : HeadingPlace) → letter_step n next b ≡ stopped k → ((b ≡ 35) × (k ≡ kinds.MissingPart)) ⊎ ((mark nt b ≢ marks.Hash) × (k ≡ kinds.UnknownSign))
    letter n next e = by (b == n) e
      where
        by : (t : Bool) → cond t (going next) (cond (b == 35) (stopped kinds.MissingPart) (stopped kinds.UnknownSign)) ≡ stopped k → ((b ≡ 35) × (k ≡ kinds.MissingPart)) ⊎ ((mark nt b ≢ marks.Hash) × (k ≡ kinds.UnknownSign))
        by true e = absurd cc
        by false e =
            elim (eqb_tells b 35) [
              | inl x ↦ inl (x.1, stopped_is kinds.MissingPart k (sym (ap (λ t. cond t (stopped kinds.MissingPart) (stopped kinds.UnknownSign)) x.0) ∙ e))
              | inr x ↦ inr (
                (λ y. let z : (b == 35) ≡ true = ap (λ c. c == 35) (hash_is y) in let w : true ≡ false = sym z ∙ x.0 in cc),
                stopped_is kinds.UnknownSign k (sym (ap (λ t. cond t (stopped kinds.MissingPart) (stopped kinds.UnknownSign)) x.0) ∙ e),
              )
            ]

    behind : (m : Mark) → mark nt b ≡ m → behind_word m ≡ stopped k → ((b ≡ 35) × (k ≡ kinds.MissingPart)) ⊎ ((mark nt b ≢ marks.Hash) × (k ≡ kinds.UnknownSign))
    behind marks.Blank i e = absurd cc
    behind marks.Hash i e = absurd cc
    behind (marks.Signs s) i e = inr ((λ y. let z : marks.Signs s ≡ marks.Hash = sym i ∙ y in cc), stopped_is kinds.UnknownSign k e)
    behind (marks.Letter a) i e = inr ((λ y. let z : marks.Letter a ≡ marks.Hash = sym i ∙ y in cc), stopped_is kinds.UnknownSign k e)
    behind (marks.Digit d) i e = inr ((λ y. let z : marks.Digit d ≡ marks.Hash = sym i ∙ y in cc), stopped_is kinds.UnknownSign k e)
    behind m i e = inr ((λ y. let z : m ≡ marks.Hash = sym i ∙ y in cc), stopped_is kinds.UnknownSign k e)

    by_place : (p : HeadingPlace) → heading_step nt b p ≡ stopped k → ((b ≡ 35) × (k ≡ kinds.MissingPart)) ⊎ ((mark nt b ≢ marks.Hash) × (k ≡ kinds.UnknownSign))
    by_place words.G e = letter 101 words.Ge e
    by_place words.Ge e = letter 110 words.Gen e
    by_place words.Gen e = letter 101 words.Gene e
    by_place words.Gene e = letter 114 words.Gener e
    by_place words.Gener e = letter 97 words.Genera e
    by_place words.Genera e = letter 116 words.Generat e
    by_place words.Generat e = letter 111 words.Generato e
    by_place words.Generato e = letter 114 words.Generator e
    by_place words.Generator e = letter 115 words.Generators e
    by_place words.Generators e = behind (mark nt b) refl e
    by_place words.Comment e = absurd cc
