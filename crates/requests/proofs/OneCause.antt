-- An input gives no group for one reason, and for none where it gives one.
use Rattle.std.proofs.Common.{◌≡◌, ◌≢◌, ◌<◌, ◌⊎◌, true, false, ℕ, List, Ok, Err, length, refl, ap, subst, inl, inr, arith}
use Rattle.symmetry.specs.Groups.{Listing}
use Rattle.cif_symops.specs.Answers.{FileSays}
use Rattle.cif_symops.specs.declared.fault.CifFault.{CifFault}
use Rattle.cif_symops.proofs.OneAnswer.{one_answer}
use Rattle.closure.specs.declared.group_error.GroupError.{GroupError}
use Rattle.closure.specs.declared.group_error.GroupError.TheVariants as groups
use Rattle.closure.specs.GroupErrors.{IsGroupError}
use Rattle.closure.specs.declared.generated_error.GeneratedError.{GeneratedError}
use Rattle.closure.specs.declared.generated_error.GeneratedError.TheVariants as generators
use Rattle.closure.specs.Derived.{IsGeneratedError}
use Rattle.closure.proofs.GeneratedErrors.{no_error}
use Rattle.closure.proofs.OneDerived.{one_error}
use Rattle.closure.proofs.OneError.{one_group_error, no_group_and_error}
use Rattle.triplets.specs.declared.notation.Notation.{Notation}
use Rattle.triplets.specs.Texts.{IsGroupText}
use Rattle.triplets.proofs.OneFault.{one_flag, one_listing, one_fault, no_listing_and_fault}
use Rattle.requests.specs.declared.request.Format.{Format}
use Rattle.requests.specs.declared.request.Format.TheVariants.{GroupText, Cif}
use Rattle.requests.specs.declared.refusal.Refusal.{Refusal}
use Rattle.requests.specs.declared.obstacle.Obstacle.TheVariants as obstacles
use Rattle.requests.specs.Obstacles.{obstacle_of_generators, obstacle_of_group}
use Rattle.requests.specs.Inputs.{Cause, too_long, of_text, of_cif, of_group, of_generators, IsCause, IsGeneratedBy, IsShort, ListsGroup, most_bytes, obstacle_of}
use Rattle.requests.proofs.CifFiles.{one_list}

not_both : (format : Format) (input : List ℕ) → most_bytes format < length input → IsShort format input → ⊥
not_both format input long short = absurd (omega arith)

known : (e : GroupError) (r : Refusal) → obstacle_of_group e ≡ obstacles.Refused r → e ≢ groups.NoMemory
known e r is memory = let none : obstacle_of_group groups.NoMemory ≡ obstacles.Refused r = subst (λ (e : GroupError). obstacle_of_group e ≡ obstacles.Refused r) memory is in absurd cc

known_of_generators : (e : GeneratedError) (r : Refusal) → obstacle_of_generators e ≡ obstacles.Refused r → e ≢ generators.NoMemory
known_of_generators e r is memory =
    let none : obstacle_of_generators generators.NoMemory ≡ obstacles.Refused r = subst (λ (e : GeneratedError). obstacle_of_generators e ≡ obstacles.Refused r) memory is in absurd cc

module _ (input : List ℕ) where
  -- ---- a text lists operations or generators, and one listing of them

  not_both_kinds : (nt : Notation) (g h : Listing) → IsGroupText nt input false g → IsGroupText nt input true h → ⊥
  not_both_kinds nt g h p q = let same = one_flag nt input false true g h p q in absurd cc

  module _ (nt : Notation) (r r' : Refusal) where
    of_a_text : (c d : Cause) → IsCause (GroupText nt) input c → IsCause (GroupText nt) input d → obstacle_of c ≡ obstacles.Refused r → obstacle_of d ≡ obstacles.Refused r' → c ≡ d
    of_a_text too_long too_long p q e e' = refl
    of_a_text too_long (of_text f) p q e e' = absurd (not_both (GroupText nt) input p q.0)
    of_a_text too_long (of_group g) p q e e' = absurd (not_both (GroupText nt) input p q.0)
    of_a_text too_long (of_generators g) p q e e' = absurd (not_both (GroupText nt) input p q.0)
    of_a_text (of_text f) too_long p q e e' = absurd (not_both (GroupText nt) input q p.0)
    of_a_text (of_text f) (of_text f') p q e e' = ap of_text (one_fault nt input f f' p.1 q.1)
    of_a_text (of_text f) (of_group g) p q e e' = absurd (no_listing_and_fault nt input false q.1.0 f p.1 q.1.1)
    of_a_text (of_text f) (of_generators g) p q e e' = absurd (no_listing_and_fault nt input true q.1.0 f p.1 q.1.1)
    of_a_text (of_group g) too_long p q e e' = absurd (not_both (GroupText nt) input q p.0)
    of_a_text (of_group g) (of_text f) p q e e' = absurd (no_listing_and_fault nt input false p.1.0 f q.1 p.1.1)
    of_a_text (of_group g) (of_group g') (short, (l, text, error)) (short', (l', text', error')) e e' =
        ap of_group (one_group_error l g g' (known g r e) (known g' r' e') error (subst (λ (l : Listing). IsGroupError l g') (one_listing nt input false false l' l text' text) error'))
    of_a_text (of_group g) (of_generators g') p q e e' = absurd (not_both_kinds nt p.1.0 q.1.0 p.1.1 q.1.1)
    of_a_text (of_generators g) too_long p q e e' = absurd (not_both (GroupText nt) input q p.0)
    of_a_text (of_generators g) (of_text f) p q e e' = absurd (no_listing_and_fault nt input true p.1.0 f q.1 p.1.1)
    of_a_text (of_generators g) (of_group g') p q e e' = absurd (not_both_kinds nt q.1.0 p.1.0 q.1.1 p.1.1)
    of_a_text (of_generators g) (of_generators g') (short, (l, text, error)) (short', (l', text', error')) e e' =
        ap of_generators (one_error l g g' (known_of_generators g r e) (known_of_generators g' r' e') error
        (subst (λ (l : Listing). IsGeneratedError l g') (one_listing nt input true true l' l text' text) error'))
    of_a_text (of_cif f) d p q e e' = absurd p
    of_a_text c (of_cif f) p q e e' = absurd q

  no_text_group : (nt : Notation) (r : Refusal) (g : Listing) (c : Cause) → IsShort (GroupText nt) input → ListsGroup (GroupText nt) input g → IsCause (GroupText nt) input c
      → obstacle_of c ≡ obstacles.Refused r → ⊥
  no_text_group nt r g c short lists p e = go c lists.is_listed p e
    where
      go : (c : Cause) → IsGroupText nt input false g ⊎ IsGeneratedBy nt input g → IsCause (GroupText nt) input c → obstacle_of c ≡ obstacles.Refused r → ⊥
      go too_long text p e = not_both (GroupText nt) input p short
      go (of_text f) (inl text) p e = no_listing_and_fault nt input false g f p.1 text
      go (of_text f) (inr of) p e = no_listing_and_fault nt input true of.generators f p.1 of.is_text
      go (of_cif f) text p e = p
      go (of_group error) (inl text) (short', (l, text', is)) e =
          known error r e (no_group_and_error g error lists.within lists.is_group (subst (λ (l : Listing). IsGroupError l error) (one_listing nt input false false l g text' text) is))
      go (of_group error) (inr of) (short', (l, text', is)) e = not_both_kinds nt l of.generators text' of.is_text
      go (of_generators error) (inl text) (short', (l, text', is)) e = not_both_kinds nt g l text text'
      go (of_generators error) (inr of) (short', (l, text', is)) e =
          known_of_generators error r e (no_error of.generators of.limits error
          (subst (λ (l : Listing). IsGeneratedError l error) (one_listing nt input true true l of.generators text' of.is_text) is))

  -- ---- a CIF file says one thing

  no_list_and_fault : (g : Listing) (f : CifFault) → FileSays input (Ok g) → FileSays input (Err f) → ⊥
  no_list_and_fault g f p q = let same = one_answer input (Ok g) (Err f) p q in absurd cc

  one_file_fault : (f f' : CifFault) → FileSays input (Err f) → FileSays input (Err f') → f ≡ f'
  one_file_fault f f' p q = let same = one_answer input (Err f) (Err f') p q in cc

  module _ (r r' : Refusal) where
    of_a_file : (c d : Cause) → IsCause Cif input c → IsCause Cif input d → obstacle_of c ≡ obstacles.Refused r → obstacle_of d ≡ obstacles.Refused r' → c ≡ d
    of_a_file too_long too_long p q e e' = refl
    of_a_file too_long (of_cif f) p q e e' = absurd (not_both Cif input p q.0)
    of_a_file too_long (of_group g) p q e e' = absurd (not_both Cif input p q.0)
    of_a_file (of_cif f) too_long p q e e' = absurd (not_both Cif input q p.0)
    of_a_file (of_cif f) (of_cif f') p q e e' = ap of_cif (one_file_fault f f' p.1 q.1)
    of_a_file (of_cif f) (of_group g) p q e e' = absurd (no_list_and_fault q.1.0 f q.1.1 p.1)
    of_a_file (of_group g) too_long p q e e' = absurd (not_both Cif input q p.0)
    of_a_file (of_group g) (of_cif f) p q e e' = absurd (no_list_and_fault p.1.0 f p.1.1 q.1)
    of_a_file (of_group g) (of_group g') (short, (l, says, error)) (short', (l', says', error')) e e' =
        ap of_group (one_group_error l g g' (known g r e) (known g' r' e') error (subst (λ (l : Listing). IsGroupError l g') (one_list input l' l says' says) error'))
    of_a_file (of_text f) d p q e e' = absurd p
    of_a_file (of_generators g) d p q e e' = absurd p
    of_a_file c (of_text f) p q e e' = absurd q
    of_a_file c (of_generators g) p q e e' = absurd q

  no_file_group : (r : Refusal) (g : Listing) (c : Cause) → IsShort Cif input → ListsGroup Cif input g → IsCause Cif input c
      → obstacle_of c ≡ obstacles.Refused r → ⊥
  no_file_group r g too_long short lists p e = not_both Cif input p short
  no_file_group r g (of_cif f) short lists p e = no_list_and_fault g f lists.is_listed p.1
  no_file_group r g (of_group error) short lists (short', (l, says, is)) e =
      known error r e (no_group_and_error g error lists.within lists.is_group (subst (λ (l : Listing). IsGroupError l error) (one_list input l g says lists.is_listed) is))
  no_file_group r g (of_text f) short lists p e = p
  no_file_group r g (of_generators error) short lists p e = p

-- ---- of either

pub one_cause : (format : Format) (input : List ℕ) (r r' : Refusal) (c d : Cause) → IsCause format input c → IsCause format input d
    → obstacle_of c ≡ obstacles.Refused r → obstacle_of d ≡ obstacles.Refused r' → c ≡ d
one_cause (GroupText nt) input r r' c d p q e e' = of_a_text input nt r r' c d p q e e'
one_cause Cif input r r' c d p q e e' = of_a_file input r r' c d p q e e'

pub no_group_and_cause : (format : Format) (input : List ℕ) (r : Refusal) (g : Listing) (c : Cause) → IsShort format input → ListsGroup format input g
    → IsCause format input c → obstacle_of c ≡ obstacles.Refused r → ⊥
no_group_and_cause (GroupText nt) input r g c short lists p e = no_text_group input nt r g c short lists p e
no_group_and_cause Cif input r g c short lists p e = no_file_group input r g c short lists p e
