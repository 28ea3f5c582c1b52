-- A source that is read in pieces, each fed to the reader of a text.
use Rattle.std.proofs.Common.{◌≡◌, ◌⊎◌, ℕ, ◌+◌, ◌≤◌, List, [], ◌++◌, length, take, Option, None, Some, Result, Err, IfErr, IfSome, refl, sym, ap, ◌∙◌, subst, inl, inr, append-nil, length-append}
use Rattle.std.specs.Io.KnownBytes.{IsAtEnd, prepend_known}
use Rattle.devices.specs.Transfers.{ReadsWithin}
use Rattle.devices.proofs.Known.{prepend_known-append}
use Rattle.motions.specs.declared.listed.Listed.{Listed}
use Rattle.triplets.specs.declared.fault.TextFault.{TextFault}
use Rattle.triplets.specs.declared.fault.TextFault.TheVariants as texts
use Rattle.triplets.specs.declared.text.LineReader.{LineReader}
use Rattle.triplets.specs.declared.notation.Notation.{Notation}
use Rattle.triplets.specs.TextReading.{Stands, bytes_fed, fault_answered}
use Rattle.triplets.specs.TextAnswers.{IsAnswer, IsFaultOf}
use Rattle.requests.specs.declared.request.Format.TheVariants.{GroupText}
use Rattle.requests.specs.Inputs.{IsShort}

-- the text that the source gave was fed, and the reader stands behind it, unless memory ran out
pub record HasFed (nt : Notation) (before now : Option (List ℕ)) (reader : LineReader) : Type 0 where
  pub text : List ℕ
  pub given : before ≡ prepend_known text now
  pub fed : bytes_fed reader ≡ length text
  pub stands : (fault_answered reader ≡ Some texts.NoMemory) ⊎ Stands nt reader text

prepend_known-nothing : (known : Option (List ℕ)) → known ≡ prepend_known [] known
prepend_known-nothing None = refl
prepend_known-nothing (Some bytes) = refl

-- a fault that was answered is answered again
answered_again : {A : Type 0} (fault : Option TextFault) (f : TextFault) (result : Result A TextFault) → fault ≡ Some f
    → IfSome fault (λ f. result ≡ Err f) → result ≡ Err f
answered_again fault f result is again = subst (λ o. IfSome o (λ f. result ≡ Err f)) is again

-- and kept
answered_kept : {A : Type 0} (fault : Option TextFault) (f : TextFault) (result : Result A TextFault) → result ≡ Err f
    → IfErr result (λ f. fault ≡ Some f) → fault ≡ Some f
answered_kept fault f result is kept = subst (λ r. IfErr r (λ f. fault ≡ Some f)) is kept

module _ (nt : Notation) (before now : Option (List ℕ)) (reader : LineReader) (h : HasFed nt before now reader) where
  -- ---- one piece more

  module _ (after : Option (List ℕ)) (piece : List ℕ) (given : now ≡ prepend_known piece after) where
    given_both : before ≡ prepend_known (h.text ++ piece) after
    given_both = h.given ∙ (ap (λ known. prepend_known h.text known) given ∙ prepend_known-append h.text piece after)

    length_both : length (h.text ++ piece) ≡ bytes_fed reader + length piece
    length_both = length-append h.text piece ∙ ap (λ n. n + length piece) (sym h.fed)

    -- the piece is fed
    pub fed_on : (new : LineReader) (result : Result (Unit {0}) TextFault) → bytes_fed new ≡ bytes_fed reader + length piece
        → (result ≡ Err texts.NoMemory) ⊎ ((nt : Notation) (text : List ℕ) → Stands nt reader text → Stands nt new (text ++ piece))
        → IfSome (fault_answered reader) (λ fault. result ≡ Err fault) → IfErr result (λ fault. fault_answered new ≡ Some fault)
        → HasFed nt before after new
    fed_on new result fed stands again kept = record {
      text = h.text ++ piece;
      given = given_both;
      fed = fed ∙ sym length_both;
      stands = behind h.stands stands;
    }
      where
        out : result ≡ Err texts.NoMemory → fault_answered new ≡ Some texts.NoMemory
        out e = answered_kept (fault_answered new) texts.NoMemory result e kept

        behind : (fault_answered reader ≡ Some texts.NoMemory) ⊎ Stands nt reader h.text
            → (result ≡ Err texts.NoMemory) ⊎ ((nt : Notation) (text : List ℕ) → Stands nt reader text → Stands nt new (text ++ piece))
            → (fault_answered new ≡ Some texts.NoMemory) ⊎ Stands nt new (h.text ++ piece)
        behind (inl e) f = inl (out (answered_again (fault_answered reader) texts.NoMemory result e again))
        behind (inr s) (inl e) = inl (out e)
        behind (inr s) (inr f) = inr (f nt h.text s)

    pub fed_within : (most : ℕ) → bytes_fed reader + length piece ≤ most → ReadsWithin before after most
    fed_within most few = (h.text ++ piece, subst (λ n. n ≤ most) (sym length_both) few, given_both)

  -- ---- the end

  -- no byte more was given
  pub nothing_more : (after : Option (List ℕ)) (n : ℕ) (bytes : List ℕ) → n ≡ 0 → now ≡ prepend_known (take n bytes) after → HasFed nt before after reader
  nothing_more after n bytes none given = record {
    text = h.text;
    given = h.given ∙ ap (λ known. prepend_known h.text known) same;
    fed = h.fed;
    stands = h.stands;
  }
    where
      same : now ≡ after
      same = given ∙ (ap (λ m. prepend_known (take m bytes) after) none ∙ sym (prepend_known-nothing after))

  -- all of the input was fed
  all_fed : IsAtEnd now → (input : List ℕ) → before ≡ Some input → input ≡ h.text
  all_fed end input is = whole now end (sym is ∙ h.given)
    where
      whole : (known : Option (List ℕ)) → IsAtEnd known → Some input ≡ prepend_known h.text known → input ≡ h.text
      whole None end e = absurd cc
      whole (Some rest) end e =
          let same : input ≡ h.text ++ rest = cc in
          same ∙ (ap (λ bytes. h.text ++ bytes) end ∙ append-nil h.text)

  -- the fault at the end is one of the input
  module _ (end : IsAtEnd now) (few : bytes_fed reader ≤ 65536) (fault : TextFault) (answer : Result Listed TextFault) (is_fault : answer ≡ Err fault) where
    pub fault_at_end : IfSome (fault_answered reader) (λ f. answer ≡ Err f) → ((nt : Notation) (text : List ℕ) → Stands nt reader text → IsAnswer nt text answer)
        → (input : List ℕ) → before ≡ Some input → IsShort (GroupText nt) input × IsFaultOf nt input fault
    fault_at_end again answers input is =
        subst (λ text. IsShort (GroupText nt) text × IsFaultOf nt text fault) (sym (all_fed end input is)) (subst (λ n. n ≤ 65536) h.fed few, shown h.stands)
      where
        shown : (fault_answered reader ≡ Some texts.NoMemory) ⊎ Stands nt reader h.text → IsFaultOf nt h.text fault
        shown (inl e) =
            let told : answer ≡ Err texts.NoMemory = answered_again (fault_answered reader) texts.NoMemory answer e again in
            let same : fault ≡ texts.NoMemory = cc in
            subst (IsFaultOf nt h.text) (sym same) tt
        shown (inr s) = subst (λ r. IfErr r (IsFaultOf nt h.text)) is_fault (answers nt h.text s).fault
