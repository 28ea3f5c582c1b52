-- A word is one operation, or is misread in one way.
use Rattle.std.proofs.Common.{◌≡◌, ℕ, List, [], ◌∷◌, refl, sym, ◌∙◌, inl, inr, arith}
use Rattle.symmetry.specs.Motions.{Motion}
use Rattle.triplets.specs.declared.notation.Notation.TheVariants.{Triplets}
use Rattle.triplets.specs.declared.fault.TextKind.{TextKind}
use Rattle.triplets.specs.Faults.{IsGood, HasKind, IsFault}
use Rattle.triplets.proofs.Places.{row_one, one_fault_by}
use Rattle.cif_symops.specs.declared.word.Form.{Form}
use Rattle.cif_symops.specs.declared.word.Form.TheVariants.{Bare, Quoted, TextField}
use Rattle.cif_symops.specs.Words.{Word}
use Rattle.cif_symops.specs.Operations.{IsOperation, IsMisreadAs, IsMisread, AreOperations, IsFirstMisread}

one_kind : (before : List ℕ) (b : ℕ) (k k' : TextKind) → HasKind Triplets before b k → HasKind Triplets before b k' → k ≡ k'
one_kind before b k k' = row_one (row_one (row_one (row_one (row_one (row_one (row_one (λ e e'. e ∙ sym e')))))))

one_fault : (l : List ℕ) (m n : ℕ) (k k' : TextKind) → IsFault Triplets l m k → IsFault Triplets l n k' → (m ≡ n) × (k ≡ k')
one_fault = one_fault_by (HasKind Triplets) (IsGood Triplets) one_kind

one_misread_as : (form : Form) (w : Word) (m n : ℕ) (k k' : TextKind) → IsMisreadAs form w m k →
    IsMisreadAs form w n k' → (m ≡ n) × (k ≡ k')
one_misread_as TextField w m n k k' h h' = (h.0 ∙ sym h'.0, h.1 ∙ sym h'.1)
one_misread_as Bare w m n k k' h h' = let e = one_fault w.content h.0 h'.0 k k' h.2 h'.2 in
    (omega (arith, h.1, h'.1, e.0), e.1)
one_misread_as Quoted w m n k k' h h' = let e = one_fault w.content h.0 h'.0 k k' h.2 h'.2 in
    (omega (arith, h.1, h'.1, e.0), e.1)

misread_none_as : (form : Form) (w : Word) (n : ℕ) (k : TextKind) (m : Motion) → w.form ≡ form →
    IsMisreadAs form w n k → IsOperation w m → ⊥
misread_none_as TextField w n k m e h o = o.0 e
misread_none_as Bare w n k m e h o = h.2.place.good (m, o.1)
misread_none_as Quoted w n k m e h o = h.2.place.good (m, o.1)

misread_none : (w : Word) (n : ℕ) (k : TextKind) (m : Motion) → IsMisread w n k → IsOperation w m → ⊥
misread_none w n k m h o = misread_none_as w.form w n k m refl h o

pub one_misread : (ws : List Word) (m n : ℕ) (k k' : TextKind) → IsFirstMisread ws m k →
    IsFirstMisread ws n k' → (m ≡ n) × (k ≡ k')
one_misread [] m n k k' h h' = absurd h
one_misread (w ∷ ws) m n k k' (inl h) (inl h') = one_misread_as w.form w m n k k' h h'
one_misread (w ∷ ws) m n k k' (inl h) (inr h') = absurd (misread_none w m k h'.0.0 h h'.0.1)
one_misread (w ∷ ws) m n k k' (inr h) (inl h') = absurd (misread_none w n k' h.0.0 h' h.0.1)
one_misread (w ∷ ws) m n k k' (inr h) (inr h') = one_misread ws m n k k' h.1 h'.1

pub none_misread : (ws : List Word) (ms : List Motion) (n : ℕ) (k : TextKind) → IsFirstMisread ws n k →
    AreOperations ws ms → ⊥
none_misread [] ms n k h o = h
none_misread (w ∷ ws) (m ∷ ms) n k (inl h) o = misread_none w n k m h o.0
none_misread (w ∷ ws) (m ∷ ms) n k (inr h) o = none_misread ws ms n k h.1 o.1
none_misread (w ∷ ws) [] n k h o = o
