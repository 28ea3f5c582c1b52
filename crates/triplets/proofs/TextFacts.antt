-- Reading in pieces.
use Rattle.std.proofs.Common.{◌≡◌, ◌≢◌, ℕ, ◌+◌, ◌<◌, List, ◌++◌, length, get_or, take, Option, Some, None, Result, Ok, Err, refl, sym, ◌∙◌, ap, inl, inr, ◌⊎◌, length-append}
use Rattle.std.proofs.lemmas.List.{append-nil}
use Rattle.triplets.specs.declared.notation.Notation.{Notation}
use Rattle.triplets.specs.declared.fault.TextFault.{TextFault}
use Rattle.triplets.specs.declared.fault.TextFault.TheVariants as faults
use Rattle.triplets.specs.declared.text.LineReader.{LineReader}
use Rattle.triplets.specs.Texts.{Fault}
use Rattle.triplets.specs.TextReading.{Kept, kept_start, kept, byte_step, text_run, kept_or, Stands, Refuses}
use Rattle.triplets.proofs.Runs.{run_stopped, run_next, run_all, run_whole, run_then}

-- a byte of a piece
pub text_fault : (nt : Notation) → (text piece : List ℕ) (i : ℕ) (k : Kept) (f : Fault) → i < length piece → text_run nt (Ok kept_start) (text ++ take i piece) ≡ Ok k → byte_step nt (get_or piece i 0) k ≡ Err f →
    text_run nt (Ok kept_start) (text ++ piece) ≡ Err f
text_fault nt text piece i k f h w e = run_all (byte_step nt) (Ok kept_start) text piece (i + 1) f (run_next (byte_step nt) (Ok kept_start) text piece i k (Err f) h w e)

abbrev pub a_fault : TextFault → Option TextFault
a_fault e = Some e

-- before a fault
pub stands_kept : (nt : Notation) → (r : LineReader) (text : List ℕ) → Stands nt r text → r.fault ≡ None → text_run nt (Ok kept_start) text ≡ Ok (kept r)
stands_kept nt r text h e = h.run_is ∙ ap (λ (o : Option TextFault). kept_or o (kept r)) e

pub stands_nothing : (nt : Notation) → (r : LineReader) (text piece : List ℕ) → Stands nt r text → r.fault ≡ None → text_run nt (Ok kept_start) (text ++ take 0 piece) ≡ Ok (kept r)
stands_nothing nt r text piece h e = ap (text_run nt (Ok kept_start)) (append-nil text) ∙ stands_kept nt r text h e

-- a fault that was answered is that of the text
pub stands_refuses : (nt : Notation) → (r : LineReader) (e : TextFault) (text : List ℕ) → r.fault ≡ a_fault e → Stands nt r text → Refuses e (text_run nt (Ok kept_start) text)
stands_refuses nt r faults.NoMemory text h s = tt
stands_refuses nt r (faults.At l c k) text h s = s.run_is ∙ ap (λ (o : Option TextFault). kept_or o (kept r)) h

-- what a call answered

pub gives_along : {B D : Type 0} (e : TextFault) (r : Result B Fault) (s : Result D Fault) → ((f : Fault) → r ≡ Err f → s ≡ Err f) → Refuses e r → Refuses e s
gives_along faults.NoMemory r s f h = tt
gives_along (faults.At l c k) r s f h = f (record { line = l; column = c; kind = k }) h

abbrev no_fault : Option TextFault
no_fault = None

-- a fault is kept
pub stands_fault : (nt : Notation) → (r : LineReader) (e : TextFault) (b : Result Kept Fault) (text : List ℕ) → r.notation ≡ nt → r.fault ≡ Some e → r.fed ≡ length text → Refuses e b → ((f : Fault) → b ≡ Err f → text_run nt (Ok kept_start) text ≡ Err f) →
    (e ≡ faults.NoMemory) ⊎ Stands nt r text
stands_fault nt r faults.NoMemory b text i h n g f = inl refl
stands_fault nt r (faults.At l c k) b text i h n g f = inr (record {
  run_is = f (record { line = l; column = c; kind = k }) g ∙ sym (ap (λ (o : Option TextFault). kept_or o (kept r)) h);
  fed = n;
  memory = λ z. let y : a_fault (faults.At l c k) ≡ a_fault faults.NoMemory = sym h ∙ z in cc;
  reads = i;
})

memory_or : (e : TextFault) → (e ≡ faults.NoMemory) ⊎ (e ≢ faults.NoMemory)
memory_or faults.NoMemory = inl refl
memory_or (faults.At l c k) = inr (λ z. cc)

pub err_stands : (r q : LineReader) (e : TextFault) (b : Result Kept Fault) (piece : List ℕ) → q.notation ≡ r.notation → q.fault ≡ Some e → q.fed ≡ r.fed + length piece → Refuses e b →
    ((nt : Notation) (text : List ℕ) (f : Fault) → Stands nt r text → b ≡ Err f → text_run nt (Ok kept_start) (text ++ piece) ≡ Err f) →
    ((let z : Result (Unit {0}) TextFault = Err e in z) ≡ Err faults.NoMemory) ⊎ ((nt : Notation) (text : List ℕ) → Stands nt r text → Stands nt q (text ++ piece))
err_stands r q e b piece i h n g f =
    elim (memory_or e) [
      | inl z ↦ inl (ap (λ x. Err x) z)
      | inr z ↦ inr (λ nt text s.
          elim (stands_fault nt q e b (text ++ piece) (i ∙ s.reads) h (n ∙ (ap (λ m. m + length piece) s.fed ∙ sym (length-append text piece))) g (λ t w. f nt text t s w)) [
            | inl y ↦ absurd (z y)
            | inr y ↦ y
          ])
    ]

-- a fault answered before is answered again
pub again : (nt : Notation) → (r : LineReader) (e : TextFault) (text piece : List ℕ) → r.fault ≡ a_fault e → Stands nt r text → Refuses e (text_run nt (Ok kept_start) (text ++ piece))
again nt r faults.NoMemory text piece h s = tt
again nt r (faults.At l c k) text piece h s =
    let f : Fault = record { line = l; column = c; kind = k } in
    run_then (byte_step nt) (Ok kept_start) (Err f) (Err f) text piece (s.run_is ∙ ap (λ (o : Option TextFault). kept_or o (kept r)) h) (run_stopped (byte_step nt) f piece)

pub again_stands : (nt : Notation) → (r q : LineReader) (e : TextFault) (text piece : List ℕ) → r.fault ≡ a_fault e → q.notation ≡ r.notation → q.fault ≡ r.fault → q.fed ≡ r.fed + length piece → Stands nt r text → Stands nt q (text ++ piece)
again_stands nt r q faults.NoMemory text piece h o i n s = absurd (s.memory h)
again_stands nt r q (faults.At l c k) text piece h x i n s = record {
  run_is = again nt r (faults.At l c k) text piece h s ∙ sym (ap (λ (o : Option TextFault). kept_or o (kept q)) (i ∙ h));
  fed = n ∙ (ap (λ m. m + length piece) s.fed ∙ sym (length-append text piece));
  memory = λ z. s.memory (sym i ∙ z);
  reads = x ∙ s.reads;
}

pub all_read : (nt : Notation) → (text piece : List ℕ) (i : ℕ) (k : Kept) → i ≡ length piece → text_run nt (Ok kept_start) (text ++ take i piece) ≡ Ok k → text_run nt (Ok kept_start) (text ++ piece) ≡ Ok k
all_read nt text piece i k = run_whole (byte_step nt) (Ok kept_start) text piece i (Ok k)

-- the whole piece is read
pub stands_all : (nt : Notation) → (r q : LineReader) (text piece : List ℕ) (i : ℕ) → i ≡ length piece → text_run nt (Ok kept_start) (text ++ take i piece) ≡ Ok (kept q) → q.notation ≡ r.notation → q.fault ≡ None → q.fed ≡ r.fed + length piece → Stands nt r text → Stands nt q (text ++ piece)
stands_all nt r q text piece i e w x f n s = record {
  run_is = all_read nt text piece i (kept q) e w ∙ sym (ap (λ (o : Option TextFault). kept_or o (kept q)) f);
  fed = n ∙ (ap (λ m. m + length piece) s.fed ∙ sym (length-append text piece));
  memory = λ z. let y : no_fault ≡ a_fault faults.NoMemory = sym f ∙ z in cc;
  reads = x ∙ s.reads;
}
