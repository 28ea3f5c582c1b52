-- What the reader answers at the end, and at a fault.
use Rattle.std.proofs.Common.{◌≡◌, ℕ, ◌+◌, ◌<◌, List, [], length, get_or, take, Result, Ok, sym, ◌∙◌, ap}
use Rattle.triplets.specs.declared.notation.Notation.{Notation}
use Rattle.triplets.specs.declared.notation.Notation.TheVariants.{Triplets}
use Rattle.triplets.specs.declared.fault.TextKind.{TextKind}
use Rattle.triplets.specs.declared.fault.TextKind.TheVariants as kinds
use Rattle.motions.specs.declared.motion.Motion3.{Motion3}
use Rattle.motions.specs.Views.{motion_of}
use Rattle.symmetry.specs.Motions.{Motion}
use Rattle.triplets.specs.declared.triplet.TripletReader.{TripletReader}
use Rattle.triplets.specs.Marks.{mark}
use Rattle.triplets.specs.TripletReading.{start, value, step, run, operation_byte}
use Rattle.triplets.specs.Grammar.{IsOperation}
use Rattle.triplets.specs.Faults.{IsGood, IsFault, HasKind}
use Rattle.triplets.proofs.Wholes.{found, is_read, is_prefix, no_prefix}
use Rattle.triplets.proofs.KindFacts.{not_good, fault_kind, no_triplet}
use Rattle.triplets.proofs.Runs.{going, stopped, going_is, run_next, run_all, run_whole}
use Rattle.triplets.proofs.Places.{itself, fault_at, end_from}

-- one byte more is read
pub step_on : (nt : Notation) → (i : ℕ) (bytes : List ℕ) (s : TripletReader) (r : Result TripletReader TextKind) → i < length bytes → run nt (Ok start) (take i bytes) ≡ going s → step nt (mark nt (get_or bytes i 0)) s ≡ r →
    run nt (Ok start) (take (i + 1) bytes) ≡ r
step_on nt i bytes = run_next (operation_byte nt) (Ok start) [] bytes i

pub stopped_bad : (nt : Notation) → (i : ℕ) (bytes : List ℕ) (s : TripletReader) (k : TextKind) → i < length bytes → run nt (Ok start) (take i bytes) ≡ going s → step nt (mark nt (get_or bytes i 0)) s ≡ stopped k → IsGood nt bytes → ⊥
stopped_bad nt i bytes s k h w e good = no_prefix nt bytes k (run_all (operation_byte nt) (Ok start) [] bytes (i + 1) k (step_on nt i bytes s (stopped k) h w e)) (itself (IsGood nt) bytes good)

pub operation_fault : (nt : Notation) → nt ≡ Triplets → (i : ℕ) (bytes : List ℕ) (s : TripletReader) (k : TextKind) → i < length bytes → run nt (Ok start) (take i bytes) ≡ going s → step nt (mark nt (get_or bytes i 0)) s ≡ stopped k → IsFault nt bytes i k
operation_fault nt is i bytes s k h w e =
    fault_at (HasKind nt) (IsGood nt) bytes i k h (is_prefix nt (take i bytes) s w) (no_prefix nt (take (i + 1) bytes) k (step_on nt i bytes s (stopped k) h w e)) (fault_kind nt is (take i bytes) (get_or bytes i 0) s k w e)

-- the whole text is read
pub all_read : (nt : Notation) → (i : ℕ) (bytes : List ℕ) (s : TripletReader) → i ≡ length bytes → run nt (Ok start) (take i bytes) ≡ going s → run nt (Ok start) bytes ≡ going s
all_read nt i bytes s = run_whole (operation_byte nt) (Ok start) [] bytes i (Ok s)

pub fault_end : (nt : Notation) → (bytes : List ℕ) (s : TripletReader) → run nt (Ok start) bytes ≡ going s → value nt s ≡ no_triplet → IsFault nt bytes (length bytes) kinds.MissingPart
fault_end nt bytes s w v = end_from (HasKind nt) (IsGood nt) bytes (not_good nt bytes s w v) (is_prefix nt bytes s w)

pub one_value : (nt : Notation) → (bytes : List ℕ) (s : TripletReader) (t : Motion3) (v : Motion) → run nt (Ok start) bytes ≡ going s → value nt s ≡ found t → IsOperation nt bytes v → motion_of t ≡ v
one_value nt bytes s t v w e h =
    let r = is_read nt bytes v h in
    let x : s ≡ r.last = going_is _ s (sym r.run_is ∙ w) in
    let z : found t ≡ found r.motion = sym e ∙ (ap (value nt) x ∙ r.value_is) in
    let y : t ≡ r.motion = cc in
    ap (λ (m : Motion3). motion_of m) y ∙ r.motion_is
