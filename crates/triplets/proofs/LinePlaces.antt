-- The value of a good line, and the place of a bad one.
use Rattle.std.proofs.Common.{◌≡◌, ℕ, ◌+◌, List, [], ◌∷◌, ◌++◌, length, Ok, sym, ◌∙◌, ap}
use Rattle.symmetry.specs.Groups.{Listing}
use Rattle.triplets.specs.declared.notation.Notation.{Notation}
use Rattle.triplets.specs.declared.fault.TextKind.{TextKind}
use Rattle.triplets.specs.declared.fault.TextKind.TheVariants as kinds
use Rattle.triplets.specs.Marks.{mark}
use Rattle.triplets.specs.Lines.{IsLine}
use Rattle.triplets.specs.LineReading.{LineState, line_start, line_step, line_run, line_value, line_byte}
use Rattle.triplets.specs.LineFaults.{IsGoodLine, IsPrefixOfGoodLine, IsLineFault, HasLineKind}
use Rattle.triplets.proofs.LineBegun.{lists, lists_nothing}
use Rattle.triplets.proofs.LineEnds.{is_line_prefix}
use Rattle.triplets.proofs.LineRuns.{is_line_read}
use Rattle.triplets.proofs.LineKinds.{line_kind}
use Rattle.triplets.proofs.Runs.{going, stopped, going_is, run_more}
use Rattle.triplets.proofs.Places.{end_from, fault_from, none_begins}

pub no_line_prefix : (nt : Notation) → (bytes : List ℕ) (k : TextKind) → line_run nt (Ok line_start) bytes ≡ stopped k → IsPrefixOfGoodLine nt bytes → ⊥
no_line_prefix nt = none_begins (line_byte nt) line_start (IsGoodLine nt) (λ bs h. let r = is_line_read nt bs h.0 h.1 in (r.last, r.run_is))

pub not_good_line : (nt : Notation) → (bytes : List ℕ) (s : LineState) → line_run nt (Ok line_start) bytes ≡ going s → line_value nt s ≡ lists_nothing → IsGoodLine nt bytes → ⊥
not_good_line nt bytes s w v h =
    let r = is_line_read nt bytes h.0 h.1 in
    let e : s ≡ r.last = going_is _ s (sym r.run_is ∙ w) in
    let z : lists h.0 ≡ lists_nothing = sym r.value_is ∙ (ap (line_value nt) (sym e) ∙ v) in
    cc

pub one_line_value : (nt : Notation) → (bytes : List ℕ) (a b : Listing) → IsLine nt bytes a → IsLine nt bytes b → a ≡ b
one_line_value nt bytes a b h i =
    let r = is_line_read nt bytes a h in
    let s = is_line_read nt bytes b i in
    let e : r.last ≡ s.last = going_is _ _ (sym s.run_is ∙ r.run_is) in
    let z : lists a ≡ lists b = sym r.value_is ∙ (ap (line_value nt) e ∙ s.value_is) in
    cc

pub end_fault : (nt : Notation) → (bytes : List ℕ) (s : LineState) → line_run nt (Ok line_start) bytes ≡ going s → line_value nt s ≡ lists_nothing → IsLineFault nt bytes (length bytes) kinds.MissingPart
end_fault nt bytes s w v = end_from (HasLineKind nt) (IsGoodLine nt) bytes (not_good_line nt bytes s w v) (is_line_prefix nt bytes s w)

pub byte_fault : (nt : Notation) → (before rest : List ℕ) (b : ℕ) (s : LineState) (k : TextKind) → line_run nt (Ok line_start) before ≡ going s → line_step nt (mark nt b) s ≡ stopped k → IsLineFault nt (before ++ b ∷ rest) (length before) k
byte_fault nt before rest b s k w e =
    fault_from (HasLineKind nt) (IsGoodLine nt) before rest b k (is_line_prefix nt before s w) (no_line_prefix nt (before ++ b ∷ []) k (run_more (line_byte nt) (Ok line_start) before b s (stopped k) w e)) (line_kind nt before b s k w e)
