use Rattle.std.proofs.Common.{◌≡◌, ◌≤◌, ◌+◌, ◌++◌, ℕ, List, length, take, Ok, None}
use Rattle.triplets.specs.declared.notation.Notation.{Notation}
use Rattle.triplets.specs.TextReading.{Stands, kept, kept_start, text_run}
use Rattle.triplets.proofs.text.LineReader.feed.Given as goal

-- the text before and the bytes so far lead to what is kept
abbrev pub invariant-loop-byte : goal.invariant-loop-byte
invariant-loop-byte l = record {
  run : (nt : Notation) (text : List ℕ) → Stands nt l.fn.self text → text_run nt (Ok kept_start) (text ++ take l.byte-index l.piece) ≡ Ok (kept l.self);
  notation : l.self.notation ≡ l.fn.self.notation;
  fault : l.self.fault ≡ None;
  fed : l.self.fed ≡ l.fn.self.fed + length l.piece;
  line : l.self.line ≤ l.fn.self.fed + 1 + l.byte-index;
  column : l.self.column ≤ l.fn.self.fed + 1 + l.byte-index;
}
