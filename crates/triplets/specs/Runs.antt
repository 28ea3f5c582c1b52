-- Readers that take a text byte by byte, up to its first fault.
use Rattle.std.specs.Prelude.{ℕ, List, [], ◌∷◌, Result, Ok, Err}

-- a byte, where there was no fault yet
abbrev pub advanced : {S E : Type 0} → (ℕ → S → Result S E) → Result S E → ℕ → Result S E
advanced step (Err e) b = Err e
advanced step (Ok s) b = step b s

-- the bytes one by one
abbrev pub run_by : {S E : Type 0} → (ℕ → S → Result S E) → Result S E → List ℕ → Result S E
run_by step r [] = r
run_by step r (b ∷ bs) = run_by step (advanced step r b) bs
