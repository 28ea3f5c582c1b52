-- What reading a source to its end gave.
use Rattle.std.specs.Prelude.{ℕ, List, ⊤}
use Rattle.devices.specs.declared.read.Input.{Input}
use Rattle.devices.specs.declared.read.Input.TheVariants.{Whole, TooLong}

-- P of all the bytes, if these are few enough
abbrev pub IfWhole : Input → (List ℕ → Type 0) → Type 0
IfWhole (Whole bytes) P = P bytes.items
IfWhole TooLong P = ⊤

-- P, if there are too many bytes
abbrev pub OnTooLong : Input → Type 0 → Type 0
OnTooLong (Whole bytes) P = ⊤
OnTooLong TooLong P = P
