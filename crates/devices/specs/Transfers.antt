-- What many calls of a device read and write.
use Rattle.std.specs.Prelude.{◌≡◌, ℕ, ◌+◌, ◌<◌, ◌≤◌, List, length, take, drop, Option, Some, None}
use Rattle.std.specs.Io.KnownBytes.{prepend_known, append_known}

-- a sink holds a front of the text more, and not all of it
abbrev pub HoldsFront : Option (List ℕ) → Option (List ℕ) → List ℕ → Type 0
HoldsFront old new text = (n : ℕ) × (n < length text) × (new ≡ append_known old (take n text))

-- a source gave at most so many bytes
abbrev pub ReadsWithin : Option (List ℕ) → Option (List ℕ) → ℕ → Type 0
ReadsWithin old new most = (given : List ℕ) × (length given ≤ most) × (old ≡ prepend_known given new)

-- calls of `put` that lead from one sink to another, each offered all that is left of the text: how many bytes they
-- took, or None where the last of them failed
pub data Offers {K : Type 0} (IsPut : K → List ℕ → Option ℕ → K → Type 0) (text : List ℕ) (old : K) : Option ℕ → K → Type 0 where
  none : Offers IsPut text old (Some 0) old
  took : {taken n : ℕ} {sink new : K} → Offers IsPut text old (Some taken) sink → taken < length text
      → IsPut sink (drop taken text) (Some n) new → Offers IsPut text old (Some (taken + n)) new
  failed : {taken : ℕ} {sink new : K} → Offers IsPut text old (Some taken) sink → taken < length text
      → IsPut sink (drop taken text) None new → Offers IsPut text old None new
