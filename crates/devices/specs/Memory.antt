-- Devices in memory, as contracts see them.
use Rattle.std.specs.Prelude.{◌≡◌, ◌⊎◌, ℕ, ◌-◌, ◌<◌, min, List, [], ◌++◌, length, take, Contains, Option, Some, None}
use Rattle.devices.specs.Calls.{next_count}

-- a source in memory
pub record Supply : Type 0 where
  pub left : List ℕ  -- the bytes that are left
  pub piece : ℕ  -- how many a call gives at most
  pub failing : List ℕ  -- the numbers of the calls that fail, counted from 1
  pub calls : ℕ  -- how many calls there were
  pub faults : ℕ  -- how many of them failed

-- a sink in memory
pub record Store : Type 0 where
  pub held : List ℕ  -- the bytes that it holds
  pub room : ℕ  -- how many it can hold
  pub piece : ℕ  -- how many a call takes at most
  pub failing : List ℕ  -- the numbers of the calls that fail, counted from 1
  pub calls : ℕ  -- how many calls there were
  pub faults : ℕ  -- how many of them failed

-- a new source: all its bytes are left
abbrev pub new_supply : List ℕ → ℕ → List ℕ → Supply
new_supply bytes piece failing = record { left = bytes; piece = piece; failing = failing; calls = 0; faults = 0 }

-- a new sink: it holds nothing
abbrev pub new_store : ℕ → ℕ → List ℕ → Store
new_store room piece failing =
    record { held = []; room = room; piece = piece; failing = failing; calls = 0; faults = 0 }

-- the least of three
abbrev pub least : ℕ → ℕ → ℕ → ℕ
least a b c = min a (min b c)

-- a call of a sink that is offered this piece fails: it is listed, or the room is full and the piece is not empty
abbrev pub PutFails : Store → List ℕ → Type 0
PutFails old piece = Contains old.failing (next_count old.calls) ⊎ ((0 < length piece) × (length old.held ≡ old.room))

-- a call of a sink that is offered this piece takes so many bytes of it, or fails, and leaves that sink
abbrev pub IsStorePut : Store → List ℕ → Option ℕ → Store → Type 0
IsStorePut old piece (Some n) new =
    (¬ PutFails old piece)
    × (n ≡ least (length piece) old.piece (old.room - length old.held))
    × (new ≡ record old { held = old.held ++ take n piece; calls = next_count old.calls })
IsStorePut old piece None new =
    PutFails old piece × (new ≡ record old { calls = next_count old.calls; faults = next_count old.faults })
