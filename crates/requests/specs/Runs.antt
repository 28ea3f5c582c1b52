-- What a run of a program does.
use Rattle.std.specs.Prelude.{◌≡◌, ◌≢◌, ◌⊎◌, ℕ, ◌+◌, ◌≤◌, List, ◌++◌, length, codes, Option, Some, None, Result, Ok}
use Rattle.std.specs.Io.KnownBytes.{append_known}
use Rattle.devices.specs.Calls.{Rose}
use Rattle.devices.specs.Transfers.{HoldsFront, Offers}
use Rattle.requests.specs.declared.refusal.Refusal.{Refusal}
use Rattle.requests.specs.declared.refusal.Refusal.TheVariants.{TooLong}
use Rattle.requests.specs.declared.outcome.Outcome.{Outcome}
use Rattle.requests.specs.declared.outcome.Outcome.TheVariants.{Done, Refused, ReadFault, WriteFault, NoMemory}
use Rattle.requests.specs.Questions.{Asked, about, IsRequest, IsWordsRefusal}
use Rattle.requests.specs.Inputs.{most_bytes}
use Rattle.requests.specs.Answers.{IsInput, IsOutput, IsInputRefusal}
use Rattle.requests.specs.Refusals.{refusal_text}

-- the status that the program ends with
abbrev pub exit_status : Outcome → ℕ
exit_status Done = 0
exit_status (Refused r) = 1
exit_status ReadFault = 3
exit_status WriteFault = 4
exit_status NoMemory = 5

-- ---- what it leaves in its sinks, where Of P says that the words are a request of whose answer P holds

-- the words are a request, and P holds of its answer over the input
pub record OfAnswer (read : Result Asked Refusal) (left : Option (List ℕ)) (P : List ℕ → Type 0) : Type 0 where
  pub asked : Asked
  pub asks : IsRequest read asked
  pub holds : (input : List ℕ) → IsInput asked left input → (text : List ℕ) × IsOutput asked input text × P text

-- the sink holds the answer where the run is done, a front of it where the sink failed, and else it is as it was
abbrev pub LeavesOut : {K : Type 0} → (K → Option (List ℕ)) → Outcome → ((List ℕ → Type 0) → Type 0) → K → K → Type 0
LeavesOut held Done Of old new = Of (λ text. held new ≡ append_known (held old) text)
LeavesOut held WriteFault Of old new = Of (HoldsFront (held old) (held new))
LeavesOut held (Refused r) Of old new = new ≡ old
LeavesOut held ReadFault Of old new = new ≡ old
LeavesOut held NoMemory Of old new = new ≡ old

-- the sink was offered the answer, and in each call all that was left of it, up to its end where the run is done
abbrev pub OffersOut : {K : Type 0} → (K → List ℕ → Option ℕ → K → Type 0) → Outcome → ((List ℕ → Type 0) → Type 0) → K → K → Type 0
OffersOut IsPut Done Of old new = Of (λ text. Offers IsPut text old (Some (length text)) new)
OffersOut IsPut WriteFault Of old new = Of (λ text. Offers IsPut text old None new)
OffersOut IsPut (Refused r) Of old new = new ≡ old
OffersOut IsPut ReadFault Of old new = new ≡ old
OffersOut IsPut NoMemory Of old new = new ≡ old

-- the line of a refusal, with its end
abbrev pub refusal_line : Refusal → List ℕ
refusal_line refusal = refusal_text refusal ++ codes "\n"

-- the sink of complaints holds the line of a refusal, or a front of it where that sink failed, and else it is as it was
abbrev pub Complains : {E : Type 0} → (E → Option (List ℕ)) → (E → ℕ) → Outcome → E → E → Type 0
Complains held faults (Refused r) old new =
    ((held new ≡ append_known (held old) (refusal_line r)) × (faults new ≡ faults old))
    ⊎ (HoldsFront (held old) (held new) (refusal_line r) × Rose (faults old) (faults new))
Complains held faults Done old new = new ≡ old
Complains held faults ReadFault old new = new ≡ old
Complains held faults WriteFault old new = new ≡ old
Complains held faults NoMemory old new = new ≡ old

-- the sink of complaints was offered the line of a refusal, and in each call all that was left of it
abbrev pub OffersLine : {E : Type 0} → (E → List ℕ → Option ℕ → E → Type 0) → Outcome → E → E → Type 0
OffersLine IsPut (Refused r) old new =
    Offers IsPut (refusal_line r) old (Some (length (refusal_line r))) new ⊎ Offers IsPut (refusal_line r) old None new
OffersLine IsPut Done old new = new ≡ old
OffersLine IsPut ReadFault old new = new ≡ old
OffersLine IsPut WriteFault old new = new ≡ old
OffersLine IsPut NoMemory old new = new ≡ old

-- ---- why it ends so

-- why a run refuses: the words, or the input of their request
abbrev pub IsCause : Result Asked Refusal → Option (List ℕ) → Refusal → Type 0
IsCause read left refusal =
    IsWordsRefusal read refusal
    ⊎ ((asked : Asked) × IsRequest read asked × ((input : List ℕ) → IsInput asked left input → IsInputRefusal asked input refusal))

-- a refusal is explained, and a fault is of a device whose count rose. No other count rose
abbrev pub HasCause : Outcome → (Refusal → Type 0) → ℕ → ℕ → ℕ → ℕ → Type 0
HasCause Done Explains faults faults' put put' = (faults' ≡ faults) × (put' ≡ put)
HasCause (Refused r) Explains faults faults' put put' = Explains r × (faults' ≡ faults)
HasCause ReadFault Explains faults faults' put put' = Rose faults faults'
HasCause WriteFault Explains faults faults' put put' = (faults' ≡ faults) × Rose put put'
HasCause NoMemory Explains faults faults' put put' = faults' ≡ faults

-- ---- what it has to do

-- a run that has to refuse does, unless memory ran out or the source failed
abbrev pub Refuses : Refusal → Outcome → Type 0
Refuses refusal (Refused r) = r ≡ refusal
Refuses refusal NoMemory = Unit {0}
Refuses refusal ReadFault = Unit {0}
Refuses refusal Done = ⊥
Refuses refusal WriteFault = ⊥

-- a run that has to answer does, unless memory ran out or a device failed, whose count of faults then rose
abbrev pub Succeeds : Outcome → ℕ → ℕ → ℕ → ℕ → Type 0
Succeeds Done faults faults' put put' = Unit {0}
Succeeds NoMemory faults faults' put put' = Unit {0}
Succeeds ReadFault faults faults' put put' = Rose faults faults'
Succeeds WriteFault faults faults' put put' = Rose put put'
Succeeds (Refused r) faults faults' put put' = ⊥

-- the source was read to its end
abbrev pub ReadsWhole : Outcome → Type 0
ReadsWhole Done = Unit {0}
ReadsWhole WriteFault = Unit {0}
ReadsWhole (Refused r) = r ≢ TooLong
ReadsWhole ReadFault = ⊥
ReadsWhole NoMemory = ⊥

-- the most bytes that are read: one more than an input may have, and none where nothing is asked of one
abbrev pub most_read : Result Asked Refusal → ℕ
most_read (Ok (about format question)) = most_bytes format + 1
most_read _ = 0

-- the source tells what is left, and each answer over it has at most so many bytes
abbrev pub FitsIn : Result Asked Refusal → Option (List ℕ) → ℕ → Type 0
FitsIn read left n = (asked : Asked) → IsRequest read asked
    → (input : List ℕ) × IsInput asked left input × ((text : List ℕ) → IsOutput asked input text → length text ≤ n)
