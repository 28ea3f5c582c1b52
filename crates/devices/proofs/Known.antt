-- Known bytes that grow and shrink, one call after another.
use Rattle.std.proofs.Common.{◌≡◌, ℕ, ◌+◌, ◌-◌, ◌<◌, ◌≤◌, IfSome, arith, List, ◌++◌, length, take, drop, Option, None, Some, refl, sym, ap, ◌∙◌, append_assoc, length-append}
use Rattle.std.proofs.Math.Seq.{take-add}
use Rattle.std.proofs.lemmas.List.{take_rest, length-take-le}
use Rattle.std.specs.Io.KnownBytes.{append_known, prepend_known}
use Rattle.devices.specs.Transfers.{ReadsWithin}

pub append_known-append : (known : Option (List ℕ)) (xs ys : List ℕ) → append_known (append_known known xs) ys ≡ append_known known (xs ++ ys)
append_known-append None xs ys = refl
append_known-append (Some bytes) xs ys = ap Some (append_assoc bytes xs ys)

pub prepend_known-append : (xs ys : List ℕ) (known : Option (List ℕ)) → prepend_known xs (prepend_known ys known) ≡ prepend_known (xs ++ ys) known
prepend_known-append xs ys None = refl
prepend_known-append xs ys (Some bytes) = ap Some (sym (append_assoc xs ys bytes))

-- a front of the text was taken, and then a front of the rest
pub append_known-take : (before between after : Option (List ℕ)) (n m : ℕ) (text : List ℕ) → between ≡ append_known before (take n text) → after ≡ append_known between (take m (take (length text - n) (drop n text))) → after ≡ append_known before (take (n + m) text)
append_known-take before between after n m text first second =
    second
    ∙ (ap (λ rest. append_known between (take m rest)) (take_rest text n)
    ∙ (ap (λ known. append_known known (take m (drop n text))) first
    ∙ (append_known-append before (take n text) (take m (drop n text))
    ∙ ap (λ bytes. append_known before bytes) (sym (take-add n m text)))))

-- bytes were given, and then a front of the piece
prepend_known-take : (before between after : Option (List ℕ)) (bytes piece : List ℕ) (n : ℕ) → before ≡ prepend_known bytes between → between ≡ prepend_known (take n piece) after → before ≡ prepend_known (bytes ++ take n piece) after
prepend_known-take before between after bytes piece n first second =
    first ∙ (ap (λ known. prepend_known bytes known) second ∙ prepend_known-append bytes (take n piece) after)

length-given : (bytes piece : List ℕ) (n : ℕ) → n ≤ length piece → length (bytes ++ take n piece) ≡ length bytes + n
length-given bytes piece n fits =
    length-append bytes (take n piece) ∙ ap (λ m. length bytes + m) (length-take-le n piece fits)

-- no more bytes than `most` were given
pub reads_within : (before between after : Option (List ℕ)) (bytes piece : List ℕ) (n most : ℕ) → n ≤ length piece → before ≡ prepend_known bytes between → between ≡ prepend_known (take n piece) after → length bytes + n ≤ most → ReadsWithin before after most
reads_within before between after bytes piece n most fits first second few =
    (bytes ++ take n piece, omega (arith, length-given bytes piece n fits), prepend_known-take before between after bytes piece n first second)

-- more bytes than `limit` were given, and had been left
pub reads_more : (before between after : Option (List ℕ)) (bytes piece : List ℕ) (n limit : ℕ) → n ≤ length piece → before ≡ prepend_known bytes between → between ≡ prepend_known (take n piece) after → limit < length bytes + n → IfSome before (λ all. limit < length all)
reads_more before between after bytes piece n limit fits first second many =
    rw (prepend_known-take before between after bytes piece n first second) (longer after (bytes ++ take n piece) (omega (arith, length-given bytes piece n fits)))
  where
    longer : (known : Option (List ℕ)) (given : List ℕ) → limit < length given → IfSome (prepend_known given known) (λ all. limit < length all)
    longer None given h = tt
    longer (Some rest) given h = omega (arith, length-append given rest)
