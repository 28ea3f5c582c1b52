-- The lines of refusals.
use Rattle.std.specs.Prelude.{ℕ, List, ◌++◌, codes, decimal}
use Rattle.std.specs.Fmt.{signed_decimal}
use Rattle.triplets.specs.declared.fault.TextKind.{TextKind}
use Rattle.triplets.specs.declared.fault.TextKind.TheVariants.{UnknownSign, Repeated, Coefficient, Denominator, MissingPart, ExtraPart, Empty}
use Rattle.requests.specs.declared.cif_kind.CifKind.{CifKind}
use Rattle.requests.specs.declared.cif_kind.CifKind.TheVariants.{Quote, TextField, Ragged, Symop}
use Rattle.requests.specs.declared.refusal.Refusal.{Refusal}
use Rattle.requests.specs.declared.refusal.Refusal.TheVariants.{Usage, FourIndex, OutOfRange, AllZero, NotCoprime, FrameLimit, PointLimit, HeightLimit, EmptySlab, TooLong, Text, NoSymops, Cif, TooMany, TooFine, NoIdentity, ShiftMoved, NotClosed, NoInverse, TooLarge, NotFrame, SkewFrame, Wide}

-- the printed name of a kind of faults of a text
abbrev pub kind_text : TextKind → List ℕ
kind_text UnknownSign = codes "unknown-sign"
kind_text Repeated = codes "repeated"
kind_text Coefficient = codes "coefficient"
kind_text Denominator = codes "denominator"
kind_text MissingPart = codes "missing-part"
kind_text ExtraPart = codes "extra-part"
kind_text Empty = codes "empty"

-- the printed name of a kind of faults of a CIF file
abbrev pub cif_kind_text : CifKind → List ℕ
cif_kind_text Quote = codes "quote"
cif_kind_text TextField = codes "text-field"
cif_kind_text Ragged = codes "ragged"
cif_kind_text (Symop kind) = codes "symop " ++ kind_text kind

-- the line of a refusal, without its end
abbrev pub refusal_text : Refusal → List ℕ
refusal_text Usage = codes "refused: usage"
refusal_text FourIndex = codes "refused: third index is not -(h+k)"
refusal_text OutOfRange = codes "refused: index out of range"
refusal_text AllZero = codes "refused: all indices are zero"
refusal_text (NotCoprime divisor) = codes "refused: common divisor " ++ signed_decimal divisor
refusal_text FrameLimit = codes "refused: frame entry out of range"
refusal_text PointLimit = codes "refused: point out of range"
refusal_text HeightLimit = codes "refused: height too large"
refusal_text EmptySlab = codes "refused: empty slab"
refusal_text TooLong = codes "refused: input too long"
refusal_text (Text line column kind) = codes "refused: line " ++ decimal line ++ codes " column " ++ decimal column ++ codes " " ++ kind_text kind
refusal_text NoSymops = codes "refused: no symmetry operations"
refusal_text (Cif line column kind) = codes "refused: cif line " ++ decimal line ++ codes " column " ++ decimal column ++ codes " " ++ cif_kind_text kind
refusal_text (TooMany count) = codes "refused: " ++ decimal count ++ codes " operations"
refusal_text TooFine = codes "refused: lattice too fine"
refusal_text NoIdentity = codes "refused: no identity"
refusal_text (ShiftMoved i) = codes "refused: operation " ++ decimal i ++ codes " moves the lattice"
refusal_text (NotClosed i j) = codes "refused: product of " ++ decimal i ++ codes " and " ++ decimal j ++ codes " missing"
refusal_text (NoInverse i) = codes "refused: operation " ++ decimal i ++ codes " has no inverse"
refusal_text TooLarge = codes "refused: too many or too large matrices"
refusal_text NotFrame = codes "refused: no frame"
refusal_text SkewFrame = codes "refused: frame too skewed"
refusal_text Wide = codes "refused: image too wide"
