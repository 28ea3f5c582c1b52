-- Motions of a type modulo shifts.
use Rattle.quotient.specs.declared.traits.Motion.{Ghosts}
use Rattle.quotient.specs.Kind.{Kind, kind_of}

-- the kind of the motions that values of a type stand for, where these are the shifts
abbrev pub modulo : {M : Type 0} → Ghosts M → (M → Type 0) → Kind
modulo motions IsShift = kind_of motions.meaning motions.product motions.one IsShift
