-- The closure of generators, modulo shifts.
use Rattle.std.specs.Prelude.{List, AllPairs, Contains}
use Rattle.quotient.specs.Kind.{IsInverse, IsSame, Kind}
use Rattle.quotient.specs.Lists.{IsListed}

-- a generator, an inverse of one, or a shift
pub data IsFactor (K : Kind) (generators : List K.Motion) (m : K.Motion) : Type 0 where
  generator : Contains generators m → IsFactor K generators m
  inverse : (g : K.Motion) → Contains generators g → IsInverse K g m → IsFactor K generators m
  shift : K.IsShift m → IsFactor K generators m

-- the products of finite lists of factors: the empty one, and one with a further factor behind it
pub data IsProduct (K : Kind) (generators : List K.Motion) : K.Motion → Type 0 where
  empty : IsProduct K generators K.one
  further : (m f : K.Motion) → IsProduct K generators m → IsFactor K generators f → IsProduct K generators (K.then m f)

-- the list with the shifts is exactly the closure of the generators, and lists each motion once
pub record IsClosure (K : Kind) (generators list : List K.Motion) : Type 0 where
  pub covers : (m : K.Motion) → IsProduct K generators m → IsListed K list m
  pub within : (m : K.Motion) → IsListed K list m → IsProduct K generators m
  pub once : AllPairs (λ m n. ¬ IsSame K m n) list
