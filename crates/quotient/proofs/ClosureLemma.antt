-- A list that is a group modulo shifts, with the generators in it and reached by them, is with the shifts the closure of the generators.
use Rattle.std.proofs.Common.{List, Contains, subst, sym}
use Rattle.quotient.specs.Kind.{AreShiftsGroup, IsMonoid, IsSame, Kind}
use Rattle.quotient.specs.Lists.{IsListed}
use Rattle.quotient.specs.Groups.{IsGroup}
use Rattle.quotient.specs.Closure.{IsFactor, IsProduct}
use Rattle.quotient.specs.Closure.IsFactor.{generator, inverse, shift}
use Rattle.quotient.specs.Closure.IsProduct.{empty, further}
use Rattle.quotient.proofs.Members.{member_inverse, member_products, member_shifts}

-- what a list of motions has to be
pub record IsGeneratedGroup (K : Kind) (generators list : List K.Motion) : Type 0 where
  pub group : IsGroup K list
  pub has_generators : (g : K.Motion) → Contains generators g → IsListed K list g
  pub reached : (m : K.Motion) → Contains list m → (n : K.Motion) × IsProduct K generators n × IsSame K m n

module _ (K : Kind) (monoid : IsMonoid K.then K.one) (shifts : AreShiftsGroup K) (generators list : List K.Motion) (H : IsGeneratedGroup K generators list) where
  factor_listed : (f : K.Motion) → IsFactor K generators f → IsListed K list f
  factor_listed f (generator c) = H.has_generators f c
  factor_listed f (inverse g c i) = member_inverse K monoid shifts list H.group g f (H.has_generators g c) i
  factor_listed f (shift h) = member_shifts K monoid shifts list H.group f h

  pub covers : (m : K.Motion) → IsProduct K generators m → IsListed K list m
  covers m empty = H.group.identity
  covers m (further l f p x) = member_products K monoid shifts list H.group l f (covers l p) (factor_listed f x)

  -- a product followed by a shift is a product
  with_shift : (m n : K.Motion) → IsProduct K generators n → IsSame K m n → IsProduct K generators m
  with_shift m n p e = subst (IsProduct K generators) (sym e.is) (further n e.shift p (shift e.is_shift))

  pub within : (m : K.Motion) → IsListed K list m → IsProduct K generators m
  within m h =
      let (n, product, same) = H.reached h.of h.listed in
      with_shift m h.of (with_shift h.of n product same) h.same
