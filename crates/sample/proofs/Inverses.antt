-- A closure whose generators have inverses is a group.
use Rattle.std.proofs.Common.{◌≡◌, List, Contains, sym, ap, subst, ◌∙◌}
use Rattle.quotient.specs.Kind.{AreShiftsGroup, IsInverse, IsMonoid, Kind}
use Rattle.quotient.specs.Lists.{IsListed}
use Rattle.quotient.specs.Closure.{IsClosure, IsFactor, IsProduct}
use Rattle.quotient.specs.Closure.IsFactor.{generator, inverse, shift}
use Rattle.quotient.specs.Closure.IsProduct.{empty, further}
use Rattle.quotient.proofs.Sameness.{same_reflexive}

module _ (K : Kind) (monoid : IsMonoid K.then K.one) (shifts : AreShiftsGroup K) (generators : List K.Motion)
    (undone : (g : K.Motion) → Contains generators g → (h : K.Motion) × IsInverse K g h) where
  -- products of products
  product_product : (m n : K.Motion) → IsProduct K generators m → IsProduct K generators n → IsProduct K generators (K.then m n)
  product_product m _ p empty = subst (IsProduct K generators) (sym (monoid.one_right m)) p
  product_product m _ p (further l f q x) = subst (IsProduct K generators) (monoid.assoc m l f) (further (K.then m l) f (product_product m l p q) x)

  factor_product : (f : K.Motion) → IsFactor K generators f → IsProduct K generators f
  factor_product f x = subst (IsProduct K generators) (monoid.one_left f) (further K.one f empty x)

  flipped : (m n : K.Motion) → IsInverse K m n → IsInverse K n m
  flipped m n i = record { after = i.before; before = i.after }

  factor_inverse : (f : K.Motion) → IsFactor K generators f → (h : K.Motion) × IsFactor K generators h × IsInverse K f h
  factor_inverse f (generator c) = let (h, i) = undone f c in (h, inverse f c i, i)
  factor_inverse f (inverse g c i) = (g, generator c, flipped g f i)
  factor_inverse f (shift s) = let (t, is, i) = shifts.inverses f s in (t, shift is, i)

  -- l f h k = l k = 1, where h undoes f and k undoes l
  undone_product : (l f k h : K.Motion) → K.then l k ≡ K.one → K.then f h ≡ K.one → K.then (K.then l f) (K.then h k) ≡ K.one
  undone_product l f k h p q =
      monoid.assoc l f (K.then h k)
      ∙ ap (K.then l) (sym (monoid.assoc f h k) ∙ ap (λ x. K.then x k) q ∙ monoid.one_left k)
      ∙ p

  product_inverse : (m : K.Motion) → IsProduct K generators m → (n : K.Motion) × IsProduct K generators n × IsInverse K m n
  product_inverse _ empty = (K.one, empty, record { after = monoid.one_left K.one; before = monoid.one_left K.one })
  product_inverse _ (further l f p x) =
      let (k, q, i) = product_inverse l p in
      let (h, y, j) = factor_inverse f x in (
        K.then h k,
        product_product h k (factor_product h y) q,
        record { after = undone_product l f k h i.after j.after; before = undone_product h k f l j.before i.before },
      )

  module _ (list : List K.Motion) (closure : IsClosure K generators list) where
    itself : (m : K.Motion) → Contains list m → IsProduct K generators m
    itself m c = closure.within m (record { of = m; listed = c; same = same_reflexive K monoid shifts m })

    pub one_listed : IsListed K list K.one
    one_listed = closure.covers K.one empty

    pub products_listed : (m n : K.Motion) → Contains list m → Contains list n → IsListed K list (K.then m n)
    products_listed m n p q = closure.covers (K.then m n) (product_product m n (itself m p) (itself n q))

    pub inverse_listed : (m : K.Motion) → Contains list m → (n : K.Motion) × IsListed K list n × IsInverse K m n
    inverse_listed m p = let (n, q, i) = product_inverse m (itself m p) in (n, closure.covers n q, i)
