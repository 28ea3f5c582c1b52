-- The closure is the set of the products of finite lists of factors.
use Rattle.std.proofs.Common.{◌≡◌, List, [], ◌∷◌, ◌++◌, refl, sym, ◌∙◌, ap, All}
use Rattle.std.proofs.lemmas.List.Elements.{All-nil, All-head, All-tail, All-push}
use Rattle.quotient.specs.Kind.{Kind}
use Rattle.quotient.specs.Closure.{IsFactor, IsProduct}
use Rattle.quotient.specs.Closure.IsProduct.{empty, further}

module _ (K : Kind) (generators : List K.Motion) where
  -- first m, then each of the list in turn
  abbrev pub product_from : K.Motion → List K.Motion → K.Motion
  product_from m [] = m
  product_from m (f ∷ fs) = product_from (K.then m f) fs

  product_from-push : (m : K.Motion) (fs : List K.Motion) (f : K.Motion) → product_from m (fs ++ f ∷ []) ≡ K.then (product_from m fs) f
  product_from-push m [] f = refl
  product_from-push m (g ∷ fs) f = product_from-push (K.then m g) fs f

  pub factors_of : (m : K.Motion) → IsProduct K generators m → (fs : List K.Motion) × All (IsFactor K generators) fs × (m ≡ product_from K.one fs)
  factors_of m empty = ([], All-nil (IsFactor K generators), refl)
  factors_of m (further l f p x) =
      let (fs, all, is) = factors_of l p in
      (fs ++ f ∷ [], All-push (IsFactor K generators) fs f all x, ap (λ z. K.then z f) is ∙ sym (product_from-push K.one fs f))

  product_is : (m : K.Motion) (fs : List K.Motion) → IsProduct K generators m → All (IsFactor K generators) fs → IsProduct K generators (product_from m fs)
  product_is m [] p h = p
  product_is m (f ∷ fs) p h =
      product_is (K.then m f) fs (further m f p (All-head (IsFactor K generators) f fs h)) (All-tail (IsFactor K generators) f fs h)

  pub product_of : (fs : List K.Motion) → All (IsFactor K generators) fs → IsProduct K generators (product_from K.one fs)
  product_of fs h = product_is K.one fs empty h
