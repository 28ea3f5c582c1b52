-- Two lists of one length, related place by place.
use Rattle.std.proofs.Common.{◌≡◌, ℕ, zero, suc, ◌+◌, ◌<◌, ◌≤◌, List, [], ◌∷◌, ◌++◌, length, map, take, get_or, sym, subst, arith}
use Rattle.std.specs.List.{AllZip}
use Rattle.std.proofs.lemmas.List.{take_all}
use Rattle.std.proofs.lemmas.Slice.Zip.{all_zipped_more}

module _ {A B : Type 0} (R : A → B → Type 0) where
  pub zip_at : (xs : List A) (ys : List B) → AllZip R xs ys → (i : ℕ) (d : A) (e : B) → i < length ys → R (get_or xs i d) (get_or ys i e)
  zip_at [] [] all i d e h = absurd (omega arith)
  zip_at [] (z ∷ ys) all i d e h = absurd all
  zip_at (z ∷ xs) [] all i d e h = absurd all
  zip_at (z ∷ xs) (w ∷ ys) all zero d e h = all.0
  zip_at (z ∷ xs) (w ∷ ys) all (suc i) d e h = zip_at xs ys all.1 i d e (omega arith)

  -- one more of each
  pub zip_more : (xs xs' : List A) (x : A) (ys ys' : List B) (y : B) → xs' ≡ xs ++ x ∷ [] → ys' ≡ ys ++ y ∷ [] → AllZip R xs ys → R x y → AllZip R xs' ys'
  zip_more xs xs' x ys ys' y e e' h r = subst (AllZip R xs') (sym e') (subst (λ l. AllZip R l (ys ++ y ∷ [])) (sym e) (all_zipped_more R xs ys x y h r))

  pub zip_all : (xs : List A) (ys : List B) (i : ℕ) → length xs ≤ i → AllZip R (take i xs) ys → AllZip R xs ys
  zip_all xs ys i past all = subst (λ zs. AllZip R zs ys) (take_all i xs past) all

-- what is so of the elements is so of what they are taken to
pub zip_map : {A B C : Type 0} (R : A → B → Type 0) (Q : A → C → Type 0) (f : B → C) → ((x : A) (y : B) → R x y → Q x (f y))
    → (xs : List A) (ys : List B) → AllZip R xs ys → AllZip Q xs (map f ys)
zip_map R Q f to [] [] all = all
zip_map R Q f to [] (y ∷ ys) all = absurd all
zip_map R Q f to (x ∷ xs) [] all = absurd all
zip_map R Q f to (x ∷ xs) (y ∷ ys) all = (to x y all.0, zip_map R Q f to xs ys all.1)

pub zip_map_both : {A B C D : Type 0} (R : C → D → Type 0) (f : A → C) (h : B → D) (xs : List A) (ys : List B) → AllZip (λ x y. R (f x) (h y)) xs ys
    → AllZip R (map f xs) (map h ys)
zip_map_both R f h [] [] all = all
zip_map_both R f h [] (y ∷ ys) all = absurd all
zip_map_both R f h (x ∷ xs) [] all = absurd all
zip_map_both R f h (x ∷ xs) (y ∷ ys) all = (all.0, zip_map_both R f h xs ys all.1)
