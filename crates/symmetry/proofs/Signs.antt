-- The sign of a motion that keeps the orientation.
use Rattle.std.proofs.Common.{◌≡◌, ◌↔◌, ◌⊎◌, inl, inr, ℤ, pos, negsuc, ◌*ℤ◌, refl, sym, ◌∙◌, ap, subst, arith, Bool, true, false, ◌&&◌, ◌||◌, cond}
use Rattle.std.proofs.lemmas.Bool.{or_left, or_right}
use Rattle.std.proofs.lemmas.Bool.Decides.{Decides-int_eq}
use Rattle.symmetry.specs.Vectors.{Vector, multiple, opposite, row_times}
use Rattle.symmetry.specs.Motions.{Motion, followed_by}
use Rattle.symmetry.specs.Planes.{IsCoprime}
use Rattle.symmetry.specs.Frames.{same_vector, sign_at, KeepsOrientation}
use Rattle.symmetry.specs.HeightMotions.{IsSign}
use Rattle.symmetry.proofs.VectorLaws.{vector_path, multiple-one, multiple-multiple}
use Rattle.symmetry.proofs.MatrixLaws.{row_times-product, row_times-multiple}
use Rattle.symmetry.proofs.Coprime.{not_opposite}

pub same_true : (v w : Vector) → same_vector v w ≡ true → v ≡ w
same_true v w e = vector_path (grind (arith, Decides-int_eq)) (grind (arith, Decides-int_eq)) (grind (arith, Decides-int_eq))

pub true_same : (v w : Vector) → v ≡ w → same_vector v w ≡ true
true_same v w e =
    let x = (Decides-int_eq v.x w.x).1 (ap (λ (u : Vector). u.x) e) in
    let y = (Decides-int_eq v.y w.y).1 (ap (λ (u : Vector). u.y) e) in
    let z = (Decides-int_eq v.z w.z).1 (ap (λ (u : Vector). u.z) e) in
    λ i. x i && y i && z i

-- whether a vector is another or its opposite
pub same_or_opposite-is : (v w : Vector) → ((same_vector v w || same_vector v (opposite w)) ≡ true) ↔ ((v ≡ w) ⊎ (v ≡ opposite w))
same_or_opposite-is v w = (by (same_vector v w) refl, to)
  where
    by : (b : Bool) → same_vector v w ≡ b → (b || same_vector v (opposite w)) ≡ true → (v ≡ w) ⊎ (v ≡ opposite w)
    by true e t = inl (same_true v w e)
    by false e t = inr (same_true v (opposite w) t)

    to : (v ≡ w) ⊎ (v ≡ opposite w) → (same_vector v w || same_vector v (opposite w)) ≡ true
    to (inl e) = or_left (same_vector v w) (same_vector v (opposite w)) (true_same v w e)
    to (inr e) = or_right (same_vector v w) (same_vector v (opposite w)) (true_same v (opposite w) e)

pub sign-square : (e : ℤ) → IsSign e → e *ℤ e ≡ pos 1
sign-square e (inl p) = ap (λ x. x *ℤ x) p
sign-square e (inr p) = ap (λ x. x *ℤ x) p

pub sign-mul : (d e : ℤ) → IsSign d → IsSign e → IsSign (d *ℤ e)
sign-mul d e (inl p) (inl q) = inl (λ i. p i *ℤ q i)
sign-mul d e (inl p) (inr q) = inr (λ i. p i *ℤ q i)
sign-mul d e (inr p) (inl q) = inr (λ i. p i *ℤ q i)
sign-mul d e (inr p) (inr q) = inl (λ i. p i *ℤ q i)

pub sign_twice : (e : ℤ) → IsSign e → (v : Vector) → multiple e (multiple e v) ≡ v
sign_twice e sign v = multiple-multiple e e v ∙ ap (λ x. multiple x v) (sign-square e sign) ∙ multiple-one v

-- a motion with the matrix of one that keeps the orientation keeps it
pub same_orientation : (r : Vector) (m n : Motion) → m.matrix ≡ n.matrix → KeepsOrientation r m → KeepsOrientation r n
same_orientation r m n e keeps = subst (λ w. (row_times r w ≡ r) ⊎ (row_times r w ≡ opposite r)) e keeps

-- a motion keeps the orientation where it multiplies the row by a sign
pub row_sign : (r : Vector) (m : Motion) → KeepsOrientation r m → (d : ℤ) × IsSign d × (row_times r m.matrix ≡ multiple d r)
row_sign r m (inl h) = (pos 1, inl refl, h ∙ sym (multiple-one r))
row_sign r m (inr h) = (negsuc 0, inr refl, h)

pub keeps_by_sign : (r : Vector) (m : Motion) (d : ℤ) → IsSign d → row_times r m.matrix ≡ multiple d r → KeepsOrientation r m
keeps_by_sign r m d (inl p) h = inl (h ∙ ap (λ x. multiple x r) p ∙ multiple-one r)
keeps_by_sign r m d (inr p) h = inr (h ∙ ap (λ x. multiple x r) p)

-- which is the sign at this motion
pub sign_is : (r : Vector) (m : Motion) (d : ℤ) → IsCoprime r → IsSign d → row_times r m.matrix ≡ multiple d r → sign_at r m ≡ d
sign_is r m d coprime (inl p) h =
    ap (λ (b : Bool). cond b (pos 1) (negsuc 0)) (true_same (row_times r m.matrix) r (h ∙ ap (λ x. multiple x r) p ∙ multiple-one r)) ∙ sym p
sign_is r m d coprime (inr p) h = by (same_vector (row_times r m.matrix) r) refl ∙ sym p
  where
    by : (b : Bool) → same_vector (row_times r m.matrix) r ≡ b → cond b (pos 1) (negsuc 0) ≡ negsuc 0
    by true e = absurd (not_opposite r coprime (sym (same_true (row_times r m.matrix) r e) ∙ h ∙ ap (λ x. multiple x r) p))
    by false e = refl

-- the sign of a product is the product of the signs
pub row_times-followed_by : (r : Vector) (m n : Motion) (d e : ℤ) → row_times r m.matrix ≡ multiple d r → row_times r n.matrix ≡ multiple e r
    → row_times r (followed_by m n).matrix ≡ multiple (e *ℤ d) r
row_times-followed_by r m n d e h k =
    sym (row_times-product r n.matrix m.matrix) ∙ ap (λ t. row_times t m.matrix) k ∙ row_times-multiple e r m.matrix
    ∙ ap (multiple e) h ∙ multiple-multiple e d r
