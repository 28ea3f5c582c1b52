-- To be equivalent is an equivalence of triples, and of each listing of a group the same; it keeps triples coprime.
use Rattle.std.proofs.Common.{◌≡◌, pos, negsuc, ◌*ℤ◌, inl, inr, sym, ◌∙◌, ap, subst}
use Rattle.symmetry.specs.Vectors.{Vector, Matrix, dot, image, opposite, product, row_times}
use Rattle.symmetry.specs.Motions.{Motion, followed_by}
use Rattle.symmetry.specs.Planes.{IsCoprime}
use Rattle.symmetry.specs.Groups.{IsGroup, IsMember, Listing}
use Rattle.symmetry.specs.Listings.{AreAlike}
use Rattle.symmetry.proofs.Coprime.{unit_column, coprime_by_column}
use Rattle.symmetry.proofs.LatticeLaws.{listed_member}
use Rattle.symmetry.proofs.MatrixLaws.{row_times-dot, row_times-multiple, row_times-product, row_times-unit}
use Rattle.symmetry.proofs.VectorLaws.{dot-multiple, multiple-dot, multiple-multiple, multiple-one}
use Rattle.surveys.specs.Surveys.{AreEquivalent, IsUpToSign}

pub opposite_twice : (v : Vector) → opposite (opposite v) ≡ v
opposite_twice v = multiple-multiple (negsuc 0) (negsuc 0) v ∙ multiple-one v

-- ---- up to sign

up_to_sign_back : (v w : Vector) → IsUpToSign v w → IsUpToSign w v
up_to_sign_back v w (inl e) = inl (sym e)
up_to_sign_back v w (inr e) = inr (sym (opposite_twice v) ∙ ap opposite (sym e))

up_to_sign_on : (u v w : Vector) → IsUpToSign u v → IsUpToSign v w → IsUpToSign u w
up_to_sign_on u v w (inl e) (inl f) = inl (f ∙ e)
up_to_sign_on u v w (inl e) (inr f) = inr (f ∙ ap opposite e)
up_to_sign_on u v w (inr e) (inl f) = inr (f ∙ e)
up_to_sign_on u v w (inr e) (inr f) = inl (f ∙ ap opposite e ∙ opposite_twice u)

-- a matrix keeps it
up_to_sign_times : (v w : Vector) (m : Matrix) → IsUpToSign v w → IsUpToSign (row_times v m) (row_times w m)
up_to_sign_times v w m (inl e) = inl (ap (λ u. row_times u m) e)
up_to_sign_times v w m (inr e) = inr (ap (λ u. row_times u m) e ∙ row_times-multiple (negsuc 0) v m)

-- ---- members

-- a member has the matrix of a listed operation
pub equivalent_by_member : (g : Listing) (r s : Vector) (m : Motion) → IsMember g m → IsUpToSign (row_times r m.matrix) s → AreEquivalent g r s
equivalent_by_member g r s m member is =
    (member.of, member.listed, subst (λ (w : Matrix). IsUpToSign (row_times r w) s) member.same.matrix is)

-- listings of one group say the same
pub equivalent_to : (g h : Listing) → AreAlike g h → (r s : Vector) → AreEquivalent g r s → AreEquivalent h r s
equivalent_to g h alike r s (m, listed, is) = equivalent_by_member h r s m ((alike.members m).0 (listed_member g m listed)) is

pub equivalent_from : (g h : Listing) → AreAlike g h → (r s : Vector) → AreEquivalent h r s → AreEquivalent g r s
equivalent_from g h alike r s (m, listed, is) = equivalent_by_member g r s m ((alike.members m).1 (listed_member h m listed)) is

-- ---- the equivalence

module _ (g : Listing) (group : IsGroup g) where
  pub equivalent_to_itself : (r : Vector) → AreEquivalent g r r
  equivalent_to_itself r = let one = group.has_identity in equivalent_by_member g r r _ one (inl (sym (row_times-unit r)))

  pub equivalent_back : (r s : Vector) → AreEquivalent g r s → AreEquivalent g s r
  equivalent_back r s (m, listed, is) =
      let i = group.inverses m (listed_member g m listed) in
      let undone : row_times (row_times r m.matrix) i.0.matrix ≡ r =
      row_times-product r m.matrix i.0.matrix ∙ ap (λ (k : Motion). row_times r k.matrix) i.3 ∙ row_times-unit r in
      equivalent_by_member g s r i.0 i.1
      (up_to_sign_on (row_times s i.0.matrix) (row_times (row_times r m.matrix) i.0.matrix) r
      (up_to_sign_times s (row_times r m.matrix) i.0.matrix (up_to_sign_back (row_times r m.matrix) s is)) (inl (sym undone)))

  pub equivalent_on : (r s t : Vector) → AreEquivalent g r s → AreEquivalent g s t → AreEquivalent g r t
  equivalent_on r s t (m, listed, is) (n, listed', is') =
      equivalent_by_member g r t (followed_by n m) (group.products n m (listed_member g n listed') (listed_member g m listed))
      (up_to_sign_on (row_times r (product m.matrix n.matrix)) (row_times s n.matrix) t
      (up_to_sign_on (row_times r (product m.matrix n.matrix)) (row_times (row_times r m.matrix) n.matrix) (row_times s n.matrix)
      (inl (row_times-product r m.matrix n.matrix)) (up_to_sign_times (row_times r m.matrix) s n.matrix is)) is')

  -- a triple that is equivalent to a coprime one is coprime
  pub equivalent_coprime : (r s : Vector) → IsCoprime r → AreEquivalent g r s → IsCoprime s
  equivalent_coprime r s coprime equivalent =
      let (u, one) = unit_column r coprime in
      let (m, listed, is) = equivalent_back r s equivalent in
      by_column u one m is
    where
      by_column : (u : Vector) → dot r u ≡ pos 1 → (m : Motion) → IsUpToSign (row_times s m.matrix) r → IsCoprime s
      by_column u one m (inl e) = coprime_by_column s (image m.matrix u) (sym (row_times-dot s m.matrix u) ∙ ap (λ v. dot v u) (sym e) ∙ one)
      by_column u one m (inr e) =
          coprime_by_column s (opposite (image m.matrix u))
          (dot-multiple s (negsuc 0) (image m.matrix u) ∙ ap (λ x. negsuc 0 *ℤ x) (sym (row_times-dot s m.matrix u))
          ∙ sym (multiple-dot (negsuc 0) (row_times s m.matrix) u) ∙ ap (λ v. dot v u) (sym e) ∙ one)
