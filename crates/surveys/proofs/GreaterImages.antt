-- A triple is a representative where no image of it is greater.
use Rattle.std.proofs.Common.{◌≡◌, ℕ, ◌<◌, List, length, get_or, map, inl, inr, refl, subst}
use Rattle.std.specs.Prelude.{Contains}
use Rattle.symmetry.specs.Vectors.{Vector, opposite, row_times}
use Rattle.symmetry.specs.Motions.{Motion}
use Rattle.symmetry.specs.Planes.{IsCoprime}
use Rattle.symmetry.specs.Groups.{IsGroup, Listing}
use Rattle.motions.specs.Views.{motion_of}
use Rattle.motions.specs.declared.motion.Motion3.{Motion3}
use Rattle.surveys.specs.Places.{HasGreaterImage, IsGreaterWithin}
use Rattle.surveys.specs.Surveys.{IsGreater, IsRepresentative, IsUpToSign, IsWithinSurvey}
use Rattle.surveys.proofs.Equivalence.{equivalent_coprime}
use Rattle.quotient.proofs.Items.{Contains-item_at}

module _ (g : Listing) (n : ℕ) (r : Vector) where
  pub representative_by_images : IsWithinSurvey n r → ((m : Motion) → Contains g.ops m → ¬ HasGreaterImage n r m) → IsRepresentative g n r
  representative_by_images within none = record {
    within = within;
    greatest = λ s small (m, listed, up) more. none m listed (greater_image s m small up more);
  }
    where
      greater_image : (s : Vector) (m : Motion) → IsWithinSurvey n s → IsUpToSign (row_times r m.matrix) s → IsGreater s r → HasGreaterImage n r m
      greater_image s m small (inl e) more = inl (subst (IsGreaterWithin n r) e (small.size, more))
      greater_image s m small (inr e) more = inr (subst (IsGreaterWithin n r) e (small.size, more))

  pub no_greater_image : IsGroup g → IsRepresentative g n r → (m : Motion) → Contains g.ops m → ¬ HasGreaterImage n r m
  no_greater_image group is m listed greater = either greater
    where
      none : (s : Vector) → IsUpToSign (row_times r m.matrix) s → ¬ IsGreaterWithin n r s
      none s up (small, more) =
          let coprime : IsCoprime s = equivalent_coprime g group r s is.within.coprime (m, listed, up) in
          is.greatest s (record { coprime = coprime; size = small }) (m, listed, up) more

      either : ¬ HasGreaterImage n r m
      either (inl h) = none (row_times r m.matrix) (inl refl) h
      either (inr h) = none (opposite (row_times r m.matrix)) (inr refl) h

-- an operation of the code, with a greater image
pub surpassed : (g : Listing) (ops : List Motion3) → map motion_of ops ≡ g.ops → IsGroup g → (i : ℕ) (d : Motion3) → i < length ops
    → (n : ℕ) (r : Vector) → HasGreaterImage n r (motion_of (get_or ops i d)) → ¬ IsRepresentative g n r
surpassed g ops same group i d within n r greater is =
    no_greater_image g n r group is (motion_of (get_or ops i d)) (subst (λ l. Contains l (motion_of (get_or ops i d))) same (Contains-item_at motion_of ops i d within)) greater
