-- A frame is skewed where a listed operation skews it.
use Rattle.std.proofs.Common.{◌⊎◌, ◌↔◌, ◌≡◌, inl, inr, List, sym, subst}
use Rattle.std.specs.Prelude.{Contains}
use Rattle.symmetry.specs.Vectors.{Vector, image}
use Rattle.symmetry.specs.Motions.{Motion}
use Rattle.symmetry.specs.Groups.{Listing}
use Rattle.symmetry.specs.Frames.{Basis, combination, IsSkewed}
use Rattle.symmetry.specs.Sizes.{IsVectorWithin}
use Rattle.plane_lattice.specs.Skews.{IsFar, Skews}

-- the coordinates of what a motion makes of a, b or tau
abbrev pub IsTurned : Basis → Motion → Vector → Type 0
IsTurned f m c = (combination f c ≡ image m.matrix f.a) ⊎ ((combination f c ≡ image m.matrix f.b) ⊎ (combination f c ≡ image m.matrix f.tau))

pub same_turned : (f : Basis) (m n : Motion) (c : Vector) → m.matrix ≡ n.matrix → IsTurned f m c → IsTurned f n c
same_turned f m n c e =
    subst (λ w. (combination f c ≡ image w f.a) ⊎ ((combination f c ≡ image w f.b) ⊎ (combination f c ≡ image w f.tau))) e

-- a, b or tau is taken to a vector that is far, or there are coordinates of what it is taken to, and these are large
pub far_turned : (f : Basis) (m : Motion) → IsFar f (image m.matrix f.a) ⊎ (IsFar f (image m.matrix f.b) ⊎ IsFar f (image m.matrix f.tau))
    → (c : Vector) × IsTurned f m c × ¬ IsVectorWithin 500 c
far_turned f m (inl (c, e, far)) = (c, inl e, far)
far_turned f m (inr (inl (c, e, far))) = (c, inr (inl e), far)
far_turned f m (inr (inr (c, e, far))) = (c, inr (inr e), far)

pub turned_far : (f : Basis) (m : Motion) (c : Vector) → IsTurned f m c → ¬ IsVectorWithin 500 c
    → IsFar f (image m.matrix f.a) ⊎ (IsFar f (image m.matrix f.b) ⊎ IsFar f (image m.matrix f.tau))
turned_far f m c (inl e) large = inl (c, e, large)
turned_far f m c (inr (inl e)) large = inr (inl (c, e, large))
turned_far f m c (inr (inr e)) large = inr (inr (c, e, large))

pub skewed_tells : (g : Listing) (r : Vector) (f : Basis) (ops : List Motion) → ops ≡ g.ops → ((m : Motion) × Contains ops m × Skews r f m) ↔ IsSkewed g r f
skewed_tells g r f ops e = subst (λ ms. ((m : Motion) × Contains ms m × Skews r f m) ↔ IsSkewed g r f) (sym e) (
  λ (m, is, s).
      let (c, of, large) = far_turned f m s.far in
      record { op = m; listed = is; scanning = s.scanning; coefficients = c; of = of; large = large },
  λ s. (s.op, s.listed, record { scanning = s.scanning; far = turned_far f s.op s.coefficients s.of s.large }),
)
