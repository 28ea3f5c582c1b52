-- The choice of a motion at home, moved along tau.
use Rattle.std.proofs.Common.{◌≡◌, ℤ, ◌+ℤ◌, ◌-ℤ◌, ◌*ℤ◌, Option, Some, refl, ◌∙◌, arith}
use Rattle.std.proofs.lemmas.Int.{ints}
use Rattle.integers.proofs.Spread.{spread}
use Rattle.symmetry.specs.Vectors.{Vector, multiple, dot, row_times}
use Rattle.symmetry.specs.Motions.{Motion}
use Rattle.symmetry.specs.Groups.{Listing, IsMember, SameModulo}
use Rattle.symmetry.specs.Frames.{Basis, IsFrame, IsAtHome}
use Rattle.symmetry.specs.Lists.{IsChoice}
use Rattle.symmetry.proofs.LatticeLaws.{same_refl}
use Rattle.motions.specs.declared.motion.Sign.{Sign}
use Rattle.motions.specs.Signs.{sign_value}
use Rattle.scanning.specs.Members.{InRows, asked}
use Rattle.scanning.proofs.Choices.{at_shift}
use Rattle.scanning.proofs.RaisedMotions.{raised, raised_at_home, raised_shift, raised_same}

-- a whole number of periods leads to what is asked
pub raised_choice : (g : Listing) (r : Vector) (f : Basis) → IsFrame g r f → (m : Motion) (turned : Option ℤ) (e : Sign)
    → row_times r m.matrix ≡ multiple (sign_value e) r → (t : ℤ) → asked e turned ≡ Some t
    → IsMember g m → IsAtHome f m → (k : ℤ) → dot r f.tau *ℤ k ≡ t -ℤ dot r m.translation
    → IsChoice (SameModulo g) (IsAtHome f) (InRows g r turned) m (Some (raised f k m))
raised_choice g r f frame m turned e row t is member home k count =
    at_shift g r f frame m turned e row t is member (raised f k m)
    (raised_same g r f frame k m m m (same_refl g m) refl (same_refl g m).translation)
    (raised_at_home f k m home)
    (raised_shift r f k m ∙ reached (dot r f.tau) k t (dot r m.translation) count)
  where
    reached : (d k t n : ℤ) → d *ℤ k ≡ t -ℤ n → n +ℤ k *ℤ d ≡ t
    reached d k t n e = simp spread (omega (arith, ints))
