-- The sign by which a matrix keeps a coprime row.
use Rattle.std.proofs.Common.{◌≡◌, ◌↔◌, ◌∙◌, sym, refl}
use Rattle.std.specs.Prelude.{Option, Some, None}
use Rattle.symmetry.specs.Vectors.{Vector, multiple, opposite}
use Rattle.symmetry.specs.Planes.{IsCoprime}
use Rattle.symmetry.proofs.Coprime.{not_opposite}
use Rattle.symmetry.proofs.VectorLaws.{multiple-one}
use Rattle.motions.specs.declared.motion.Sign.{Sign}
use Rattle.motions.specs.declared.motion.Sign.TheVariants.{Plus, Minus}
use Rattle.motions.specs.Signs.{sign_value}

-- where v is s r, the sign is s and no other
pub side_some : (s : Sign) (r v : Vector) → IsCoprime r → v ≡ multiple (sign_value s) r
    → (e : Sign) → (Some s ≡ Some e) ↔ (v ≡ multiple (sign_value e) r)
side_some Plus r v coprime h Plus = (λ _. h, λ _. refl)
side_some Plus r v coprime h Minus =
    (λ (q : Some Plus ≡ Some Minus). absurd (cc), λ k. absurd (not_opposite r coprime (sym (multiple-one r) ∙ sym h ∙ k)))
side_some Minus r v coprime h Plus =
    (λ (q : Some Minus ≡ Some Plus). absurd (cc), λ k. absurd (not_opposite r coprime (sym (multiple-one r) ∙ sym k ∙ h)))
side_some Minus r v coprime h Minus = (λ _. h, λ _. refl)

abbrev nothing : Option Sign
nothing = None

-- where v is neither r nor -r, there is no sign
pub side_none : (r v : Vector) → ¬ (v ≡ r) → ¬ (v ≡ opposite r)
    → (e : Sign) → (nothing ≡ Some e) ↔ (v ≡ multiple (sign_value e) r)
side_none r v f g Plus = (λ (q : nothing ≡ Some Plus). absurd (cc), λ k. absurd (f (k ∙ multiple-one r)))
side_none r v f g Minus = (λ (q : nothing ≡ Some Minus). absurd (cc), λ k. absurd (g k))
