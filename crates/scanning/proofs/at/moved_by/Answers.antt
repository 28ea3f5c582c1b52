-- The sign tells which.
use Rattle.std.proofs.Common.{◌≡◌, ◌*◌, ℤ, pos, ◌*ℤ◌, Option, None, Some, ap, ◌∙◌, subst, sym, lit<, lit≤, refl}
use Rattle.integers.specs.Size.{IsWithin}
use Rattle.integers.proofs.Coded.{again, again_is}
use Rattle.integers.proofs.Ring.{IsWithin-mul}
use Rattle.symmetry.specs.Vectors.{multiple, plus}
use Rattle.symmetry.proofs.Coprime.{not_opposite}
use Rattle.symmetry.proofs.VectorLaws.{multiple-one}
use Rattle.motions.specs.Views.{motion_of, parts, row_of}
use Rattle.motions.specs.declared.motion.Sign.{Sign}
use Rattle.motions.specs.declared.motion.Sign.TheVariants.{Plus, Minus}
use Rattle.scanning.specs.Bounds.{largest_periods}
use Rattle.scanning.proofs.at.moved_by.Goals as goal

twice : (k : ℤ) → IsWithin largest_periods k → again (pos 2 *ℤ again k) ≡ pos 2 *ℤ k
twice k small =
    ap (λ x. again (pos 2 *ℤ x)) (again_is k largest_periods small (lit< tt))
    ∙ again_is (pos 2 *ℤ k) (2 * largest_periods) (IsWithin-mul {m = 2} {a = pos 2} two small) (lit< tt)
  where
    two : IsWithin 2 (pos 2)
    two = record { most = lit≤ tt }

pub returns-in-Some-Minus : goal.returns-in-Some-Minus
returns-in-Some-Minus c =
    let q = c.args.frame.now in
    let m = motion_of c.args.m.now in
    let row = (c.in-Some-Minus.ensures.sign Minus).0 (ap Some c.in-Some-Minus.field-0-is) in record {
      kept = λ keeps. absurd (not_opposite (row_of q.plane) q.plane.coprime (sym keeps ∙ row));
      turned = λ turns.
          let P : ℤ → Type 0 = λ x. motion_of c.raised.result ≡ record { matrix = m.matrix; translation = plus m.translation (multiple x (parts q.tau)) } in
          subst P (twice c.args.k c.requires.periods) c.raised.ensures;
    }

-- one that keeps the row does not turn it
pub returns-in-Some-Plus : goal.returns-in-Some-Plus
returns-in-Some-Plus c =
    let q = c.args.frame.now in
    let row = (c.in-Some-Plus.ensures.sign Plus).0 (ap Some c.in-Some-Plus.field-0-is) in record {
      kept = λ keeps. refl;
      turned = λ turns. absurd (not_opposite (row_of q.plane) q.plane.coprime (sym (row ∙ multiple-one (row_of q.plane)) ∙ turns));
    }

not_none : (o : Option Sign) → o ≡ None → o ≡ Some Minus → ⊥
not_none o p q = let e : None ≡ Some Minus = sym p ∙ q in cc e

pub returns-in-None : goal.returns-in-None
returns-in-None c = record {
  kept = λ keeps. refl;
  turned = λ turns. absurd (not_none c.side.result c.in-None.is ((c.side.ensures.sign Minus).1 turns));
}
