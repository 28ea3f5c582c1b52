-- The rod operations of a list, one after the other, and those of a group.
use Rattle.std.proofs.Common.{◌≡◌, inl, ◌+◌, ◌<◌, ℤ, pos, ◌+ℤ◌, ◌*ℤ◌, Bool, true, false, cond, List, [], ◌∷◌, ◌++◌, length, sym, ap, ◌∙◌, arith}
use Rattle.std.specs.List.{AllPairs}
use Rattle.std.proofs.lemmas.Int.{ints}
use Rattle.std.proofs.lemmas.Bool.{false_from_ne_true}
use Rattle.symmetry.specs.Vectors.{Vector, multiple, image}
use Rattle.symmetry.specs.Motions.{Motion}
use Rattle.symmetry.specs.Planes.{IsCoprime}
use Rattle.symmetry.specs.Groups.{Listing, IsGroup, SameModulo}
use Rattle.symmetry.specs.Frames.{Basis}
use Rattle.symmetry.proofs.MatrixLaws.{image-unit}
use Rattle.symmetry.proofs.KeptOps.{filter-push, kept_listed, kept_once, some_kept}
use Rattle.symmetry.proofs.Signs.{same_or_opposite-is}
use Rattle.motions.specs.Laws.SignLaws.{sign_is_sign}
use Rattle.motions.specs.Signs.{sign_value}
use Rattle.motions.specs.declared.motion.Sign.{Sign}
use Rattle.penetration.specs.RodFrames.{AreRodOperations, KeepsDirection, coefficient, sign_along, total_along}
use Rattle.penetration.specs.RodOperations.{keeps_along, rod_ops, signed_coefficient}
use Rattle.penetration.proofs.DirectionSigns.{keeps_by_sign, sign_is, same_direction}

-- ---- the test of the direction

pub keeps_true : (u : Vector) (m : Motion) → KeepsDirection u m → keeps_along u m ≡ true
keeps_true u m = (same_or_opposite-is (image m.matrix u) u).1

pub true_keeps : (u : Vector) (m : Motion) → keeps_along u m ≡ true → KeepsDirection u m
true_keeps u m = (same_or_opposite-is (image m.matrix u) u).0

pub keeps_false : (u : Vector) (m : Motion) → ¬ KeepsDirection u m → keeps_along u m ≡ false
keeps_false u m none = false_from_ne_true (keeps_along u m) (λ e. none (true_keeps u m e))

-- ---- what a motion adds

pub with_sign : (u : Vector) (f : Basis) (m : Motion) (v : Vector) → IsCoprime u → (e : Sign) → image m.matrix u ≡ multiple (sign_value e) u
    → signed_coefficient u f m v ≡ sign_value e *ℤ (coefficient f (image m.matrix v)).num
with_sign u f m v coprime e is =
    ap (λ (b : Bool). cond b (sign_along u m *ℤ (coefficient f (image m.matrix v)).num) (pos 0))
    (keeps_true u m (keeps_by_sign u m (sign_value e) (sign_is_sign e) is))
    ∙ ap (λ s. s *ℤ (coefficient f (image m.matrix v)).num) (sign_is u m (sign_value e) coprime (sign_is_sign e) is)

pub without_sign : (u : Vector) (f : Basis) (m : Motion) (v : Vector) → ¬ KeepsDirection u m → signed_coefficient u f m v ≡ pos 0
without_sign u f m v none = ap (λ (b : Bool). cond b (sign_along u m *ℤ (coefficient f (image m.matrix v)).num) (pos 0)) (keeps_false u m none)

-- ---- one motion more

module _ (u : Vector) (f : Basis) (v : Vector) where
  -- the sum over one motion more
  total-append : (ms : List Motion) (m : Motion) → total_along u f (ms ++ m ∷ []) v ≡ total_along u f ms v +ℤ sign_along u m *ℤ (coefficient f (image m.matrix v)).num
  total-append [] m = one (sign_along u m *ℤ (coefficient f (image m.matrix v)).num)
    where
      one : (x : ℤ) → x +ℤ pos 0 ≡ pos 0 +ℤ x
      one x = omega (arith, ints)
  total-append (n ∷ ms) m =
      ap (λ x. sign_along u n *ℤ (coefficient f (image n.matrix v)).num +ℤ x) (total-append ms m)
      ∙ joined (sign_along u n *ℤ (coefficient f (image n.matrix v)).num) (total_along u f ms v) (sign_along u m *ℤ (coefficient f (image m.matrix v)).num)
    where
      joined : (x y z : ℤ) → x +ℤ (y +ℤ z) ≡ (x +ℤ y) +ℤ z
      joined x y z = omega (arith, ints)

  pub total-more : (ms : List Motion) (m : Motion) → total_along u f (rod_ops u (ms ++ m ∷ [])) v ≡ total_along u f (rod_ops u ms) v +ℤ signed_coefficient u f m v
  total-more ms m = ap (λ xs. total_along u f xs v) (filter-push (keeps_along u) ms m) ∙ by (keeps_along u m)
    where
      none : (x : ℤ) → x ≡ x +ℤ pos 0
      none x = omega (arith, ints)

      by : (b : Bool) → total_along u f (cond b (rod_ops u ms ++ m ∷ []) (rod_ops u ms)) v
          ≡ total_along u f (rod_ops u ms) v +ℤ cond b (sign_along u m *ℤ (coefficient f (image m.matrix v)).num) (pos 0)
      by true = total-append (rod_ops u ms) m
      by false = none (total_along u f (rod_ops u ms) v)

-- ---- the rod operations of a group

pub rod_ops_are : (g : Listing) (u : Vector) → AllPairs (λ m n. ¬ SameModulo g m n) g.ops → AreRodOperations g u (rod_ops u g.ops)
rod_ops_are g u apart = record {
  listed = kept_listed g (keeps_along u) (KeepsDirection u) (true_keeps u);
  once = kept_once g (keeps_along u) (KeepsDirection u) (keeps_true u) (same_direction u) apart;
}

-- a group has a rod operation
pub some_rod : (g : Listing) (u : Vector) → IsGroup g → 0 < length (rod_ops u g.ops)
some_rod g u group = some_kept g (keeps_along u) (KeepsDirection u) (keeps_true u) (same_direction u) group (inl (image-unit u))

-- a fraction that is n over d is m over e, where these are the same
pub same_ratio : (num den : ℤ) {n m d e : ℤ} → n ≡ m → d ≡ e → num *ℤ d ≡ n *ℤ den → num *ℤ e ≡ m *ℤ den
same_ratio num den p q h = ap (λ x. num *ℤ x) (sym q) ∙ h ∙ ap (λ x. x *ℤ den) p
