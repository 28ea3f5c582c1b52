-- How large the translation of a motion at home is.
use native.Mathlib.Nat.{mul-le-mul_left}
use Rattle.std.proofs.Common.{◌≡◌, ℕ, ◌+◌, ◌*◌, ◌≤◌, ℤ, pos, ◌*ℤ◌, ◌≤ℤ◌, nat_abs, sym, ◌∙◌, ap, arith}
use Rattle.std.proofs.lemmas.Int.{ints}
use Rattle.std.proofs.Math.Nat.{le_of_mul-le-mul_left}
use Rattle.integers.specs.Size.{IsWithin}
use Rattle.integers.proofs.Ring.{abs-mul}
use Rattle.integers.proofs.Sizes.{below_within, combined_within}
use Rattle.symmetry.specs.Vectors.{Vector, plus, multiple, dot}
use Rattle.symmetry.specs.Motions.{Motion}
use Rattle.symmetry.specs.Frames.{Basis, IsFrame, IsAtHome}
use Rattle.symmetry.specs.Groups.{Listing}
use Rattle.symmetry.specs.Sizes.{IsVectorWithin}
use Rattle.symmetry.proofs.VectorLaws.{dot-multiple}
use Rattle.symmetry.proofs.FrameLaws.{dot-combination}

module _ (g : Listing) (r : Vector) (f : Basis) (frame : IsFrame g r f) (m : Motion) (home : IsAtHome f m) (n : ℕ) where
  -- z d = o (hkl).w
  along : home.by.z *ℤ dot r f.tau ≡ home.over *ℤ dot r m.translation
  along = sym (dot-combination g r f frame home.by) ∙ ap (dot r) home.is ∙ dot-multiple r home.over m.translation

  along_within : (o d z w : ℤ) → pos 1 ≤ℤ o → pos 1 ≤ℤ d → z *ℤ d ≡ o *ℤ w → IsWithin (n * nat_abs d) w → IsWithin (nat_abs o * n) z
  along_within o d z w ho hd e small = record { most = cancelled (nat_abs o) (nat_abs d) (nat_abs z) (nat_abs w) (omega (arith, ints)) (sym (abs-mul z d) ∙ ap nat_abs e ∙ abs-mul o w) small.most }
    where
      cancelled : (o d z w : ℕ) → 1 ≤ d → z * d ≡ o * w → w ≤ n * d → z ≤ o * n
      cancelled o d z w h e le = le_of_mul-le-mul_left {m = z} {n = o * n} {k = d} (omega (arith, mul-le-mul_left o le)) (omega (arith, h))

  -- where (hkl).w is at most n periods, the translation is at most n + 2 times as large as a, b and tau
  pub home_within : (e : ℕ) → IsVectorWithin e f.a → IsVectorWithin e f.b → IsVectorWithin e f.tau
      → IsWithin (n * nat_abs (dot r f.tau)) (dot r m.translation) → IsVectorWithin (e + e + n * e) m.translation
  unfolding plus multiple
  home_within e a b t shift =
      let o = home.over in
      let x = below_within o home.by.x home.x_from home.x_below in
      let y = below_within o home.by.y home.y_from home.y_below in
      let z = along_within o (dot r f.tau) home.by.z (dot r m.translation) home.positive (omega (arith, ints, frame.tau_above)) along shift in
      record {
        x = combined_within o home.by.x home.by.y home.by.z f.a.x f.b.x f.tau.x m.translation.x e n home.positive (ap (λ (u : Vector). u.x) home.is) x y z a.x b.x t.x;
        y = combined_within o home.by.x home.by.y home.by.z f.a.y f.b.y f.tau.y m.translation.y e n home.positive (ap (λ (u : Vector). u.y) home.is) x y z a.y b.y t.y;
        z = combined_within o home.by.x home.by.y home.by.z f.a.z f.b.z f.tau.z m.translation.z e n home.positive (ap (λ (u : Vector). u.z) home.is) x y z a.z b.z t.z;
      }
