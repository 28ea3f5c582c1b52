-- Vectors with entries from 0 to below UNIT, of which the origin is the least.
use Rattle.std.proofs.Common.{◌≡◌, ◌^◌, false, ℤ, pos, ◌≤ℤ◌, ◌<ℤ◌, lit<, arith, refl, sym, ap, subst}
use Rattle.std.specs.Prelude.{unsigned_abs}
use Rattle.std.specs.declared.cmp.Ordering.{Ordering}
use Rattle.std.specs.declared.cmp.Ordering.TheVariants.{Less, Equal, Greater}
use Rattle.std.specs.Ordering.{int_cmp, is_lt, ordering_then}
use Rattle.std.proofs.lemmas.Int.{ints}
use Rattle.std.proofs.lemmas.Cmp.{int_ranked}
use Rattle.integers.specs.Size.{IsWithin}
use Rattle.fractions.specs.declared.part.TheConstants.{UNIT}
use Rattle.fractions.specs.Parts.{reduced_parts}
use Rattle.symmetry.specs.Vectors.{Vector, origin}
use Rattle.symmetry.specs.Sizes.{IsVectorWithin}
use Rattle.closure.specs.Residues.{residue, is_before}
use Rattle.integers.proofs.Remainders.{zero-le-rem, rem-below}

least : (x : ℤ) → pos 0 ≤ℤ reduced_parts x
least x = zero-le-rem (unsigned_abs UNIT) (lit< tt) x

below : (x : ℤ) → reduced_parts x <ℤ UNIT
below x = rem-below (unsigned_abs UNIT) (lit< tt) x

entry_within : (x : ℤ) → pos 0 ≤ℤ x → x <ℤ UNIT → IsWithin (2 ^ 40) x
entry_within x p q = record { most = omega (arith, ints) }

pub reduced_within : (v : Vector) → residue v ≡ v → IsVectorWithin (2 ^ 40) v
unfolding residue
reduced_within v e =
    let x : reduced_parts v.x ≡ v.x = ap (λ (u : Vector). u.x) e in
    let y : reduced_parts v.y ≡ v.y = ap (λ (u : Vector). u.y) e in
    let z : reduced_parts v.z ≡ v.z = ap (λ (u : Vector). u.z) e in
    record {
      x = entry_within v.x (subst (λ k. pos 0 ≤ℤ k) x (least v.x)) (subst (λ k. k <ℤ UNIT) x (below v.x));
      y = entry_within v.y (subst (λ k. pos 0 ≤ℤ k) y (least v.y)) (subst (λ k. k <ℤ UNIT) y (below v.y));
      z = entry_within v.z (subst (λ k. pos 0 ≤ℤ k) z (least v.z)) (subst (λ k. k <ℤ UNIT) z (below v.z));
    }

not_less : (x : ℤ) → pos 0 ≤ℤ x → ¬ (int_cmp x (pos 0) ≡ Less)
not_less x p e =
    let less : x <ℤ pos 0 = int_ranked x (pos 0) Less (sym e) in
    absurd (omega (arith, ints))

pub not_before_origin : (u : Vector) → residue u ≡ u → is_before u origin ≡ false
unfolding residue
not_before_origin u e = go (int_cmp u.x (pos 0)) (int_cmp u.y (pos 0)) (int_cmp u.z (pos 0)) (not_less u.x x) (not_less u.y y) (not_less u.z z)
  where
    x : pos 0 ≤ℤ u.x
    x = subst (λ k. pos 0 ≤ℤ k) (ap (λ (u : Vector). u.x) e) (least u.x)

    y : pos 0 ≤ℤ u.y
    y = subst (λ k. pos 0 ≤ℤ k) (ap (λ (u : Vector). u.y) e) (least u.y)

    z : pos 0 ≤ℤ u.z
    z = subst (λ k. pos 0 ≤ℤ k) (ap (λ (u : Vector). u.z) e) (least u.z)

    go : (o p q : Ordering) → ¬ (o ≡ Less) → ¬ (p ≡ Less) → ¬ (q ≡ Less) → is_lt (ordering_then o (ordering_then p q)) ≡ false
    go Less p q a b c = absurd (a refl)
    go Greater p q a b c = refl
    go Equal Less q a b c = absurd (b refl)
    go Equal Greater q a b c = refl
    go Equal Equal Less a b c = absurd (c refl)
    go Equal Equal Equal a b c = refl
    go Equal Equal Greater a b c = refl
