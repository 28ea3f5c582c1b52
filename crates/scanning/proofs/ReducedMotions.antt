-- A motion reduced modulo a lattice: it is the same, and its translation stays within the cell.
use Rattle.std.proofs.Common.{◌≡◌, ◌^◌, pos, ◌≤ℤ◌, ◌<ℤ◌, ℤ, unsigned_abs, sym, ap, subst, arith, lit≤}
use Rattle.std.proofs.lemmas.Int.{ints}
use Rattle.fractions.specs.declared.part.TheConstants.{UNIT}
use Rattle.fractions.specs.Parts.{reduced_parts}
use Rattle.integers.specs.Size.{IsWithin}
use Rattle.symmetry.specs.Vectors.{Vector}
use Rattle.symmetry.specs.Motions.{Motion}
use Rattle.symmetry.specs.Groups.{Listing, SameModulo}
use Rattle.symmetry.specs.Sizes.{IsSmall, IsMatrixWithin, IsVectorWithin}
use Rattle.symmetry.proofs.Sizes.{IsVectorWithin-more}
use Rattle.closure.specs.declared.lattice.Lattice.{Lattice}
use Rattle.closure.specs.Lattices.{IsHome, IsLatticeOf}
use Rattle.closure.specs.Residues.{residue}
use Rattle.integers.proofs.Remainders.{zero-le-rem, rem-below}

reduced_within : (z : ℤ) → reduced_parts z ≡ z → IsWithin (unsigned_abs UNIT) z
reduced_within z e =
    let P : ℤ → Type 0 = λ x. pos 0 ≤ℤ x in
    let Q : ℤ → Type 0 = λ x. x <ℤ UNIT in
    let least : pos 0 ≤ℤ z = subst P e (zero-le-rem (unsigned_abs UNIT) (omega arith) z) in
    let below : z <ℤ UNIT = subst Q e (rem-below (unsigned_abs UNIT) (omega arith) z) in
    record { most = omega (arith, ints) }

pub residue_within : (v : Vector) → residue v ≡ v → IsVectorWithin (unsigned_abs UNIT) v
unfolding residue
residue_within v e = record {
  x = reduced_within v.x (ap (λ (u : Vector). u.x) e);
  y = reduced_within v.y (ap (λ (u : Vector). u.y) e);
  z = reduced_within v.z (ap (λ (u : Vector). u.z) e);
}

module _ (lattice : Lattice) (m n : Motion) (matrix : n.matrix ≡ m.matrix) (home : IsHome lattice m.translation n.translation) where
  pub reduced_same : (g : Listing) → IsLatticeOf g lattice → SameModulo g n m
  reduced_same g same = record { matrix = matrix; translation = (same _).0 home.same }

  pub reduced_small : IsSmall m → IsSmall n
  reduced_small small = record {
    matrix = subst (IsMatrixWithin 500) (sym matrix) small.matrix;
    translation = IsVectorWithin-more (residue_within n.translation home.reduced) (lit≤ tt);
  }

  pub reduced_near : IsVectorWithin (2 ^ 20) n.translation
  reduced_near = IsVectorWithin-more (residue_within n.translation home.reduced) (lit≤ tt)
