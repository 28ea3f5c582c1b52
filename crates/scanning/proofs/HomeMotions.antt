-- A motion reduced modulo the lattice, and then brought home.
use native.Mathlib.Nat.{mul-le-mul_left}
use Rattle.std.proofs.Common.{◌≡◌, ℕ, ◌*◌, ◌≤◌, ℤ, pos, ◌≤ℤ◌, nat_abs, unsigned_abs, sym, ◌∙◌, subst, arith, lit≤}
use Rattle.std.proofs.lemmas.Int.{ints}
use Rattle.fractions.specs.declared.part.TheConstants.{UNIT}
use Rattle.integers.specs.Size.{IsWithin}
use Rattle.integers.proofs.Ring.{IsWithin-more}
use Rattle.symmetry.specs.Vectors.{Vector, minus, dot}
use Rattle.symmetry.specs.Motions.{Motion}
use Rattle.symmetry.specs.Groups.{Listing, IsInLattice, SameModulo}
use Rattle.symmetry.specs.Frames.{Basis, IsFrame, IsAtHome}
use Rattle.symmetry.specs.Sizes.{IsMatrixWithin, IsVectorWithin}
use Rattle.symmetry.proofs.LatticeLaws.{same_trans, same_sym}
use Rattle.motions.specs.declared.miller.TheConstants.{INDEX}
use Rattle.motions.specs.ListedSizes.{IsSmallWithin}
use Rattle.symmetry.proofs.Sizes.{IsVectorWithin-more}
use Rattle.closure.specs.declared.group.TheConstants.{MAX_ENTRY}
use Rattle.plane_lattice.specs.Bounds.{largest_entry}
use Rattle.plane_lattice.specs.Coordinates.{IsPlaneCombination}
use Rattle.scanning.specs.Bounds.{largest_shift}
use Rattle.scanning.specs.Members.{IsHomeMotion}
use Rattle.scanning.proofs.HomeSizes.{home_within}
use Rattle.scanning.proofs.Shifts.{shift_within}

module _ (g : Listing) (r : Vector) (f : Basis) (frame : IsFrame g r f) (m n h : Motion) where
  -- a whole combination of a and b is in the lattice
  pub home_same : SameModulo g n m → h.matrix ≡ n.matrix → IsPlaneCombination f (minus n.translation h.translation) → SameModulo g h m
  home_same same matrix (c, combined, flat) =
      same_trans g h n m (same_sym g n h (record { matrix = sym matrix; translation = subst (IsInLattice g) combined (frame.inside c) })) same

  pub home_motion : IsVectorWithin (unsigned_abs INDEX) r → IsVectorWithin largest_entry f.a → IsVectorWithin largest_entry f.b → IsVectorWithin largest_entry f.tau
      → IsSmallWithin (unsigned_abs MAX_ENTRY) m → n.matrix ≡ m.matrix → IsVectorWithin (unsigned_abs UNIT) n.translation
      → h.matrix ≡ n.matrix → dot r h.translation ≡ dot r n.translation → IsAtHome f h → IsHomeMotion r f h
  home_motion row a b tau small reduced near matrix shift_is home =
      let span : ℕ = largest_shift (unsigned_abs UNIT) in
      let P : ℤ → Type 0 = IsWithin span in
      let at : IsWithin span (dot r h.translation) = subst P (sym shift_is) (shift_within (unsigned_abs UNIT) r n.translation row near) in
      record {
        home = home;
        translation = at;
        small = record {
          matrix = subst (IsMatrixWithin (unsigned_abs MAX_ENTRY)) (sym (matrix ∙ reduced)) small.matrix;
          small = record {
            matrix = subst (IsMatrixWithin 500) (sym (matrix ∙ reduced)) small.small.matrix;
            translation = IsVectorWithin-more (home_within g r f frame h home span largest_entry a b tau (IsWithin-more at (more span (dot r f.tau) (omega (arith, ints, frame.tau_above))))) (lit≤ tt);
          };
        };
      }
    where
      more : (n : ℕ) (d : ℤ) → pos 1 ≤ℤ d → n ≤ n * nat_abs d
      more n d h = le_more n (nat_abs d) (omega (arith, ints))
        where
          le_more : (n d : ℕ) → 1 ≤ d → n ≤ n * d
          le_more n d h = omega (arith, mul-le-mul_left n h)
