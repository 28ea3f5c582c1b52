-- A frame is told by finitely many vectors.
use Rattle.std.proofs.Common.{◌≡◌, zero, suc, ℤ, pos, negsuc, ◌*ℤ◌, ◌<ℤ◌, sym, ap, subst, ◌∙◌, arith, ◌↔◌, Bool, IsTrue}
use Rattle.std.proofs.lemmas.Int.{ints}
use Rattle.symmetry.specs.Vectors.{Vector, origin, plus, minus, multiple, dot, cross}
use Rattle.symmetry.specs.Groups.{Listing, Generates, IsInLattice, zero_vector, added, subtracted}
use Rattle.symmetry.specs.Frames.{Basis, combination, IsFrame}
use Rattle.symmetry.proofs.VectorLaws.{vector_path, multiple-dot}
use Rattle.symmetry.proofs.LatticeLaws.{lattice-plus, lattice-made, lattice-multiple}
use Rattle.plane_lattice.specs.FrameTests.{PassesFrameTests}
use Rattle.symmetry.proofs.FrameLaws.{combination-minus, combination-origin, combination-plus}
use Rattle.plane_lattice.specs.Coordinates.{volume}
use Rattle.plane_lattice.specs.Laws.QuotientLaws.{along_a, along_b}
use Rattle.plane_lattice.proofs.Cramer.{combination_once}
use Rattle.motions.specs.declared.basis.Basis.{Basis as BasisOfCode}
use Rattle.motions.specs.BasisView.{basis_of}

pub lattice-combination : (g : Listing) (f : Basis) → IsInLattice g f.a → IsInLattice g f.b → IsInLattice g f.tau
    → (c : Vector) → IsInLattice g (combination f c)
lattice-combination g f a b t c =
    lattice-plus g (plus (multiple c.x f.a) (multiple c.y f.b)) (multiple c.z f.tau)
    (lattice-plus g (multiple c.x f.a) (multiple c.y f.b) (lattice-multiple g c.x f.a a) (lattice-multiple g c.y f.b b))
    (lattice-multiple g c.z f.tau t)

-- the product of two positive numbers
positive_product : (a b : ℤ) → pos 0 <ℤ a → pos 0 <ℤ b → pos 0 <ℤ (a *ℤ b)
positive_product (pos zero) b h k = absurd (omega (arith, ints))
positive_product (pos (suc m)) (pos zero) h k = absurd (omega (arith, ints))
positive_product (pos (suc m)) (pos (suc n)) h k = omega (arith, ints)
positive_product (pos (suc m)) (negsuc n) h k = absurd (omega (arith, ints))
positive_product (negsuc m) b h k = absurd (omega (arith, ints))

-- right-handed vectors of which the third points above the plane span a positive volume
pub volume_positive : (r : Vector) (f : Basis) → ((c : ℤ) × (pos 0 <ℤ c) × (cross f.a f.b ≡ multiple c r)) → pos 0 <ℤ dot r f.tau → pos 0 <ℤ volume f
volume_positive r f (c, above, is) up =
    subst (λ (x : ℤ). pos 0 <ℤ x) (sym (ap (λ (v : Vector). dot v f.tau) is ∙ multiple-dot c r f.tau)) (positive_product c (dot r f.tau) above up)

module _ (g : Listing) (r : Vector) (f : Basis) where
  spans : ((v : Vector) → Generates g v → (c : Vector) × (combination f c ≡ v)) → (t : Vector) → IsInLattice g t → (c : Vector) × (combination f c ≡ t)
  spans made _ zero_vector = (origin, combination-origin f)
  spans made _ (added t v h by) =
      let (c, e) = spans made t h in
      let (d, e') = made v by in
      (plus c d, combination-plus f c d ∙ (λ i. plus (e i) (e' i)))
  spans made _ (subtracted t v h by) =
      let (c, e) = spans made t h in
      let (d, e') = made v by in
      (minus c d, combination-minus f c d ∙ (λ i. minus (e i) (e' i)))

  along_tau : combination f (record { x = pos 0; y = pos 0; z = pos 1 }) ≡ f.tau
  unfolding plus multiple
  along_tau = vector_path (omega (arith, ints)) (omega (arith, ints)) (omega (arith, ints))

  pub tests_make_frame : PassesFrameTests g r f → IsFrame g r f
  tests_make_frame t =
      let up : pos 0 <ℤ volume f = volume_positive r f t.right_handed t.tau_above in record {
        spans = spans t.combined;
        once = combination_once f (λ e. absurd (omega (arith, ints)));
        inside = lattice-combination g f t.a_in t.b_in t.tau_in;
        a_in_plane = t.a_in_plane;
        b_in_plane = t.b_in_plane;
        tau_above = t.tau_above;
        right_handed = t.right_handed;
      }

  pub frame_passes_tests : IsFrame g r f → PassesFrameTests g r f
  frame_passes_tests k = record {
    a_in = subst (IsInLattice g) (along_a f) (k.inside (record { x = pos 1; y = pos 0; z = pos 0 }));
    b_in = subst (IsInLattice g) (along_b f) (k.inside (record { x = pos 0; y = pos 1; z = pos 0 }));
    tau_in = subst (IsInLattice g) along_tau (k.inside (record { x = pos 0; y = pos 0; z = pos 1 }));
    a_in_plane = k.a_in_plane;
    b_in_plane = k.b_in_plane;
    tau_above = k.tau_above;
    right_handed = k.right_handed;
    combined = λ v made. k.spans v (lattice-made g v made);
  }

-- what is told of one basis of the code is told of the same
pub told : {b : Bool} {basis kept : BasisOfCode} (P : Basis → Type 0) → kept ≡ basis → (IsTrue b ↔ P (basis_of kept)) → (IsTrue b ↔ P (basis_of basis))
told {b} P same tells = subst (λ (x : BasisOfCode). IsTrue b ↔ P (basis_of x)) same tells
