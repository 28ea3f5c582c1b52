-- What a frame says of the period, the plane lattice and the special heights.
use Rattle.std.proofs.Common.{◌≡◌, ◌↔◌, ℤ, pos, ◌+ℤ◌, ◌*ℤ◌, ◌≤ℤ◌, ◌<ℤ◌, refl, sym, ◌∙◌, ap, subst, arith}
use Rattle.std.specs.Prelude.{Contains}
use Rattle.std.proofs.lemmas.Int.{ints}
use lib.IntN.{+ℤ_comm}
use Rattle.fractions.specs.declared.part.TheConstants.{UNIT}
use Rattle.integers.proofs.Order.{least_multiple, mul_right_cancel_pos}
use Rattle.integers.proofs.Ring.{zero_mul, one_mul}
use Rattle.integers.proofs.Spread.{spread}
use Rattle.symmetry.specs.Vectors.{Vector, origin, plus, multiple, opposite, minus, dot, cross, row_times}
use Rattle.symmetry.specs.Motions.{Motion}
use Rattle.symmetry.specs.Planes.{Height, IsHeight, IsCoprime}
use Rattle.symmetry.specs.Groups.{Listing, IsInLattice, IsGroup}
use Rattle.symmetry.specs.Frames.{Basis, combination, IsFrame, IsPeriod, InPlaneLattice, IsSpecial}
use Rattle.symmetry.proofs.VectorLaws.{vector_path, dot-plus, dot-multiple, minus-plus, plus-minus_first}
use Rattle.symmetry.proofs.PlaneRows.{special_by_row}

-- ---- combinations

pub combination-origin : (f : Basis) → combination f origin ≡ origin
unfolding plus multiple
combination-origin f = vector_path (omega (arith, ints)) (omega (arith, ints)) (omega (arith, ints))

pub combination-plus : (f : Basis) (c c' : Vector) → combination f (plus c c') ≡ plus (combination f c) (combination f c')
unfolding plus multiple
combination-plus f c c' =
    vector_path (simp spread (omega (arith, ints))) (simp spread (omega (arith, ints))) (simp spread (omega (arith, ints)))

pub combination-minus : (f : Basis) (c c' : Vector) → combination f (minus c c') ≡ minus (combination f c) (combination f c')
unfolding plus multiple
combination-minus f c c' =
    vector_path (simp spread (omega (arith, ints))) (simp spread (omega (arith, ints))) (simp spread (omega (arith, ints)))

pub combination-multiple : (f : Basis) (k : ℤ) (c : Vector) → combination f (multiple k c) ≡ multiple k (combination f c)
unfolding plus multiple
combination-multiple f k c =
    vector_path (simp spread (omega (arith, ints))) (simp spread (omega (arith, ints))) (simp spread (omega (arith, ints)))

-- Cramer's rule: the determinant (a x b).tau times a vector is a whole combination
pub cramer : (f : Basis) (v : Vector)
    → combination f (record { x = dot (cross f.b f.tau) v; y = dot (cross f.tau f.a) v; z = dot (cross f.a f.b) v })
    ≡ multiple (dot (cross f.a f.b) f.tau) v
unfolding plus multiple dot cross
cramer f v =
    vector_path (simp spread (omega (arith, ints))) (simp spread (omega (arith, ints))) (simp spread (omega (arith, ints)))

-- 0 a + 0 b + k tau
only_tau : (k : ℤ) (a b t : Vector) → plus (plus (multiple (pos 0) a) (multiple (pos 0) b)) (multiple k t) ≡ multiple k t
unfolding plus multiple
only_tau k a b t = vector_path (omega (arith, ints)) (omega (arith, ints)) (omega (arith, ints))

-- an orientation has one period
pub period_agrees : (g : Listing) (r : Vector) (d d' : ℤ) → IsPeriod g r d → IsPeriod g r d' → d ≡ d'
period_agrees g r d d' p p' =
    let most : d ≤ℤ d' = below d d' p p' in
    let least : d' ≤ℤ d = below d' d p' p in omega (arith, ints)
  where
    below : (d d' : ℤ) → IsPeriod g r d → IsPeriod g r d' → d ≤ℤ d'
    below d d' p p' =
        let (t, in_it, is) = p'.taken in
        subst (λ x. d ≤ℤ x) is (p.least t in_it (subst (λ x. pos 0 <ℤ x) (sym is) p'.positive))

module _ (g : Listing) (r : Vector) (f : Basis) (frame : IsFrame g r f) where
  -- what the row gives at a combination
  pub dot-combination : (c : Vector) → dot r (combination f c) ≡ c.z *ℤ dot r f.tau
  dot-combination c =
      dot-plus r _ _ ∙ ap (λ x. x +ℤ dot r (multiple c.z f.tau)) (dot-plus r _ _)
      ∙ (λ i. dot-multiple r c.x f.a i +ℤ dot-multiple r c.y f.b i +ℤ dot-multiple r c.z f.tau i)
      ∙ (λ i. c.x *ℤ frame.a_in_plane i +ℤ c.y *ℤ frame.b_in_plane i +ℤ c.z *ℤ dot r f.tau)
      ∙ only_last c.x c.y (c.z *ℤ dot r f.tau)
    where
      only_last : (x y z : ℤ) → x *ℤ pos 0 +ℤ y *ℤ pos 0 +ℤ z ≡ z
      only_last x y z = omega (arith, ints)

  -- each multiple of tau is in the lattice
  pub tau_multiple : (k : ℤ) → IsInLattice g (multiple k f.tau)
  tau_multiple k =
      subst (IsInLattice g) (only_tau k f.a f.b f.tau) (frame.inside (record { x = pos 0; y = pos 0; z = k }))

  -- (hkl).t is a whole multiple of (hkl).tau for each lattice vector t
  pub lattice_periods : (t : Vector) → IsInLattice g t → (k : ℤ) × (dot r t ≡ k *ℤ dot r f.tau)
  lattice_periods t in_it = let (c, is) = frame.spans t in_it in (c.z, ap (dot r) (sym is) ∙ dot-combination c)

  -- (hkl).tau is the period
  pub frame_period : IsPeriod g r (dot r f.tau)
  frame_period = record {
    positive = frame.tau_above;
    taken = (multiple (pos 1) f.tau, tau_multiple (pos 1), dot-multiple r (pos 1) f.tau ∙ one_mul (dot r f.tau));
    least = λ t in_it positive.
        let (k, value) = lattice_periods t in_it in
        subst (λ x. dot r f.tau ≤ℤ x) (sym value) (least_multiple k (dot r f.tau) frame.tau_above (subst (λ x. pos 0 <ℤ x) value positive));
  }

  -- the plane lattice is what a and b span
  pub plane_lattice : (t : Vector) → InPlaneLattice g r t ↔ ((c : Vector) × (combination f c ≡ t) × (c.z ≡ pos 0))
  plane_lattice t = (
    λ (in_it, flat).
        let (c, is) = frame.spans t in_it in
        let none : c.z *ℤ dot r f.tau ≡ pos 0 *ℤ dot r f.tau =
        sym (dot-combination c) ∙ ap (dot r) is ∙ flat ∙ sym (zero_mul (dot r f.tau)) in
        (c, is, mul_right_cancel_pos c.z (pos 0) (dot r f.tau) (omega (arith, ints, frame.tau_above)) none),
    λ (c, is, none).
        (subst (IsInLattice g) is (frame.inside c), ap (dot r) (sym is) ∙ dot-combination c ∙ ap (λ x. x *ℤ dot r f.tau) none ∙ zero_mul (dot r f.tau)),
  )

  -- special heights by the listed operations: twice the height is the shift of one that turns the row, and some periods
  pub special_by_listed : (s : Height) → IsGroup g → IsCoprime r → IsHeight s
      → IsSpecial g r s
      ↔ ((n : Motion) × (k : ℤ) × Contains g.ops n × (row_times r n.matrix ≡ opposite r)
      × (pos 2 *ℤ s.num *ℤ UNIT ≡ s.den *ℤ (dot r n.translation +ℤ k *ℤ dot r f.tau)))
  special_by_listed s group coprime high = (
    λ special.
        let (m, p, (row, twice)) = (special_by_row g r s group coprime high).0 special in
        let (k, value) = lattice_periods (minus m.translation p.of.translation) p.same.translation in
        let shift : dot r m.translation ≡ dot r p.of.translation +ℤ k *ℤ dot r f.tau =
        ap (dot r) (sym (minus-plus m.translation p.of.translation)) ∙ dot-plus r (minus m.translation p.of.translation) p.of.translation
        ∙ ap (λ x. x +ℤ dot r p.of.translation) value ∙ +ℤ_comm (k *ℤ dot r f.tau) (dot r p.of.translation) in
        (p.of, k, p.listed, ap (row_times r) (sym p.same.matrix) ∙ row, twice ∙ ap (λ x. s.den *ℤ x) shift),
    λ (n, k, listed, row, twice).
        let t = multiple k f.tau in
        let shift : dot r (plus n.translation t) ≡ dot r n.translation +ℤ k *ℤ dot r f.tau =
        dot-plus r n.translation t ∙ ap (λ x. dot r n.translation +ℤ x) (dot-multiple r k f.tau) in
        (special_by_row g r s group coprime high).1 (
          record { matrix = n.matrix; translation = plus n.translation t },
          record {
            of = n;
            listed = listed;
            same = record { matrix = refl; translation = subst (IsInLattice g) (sym (plus-minus_first n.translation t)) (tau_multiple k) };
          },
          (row, twice ∙ ap (λ x. s.den *ℤ x) (sym shift)),
        ),
  )
