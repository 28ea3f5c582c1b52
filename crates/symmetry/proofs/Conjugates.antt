-- Motions conjugated by a translation.
use Rattle.std.proofs.Common.{◌≡◌, ℤ, pos, negsuc, ◌+ℤ◌, ◌*ℤ◌, inl, inr, [], ◌∷◌, refl, sym, ◌∙◌, ap, subst, arith}
use Rattle.std.proofs.lemmas.Int.{ints}
use Rattle.fractions.specs.Fraction.{SameFraction}
use Rattle.fractions.specs.declared.part.TheConstants.{UNIT}
use Rattle.integers.proofs.Solver.{Expr.{var, num, ◌⊕◌, ◌⊗◌}, linear}
use Rattle.symmetry.specs.Vectors.{Vector, dot, image, minus, multiple, opposite, plus, product, row_times, unit_matrix}
use Rattle.symmetry.specs.Motions.{Motion, followed_by, translation}
use Rattle.symmetry.specs.Planes.{Height, IsCoprime, IsHeight, KeepsRow, TurnsRow}
use Rattle.symmetry.specs.Groups.{Listing, IsGroup, IsInLattice, IsMember, InRowStabiliser, InStabiliser, SameModulo}
use Rattle.symmetry.specs.Frames.{Basis, DiffersInPlane, InPlaneLattice, IsFrame}
use Rattle.symmetry.specs.Scans.{conjugated, raised_height}
use Rattle.symmetry.proofs.FrameLaws.{tau_multiple}
use Rattle.symmetry.proofs.GroupLaws.{member_keeps, translation_member}
use Rattle.symmetry.proofs.Heights.{level_above}
use Rattle.symmetry.proofs.LatticeLaws.{lattice-opposite, lattice-plus}
use Rattle.symmetry.proofs.MatrixLaws.{image-multiple, image-unit, product-unit_left, product-unit_right, row_times-dot}
use Rattle.symmetry.proofs.MotionLaws.{motion_path}
use Rattle.symmetry.proofs.PlaneRows.{stabiliser_by_row}
use Rattle.symmetry.proofs.VectorLaws.{dot-multiple, dot-plus, multiple-dot, vector_path}

-- the translation w - W t + t
abbrev pub lifted : Vector → Motion → Motion
lifted t m = record { matrix = m.matrix; translation = plus (plus (opposite (image m.matrix t)) m.translation) t }

pub conjugated_is : (t : Vector) (m : Motion) → conjugated t m ≡ lifted t m
conjugated_is t m =
    motion_path (product-unit_left (product m.matrix unit_matrix) ∙ product-unit_right m.matrix)
    (ap (λ v. plus v t) (image-unit (plus (image m.matrix (opposite t)) m.translation) ∙ ap (λ v. plus v m.translation) (image-multiple m.matrix (negsuc 0) t)))

-- ---- there and back

up_and_down : (a t w : Vector) → plus (plus (opposite a) (plus (plus (opposite (opposite a)) w) (opposite t))) t ≡ w
unfolding plus multiple
up_and_down a t w = vector_path (omega (arith, ints)) (omega (arith, ints)) (omega (arith, ints))

down_and_up : (a t w : Vector) → plus (plus (opposite (opposite a)) (plus (plus (opposite a) w) t)) (opposite t) ≡ w
unfolding plus multiple
down_and_up a t w = vector_path (omega (arith, ints)) (omega (arith, ints)) (omega (arith, ints))

pub lifted-lowered : (t : Vector) (m : Motion) → lifted t (lifted (opposite t) m) ≡ m
lifted-lowered t m =
    motion_path refl
    (ap (λ a. plus (plus (opposite (image m.matrix t)) (plus (plus (opposite a) m.translation) (opposite t))) t) (image-multiple m.matrix (negsuc 0) t)
    ∙ up_and_down (image m.matrix t) t m.translation)

pub lowered-lifted : (t : Vector) (m : Motion) → lifted (opposite t) (lifted t m) ≡ m
lowered-lifted t m =
    motion_path refl
    (ap (λ a. plus (plus (opposite a) (plus (plus (opposite (image m.matrix t)) m.translation) t)) (opposite t)) (image-multiple m.matrix (negsuc 0) t)
    ∙ down_and_up (image m.matrix t) t m.translation)

-- ---- differences

lifted_apart : (a t v w : Vector) → minus v w ≡ minus (plus (plus a v) t) (plus (plus a w) t)
unfolding plus multiple
lifted_apart a t v w = vector_path (omega (arith, ints)) (omega (arith, ints)) (omega (arith, ints))

pub lifted_differs : (g : Listing) (r t : Vector) (m n : Motion) → DiffersInPlane g r m n → DiffersInPlane g r (lifted t m) (lifted t n)
lifted_differs g r t m n p = record {
  matrix = p.matrix;
  translation = subst (InPlaneLattice g r)
      (lifted_apart (opposite (image m.matrix t)) t m.translation n.translation
      ∙ ap (λ w. minus (plus (plus (opposite (image m.matrix t)) m.translation) t) (plus (plus (opposite (image w t)) n.translation) t)) p.matrix) p.translation;
}

-- ---- in a group

lifted_by : (a t w : Vector) → plus (opposite a) t ≡ minus (plus (plus (opposite a) w) t) w
unfolding plus multiple
lifted_by a t w = vector_path (omega (arith, ints)) (omega (arith, ints)) (omega (arith, ints))

module _ (g : Listing) (group : IsGroup g) (t : Vector) (in_it : IsInLattice g t) where
  pub lifted_member : (m : Motion) → IsMember g m → IsMember g (lifted t m)
  lifted_member m member =
      subst (IsMember g) (conjugated_is t m)
      (group.products (followed_by (translation (opposite t)) m) (translation t)
      (group.products (translation (opposite t)) m (translation_member g group (opposite t) (lattice-opposite g t in_it)) member)
      (translation_member g group t in_it))

  pub lifted_same : (m : Motion) → IsMember g m → SameModulo g (lifted t m) m
  lifted_same m member = record {
    matrix = refl;
    translation = subst (IsInLattice g) (lifted_by (image m.matrix t) t m.translation)
        (lattice-plus g (opposite (image m.matrix t)) t (lattice-opposite g (image m.matrix t) (member_keeps g group m member t in_it)) in_it);
  }

-- ---- from one plane to another

-- what the row gives
lifted_level : (r t : Vector) (m : Motion) → dot r (lifted t m).translation ≡ negsuc 0 *ℤ dot (row_times r m.matrix) t +ℤ dot r m.translation +ℤ dot r t
lifted_level r t m =
    dot-plus r (plus (opposite (image m.matrix t)) m.translation) t
    ∙ ap (λ x. x +ℤ dot r t) (dot-plus r (opposite (image m.matrix t)) m.translation)
    ∙ ap (λ x. x +ℤ dot r m.translation +ℤ dot r t) (dot-multiple r (negsuc 0) (image m.matrix t) ∙ ap (λ x. negsuc 0 *ℤ x) (sym (row_times-dot r m.matrix t)))

module _ (r : Vector) (f : Basis) (k : ℤ) where
  pub lifted_keeps : (m : Motion) → KeepsRow r m → KeepsRow r (lifted (multiple k f.tau) m)
  lifted_keeps m (row, level) =
      let t = multiple k f.tau in
      (row, lifted_level r t m ∙ (λ i. negsuc 0 *ℤ dot (row i) t +ℤ level i +ℤ dot r t) ∙ nothing (dot r t))
    where
      nothing : (x : ℤ) → negsuc 0 *ℤ x +ℤ pos 0 +ℤ x ≡ pos 0
      nothing x = omega (arith, ints)

  pub lifted_turn : (m : Motion) → row_times r m.matrix ≡ opposite r → dot r (lifted (multiple k f.tau) m).translation ≡ dot r m.translation +ℤ pos 2 *ℤ k *ℤ dot r f.tau
  lifted_turn m row =
      let t = multiple k f.tau in
      lifted_level r t m ∙ (λ i. negsuc 0 *ℤ (ap (λ v. dot v t) row ∙ multiple-dot (negsuc 0) r t) i +ℤ dot r m.translation +ℤ dot r t)
      ∙ (λ i. negsuc 0 *ℤ (negsuc 0 *ℤ dot-multiple r k f.tau i) +ℤ dot r m.translation +ℤ dot-multiple r k f.tau i)
      ∙ twice (dot r m.translation) k (dot r f.tau)
    where
      twice : (w k d : ℤ) → negsuc 0 *ℤ (negsuc 0 *ℤ (k *ℤ d)) +ℤ w +ℤ k *ℤ d ≡ w +ℤ pos 2 *ℤ k *ℤ d
      twice w k d =
          linear (w ∷ k ∷ d ∷ []) (num (negsuc 0) ⊗ (num (negsuc 0) ⊗ (var 1 ⊗ var 2)) ⊕ var 0 ⊕ var 1 ⊗ var 2) (var 0 ⊕ num (pos 2) ⊗ var 1 ⊗ var 2) [] tt tt

  pub lifted_turns : (s s' : Height) → IsHeight s → SameFraction s' (raised_height (dot r f.tau) k s) → (m : Motion) → TurnsRow r s m
      → TurnsRow r s' (lifted (multiple k f.tau) m)
  lifted_turns s s' high above m (row, twice) = (
    row,
    sym (ap (λ x. s'.den *ℤ x) (lifted_turn m row)
        ∙ level_above UNIT s.num s.den (dot r m.translation) high (sym twice) (dot r f.tau) k s'.num s'.den above),
  )

-- where one height is k periods above the other, conjugation by k tau leads from the stabiliser of the one to that of the other
pub lifted_stabiliser : (g : Listing) (r : Vector) (f : Basis) → IsFrame g r f → IsGroup g → IsCoprime r → (k : ℤ) (s s' : Height) → IsHeight s → IsHeight s'
    → SameFraction s' (raised_height (dot r f.tau) k s) → (m : Motion) → InStabiliser g r s m → InStabiliser g r s' (lifted (multiple k f.tau) m)
lifted_stabiliser g r f frame group coprime k s s' high high' above m in_it =
    (stabiliser_by_row g r s' (lifted (multiple k f.tau) m) group coprime high').1
    (rows ((stabiliser_by_row g r s m group coprime high).0 in_it))
  where
    rows : InRowStabiliser g r s m → InRowStabiliser g r s' (lifted (multiple k f.tau) m)
    rows (member, inl keeps) = (lifted_member g group (multiple k f.tau) (tau_multiple g r f frame k) m member, inl (lifted_keeps r f k m keeps))
    rows (member, inr turns) =
        (lifted_member g group (multiple k f.tau) (tau_multiple g r f frame k) m member, inr (lifted_turns r f k s s' high above m turns))
