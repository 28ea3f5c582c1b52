-- A plane group as a group of space: its points, motions and members.
use Rattle.std.proofs.Common.{◌≡◌, ◌↔◌, ℤ, pos, negsuc, ◌+ℤ◌, ◌-ℤ◌, ◌*ℤ◌, refl, sym, ap, subst, ◌∙◌, arith, inl, lit<}
use Rattle.std.specs.Prelude.{Contains}
use Rattle.std.proofs.lemmas.Int.{ints}
use Rattle.fractions.specs.declared.part.TheConstants.{UNIT}
use Rattle.symmetry.specs.Vectors.{Vector, Matrix, dot, image, minus, multiple, plus}
use Rattle.symmetry.specs.Motions.{Motion, Point, moved}
use Rattle.symmetry.specs.Planes.{Height, IsOn, KeepsPlane}
use Rattle.symmetry.specs.Groups.{Listing, FixesEveryPlane, InStabiliser, IsInLattice, IsMember, SameModulo, third_edge}
use Rattle.symmetry.specs.Listings.{AreAlike}
use Rattle.symmetry.specs.Frames.{IsSpecial}
use Rattle.symmetry.proofs.LatticeLaws.{lattice-made, lattice-minus, lattice-plus, same_refl, lattice-multiple}
use Rattle.symmetry.proofs.VectorLaws.{vector_path}
use Rattle.symmetry.proofs.MatrixLaws.{matrix_path}
use Rattle.motions.specs.PlaneMatrices.{Pair, dot2, image2, minus2, plus2, in_space}
use Rattle.plane_motions.specs.PlaneMotions.{IsFlat, PlaneMotion, plane_block}
use Rattle.line_frames.specs.Lines.{IsInPlaneLattice, first_two, times2}
use Rattle.plane_groups.specs.PlaneGroups.{IsFlatGroup}
use Rattle.line_scans.specs.Lines.{FixesEveryLine, InLineStabiliser, IsOnLine, IsPlaneMember, IsSameInPlane, IsSpecialLine, KeepsLine, PlanePoint, moved2}

-- ---- points

-- a point of space without its third entry, and one of the plane in space
abbrev pub below : Point → PlanePoint
below p = record { at = first_two p.at; over = p.over }

abbrev pub above : PlanePoint → Point
above p = record { at = in_space p.at; over = p.over }

pub dot_in_space : (r : Pair) (v : Vector) → dot (in_space r) v ≡ dot2 r (first_two v)
unfolding dot
dot_in_space r v = omega (arith, ints)

pub on_plane : (r : Pair) (s : Height) (p : Point) → IsOn (in_space r) s p ↔ IsOnLine r s (below p)
on_plane r s p =
    let e = dot_in_space r p.at in
    (λ on. ap (λ x. x *ℤ s.den) (sym e) ∙ on, λ on. ap (λ x. x *ℤ s.den) e ∙ on)

-- ---- flat matrices

-- the third row and column are those of the unit matrix
pub record IsFlatMatrix (w : Matrix) : Type 0 where
  pub row_x : w.third.x ≡ pos 0
  pub row_y : w.third.y ≡ pos 0
  pub row_z : w.third.z ≡ pos 1
  pub column_x : w.first.z ≡ pos 0
  pub column_y : w.second.z ≡ pos 0

-- a motion of space without its third row, column and entry
abbrev pub pair_motion : Motion → PlaneMotion
pair_motion m = record {
  matrix = record { first = first_two m.matrix.first; second = first_two m.matrix.second };
  translation = first_two m.translation;
}

pub block_matrix_flat : (m : PlaneMotion) → IsFlatMatrix (plane_block m).matrix
block_matrix_flat m = record { row_x = refl; row_y = refl; row_z = refl; column_x = refl; column_y = refl }

pub block_of_pair : (m : Motion) → IsFlatMatrix m.matrix → (plane_block (pair_motion m)).matrix ≡ m.matrix
block_of_pair m flat =
    matrix_path (vector_path refl refl (sym flat.column_x)) (vector_path refl refl (sym flat.column_y))
    (vector_path (sym flat.row_x) (sym flat.row_y) (sym flat.row_z))

pub block_is : (m : Motion) → IsFlatMatrix m.matrix → m.translation.z ≡ pos 0 → plane_block (pair_motion m) ≡ m
block_is m flat none = λ i. record { matrix = block_of_pair m flat i; translation = record { x = m.translation.x; y = m.translation.y; z = sym none i } }

-- ---- planes and lines

pub image_below : (m : Motion) (v : Vector) → IsFlatMatrix m.matrix → first_two (image m.matrix v) ≡ image2 (pair_motion m).matrix (first_two v)
unfolding dot
image_below m v flat =
    λ i. record { x = entry m.matrix.first.x m.matrix.first.y m.matrix.first.z v.x v.y v.z flat.column_x i; y = entry m.matrix.second.x m.matrix.second.y m.matrix.second.z v.x v.y v.z flat.column_y i }
  where
    entry : (a b c x y z : ℤ) → c ≡ pos 0 → a *ℤ x +ℤ b *ℤ y +ℤ c *ℤ z ≡ a *ℤ x +ℤ b *ℤ y
    entry a b c x y z e = ap (λ k. a *ℤ x +ℤ b *ℤ y +ℤ k *ℤ z) e ∙ last a b x y z
      where
        last : (a b x y z : ℤ) → a *ℤ x +ℤ b *ℤ y +ℤ pos 0 *ℤ z ≡ a *ℤ x +ℤ b *ℤ y
        last a b x y z = omega (arith, ints)

pub moved_below : (m : Motion) (p : Point) → IsFlatMatrix m.matrix → below (moved m p) ≡ moved2 (pair_motion m) (below p)
unfolding plus multiple
moved_below m p flat = λ i. record {
  at = plus2 (times2 UNIT (image_below m p.at flat i)) (times2 p.over (first_two m.translation));
  over = UNIT *ℤ p.over;
}

-- a motion keeps the plane exactly where its pair keeps the line
pub plane_by_line : (r : Pair) (s : Height) (m : Motion) → IsFlatMatrix m.matrix → KeepsPlane (in_space r) s m ↔ KeepsLine r s (pair_motion m)
plane_by_line r s m flat = (
  λ keeps p is on.
      subst (IsOnLine r s) (moved_below m (above p) flat)
      ((on_plane r s (moved m (above p))).0 (keeps (above p) is ((on_plane r s (above p)).1 on))),
  λ keeps p is on.
      (on_plane r s (moved m p)).1
      (subst (IsOnLine r s) (sym (moved_below m p flat)) (keeps (below p) is ((on_plane r s p).0 on))),
)

-- ---- members

-- a plane group, however it is listed
pub record IsFlatModulo (g : Listing) : Type 0 where
  pub matrices : (m : Motion) → IsMember g m → IsFlatMatrix m.matrix
  pub shifts : (m : Motion) → IsMember g m → (k : ℤ) × (m.translation.z ≡ k *ℤ UNIT)
  pub heights : (t : Vector) → IsInLattice g t → (k : ℤ) × (t.z ≡ k *ℤ UNIT)

third_in : (g : Listing) (k : ℤ) → IsInLattice g (multiple k third_edge)
third_in g k = lattice-multiple g k third_edge (lattice-made g third_edge (inl (2, lit< tt, refl)))

pub flat_minus : (v w : Pair) → minus (in_space v) (in_space w) ≡ in_space (minus2 v w)
unfolding plus multiple
flat_minus v w = vector_path (omega (arith, ints)) (omega (arith, ints)) refl

-- a vector with a whole third entry is in L exactly where it is so without that entry
module _ (g : Listing) (t : Vector) (k : ℤ) (whole : t.z ≡ k *ℤ UNIT) where
  without_third : minus t (multiple k third_edge) ≡ in_space (first_two t)
  unfolding plus multiple
  without_third = vector_path (omega (arith, ints)) (omega (arith, ints)) (omega (arith, ints))

  with_third : plus (in_space (first_two t)) (multiple k third_edge) ≡ t
  unfolding plus multiple
  with_third = vector_path (omega (arith, ints)) (omega (arith, ints)) (omega (arith, ints))

  pub lattice_by_plane : IsInLattice g t ↔ IsInPlaneLattice g (first_two t)
  lattice_by_plane = (
    λ is. subst (IsInLattice g) without_third (lattice-minus g t (multiple k third_edge) is (third_in g k)),
    λ is. subst (IsInLattice g) with_third (lattice-plus g (in_space (first_two t)) (multiple k third_edge) is (third_in g k)),
  )

minus_below : (v w : Vector) → first_two (minus v w) ≡ minus2 (first_two v) (first_two w)
unfolding plus multiple
minus_below v w = λ i. record { x = entry v.x w.x i; y = entry v.y w.y i }
  where
    entry : (a b : ℤ) → a +ℤ negsuc 0 *ℤ b ≡ a -ℤ b
    entry a b = omega (arith, ints)

minus_whole : (v w : Vector) (k l : ℤ) → v.z ≡ k *ℤ UNIT → w.z ≡ l *ℤ UNIT → (minus v w).z ≡ (k -ℤ l) *ℤ UNIT
unfolding plus multiple
minus_whole v w k l a b = omega (arith, ints)

module _ (g : Listing) (flat : IsFlatModulo g) where
  -- sameness modulo L of members, as pairs
  pub same_by_plane : (m of : Motion) → IsFlatMatrix m.matrix → (k : ℤ) → m.translation.z ≡ k *ℤ UNIT → IsMember g of
      → SameModulo g m of ↔ IsSameInPlane g (pair_motion m) of
  same_by_plane m of flat_m k whole member =
      let (l, whole') = flat.shifts of member in
      let by = lattice_by_plane g (minus m.translation of.translation) (k -ℤ l) (minus_whole m.translation of.translation k l whole whole') in (
        λ same. record {
          matrix = block_of_pair m flat_m ∙ same.matrix;
          translation = subst (λ v. IsInPlaneLattice g v) (minus_below m.translation of.translation) (by.0 same.translation);
        },
        λ same. record {
          matrix = sym (block_of_pair m flat_m) ∙ same.matrix;
          translation = by.1 (subst (λ v. IsInPlaneLattice g v) (sym (minus_below m.translation of.translation)) same.translation);
        },
      )

  listed_member : (m : Motion) → Contains g.ops m → IsMember g m
  listed_member m listed = record { of = m; listed = listed; same = same_refl g m }

  -- the members of the plane are those of space without their third row, column and entry
  pub pair_member : (m : Motion) → IsMember g m → IsPlaneMember g (pair_motion m)
  pair_member m member =
      let (k, whole) = flat.shifts m member in
      record {
        of = member.of;
        listed = member.listed;
        same = (same_by_plane m member.of (flat.matrices m member) k whole (listed_member member.of member.listed)).0 member.same;
      }

  pub block_member : (m : PlaneMotion) → IsPlaneMember g m ↔ IsMember g (plane_block m)
  block_member m = (
    λ member. record {
      of = member.of;
      listed = member.listed;
      same = (same_by_plane (plane_block m) member.of (block_matrix_flat m) (pos 0) refl (listed_member member.of member.listed)).1 member.same;
    },
    λ member. pair_member (plane_block m) member,
  )

  -- ---- what maps a line to itself

  pub stabiliser_by_line : (r : Pair) (s : Height) (m : PlaneMotion) → InStabiliser g (in_space r) s (plane_block m) ↔ InLineStabiliser g r s m
  stabiliser_by_line r s m =
      let member = block_member m in
      let keeps = plane_by_line r s (plane_block m) (block_matrix_flat m) in
      (λ is. (member.1 is.0, keeps.0 is.1), λ is. (member.0 is.0, keeps.1 is.1))

  pub all_by_lines : (r : Pair) (m : PlaneMotion) → FixesEveryPlane g (in_space r) (plane_block m) ↔ FixesEveryLine g r m
  all_by_lines r m =
      let member = block_member m in (
        λ is. (member.1 is.0, λ s high. (plane_by_line r s (plane_block m) (block_matrix_flat m)).0 (is.1 s high)),
        λ is. (member.0 is.0, λ s high. (plane_by_line r s (plane_block m) (block_matrix_flat m)).1 (is.1 s high)),
      )

  pub special_by_line : (r : Pair) (s : Height) → IsSpecial g (in_space r) s ↔ IsSpecialLine g r s
  special_by_line r s = (
    λ (m, fixes, not_all).
        let at = flat.matrices m fixes.0 in (
          pair_motion m,
          (pair_member m fixes.0, (plane_by_line r s m at).0 fixes.1),
          λ all. not_all (fixes.0, λ t high. (plane_by_line r t m at).1 (all.1 t high)),
        ),
    λ (m, fixes, not_all). (plane_block m, (stabiliser_by_line r s m).1 fixes, λ all. not_all ((all_by_lines r m).0 all)),
  )

-- ---- each listing of a plane group is flat but for whole edges

flat_matrix : (m : Motion) → IsFlat m → IsFlatMatrix m.matrix
flat_matrix m flat = record { row_x = flat.row_x; row_y = flat.row_y; row_z = flat.row_z; column_x = flat.column_x; column_y = flat.column_y }

module _ (g : Listing) (flat : IsFlatGroup g) where
  own_heights : (t : Vector) → IsInLattice g t → (k : ℤ) × (t.z ≡ k *ℤ UNIT)
  own_heights t is = let d = flat.heights t is in (d.times, d.is)

  own_shifts : (m : Motion) → IsMember g m → (k : ℤ) × (m.translation.z ≡ k *ℤ UNIT)
  unfolding plus multiple
  own_shifts m member =
      let (k, is) = own_heights (minus m.translation member.of.translation) member.same.translation in
      let none = (flat.operations member.of member.listed).translation in
      (k, omega (arith, ints, is, none))

  own : IsFlatModulo g
  own = record {
    matrices = λ m member. subst IsFlatMatrix (sym member.same.matrix) (flat_matrix member.of (flat.operations member.of member.listed));
    shifts = own_shifts;
    heights = own_heights;
  }

pub flat_modulo : (g h : Listing) → AreAlike g h → IsFlatGroup h → IsFlatModulo g
flat_modulo g h alike flat =
    let is = own h flat in record {
      matrices = λ m member. is.matrices m ((alike.members m).0 member);
      shifts = λ m member. is.shifts m ((alike.members m).0 member);
      heights = λ t within. is.heights t ((alike.lattice t).0 within);
    }
