-- The scanning operations of a plane group and their mean, in the plane and in space.
use Rattle.std.proofs.Common.{◌≡◌, ℕ, suc, ◌<◌, ℤ, pos, negsuc, ◌+ℤ◌, ◌*ℤ◌, Bool, true, false, cond, List, [], ◌∷◌, length, map, inl, inr, refl, sym, ap, subst, ◌∙◌, arith}
use Rattle.std.specs.Prelude.{◌&&◌}
use Rattle.std.specs.Ordering.{int_eq}
use Rattle.std.proofs.lemmas.Int.{ints}
use Rattle.std.proofs.lemmas.List.{get_or-map, length-map}
use Rattle.integers.proofs.Solver.{Expr.{var, num, ◌⊕◌, ◌⊗◌}, linear, given}
use Rattle.symmetry.specs.Vectors.{dot, image, multiple, plus, row_times}
use Rattle.symmetry.specs.Motions.{Motion, identity}
use Rattle.symmetry.specs.Groups.{Listing, IsMember, SameModulo}
use Rattle.symmetry.specs.Frames.{KeepsOrientation, same_vector, sign_at, total_up}
use Rattle.symmetry.specs.Lists.{AreScanning, motion_at}
use Rattle.symmetry.proofs.VectorLaws.{vector_path}
use Rattle.motions.specs.PlaneMatrices.{Pair, image2, plus2, row_times2, in_space}
use Rattle.plane_motions.specs.PlaneMotions.{PlaneMotion, plane_block, plane_identity}
use Rattle.line_frames.specs.Lines.{first_two, times2}
use Rattle.line_scans.specs.Lines.{IsPlaneMember, KeepsLines}
use Rattle.line_scans.specs.LineLists.{AreLineScanning, SameInPlane, plane_at}
use Rattle.line_scans.specs.LineSections.{line_total, sign_of_lines}
use Rattle.line_scans.proofs.PlaneBridges.{IsFlatMatrix, IsFlatModulo, block_matrix_flat, block_member, block_of_pair, image_below, pair_member, pair_motion, same_by_plane}

-- ---- rows

row_below : (r : Pair) (m : Motion) → IsFlatMatrix m.matrix → row_times (in_space r) m.matrix ≡ in_space (row_times2 r (pair_motion m).matrix)
unfolding plus multiple
row_below r m flat =
    vector_path (only r.x r.y m.matrix.first.x m.matrix.second.x m.matrix.third.x) (only r.x r.y m.matrix.first.y m.matrix.second.y m.matrix.third.y)
    (none r.x r.y m.matrix.first.z m.matrix.second.z m.matrix.third.z flat.column_x flat.column_y)
  where
    only : (h k x y z : ℤ) → h *ℤ x +ℤ k *ℤ y +ℤ pos 0 *ℤ z ≡ h *ℤ x +ℤ k *ℤ y
    only h k x y z = omega (arith, ints)

    none : (h k x y z : ℤ) → x ≡ pos 0 → y ≡ pos 0 → h *ℤ x +ℤ k *ℤ y +ℤ pos 0 *ℤ z ≡ pos 0
    none h k x y z e f =
        linear (h ∷ k ∷ x ∷ y ∷ z ∷ []) (var 0 ⊗ var 2 ⊕ var 1 ⊗ var 3 ⊕ num (pos 0) ⊗ var 4) (num (pos 0))
        (given (var 0) (var 2) (num (pos 0)) ∷ given (var 1) (var 3) (num (pos 0)) ∷ []) tt (e, (f, tt))

and_true : (a b : Bool) → (a && b && true) ≡ (a && b)
and_true true true = refl
and_true true false = refl
and_true false true = refl
and_true false false = refl

sign_below : (r : Pair) (m : Motion) → IsFlatMatrix m.matrix → sign_at (in_space r) m ≡ sign_of_lines r (pair_motion m)
sign_below r m flat =
    let v = row_times2 r (pair_motion m).matrix in
    ap (λ w. cond (same_vector w (in_space r)) (pos 1) (negsuc 0)) (row_below r m flat)
    ∙ ap (λ b. cond b (pos 1) (negsuc 0)) (and_true (int_eq v.x r.x) (int_eq v.y r.y))

pub keeps_below : (r : Pair) (m : Motion) → IsFlatMatrix m.matrix → KeepsOrientation (in_space r) m → KeepsLines r (pair_motion m)
unfolding multiple
keeps_below r m flat (inl e) = inl (ap first_two (sym (row_below r m flat) ∙ e))
keeps_below r m flat (inr e) = inr (ap first_two (sym (row_below r m flat) ∙ e))

pub keeps_above : (r : Pair) (m : PlaneMotion) → KeepsLines r m → KeepsOrientation (in_space r) (plane_block m)
unfolding multiple
keeps_above r m (inl e) = inl (row_below r (plane_block m) (block_matrix_flat m) ∙ ap in_space e)
keeps_above r m (inr e) = inr (row_below r (plane_block m) (block_matrix_flat m) ∙ ap in_space e ∙ vector_path refl refl refl)

-- ---- the sum of e W tau

up_below : (r tau : Pair) (m : Motion) → IsFlatMatrix m.matrix
    → multiple (sign_at (in_space r) m) (image m.matrix (in_space tau)) ≡ in_space (times2 (sign_of_lines r (pair_motion m)) (image2 (pair_motion m).matrix tau))
unfolding multiple dot
up_below r tau m flat =
    let below = image_below m (in_space tau) flat in
    vector_path
    (λ i. sign_below r m flat i *ℤ (below i).x)
    (λ i. sign_below r m flat i *ℤ (below i).y)
    (none (sign_at (in_space r) m) m.matrix.third.x m.matrix.third.y m.matrix.third.z tau.x tau.y flat.row_x flat.row_y)
  where
    none : (e p q t x y : ℤ) → p ≡ pos 0 → q ≡ pos 0 → e *ℤ (p *ℤ x +ℤ q *ℤ y +ℤ t *ℤ pos 0) ≡ pos 0
    none e p q t x y a b =
        linear (e ∷ p ∷ q ∷ t ∷ x ∷ y ∷ []) (var 0 ⊗ (var 1 ⊗ var 4 ⊕ var 2 ⊗ var 5 ⊕ var 3 ⊗ num (pos 0))) (num (pos 0))
        (given (var 0 ⊗ var 4) (var 1) (num (pos 0)) ∷ given (var 0 ⊗ var 5) (var 2) (num (pos 0)) ∷ []) tt (a, (b, tt))

plus_in_space : (v w : Pair) → plus (in_space v) (in_space w) ≡ in_space (plus2 v w)
unfolding plus
plus_in_space v w = refl

pub total_below : (r tau : Pair) (ms : List Motion) → ((k : ℕ) → k < length ms → IsFlatMatrix (motion_at ms k).matrix)
    → total_up (in_space r) (in_space tau) ms ≡ in_space (line_total r tau (map pair_motion ms))
total_below r tau [] flat = refl
total_below r tau (m ∷ ms) flat =
    (λ i. plus (up_below r tau m (flat 0 (omega arith)) i) (total_below r tau ms (λ k h. flat (suc k) (omega arith)) i))
    ∙ plus_in_space (times2 (sign_of_lines r (pair_motion m)) (image2 (pair_motion m).matrix tau)) (line_total r tau (map pair_motion ms))

-- ---- the scanning operations

pub at_below : (ms : List Motion) (k : ℕ) → k < length ms → plane_at (map pair_motion ms) k ≡ pair_motion (motion_at ms k)
at_below ms k h = get_or-map pair_motion ms k identity plane_identity h

module _ (g : Listing) (r : Pair) (flat : IsFlatModulo g) (ms : List Motion) (scanning : AreScanning g (in_space r) ms) where
  within : (k : ℕ) → k < length (map pair_motion ms) → k < length ms
  within k h = subst (λ n. k < n) (length-map ms pair_motion) h

  pub flat_scanning : (k : ℕ) → k < length ms → IsFlatMatrix (motion_at ms k).matrix
  flat_scanning k h = flat.matrices (motion_at ms k) (scanning.listed k h).0

  same_pair_motion : (m : PlaneMotion) (n : Motion) → IsMember g n → SameModulo g (plane_block m) n → SameInPlane g m (pair_motion n)
  same_pair_motion m n member same =
      let is = (same_by_plane g flat (plane_block m) n (block_matrix_flat m) (pos 0) refl member).0 same in
      record { matrix = λ i. record { first = first_two (is.matrix i).first; second = first_two (is.matrix i).second }; translation = is.translation }

  same_block : (m : PlaneMotion) (n : Motion) → IsMember g n → SameInPlane g m (pair_motion n) → SameModulo g (plane_block m) n
  same_block m n member same =
      (same_by_plane g flat (plane_block m) n (block_matrix_flat m) (pos 0) refl member).1
      (record {
        matrix = ap (λ w. (plane_block (record { matrix = w; translation = m.translation })).matrix) same.matrix ∙ block_of_pair n (flat.matrices n member);
        translation = same.translation;
      })

  pub are_scanning : AreLineScanning g r (map pair_motion ms)
  are_scanning = record {
    listed = λ k h.
        let n = motion_at ms k in
        let is = scanning.listed k (within k h) in
        let at = sym (at_below ms k (within k h)) in (
          subst (λ m. IsPlaneMember g m) at (pair_member g flat n is.0),
          subst (KeepsLines r) at (keeps_below r n (flat.matrices n is.0) is.1),
        );
    once = λ m member keeps.
        let one = scanning.once (plane_block m) ((block_member g flat m).0 member) (keeps_above r m keeps) in
        record {
          place = one.place;
          within = subst (λ n. one.place < n) (sym (length-map ms pair_motion)) one.within;
          has = subst (SameInPlane g m) (sym (at_below ms one.place one.within))
              (same_pair_motion m (motion_at ms one.place) (scanning.listed one.place one.within).0 one.has);
          only = λ k h same.
              one.only k (within k h)
              (same_block m (motion_at ms k) (scanning.listed k (within k h)).0 (subst (SameInPlane g m) (at_below ms k (within k h)) same));
        };
  }
