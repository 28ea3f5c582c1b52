-- A section is what a list of its motions stands for, up to whole vectors.
use lib.IntN.{*ℤ_comm}
use Rattle.std.proofs.Common.{◌≡◌, ◌↔◌, ℕ, ◌<◌, ℤ, pos, negsuc, ◌+ℤ◌, ◌-ℤ◌, ◌*ℤ◌, ◌≤ℤ◌, ◌<ℤ◌, List, [], ◌∷◌, length, get_or, refl, sym, ap, subst, ◌∙◌, arith}
use Rattle.std.specs.List.{AllPairs}
use Rattle.std.proofs.lemmas.Int.{ints}
use Rattle.std.proofs.lemmas.List.{get_or_default}
use Rattle.fractions.specs.declared.part.TheConstants.{UNIT}
use Rattle.integers.proofs.Order.{mul_left_cancel_pos, one-le-mul}
use Rattle.integers.proofs.Solver.{Expr, Expr.{var, num, neg, ◌⊕◌, ◌⊝◌, ◌⊗◌}, ring, linear, given}
use Rattle.fractions.specs.Parts.{edge}
use Rattle.integers.proofs.Ring.{add_left_cancel}
use Rattle.symmetry.specs.Vectors.{Vector, Matrix, plus, minus, multiple, cross, dot, image}
use Rattle.symmetry.specs.Motions.{Motion, Point, moved}
use Rattle.symmetry.specs.Groups.{Listing}
use Rattle.symmetry.specs.Frames.{Basis, combination, DiffersInPlane, IsFrame}
use Rattle.symmetry.specs.Lists.{ListsInPlane, motion_at}
use Rattle.symmetry.proofs.FrameLaws.{cramer, plane_lattice, combination-multiple, combination-plus}
use Rattle.symmetry.proofs.MatrixLaws.{image-multiple, image-plus, matrix_path}
use Rattle.symmetry.proofs.MotionLaws.{motion_path}
use Rattle.symmetry.proofs.PlaneLattice.{differs_refl, differs_sym}
use Rattle.symmetry.proofs.VectorLaws.{vector_path, row_path, dot-multiple, multiple-dot, plus-minus_first}
use Rattle.motions.specs.declared.layer.LayerMotion.{LayerMotion}
use Rattle.motions.specs.declared.motion.Sign.{Sign}
use Rattle.motions.specs.declared.motion.Sign.TheVariants.{Plus, Minus}
use Rattle.motions.specs.Layers.{planar_of}
use Rattle.motions.specs.PlaneMatrices.{Pair, in_space}
use Rattle.motions.specs.PlaneViews.{matrix2_of, pair_of}
use Rattle.motions.specs.Rationals.{DifferByWhole, InSection, IsWhole, RationalMotion, SameRationals, in_edges, rational_minus, rational_of}
use Rattle.motions.specs.Signs.{sign_value}
use Rattle.plane_lattice.specs.Coordinates.{scaled, volume}
use Rattle.plane_lattice.specs.Sections.{AreSeenAs, IsSeenAs, IsSeenFrom}
use Rattle.plane_lattice.proofs.Cramer.{multiple_cancel}
use Rattle.plane_lattice.proofs.FrameTestFacts.{volume_positive}
use Rattle.plane_lattice.proofs.SectionFacts.{combination-in_space}

-- ---- how far motions with one matrix move a point

abbrev pub move : Motion → Point → Vector
move m o = minus (moved m o).at (multiple UNIT o.at)

move_entry : (u x w w' n : ℤ) → UNIT *ℤ u +ℤ n *ℤ w +ℤ negsuc 0 *ℤ (UNIT *ℤ x)
    ≡ UNIT *ℤ u +ℤ n *ℤ w' +ℤ negsuc 0 *ℤ (UNIT *ℤ x) +ℤ n *ℤ (w +ℤ negsuc 0 *ℤ w')
move_entry u x w w' n =
    let one : Expr = num UNIT in
    let back : Expr = num (negsuc 0) in
    ring (u ∷ x ∷ w ∷ w' ∷ n ∷ []) (one ⊗ var 0 ⊕ var 4 ⊗ var 2 ⊕ back ⊗ (one ⊗ var 1))
    (one ⊗ var 0 ⊕ var 4 ⊗ var 3 ⊕ back ⊗ (one ⊗ var 1) ⊕ var 4 ⊗ (var 2 ⊕ back ⊗ var 3)) tt

move_entries : (u x w w' : Vector) (n : ℤ) → minus (plus (multiple UNIT u) (multiple n w)) (multiple UNIT x)
    ≡ plus (minus (plus (multiple UNIT u) (multiple n w')) (multiple UNIT x)) (multiple n (minus w w'))
unfolding plus multiple
move_entries u x w w' n = vector_path (move_entry u.x x.x w.x w'.x n) (move_entry u.y x.y w.y w'.y n) (move_entry u.z x.z w.z w'.z n)

pub move_differs : (m k : Motion) (o : Point) → m.matrix ≡ k.matrix → move m o ≡ plus (move k o) (multiple o.over (minus m.translation k.translation))
move_differs m k o same =
    move_entries (image m.matrix o.at) o.at m.translation k.translation o.over
    ∙ ap (λ w. plus (minus (plus (multiple UNIT (image w o.at)) (multiple o.over k.translation)) (multiple UNIT o.at)) (multiple o.over (minus m.translation k.translation))) same

-- ---- translations that differ by a vector of the plane, entry by entry

forth_entry : (q e n d d' t t' l : ℤ) → pos 1 ≤ℤ n → q *ℤ d ≡ n *ℤ t → e *ℤ d' ≡ n *ℤ t' → d ≡ d' +ℤ n *ℤ l → e *ℤ t ≡ q *ℤ t' +ℤ q *ℤ e *ℤ l
forth_entry q e n d d' t t' l above first second differs =
    mul_left_cancel_pos n _ _ above
    (linear (q ∷ e ∷ n ∷ d ∷ d' ∷ t ∷ t' ∷ l ∷ []) (var 2 ⊗ (var 1 ⊗ var 5)) (var 2 ⊗ (var 0 ⊗ var 6 ⊕ var 0 ⊗ var 1 ⊗ var 7))
    (given (neg (var 1)) (var 0 ⊗ var 3) (var 2 ⊗ var 5) ∷ given (var 0) (var 1 ⊗ var 4) (var 2 ⊗ var 6)
    ∷ given (var 0 ⊗ var 1) (var 3) (var 4 ⊕ var 2 ⊗ var 7) ∷ []) tt (first, (second, (differs, tt))))

back_entry : (q e n d d' t t' l : ℤ) → pos 1 ≤ℤ e → e *ℤ d' ≡ n *ℤ t' → d ≡ d' +ℤ n *ℤ l → e *ℤ t ≡ q *ℤ t' +ℤ q *ℤ e *ℤ l → q *ℤ d ≡ n *ℤ t
back_entry q e n d d' t t' l above second differs coordinates =
    mul_left_cancel_pos e _ _ above
    (linear (q ∷ e ∷ n ∷ d ∷ d' ∷ t ∷ t' ∷ l ∷ []) (var 1 ⊗ (var 0 ⊗ var 3)) (var 1 ⊗ (var 2 ⊗ var 5))
    (given (var 0) (var 1 ⊗ var 4) (var 2 ⊗ var 6) ∷ given (var 0 ⊗ var 1) (var 3) (var 4 ⊕ var 2 ⊗ var 7)
    ∷ given (neg (var 2)) (var 1 ⊗ var 5) (var 0 ⊗ var 6 ⊕ var 0 ⊗ var 1 ⊗ var 7) ∷ []) tt (second, (differs, (coordinates, tt))))

forth_entries : (q e n : ℤ) (d d' t t' l : Vector) → pos 1 ≤ℤ n → multiple q d ≡ multiple n t → multiple e d' ≡ multiple n t' → d ≡ plus d' (multiple n l)
    → multiple e t ≡ plus (multiple q t') (multiple (q *ℤ e) l)
unfolding plus multiple
forth_entries q e n d d' t t' l above a b c =
    vector_path
    (forth_entry q e n d.x d'.x t.x t'.x l.x above (λ i. (a i).x) (λ i. (b i).x) (λ i. (c i).x))
    (forth_entry q e n d.y d'.y t.y t'.y l.y above (λ i. (a i).y) (λ i. (b i).y) (λ i. (c i).y))
    (forth_entry q e n d.z d'.z t.z t'.z l.z above (λ i. (a i).z) (λ i. (b i).z) (λ i. (c i).z))

back_entries : (q e n : ℤ) (d d' t t' l : Vector) → pos 1 ≤ℤ e → multiple e d' ≡ multiple n t' → d ≡ plus d' (multiple n l)
    → multiple e t ≡ plus (multiple q t') (multiple (q *ℤ e) l) → multiple q d ≡ multiple n t
unfolding plus multiple
back_entries q e n d d' t t' l above a b c =
    vector_path
    (back_entry q e n d.x d'.x t.x t'.x l.x above (λ i. (a i).x) (λ i. (b i).x) (λ i. (c i).x))
    (back_entry q e n d.y d'.y t.y t'.y l.y above (λ i. (a i).y) (λ i. (b i).y) (λ i. (c i).y))
    (back_entry q e n d.z d'.z t.z t'.z l.z above (λ i. (a i).z) (λ i. (b i).z) (λ i. (c i).z))

-- ---- the same by coordinates

whole_forth : (q e x x' l : ℤ) → e *ℤ x ≡ q *ℤ x' +ℤ q *ℤ e *ℤ l → x *ℤ e -ℤ x' *ℤ q ≡ q *ℤ e *ℤ l
whole_forth q e x x' l is =
    linear (q ∷ e ∷ x ∷ x' ∷ l ∷ []) (var 2 ⊗ var 1 ⊝ var 3 ⊗ var 0) (var 0 ⊗ var 1 ⊗ var 4)
    (given (num (pos 1)) (var 1 ⊗ var 2) (var 0 ⊗ var 3 ⊕ var 0 ⊗ var 1 ⊗ var 4) ∷ []) tt (is, tt)

whole_back : (q e x x' l : ℤ) → x *ℤ e -ℤ x' *ℤ q ≡ q *ℤ e *ℤ l → e *ℤ x ≡ q *ℤ x' +ℤ q *ℤ e *ℤ l
whole_back q e x x' l is =
    linear (q ∷ e ∷ x ∷ x' ∷ l ∷ []) (var 1 ⊗ var 2) (var 0 ⊗ var 3 ⊕ var 0 ⊗ var 1 ⊗ var 4)
    (given (num (pos 1)) (var 2 ⊗ var 1 ⊝ var 3 ⊗ var 0) (var 0 ⊗ var 1 ⊗ var 4) ∷ []) tt (is, tt)

module _ (f : Basis) (q : ℤ) (p p' : Pair) (l : Vector) where
  abbrev sum : Vector
  sum = plus (multiple q (in_space p')) (multiple (q *ℤ edge) l)

  sum-combination : combination f sum
      ≡ plus (multiple q (plus (multiple p'.x f.a) (multiple p'.y f.b))) (multiple (q *ℤ edge) (combination f l))
  sum-combination =
      combination-plus f (multiple q (in_space p')) (multiple (q *ℤ edge) l)
      ∙ (λ i. plus ((combination-multiple f q (in_space p') ∙ ap (multiple q) (combination-in_space f p')) i) (combination-multiple f (q *ℤ edge) l i))

  edge-combination : combination f (multiple edge (in_space p)) ≡ multiple edge (plus (multiple p.x f.a) (multiple p.y f.b))
  edge-combination = combination-multiple f edge (in_space p) ∙ ap (multiple edge) (combination-in_space f p)

  pub whole_by_coordinates : multiple edge (in_space p) ≡ sum → IsWhole (rational_minus (record { x = p.x; y = p.y; over = q }) (in_edges p'))
  unfolding plus multiple
  whole_by_coordinates e = record {
    x = (l.x, whole_forth q edge p.x p'.x l.x (λ i. (e i).x));
    y = (l.y, whole_forth q edge p.y p'.y l.y (λ i. (e i).y));
  }

nothing_left : (q : ℤ) → edge *ℤ pos 0 ≡ q *ℤ pos 0 +ℤ q *ℤ edge *ℤ pos 0
nothing_left q = ring (q ∷ []) (num edge ⊗ num (pos 0)) (var 0 ⊗ num (pos 0) ⊕ var 0 ⊗ num edge ⊗ num (pos 0)) tt

pub coordinates_by_whole : (q : ℤ) (p p' l : Pair) → p.x *ℤ edge -ℤ p'.x *ℤ q ≡ q *ℤ edge *ℤ l.x → p.y *ℤ edge -ℤ p'.y *ℤ q ≡ q *ℤ edge *ℤ l.y
    → multiple edge (in_space p) ≡ plus (multiple q (in_space p')) (multiple (q *ℤ edge) (in_space l))
unfolding plus multiple
coordinates_by_whole q p p' l x y = vector_path (whole_back q edge p.x p'.x l.x x) (whole_back q edge p.y p'.y l.y y) (nothing_left q)

-- ---- matrix and sign

sign_entry : (e e' : Sign) (x : ℤ) → pos 1 ≤ℤ x → sign_value e *ℤ x ≡ sign_value e' *ℤ x → e ≡ e'
sign_entry Plus Plus x above is = refl
sign_entry Plus Minus x above is = absurd (omega (arith, ints))
sign_entry Minus Plus x above is = absurd (omega (arith, ints))
sign_entry Minus Minus x above is = refl

sign_once : (r v : Vector) (e e' : Sign) → pos 1 ≤ℤ dot r v → multiple (sign_value e) v ≡ multiple (sign_value e') v → e ≡ e'
sign_once r v e e' above is =
    sign_entry e e' (dot r v) above (sym (dot-multiple r (sign_value e) v) ∙ ap (dot r) is ∙ dot-multiple r (sign_value e') v)

-- ---- translations and motions, once

shift_once_entry : (q q' n d t t' : ℤ) → pos 1 ≤ℤ n → q *ℤ d ≡ n *ℤ t → q' *ℤ d ≡ n *ℤ t' → q' *ℤ t ≡ q *ℤ t'
shift_once_entry q q' n d t t' above a b =
    mul_left_cancel_pos n _ _ above
    (linear (q ∷ q' ∷ n ∷ d ∷ t ∷ t' ∷ []) (var 2 ⊗ (var 1 ⊗ var 4)) (var 2 ⊗ (var 0 ⊗ var 5))
    (given (neg (var 1)) (var 0 ⊗ var 3) (var 2 ⊗ var 4) ∷ given (var 0) (var 1 ⊗ var 3) (var 2 ⊗ var 5) ∷ []) tt (a, (b, tt)))

shift_once_entries : (q q' n : ℤ) (d t t' : Vector) → pos 1 ≤ℤ n → multiple q d ≡ multiple n t → multiple q' d ≡ multiple n t' → multiple q' t ≡ multiple q t'
unfolding multiple
shift_once_entries q q' n d t t' above a b =
    vector_path (shift_once_entry q q' n d.x t.x t'.x above (λ i. (a i).x) (λ i. (b i).x))
    (shift_once_entry q q' n d.y t.y t'.y above (λ i. (a i).y) (λ i. (b i).y))
    (shift_once_entry q q' n d.z t.z t'.z above (λ i. (a i).z) (λ i. (b i).z))

same_shift_entry : (q n d d' t w w' : ℤ) → pos 1 ≤ℤ q → pos 1 ≤ℤ n → q *ℤ d ≡ n *ℤ t → q *ℤ d' ≡ n *ℤ t → d ≡ d' +ℤ n *ℤ (w +ℤ negsuc 0 *ℤ w') → w ≡ w'
same_shift_entry q n d d' t w w' above above' a b differs =
    mul_left_cancel_pos (q *ℤ n) _ _ (one-le-mul q n above above')
    (linear (q ∷ n ∷ d ∷ d' ∷ t ∷ w ∷ w' ∷ []) (var 0 ⊗ var 1 ⊗ var 5) (var 0 ⊗ var 1 ⊗ var 6)
    (given (num (pos 1)) (var 0 ⊗ var 2) (var 1 ⊗ var 4) ∷ given (num (negsuc 0)) (var 0 ⊗ var 3) (var 1 ⊗ var 4)
    ∷ given (neg (var 0)) (var 2) (var 3 ⊕ var 1 ⊗ (var 5 ⊕ num (negsuc 0) ⊗ var 6)) ∷ []) tt (a, (b, (differs, tt))))

same_shift_entries : (q n : ℤ) (d d' t w w' : Vector) → pos 1 ≤ℤ q → pos 1 ≤ℤ n → multiple q d ≡ multiple n t → multiple q d' ≡ multiple n t
    → d ≡ plus d' (multiple n (minus w w')) → w ≡ w'
unfolding plus multiple
same_shift_entries q n d d' t w w' above above' a b differs =
    vector_path (same_shift_entry q n d.x d'.x t.x w.x w'.x above above' (λ i. (a i).x) (λ i. (b i).x) (λ i. (differs i).x))
    (same_shift_entry q n d.y d'.y t.y w.y w'.y above above' (λ i. (a i).y) (λ i. (b i).y) (λ i. (differs i).y))
    (same_shift_entry q n d.z d'.z t.z w.z w'.z above above' (λ i. (a i).z) (λ i. (b i).z) (λ i. (differs i).z))

-- what a matrix makes of a combination
image-combination : (w : Matrix) (f : Basis) (k : Vector)
    → image w (combination f k) ≡ combination (record { a = image w f.a; b = image w f.b; tau = image w f.tau }) k
image-combination w f k =
    image-plus w (plus (multiple k.x f.a) (multiple k.y f.b)) (multiple k.z f.tau)
    ∙ ap (λ v. plus v (image w (multiple k.z f.tau))) (image-plus w (multiple k.x f.a) (multiple k.y f.b))
    ∙ (λ i. plus (plus (image-multiple w k.x f.a i) (image-multiple w k.y f.b i)) (image-multiple w k.z f.tau i))

plus_cancel : (u v w : Vector) → plus u v ≡ plus u w → v ≡ w
unfolding plus
plus_cancel u v w e = vector_path (add_left_cancel u.x v.x w.x (λ i. (e i).x)) (add_left_cancel u.y v.y w.y (λ i. (e i).y)) (add_left_cancel u.z v.z w.z (λ i. (e i).z))

-- matrices that agree at a, b and a vector above the plane are one
module _ (r : Vector) (f : Basis) (right : (k : ℤ) × (pos 0 <ℤ k) × (cross f.a f.b ≡ multiple k r)) (up : pos 0 <ℤ dot r f.tau) (c : Vector) (above : pos 1 ≤ℤ dot r c)
    (w w' : Matrix) (at_a : image w f.a ≡ image w' f.a) (at_b : image w f.b ≡ image w' f.b) (at_c : image w c ≡ image w' c) where
  positive : pos 1 ≤ℤ volume f
  positive = let h = volume_positive r f right up in omega (arith, ints)

  agree_combination : (k : Vector) → image w f.tau ≡ image w' f.tau → image w (combination f k) ≡ image w' (combination f k)
  agree_combination k at_tau =
      image-combination w f k ∙ (λ i. combination (record { a = at_a i; b = at_b i; tau = at_tau i }) k) ∙ sym (image-combination w' f k)

  third_above : pos 1 ≤ℤ (scaled f c).z
  third_above =
      let (k, over, is) = right in
      subst (λ (x : ℤ). pos 1 ≤ℤ x) (sym (ap (λ v. dot v c) is ∙ multiple-dot k r c)) (one-le-mul k (dot r c) (omega (arith, ints)) above)

  at_tau : image w f.tau ≡ image w' f.tau
  at_tau =
      let k = scaled f c in
      let both : image w (combination f k) ≡ image w' (combination f k) =
      ap (image w) (cramer f c) ∙ image-multiple w (volume f) c ∙ ap (multiple (volume f)) at_c ∙ sym (image-multiple w' (volume f) c) ∙ ap (image w') (sym (cramer f c)) in
      let thirds = third_above in
      multiple_cancel k.z (image w f.tau) (image w' f.tau) (λ e. absurd (omega (arith, ints)))
      (plus_cancel (plus (multiple k.x (image w f.a)) (multiple k.y (image w f.b))) (multiple k.z (image w f.tau)) (multiple k.z (image w' f.tau))
      (sym (image-combination w f k) ∙ both ∙ image-combination w' f k
      ∙ (λ i. plus (plus (multiple k.x (sym at_a i)) (multiple k.y (sym at_b i))) (multiple k.z (image w' f.tau)))))

  agree : (v : Vector) → image w v ≡ image w' v
  agree v =
      let h = positive in
      multiple_cancel (volume f) (image w v) (image w' v) (λ e. absurd (omega (arith, ints)))
      (sym (image-multiple w (volume f) v) ∙ ap (image w) (sym (cramer f v)) ∙ agree_combination (scaled f v) at_tau ∙ ap (image w') (cramer f v)
      ∙ image-multiple w' (volume f) v)

  pub same_matrix : w ≡ w'
  same_matrix =
      matrix_path (row_path w.first w'.first (λ v i. (agree v i).x)) (row_path w.second w'.second (λ v i. (agree v i).y))
      (row_path w.third w'.third (λ v i. (agree v i).z))

module _ (g : Listing) (r : Vector) (f : Basis) (frame : IsFrame g r f) (c o : Point) (above_c : pos 1 ≤ℤ dot r c.at) (above_o : pos 1 ≤ℤ o.over) where
  flat_once : (x y x' y' : ℤ) → plus (multiple x f.a) (multiple y f.b) ≡ plus (multiple x' f.a) (multiple y' f.b)
      → in_space (record { x = x; y = y }) ≡ in_space (record { x = x'; y = y' })
  flat_once x y x' y' e =
      frame.once _ _ (combination-in_space f (record { x = x; y = y }) ∙ e ∙ sym (combination-in_space f (record { x = x'; y = y' })))

  pub matrix_once : (m k : Motion) (op op' : RationalMotion) → m.matrix ≡ k.matrix → IsSeenAs f c o m op → IsSeenAs f c o k op' → op.matrix ≡ op'.matrix
  matrix_once m k op op' same seen seen' =
      let first = flat_once op.matrix.first.x op.matrix.second.x op'.matrix.first.x op'.matrix.second.x
      (sym seen.first ∙ ap (λ w. image w f.a) same ∙ seen'.first) in
      let second = flat_once op.matrix.first.y op.matrix.second.y op'.matrix.first.y op'.matrix.second.y
      (sym seen.second ∙ ap (λ w. image w f.b) same ∙ seen'.second) in
      λ i. record { first = record { x = (first i).x; y = (second i).x }; second = record { x = (first i).y; y = (second i).y } }

  pub side_once : (m k : Motion) (op op' : RationalMotion) → m.matrix ≡ k.matrix → IsSeenAs f c o m op → IsSeenAs f c o k op' → op.side ≡ op'.side
  side_once m k op op' same seen seen' =
      sign_once r c.at op.side op'.side above_c (sym seen.third ∙ ap (λ w. image w c.at) same ∙ seen'.third)

  -- ---- motions that differ in the plane are seen as motions that differ by whole vectors

  pub whole_difference : (m k : Motion) (op : RationalMotion) (n : LayerMotion) → DiffersInPlane g r m k → IsSeenAs f c o m op
      → IsSeenAs f c o k (rational_of (planar_of n)) → IsWhole (rational_minus op.translation (in_edges (pair_of n.t)))
  whole_difference m k op n differs seen seen' =
      let (l, is, none) = (plane_lattice g r f frame (minus m.translation k.translation)).0 differs.translation in
      let p : Pair = record { x = op.translation.x; y = op.translation.y } in
      let p' = pair_of n.t in
      let q = op.translation.over in
      whole_by_coordinates f q p p' l
      (frame.once (multiple edge (in_space p)) (plus (multiple q (in_space p')) (multiple (q *ℤ edge) l))
      (edge-combination f q p p' l
      ∙ forth_entries q edge o.over (move m o) (move k o) (plus (multiple p.x f.a) (multiple p.y f.b)) (plus (multiple p'.x f.a) (multiple p'.y f.b)) (minus m.translation k.translation)
      above_o seen.translation seen'.translation (move_differs m k o differs.matrix)
      ∙ ap (λ v. plus (multiple q (plus (multiple p'.x f.a) (multiple p'.y f.b))) (multiple (q *ℤ edge) v)) (sym is)
      ∙ sym (sum-combination f q p p' l)))

  -- and the other way round
  abbrev followed : Motion → Pair → Motion
  followed k l = record { matrix = k.matrix; translation = plus k.translation (combination f (in_space l)) }

  followed_differs : (k : Motion) (l : Pair) → DiffersInPlane g r k (followed k l)
  followed_differs k l =
      differs_sym g r (followed k l) k
      (record { matrix = refl; translation = (plane_lattice g r f frame _).1 (in_space l, sym (plus-minus_first k.translation (combination f (in_space l))), refl) })

  followed_seen : (k : Motion) (op : RationalMotion) (n : LayerMotion) (l : Pair) → IsSeenAs f c o k (rational_of (planar_of n))
      → op.matrix ≡ matrix2_of n.a → op.side ≡ n.e
      → op.translation.x *ℤ edge -ℤ (pair_of n.t).x *ℤ op.translation.over ≡ op.translation.over *ℤ edge *ℤ l.x
      → op.translation.y *ℤ edge -ℤ (pair_of n.t).y *ℤ op.translation.over ≡ op.translation.over *ℤ edge *ℤ l.y
      → IsSeenAs f c o (followed k l) op
  followed_seen k op n l seen matrix side x y =
      let p : Pair = record { x = op.translation.x; y = op.translation.y } in
      let p' = pair_of n.t in
      let q = op.translation.over in record {
        first = seen.first ∙ (λ i. plus (multiple (sym matrix i).first.x f.a) (multiple (sym matrix i).second.x f.b));
        second = seen.second ∙ (λ i. plus (multiple (sym matrix i).first.y f.a) (multiple (sym matrix i).second.y f.b));
        third = seen.third ∙ ap (λ e. multiple (sign_value e) c.at) (sym side);
        translation = back_entries q edge o.over (move (followed k l) o) (move k o) (plus (multiple p.x f.a) (multiple p.y f.b)) (plus (multiple p'.x f.a) (multiple p'.y f.b))
            (combination f (in_space l)) (omega (arith, ints)) seen.translation
            (move_differs (followed k l) k o refl ∙ ap (λ v. plus (move k o) (multiple o.over v)) (plus-minus_first k.translation (combination f (in_space l))))
            (sym (edge-combination f q p p' (in_space l)) ∙ ap (combination f) (coordinates_by_whole q p p' l x y) ∙ sum-combination f q p p' (in_space l));
      }

  -- ---- a motion is seen as one, and what is seen is one motion

  pub shift_once : (m : Motion) (op op' : RationalMotion) → IsSeenAs f c o m op → IsSeenAs f c o m op' → SameRationals op.translation op'.translation
  unfolding multiple
  shift_once m op op' seen seen' =
      let p : Pair = record { x = op.translation.x; y = op.translation.y } in
      let p' : Pair = record { x = op'.translation.x; y = op'.translation.y } in
      let q = op.translation.over in
      let q' = op'.translation.over in
      let e = frame.once (multiple q' (in_space p)) (multiple q (in_space p'))
      (combination-multiple f q' (in_space p) ∙ ap (multiple q') (combination-in_space f p)
      ∙ shift_once_entries q q' o.over (move m o) (plus (multiple p.x f.a) (multiple p.y f.b)) (plus (multiple p'.x f.a) (multiple p'.y f.b)) above_o seen.translation seen'.translation
      ∙ ap (multiple q) (sym (combination-in_space f p')) ∙ sym (combination-multiple f q (in_space p'))) in
      record { x = *ℤ_comm p.x q' ∙ (λ i. (e i).x) ∙ *ℤ_comm q p'.x; y = *ℤ_comm p.y q' ∙ (λ i. (e i).y) ∙ *ℤ_comm q p'.y }

  pub motion_once : (m k : Motion) (op : RationalMotion) → pos 1 ≤ℤ op.translation.over → IsSeenAs f c o m op → IsSeenAs f c o k op → m ≡ k
  motion_once m k op positive seen seen' =
      let same = same_matrix r f frame.right_handed frame.tau_above c.at above_c m.matrix k.matrix
      (seen.first ∙ sym seen'.first) (seen.second ∙ sym seen'.second) (seen.third ∙ sym seen'.third) in
      motion_path same
      (same_shift_entries op.translation.over o.over (move m o) (move k o) (plus (multiple op.translation.x f.a) (multiple op.translation.y f.b)) m.translation k.translation positive above_o
      seen.translation seen'.translation (move_differs m k o same))

  -- ---- the set is what the list stands for

  module _ (S : Motion → Type 0) (closed : (m n : Motion) → DiffersInPlane g r m n → S m → S n) (ops : List Motion) (section : List LayerMotion)
      (lists : ListsInPlane g r S ops) (seen : AreSeenAs f c o ops section) where
    abbrev some : LayerMotion
    some = record { a = []; e = Plus; t = [] }

    to_list : (op : RationalMotion) → IsSeenFrom S f c o op → InSection section op
    to_list op x =
        let one = lists.once x.motion x.in_set in
        let i = one.place in
        let n : LayerMotion = get_or section i some in
        let within : i < length section = let count = seen.count in let h = one.within in omega arith in
        let there = seen.each i some one.within in record {
          motion = n;
          listed = (i, within, get_or_default section i n some within);
          matrix = matrix_once x.motion (motion_at ops i) op (rational_of (planar_of n)) one.has.matrix x.seen there;
          side = side_once x.motion (motion_at ops i) op (rational_of (planar_of n)) one.has.matrix x.seen there;
          translation = whole_difference x.motion (motion_at ops i) op n one.has x.seen there;
        }

    from_list : (op : RationalMotion) → InSection section op → IsSeenFrom S f c o op
    from_list op x =
        let (i, within, is) = x.listed in
        let inside : i < length ops = let count = seen.count in omega arith in
        let l : Pair = record { x = x.translation.x.0; y = x.translation.y.0 } in
        let k = motion_at ops i in record {
          motion = followed k l;
          in_set = closed k (followed k l) (followed_differs k l) (lists.listed i inside);
          seen = followed_seen k op x.motion l
              (subst (λ (n : LayerMotion). IsSeenAs f c o k (rational_of (planar_of n))) is (seen.each i x.motion inside))
              x.matrix x.side x.translation.x.1 x.translation.y.1;
        }

    pub section_by_list : (op : RationalMotion) → IsSeenFrom S f c o op ↔ InSection section op
    section_by_list op = (to_list op, from_list op)

    -- no two of the list differ by a whole vector
    one_place : (i j : ℕ) (d e : LayerMotion) → i < length section → j < length section → DifferByWhole (get_or section i d) (get_or section j e) → i ≡ j
    one_place i j d e hi hj whole =
        let count = seen.count in
        let inside : i < length ops = omega arith in
        let inside' : j < length ops = omega arith in
        let m = motion_at ops i in
        let k = motion_at ops j in
        let n = get_or section i d in
        let l : Pair = record { x = whole.translation.x.0; y = whole.translation.y.0 } in
        let again : IsSeenAs f c o (followed k l) (rational_of (planar_of n)) =
        followed_seen k (rational_of (planar_of n)) (get_or section j e) l (seen.each j e inside') whole.matrix whole.side whole.translation.x.1 whole.translation.y.1 in
        let same : followed k l ≡ m = motion_once (followed k l) m (rational_of (planar_of n)) (omega (arith, ints)) again (seen.each i d inside) in
        let one = lists.once k (lists.listed j inside') in
        one.only i inside (subst (DiffersInPlane g r k) same (followed_differs k l)) ∙ sym (one.only j inside' (differs_refl g r k))

    pub section_once : AllPairs (λ m n. ¬ DifferByWhole m n) section
    section_once i j d less within whole = absurd (omega (arith, one_place i j d d (omega arith) within whole))
