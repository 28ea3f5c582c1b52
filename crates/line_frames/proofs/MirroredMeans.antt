-- The mean over the scanning operations is the mean of tau and another vector e W tau.
use Rattle.std.proofs.Common.{◌≡◌, ◌⊎◌, inl, inr, ℕ, suc, ◌<◌, ℤ, pos, negsuc, ◌+ℤ◌, ◌*ℤ◌, ◌≤ℤ◌, cond, List, [], ◌∷◌, length, refl, sym, ap, subst, ◌∙◌, arith}
use Rattle.std.specs.Prelude.{Contains}
use Rattle.std.proofs.lemmas.Int.{ints}
use Rattle.integers.proofs.Ring.{mul-eq-one, mul_right_cancel, mul_zero}
use Rattle.integers.proofs.Solver.{Expr.{var, num, ◌⊕◌, ◌⊗◌}, linear, given, ring}
use Rattle.integers.proofs.Order.{zero_or_not}
use Rattle.symmetry.specs.Vectors.{Vector, Matrix, plus, minus, multiple, opposite, dot, image, row_times, product, unit_matrix}
use Rattle.symmetry.specs.Motions.{Motion}
use Rattle.symmetry.specs.Groups.{Listing, IsGroup, IsInLattice, IsMember}
use Rattle.symmetry.specs.Planes.{IsCoprime}
use Rattle.symmetry.specs.Frames.{KeepsOrientation, mean_of, same_vector, sign_at, total_up}
use Rattle.symmetry.specs.Lists.{motion_at, AreScanning}
use Rattle.symmetry.proofs.GroupLaws.{member_keeps}
use Rattle.symmetry.proofs.LatticeLaws.{lattice-minus, listed_member, lattice-multiple}
use Rattle.symmetry.proofs.MatrixLaws.{image-multiple, image-plus, image-product, image-unit, row_times-dot}
use Rattle.symmetry.proofs.Means.{mean_is_kept}
use Rattle.symmetry.proofs.Signs.{row_sign, sign-square, sign_is}
use Rattle.symmetry.proofs.VectorLaws.{vector_path, dot-multiple, dot-minus_same, multiple-dot, minus-plus, plus_comm}
use Rattle.plane_motions.specs.PlaneMotions.{IsFlat}
use Rattle.fractions.specs.declared.ratio.Ratio.{Ratio}
use Rattle.fractions.specs.Fractions.{fraction_at}
use Rattle.symmetry.specs.HeightMotions.{IsSign}
use Rattle.plane_lattice.specs.Scanning.{IsPointOf}
use Rattle.line_frames.specs.Searches.{along_lines, coordinate, IsForwardAlong, IsMeanUp, IsOtherUp, IsRepeat, IsUp, other, same}
use Rattle.line_frames.proofs.Along.{dot-along_lines}
use Rattle.line_frames.proofs.Halves.{doubled, factor_entry, half_entry, half_fraction, some_product}
use Rattle.line_frames.proofs.Forward.{a_inside, multiple_of_a}
use Rattle.line_frames.proofs.Points.{coordinate_x, coordinate_y}

-- multiples of a vector with a coordinate are equal by equal factors alone
factor_once : (r a : Vector) → pos 1 ≤ℤ coordinate r a → (k l : ℤ) → multiple k a ≡ multiple l a → k ≡ l
unfolding multiple
factor_once r a some k l e = by (zero_or_not r.y)
  where
    by : (r.y ≡ pos 0) ⊎ (¬ (r.y ≡ pos 0)) → k ≡ l
    by (inl y) =
        let h : pos 1 ≤ℤ a.y = subst (λ z. pos 1 ≤ℤ z) (coordinate_y r a y) some in
        mul_right_cancel k l a.y (λ n. absurd (omega (arith, ints, n, h))) (ap (λ (v : Vector). v.y) e)
    by (inr not) =
        let h : pos 1 ≤ℤ a.x = subst (λ z. pos 1 ≤ℤ z) (coordinate_x r a not) some in
        mul_right_cancel k l a.x (λ n. absurd (omega (arith, ints, n, h))) (ap (λ (v : Vector). v.x) e)

-- a flat motion leaves vectors in the plane
flat_image : (m : Motion) → IsFlat m → (v : Vector) → v.z ≡ pos 0 → (image m.matrix v).z ≡ pos 0
unfolding dot
flat_image m h v flat =
    (λ i. h.row_x i *ℤ v.x +ℤ h.row_y i *ℤ v.y +ℤ h.row_z i *ℤ flat i) ∙ none v.x v.y
  where
    none : (x y : ℤ) → pos 0 *ℤ x +ℤ pos 0 *ℤ y +ℤ pos 1 *ℤ pos 0 ≡ pos 0
    none x y = omega (arith, ints)

module _ (g : Listing) (r : Vector) (coprime : IsCoprime r) (line : r.z ≡ pos 0) (group : IsGroup g) (flat : (m : Motion) → Contains g.ops m → IsFlat m)
    (n e : ℤ) (repeat : IsRepeat g r n) (sign : IsSign e) (forward : IsForwardAlong g r (along_lines r (e *ℤ n))) where
  abbrev a : Vector
  a = along_lines r (e *ℤ n)

  member_flat : (m : Motion) → IsMember g m → (v : Vector) → v.z ≡ pos 0 → (image m.matrix v).z ≡ pos 0
  member_flat m p v h = ap (λ w. (image w v).z) p.same.matrix ∙ flat_image p.of (flat p.of p.listed) v h

  -- what a row times a matrix says of vectors along the lines
  kept_along : (m : Motion) → KeepsOrientation r m → (v : Vector) → dot r v ≡ pos 0 → dot r (image m.matrix v) ≡ pos 0
  kept_along m keeps v h =
      let (d, _, row) = row_sign r m keeps in
      sym (row_times-dot r m.matrix v) ∙ ap (λ t. dot t v) row ∙ multiple-dot d r v ∙ ap (λ z. d *ℤ z) h ∙ mul_zero d

  -- W a is a multiple of a
  image_a : (m : Motion) → IsMember g m → dot r (image m.matrix a) ≡ pos 0 → (c : ℤ) × (image m.matrix a ≡ multiple c a)
  image_a m p along =
      multiple_of_a g r n e repeat sign coprime line (image m.matrix a) (member_keeps g group m p a (a_inside g r n e repeat sign)) (member_flat m p a refl) along

  -- by 1 or -1
  image_a_sign : (m : Motion) → IsMember g m → KeepsOrientation r m → (c : ℤ) × IsSign c × (image m.matrix a ≡ multiple c a)
  unfolding multiple
  image_a_sign m p keeps =
      let (k, member, there, back) = group.inverses m p in
      let (c, is) = image_a m p (kept_along m keeps a (dot-along_lines r (e *ℤ n))) in
      let (d, is_back) = image_a k member (back_along m k keeps (ap (λ (l : Motion). l.matrix) back)) in
      let round : multiple (d *ℤ c) a ≡ multiple (pos 1) a = round_trip m k c d is is_back (ap (λ (l : Motion). l.matrix) there) in
      (c, mul-eq-one d c (factor_once r a forward.from (d *ℤ c) (pos 1) round), is)
    where
      back_along : (m k : Motion) → KeepsOrientation r m → product m.matrix k.matrix ≡ unit_matrix → dot r (image k.matrix a) ≡ pos 0
      back_along m k keeps unit =
          let (d, d_sign, row) = row_sign r m keeps in
          let none : d *ℤ dot r (image k.matrix a) ≡ pos 0 =
          sym (multiple-dot d r (image k.matrix a)) ∙ ap (λ t. dot t (image k.matrix a)) (sym row) ∙ row_times-dot r m.matrix (image k.matrix a)
          ∙ ap (dot r) (sym (image-product m.matrix k.matrix a) ∙ ap (λ w. image w a) unit ∙ image-unit a) ∙ dot-along_lines r (e *ℤ n) in
          by d (dot r (image k.matrix a)) d_sign none
        where
          by : (d x : ℤ) → IsSign d → d *ℤ x ≡ pos 0 → x ≡ pos 0
          by d x (inl s) h = let h' : pos 1 *ℤ x ≡ pos 0 = ap (λ z. z *ℤ x) (sym s) ∙ h in omega (arith, ints, h')
          by d x (inr s) h = let h' : negsuc 0 *ℤ x ≡ pos 0 = ap (λ z. z *ℤ x) (sym s) ∙ h in omega (arith, ints, h')

      round_trip : (m k : Motion) (c d : ℤ) → image m.matrix a ≡ multiple c a → image k.matrix a ≡ multiple d a → product k.matrix m.matrix ≡ unit_matrix
          → multiple (d *ℤ c) a ≡ multiple (pos 1) a
      round_trip m k c d is is_back unit =
          let other : image k.matrix (image m.matrix a) ≡ multiple c (multiple d a) =
          ap (image k.matrix) is ∙ image-multiple k.matrix c a ∙ ap (multiple c) is_back in
          let same : image k.matrix (image m.matrix a) ≡ a = sym (image-product k.matrix m.matrix a) ∙ ap (λ w. image w a) unit ∙ image-unit a in
          let e' = sym other ∙ same in
          vector_path (entry c d a.x a.x (ap (λ (v : Vector). v.x) e')) (entry c d a.y a.y (ap (λ (v : Vector). v.y) e')) (entry c d a.z a.z (ap (λ (v : Vector). v.z) e'))
        where
          entry : (c d x y : ℤ) → c *ℤ (d *ℤ x) ≡ y → d *ℤ c *ℤ x ≡ pos 1 *ℤ y
          entry c d x y h = linear (c ∷ d ∷ x ∷ y ∷ []) (var 1 ⊗ var 0 ⊗ var 2) (num (pos 1) ⊗ var 3) (given (num (pos 1)) (var 0 ⊗ (var 1 ⊗ var 2)) (var 3) ∷ []) tt (h, tt)

  module _ (tau : Vector) (tau_in : IsInLattice g tau) (tau_flat : tau.z ≡ pos 0) where
    -- W tau is e tau and a multiple of a
    pub image_tau : (m : Motion) → IsMember g m → KeepsOrientation r m → (z : ℤ) × (image m.matrix tau ≡ plus (multiple (sign_at r m) tau) (multiple z a))
    unfolding plus multiple
    image_tau m p keeps =
        let (d, d_sign, row) = row_sign r m keeps in
        let s = sign_at r m in
        let w = image m.matrix tau in
        let same : dot r w ≡ dot r (multiple s tau) =
        sym (row_times-dot r m.matrix tau) ∙ ap (λ t. dot t tau) row ∙ multiple-dot d r tau ∙ ap (λ z. z *ℤ dot r tau) (sym (sign_is r m d coprime d_sign row)) ∙ sym (dot-multiple r s tau) in
        let rest = minus w (multiple s tau) in
        let (z, is) = multiple_of_a g r n e repeat sign coprime line rest (lattice-minus g w (multiple s tau) (member_keeps g group m p tau tau_in) (lattice-multiple g s tau tau_in))
        (rest_flat w s (member_flat m p tau tau_flat)) (dot-minus_same r w (multiple s tau) same) in
        (z, sym (minus-plus w (multiple s tau)) ∙ plus_comm rest (multiple s tau) ∙ ap (plus (multiple s tau)) is)
      where
        rest_flat : (w : Vector) (s : ℤ) → w.z ≡ pos 0 → (minus w (multiple s tau)).z ≡ pos 0
        rest_flat w s h = (λ i. h i +ℤ negsuc 0 *ℤ (s *ℤ tau_flat i)) ∙ none s
          where
            none : (s : ℤ) → pos 0 +ℤ negsuc 0 *ℤ (s *ℤ pos 0) ≡ pos 0
            none s = omega (arith, ints)

    -- e W tau
    abbrev up_of : Motion → Vector
    up_of m = multiple (sign_at r m) (image m.matrix tau)

    sign_of : (m : Motion) → KeepsOrientation r m → IsSign (sign_at r m)
    sign_of m keeps = let (d, d_sign, row) = row_sign r m keeps in subst IsSign (sym (sign_is r m d coprime d_sign row)) d_sign

    -- it is tau and a multiple of a
    up_is : (m : Motion) → KeepsOrientation r m → (y : ℤ) → image m.matrix tau ≡ plus (multiple (sign_at r m) tau) (multiple y a)
        → up_of m ≡ plus tau (multiple (sign_at r m *ℤ y) a)
    unfolding plus multiple
    up_is m keeps y is =
        let s = sign_at r m in
        let one = sign-square s (sign_of m keeps) in
        ap (multiple s) is ∙ vector_path (entry s y tau.x a.x one) (entry s y tau.y a.y one) (entry s y tau.z a.z one)
      where
        entry : (s y t x : ℤ) → s *ℤ s ≡ pos 1 → s *ℤ (s *ℤ t +ℤ y *ℤ x) ≡ t +ℤ s *ℤ y *ℤ x
        entry s y t x h =
            linear (s ∷ y ∷ t ∷ x ∷ []) (var 0 ⊗ (var 0 ⊗ var 2 ⊕ var 1 ⊗ var 3)) (var 2 ⊕ var 0 ⊗ var 1 ⊗ var 3)
            (given (var 2) (var 0 ⊗ var 0) (num (pos 1)) ∷ []) tt (h, tt)

    -- so is their sum, with tau as often as there are operations
    total_is : (ms : List Motion) → ((k : ℕ) → k < length ms → IsMember g (motion_at ms k) × KeepsOrientation r (motion_at ms k))
        → (z : ℤ) × (total_up r tau ms ≡ plus (multiple (pos (length ms)) tau) (multiple z a))
    unfolding plus multiple
    total_is [] listed = (pos 0, vector_path (none tau.x a.x) (none tau.y a.y) (none tau.z a.z))
      where
        none : (t x : ℤ) → pos 0 ≡ pos 0 *ℤ t +ℤ pos 0 *ℤ x
        none t x = omega (arith, ints)
    total_is (m ∷ ms) listed =
        let (p, keeps) = listed 0 (omega arith) in
        let (y, is) = image_tau m p keeps in
        let (z, rest) = total_is ms (λ k h. listed (suc k) (omega (arith, h))) in
        let s = sign_at r m in
        let k = length ms in (
          s *ℤ y +ℤ z,
          (λ i. plus (up_is m keeps y is i) (rest i))
              ∙ vector_path (more k (s *ℤ y) z tau.x a.x) (more k (s *ℤ y) z tau.y a.y) (more k (s *ℤ y) z tau.z a.z),
        )
      where
        more : (k : ℕ) (y z t x : ℤ) → t +ℤ y *ℤ x +ℤ (pos k *ℤ t +ℤ z *ℤ x) ≡ pos (suc k) *ℤ t +ℤ (y +ℤ z) *ℤ x
        more k y z t x =
            let next : pos (suc k) ≡ pos k +ℤ pos 1 = omega (arith, ints) in
            linear (pos k ∷ pos (suc k) ∷ y ∷ z ∷ t ∷ x ∷ []) (var 4 ⊕ var 2 ⊗ var 5 ⊕ (var 0 ⊗ var 4 ⊕ var 3 ⊗ var 5)) (var 1 ⊗ var 4 ⊕ (var 2 ⊕ var 3) ⊗ var 5)
            (given (num (negsuc 0) ⊗ var 4) (var 1) (var 0 ⊕ num (pos 1)) ∷ []) tt (next, tt)

    -- where one of them is not tau, the sum is half as often tau and that one
    half_other : (ms : List Motion) → AreScanning g r ms → 0 < length ms → (m : Motion) → IsMember g m → KeepsOrientation r m → ¬ (up_of m ≡ tau)
        → multiple (pos (length ms)) (plus tau (up_of m)) ≡ multiple (pos 2) (total_up r tau ms)
    unfolding plus multiple
    half_other ms scanning some m p keeps not =
        let s = sign_at r m in
        let k = pos (length ms) in
        let t = total_up r tau ms in
        let (y, is) = image_tau m p keeps in
        let (c, c_sign, is_a) = image_a_sign m p keeps in
        let (z, total) = total_is ms scanning.listed in
        let up = up_is m keeps y is in
        let there : image m.matrix t ≡ plus (multiple k (plus (multiple s tau) (multiple y a))) (multiple z (multiple c a)) =
        ap (image m.matrix) total ∙ image-plus m.matrix (multiple k tau) (multiple z a)
        ∙ (λ i. plus (image-multiple m.matrix k tau i) (image-multiple m.matrix z a i)) ∙ (λ i. plus (multiple k (is i)) (multiple z (is_a i))) in
        let two_ways : plus (multiple k (plus (multiple s tau) (multiple y a))) (multiple z (multiple c a)) ≡ multiple s (plus (multiple k tau) (multiple z a)) =
        sym there ∙ mean_is_kept g r ms group coprime scanning tau m p keeps ∙ ap (multiple s) total in
        let factors : k *ℤ y +ℤ z *ℤ c ≡ s *ℤ z =
        factor_once r a forward.from (k *ℤ y +ℤ z *ℤ c) (s *ℤ z)
        (vector_path (factor_entry k s y z c tau.x a.x (ap (λ (v : Vector). v.x) two_ways)) (factor_entry k s y z c tau.y a.y (ap (λ (v : Vector). v.y) two_ways))
        (factor_entry k s y z c tau.z a.z (ap (λ (v : Vector). v.z) two_ways))) in
        let twice : k *ℤ (s *ℤ y) ≡ pos 2 *ℤ z =
        doubled k s c y z (sign_of m keeps) c_sign (some_product (length ms) y some (λ none. not (up ∙ back s y none))) factors in
        (λ i. multiple k (plus tau (up i)))
        ∙ vector_path (half_entry k (s *ℤ y) z tau.x a.x twice) (half_entry k (s *ℤ y) z tau.y a.y twice) (half_entry k (s *ℤ y) z tau.z a.z twice)
        ∙ ap (multiple (pos 2)) (sym total)
      where
        back : (s y : ℤ) → y ≡ pos 0 → plus tau (multiple (s *ℤ y) a) ≡ tau
        back s y none = (λ i. plus tau (multiple (s *ℤ none i) a)) ∙ vector_path (nothing s tau.x a.x) (nothing s tau.y a.y) (nothing s tau.z a.z)
          where
            nothing : (s t x : ℤ) → t +ℤ s *ℤ pos 0 *ℤ x ≡ t
            nothing s t x = ring (s ∷ t ∷ x ∷ []) (var 1 ⊕ var 0 ⊗ num (pos 0) ⊗ var 2) (var 1) tt

    -- where each of them is tau, the sum is as often tau
    total_same : (ms : List Motion) → ((k : ℕ) → k < length ms → up_of (motion_at ms k) ≡ tau) → total_up r tau ms ≡ multiple (pos (length ms)) tau
    unfolding plus multiple
    total_same [] all = vector_path (none tau.x) (none tau.y) (none tau.z)
      where
        none : (t : ℤ) → pos 0 ≡ pos 0 *ℤ t
        none t = omega (arith, ints)
    total_same (m ∷ ms) all =
        let rest = total_same ms (λ k h. all (suc k) (omega (arith, h))) in
        let k = length ms in
        (λ i. plus (all 0 (omega arith) i) (rest i)) ∙ vector_path (more k tau.x) (more k tau.y) (more k tau.z)
      where
        more : (k : ℕ) (t : ℤ) → t +ℤ pos k *ℤ t ≡ pos (suc k) *ℤ t
        more k t =
            let next : pos (suc k) ≡ pos k +ℤ pos 1 = omega (arith, ints) in
            linear (pos k ∷ pos (suc k) ∷ t ∷ []) (var 2 ⊕ var 0 ⊗ var 2) (var 1 ⊗ var 2) (given (num (negsuc 0) ⊗ var 2) (var 1) (var 0 ⊕ num (pos 1)) ∷ []) tt (next, tt)

    half_same : (ms : List Motion) → ((k : ℕ) → k < length ms → up_of (motion_at ms k) ≡ tau)
        → multiple (pos (length ms)) (plus tau tau) ≡ multiple (pos 2) (total_up r tau ms)
    unfolding plus multiple
    half_same ms all =
        let k = pos (length ms) in vector_path (twice k tau.x) (twice k tau.y) (twice k tau.z) ∙ ap (multiple (pos 2)) (sym (total_same ms all))
      where
        twice : (k t : ℤ) → k *ℤ (t +ℤ t) ≡ pos 2 *ℤ (k *ℤ t)
        twice k t = ring (k ∷ t ∷ []) (var 0 ⊗ (var 1 ⊕ var 1)) (num (pos 2) ⊗ (var 0 ⊗ var 1)) tt

    half : (ms : List Motion) → AreScanning g r ms → 0 < length ms → (up : Vector) → IsOtherUp r tau g.ops up
        → multiple (pos (length ms)) (plus tau up) ≡ multiple (pos 2) (total_up r tau ms)
    half ms scanning some up (other u not) =
        subst (λ v. multiple (pos (length ms)) (plus tau v) ≡ multiple (pos 2) (total_up r tau ms)) (sym u.is)
        (half_other ms scanning some u.op (listed_member g u.op u.listed) u.keeps (λ e. not (u.is ∙ e)))
    half ms scanning some up (same is all) =
        subst (λ v. multiple (pos (length ms)) (plus tau v) ≡ multiple (pos 2) (total_up r tau ms)) (sym is)
        (half_same ms (λ k h. all (up_of (motion_at ms k)) (listed k h)))
      where
        listed : (k : ℕ) → k < length ms → IsUp r tau g.ops (up_of (motion_at ms k))
        listed k h =
            let (p, keeps) = scanning.listed k h in
            record {
              op = p.of;
              listed = p.listed;
              keeps = subst (λ (w : Matrix). (row_times r w ≡ r) ⊎ (row_times r w ≡ opposite r)) p.same.matrix keeps;
              is = ap (λ (w : Matrix). multiple (cond (same_vector (row_times r w) r) (pos 1) (negsuc 0)) (image w tau)) p.same.matrix;
            }

    -- so the mean of tau and such a vector is that over the scanning operations
    pub mean_is : (ms : List Motion) → AreScanning g r ms → 0 < length ms → (c : List Ratio) → IsMeanUp r tau g.ops c → IsPointOf (mean_of r tau ms) c
    unfolding plus multiple
    mean_is ms scanning some c mean =
        let t = total_up r tau ms in
        let halves = half ms scanning some mean.up mean.is_up in record {
          x = half_fraction (fraction_at c 0) (length ms) (tau.x +ℤ mean.up.x) t.x (ap (λ (v : Vector). v.x) halves) mean.mean.x;
          y = half_fraction (fraction_at c 1) (length ms) (tau.y +ℤ mean.up.y) t.y (ap (λ (v : Vector). v.y) halves) mean.mean.y;
          z = half_fraction (fraction_at c 2) (length ms) (tau.z +ℤ mean.up.z) t.z (ap (λ (v : Vector). v.z) halves) mean.mean.z;
        }
