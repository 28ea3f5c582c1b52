-- The vector c' is kept by each scanning operation, but for its sign.
use Rattle.std.proofs.Common.{◌≡◌, inl, ℕ, ◌<◌, ℤ, ◌+ℤ◌, ◌*ℤ◌, sym, ◌∙◌, ap, subst, arith, List, [], ◌∷◌, length}
use native.Mathlib.Decide.{dec_lt}
use Rattle.std.proofs.lemmas.List.{get_or_past}
use Rattle.integers.proofs.Sums.{sum_below, sum_below-same, sum_below-mul, sum_below-reordered}
use Rattle.symmetry.specs.Vectors.{Vector, multiple, dot, image, row_times, product}
use Rattle.symmetry.specs.Motions.{Motion, followed_by, identity}
use Rattle.symmetry.specs.Planes.{IsCoprime}
use Rattle.symmetry.specs.Groups.{Listing, SameModulo, IsMember, IsGroup}
use Rattle.symmetry.specs.Frames.{KeepsOrientation, sign_at, total_up}
use Rattle.symmetry.specs.Lists.{motion_at, ExactlyOne, AreScanning}
use Rattle.symmetry.specs.HeightMotions.{IsSign}
use Rattle.symmetry.proofs.VectorLaws.{column_path, dot-origin, dot-plus, dot-multiple, multiple-multiple}
use Rattle.symmetry.proofs.MatrixLaws.{image-multiple, image-product, row_times-dot, row_times-unit, row_times-product, row_times-multiple}
use Rattle.symmetry.proofs.MotionLaws.{followed_by-assoc, followed_by-identity}
use Rattle.symmetry.proofs.LatticeLaws.{same_refl, same_sym, same-followed_by}
use Rattle.symmetry.proofs.GroupLaws.{member_keeps}
use Rattle.symmetry.proofs.Signs.{sign-mul, sign_twice, sign_is, row_sign, keeps_by_sign, row_times-followed_by}

-- ---- what the mean sums

-- e W tau
abbrev up_at : Vector → Vector → Motion → Vector
up_at r tau m = multiple (sign_at r m) (image m.matrix tau)

total_up-dot : (t r tau : Vector) (ms : List Motion)
    → dot t (total_up r tau ms) ≡ sum_below (λ k. dot t (up_at r tau (motion_at ms k))) (length ms)
unfolding sum_below
total_up-dot t r tau [] = dot-origin t
total_up-dot t r tau (m ∷ ms) =
    dot-plus t (up_at r tau m) (total_up r tau ms) ∙ ap (λ x. dot t (up_at r tau m) +ℤ x) (total_up-dot t r tau ms)

-- m takes what the sum has of n to what it has of n followed by m, but for the sign of m
image-up_at : (r tau : Vector) (m n k : Motion) (e : ℤ) → IsCoprime r → IsSign e → row_times r m.matrix ≡ multiple e r
    → KeepsOrientation r n → product m.matrix n.matrix ≡ k.matrix → image m.matrix (up_at r tau n) ≡ multiple e (up_at r tau k)
image-up_at r tau m n k e coprime sign row keeps is =
    let (d, sign', row') = row_sign r n keeps in
    let row_k : row_times r k.matrix ≡ multiple (e *ℤ d) r = ap (row_times r) (sym is) ∙ row_times-followed_by r n m d e row' row in
    let at_n : sign_at r n ≡ d = sign_is r n d coprime sign' row' in
    let at_k : sign_at r k ≡ e *ℤ d = sign_is r k (e *ℤ d) coprime (sign-mul e d sign sign') row_k in
    ap (λ x. image m.matrix (multiple x (image n.matrix tau))) at_n
    ∙ image-multiple m.matrix d (image n.matrix tau)
    ∙ ap (multiple d) (sym (image-product m.matrix n.matrix tau) ∙ ap (λ w. image w tau) is)
    ∙ sym (sign_twice e sign (multiple d (image k.matrix tau)))
    ∙ ap (multiple e) (multiple-multiple e d (image k.matrix tau) ∙ ap (λ x. multiple x (image k.matrix tau)) (sym at_k))

-- ---- the scanning operations in another order

module _ (g : Listing) (r : Vector) (ms : List Motion) (group : IsGroup g) (coprime : IsCoprime r) (scanning : AreScanning g r ms) where
  -- each place has a member that keeps the orientation, and so has the default past the end
  entry : (k : ℕ) → IsMember g (motion_at ms k) × KeepsOrientation r (motion_at ms k)
  entry k =
      elim (dec_lt k (length ms)) [
        | yes h ↦ scanning.listed k h
        | no h ↦ subst (λ m. IsMember g m × KeepsOrientation r m) (sym (get_or_past ms k identity (omega arith)))
            (group.has_identity, inl (row_times-unit r))
      ]

  keeps_product : (m n : Motion) → KeepsOrientation r m → KeepsOrientation r n → KeepsOrientation r (followed_by m n)
  keeps_product m n p q =
      let (d, sign, row) = row_sign r m p in
      let (e, sign', row') = row_sign r n q in
      keeps_by_sign r (followed_by m n) (e *ℤ d) (sign-mul e d sign' sign) (row_times-followed_by r m n d e row row')

  module _ (m : Motion) (member : IsMember g m) (keeps : KeepsOrientation r m) where
    -- the place of a listed motion followed by m
    place : (k : ℕ) → ExactlyOne ms (SameModulo g (followed_by (motion_at ms k) m))
    place k =
        scanning.once (followed_by (motion_at ms k) m) (group.products (motion_at ms k) m (entry k).0 member)
        (keeps_product (motion_at ms k) m (entry k).1 keeps)

  module _ (m n : Motion) (p : IsMember g m) (q : IsMember g n) (p' : KeepsOrientation r m) (q' : KeepsOrientation r n) (back : followed_by m n ≡ identity) where
    -- from the place by m, the place by n leads back
    round : (k : ℕ) → k < length ms → (place n q q' (place m p p' k).place).place ≡ k
    round k h = sym ((place n q q' j).only k h same)
      where
        j : ℕ
        j = (place m p p' k).place

        same : SameModulo g (followed_by (motion_at ms j) n) (motion_at ms k)
        same =
            subst (SameModulo g (followed_by (motion_at ms j) n))
            (followed_by-assoc (motion_at ms k) m n ∙ ap (followed_by (motion_at ms k)) back ∙ followed_by-identity (motion_at ms k))
            (same-followed_by g (motion_at ms j) n (followed_by (motion_at ms k) m) n (member_keeps g group n q)
            (same_sym g (followed_by (motion_at ms k) m) (motion_at ms j) (place m p p' k).has) (same_refl g n))

  -- ---- the theorem

  pub image-total_up : (tau : Vector) (m : Motion) (e : ℤ) → IsMember g m → IsSign e → row_times r m.matrix ≡ multiple e r
      → image m.matrix (total_up r tau ms) ≡ multiple e (total_up r tau ms)
  image-total_up tau m e p sign row = column_path (image m.matrix (total_up r tau ms)) (multiple e (total_up r tau ms)) at
    where
      i : (n : Motion) × IsMember g n × (followed_by m n ≡ identity) × (followed_by n m ≡ identity)
      i = group.inverses m p

      keeps : KeepsOrientation r m
      keeps = keeps_by_sign r m e sign row

      -- the inverse multiplies the row by the same sign
      keeps' : KeepsOrientation r i.0
      keeps' =
          keeps_by_sign r i.0 e sign
          (sym (sign_twice e sign (row_times r i.0.matrix)) ∙ ap (multiple e)
          (sym (row_times-multiple e r i.0.matrix) ∙ ap (λ t. row_times t i.0.matrix) (sym row) ∙ row_times-product r m.matrix i.0.matrix
          ∙ ap (λ (k : Motion). row_times r k.matrix) i.3 ∙ row_times-unit r))

      to : ℕ → ℕ
      to k = (place m p keeps k).place

      from : ℕ → ℕ
      from k = (place i.0 i.1 keeps' k).place

      value : Vector → ℕ → ℤ
      value t k = dot t (up_at r tau (motion_at ms k))

      one : (t : Vector) (k : ℕ) → dot (row_times t m.matrix) (up_at r tau (motion_at ms k)) ≡ e *ℤ value t (to k)
      one t k =
          row_times-dot t m.matrix (up_at r tau (motion_at ms k))
          ∙ ap (dot t) (image-up_at r tau m (motion_at ms k) (motion_at ms (to k)) e coprime sign row (entry k).1 (place m p keeps k).has.matrix)
          ∙ dot-multiple t e (up_at r tau (motion_at ms (to k)))

      at : (t : Vector) → dot t (image m.matrix (total_up r tau ms)) ≡ dot t (multiple e (total_up r tau ms))
      at t =
          sym (row_times-dot t m.matrix (total_up r tau ms))
          ∙ total_up-dot (row_times t m.matrix) r tau ms
          ∙ sum_below-same (λ k. dot (row_times t m.matrix) (up_at r tau (motion_at ms k))) (λ k. e *ℤ value t (to k)) (length ms) (λ k h. one t k)
          ∙ sum_below-mul e (λ k. value t (to k)) (length ms)
          ∙ ap (λ x. e *ℤ x)
          (sum_below-reordered (value t) to from (length ms) (λ k h. (place m p keeps k).within) (λ k h. (place i.0 i.1 keeps' k).within)
          (round m i.0 p i.1 keeps keeps' i.2) (round i.0 m i.1 p keeps' keeps i.3)
          ∙ sym (total_up-dot t r tau ms))
          ∙ sym (dot-multiple t e (total_up r tau ms))

  -- at the sign that the motion has
  pub mean_is_kept : (tau : Vector) (m : Motion) → IsMember g m → KeepsOrientation r m
      → image m.matrix (total_up r tau ms) ≡ multiple (sign_at r m) (total_up r tau ms)
  mean_is_kept tau m p keeps =
      let (e, sign, row) = row_sign r m keeps in
      image-total_up tau m e p sign row ∙ ap (λ x. multiple x (total_up r tau ms)) (sym (sign_is r m e coprime sign row))
