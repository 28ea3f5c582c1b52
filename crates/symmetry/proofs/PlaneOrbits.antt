-- How motions take planes to planes: products, inverses, and the orbits of heights.
use Rattle.std.proofs.Common.{◌≡◌, ◌↔◌, ℤ, pos, negsuc, ◌+ℤ◌, ◌*ℤ◌, ◌≤ℤ◌, ◌⊎◌, inl, inr, refl, sym, ◌∙◌, ap, subst, arith}
use Rattle.std.specs.Prelude.{Contains, [], ◌∷◌}
use Rattle.std.proofs.lemmas.Int.{ints}
use lib.IntN.{+ℤ_comm, *ℤ_comm}
use Rattle.fractions.specs.declared.part.TheConstants.{UNIT}
use Rattle.integers.proofs.Order.{mul_left_cancel_pos}
use Rattle.integers.proofs.Solver.{Expr.{var, num, neg, ◌⊕◌, ◌⊗◌}, linear, given}
use Rattle.integers.proofs.Spread.{spread}
use Rattle.symmetry.specs.Vectors.{Vector, plus, minus, multiple, dot, image, row_times}
use Rattle.symmetry.specs.Motions.{Motion, followed_by, identity}
use Rattle.symmetry.specs.Planes.{Height, IsHeight, IsCoprime, MovesRow}
use Rattle.symmetry.specs.Groups.{Listing, IsMember, IsGroup, IsInLattice}
use Rattle.symmetry.specs.Frames.{Basis, IsFrame, IsSpecial}
use Rattle.symmetry.specs.Orbits.{AreInOneOrbit}
use Rattle.symmetry.specs.HeightMotions.{IsSign}
use Rattle.symmetry.proofs.VectorLaws.{dot-plus, dot-multiple, multiple-dot, multiple-one, multiple-multiple, dot-origin, minus-plus, plus-minus_first}
use Rattle.symmetry.proofs.MatrixLaws.{row_times-dot, row_times-multiple, row_times-product, row_times-unit}
use Rattle.symmetry.proofs.PlaneImages.{image_by_row}
use Rattle.symmetry.proofs.PlaneRows.{member_invertible, special_by_row, turned_is_moved}
use Rattle.symmetry.proofs.FrameLaws.{lattice_periods, tau_multiple}
use Rattle.symmetry.proofs.Signs.{sign-square, sign-mul}

-- ---- a sign, and the row that a motion has by it

-- the row of a product: (hkl) (W V)
row_times-followed_by : (r : Vector) (m n : Motion) (e f : ℤ) → row_times r m.matrix ≡ multiple e r → row_times r n.matrix ≡ multiple f r
    → row_times r (followed_by m n).matrix ≡ multiple (e *ℤ f) r
row_times-followed_by r m n e f p q =
    sym (row_times-product r n.matrix m.matrix) ∙ ap (λ (v : Vector). row_times v m.matrix) q ∙ row_times-multiple f r m.matrix
    ∙ ap (multiple f) p ∙ multiple-multiple f e r ∙ ap (λ x. multiple x r) (*ℤ_comm f e)

-- and its (hkl).w
pub dot-followed_by : (r : Vector) (m n : Motion) (f : ℤ) → row_times r n.matrix ≡ multiple f r
    → dot r (followed_by m n).translation ≡ f *ℤ dot r m.translation +ℤ dot r n.translation
dot-followed_by r m n f q =
    dot-plus r (image n.matrix m.translation) n.translation
    ∙ ap (λ x. x +ℤ dot r n.translation) (sym (row_times-dot r n.matrix m.translation) ∙ ap (λ (v : Vector). dot v m.translation) q ∙ multiple-dot f r m.translation)

-- the inverse has the same sign
row_times-inverse : (r : Vector) (m n : Motion) (e : ℤ) → IsSign e → row_times r m.matrix ≡ multiple e r → followed_by n m ≡ identity
    → row_times r n.matrix ≡ multiple e r
row_times-inverse r m n e sign p undone =
    sym (multiple-one (row_times r n.matrix)) ∙ ap (λ x. multiple x (row_times r n.matrix)) (sym (sign-square e sign))
    ∙ sym (multiple-multiple e e (row_times r n.matrix))
    ∙ ap (multiple e) (sym (row_times-multiple e r n.matrix) ∙ ap (λ (v : Vector). row_times v n.matrix) (sym p)
    ∙ row_times-product r m.matrix n.matrix ∙ ap (λ (k : Motion). row_times r k.matrix) undone ∙ row_times-unit r)

-- ---- from plane to plane

-- e p/q + d/n = p'/q' and e' p'/q' + d'/n = p''/q'' give e' e p/q + (e' d + d')/n = p''/q''
joined : (n e p q d e' p' q' d' p'' q'' : ℤ) → pos 1 ≤ℤ q' → (e *ℤ p *ℤ n +ℤ q *ℤ d) *ℤ q' ≡ p' *ℤ (n *ℤ q)
    → (e' *ℤ p' *ℤ n +ℤ q' *ℤ d') *ℤ q'' ≡ p'' *ℤ (n *ℤ q')
    → (e *ℤ e' *ℤ p *ℤ n +ℤ q *ℤ (e' *ℤ d +ℤ d')) *ℤ q'' ≡ p'' *ℤ (n *ℤ q)
joined n e p q d e' p' q' d' p'' q'' h f g =
    let k = simp spread at (ap (λ x. e' *ℤ q'' *ℤ x) f) in
    let l = simp spread at (ap (λ x. q *ℤ x) g) in
    mul_left_cancel_pos q' _ _ h (simp spread (omega (arith, ints, k, l)))

-- and the way back
back : (n e p q d p' q' d' : ℤ) → e *ℤ e ≡ pos 1 → (e *ℤ p *ℤ n +ℤ q *ℤ d) *ℤ q' ≡ p' *ℤ (n *ℤ q) → e *ℤ d +ℤ d' ≡ pos 0
    → (e *ℤ p' *ℤ n +ℤ q' *ℤ d') *ℤ q ≡ p *ℤ (n *ℤ q')
back n e p q d p' q' d' one f z =
    let v = var in
    linear (n ∷ e ∷ p ∷ q ∷ d ∷ p' ∷ q' ∷ d' ∷ []) ((v 1 ⊗ v 5 ⊗ v 0 ⊕ v 6 ⊗ v 7) ⊗ v 3) (v 2 ⊗ (v 0 ⊗ v 6))
    (given (v 2 ⊗ v 0 ⊗ v 6) (v 1 ⊗ v 1) (num (pos 1))
    ∷ given (neg (v 1)) ((v 1 ⊗ v 2 ⊗ v 0 ⊕ v 3 ⊗ v 4) ⊗ v 6) (v 5 ⊗ (v 0 ⊗ v 3))
    ∷ given (v 3 ⊗ v 6) (v 1 ⊗ v 4 ⊕ v 7) (num (pos 0)) ∷ [])
    tt (one, (f, (z, tt)))

unmoved : (n p q d : ℤ) → d ≡ pos 0 → (pos 1 *ℤ p *ℤ n +ℤ q *ℤ d) *ℤ q ≡ p *ℤ (n *ℤ q)
unmoved n p q d z =
    let v = var in
    linear (n ∷ p ∷ q ∷ d ∷ []) ((num (pos 1) ⊗ v 1 ⊗ v 0 ⊕ v 2 ⊗ v 3) ⊗ v 2) (v 1 ⊗ (v 0 ⊗ v 2))
    (given (v 2 ⊗ v 2) (v 3) (num (pos 0)) ∷ []) tt (z, tt)

module _ (r : Vector) where
  pub MovesRow-identity : (s : Height) → MovesRow r s s (pos 1) identity
  MovesRow-identity s =
      (row_times-unit r ∙ sym (multiple-one r), unmoved UNIT s.num s.den (dot r identity.translation) (dot-origin r))

  pub MovesRow-product : (s t u : Height) (e f : ℤ) (m n : Motion) → IsHeight t → MovesRow r s t e m → MovesRow r t u f n
      → MovesRow r s u (e *ℤ f) (followed_by m n)
  MovesRow-product s t u e f m n high p q = (
    row_times-followed_by r m n e f p.0 q.0,
    ap (λ x. (e *ℤ f *ℤ s.num *ℤ UNIT +ℤ s.den *ℤ x) *ℤ u.den) (dot-followed_by r m n f q.0)
        ∙ joined UNIT e s.num s.den (dot r m.translation) f t.num t.den (dot r n.translation) u.num u.den high p.1 q.1,
  )

  pub MovesRow-inverse : (s t : Height) (e : ℤ) (m n : Motion) → IsSign e → MovesRow r s t e m
      → followed_by m n ≡ identity → followed_by n m ≡ identity → MovesRow r t s e n
  MovesRow-inverse s t e m n sign p after before =
      (row, back UNIT e s.num s.den (dot r m.translation) t.num t.den (dot r n.translation) (sign-square e sign) p.1 none)
    where
      row : row_times r n.matrix ≡ multiple e r
      row = row_times-inverse r m n e sign p.0 before

      none : e *ℤ dot r m.translation +ℤ dot r n.translation ≡ pos 0
      none = sym (dot-followed_by r m n e row) ∙ ap (λ (k : Motion). dot r k.translation) after ∙ dot-origin r

-- ---- orbits

-- a member that takes the row to e times the row and the plane of the one height into that of the other
abbrev pub MovesByRow : Listing → Vector → Height → Height → Type 0
MovesByRow g r s t = (m : Motion) × (e : ℤ) × IsMember g m × IsSign e × MovesRow r s t e m

module _ (g : Listing) (r : Vector) (group : IsGroup g) (coprime : IsCoprime r) where
  pub orbit_by_row : (s t : Height) → IsHeight s → IsHeight t → AreInOneOrbit g r s t ↔ MovesByRow g r s t
  orbit_by_row s t high high' = (
    λ (m, member, maps).
        elim ((image_by_row r s t m coprime high high' (member_invertible g m group member)).0 maps) [
          | inl p ↦ (m, pos 1, member, inl refl, p)
          | inr p ↦ (m, negsuc 0, member, inr refl, p)
        ],
    λ (m, e, member, sign, p). (m, member, (image_by_row r s t m coprime high high' (member_invertible g m group member)).1 (by m e sign p)),
  )
    where
      by : (m : Motion) (e : ℤ) → IsSign e → MovesRow r s t e m → MovesRow r s t (pos 1) m ⊎ MovesRow r s t (negsuc 0) m
      by m e (inl is) p = inl (subst (λ x. MovesRow r s t x m) is p)
      by m e (inr is) p = inr (subst (λ x. MovesRow r s t x m) is p)

  moves_back : (s t : Height) → MovesByRow g r s t → MovesByRow g r t s
  moves_back s t (m, e, member, sign, p) =
      let (n, is, after, before) = group.inverses m member in
      (n, e, is, sign, MovesRow-inverse r s t e m n sign p after before)

  moves_on : (s t u : Height) → IsHeight t → MovesByRow g r s t → MovesByRow g r t u → MovesByRow g r s u
  moves_on s t u high (m, e, member, sign, p) (n, f, member', sign', q) =
      (followed_by m n, e *ℤ f, group.products m n member member', sign-mul e f sign sign', MovesRow-product r s t u e f m n high p q)

  -- to be in one orbit is an equivalence
  pub orbit_refl : (s : Height) → IsHeight s → AreInOneOrbit g r s s
  orbit_refl s high = (orbit_by_row s s high high).1 (identity, pos 1, group.has_identity, inl refl, MovesRow-identity r s)

  pub orbit_sym : (s t : Height) → IsHeight s → IsHeight t → AreInOneOrbit g r s t → AreInOneOrbit g r t s
  orbit_sym s t high high' o = (orbit_by_row t s high' high).1 (moves_back s t ((orbit_by_row s t high high').0 o))

  pub orbit_trans : (s t u : Height) → IsHeight s → IsHeight t → IsHeight u → AreInOneOrbit g r s t → AreInOneOrbit g r t u → AreInOneOrbit g r s u
  orbit_trans s t u high high' high'' o p =
      (orbit_by_row s u high high'').1 (moves_on s t u high' ((orbit_by_row s t high high').0 o) ((orbit_by_row t u high' high'').0 p))

-- ---- orbits, by the listed operations

-- a listed operation with e times the row, and k periods, that take the one height to the other
abbrev pub MovesByListed : Listing → Vector → Basis → Height → Height → Type 0
MovesByListed g r f s t = (n : Motion) × (e : ℤ) × (k : ℤ) × Contains g.ops n × IsSign e × (row_times r n.matrix ≡ multiple e r)
    × ((e *ℤ s.num *ℤ UNIT +ℤ s.den *ℤ (dot r n.translation +ℤ k *ℤ dot r f.tau)) *ℤ t.den ≡ t.num *ℤ (UNIT *ℤ s.den))

module _ (g : Listing) (r : Vector) (f : Basis) (frame : IsFrame g r f) (group : IsGroup g) (coprime : IsCoprime r) where
  -- with the periods it is a member
  pub row_by_listed : (s t : Height) (n : Motion) (e k : ℤ) → Contains g.ops n → row_times r n.matrix ≡ multiple e r
      → (e *ℤ s.num *ℤ UNIT +ℤ s.den *ℤ (dot r n.translation +ℤ k *ℤ dot r f.tau)) *ℤ t.den ≡ t.num *ℤ (UNIT *ℤ s.den)
      → (m : Motion) × IsMember g m × MovesRow r s t e m
  row_by_listed s t n e k listed row moves =
      let v = multiple k f.tau in
      let shift : dot r (plus n.translation v) ≡ dot r n.translation +ℤ k *ℤ dot r f.tau =
      dot-plus r n.translation v ∙ ap (λ x. dot r n.translation +ℤ x) (dot-multiple r k f.tau) in (
        record { matrix = n.matrix; translation = plus n.translation v },
        record {
          of = n;
          listed = listed;
          same = record { matrix = refl; translation = subst (IsInLattice g) (sym (plus-minus_first n.translation v)) (tau_multiple g r f frame k) };
        },
        (row, subst (λ x. (e *ℤ s.num *ℤ UNIT +ℤ s.den *ℤ x) *ℤ t.den ≡ t.num *ℤ (UNIT *ℤ s.den)) (sym shift) moves),
      )

  pub orbit_by_listed : (s t : Height) → IsHeight s → IsHeight t → AreInOneOrbit g r s t ↔ MovesByListed g r f s t
  orbit_by_listed s t high high' = (
    λ o.
        let (m, e, member, sign, p) = (orbit_by_row g r group coprime s t high high').0 o in
        let (k, value) = lattice_periods g r f frame (minus m.translation member.of.translation) member.same.translation in
        let shift : dot r m.translation ≡ dot r member.of.translation +ℤ k *ℤ dot r f.tau =
        ap (dot r) (sym (minus-plus m.translation member.of.translation)) ∙ dot-plus r (minus m.translation member.of.translation) member.of.translation
        ∙ ap (λ x. x +ℤ dot r member.of.translation) value ∙ +ℤ_comm (k *ℤ dot r f.tau) (dot r member.of.translation) in (
          member.of,
          e,
          k,
          member.listed,
          sign,
          ap (row_times r) (sym member.same.matrix) ∙ p.0,
          subst (λ x. (e *ℤ s.num *ℤ UNIT +ℤ s.den *ℤ x) *ℤ t.den ≡ t.num *ℤ (UNIT *ℤ s.den)) shift p.1,
        ),
    λ (n, e, k, listed, sign, row, moves).
        let (m, member, p) = row_by_listed s t n e k listed row moves in
        (orbit_by_row g r group coprime s t high high').1 (m, e, member, sign, p),
  )

-- ---- two operations, one turning the planes over, that take a general height to one height

-- 1 -1 = -1: s goes to t and back to itself, turned over
module _ (g : Listing) (r : Vector) (group : IsGroup g) (coprime : IsCoprime r) (s t : Height) (high : IsHeight s) (high' : IsHeight t) where
  pub special_by_two : (m n : Motion) → IsMember g m → IsMember g n → MovesRow r s t (pos 1) m → MovesRow r s t (negsuc 0) n → IsSpecial g r s
  special_by_two m n member member' p q =
      let (back, is, after, before) = group.inverses n member' in
      let turned : MovesRow r s s (negsuc 0) (followed_by m back) =
      MovesRow-product r s t s (pos 1) (negsuc 0) m back high' p (MovesRow-inverse r s t (negsuc 0) n back (inr refl) q after before) in
      (special_by_row g r s group coprime high).1 (followed_by m back, group.products m back member is, (turned_is_moved r s (followed_by m back) high).0 turned)
