-- The group of a list in order and a lattice is the one that the listed operations generate.
use Rattle.std.proofs.Common.{◌≡◌, ◌↔◌, ◌⊎◌, ℕ, zero, suc, ◌<◌, ◌≤◌, lit≤, inl, inr, arith, refl, sym, ap, subst, ◌∙◌, List, ◌∷◌, length, get_or, map}
use Rattle.std.specs.Prelude.{All, AllPairs, Contains}
use Rattle.std.proofs.lemmas.List.{length-map}
use Rattle.std.proofs.lemmas.List.Elements.{All-contains, All-contains_itself, All-weaker, All-cons}
use Rattle.std.proofs.lemmas.List.Kept.{AllPairs-cons}
use Rattle.quotient.specs.Closure.IsProduct.{empty}
use Rattle.quotient.specs.Order.{IsInOrder, IsLexBelow}
use Rattle.symmetry.specs.Vectors.{Vector, Matrix, minus, product, unit_matrix}
use Rattle.symmetry.specs.Motions.{Motion, followed_by, identity, translation}
use Rattle.symmetry.specs.Groups.{Listing, Generates, IsInLattice, IsMember, IsGroup, SameModulo, zero_vector}
use Rattle.symmetry.specs.Sizes.{IsMatrixWithin}
use Rattle.symmetry.proofs.VectorLaws.{minus-plus-minus}
use Rattle.symmetry.proofs.LatticeLaws.{lattice-made, lattice-plus, same_refl, same_sym, same_trans}
use Rattle.quotient.proofs.ListLaws.{Contains-map}
use Rattle.motions.specs.declared.motion.Motion3.{Motion3}
use Rattle.motions.specs.Views.{motion_of}
use Rattle.closure.specs.declared.lattice.Lattice.{Lattice}
use Rattle.closure.specs.Residues.{residue}
use Rattle.closure.specs.Laws.ResidueLaws.{has_residue-is, residue-residue, residue-origin}
use Rattle.closure.specs.Lattices.{residues_of, IsLatticeOf}
use Rattle.closure.specs.Operations.{listing_with, AreApart, HasSmallEntries, HoldsTranslations}
use Rattle.closure.specs.Laws.ShiftLaws.{residues-reduced}
use Rattle.closure.specs.Generated.{generating_kind, IsGenerated, IsGeneratedMatrix, IsGeneratedMatrix.{no_matrix, one_more}, InGeneratedLattice, AllInvertible, IsLeast, IsDerived, least_form, entries_of, IsTooLarge, IsTooLarge.{many, large}}
use Rattle.closure.specs.ClosedLists.{IsMatrixClosed, IsLatticeClosed}
use Rattle.closure.specs.Derived.{IsOtherAtHome, IsOrdered}
use Rattle.closure.proofs.Spans.{lattice-more, lattice-by_residue}
use Rattle.closure.proofs.Pigeonhole.{no_longer}
use Rattle.symmetry.proofs.Sizes.{IsMatrixWithin-more}
use Rattle.closure.proofs.GeneratedLemma.{once_matrix, matrix_decided, covers, within, lattice_is, generated_products}
use Rattle.closure.proofs.GeneratedGroup.{generated_inverse}
use Rattle.closure.proofs.LeastVectors.{not_before_origin, reduced_within}

module _ (g : Listing) (list : List Motion) (C : IsMatrixClosed g list) where
  -- the list has each matrix of M
  pub each_matrix : (w : Matrix) → IsGeneratedMatrix g w → (m : Motion) × Contains list m × (m.matrix ≡ w)
  each_matrix _ no_matrix = (identity, C.first, refl)
  each_matrix _ (one_more w k p is) =
      let (m, stands, e) = each_matrix w p in
      let (n, there, f) = C.closed m k stands is in
      (n, there, f ∙ ap (product k.matrix) e)

  pub not_too_large : All HasSmallEntries list → length list ≤ 48 → ¬ IsTooLarge g
  not_too_large small few (many ws more inside apart) =
      let matrices : List Matrix = map (λ (m : Motion). m.matrix) list in
      let fits : length ws ≤ length matrices =
      no_longer unit_matrix matrices ws
      (All-weaker (IsGeneratedMatrix g) (Contains matrices)
      (λ w p. let (m, stands, e) = each_matrix w p in subst (Contains matrices) e (Contains-map (λ (m : Motion). m.matrix) list m stands)) ws inside) apart in
      absurd (omega (arith, length-map list (λ (m : Motion). m.matrix)))
  not_too_large small few (large w p big) =
      let (m, stands, e) = each_matrix w p in
      let s = All-contains HasSmallEntries list m small stands in
      big (subst (IsMatrixWithin 50) e s.matrix)

  module _ (invertible : AllInvertible g) (h : Listing) (L : IsLatticeClosed g list h) (lattice : Lattice) (same : IsLatticeOf h lattice)
      (ops : List Motion3) (O : IsOrdered lattice list (map motion_of ops)) where
    abbrev D : Listing
    D = listing_with ops lattice

    op_case : (n : Motion) → Contains (map motion_of ops) n → (n ≡ identity) ⊎ Contains O.others n
    op_case n is = go (subst (λ l. Contains l n) O.is is)
      where
        go : Contains (identity ∷ O.others) n → (n ≡ identity) ⊎ Contains O.others n
        go (zero, within, e) = inl (sym e)
        go (suc k, within, e) = inr (k, omega arith, e)

    identity_listed : Contains (map motion_of ops) identity
    identity_listed = subst (λ l. Contains l identity) (sym O.is) (0, omega arith, refl)

    other_listed : (n : Motion) → Contains O.others n → Contains (map motion_of ops) n
    other_listed n (k, within, e) = subst (λ l. Contains l n) (sym O.is) (suc k, omega arith, e)

    not_unit : (n : Motion) → Contains O.others n → ¬ (n.matrix ≡ unit_matrix)
    not_unit n is e = let a = O.at_home.each n is in a.other (sym a.matrix ∙ e)

    -- ---- the lattice

    pub own_lattice : (v : Vector) → IsInLattice D v ↔ IsInLattice h v
    own_lattice v = (lattice-more D h makes v, back)
      where
        makes : (u : Vector) → Generates D u → IsInLattice h u
        makes u (inl edge) = lattice-made h u (inl edge)
        makes u (inr (inl is)) =
            (same u).0 (subst (Contains (residues_of lattice)) (sym (All-contains (λ r. residue r ≡ r) (residues_of lattice) u (residues-reduced lattice) is)) is)
        makes u (inr (inr is)) = elim (op_case (translation u) is) [
          | inl e ↦ subst (IsInLattice h) (sym (ap (λ (m : Motion). m.translation) e)) zero_vector
          | inr other ↦ absurd (not_unit (translation u) other refl)
        ]

        back : IsInLattice h v → IsInLattice D v
        back p = lattice-by_residue D v (residue v) (sym (residue-residue v)) (lattice-made D (residue v) (inr (inl ((same v).1 p))))

    pub vectors : (v : Vector) → InGeneratedLattice g v ↔ IsInLattice D v
    vectors v = (λ p. (own_lattice v).1 ((lattice_is g list h C L v).0 p), λ p. (lattice_is g list h C L v).1 ((own_lattice v).0 p))

    -- ---- the members

    modulo_own : (m n : Motion) → SameModulo h m n → SameModulo D m n
    modulo_own m n s = record { matrix = s.matrix; translation = (own_lattice (minus m.translation n.translation)).1 s.translation }

    home_same : (n : Motion) (a : IsOtherAtHome lattice list n) → SameModulo h n a.of
    home_same n a = record { matrix = a.matrix; translation = (same (minus n.translation a.of.translation)).0 a.home.same }

    op_generated : (n : Motion) → Contains (map motion_of ops) n → IsGenerated g n
    op_generated n is = elim (op_case n is) [
      | inl e ↦ subst (IsGenerated g) (sym e) empty
      | inr other ↦
          let a = O.at_home.each n other in
          within g list h C L n (record { of = a.of; listed = a.listed; same = home_same n a })
    ]

    op_of : (n : Motion) → Contains list n → (k : Motion) × Contains (map motion_of ops) k × SameModulo h k n
    op_of n is = elim (matrix_decided n.matrix unit_matrix) [
      | inl e ↦ (identity, identity_listed, subst (SameModulo h identity) (sym (once_matrix list C.once n identity is C.first e)) (same_refl h identity))
      | inr other ↦
          let (k, stands, f) = O.at_home.all n is other in
          let a = O.at_home.each k stands in
          let one : a.of ≡ n = once_matrix list C.once a.of n a.listed is (sym a.matrix ∙ f) in
          (k, other_listed k stands, subst (SameModulo h k) one (home_same k a))
    ]

    pub members : (m : Motion) → IsGenerated g m ↔ IsMember D m
    members m = (to, from)
      where
        to : IsGenerated g m → IsMember D m
        to p =
            let c = covers g list h C L m p in
            let (k, stands, s) = op_of c.of c.listed in
            record { of = k; listed = stands; same = modulo_own m k (same_trans h m c.of k c.same (same_sym h k c.of s)) }

        from : IsMember D m → IsGenerated g m
        from p =
            let c = covers g list h C L p.of (op_generated p.of p.listed) in
            let s : SameModulo h m p.of = record { matrix = p.same.matrix; translation = (own_lattice (minus m.translation p.of.translation)).0 p.same.translation } in
            within g list h C L m (record { of = c.of; listed = c.listed; same = same_trans h m p.of c.of s c.same })

    pub is_group : IsGroup D
    is_group = record {
      has_identity = (members identity).0 empty;
      products = λ m n p q. (members (followed_by m n)).0 (generated_products g m n ((members m).1 p) ((members n).1 q));
      inverses = λ m p.
          let (n, q, after, before) = generated_inverse g invertible m ((members m).1 p) in
          (n, (members n).0 q, after, before);
    }

    -- ---- what a Group keeps

    once : AllPairs (λ m n. ¬ (m.matrix ≡ n.matrix)) (map motion_of ops)
    once =
        subst (AllPairs (λ m n. ¬ (m.matrix ≡ n.matrix))) (sym O.is)
        (AllPairs-cons (λ m n. ¬ (m.matrix ≡ n.matrix)) identity O.others
        (All-weaker (Contains O.others) (λ n. ¬ (unit_matrix ≡ n.matrix)) (λ n is e. not_unit n is (sym e)) O.others (All-contains_itself O.others)) O.at_home.once)

    pub apart : AreApart D
    apart i j d less within s = once i j d less within s.matrix

    pub holds_translations : HoldsTranslations D lattice
    holds_translations v is = (has_residue-is (residues_of lattice) v).1 ((same v).1 ((own_lattice v).0 is))

    pub small_ops : All HasSmallEntries list → All HasSmallEntries (map motion_of ops)
    small_ops small =
        subst (All HasSmallEntries) (sym O.is)
        (All-cons HasSmallEntries identity O.others (All-contains HasSmallEntries list identity small C.first)
        (All-weaker (Contains O.others) HasSmallEntries other_small O.others (All-contains_itself O.others)))
      where
        other_small : (n : Motion) → Contains O.others n → HasSmallEntries n
        other_small n is =
            let a = O.at_home.each n is in
            let s = All-contains HasSmallEntries list a.of small a.listed in
            let matrix : IsMatrixWithin 50 n.matrix = subst (IsMatrixWithin 50) (sym a.matrix) s.matrix in
            record { small = record { matrix = IsMatrixWithin-more matrix (lit≤ tt); translation = reduced_within n.translation a.home.reduced }; matrix = matrix }

    -- ---- the derived list

    op_matrix : (n : Motion) → Contains (map motion_of ops) n → IsGeneratedMatrix g n.matrix
    op_matrix n is = elim (op_case n is) [
      | inl e ↦ subst (λ (m : Motion). IsGeneratedMatrix g m.matrix) (sym e) no_matrix
      | inr other ↦
          let a = O.at_home.each n other in
          subst (IsGeneratedMatrix g) (sym a.matrix) (All-contains (λ m. IsGeneratedMatrix g m.matrix) list a.of C.matrices a.listed)
    ]

    op_covers : (w : Matrix) → IsGeneratedMatrix g w → (m : Motion) × Contains (map motion_of ops) m × (m.matrix ≡ w)
    op_covers w p =
        let (m, is, e) = each_matrix w p in
        let (k, stands, s) = op_of m is in
        (k, stands, s.matrix ∙ e)

    least_other : (n : Motion) → Contains O.others n → IsLeast g n.translation
    least_other n is =
        let a = O.at_home.each n is in record {
          reduced = a.home.reduced;
          first = λ u p e. a.home.first u
              ((same (minus u a.of.translation)).1
              (subst (IsInLattice h) (minus-plus-minus u n.translation a.of.translation)
              (lattice-plus h (minus u n.translation) (minus n.translation a.of.translation) ((lattice_is g list h C L (minus u n.translation)).0 p) ((same (minus n.translation a.of.translation)).0 a.home.same)))) e;
        }

    least_op : (n : Motion) → Contains (map motion_of ops) n → IsLeast g n.translation
    least_op n is = elim (op_case n is) [
      | inl e ↦ subst (λ (m : Motion). IsLeast g m.translation) (sym e) (record { reduced = residue-origin; first = λ u p r. not_before_origin u r })
      | inr other ↦ least_other n other
    ]

    ordered : IsInOrder (generating_kind g) (least_form g) (identity ∷ O.others)
    ordered = record {
      first = refl;
      falling = falls;
      home = subst (All (λ m. IsLeast g m.translation)) O.is
          (All-weaker (Contains (map motion_of ops)) (λ m. IsLeast g m.translation) least_op (map motion_of ops) (All-contains_itself (map motion_of ops)));
    }
      where
        falls : (i j : ℕ) (d : Motion) → 0 < i → i < j → j < length (identity ∷ O.others)
            → IsLexBelow (entries_of (get_or (identity ∷ O.others) j d)) (entries_of (get_or (identity ∷ O.others) i d))
        falls zero j d p q r = absurd (omega arith)
        falls (suc i) zero d p q r = absurd (omega arith)
        falls (suc i) (suc j) d p q r = O.falling i j d (omega arith) (omega arith)

    pub derived : IsDerived g (map motion_of ops)
    derived = record {
      inside = All-weaker (Contains (map motion_of ops)) (IsGenerated g) op_generated (map motion_of ops) (All-contains_itself (map motion_of ops));
      matrices = op_matrix;
      covers = op_covers;
      once = once;
      order = subst (IsInOrder (generating_kind g) (least_form g)) (sym O.is) ordered;
    }

-- ---- what the code has made

pub record IsMadeOf (g : Listing) (lattice : Lattice) (ops : List Motion3) : Type 0 where
  pub list : List Motion
  pub closed : IsMatrixClosed g list
  pub small : All HasSmallEntries list
  pub few : length list ≤ 48
  pub invertible : AllInvertible g
  pub h : Listing
  pub closed_lattice : IsLatticeClosed g list h
  pub same : IsLatticeOf h lattice
  pub ordered : IsOrdered lattice list (map motion_of ops)

pub made_of : (g : Listing) → AllInvertible g → (list now again : List Motion3) → now ≡ list → again ≡ list → IsMatrixClosed g (map motion_of list)
    → All HasSmallEntries (map motion_of list) → length list ≤ 48 → (lattice : Lattice)
    → ((h : Listing) × IsLatticeOf h lattice × IsLatticeClosed g (map motion_of now) h)
    → (ops : List Motion3) → IsOrdered lattice (map motion_of again) (map motion_of ops) → IsMadeOf g lattice ops
made_of g invertible list now again read read_again closed small few lattice (h, same, L) ops O = record {
  list = map motion_of list;
  closed = closed;
  small = small;
  few = omega (arith, length-map list motion_of);
  invertible = invertible;
  h = h;
  closed_lattice = subst (λ (l : List Motion3). IsLatticeClosed g (map motion_of l) h) read L;
  same = same;
  ordered = subst (λ (l : List Motion3). IsOrdered lattice (map motion_of l) (map motion_of ops)) read_again O;
}

module _ (g : Listing) (lattice : Lattice) (ops : List Motion3) (m : IsMadeOf g lattice ops) where
  pub made_vectors : (v : Vector) → InGeneratedLattice g v ↔ IsInLattice (listing_with ops lattice) v
  made_vectors = vectors g m.list m.closed m.invertible m.h m.closed_lattice lattice m.same ops m.ordered

  pub made_members : (n : Motion) → IsGenerated g n ↔ IsMember (listing_with ops lattice) n
  made_members = members g m.list m.closed m.invertible m.h m.closed_lattice lattice m.same ops m.ordered

  pub made_group : IsGroup (listing_with ops lattice)
  made_group = is_group g m.list m.closed m.invertible m.h m.closed_lattice lattice m.same ops m.ordered

  pub made_apart : AreApart (listing_with ops lattice)
  made_apart = apart g m.list m.closed m.invertible m.h m.closed_lattice lattice m.same ops m.ordered

  pub made_translations : HoldsTranslations (listing_with ops lattice) lattice
  made_translations = holds_translations g m.list m.closed m.invertible m.h m.closed_lattice lattice m.same ops m.ordered

  pub made_small : All HasSmallEntries (map motion_of ops)
  made_small = small_ops g m.list m.closed m.invertible m.h m.closed_lattice lattice m.same ops m.ordered m.small

  pub made_derived : IsDerived g (map motion_of ops)
  made_derived = derived g m.list m.closed m.invertible m.h m.closed_lattice lattice m.same ops m.ordered

  pub made_not_large : ¬ IsTooLarge g
  made_not_large = not_too_large g m.list m.closed m.small m.few
