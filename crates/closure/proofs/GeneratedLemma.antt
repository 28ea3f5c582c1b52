-- A closed list of members with a lattice that it keeps is the group that operations generate.
use Rattle.std.proofs.Common.{◌≡◌, ◌↔◌, ◌⊎◌, ℕ, Bool, true, false, inl, inr, arith, refl, sym, ap, subst, ◌∙◌, List, get_or, map}
use Rattle.std.specs.Prelude.{All, AllPairs, Contains}
use Rattle.std.proofs.lemmas.Bool.{true≢false, cases_lt}
use Rattle.std.proofs.lemmas.List.{length-map, get_or_default}
use Rattle.std.proofs.lemmas.List.Elements.{All-contains, All-map, Contains-get_or}
use Rattle.quotient.specs.Kind.{Kind, IsInverse}
use Rattle.quotient.specs.Closure.{IsFactor}
use Rattle.quotient.specs.Closure.IsFactor.{generator, inverse, shift}
use Rattle.quotient.specs.Closure.IsProduct.{empty, further}
use Rattle.symmetry.specs.Vectors.{Vector, Matrix, plus, minus, image, product, unit_matrix}
use Rattle.symmetry.specs.Motions.{Motion, followed_by, identity, translation}
use Rattle.symmetry.specs.Groups.{Listing, IsInLattice, SameModulo}
use Rattle.symmetry.proofs.VectorLaws.{plus_comm, minus-plus, plus-minus_first, minus-origin}
use Rattle.symmetry.proofs.MatrixLaws.{product_assoc, product-unit_left, product-unit_right}
use Rattle.symmetry.proofs.MotionLaws.{motion_path, followed_by-assoc, followed_by-identity, followed_by-translation}
use Rattle.symmetry.proofs.LatticeLaws.{same_refl, same_sym, same_trans, same-followed_by}
use Rattle.quotient.proofs.ListLaws.{AllPairs-map, Contains-map, Contains-from_map}
use Rattle.motions.specs.Equality.{same_matrix}
use Rattle.motions.specs.Laws.MotionLaws.{same_matrix-is}
use Rattle.closure.specs.Generated.{generating_kind, IsGenerated, InGeneratedLattice}
use Rattle.closure.specs.ClosedLists.{HasMatrixOf, IsMatrixClosed, IsLatticeClosed, IsCovered}
use Rattle.closure.proofs.Pigeonhole.{has_each}

pub matrix_decided : (w v : Matrix) → (w ≡ v) ⊎ ¬ (w ≡ v)
matrix_decided w v = go (same_matrix w v) refl
  where
    go : (b : Bool) → same_matrix w v ≡ b → (w ≡ v) ⊎ ¬ (w ≡ v)
    go true e = inl ((same_matrix-is w v).0 e)
    go false e = inr (λ p. true≢false (sym ((same_matrix-is w v).1 p) ∙ e))

-- two motions of such a list with one matrix are one
pub once_matrix : (list : List Motion) → AllPairs (λ m n. ¬ (m.matrix ≡ n.matrix)) list → (m n : Motion) → Contains list m → Contains list n
    → m.matrix ≡ n.matrix → m ≡ n
once_matrix list once m n (i, li, ei) (j, lj, ej) e = elim (cases_lt i j) [
  | inl less ↦ absurd (once i j m less lj (ap (λ (k : Motion). k.matrix) ei ∙ e ∙ ap (λ (k : Motion). k.matrix) (sym (get_or_default list j m n lj ∙ ej))))
  | inr le ↦ elim (cases_lt j i) [
    | inl more ↦ absurd (once j i n more li (ap (λ (k : Motion). k.matrix) ej ∙ sym e ∙ ap (λ (k : Motion). k.matrix) (sym (get_or_default list i n m li ∙ ei))))
    | inr ge ↦
        let same : i ≡ j = omega arith in
        sym ei ∙ ap (λ (k : ℕ). get_or list k m) same ∙ get_or_default list j m n lj ∙ ej
  ]
]

module _ (g : Listing) where
  abbrev K : Kind
  K = generating_kind g

  pub generated_products : (m n : Motion) → IsGenerated g m → IsGenerated g n → IsGenerated g (followed_by m n)
  generated_products m _ p empty = subst (IsGenerated g) (sym (followed_by-identity m)) p
  generated_products m _ p (further n f q x) =
      subst (IsGenerated g) (followed_by-assoc m n f) (further (followed_by m n) f (generated_products m n p q) x)

  module _ (list : List Motion) (h : Listing) (C : IsMatrixClosed g list) (L : IsLatticeClosed g list h) where
    abbrev Covered : Motion → Type 0
    Covered m = IsCovered list h m

    -- each listed matrix stands in the list
    listed_matrix : (k : Motion) → Contains g.ops k → HasMatrixOf list k
    listed_matrix k is =
        let (n, stands, e) = C.closed identity k C.first is in
        (n, stands, e ∙ product-unit_right k.matrix)

    keeps_listed : (k : Motion) → Contains g.ops k → (v : Vector) → IsInLattice h v → IsInLattice h (image k.matrix v)
    keeps_listed k is v in_h =
        let (n, stands, e) = listed_matrix k is in
        subst (λ w. IsInLattice h (image w v)) e (L.keeps n stands v in_h)

    -- where n undoes the listed k, each motion of the list has the matrix of one of them followed by k
    undone : (k n : Motion) → Contains g.ops k → IsInverse K k n → (m : Motion) → Contains list m → (l : Motion) × Contains list l × (product k.matrix l.matrix ≡ m.matrix)
    undone k n is back m stands =
        let matrices : List Matrix = map (λ (m : Motion). m.matrix) list in
        let images : List Matrix = map (λ (m : Motion). product k.matrix m.matrix) list in
        let inside : All (Contains matrices) images =
        All-map (Contains matrices) (λ (m : Motion). product k.matrix m.matrix) list
        (λ i d l.
        let (o, there, e) = C.closed (get_or list i d) k (Contains-get_or list i d l) is in
        subst (Contains matrices) e (Contains-map (λ (m : Motion). m.matrix) list o there)) in
        let cancel : (v w : Matrix) → product k.matrix v ≡ product k.matrix w → v ≡ w =
        λ v w e.
        sym (undo v) ∙ ap (product n.matrix) e ∙ undo w in
        let apart : AllPairs (λ x y. ¬ (x ≡ y)) images =
        AllPairs-map (λ (m : Motion). product k.matrix m.matrix) (λ x y. ¬ (x ≡ y)) list
        (λ i j d less within e. C.once i j d less within (cancel _ _ e)) in
        let found = has_each unit_matrix matrices matrix_decided images inside apart
        (length-map list (λ (m : Motion). product k.matrix m.matrix) ∙ sym (length-map list (λ (m : Motion). m.matrix)))
        m.matrix (Contains-map (λ (m : Motion). m.matrix) list m stands) in
        Contains-from_map (λ (m : Motion). product k.matrix m.matrix) list m.matrix found
      where
        undo : (v : Matrix) → product n.matrix (product k.matrix v) ≡ v
        undo v = sym (product_assoc n.matrix k.matrix v) ∙ ap (λ w. product w v) (ap (λ (m : Motion). m.matrix) back.after) ∙ product-unit_left v

    keeps_inverse : (k n : Motion) → Contains g.ops k → IsInverse K k n → (v : Vector) → IsInLattice h v → IsInLattice h (image n.matrix v)
    keeps_inverse k n is back v in_h =
        let (l, stands, e) = undone k n is back identity C.first in
        let same : l.matrix ≡ n.matrix =
        sym (product-unit_left l.matrix)
        ∙ ap (λ w. product w l.matrix) (sym (ap (λ (m : Motion). m.matrix) back.after))
        ∙ product_assoc n.matrix k.matrix l.matrix
        ∙ ap (product n.matrix) e
        ∙ product-unit_right n.matrix in
        subst (λ w. IsInLattice h (image w v)) same (L.keeps l stands v in_h)

    covered_same : (m n : Motion) → SameModulo h m n → Covered n → Covered m
    covered_same m n s c = record { of = c.of; listed = c.listed; same = same_trans h m n c.of s c.same }

    covered_factor : (l f : Motion) → Covered l → IsFactor K g.ops f → Covered (followed_by l f)
    covered_factor l f c (generator is) =
        let (n, stands, same) = L.differences c.of f c.listed is in
        record {
          of = n;
          listed = stands;
          same = same_trans h (followed_by l f) (followed_by c.of f) n (same-followed_by h l f c.of f (keeps_listed f is) c.same (same_refl h f)) same;
        }
    covered_factor l f c (inverse k is back) =
        let (i, stands, e) = undone k f is back c.of c.listed in
        let (n, there, same) = L.differences i k stands is in
        let n_is : n ≡ c.of = once_matrix list C.once n c.of there c.listed (sym same.matrix ∙ e) in
        let to_k : SameModulo h l (followed_by i k) =
        same_trans h l c.of (followed_by i k) c.same (same_sym h (followed_by i k) c.of (subst (SameModulo h (followed_by i k)) n_is same)) in
        let whole : followed_by (followed_by i k) f ≡ i =
        followed_by-assoc i k f ∙ ap (followed_by i) back.after ∙ followed_by-identity i in
        record {
          of = i;
          listed = stands;
          same = subst (SameModulo h (followed_by l f)) whole
              (same-followed_by h l f (followed_by i k) f (keeps_inverse k f is back) to_k (same_refl h f));
        }
    covered_factor l f c (shift (e, in_c)) =
        let f_is : f ≡ translation f.translation = motion_path e refl in
        let moved : followed_by l f ≡ record { matrix = l.matrix; translation = plus l.translation f.translation } =
        ap (followed_by l) f_is ∙ followed_by-translation l f.translation in
        covered_same (followed_by l f) l
        (subst (λ k. SameModulo h k l) (sym moved)
        (record { matrix = refl; translation = subst (IsInLattice h) (sym (plus-minus_first l.translation f.translation)) (L.centrings f.translation in_c) }))
        c

    pub covers : (m : Motion) → IsGenerated g m → Covered m
    covers _ empty = record { of = identity; listed = C.first; same = same_refl h identity }
    covers _ (further l f p x) = covered_factor l f (covers l p) x

    pub within : (m : Motion) → Covered m → IsGenerated g m
    within m c =
        let v = minus m.translation c.of.translation in
        let is : followed_by c.of (translation v) ≡ m =
        followed_by-translation c.of v ∙ motion_path (sym c.same.matrix) (plus_comm c.of.translation v ∙ minus-plus m.translation c.of.translation) in
        subst (IsGenerated g) is
        (generated_products c.of (translation v) (All-contains (IsGenerated g) list c.of C.inside c.listed) (L.inside v c.same.translation))

    pub generated_is_covered : (m : Motion) → IsGenerated g m ↔ Covered m
    generated_is_covered m = (covers m, within m)

    -- L is the lattice of h
    pub lattice_is : (v : Vector) → InGeneratedLattice g v ↔ IsInLattice h v
    lattice_is v = (to, L.inside v)
      where
        to : InGeneratedLattice g v → IsInLattice h v
        to p =
            let c = covers (translation v) p in
            let one : c.of ≡ identity = once_matrix list C.once c.of identity c.listed C.first (sym c.same.matrix) in
            subst (IsInLattice h) (ap (λ (n : Motion). minus v n.translation) one ∙ minus-origin v) c.same.translation
