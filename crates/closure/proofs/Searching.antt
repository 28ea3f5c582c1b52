-- The search for the matrices that operations generate.
use Rattle.std.proofs.Common.{◌≡◌, ℕ, zero, suc, ◌+◌, ◌<◌, ◌≤◌, arith, refl, sym, ap, subst, ◌∙◌, List, [], ◌∷◌, ◌++◌, ◌^◌, lit≤, length, get_or, map, take, pos}
use Rattle.std.specs.Prelude.{All, Contains}
use Rattle.std.proofs.lemmas.List.{append-nil, append_assoc, length-map, length-append, map-append, get_or-map, get_or_append_left, take_all, take_more, take-append-le, map_more}
use Rattle.std.proofs.lemmas.List.Elements.{All-nil, All-cons, All-push, All-map, All-weaker, All-contains, All-contains_itself, Contains-append_left, Contains-push, Contains-get_or}
use Rattle.std.proofs.lemmas.List.Kept.{AllPairs-cons}
use Rattle.quotient.specs.Closure.IsFactor.{generator, shift}
use Rattle.quotient.specs.Closure.IsProduct.{empty, further}
use Rattle.integers.specs.Size.{IsWithin}
use Rattle.symmetry.specs.Vectors.{Vector, Matrix, minus, product}
use Rattle.symmetry.specs.Motions.{Motion, followed_by, identity, translation}
use Rattle.symmetry.specs.Groups.{Listing, IsInLattice}
use Rattle.symmetry.specs.Sizes.{IsMatrixWithin, IsVectorWithin}
use Rattle.motions.specs.declared.motion.Motion3.{Motion3}
use Rattle.closure.specs.Operations.{HasSmallEntries}
use Rattle.symmetry.proofs.Sizes.{IsMatrixWithin-more}
use Rattle.motions.specs.Views.{motion_of}
use Rattle.symmetry.proofs.VectorLaws.{plus_comm, minus-plus, opposite-minus}
use Rattle.symmetry.proofs.MotionLaws.{motion_path, followed_by-translation}
use Rattle.quotient.proofs.ListLaws.{AllPairs-append, AllPairs-map, Contains-map}
use Rattle.closure.specs.Residues.{residue, IsWhole}
use Rattle.closure.specs.Laws.ResidueLaws.{whole-minus_residue, whole-opposite}
use Rattle.closure.specs.Fineness.{centrings_alone}
use Rattle.closure.specs.Generated.{IsGenerated, IsGeneratedMatrix, IsGeneratedMatrix.{no_matrix, one_more}, IsTooLarge, IsTooLarge.{many}}
use Rattle.closure.specs.ClosedLists.{HasMatrixOf, IsMatrixClosed}
use Rattle.closure.specs.Searches.{AreFound, GoesOn, HasNext}
use Rattle.closure.proofs.Spans.{lattice-whole}

-- ---- lists that go on

pub goes_on_same : (old : List Motion) → GoesOn old old
goes_on_same old = record { rest = []; is = sym (append-nil old) }

pub goes_on_then : (old mid new : List Motion) → GoesOn old mid → GoesOn mid new → GoesOn old new
goes_on_then old mid new p q = record { rest = p.rest ++ q.rest; is = q.is ∙ ap (λ l. l ++ q.rest) p.is ∙ append_assoc old p.rest q.rest }

pub goes_on_length : (old new : List Motion) → GoesOn old new → length old ≤ length new
goes_on_length old new p = omega (arith, ap length p.is, length-append old p.rest)

pub goes_on_push : (old new : List Motion) (m : Motion) → new ≡ old ++ m ∷ [] → GoesOn old new
goes_on_push old new m e = record { rest = m ∷ []; is = e }

pub still_contained : (old new : List Motion) → GoesOn old new → (m : Motion) → Contains old m → Contains new m
still_contained old new p m is = subst (λ l. Contains l m) (sym p.is) (Contains-append_left old p.rest m is)

pub still_has : (old new : List Motion) → GoesOn old new → (m : Motion) → HasMatrixOf old m → HasMatrixOf new m
still_has old new p m (n, stands, e) = (n, still_contained old new p n stands, e)

-- ---- one more motion

pub generated_residue : (g : Listing) (m n : Motion) → IsGenerated g m → n.matrix ≡ m.matrix → n.translation ≡ residue m.translation → IsGenerated g n
generated_residue g m n p e f =
    let v : Vector = minus (residue m.translation) m.translation in
    let whole : IsInLattice (centrings_alone g.centrings) v =
    lattice-whole (centrings_alone g.centrings) v (subst IsWhole (opposite-minus m.translation (residue m.translation)) (whole-opposite (minus m.translation (residue m.translation)) (whole-minus_residue m.translation))) in
    let is : followed_by m (translation v) ≡ n =
    followed_by-translation m v ∙ motion_path (sym e) (plus_comm m.translation v ∙ minus-plus (residue m.translation) m.translation ∙ sym f) in
    subst (IsGenerated g) is (further m (translation v) p (shift (refl, whole)))

-- what was found, as matrices
pub matrices_of : List Motion → List Matrix
matrices_of list = map (λ (m : Motion). m.matrix) list

module _ (g : Listing) (list : List Motion) (F : AreFound g list) where
  -- a motion with a new matrix
  module _ (m : Motion) (new_matrix : ¬ HasMatrixOf list m) where
    differs : All (λ n. ¬ (n.matrix ≡ m.matrix)) list
    differs = All-weaker (Contains list) (λ n. ¬ (n.matrix ≡ m.matrix)) (λ n is e. new_matrix (n, is, e)) list (All-contains_itself list)

    pub found_more : IsGenerated g m → IsGeneratedMatrix g m.matrix → AreFound g (list ++ m ∷ [])
    found_more p q = record {
      first = Contains-append_left list (m ∷ []) identity F.first;
      inside = All-push (IsGenerated g) list m F.inside p;
      matrices = All-push (λ m. IsGeneratedMatrix g m.matrix) list m F.matrices q;
      once = AllPairs-append (λ m n. ¬ (m.matrix ≡ n.matrix)) list (m ∷ []) F.once (λ i j d less within. absurd (omega arith))
          (λ x y hx hy e. new_matrix (x, hx, e ∙ ap (λ (k : Motion). k.matrix) (only y hy)));
    }
      where
        only : (y : Motion) → Contains (m ∷ []) y → y ≡ m
        only y (zero, within, is) = sym is
        only y (suc k, within, is) = absurd (omega arith)

    pub found_too_many : 48 ≤ length list → IsGeneratedMatrix g m.matrix → IsTooLarge g
    found_too_many full q =
        let ws : List Matrix = map (λ (m : Motion). m.matrix) list in
        let long : 48 < length (m.matrix ∷ ws) = omega (arith, length-map list (λ (m : Motion). m.matrix)) in
        many (m.matrix ∷ ws) long
        (All-cons (IsGeneratedMatrix g) m.matrix ws q (All-map (IsGeneratedMatrix g) (λ (m : Motion). m.matrix) list F.matrices))
        (AllPairs-cons (λ v w. ¬ (v ≡ w)) m.matrix ws
        (All-map (λ w. ¬ (m.matrix ≡ w)) (λ (m : Motion). m.matrix) list (λ k d l e. differs k d l (sym e)))
        (AllPairs-map (λ (m : Motion). m.matrix) (λ v w. ¬ (v ≡ w)) list F.once))

  -- products of what was found are members, with matrices of M
  pub product_generated : (m k : Motion) → Contains list m → Contains g.ops k → IsGenerated g (followed_by m k)
  product_generated m k is listed = further m k (All-contains (IsGenerated g) list m F.inside is) (generator listed)

  pub product_matrix : (m k : Motion) → Contains list m → Contains g.ops k → IsGeneratedMatrix g (product k.matrix m.matrix)
  product_matrix m k is listed = one_more m.matrix k (All-contains (λ m. IsGeneratedMatrix g m.matrix) list m F.matrices is) listed

-- the code's list with one more motion
module _ (old new : List Motion3) (n : Motion3) (pushed : new ≡ old ++ n ∷ []) where
  pushed_motion : map motion_of new ≡ map motion_of old ++ motion_of n ∷ []
  pushed_motion = ap (map motion_of) pushed ∙ map-append motion_of old (n ∷ [])

  pub push_small : All HasSmallEntries (map motion_of old) → IsMatrixWithin 50 (motion_of n).matrix
      → IsVectorWithin (2 ^ 40) (motion_of n).translation → All HasSmallEntries (map motion_of new)
  push_small all matrix short =
      subst (All HasSmallEntries) (sym pushed_motion)
      (All-push HasSmallEntries (map motion_of old) (motion_of n) all (record { small = record { matrix = IsMatrixWithin-more matrix (lit≤ tt); translation = short }; matrix = matrix }))

  module _ (m : Motion) (matrix : (motion_of n).matrix ≡ m.matrix) where
    pub push_has : HasMatrixOf (map motion_of new) m
    push_has = (motion_of n, subst (λ l. Contains l (motion_of n)) (sym pushed_motion) (Contains-push (map motion_of old) (motion_of n)), matrix)

    pub push_found : (motion_of n).translation ≡ residue m.translation → ¬ HasMatrixOf (map motion_of old) m → (g : Listing) → AreFound g (map motion_of old)
        → IsGenerated g m → IsGeneratedMatrix g m.matrix → AreFound g (map motion_of new)
    push_found moved none g F p q =
        subst (AreFound g) (sym pushed_motion)
        (found_more g (map motion_of old) F (motion_of n) (λ (k, is, e). none (k, is, e ∙ matrix))
        (generated_residue g m (motion_of n) p matrix moved) (subst (IsGeneratedMatrix g) (sym matrix) q))

pub full_fault : (old : List Motion3) (m : Motion) → ¬ HasMatrixOf (map motion_of old) m → 48 ≤ length old → (g : Listing) → AreFound g (map motion_of old)
    → IsGeneratedMatrix g m.matrix → IsTooLarge g
full_fault old m none full g F q = found_too_many g (map motion_of old) F m none (omega (arith, length-map old motion_of)) q

-- the identity alone
pub found_one : (g : Listing) (list : List Motion) → list ≡ identity ∷ [] → AreFound g list
found_one g list e = subst (AreFound g) (sym e) (record {
  first = (0, omega arith, refl);
  inside = All-cons (IsGenerated g) identity [] empty (All-nil (IsGenerated g));
  matrices = All-cons (λ m. IsGeneratedMatrix g m.matrix) identity [] no_matrix (All-nil (λ m. IsGeneratedMatrix g m.matrix));
  once = λ i j d less within. absurd (omega arith);
})

-- ---- turns of the loops

pub step_generated : (g : Listing) (list : List Motion) → AreFound g list → (m k p : Motion) → Contains list m → Contains g.ops k → p ≡ followed_by m k
    → IsGenerated g p × IsGeneratedMatrix g p.matrix
step_generated g list F m k p is listed e =
    (subst (IsGenerated g) (sym e) (product_generated g list F m k is listed), subst (λ (p : Motion). IsGeneratedMatrix g p.matrix) (sym e) (product_matrix g list F m k is listed))

-- the operation that a loop over the listed ones has come to
module _ (items now : List Motion3) (read : now ≡ items) (i : ℕ) (d : Motion3) (within : i < length now) where
  pub item_listed : Contains (map motion_of items) (motion_of (get_or now i d))
  item_listed = subst (λ (l : List Motion3). Contains (map motion_of l) (motion_of (get_or now i d))) read (Contains-map motion_of now (get_or now i d) (Contains-get_or now i d within))

  pub item_taken : map motion_of (take (i + 1) items) ≡ map motion_of (take i items) ++ motion_of (get_or now i d) ∷ []
  item_taken = map_more motion_of items i d (subst (λ (l : List Motion3). i < length l) read within) ∙ (λ j. map motion_of (take i items) ++ motion_of (get_or (sym read j) i d) ∷ [])

-- one more listed operation
pub next_more : (old new : List Motion) → GoesOn old new → (m : Motion) (done : List Motion) (k : Motion) → All (λ k. HasMatrixOf old (followed_by m k)) done
    → HasMatrixOf new (followed_by m k) → All (λ k. HasMatrixOf new (followed_by m k)) (done ++ k ∷ [])
next_more old new p m done k all here =
    All-push (λ k. HasMatrixOf new (followed_by m k)) done k
    (All-weaker (λ k. HasMatrixOf old (followed_by m k)) (λ k. HasMatrixOf new (followed_by m k)) (λ k. still_has old new p (followed_by m k)) done all) here

pub next_all : (g : Listing) (list : List Motion) (m : Motion) → All (λ k. HasMatrixOf list (followed_by m k)) g.ops → HasNext g list m
next_all g list m all k is = All-contains (λ k. HasMatrixOf list (followed_by m k)) g.ops k all is

-- one more motion of the list
pub has_next_more : (g : Listing) (old new : List Motion) → GoesOn old new → (i : ℕ) (m : Motion) → i < length old → get_or old i m ≡ m
    → All (HasNext g old) (take i old) → HasNext g new m → All (HasNext g new) (take (i + 1) new)
has_next_more g old new p i m within at all here =
    let long : length old ≤ length new = omega (arith, ap length p.is, length-append old p.rest) in
    let front : take i new ≡ take i old = ap (take i) p.is ∙ take-append-le i old p.rest (omega arith) in
    let stands : get_or new i m ≡ m = ap (λ l. get_or l i m) p.is ∙ get_or_append_left old p.rest m i within ∙ at in
    subst (All (HasNext g new)) (sym (take_more new i m (omega arith) ∙ (λ j. front j ++ stands j ∷ [])))
    (All-push (HasNext g new) (take i old) m
    (All-weaker (HasNext g old) (HasNext g new) (λ n h k is. still_has old new p (followed_by n k) (h k is)) (take i old) all) here)

pub all_found : (g : Listing) (list : List Motion) → AreFound g list → (i : ℕ) → length list ≤ i → All (HasNext g list) (take i list) → IsMatrixClosed g list
all_found g list F i full all = record {
  first = F.first;
  inside = F.inside;
  matrices = F.matrices;
  once = F.once;
  closed = λ m k is listed. All-contains (HasNext g list) list m (subst (All (HasNext g list)) (take_all i list full) all) is k listed;
}

-- ---- the code's lists

pub identity_alone : (before list : List Motion3) (m : Motion3) → before ≡ [] → list ≡ before ++ m ∷ [] → motion_of m ≡ identity → map motion_of list ≡ identity ∷ []
identity_alone before list m none pushed e = ap (map motion_of) (pushed ∙ ap (λ (l : List Motion3). l ++ m ∷ []) none) ∙ ap (λ k. k ∷ []) e

pub one_small : (list : List Motion) → list ≡ identity ∷ [] → All HasSmallEntries list
one_small list e = subst (All HasSmallEntries) (sym e) (All-cons HasSmallEntries identity [] small (All-nil HasSmallEntries))
  where
    entry : (b n : ℕ) → n ≤ b → IsWithin b (pos n)
    entry b n l = record { most = l }

    row : (b : ℕ) (x y z : ℕ) → x ≤ b → y ≤ b → z ≤ b → IsVectorWithin b (record { x = pos x; y = pos y; z = pos z })
    row b x y z p q r = record { x = entry b x p; y = entry b y q; z = entry b z r }

    unit : (b : ℕ) → 1 ≤ b → IsMatrixWithin b identity.matrix
    unit b l = record { first = row b 1 0 0 l (omega arith) (omega arith); second = row b 0 1 0 (omega arith) l (omega arith); third = row b 0 0 1 (omega arith) (omega arith) l }

    small : HasSmallEntries identity
    small = record { small = record { matrix = unit 500 (lit≤ tt); translation = row (2 ^ 40) 0 0 0 (lit≤ tt) (lit≤ tt) (lit≤ tt) }; matrix = unit 50 (lit≤ tt) }

-- the motion at an index
pub item_at : (items : List Motion3) (i : ℕ) (m : Motion3) → i < length items → m ≡ get_or items i m → get_or (map motion_of items) i (motion_of m) ≡ motion_of m
item_at items i m within e = get_or-map motion_of items i m (motion_of m) within ∙ ap motion_of (sym e)

pub closed_found : (g : Listing) (list : List Motion) → IsMatrixClosed g list → AreFound g list
closed_found g list C = record { first = C.first; inside = C.inside; matrices = C.matrices; once = C.once }
