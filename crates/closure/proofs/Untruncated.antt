-- A group that is known to be one has its members' products and inverses among its listed operations: they are searched.
use Rattle.std.proofs.Common.{◌≡◌, ◌↔◌, Bool, true, ◌&&◌, IsTrue, List}
use Rattle.std.specs.Prelude.{Contains}
use Rattle.std.specs.List.{list_any}
use Rattle.std.proofs.Math.Bool.{Bool-set}
use Rattle.std.proofs.Math.Logic.{∥∥₁_elim, ∥∥₁_map}
use Rattle.std.proofs.lemmas.Bool.Decides.{Decides-and}
use Rattle.std.proofs.lemmas.List.Folds.{Any-from_list_any, list_any-from_Any}
use Rattle.symmetry.specs.Vectors.{Vector, image, minus}
use Rattle.symmetry.specs.Motions.{Motion, followed_by, identity}
use Rattle.symmetry.specs.Groups.{Listing, IsInLattice, SameModulo, IsGroup, IsListedGroup}
use Rattle.symmetry.proofs.GroupLaws.{group_by_listed}
use Rattle.motions.specs.Equality.{same_matrix}
use Rattle.motions.specs.Laws.MotionLaws.{same_matrix-is}
use Rattle.closure.specs.declared.lattice.Lattice.{Lattice}
use Rattle.closure.specs.Residues.{has_residue}
use Rattle.closure.specs.Laws.ResidueLaws.{has_residue-is}
use Rattle.closure.specs.Lattices.{residues_of, IsLatticeOf}

-- a motion of the list that passes a test, where there is known to be one
found : {A : Type 0} (P : A → Type 0) (test : A → Bool) → ((x : A) → IsTrue (test x) ↔ P x) → (xs : List A)
    → ∥ ((x : A) × Contains xs x × P x) ∥₁ → (x : A) × Contains xs x × P x
found P test is xs known =
    let t : list_any test xs ≡ true = ∥∥₁_elim known (Bool-set _ _)
    (λ (x, (k, within, at), p). list_any-from_Any test xs (k, x, within, at, (is x).1 p)) in
    let (k, x, within, at, p) = Any-from_list_any test xs t in
    (x, (k, within, at), (is x).0 p)

module _ (g : Listing) (lattice : Lattice) (h : IsLatticeOf g lattice) where
  in_test : Vector → Bool
  in_test v = has_residue (residues_of lattice) v

  in_test-is : (v : Vector) → IsTrue (in_test v) ↔ IsInLattice g v
  unfolding in_test
  in_test-is v = (λ t. (h v).0 ((has_residue-is (residues_of lattice) v).0 t), λ is. (has_residue-is (residues_of lattice) v).1 ((h v).1 is))

  same_test : Motion → Motion → Bool
  same_test m n = same_matrix m.matrix n.matrix && in_test (minus m.translation n.translation)

  same_test-is : (m n : Motion) → IsTrue (same_test m n) ↔ SameModulo g m n
  unfolding same_test
  same_test-is m n =
      let d = Decides-and (same_matrix m.matrix n.matrix) (in_test (minus m.translation n.translation)) (same_matrix-is m.matrix n.matrix) (in_test-is (minus m.translation n.translation)) in
      (λ t. let p = d.0 t in record { matrix = p.0; translation = p.1 }, λ s. d.1 (s.matrix, s.translation))

  inverse_test-is : (m n : Motion) → IsTrue (same_test (followed_by m n) identity && same_test (followed_by n m) identity)
      ↔ (SameModulo g (followed_by m n) identity × SameModulo g (followed_by n m) identity)
  inverse_test-is m n =
      Decides-and (same_test (followed_by m n) identity) (same_test (followed_by n m) identity) (same_test-is (followed_by m n) identity) (same_test-is (followed_by n m) identity)

  listed_group : ∥ IsListedGroup g ∥₁ → IsListedGroup g
  listed_group known = record {
    has_identity = found (λ n. SameModulo g n identity) (λ n. same_test n identity) (λ n. same_test-is n identity) g.ops
        (∥∥₁_map known (λ k. k.has_identity));
    keeps_lattice = λ m is v made. (in_test-is (image m.matrix v)).0
        (∥∥₁_elim known (Bool-set _ _) (λ k. (in_test-is (image m.matrix v)).1 (k.keeps_lattice m is v made)));
    products = λ m n p q. found (λ k. SameModulo g (followed_by m n) k) (λ k. same_test (followed_by m n) k) (λ k. same_test-is (followed_by m n) k) g.ops
        (∥∥₁_map known (λ k. k.products m n p q));
    inverses = λ m is.
        let (n, at, (a, b)) =
        found (λ n. SameModulo g (followed_by m n) identity × SameModulo g (followed_by n m) identity)
        (λ n. same_test (followed_by m n) identity && same_test (followed_by n m) identity) (inverse_test-is m) g.ops
        (∥∥₁_map known (λ k. let i = k.inverses m is in (i.0, i.1, (i.2, i.3)))) in
        (n, at, a, b);
  }

  pub group_is_known : ∥ IsGroup g ∥₁ → IsGroup g
  group_is_known known = (group_by_listed g).0 (listed_group (∥∥₁_map known (group_by_listed g).1))
