-- Tests of matrices, and lists of motions that are searched for a matrix.
use Rattle.std.proofs.Common.{◌≡◌, ◌↔◌, Bool, false, IsTrue, refl, sym, ap, subst, ◌∙◌, List, map}
use Rattle.std.specs.Prelude.{All, Contains, MatchOption, None, Option, Some}
use Rattle.std.proofs.lemmas.Bool.{true≢false}
use Rattle.std.proofs.lemmas.List.Elements.{All-contains, All-map}
use Rattle.symmetry.specs.Vectors.{Matrix, origin}
use Rattle.symmetry.specs.Motions.{Motion}
use Rattle.symmetry.proofs.MotionLaws.{motion_path}
use Rattle.quotient.proofs.ListLaws.{Contains-map}
use Rattle.motions.specs.declared.motion.Motion3.{Motion3}
use Rattle.motions.specs.Views.{motion_of}
use Rattle.motions.specs.Equality.{same_motion}
use Rattle.motions.specs.Laws.MotionLaws.{same_motion-is}
use Rattle.closure.specs.ClosedLists.{HasMatrixOf}

pub same_matrix_test : (a b : Motion) (v w : Matrix) → a ≡ record { matrix = v; translation = origin } → b ≡ record { matrix = w; translation = origin }
    → (r : Bool) → r ≡ same_motion a b → IsTrue r ↔ (v ≡ w)
same_matrix_test a b v w p q r e = (
  λ t. ap (λ (m : Motion). m.matrix) (sym p ∙ (same_motion-is a b).0 (sym e ∙ t) ∙ q),
  λ f. e ∙ (same_motion-is a b).1 (p ∙ motion_path f refl ∙ sym q),
)

-- no motion of the list has the matrix
pub none_has : (list : List Motion) (m : Motion) → All (λ n. ¬ (n.matrix ≡ m.matrix)) list → ¬ HasMatrixOf list m
none_has list m none (n, stands, e) = All-contains (λ n. ¬ (n.matrix ≡ m.matrix)) list n none stands e

-- what a search of the list as it is kept tells of the motions of the list
pub found_by_matrix : (list : List Motion3) (m : Motion) (o : Option Motion3)
    → MatchOption o (All (λ n. ¬ ((motion_of n).matrix ≡ m.matrix)) list) (λ n. Contains list n × ((motion_of n).matrix ≡ m.matrix))
    → MatchOption o (¬ HasMatrixOf (map motion_of list) m) (λ n. Contains (map motion_of list) (motion_of n) × ((motion_of n).matrix ≡ m.matrix))
found_by_matrix list m None none = none_has (map motion_of list) m (All-map (λ (n : Motion). ¬ (n.matrix ≡ m.matrix)) motion_of list none)
found_by_matrix list m (Some n) (listed, is) = (Contains-map motion_of list n listed, is)

-- what a test of the list as it is read tells of the list
pub not_has : (now list : List Motion3) → now ≡ list → (m : Motion) (r : Bool) → IsTrue r ↔ HasMatrixOf (map motion_of now) m → r ≡ false → ¬ HasMatrixOf (map motion_of list) m
not_has now list e m r test f h = true≢false (sym (test.1 (subst (λ (l : List Motion3). HasMatrixOf (map motion_of l) m) (sym e) h)) ∙ f)
