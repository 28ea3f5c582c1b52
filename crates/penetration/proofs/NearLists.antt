-- The near members of a group that map a line to itself, operation by operation.
use Rattle.std.proofs.Common.{◌≡◌, List, map, get_or, Option, None, Some, subst}
use Rattle.std.specs.Prelude.{All, Contains}
use Rattle.std.proofs.lemmas.List.{get_or_default}
use Rattle.symmetry.specs.Motions.{Motion, identity}
use Rattle.symmetry.specs.Groups.{Listing, IsMember, SameModulo}
use Rattle.symmetry.specs.Lists.{AreChosen, IsChoice, IsListOf}
use Rattle.symmetry.proofs.LatticeLaws.{listed_member, same_sym, same_trans}
use Rattle.symmetry.proofs.ListFacts.{chosen_is_list}
use Rattle.motions.specs.Views.{motion_of}
use Rattle.motions.specs.declared.motion.Motion3.{Motion3}
use Rattle.closure.specs.Operations.{AreApart}
use Rattle.scanning.proofs.ChosenLists.{covered}

-- what is chosen of a motion is chosen of another that is the same
pub choice_same : (g : Listing) (IsHome S : Motion → Type 0) (m n : Motion) → SameModulo g m n → (r : Option Motion)
    → IsChoice (SameModulo g) IsHome S m r → IsChoice (SameModulo g) IsHome S n r
choice_same g IsHome S m n same None none = λ k in_k home_k same_k. none k in_k home_k (same_trans g k n m same_k (same_sym g m n same))
choice_same g IsHome S m n same (Some h) (in_h, home_h, same_h, only) = (
  in_h,
  home_h,
  same_trans g h m n same_h same,
  λ k in_k home_k same_k. only k in_k home_k (same_trans g k n m same_k (same_sym g m n same)),
)

-- each listed operation is a member
pub all_members : (g : Listing) (ops : List Motion) → ops ≡ g.ops → All (IsMember g) ops
all_members g ops is k d h =
    let x = get_or ops k d in
    listed_member g x (subst (λ xs. Contains xs x) is (k, h, get_or_default ops k x d h))

-- what is chosen of all operations of a group is the list
pub chosen_of_group : (g : Listing) (IsHome S : Motion → Type 0) → ((m : Motion) → S m → IsMember g m) → AreApart g → (ops members : List Motion3)
    → map motion_of ops ≡ g.ops → AreChosen (SameModulo g) IsHome S (map motion_of ops) (map motion_of members) → IsListOf (SameModulo g) g.ops IsHome S (map motion_of members)
chosen_of_group g IsHome S are apart ops members is chosen =
    chosen_is_list (SameModulo g) IsHome S g.ops (map motion_of members) (record { back = same_sym g; on = same_trans g })
    (λ p q before below. apart p q identity before below) (covered g apart S are)
    (subst (λ ms. AreChosen (SameModulo g) IsHome S ms (map motion_of members)) is chosen)
