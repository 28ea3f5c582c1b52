-- Motions that are the same as operations, place by place.
use Rattle.std.proofs.Common.{◌≡◌, ℕ, ◌+◌, ◌<◌, ◌≤◌, List, [], ◌∷◌, ◌++◌, length, take, map, get_or, None, Some, Option, sym, ap, ◌∙◌, subst, arith}
use Rattle.std.specs.Prelude.{All, Contains}
use Rattle.std.specs.List.{AllZip}
use Rattle.std.proofs.lemmas.List.{map-append, take_all, take_more}
use Rattle.std.proofs.lemmas.List.Elements.{AllZip-push, AllZip-get_or, length_all_zip, at_from_Contains, All-from_get_or, Contains-get_or}
use Rattle.symmetry.specs.Motions.{Motion, identity}
use Rattle.symmetry.specs.Groups.{Listing, IsMember, SameModulo}
use Rattle.symmetry.specs.Lists.{AreChosen, no_more, passed, taken, IsChoice}
use Rattle.symmetry.proofs.LatticeLaws.{listed_member, same_member, same_trans, same_sym}
use Rattle.motions.specs.declared.motion.Motion3.{Motion3}
use Rattle.motions.specs.Views.{motion_of}
use Rattle.scanning.specs.Members.{AreSameMotions}

-- one operation more
pub same_more : (g : Listing) (ops homes more : List Motion3) (i : ℕ) (d n : Motion3) → i < length ops → more ≡ homes ++ n ∷ []
    → AreSameMotions g (map motion_of (take i ops)) (map motion_of homes) → SameModulo g (motion_of n) (motion_of (get_or ops i d))
    → AreSameMotions g (map motion_of (take (i + 1) ops)) (map motion_of more)
same_more g ops homes more i d n h is same one =
    let R : Motion → Motion → Type 0 = λ m n. SameModulo g n m in
    subst (λ ns. AllZip R (map motion_of (take (i + 1) ops)) ns) (sym (ap (map motion_of) is ∙ map-append motion_of homes (n ∷ [])))
    (subst (λ ms. AllZip R ms (map motion_of homes ++ motion_of n ∷ [])) (sym (ap (map motion_of) (take_more ops i d h) ∙ map-append motion_of (take i ops) (get_or ops i d ∷ [])))
    (AllZip-push R (map motion_of (take i ops)) (map motion_of homes) (motion_of (get_or ops i d)) (motion_of n) same one))

pub same_all : (g : Listing) (ops homes : List Motion3) (i : ℕ) (all : List Motion) → length ops ≤ i → map motion_of ops ≡ all
    → AreSameMotions g (map motion_of (take i ops)) (map motion_of homes) → AreSameMotions g all (map motion_of homes)
same_all g ops homes i all past are same =
    subst (λ ms. AreSameMotions g ms (map motion_of homes)) (ap (map motion_of) (take_all i ops past) ∙ are) same

-- each is a member
pub same_members : (g : Listing) (ms : List Motion) → AreSameMotions g g.ops ms → All (IsMember g) ms
same_members g ms same =
    All-from_get_or (IsMember g) ms identity
    (λ i h.
    let long : length g.ops ≡ length ms = length_all_zip (λ m n. SameModulo g n m) g.ops ms same in
    let within : i < length g.ops = omega arith in
    same_member g (get_or ms i identity) (get_or g.ops i identity)
    (AllZip-get_or (λ m n. SameModulo g n m) g.ops ms i identity identity same within)
    (listed_member g (get_or g.ops i identity) (Contains-get_or g.ops i identity within)))

-- and each operation is the same as one of them
pub same_listed : (g : Listing) (ms : List Motion) → AreSameMotions g g.ops ms → (m : Motion) → Contains g.ops m
    → (n : Motion) × Contains ms n × SameModulo g n m
same_listed g ms same m listed =
    let (i, within, at) = at_from_Contains g.ops m listed in
    let long : length g.ops ≡ length ms = length_all_zip (λ m n. SameModulo g n m) g.ops ms same in (
      get_or ms i identity,
      Contains-get_or ms i identity (omega arith),
      subst (SameModulo g (get_or ms i identity)) (at identity)
          (AllZip-get_or (λ m n. SameModulo g n m) g.ops ms i identity identity same within),
    )

-- ---- what is chosen of them is chosen of the operations

module _ (g : Listing) (IsHome S : Motion → Type 0) where
  choice_same : (m n : Motion) (o : Option Motion) → SameModulo g n m → IsChoice (SameModulo g) IsHome S n o → IsChoice (SameModulo g) IsHome S m o
  choice_same m n None same none = λ k member home is. none k member home (same_trans g k m n is (same_sym g n m same))
  choice_same m n (Some c) same one =
      (one.0, one.1, same_trans g c n m one.2 same, λ k member home is. one.3 k member home (same_trans g k m n is (same_sym g n m same)))

  pub chosen_same : (ops ms out : List Motion) → AreSameMotions g ops ms → AreChosen (SameModulo g) IsHome S ms out → AreChosen (SameModulo g) IsHome S ops out
  chosen_same [] _ _ same no_more = no_more
  chosen_same [] _ _ same (passed n ms out none more) = absurd same
  chosen_same [] _ _ same (taken n k ms out one more) = absurd same
  chosen_same (m ∷ ops) _ _ same no_more = absurd same
  chosen_same (m ∷ ops) _ _ same (passed n ms out none more) = passed m ops out (choice_same m n None same.0 none) (chosen_same ops ms out same.1 more)
  chosen_same (m ∷ ops) _ _ same (taken n k ms out one more) = taken m k ops out (choice_same m n (Some k) same.0 one) (chosen_same ops ms out same.1 more)
