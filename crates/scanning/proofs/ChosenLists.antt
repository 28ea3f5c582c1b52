-- What is chosen operation by operation, with one operation more, and the list that comes of it.
use Rattle.std.proofs.Common.{◌≡◌, ℕ, ◌+◌, ◌<◌, List, [], ◌∷◌, ◌++◌, length, take, map, get_or, Some, None, ◌↔◌, subst, sym, ap, ◌∙◌}
use Rattle.std.specs.Prelude.{All, AllPairs}
use Rattle.std.proofs.lemmas.List.{map-append, take_more}
use Rattle.std.proofs.lemmas.List.Elements.{All-push, at_from_Contains}
use Rattle.symmetry.specs.Vectors.{Vector}
use Rattle.symmetry.specs.Motions.{Motion, identity}
use Rattle.symmetry.specs.Groups.{Listing, IsMember, SameModulo}
use Rattle.symmetry.specs.Frames.{Basis}
use Rattle.symmetry.specs.Lists.{AreChosen, no_more, passed, taken, AreCovered, IsChoice, IsListOf}
use Rattle.symmetry.proofs.LatticeLaws.{same_sym, same_trans}
use Rattle.symmetry.proofs.ListFacts.{chosen_is_list}
use Rattle.symmetry.proofs.ListLaws.{list_of_same_set}
use Rattle.scanning.specs.Members.{AreSameMotions, IsHomeMotion}
use Rattle.scanning.proofs.SameMotions.{chosen_same}
use Rattle.motions.specs.declared.motion.Motion3.{Motion3}
use Rattle.motions.specs.Views.{motion_of}

module _ (Same : Motion → Motion → Type 0) (IsHome S : Motion → Type 0) where
  chosen_passed : (m : Motion) (ms out : List Motion) → AreChosen Same IsHome S ms out → IsChoice Same IsHome S m None → AreChosen Same IsHome S (ms ++ m ∷ []) out
  chosen_passed m _ _ no_more none = passed m [] [] none no_more
  chosen_passed m _ _ (passed k ms out not more) none = passed k (ms ++ m ∷ []) out not (chosen_passed m ms out more none)
  chosen_passed m _ _ (taken k n ms out one more) none = taken k n (ms ++ m ∷ []) out one (chosen_passed m ms out more none)

  chosen_taken : (m n : Motion) (ms out : List Motion) → AreChosen Same IsHome S ms out → IsChoice Same IsHome S m (Some n)
      → AreChosen Same IsHome S (ms ++ m ∷ []) (out ++ n ∷ [])
  chosen_taken m n _ _ no_more one = taken m n [] [] one no_more
  chosen_taken m n _ _ (passed k ms out not more) one = passed k (ms ++ m ∷ []) (out ++ n ∷ []) not (chosen_taken m n ms out more one)
  chosen_taken m n _ _ (taken k j ms out also more) one = taken k j (ms ++ m ∷ []) (out ++ n ∷ []) also (chosen_taken m n ms out more one)

  -- ---- the same for the code's motions

  abbrev pub ChosenFrom : List Motion3 → List Motion3 → Type 0
  ChosenFrom ops members = AreChosen Same IsHome S (map motion_of ops) (map motion_of members)

  one_more : (ops : List Motion3) (i : ℕ) (d : Motion3) → i < length ops → map motion_of (take i ops) ++ motion_of (get_or ops i d) ∷ [] ≡ map motion_of (take (i + 1) ops)
  one_more ops i d h = sym (ap (map motion_of) (take_more ops i d h) ∙ map-append motion_of (take i ops) (get_or ops i d ∷ []))

  pub none_yet : (members : List Motion3) → members ≡ [] → ChosenFrom [] members
  none_yet members is = subst (ChosenFrom []) (sym is) no_more

  pub passed_more : (ops : List Motion3) (i : ℕ) (d : Motion3) (members more : List Motion3) → more ≡ members → i < length ops
      → ChosenFrom (take i ops) members → IsChoice Same IsHome S (motion_of (get_or ops i d)) None → ChosenFrom (take (i + 1) ops) more
  passed_more ops i d members more is h chosen none =
      subst (ChosenFrom (take (i + 1) ops)) (sym is)
      (subst (λ ms. AreChosen Same IsHome S ms (map motion_of members)) (one_more ops i d h)
      (chosen_passed (motion_of (get_or ops i d)) (map motion_of (take i ops)) (map motion_of members) chosen none))

  pub taken_more : (ops : List Motion3) (i : ℕ) (d : Motion3) (members more : List Motion3) (n : Motion3) → more ≡ members ++ n ∷ [] → i < length ops
      → ChosenFrom (take i ops) members → IsChoice Same IsHome S (motion_of (get_or ops i d)) (Some (motion_of n)) → ChosenFrom (take (i + 1) ops) more
  taken_more ops i d members more n is h chosen one =
      subst (AreChosen Same IsHome S (map motion_of (take (i + 1) ops))) (sym (ap (map motion_of) is ∙ map-append motion_of members (n ∷ [])))
      (subst (λ ms. AreChosen Same IsHome S ms (map motion_of members ++ motion_of n ∷ [])) (one_more ops i d h)
      (chosen_taken (motion_of (get_or ops i d)) (motion_of n) (map motion_of (take i ops)) (map motion_of members) chosen one))

-- ---- the list

module _ (g : Listing) (apart : AllPairs (λ m n. ¬ SameModulo g m n) g.ops) where
  pub covered : (S : Motion → Type 0) → ((m : Motion) → S m → IsMember g m) → AreCovered (SameModulo g) g.ops S
  covered S members n in_it =
      let member = members n in_it in
      let (k, below, at) = at_from_Contains g.ops member.of member.listed in
      (k, below, subst (SameModulo g n) (sym (at identity)) member.same)

  pub chosen_lists : (IsHome S S' : Motion → Type 0) → ((m : Motion) → S m → IsMember g m) → ((m : Motion) → S m ↔ S' m)
      → (ms out : List Motion) → AreSameMotions g g.ops ms → AreChosen (SameModulo g) IsHome S ms out
      → IsListOf (SameModulo g) g.ops IsHome S' out
  chosen_lists IsHome S S' members same_set ms out same chosen =
      (list_of_same_set (SameModulo g) g.ops IsHome S S' out same_set).0
      (chosen_is_list (SameModulo g) IsHome S g.ops out (record { back = same_sym g; on = same_trans g })
      (λ p q before below. apart p q identity before below) (covered S members) (chosen_same g IsHome S g.ops ms out same chosen))

-- ---- the operations of the code

pub homes_more : (r : Vector) (f : Basis) (ms : List Motion3) (m : Motion3) (more : List Motion3) → more ≡ ms ++ m ∷ []
    → All (λ (n : Motion3). IsHomeMotion r f (motion_of n)) ms → IsHomeMotion r f (motion_of m) → All (λ (n : Motion3). IsHomeMotion r f (motion_of n)) more
homes_more r f ms m more is all one =
    let P : Motion3 → Type 0 = λ n. IsHomeMotion r f (motion_of n) in
    subst (All P) (sym is) (All-push P ms m all one)
