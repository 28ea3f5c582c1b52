-- A set has one list, and a list of members at home lists the set modulo the plane lattice.
use Rattle.std.proofs.Common.{◌≡◌, ◌↔◌, ℕ, zero, suc, ◌<◌, ◌≤◌, sym, ◌∙◌, ap, subst, arith, List, length}
use native.Mathlib.Decide.{dec_lt}
use Rattle.std.proofs.lemmas.List.{ext_get_or}
use Rattle.symmetry.specs.Vectors.{Vector}
use Rattle.symmetry.specs.Motions.{Motion, identity}
use Rattle.symmetry.specs.Groups.{Listing}
use Rattle.symmetry.specs.Frames.{DiffersInPlane}
use Rattle.symmetry.specs.Lists.{motion_at, ExactlyOne, IsFirstPlace, ComesBefore, IsListOf, ListsInPlane, HasOneAtHome}

-- ---- the order of the listed operations

-- a property has one first place
first_place_agrees : (ms : List Motion) (P : Motion → Type 0) (p q : ℕ) → IsFirstPlace ms P p → IsFirstPlace ms P q → p ≡ q
first_place_agrees ms P p q f f' =
    elim (dec_lt p q) [
      | yes h ↦ absurd (f'.none_before p h f.has)
      | no h ↦ elim (dec_lt q p) [ yes h' ↦ absurd (f.none_before q h' f'.has) | no h' ↦ omega arith ]
    ]

-- so of two motions one at most comes before the other
pub comes_before_asym : (Same : Motion → Motion → Type 0) (ops : List Motion) (m n : Motion)
    → ComesBefore Same ops m n → ComesBefore Same ops n m → ⊥
comes_before_asym Same ops m n b b' =
    let of_m : b.p ≡ b'.q = first_place_agrees ops (Same m) b.p b'.q b.first_of_m b'.first_of_n in
    let of_n : b.q ≡ b'.p = first_place_agrees ops (Same n) b.q b'.p b.first_of_n b'.first_of_m in
    absurd (omega (arith, b.before, b'.before))

-- ---- one set, one list

module _ (Same : Motion → Motion → Type 0) (ops : List Motion) (IsHome S : Motion → Type 0) where
  -- a motion stands in one list of the set no later than in the other
  no_later : (ms ns : List Motion) → IsListOf Same ops IsHome S ms → IsListOf Same ops IsHome S ns
      → (k p : ℕ) → k < length ms → p < length ns → motion_at ms k ≡ motion_at ns p → k ≤ p
  no_later ms ns of_ms of_ns zero p h h' e = omega arith
  no_later ms ns of_ms of_ns (suc k) p h h' e = omega (arith, no_later ms ns of_ms of_ns k q before one.within one.has, later)
    where
      before : k < length ms
      before = omega arith

      one : ExactlyOne ns (λ n. motion_at ms k ≡ n)
      one = let is = of_ms.listed k before in of_ns.once (motion_at ms k) is.0 is.1

      q : ℕ
      q = one.place

      order : ComesBefore Same ops (motion_at ms k) (motion_at ms (suc k))
      order = of_ms.ordered k (suc k) (omega arith) h

      not_same : ¬ (q ≡ p)
      not_same same =
          let twice = subst (ComesBefore Same ops (motion_at ms k)) (e ∙ ap (motion_at ns) (sym same) ∙ sym one.has) order in
          comes_before_asym Same ops (motion_at ms k) (motion_at ms k) twice twice

      not_after : ¬ (p < q)
      not_after h'' =
          comes_before_asym Same ops (motion_at ms k) (motion_at ms (suc k)) order
          (subst (λ m. ComesBefore Same ops m (motion_at ms k)) (sym e)
          (subst (ComesBefore Same ops (motion_at ns p)) (sym one.has) (of_ns.ordered p q h'' one.within)))

      later : q < p
      later = omega (arith, not_same, not_after)

  same_place : (ms ns : List Motion) → IsListOf Same ops IsHome S ms → IsListOf Same ops IsHome S ns
      → (k : ℕ) → k < length ms → (k < length ns) × (motion_at ms k ≡ motion_at ns k)
  same_place ms ns of_ms of_ns k h =
      let is = of_ms.listed k h in
      let one = of_ns.once (motion_at ms k) is.0 is.1 in
      let here : one.place ≡ k =
      omega (arith, no_later ms ns of_ms of_ns k one.place h one.within one.has, no_later ns ms of_ns of_ms one.place k one.within h (sym one.has)) in
      subst (λ j. (j < length ns) × (motion_at ms k ≡ motion_at ns j)) here (one.within, one.has)

  no_longer : (ms ns : List Motion) → IsListOf Same ops IsHome S ms → IsListOf Same ops IsHome S ns → length ms ≤ length ns
  no_longer ms ns of_ms of_ns =
      elim (dec_lt (length ns) (length ms)) [
        | yes h ↦ absurd (omega (arith, (same_place ms ns of_ms of_ns (length ns) h).0))
        | no h ↦ omega arith
      ]

  pub lists_agree : (ms ns : List Motion) → IsListOf Same ops IsHome S ms → IsListOf Same ops IsHome S ns → ms ≡ ns
  lists_agree ms ns of_ms of_ns =
      ext_get_or identity ms ns
      (omega (arith, no_longer ms ns of_ms of_ns, no_longer ns ms of_ns of_ms))
      (λ k h. (same_place ms ns of_ms of_ns k h).1)

-- sets with the same members have the same lists
pub list_of_same_set : (Same : Motion → Motion → Type 0) (ops : List Motion) (IsHome S S' : Motion → Type 0) (ms : List Motion)
    → ((m : Motion) → S m ↔ S' m) → IsListOf Same ops IsHome S ms ↔ IsListOf Same ops IsHome S' ms
list_of_same_set Same ops IsHome S S' ms same = (one_way S S' same, one_way S' S (λ m. ((same m).1, (same m).0)))
  where
    one_way : (S S' : Motion → Type 0) → ((m : Motion) → S m ↔ S' m) → IsListOf Same ops IsHome S ms → IsListOf Same ops IsHome S' ms
    one_way S S' same of_ms = record {
      listed = λ k h. let is = of_ms.listed k h in ((same (motion_at ms k)).0 is.0, is.1);
      once = λ m in_it home. of_ms.once m ((same m).1 in_it) home;
      ordered = of_ms.ordered;
    }

-- ---- modulo the plane lattice

-- where each member differs in the plane lattice from exactly one member at home, the list lists the set modulo it
pub lists_in_plane : (Same : Motion → Motion → Type 0) (ops : List Motion) (IsHome S : Motion → Type 0) (ms : List Motion)
    (g : Listing) (r : Vector)
    → ((m : Motion) → S m → HasOneAtHome g r IsHome S m)
    → IsListOf Same ops IsHome S ms → ListsInPlane g r S ms
lists_in_plane Same ops IsHome S ms g r at_home of_ms = record {
  listed = λ k h. (of_ms.listed k h).0;
  once = λ m in_it.
      let home = at_home m in_it in
      let one = of_ms.once home.companion home.in_set home.is_home in record {
        place = one.place;
        within = one.within;
        has = subst (DiffersInPlane g r m) one.has home.differs;
        only = λ k h differs. let is = of_ms.listed k h in one.only k h (home.only (motion_at ms k) is.0 is.1 differs);
      };
}
