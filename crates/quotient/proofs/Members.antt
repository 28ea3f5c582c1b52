-- The members of a group modulo shifts, which are the motions that are the same as a listed one, are a group.
use Rattle.std.proofs.Common.{◌≡◌, List, ap, subst, sym, ◌∙◌}
use Rattle.quotient.specs.Kind.{AreShiftsGroup, IsInverse, IsMonoid, IsSame, Keeps, Kind}
use Rattle.quotient.specs.Lists.{IsListed}
use Rattle.quotient.specs.Groups.{IsGroup}
use Rattle.quotient.proofs.Sameness.{keeps_same, same_products, same_reflexive, same_transitive}

module _ (K : Kind) (monoid : IsMonoid K.then K.one) (shifts : AreShiftsGroup K) where
  one_shift : (m : K.Motion) → (e : IsSame K m K.one) → m ≡ e.shift
  one_shift m e = e.is ∙ monoid.one_left e.shift

  -- an inverse on the right is one on the left, where there is one on the left
  both_sides : (l m n : K.Motion) → K.then l m ≡ K.one → K.then m n ≡ K.one → IsInverse K m n
  both_sides l m n left right =
      let same : l ≡ n = sym (monoid.one_right l) ∙ ap (K.then l) (sym right) ∙ sym (monoid.assoc l m n) ∙ ap (λ x. K.then x n) left ∙ monoid.one_left n in
      record { after = right; before = ap (λ x. K.then x m) (sym same) ∙ left }

  module _ (list : List K.Motion) (G : IsGroup K list) where
    member_same : (m n : K.Motion) → IsSame K m n → IsListed K list n → IsListed K list m
    member_same m n e h = record { of = h.of; listed = h.listed; same = same_transitive K monoid shifts m n h.of e h.same }

    member_keeps : (m : K.Motion) → IsListed K list m → Keeps K m
    member_keeps m h = keeps_same K monoid shifts m h.of h.same (G.keeps h.of h.listed)

    pub member_products : (m n : K.Motion) → IsListed K list m → IsListed K list n → IsListed K list (K.then m n)
    member_products m n h k =
        member_same (K.then m n) (K.then h.of k.of) (same_products K monoid shifts m h.of n k.of (member_keeps n k) h.same k.same)
        (G.closed h.of k.of h.listed k.listed)

    pub member_shifts : (s : K.Motion) → K.IsShift s → IsListed K list s
    member_shifts s h = member_same s K.one (record { shift = s; is_shift = h; is = sym (monoid.one_left s) }) G.identity

    -- p undoes m modulo shifts: m p is a shift r and p m is a shift s, so p r⁻¹ is an inverse
    pub member_inverses : (m : K.Motion) → IsListed K list m → (n : K.Motion) × IsListed K list n × IsInverse K m n
    member_inverses m h =
        let v = G.inverses h.of h.listed in
        let p = v.inverse in
        let p_same = same_reflexive K monoid shifts p in
        let after = same_transitive K monoid shifts (K.then m p) (K.then h.of p) K.one (same_products K monoid shifts m h.of p p (G.keeps p v.listed) h.same p_same) v.undoes.after in
        let before = same_transitive K monoid shifts (K.then p m) (K.then p h.of) K.one (same_products K monoid shifts p p m h.of (member_keeps m h) p_same h.same) v.undoes.before in
        let (r, r_is, r_undoes) = shifts.inverses after.shift after.is_shift in
        let (s, s_is, s_undoes) = shifts.inverses before.shift before.is_shift in
        let right : K.then m (K.then p r) ≡ K.one = sym (monoid.assoc m p r) ∙ ap (λ x. K.then x r) (one_shift (K.then m p) after) ∙ r_undoes.after in
        let left : K.then (K.then s p) m ≡ K.one = monoid.assoc s p m ∙ ap (K.then s) (one_shift (K.then p m) before) ∙ s_undoes.before in
        let listed : IsListed K list (K.then p r) = record { of = p; listed = v.listed; same = record { shift = r; is_shift = r_is; is = λ _. K.then p r } } in
        (K.then p r, listed, both_sides (K.then s p) m (K.then p r) left right)

    -- any inverse is that one
    pub member_inverse : (m n : K.Motion) → IsListed K list m → IsInverse K m n → IsListed K list n
    member_inverse m n h i =
        let (k, listed, undoes) = member_inverses m h in
        let same : k ≡ n = sym (monoid.one_right k) ∙ ap (K.then k) (sym i.after) ∙ sym (monoid.assoc k m n) ∙ ap (λ x. K.then x n) undoes.before ∙ monoid.one_left n in
        subst (IsListed K list) same listed
