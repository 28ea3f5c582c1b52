-- A part of a list that has, of each motion of the list, one that is the same: the one list is a group where the other is.
use Rattle.std.proofs.Common.{◌↔◌, List, Contains}
use Rattle.quotient.specs.Kind.{AreShiftsGroup, IsMonoid, IsSame, Keeps, Kind}
use Rattle.quotient.specs.Lists.{AreFirst, IsListed}
use Rattle.quotient.specs.Groups.{AreInverse, IsGroup}
use Rattle.quotient.proofs.Firsts.{Contains-from_firsts, firsts_cover}
use Rattle.quotient.proofs.Sameness.{keeps_same, same_is_equivalence, same_products, same_reflexive, same_symmetric, same_transitive}

module _ (K : Kind) (monoid : IsMonoid K.then K.one) (shifts : AreShiftsGroup K) where
  inverse_same : (m m' n n' : K.Motion) → Keeps K m → Keeps K n → IsSame K m m' → IsSame K n n' → AreInverse K m' n' → AreInverse K m n
  inverse_same m m' n n' keeps_m keeps_n e f h = record {
    after = same_transitive K monoid shifts (K.then m n) (K.then m' n') K.one (same_products K monoid shifts m m' n n' keeps_n e f) h.after;
    before = same_transitive K monoid shifts (K.then n m) (K.then n' m') K.one (same_products K monoid shifts n n' m m' keeps_m f e) h.before;
  }

  module _ (list part : List K.Motion) (inside : (m : K.Motion) → Contains part m → Contains list m) (covers : (m : K.Motion) → Contains list m → IsListed K part m) where
    listed_in_list : (m : K.Motion) → IsListed K part m → IsListed K list m
    listed_in_list m h = record { of = h.of; listed = inside h.of h.listed; same = h.same }

    listed_in_part : (m : K.Motion) → IsListed K list m → IsListed K part m
    listed_in_part m h =
        let c = covers h.of h.listed in
        record { of = c.of; listed = c.listed; same = same_transitive K monoid shifts m h.of c.of h.same c.same }

    listed_in_both : (m : K.Motion) → IsListed K list m ↔ IsListed K part m
    listed_in_both m = (listed_in_part m, listed_in_list m)

    group_of_list : IsGroup K list → IsGroup K part
    group_of_list G = record {
      identity = listed_in_part K.one G.identity;
      keeps = λ m h. G.keeps m (inside m h);
      closed = λ m n h k. listed_in_part (K.then m n) (G.closed m n (inside m h) (inside n k));
      inverses = λ m h.
          let v = G.inverses m (inside m h) in
          let c = covers v.inverse v.listed in
          record {
            inverse = c.of;
            listed = c.listed;
            undoes =
                inverse_same m m c.of v.inverse (G.keeps m (inside m h)) (G.keeps c.of (inside c.of c.listed)) (same_reflexive K monoid shifts m)
                (same_symmetric K monoid shifts v.inverse c.of c.same) v.undoes;
          };
    }

    group_of_part : IsGroup K part → IsGroup K list
    group_of_part G =
        let keeps : (m : K.Motion) → Contains list m → Keeps K m =
        λ m h.
        let c = covers m h in
        keeps_same K monoid shifts m c.of c.same (G.keeps c.of c.listed) in
        record {
          identity = listed_in_list K.one G.identity;
          keeps = keeps;
          closed = λ m n h k.
              let c = covers m h in
              let d = covers n k in
              let p = G.closed c.of d.of c.listed d.listed in
              record {
                of = p.of;
                listed = inside p.of p.listed;
                same = same_transitive K monoid shifts (K.then m n) (K.then c.of d.of) p.of (same_products K monoid shifts m c.of n d.of (keeps n k) c.same d.same) p.same;
              };
          inverses = λ m h.
              let c = covers m h in
              let v = G.inverses c.of c.listed in
              record {
                inverse = v.inverse;
                listed = inside v.inverse v.listed;
                undoes = inverse_same m c.of v.inverse v.inverse (keeps m h) (G.keeps v.inverse v.listed) c.same (same_reflexive K monoid shifts v.inverse) v.undoes;
              };
        }

    group_of_both : IsGroup K list ↔ IsGroup K part
    group_of_both = (group_of_list, group_of_part)

  -- such a part are the first motions of the list
  module _ (list firsts : List K.Motion) (are : AreFirst (IsSame K) list firsts) where
    covered : (m : K.Motion) → Contains list m → IsListed K firsts m
    covered m h =
        let (k, n, within, is, same) = firsts_cover (same_is_equivalence K monoid shifts) list firsts are m h in
        record { of = n; listed = (k, within, is); same = same }

    pub firsts_are_listed : (m : K.Motion) → IsListed K list m ↔ IsListed K firsts m
    firsts_are_listed = listed_in_both list firsts (Contains-from_firsts list firsts are) covered

    pub group_of_firsts : IsGroup K list ↔ IsGroup K firsts
    group_of_firsts = group_of_both list firsts (Contains-from_firsts list firsts are) covered
