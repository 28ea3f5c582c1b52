-- Every height is in one class: general, or whole periods above one special height.
use Rattle.std.proofs.Common.{◌≡◌, ℕ, zero, suc, ◌<◌, ℤ, pos, negsuc, ◌+ℤ◌, ◌-ℤ◌, ◌*ℤ◌, List, [], ◌∷◌, length, get_or, ◌⊎◌, inl, inr, refl, sym, ◌∙◌, ap, subst, arith}
use Rattle.std.specs.Prelude.{All, AllPairs, Contains}
use Rattle.std.specs.List.{AllZip}
use Rattle.std.proofs.lemmas.Int.{ints, by_lt_z}
use Rattle.std.proofs.lemmas.List.Elements.{All-contains, at_from_Contains, Contains-get_or}
use Rattle.std.proofs.lemmas.Slice.Zip.{AllZip-long}
use Rattle.fractions.specs.declared.part.TheConstants.{UNIT}
use Rattle.integers.proofs.Division.{floor}
use Rattle.integers.proofs.Order.{mul_left_cancel_pos}
use Rattle.integers.proofs.Solver.{Expr.{var, num, ◌⊕◌, ◌⊝◌, ◌⊗◌}, given, linear, ring}
use Rattle.symmetry.specs.Vectors.{Vector, dot, row_times}
use Rattle.symmetry.specs.Motions.{Motion}
use Rattle.symmetry.specs.Planes.{Height, IsCoprime, IsHeight}
use Rattle.symmetry.specs.Groups.{Listing, IsGroup, IsMember, SameModulo}
use Rattle.symmetry.specs.Frames.{Basis, IsFrame, IsSpecial}
use Rattle.symmetry.specs.Scans.{IsInOneClass, general, special, IsInPeriod, IsLower, SpecialHeight, StandsAt, heights_of, special_at}
use Rattle.symmetry.proofs.Heights.{level_above, stands_above, stands_once}
use Rattle.symmetry.proofs.LatticeLaws.{same_member, same_refl, same_sym, same_trans}
use Rattle.symmetry.proofs.PlaneRows.{special_by_row}
use Rattle.quotient.proofs.Zips.{zip_at}
use Rattle.scanning.specs.Levels.{AreLevels, IsInTwoPeriods, IsLevel, IsTurned}
use Rattle.scanning.specs.Members.{AreSameMotions}
use Rattle.scanning.proofs.Choices.{periods_between}
use Rattle.scanning.proofs.HeightNumbers.{divides_or_not, one_rest}
use Rattle.scanning.proofs.RaisedMotions.{raised, raised_shift, raised_same}
use Rattle.scanning.proofs.SameMotions.{same_listed, same_members}

-- whether a list has a number
contained : (t : ℤ) (ts : List ℤ) → Contains ts t ⊎ ¬ Contains ts t
contained t [] = inr (λ (k, below, at). absurd (omega arith))
contained t (u ∷ ts) =
    by_lt_z t u (λ below. rest (λ e. absurd (omega (arith, ints))) (contained t ts))
    (λ from. by_lt_z u t (λ above. rest (λ e. absurd (omega (arith, ints))) (contained t ts)) (λ upto. inl (0, omega arith, omega (arith, ints))))
  where
    on : ¬ (u ≡ t) → (k : ℕ) → k < suc (length ts) → get_or (u ∷ ts) k t ≡ t → Contains ts t
    on not zero below at = absurd (not at)
    on not (suc k) below at = (k, omega arith, at)

    rest : ¬ (u ≡ t) → Contains ts t ⊎ ¬ Contains ts t → Contains (u ∷ ts) t ⊎ ¬ Contains (u ∷ ts) t
    rest not (inl (k, below, at)) = inl (suc k, omega arith, at)
    rest not (inr none) = inr (λ (k, below, at). none (on not k below at))

module _ (g : Listing) (r : Vector) (f : Basis) (frame : IsFrame g r f) (group : IsGroup g) (coprime : IsCoprime r) (ms : List Motion) (same : AreSameMotions g g.ops ms) where
  -- the level of a special height is whole periods from a motion that turns the row
  special_to_turned : (s : Height) → IsHeight s → IsSpecial g r s → (t : ℤ) × IsLevel s t × IsTurned r (dot r f.tau) ms t
  special_to_turned s high is_special =
      let (m, member, (row, twice)) = (special_by_row g r s group coprime high).0 is_special in
      let (n, listed, alike) = same_listed g ms same member.of member.listed in
      let close : SameModulo g m n = same_trans g m member.of n member.same (same_sym g n member.of alike) in
      let (k, apart) = periods_between g r f frame (IsMember g) n m close in (
        dot r m.translation,
        sym twice,
        record {
          op = n;
          listed = listed;
          row = ap (row_times r) (sym close.matrix) ∙ row;
          periods = k;
          is = moved (dot r m.translation) (dot r n.translation) (k *ℤ dot r f.tau) apart;
        },
      )
    where
      moved : (a b c : ℤ) → a -ℤ b ≡ c → a ≡ b +ℤ c
      moved a b c e = omega (arith, ints)

  turned_to_special : (s : Height) → IsHeight s → (t : ℤ) → IsLevel s t → IsTurned r (dot r f.tau) ms t → IsSpecial g r s
  turned_to_special s high t level turned =
      let k = turned.periods in
      let m = raised f k turned.op in
      (special_by_row g r s group coprime high).1 (
        m,
        same_member g m turned.op (raised_same g r f frame k turned.op turned.op turned.op (same_refl g turned.op) refl (same_refl g turned.op).translation)
            (All-contains (IsMember g) ms turned.op (same_members g ms same) turned.listed),
        (turned.row, sym level ∙ ap (λ z. s.den *ℤ z) (turned.is ∙ sym (raised_shift r f k turned.op))),
      )

  module _ (ts : List ℤ) (levels : AreLevels r (dot r f.tau) ms ts) (sp : List SpecialHeight)
      (zip : AllZip (λ t (h : SpecialHeight). IsHeight h.height × IsLevel h.height t) ts sp)
      (in_period : All (IsInPeriod (dot r f.tau)) (heights_of sp)) (rising : AllPairs IsLower (heights_of sp)) where
    level_at : (i : ℕ) → i < length sp → IsHeight (special_at sp i).height × IsLevel (special_at sp i).height (get_or ts i (pos 0))
    level_at i h = zip_at (λ t (h : SpecialHeight). IsHeight h.height × IsLevel h.height t) ts sp zip i (pos 0) (record { height = record { num = pos 0; den = pos 1 }; ops = [] }) h

    within_levels : (i : ℕ) → i < length sp → i < length ts
    within_levels i h = let long = AllZip-long (λ t (h : SpecialHeight). IsHeight h.height × IsLevel h.height t) ts sp zip in omega arith

    module _ (s : Height) (high : IsHeight s) where
      -- a height that stands over a listed one has a level
      level_over : (i : ℕ) (k : ℤ) → StandsAt (dot r f.tau) sp s i k → IsLevel s (get_or ts i (pos 0) +ℤ pos 2 *ℤ k *ℤ dot r f.tau)
      level_over i k stands =
          let h = (special_at sp i).height in
          let at = level_at i stands.within in
          level_above UNIT h.num h.den (get_or ts i (pos 0)) at.0 at.1 (dot r f.tau) k s.num s.den stands.is

      one_level : (t u : ℤ) → IsLevel s t → IsLevel s u → t ≡ u
      one_level t u is is' = mul_left_cancel_pos s.den t u high (is ∙ sym is')

      module _ (t : ℤ) (is : IsLevel s t) (q t0 : ℤ) (rest : IsInTwoPeriods (dot r f.tau) t0) (whole : t0 +ℤ pos 2 *ℤ dot r f.tau *ℤ q ≡ t) where
        -- the level and its rest are both turned to, or neither is
        turned_up : IsTurned r (dot r f.tau) ms t0 → IsTurned r (dot r f.tau) ms t
        turned_up turned = record {
          op = turned.op;
          listed = turned.listed;
          row = turned.row;
          periods = turned.periods +ℤ pos 2 *ℤ q;
          is = linear (dot r f.tau ∷ q ∷ t0 ∷ t ∷ dot r turned.op.translation ∷ turned.periods ∷ []) (var 3) (var 4 ⊕ (var 5 ⊕ num (pos 2) ⊗ var 1) ⊗ var 0)
              (given (num (negsuc 0)) (var 2 ⊕ num (pos 2) ⊗ var 0 ⊗ var 1) (var 3) ∷ given (num (pos 1)) (var 2) (var 4 ⊕ var 5 ⊗ var 0) ∷ []) tt (whole, (turned.is, tt));
        }

        turned_down : IsTurned r (dot r f.tau) ms t → IsTurned r (dot r f.tau) ms t0
        turned_down turned = record {
          op = turned.op;
          listed = turned.listed;
          row = turned.row;
          periods = turned.periods -ℤ pos 2 *ℤ q;
          is = linear (dot r f.tau ∷ q ∷ t0 ∷ t ∷ dot r turned.op.translation ∷ turned.periods ∷ []) (var 2) (var 4 ⊕ (var 5 ⊝ num (pos 2) ⊗ var 1) ⊗ var 0)
              (given (num (pos 1)) (var 2 ⊕ num (pos 2) ⊗ var 0 ⊗ var 1) (var 3) ∷ given (num (pos 1)) (var 3) (var 4 ⊕ var 5 ⊗ var 0) ∷ []) tt (whole, (turned.is, tt));
        }

        -- the rest is listed
        in_class : Contains ts t0 → IsInOneClass g r (dot r f.tau) sp s
        in_class listed =
            let (i, below, at) = at_from_Contains ts t0 listed in
            let long = AllZip-long (λ t (h : SpecialHeight). IsHeight h.height × IsLevel h.height t) ts sp zip in
            let within : i < length sp = omega arith in
            let h = (special_at sp i).height in
            let here = level_at i within in
            let level : IsLevel h t0 = subst (IsLevel h) (at (pos 0)) here.1 in
            let stands : StandsAt (dot r f.tau) sp s i q =
            record {
              within = within;
              is = stands_above UNIT h.num h.den t0 here.0 level (dot r f.tau) q s.num s.den
                  (ap (λ z. s.den *ℤ z) (linear (dot r f.tau ∷ q ∷ t0 ∷ t ∷ []) (var 2 ⊕ num (pos 2) ⊗ var 1 ⊗ var 0) (var 3)
                  (given (num (pos 1)) (var 2 ⊕ num (pos 2) ⊗ var 0 ⊗ var 1) (var 3) ∷ []) tt (whole, tt)) ∙ is);
            } in
            special i q (turned_to_special s high t is (turned_up (All-contains (IsTurned r (dot r f.tau) ms) ts t0 levels.turned.each listed))) stands
            (λ j l there. stands_once (dot r f.tau) sp in_period rising s high i j q l stands there)

        -- or it is not
        in_none : ¬ Contains ts t0 → IsInOneClass g r (dot r f.tau) sp s
        in_none not =
            general
            (λ is_special.
            let (u, level, turned) = special_to_turned s high is_special in
            not (levels.turned.whole t0 rest (turned_down (subst (IsTurned r (dot r f.tau) ms) (one_level u t level is) turned))))
            (λ i k stands.
            let t1 = get_or ts i (pos 0) in
            let listed : Contains ts t1 = Contains-get_or ts i (pos 0) (within_levels i stands.within) in
            let range = All-contains (IsInTwoPeriods (dot r f.tau)) ts t1 levels.turned.within listed in
            let equal : t1 ≡ t0 =
            one_rest (pos 2 *ℤ dot r f.tau) t1 t0 k q t range.from range.below rest.from rest.below
            (flipped t1 k (dot r f.tau) ∙ one_level _ t (level_over i k stands) is) whole in
            not (subst (Contains ts) equal listed))
          where
            flipped : (t k d : ℤ) → t +ℤ pos 2 *ℤ d *ℤ k ≡ t +ℤ pos 2 *ℤ k *ℤ d
            flipped t k d = ring (t ∷ k ∷ d ∷ []) (var 0 ⊕ num (pos 2) ⊗ var 2 ⊗ var 1) (var 0 ⊕ num (pos 2) ⊗ var 1 ⊗ var 2) tt

      at_level : (t : ℤ) → IsLevel s t → IsInOneClass g r (dot r f.tau) sp s
      at_level t is =
          let (q, from, below) = floor t (pos 2 *ℤ dot r f.tau) (omega (arith, ints, frame.tau_above)) in
          let t0 = t -ℤ pos 2 *ℤ dot r f.tau *ℤ q in
          let whole : t0 +ℤ pos 2 *ℤ dot r f.tau *ℤ q ≡ t = back t (pos 2 *ℤ dot r f.tau *ℤ q) in
          elim (contained t0 ts) [
            | inl listed ↦ in_class t is q t0 (record { from = from; below = below }) whole listed
            | inr not ↦ in_none t is q t0 (record { from = from; below = below }) whole not
          ]
        where
          back : (a b : ℤ) → a -ℤ b +ℤ b ≡ a
          back a b = omega (arith, ints)

      pub one_class : IsInOneClass g r (dot r f.tau) sp s
      one_class =
          elim (divides_or_not (pos 2 *ℤ s.num *ℤ UNIT) s.den high) [
            | inl none ↦
                general (λ is_special. let (t, level, turned) = special_to_turned s high is_special in none t level)
                (λ i k stands. none (get_or ts i (pos 0) +ℤ pos 2 *ℤ k *ℤ dot r f.tau) (level_over i k stands))
            | inr (t, level) ↦ at_level t level
          ]
