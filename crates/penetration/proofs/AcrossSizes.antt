-- How large the numbers of a' and b' are: the rod operations take a and b to combinations with small coefficients.
use Rattle.std.proofs.Common.{◌≡◌, inl, inr, ℕ, suc, ◌*◌, ◌<◌, ◌≤◌, ◌^◌, ℤ, pos, negsuc, ◌+ℤ◌, ◌*ℤ◌, ◌≤ℤ◌, List, [], ◌∷◌, length, map, sym, ap, subst, ◌∙◌, arith, lit≤}
use Rattle.std.specs.Prelude.{slice_index_or, unsigned_abs}
use Rattle.std.proofs.lemmas.Int.{ints}
use Rattle.std.proofs.lemmas.List.{length-map}
use Rattle.std.proofs.lemmas.List.Sums.{count_by-le-length, length-filter}
use Rattle.fractions.specs.declared.part.TheConstants.{UNIT}
use Rattle.fractions.specs.declared.ratio.Ratio.{Ratio}
use Rattle.fractions.specs.Fraction.{Fraction}
use Rattle.fractions.specs.Fractions.{fraction_at, fractions_of}
use Rattle.fractions.specs.LowestTerms.{IsLowestForm, IsNoLarger, lowest_terms}
use Rattle.fractions.proofs.Lowest.{IsNoLarger-lowest_terms, lowest_terms-only}
use Rattle.integers.specs.Size.{IsWithin}
use Rattle.integers.proofs.Order.{mul_left_cancel_pos}
use Rattle.integers.proofs.Ring.{IsWithin-add, IsWithin-more, IsWithin-mul, mul_zero}
use Rattle.integers.proofs.Solver.{Expr.{var, num, ◌⊕◌, ◌⊗◌}, ring}
use Rattle.integers.proofs.Sizes.{unit_within}
use Rattle.fractions.proofs.Arrays.{fraction_at-lowest, fraction_at-positive}
use Rattle.symmetry.specs.Vectors.{Vector, dot, cross, image, multiple, plus}
use Rattle.symmetry.specs.Motions.{Motion}
use Rattle.symmetry.specs.Planes.{IsCoprime}
use Rattle.symmetry.specs.Groups.{Listing, IsGroup}
use Rattle.symmetry.specs.Frames.{Basis, combination, same_vector}
use Rattle.symmetry.specs.Lists.{motion_at}
use Rattle.symmetry.specs.Sizes.{IsVectorWithin}
use Rattle.motions.specs.declared.motion.Motion3.{Motion3}
use Rattle.motions.specs.Views.{motion_of}
use Rattle.plane_lattice.specs.Bounds.{largest_entry}
use Rattle.plane_lattice.specs.Coordinates.{volume}
use Rattle.plane_lattice.specs.Laws.QuotientLaws.{scaled-combination}
use Rattle.plane_lattice.specs.Scanning.{IsPointOf}
use Rattle.penetration.specs.RodFrames.{AreRodOperations, IsRodFrame, IsRodSkewed, coefficient, levelled, sign_along, total_along}
use Rattle.penetration.specs.RodOperations.{AreAcrossFractions, ArePointsOf, IsAcrossFraction, IsAcrossWithin, keeps_along, rod_ops}
use Rattle.penetration.proofs.MadeRodFrames.{rod_turned_near, turned_a, turned_b}

-- ---- the sum of what the operations do

-- a sign is 1 in size
sign_within : (u : Vector) (m : Motion) → IsWithin 1 (sign_along u m)
sign_within u m = unit_within (same_vector (image m.matrix u) u)

-- k(W v) is a whole number of at most 500 in size
abbrev IsTurnedNear : Basis → Vector → Motion → Type 0
IsTurnedNear f v m = (z : ℤ) × ((coefficient f (image m.matrix v)).num ≡ volume f *ℤ z) × IsWithin 500 z

joined : (s d z j t n : ℤ) → n ≡ d *ℤ z → t ≡ d *ℤ j → s *ℤ n +ℤ t ≡ d *ℤ (s *ℤ z +ℤ j)
joined s d z j t n e h = (λ i. s *ℤ e i +ℤ h i) ∙ ring (s ∷ d ∷ z ∷ j ∷ []) (var 0 ⊗ (var 1 ⊗ var 2) ⊕ var 1 ⊗ var 3) (var 1 ⊗ (var 0 ⊗ var 2 ⊕ var 3)) tt

total_whole : (u : Vector) (f : Basis) (v : Vector) (ms : List Motion) → ((k : ℕ) → k < length ms → IsTurnedNear f v (motion_at ms k))
    → (j : ℤ) × (total_along u f ms v ≡ volume f *ℤ j) × IsWithin (length ms * 500) j
total_whole u f v [] each = (pos 0, sym (mul_zero (volume f)), record { most = lit≤ tt })
total_whole u f v (m ∷ ms) each =
    let (z, is, near) = each 0 (omega arith) in
    let (j, total, small) = total_whole u f v ms (λ k l. each (suc k) (omega arith)) in (
      sign_along u m *ℤ z +ℤ j,
      joined (sign_along u m) (volume f) z j _ _ is total,
      IsWithin-more (IsWithin-add (IsWithin-mul (sign_within u m) near) small) (omega arith),
    )

third : (f : Basis) (c v : Vector) → combination f c ≡ v → dot (cross f.a f.b) v ≡ volume f *ℤ c.z
unfolding multiple
third f c v e = ap (dot (cross f.a f.b)) (sym e) ∙ ap (λ (s : Vector). s.z) (scaled-combination f c)

-- there are no more rod operations than operations
pub few_rods : (u : Vector) (ops : List Motion3) (ms : List Motion) → map motion_of ops ≡ ms → length ops ≤ 192 → length (rod_ops u ms) ≤ 192
few_rods u ops ms e few =
    let most = count_by-le-length (keeps_along u) ms in
    let kept = length-filter (keeps_along u) ms in
    let all = length-map ops motion_of in
    let same = ap length e in
    omega (arith, most, kept, all, same)

-- ---- an entry

-- with n operations and j the sum of these numbers: (n v - j c)/(n UNIT), without the volume, which stands above and below
without_volume : (d n j v c x y : ℤ) → pos 1 ≤ℤ d → x *ℤ (UNIT *ℤ (n *ℤ d)) ≡ (n *ℤ d *ℤ v +ℤ negsuc 0 *ℤ (d *ℤ j *ℤ c)) *ℤ y
    → x *ℤ (UNIT *ℤ n) ≡ (n *ℤ v +ℤ negsuc 0 *ℤ (j *ℤ c)) *ℤ y
without_volume d n j v c x y positive e =
    mul_left_cancel_pos d _ _ positive
    (ring (d ∷ n ∷ x ∷ []) (var 0 ⊗ (var 2 ⊗ (num UNIT ⊗ var 1))) (var 2 ⊗ (num UNIT ⊗ (var 1 ⊗ var 0))) tt
    ∙ e ∙ ring (d ∷ n ∷ j ∷ v ∷ c ∷ y ∷ [])
    ((var 1 ⊗ var 0 ⊗ var 3 ⊕ num (negsuc 0) ⊗ (var 0 ⊗ var 2 ⊗ var 4)) ⊗ var 5)
    (var 0 ⊗ ((var 1 ⊗ var 3 ⊕ num (negsuc 0) ⊗ (var 2 ⊗ var 4)) ⊗ var 5)) tt)

-- a fraction in lowest terms is no larger than another form of it
lowest_within : (q : Fraction) (n d : ℤ) → pos 1 ≤ℤ d → IsLowestForm q n d → IsWithin (2 ^ 40) n → IsWithin (2 ^ 20) d → IsAcrossFraction q
lowest_within q n d positive form above below =
    let same : q ≡ lowest_terms n d = lowest_terms-only q n d (λ e. absurd (omega (arith, ints, e, positive))) form in
    let no_larger : IsNoLarger q n d = subst (λ r. IsNoLarger r n d) (sym same) (IsNoLarger-lowest_terms n d) in
    record {
      num = record { most = omega (arith, no_larger.num_size, above.most) };
      den = record { most = omega (arith, no_larger.den_size, below.most) };
    }

entry_within : (c : List Ratio) (i n : ℕ) (d j v t : ℤ) → 1 ≤ n → n ≤ 192 → pos 1 ≤ℤ d → IsWithin (n * 500) j → IsWithin largest_entry v → IsWithin largest_entry t
    → (fraction_at c i).num *ℤ (UNIT *ℤ (pos n *ℤ d)) ≡ (pos n *ℤ d *ℤ v +ℤ negsuc 0 *ℤ (d *ℤ j *ℤ t)) *ℤ (fraction_at c i).den
    → IsAcrossFraction (fraction_at c i)
entry_within c i n d j v t some few positive small hv ht e =
    let count : IsWithin 192 (pos n) = record { most = few } in
    let sum : IsWithin (192 * 500) j = IsWithin-more small (omega arith) in
    let one : IsWithin 1 (negsuc 0) = record { most = lit≤ tt } in
    let unit : IsWithin (unsigned_abs UNIT) UNIT = record { most = lit≤ tt } in
    let above : pos 1 ≤ℤ (UNIT *ℤ pos n) = omega (arith, ints, some) in
    lowest_within (fraction_at c i) (pos n *ℤ v +ℤ negsuc 0 *ℤ (j *ℤ t)) (UNIT *ℤ pos n) above
    (record {
      positive = fraction_at-positive c i;
      lowest = fraction_at-lowest c i;
      same = without_volume d (pos n) j v t (fraction_at c i).num (fraction_at c i).den positive e;
    })
    (IsWithin-more (IsWithin-add (IsWithin-mul count hv) (IsWithin-mul one (IsWithin-mul sum ht))) (lit≤ tt))
    (IsWithin-more (IsWithin-mul unit count) (lit≤ tt))

-- ---- both vectors

module _ (g : Listing) (u : Vector) (f : Basis) (ms : List Motion) (some : 1 ≤ length ms) (few : length ms ≤ 192) (positive : pos 1 ≤ℤ volume f)
    (tau : IsVectorWithin largest_entry f.tau) where
  -- v - f(v) c, where the operations take v to combinations with small coefficients
  levelled_within : (v : Vector) (c : List Ratio) → IsVectorWithin largest_entry v → ((k : ℕ) → k < length ms → IsTurnedNear f v (motion_at ms k))
      → IsPointOf (levelled u f ms v) c → AreAcrossFractions (fractions_of c)
  unfolding plus multiple
  levelled_within v c small each is =
      let (j, total, sum) = total_whole u f v ms each in
      let n = length ms in
      let at : (x t : ℤ) → pos n *ℤ volume f *ℤ x +ℤ negsuc 0 *ℤ (total_along u f ms v *ℤ t) ≡ pos n *ℤ volume f *ℤ x +ℤ negsuc 0 *ℤ (volume f *ℤ j *ℤ t) =
      λ x t. ap (λ s. pos n *ℤ volume f *ℤ x +ℤ negsuc 0 *ℤ (s *ℤ t)) total in
      record {
        x = entry_within c 0 n (volume f) j v.x f.tau.x some few positive sum small.x tau.x (is.x ∙ ap (λ z. z *ℤ (fraction_at c 0).den) (at v.x f.tau.x));
        y = entry_within c 1 n (volume f) j v.y f.tau.y some few positive sum small.y tau.y (is.y ∙ ap (λ z. z *ℤ (fraction_at c 1).den) (at v.y f.tau.y));
        z = entry_within c 2 n (volume f) j v.z f.tau.z some few positive sum small.z tau.z (is.z ∙ ap (λ z. z *ℤ (fraction_at c 2).den) (at v.z f.tau.z));
      }

  module _ (group : IsGroup g) (coprime : IsCoprime u) (frame : IsRodFrame g u f) (not_skewed : ¬ IsRodSkewed g u f) (rods : AreRodOperations g u ms) where
    a_near : (k : ℕ) → k < length ms → IsTurnedNear f f.a (motion_at ms k)
    a_near k l =
        let m = motion_at ms k in
        let (member, keeps) = rods.listed k l in
        let (c, is) = turned_a g u f group coprime frame m member in
        (c.z, third f c (image m.matrix f.a) is, (rod_turned_near g u f m not_skewed member keeps c (inl is)).z)

    b_near : (k : ℕ) → k < length ms → IsTurnedNear f f.b (motion_at ms k)
    b_near k l =
        let m = motion_at ms k in
        let (member, keeps) = rods.listed k l in
        let (c, is) = turned_b g u f group coprime frame m member in
        (c.z, third f c (image m.matrix f.b) is, (rod_turned_near g u f m not_skewed member keeps c (inr (inl is))).z)

    pub across_within : IsVectorWithin largest_entry f.a → IsVectorWithin largest_entry f.b → (across : List (List Ratio))
        → ArePointsOf (levelled u f ms f.a) (levelled u f ms f.b) across → IsAcrossWithin across
    across_within a b across are = record {
      first = levelled_within f.a (slice_index_or across 0 []) a a_near are.first;
      second = levelled_within f.b (slice_index_or across 1 []) b b_near are.second;
    }
