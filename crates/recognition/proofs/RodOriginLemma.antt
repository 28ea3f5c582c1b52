-- The least origin, told by one motion that turns the axis.
use Rattle.std.proofs.Common.{◌≡◌, ℕ, ◌<◌, ◌≤◌, inl, inr, ℤ, pos, negsuc, ◌+ℤ◌, ◌-ℤ◌, ◌*ℤ◌, ◌<ℤ◌, sym, ◌∙◌, ap, subst, arith, List, slice_index_or, map, lit<}
use Rattle.std.specs.Prelude.{All, Any, Contains}
use Rattle.std.proofs.lemmas.Int.{ints}
use Rattle.std.proofs.lemmas.List.{get_or-map, length-map}
use Rattle.std.proofs.lemmas.List.Elements.{All-contains, All-contains_itself}
use Rattle.integers.proofs.Order.{compare_nat}
use Rattle.fractions.specs.declared.part.TheConstants.{UNIT}
use Rattle.fractions.specs.Parts.{IsReduced}
use Rattle.motions.specs.declared.rod.RodMotion.{RodMotion}
use Rattle.motions.specs.declared.motion.Sign.{Sign}
use Rattle.motions.specs.declared.motion.Sign.TheVariants.{Plus, Minus}
use Rattle.motions.specs.Signs.{sign_value}
use Rattle.motions.specs.PlaneMatrices.{Matrix2}
use Rattle.motions.specs.RodMotions.{RodOperation, rod_of, rod_identity}
use Rattle.line_types.specs.Rods.{rod_entries}
use Rattle.recognition.specs.declared.found_rod.TheConstants.{ROD_GRID}
use Rattle.recognition.specs.declared.rod_origins.TheConstants.{STEP}
use Rattle.recognition.specs.RodChanges.{hand, Carries}
use Rattle.recognition.specs.RodTests.{IsLike, IsClose, IsPaired, Fits}
use Rattle.recognition.specs.RodOrigins.{AreApart, IsOriginOf, IsLikeliest, IsLeastIn, IsNotIn}
use Rattle.recognition.proofs.RodCarries.{fits_carries, carries_fits}
use Rattle.recognition.proofs.RodMatrices.{same_right}

-- ---- numbers: the translation t of a motion that turns the axis, against q, agrees at z exactly where z is as told by the rest

agrees_from : (t q r : ℤ) (z v : ℕ) → IsReduced (t -ℤ q) r → pos z ≡ STEP *ℤ r → (k : ℤ)
    → ROD_GRID *ℤ (t -ℤ q) -ℤ UNIT *ℤ (pos v -ℤ negsuc 0 *ℤ pos v) ≡ (ROD_GRID *ℤ UNIT) *ℤ k
    → (z ≤ v) × ((j : ℤ) × (pos v ≡ pos z +ℤ j *ℤ (STEP *ℤ UNIT)))
agrees_from t q r z v h e k f =
    let a = h.least in
    let b = h.below in
    let d = h.is in
    let far : pos v ≡ pos z +ℤ (h.edges -ℤ k) *ℤ (STEP *ℤ UNIT) = omega (arith, ints) in
    (omega (arith, ints, far), (h.edges -ℤ k, far))

below_grid : (r : ℤ) (z : ℕ) → r <ℤ UNIT → pos z ≡ STEP *ℤ r → z < 96
below_grid r z h e = omega (arith, ints)

-- where the origin goes by half the axis, translations agree as before
moved_turning : (x : ℤ) (v z : ℕ) (j k : ℤ) → pos v ≡ pos z +ℤ j *ℤ (STEP *ℤ UNIT)
    → ROD_GRID *ℤ x -ℤ UNIT *ℤ (pos v -ℤ negsuc 0 *ℤ pos v) ≡ (ROD_GRID *ℤ UNIT) *ℤ k
    → ROD_GRID *ℤ x -ℤ UNIT *ℤ (pos z -ℤ negsuc 0 *ℤ pos z) ≡ (ROD_GRID *ℤ UNIT) *ℤ (k +ℤ j)
moved_turning x v z j k e f = omega (arith, ints)

moved_keeping : (x : ℤ) (v z : ℕ) (k : ℤ) → ROD_GRID *ℤ x -ℤ UNIT *ℤ (pos v -ℤ pos 1 *ℤ pos v) ≡ (ROD_GRID *ℤ UNIT) *ℤ k
    → ROD_GRID *ℤ x -ℤ UNIT *ℤ (pos z -ℤ pos 1 *ℤ pos z) ≡ (ROD_GRID *ℤ UNIT) *ℤ k
moved_keeping x v z k f = omega (arith, ints)

close_moved : (p : Matrix2) (m n : RodOperation) (v z : ℕ) (j : ℤ) → pos v ≡ pos z +ℤ j *ℤ (STEP *ℤ UNIT) → IsClose p v m n → IsClose p z m n
close_moved p m n v z j e (k, f) = by m.along k f
  where
    by : (s : Sign) (k : ℤ) → ROD_GRID *ℤ (m.translation -ℤ hand p *ℤ n.translation) -ℤ UNIT *ℤ (pos v -ℤ sign_value s *ℤ pos v) ≡ (ROD_GRID *ℤ UNIT) *ℤ k
        → (l : ℤ) × (ROD_GRID *ℤ (m.translation -ℤ hand p *ℤ n.translation) -ℤ UNIT *ℤ (pos z -ℤ sign_value s *ℤ pos z) ≡ (ROD_GRID *ℤ UNIT) *ℤ l)
    by Plus k f = (k, moved_keeping (m.translation -ℤ hand p *ℤ n.translation) v z k f)
    by Minus k f = (k +ℤ j, moved_turning (m.translation -ℤ hand p *ℤ n.translation) v z j k e f)

close_kept : (p : Matrix2) (m n : RodOperation) (v z : ℕ) → m.along ≡ Plus → IsClose p v m n → IsClose p z m n
close_kept p m n v z is (k, f) = by m.along k is f
  where
    by : (s : Sign) (k : ℤ) → s ≡ Plus → ROD_GRID *ℤ (m.translation -ℤ hand p *ℤ n.translation) -ℤ UNIT *ℤ (pos v -ℤ sign_value s *ℤ pos v) ≡ (ROD_GRID *ℤ UNIT) *ℤ k
        → (l : ℤ) × (ROD_GRID *ℤ (m.translation -ℤ hand p *ℤ n.translation) -ℤ UNIT *ℤ (pos z -ℤ sign_value s *ℤ pos z) ≡ (ROD_GRID *ℤ UNIT) *ℤ l)
    by Plus k is f = (k, moved_keeping (m.translation -ℤ hand p *ℤ n.translation) v z k f)
    by Minus k is f = absurd (cc)

close_turning : (p : Matrix2) (m n : RodOperation) (v z : ℕ) → m.along ≡ Minus → IsOriginOf p m n z → IsClose p v m n
    → (z ≤ v) × ((j : ℤ) × (pos v ≡ pos z +ℤ j *ℤ (STEP *ℤ UNIT)))
close_turning p m n v z is o (k, f) = by m.along is f
  where
    by : (s : Sign) → s ≡ Minus → ROD_GRID *ℤ (m.translation -ℤ hand p *ℤ n.translation) -ℤ UNIT *ℤ (pos v -ℤ sign_value s *ℤ pos v) ≡ (ROD_GRID *ℤ UNIT) *ℤ k
        → (z ≤ v) × ((j : ℤ) × (pos v ≡ pos z +ℤ j *ℤ (STEP *ℤ UNIT)))
    by Plus is f = absurd (cc)
    by Minus is f = agrees_from m.translation (hand p *ℤ n.translation) o.rest z v o.reduced o.is k f

-- ---- lists: a motion of the section has one partner

entries_path : (m n : RodOperation) → m.matrix ≡ n.matrix → m.along ≡ n.along → rod_entries m ≡ rod_entries n
entries_path m n e f = λ i. rod_entries (record { matrix = e i; along = f i; translation = pos 0 })

module _ (ops : List RodMotion) (apart : AreApart ops) where
  abbrev at : ℕ → RodOperation
  at i = slice_index_or (map rod_of ops) i rod_identity

  at_listed : (n : RodMotion) → (listed : Contains ops n) → at listed.0 ≡ rod_of n
  at_listed n (k, within, is) = get_or-map rod_of ops k n rod_identity within ∙ ap rod_of is

  not_earlier : (n n' : RodMotion) (h : Contains ops n) (h' : Contains ops n') → (rod_of n).matrix ≡ (rod_of n').matrix → (rod_of n).along ≡ (rod_of n').along
      → ¬ (h.0 < h'.0)
  not_earlier n n' h h' e f less =
      apart h.0 h'.0 rod_identity less (subst (λ l. h'.0 < l) (sym (length-map ops rod_of)) h'.1)
      (ap rod_entries (at_listed n h) ∙ entries_path (rod_of n) (rod_of n') e f ∙ sym (ap rod_entries (at_listed n' h')))

  unique : (n n' : RodMotion) → Contains ops n → Contains ops n' → (rod_of n).matrix ≡ (rod_of n').matrix → (rod_of n).along ≡ (rod_of n').along → rod_of n ≡ rod_of n'
  unique n n' h h' e f =
      elim (compare_nat h.0 h'.0) [
        | inl less ↦ absurd (not_earlier n n' h h' e f less)
        | inr r ↦ elim r [
          | inl same ↦ sym (at_listed n h) ∙ ap at same ∙ at_listed n' h'
          | inr less ↦ absurd (not_earlier n' n h' h (sym e) (sym f) less)
        ]
      ]

module _ (section ops : List RodMotion) (p : Matrix2) where
  abbrev Has : ℕ → Type 0
  Has z = Carries section ops p z

  fits_moved : (v z : ℕ) → ((m n : RodMotion) → Contains section m → IsClose p v (rod_of m) (rod_of n) → IsClose p z (rod_of m) (rod_of n))
      → Fits section ops p v → Fits section ops p z
  fits_moved v z moved fits = record {
    crossed = fits.crossed;
    forth = λ k d within.
        let (i, n, below, is, pair) = fits.forth k d within in
        (i, n, below, is, record { like = pair.like; close = moved (slice_index_or section k d) n (All-contains_itself section k d within) pair.close });
    back = λ k d within.
        let (i, m, below, is, pair) = fits.back k d within in
        (i, m, below, is, record { like = pair.like; close = moved m (slice_index_or ops k d) (i, below, is) pair.close });
  }

  -- where no motion turns the axis, any origin does as well as any other
  pub likely_where_none_turns : All (λ m. (rod_of m).along ≡ Plus) section → IsLikeliest 96 Has 0
  likely_where_none_turns keeping = record {
    within = lit< tt;
    has = λ v below h.
        fits_carries section ops p 0
        (fits_moved v 0 (λ m n listed close. close_kept p (rod_of m) (rod_of n) v 0 (All-contains (λ k. (rod_of k).along ≡ Plus) section m keeping listed) close)
        (carries_fits section ops p v h));
    least = λ v below h. omega arith;
  }

  module _ (m : RodMotion) (listed : Contains section m) where
    abbrev Paired : ℕ → RodMotion → Type 0
    Paired v k = Any (λ n. IsPaired p v (rod_of k) (rod_of n)) ops

    -- without a partner no change by this matrix carries the section
    pub nowhere_without : All (λ n. ¬ (IsLike p (rod_of m) (rod_of n))) ops → IsNotIn 96 Has
    nowhere_without none v below h =
        let (k, n, within, is, pair) = All-contains (Paired v) section m (carries_fits section ops p v h).forth listed in
        All-contains (λ n. ¬ (IsLike p (rod_of m) (rod_of n))) ops n none (k, within, is) pair.like

    -- the partner of a motion that turns the axis tells the origin
    pub likely_by_partner : AreApart ops → (n : RodMotion) → Contains ops n → (rod_of m).along ≡ Minus → IsLike p (rod_of m) (rod_of n)
        → (z : ℕ) → IsOriginOf p (rod_of m) (rod_of n) z → IsLikeliest 96 Has z
    likely_by_partner apart n in_ops turning like z o = record {
      within = below_grid o.rest z o.reduced.below o.is;
      has = λ v below h.
          let (le, (j, far)) = told v h in
          fits_carries section ops p z (fits_moved v z (λ k l listed close. close_moved p (rod_of k) (rod_of l) v z j far close) (carries_fits section ops p v h));
      least = λ v below h. (told v h).0;
    }
      where
        told : (v : ℕ) → Has v → (z ≤ v) × ((j : ℤ) × (pos v ≡ pos z +ℤ j *ℤ (STEP *ℤ UNIT)))
        told v h =
            let fits = carries_fits section ops p v h in
            let (k, l, within, is, pair) = All-contains (Paired v) section m fits.forth listed in
            let same : rod_of l ≡ rod_of n = unique ops apart l n (k, within, is) in_ops
            (same_right (rod_of l).matrix (rod_of n).matrix p fits.crossed (sym pair.like.matrix ∙ like.matrix)) (sym pair.like.along ∙ like.along) in
            close_turning p (rod_of m) (rod_of n) v z turning o (subst (IsClose p v (rod_of m)) same pair.close)

  -- the likeliest origin is the least, or there is none
  pub least_of_likely : (z : ℕ) → IsLikeliest 96 Has z → Has z → IsLeastIn 96 Has z
  least_of_likely z likely has = record {
    within = likely.within;
    has = has;
    least = λ v less h. let le = likely.least v (omega (arith, likely.within)) h in absurd (omega arith);
  }

  pub nowhere_by_likely : (z : ℕ) → IsLikeliest 96 Has z → ¬ Has z → IsNotIn 96 Has
  nowhere_by_likely z likely not v below h = not (likely.has v below h)
