-- What the code lists at a height is what its scan gives there.
use Rattle.std.proofs.Common.{◌≡◌, ℕ, ◌<◌, ℤ, pos, List, [], length, get_or, map, lit<, sym, ◌∙◌, ap, subst, arith, unsigned_abs}
use Rattle.std.specs.Prelude.{All}
use Rattle.std.specs.List.{AllZip}
use Rattle.std.proofs.lemmas.List.{get_or-map, length-map}
use Rattle.fractions.specs.Fraction.{IsFractionWithin}
use Rattle.integers.specs.Size.{IsWithin}
use Rattle.integers.proofs.Coded.{again, again_is}
use Rattle.integers.proofs.Wide.{wide, wide_is}
use Rattle.symmetry.specs.Vectors.{Vector, dot}
use Rattle.symmetry.specs.Motions.{Motion}
use Rattle.symmetry.specs.Planes.{Height as HeightOfPlane, IsHeight}
use Rattle.symmetry.specs.Groups.{Listing, IsGroup, InStabiliser, SameModulo}
use Rattle.symmetry.specs.Frames.{Basis, IsAtHome, IsFrame}
use Rattle.symmetry.specs.Lists.{IsListOf}
use Rattle.symmetry.specs.Scans.{GivesAt, general, special, IsScan, SpecialHeight, StandsAt, special_at}
use Rattle.symmetry.proofs.Heights.{at_in_period}
use Rattle.symmetry.proofs.ScanLists.{scan_list}
use Rattle.quotient.proofs.Zips.{zip_map_both}
use Rattle.motions.specs.declared.motion.Motion3.{Motion3}
use Rattle.motions.specs.ListedSizes.{IsSmallWithin}
use Rattle.motions.specs.Views.{motion_of, row_of}
use Rattle.closure.specs.declared.group.TheConstants.{MAX_ENTRY}
use Rattle.plane_lattice.specs.FrameView.{basis_of_frame}
use Rattle.scanning.specs.Bounds.{largest_periods}
use Rattle.scanning.specs.Conjugates.{IsMoved}
use Rattle.scanning.specs.HeightView.{special_of, specials_of}
use Rattle.scanning.specs.ScanView.{scan_of}
use Rattle.scanning.specs.declared.height.Height.{Height}
use Rattle.scanning.specs.declared.scan.Scan.{Scan}
use Rattle.scanning.proofs.MovedLists.{moved_are_conjugated}
use Rattle.scanning.proofs.Places.{periods_within}
use Rattle.quotient.proofs.Items.{All-item_at}

-- the height at an index, as the code reads it
module _ (hs : List Height) (i : ℕ) (h : Height) (within : i < length hs) (is : h ≡ get_or hs i h) where
  at_index : (e : SpecialHeight) → get_or (specials_of hs) i e ≡ special_of h
  at_index e = get_or-map special_of hs i h e within ∙ ap special_of (sym is)

  -- its operations are small
  pub ops_small : (ops : List Motion3) → ops ≡ h.ops.items → All (λ (h : SpecialHeight). All (IsSmallWithin (unsigned_abs MAX_ENTRY)) h.ops) (specials_of hs)
      → All (λ (m : Motion3). IsSmallWithin (unsigned_abs MAX_ENTRY) (motion_of m)) ops
  ops_small ops of_h small k d l =
      let P : Motion → Type 0 = IsSmallWithin (unsigned_abs MAX_ENTRY) in
      let long = length-map hs special_of in
      let all : All P (map motion_of h.ops.items) = subst (λ (x : SpecialHeight). All P x.ops) (at_index (special_of h)) (small i (special_of h) (omega arith)) in
      All-item_at motion_of ops P k d (subst (λ ms. All P (map motion_of ms)) (sym of_h) all) l

module _ (scan : Scan) (s : HeightOfPlane) (high : IsHeight s) where
  pub index_within : (i : ℕ) (k : ℤ) → StandsAt scan.frame.period.0 (specials_of scan.special.items) s i k → i < length scan.special.items
  index_within i k stands = let long = length-map scan.special.items special_of in let h = stands.within in omega arith

  -- the number of periods, which goes through 64 bits
  module _ (small : IsFractionWithin 1000000000 s) (i : ℕ) (k : ℤ) (stands : StandsAt scan.frame.period.0 (specials_of scan.special.items) s i k) where
    pub periods_small : IsWithin largest_periods k
    periods_small =
        periods_within scan.frame.period.0 scan.special.items scan.in_period scan.rising s high 1000000000 small.num scan.frame.above i k stands

    pub periods_wide : wide k ≡ k
    periods_wide = wide_is largest_periods k (lit< tt) periods_small

    pub periods_are : again (wide k) ≡ k
    periods_are = ap again periods_wide ∙ again_is k largest_periods periods_small (lit< tt)

  module _ (g : Listing) (group : IsGroup g) (frame : IsFrame g (row_of scan.frame.plane) (basis_of_frame scan.frame))
      (is_scan : IsScan g (row_of scan.frame.plane) (basis_of_frame scan.frame) (scan_of scan)) where
    abbrev r : Vector
    r = row_of scan.frame.plane

    abbrev f : Basis
    f = basis_of_frame scan.frame

    abbrev Stands : ℤ → ℕ → ℤ → Type 0
    Stands d i k = StandsAt d (specials_of scan.special.items) s i k

    pub general_given : (ops : List Motion3) → ops ≡ scan.general.items → ((i : ℕ) (k : ℤ) → ¬ Stands scan.frame.period.0 i k) → GivesAt g r f (scan_of scan) s (map motion_of ops)
    general_given ops is none =
        let P : ℤ → Type 0 = λ d. (i : ℕ) (k : ℤ) → ¬ Stands d i k in
        general (subst P (sym scan.frame.tau_gives) none) (ap (map motion_of) is)

    pub special_given : (i : ℕ) (k k' : ℤ) → k' ≡ k → Stands scan.frame.period.0 i k → (h : Height) → h ≡ get_or scan.special.items i h
        → (ops out : List Motion3) → ops ≡ h.ops.items → AllZip (λ m n. IsMoved r f k' (motion_of m) (motion_of n)) ops out
        → GivesAt g r f (scan_of scan) s (map motion_of out)
    special_given i k k' of_k stands h is ops out of_h zip =
        let P : ℤ → Type 0 = λ d. Stands d i k in
        let here : Stands (dot r f.tau) i k = subst P (sym scan.frame.tau_gives) stands in
        let none : SpecialHeight = record { height = record { num = pos 0; den = pos 1 }; ops = [] } in
        let at = special_at (specials_of scan.special.items) i in
        let same : map motion_of ops ≡ at.ops =
        ap (map motion_of) of_h ∙ ap (λ (x : SpecialHeight). x.ops) (sym (at_index scan.special.items i h (index_within i k stands) is none)) in
        let Q : ℤ → Type 0 = λ j. AllZip (IsMoved r f j) at.ops (map motion_of out) in
        special i k here
        (moved_are_conjugated g r f frame group k scan.frame.plane.coprime at.height
        (at_in_period (dot r f.tau) (specials_of scan.special.items) is_scan.in_period is_scan.rising i stands.within).positive
        at.ops (map motion_of out) (is_scan.lists i none stands.within)
        (subst Q of_k (subst (λ ms. AllZip (IsMoved r f k') ms (map motion_of out)) same (zip_map_both (IsMoved r f k') motion_of motion_of ops out zip))))

    pub given_list : (ops : List Motion) → GivesAt g r f (scan_of scan) s ops → IsListOf (SameModulo g) g.ops (IsAtHome f) (InStabiliser g r s) ops
    given_list ops given = scan_list g r f frame group scan.frame.plane.coprime (scan_of scan) is_scan s high ops given
