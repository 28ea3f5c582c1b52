-- What is made of the motions at home is a scan.
use Rattle.std.proofs.Common.{◌≡◌, ℕ, ◌*◌, ◌<◌, ℤ, pos, ◌*ℤ◌, ◌≤ℤ◌, ◌<ℤ◌, ◌⊎◌, inl, inr, List, length, get_or, map, None, Some, nat_abs, unsigned_abs, sym, ◌∙◌, ap, subst, lit≤, arith}
use Rattle.std.specs.Prelude.{All, AllPairs}
use Rattle.std.specs.List.{AllZip}
use Rattle.std.proofs.lemmas.Int.{ints}
use Rattle.std.proofs.lemmas.List.Elements.{All-contains, All-from_get_or, All-map}
use Rattle.fractions.specs.FractionOf.{fraction_of}
use Rattle.integers.specs.Size.{IsWithin}
use Rattle.integers.proofs.Order.{mul_left_cancel_pos}
use Rattle.symmetry.specs.Vectors.{Vector, dot}
use Rattle.symmetry.specs.Motions.{Motion, identity}
use Rattle.symmetry.specs.Planes.{IsHeight, KeepsRow, TurnsRow}
use Rattle.symmetry.specs.Groups.{Listing, IsGroup, IsMember, FixesEveryPlane, InStabiliser, SameModulo}
use Rattle.symmetry.specs.Frames.{Basis, IsAtHome, IsFrame}
use Rattle.symmetry.specs.Lists.{AreChosen, IsListOf, motion_at}
use Rattle.symmetry.specs.Scans.{IsInPeriod, IsLower, IsScan, SpecialHeight}
use Rattle.symmetry.specs.Sizes.{IsMatrixWithin}
use Rattle.symmetry.proofs.PlaneRows.{all_by_row, stabiliser_by_row}
use Rattle.quotient.proofs.Zips.{zip_map}
use Rattle.motions.specs.declared.motion.Motion3.{Motion3}
use Rattle.motions.specs.ListedSizes.{IsSmallWithin}
use Rattle.symmetry.proofs.Sizes.{IsVectorWithin-more}
use Rattle.motions.specs.Views.{motion_of, row_of}
use Rattle.closure.specs.declared.group.TheConstants.{MAX_ENTRY}
use Rattle.plane_lattice.specs.Bounds.{largest_entry}
use Rattle.plane_lattice.specs.FrameView.{basis_of_frame}
use Rattle.plane_lattice.specs.declared.frame.Frame.{Frame}
use Rattle.scanning.specs.declared.height.Height.{Height}
use Rattle.scanning.specs.HeightView.{IsGeneralOperation, IsSpecialOperation, heights_of_specials, special_of, specials_of}
use Rattle.scanning.specs.Levels.{AreLevels, IsLevel}
use Rattle.scanning.specs.Members.{AreSameMotions, InRows}
use Rattle.scanning.specs.SpecialHeights.{AreHeights, IsHeightAt}
use Rattle.scanning.proofs.ChosenLists.{chosen_lists}
use Rattle.scanning.proofs.Classes.{one_class}
use Rattle.scanning.proofs.HomeSizes.{home_within}
use Rattle.scanning.proofs.MadeHeights.{are_in_period, are_rising, has_level, height_is, level_of_form}
use Rattle.scanning.proofs.RowSets.{rows_member, rows_of_all, rows_of_stabiliser}
use Rattle.scanning.proofs.SameMotions.{same_members}

module _ (frame : Frame) (g : Listing) (is_frame : IsFrame g (row_of frame.plane) (basis_of_frame frame)) (group : IsGroup g)
    (apart : AllPairs (λ m n. ¬ SameModulo g m n) g.ops) (ms : List Motion) (same : AreSameMotions g g.ops ms) where
  abbrev r : Vector
  r = row_of frame.plane

  abbrev f : Basis
  f = basis_of_frame frame

  -- ---- sizes

  -- the matrix of a member is that of a listed operation
  operation_small : All (IsSmallWithin (unsigned_abs MAX_ENTRY)) g.ops → (m : Motion) → IsMember g m → IsAtHome f m
      → IsWithin (2 * nat_abs (dot r f.tau)) (dot r m.translation) → IsSmallWithin (unsigned_abs MAX_ENTRY) m
  operation_small small m member home shift =
      let of = All-contains (IsSmallWithin (unsigned_abs MAX_ENTRY)) g.ops member.of small member.listed in record {
        matrix = subst (IsMatrixWithin (unsigned_abs MAX_ENTRY)) (sym member.same.matrix) of.matrix;
        small = record {
          matrix = subst (IsMatrixWithin 500) (sym member.same.matrix) of.small.matrix;
          translation = IsVectorWithin-more
              (home_within g r f is_frame m home 2 largest_entry frame.a_in_range frame.b_in_range frame.tau_in_range shift) (lit≤ tt);
        };
      }

  no_shift : (n : ℕ) (z : ℤ) → z ≡ pos 0 → IsWithin n z
  no_shift n z e = record { most = let size = ap nat_abs e in omega (arith, ints) }

  -- ---- the lists

  module _ (general : List Motion3)
      (chosen : (h : Listing) → IsFrame h r f → All (IsMember h) ms → AreChosen (SameModulo h) (IsAtHome f) (InRows h r None) ms (map motion_of general)) where
    pub general_list : IsListOf (SameModulo g) g.ops (IsAtHome f) (FixesEveryPlane g r) (map motion_of general)
    general_list =
        chosen_lists g apart (IsAtHome f) (InRows g r None) (FixesEveryPlane g r) (rows_member g r None) (rows_of_all g r group frame.plane.coprime)
        ms (map motion_of general) same (chosen g is_frame (same_members g ms same))

    pub general_small : All (IsSmallWithin (unsigned_abs MAX_ENTRY)) g.ops → All (IsSmallWithin (unsigned_abs MAX_ENTRY)) (map motion_of general)
    general_small small =
        All-from_get_or (IsSmallWithin (unsigned_abs MAX_ENTRY)) (map motion_of general) identity
        (λ k h.
        let m = motion_at (map motion_of general) k in
        let is = general_list.listed k h in
        operation_small small m is.0.0 is.1 (no_shift (2 * nat_abs (dot r f.tau)) (dot r m.translation) ((all_by_row g r m group frame.plane.coprime).0 is.0).1.1))

    pub general_rows : All (IsGeneralOperation r f) (map motion_of general)
    general_rows =
        All-from_get_or (IsGeneralOperation r f) (map motion_of general) identity
        (λ k h.
        let m = motion_at (map motion_of general) k in
        let is = general_list.listed k h in record { home = is.1; row = ((all_by_row g r m group frame.plane.coprime).0 is.0).1 })

  module _ (hs : List Height) (are : AreHeights frame ms hs) where
    special_list : All (λ (h : Height). IsListOf (SameModulo g) g.ops (IsAtHome f) (InStabiliser g r (fraction_of h.s)) (map motion_of h.ops.items)) hs
    special_list i e h =
        let t = get_or are.levels i (pos 0) in
        let high = (height_is frame ms hs are i e h).form.positive in
        let s = fraction_of (get_or hs i e).s in
        let ops = (get_or hs i e).ops.items in
        chosen_lists g apart (IsAtHome f) (InRows g r (Some t)) (InStabiliser g r s) (rows_member g r (Some t))
        (rows_of_stabiliser g r s group frame.plane.coprime high (Some t) (has_level frame ms hs are i e h))
        ms (map motion_of ops) same ((height_is frame ms hs are i e h).chosen g is_frame (same_members g ms same))

    special_lists : All (λ (h : SpecialHeight). IsListOf (SameModulo g) g.ops (IsAtHome f) (InStabiliser g r h.height) h.ops) (specials_of hs)
    special_lists = All-map (λ (h : SpecialHeight). IsListOf (SameModulo g) g.ops (IsAtHome f) (InStabiliser g r h.height) h.ops) special_of hs special_list

    zip : AllZip (λ t (h : SpecialHeight). IsHeight h.height × IsLevel h.height t) are.levels (specials_of hs)
    zip =
        zip_map (IsHeightAt frame ms) (λ t (h : SpecialHeight). IsHeight h.height × IsLevel h.height t) special_of
        (λ t h is. (is.form.positive, level_of_form (fraction_of h.s) t is.form)) are.levels hs are.each

    -- ---- the scan

    pub made_scan : (general : List Motion3) → IsListOf (SameModulo g) g.ops (IsAtHome f) (FixesEveryPlane g r) (map motion_of general)
        → IsScan g r f (record { general = map motion_of general; special = specials_of hs })
    made_scan general list =
        let P : ℤ → Type 0 = λ d. All (IsInPeriod d) (heights_of_specials hs) in
        let Q : ℤ → Type 0 = λ d. AreLevels r d ms are.levels in
        let in_period : All (IsInPeriod (dot r f.tau)) (heights_of_specials hs) = subst P (sym frame.tau_gives) (are_in_period frame ms hs are) in
        let rising : AllPairs IsLower (heights_of_specials hs) = are_rising frame ms hs are in
        let levels : AreLevels r (dot r f.tau) ms are.levels = subst Q (sym frame.tau_gives) are.are in record {
          in_period = in_period;
          rising = rising;
          classes = λ s high. one_class g r f is_frame group frame.plane.coprime ms same are.levels levels (specials_of hs) zip in_period rising s high;
          general = list;
          lists = special_lists;
        }

    -- ---- the operations at the special heights

    row_shift : (i : ℕ) (e : Height) → i < length hs → (m : Motion) → KeepsRow r m ⊎ TurnsRow r (fraction_of (get_or hs i e).s) m
        → IsWithin (2 * nat_abs (dot r f.tau)) (dot r m.translation)
    row_shift i e h m (inl keeps) = no_shift (2 * nat_abs (dot r f.tau)) (dot r m.translation) keeps.1
    row_shift i e h m (inr turns) =
        let s = fraction_of (get_or hs i e).s in
        let t = get_or are.levels i (pos 0) in
        let is = height_is frame ms hs are i e h in
        let level : dot r m.translation ≡ t = mul_left_cancel_pos s.den (dot r m.translation) t is.form.positive (sym turns.1 ∙ sym (has_level frame ms hs are i e h)) in
        two_periods (dot r f.tau) frame.period.0 (dot r m.translation) t frame.tau_gives level is.within.from is.within.below
      where
        two_periods : (d d' x t : ℤ) → d ≡ d' → x ≡ t → pos 0 ≤ℤ t → t <ℤ (pos 2 *ℤ d') → IsWithin (2 * nat_abs d) x
        two_periods d d' x t of_d is from below = record { most = let size = ap nat_abs of_d in let x_size = ap nat_abs is in omega (arith, ints) }

    pub special_small : All (IsSmallWithin (unsigned_abs MAX_ENTRY)) g.ops → All (λ (h : SpecialHeight). All (IsSmallWithin (unsigned_abs MAX_ENTRY)) h.ops) (specials_of hs)
    special_small small = All-map (λ (h : SpecialHeight). All (IsSmallWithin (unsigned_abs MAX_ENTRY)) h.ops) special_of hs each
      where
        each : All (λ (h : Height). All (IsSmallWithin (unsigned_abs MAX_ENTRY)) (map motion_of h.ops.items)) hs
        each i e h =
            let ops = map motion_of (get_or hs i e).ops.items in
            let s = fraction_of (get_or hs i e).s in
            All-from_get_or (IsSmallWithin (unsigned_abs MAX_ENTRY)) ops identity
            (λ k l.
            let m = motion_at ops k in
            let is = (special_list i e h).listed k l in
            operation_small small m is.0.0 is.1
            (row_shift i e h m ((stabiliser_by_row g r s m group frame.plane.coprime (height_is frame ms hs are i e h).form.positive).0 is.0).1))

    pub special_rows : All (λ (h : SpecialHeight). All (IsSpecialOperation r f h.height) h.ops) (specials_of hs)
    special_rows = All-map (λ (h : SpecialHeight). All (IsSpecialOperation r f h.height) h.ops) special_of hs each
      where
        each : All (λ (h : Height). All (IsSpecialOperation r f (fraction_of h.s)) (map motion_of h.ops.items)) hs
        each i e h =
            let ops = map motion_of (get_or hs i e).ops.items in
            let s = fraction_of (get_or hs i e).s in
            All-from_get_or (IsSpecialOperation r f s) ops identity
            (λ k l.
            let m = motion_at ops k in
            let is = (special_list i e h).listed k l in record {
              home = is.1;
              row = ((stabiliser_by_row g r s m group frame.plane.coprime (height_is frame ms hs are i e h).form.positive).0 is.0).1;
            })
