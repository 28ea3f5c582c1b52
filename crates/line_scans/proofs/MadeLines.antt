-- The scan of the lines that is made of the scan of the planes (h k 0).
use Rattle.std.proofs.Common.{◌≡◌, ℕ, ◌<◌, ℤ, pos, ◌*ℤ◌, List, [], ◌∷◌, get_or, length, map, refl, sym, ap, subst, ◌∙◌}
use Rattle.std.specs.Prelude.{All, AllPairs}
use Rattle.std.specs.List.{AllZip}
use Rattle.std.proofs.lemmas.List.{get_or-map, length-map}
use Rattle.fractions.specs.Fraction.{SameFraction}
use Rattle.fractions.specs.FractionOf.{fraction_of}
use Rattle.fractions.specs.Fractions.{fraction_at}
use Rattle.fractions.specs.declared.part.TheConstants.{UNIT}
use Rattle.fractions.specs.declared.ratio.Ratio.{Ratio}
use Rattle.fractions.proofs.Arrays.{fraction_at-lowest, fraction_at-positive}
use Rattle.symmetry.specs.Vectors.{dot, multiple}
use Rattle.symmetry.specs.Motions.{Motion}
use Rattle.symmetry.specs.Planes.{Height, IsCoprime}
use Rattle.symmetry.specs.Groups.{Listing, FixesEveryPlane, InStabiliser}
use Rattle.symmetry.specs.Frames.{Basis, IsFrame, total_up}
use Rattle.symmetry.specs.Lists.{AreScanning}
use Rattle.symmetry.specs.Scans as scans
use Rattle.symmetry.specs.Scans.{IsInPeriod, IsLower, IsScan, SpecialHeight, special_at}
use Rattle.symmetry.specs.Orbits.{height_at}
use Rattle.symmetry.proofs.VectorLaws.{vector_path}
use Rattle.motions.specs.PlaneMatrices.{Pair, in_space}
use Rattle.motions.specs.Views.{motion_of, parts, row_of}
use Rattle.closure.specs.Groups.{IsGroupOf, group_listing}
use Rattle.closure.specs.declared.group.Group.{Group}
use Rattle.plane_lattice.specs.FrameView.{basis_of_frame}
use Rattle.plane_lattice.specs.Sections.{height_in_steps}
use Rattle.plane_lattice.specs.declared.frame.Frame.{Frame}
use Rattle.plane_motions.specs.PlaneMotions.{PlaneMotion, plane_block, plane_of}
use Rattle.scanning.specs.HeightView.{heights_of_specials, special_of, specials_of}
use Rattle.scanning.specs.ScanView.{scan_of}
use Rattle.scanning.specs.declared.height.Height.{Height as CodeHeight}
use Rattle.scanning.specs.declared.scan.Scan.{Scan}
use Rattle.line_frames.specs.LineFrames.{IsLineFrameOf}
use Rattle.line_frames.specs.Lines.{first_two}
use Rattle.plane_groups.specs.PlaneGroups.{IsFlatGroup}
use Rattle.line_scans.specs.Lines.{FixesEveryLine, InLineStabiliser}
use Rattle.line_scans.specs.LineLists.{IsLineList}
use Rattle.line_scans.specs.LineOps.{AreLineMotions, IsLineOp, IsSectionOf, IsStep}
use Rattle.line_scans.specs.LineScans as lines
use Rattle.line_scans.specs.LineScans.{IsInLowestForm, IsLineScan, StandsAt, heights_of}
use Rattle.line_scans.specs.LineSections.{InLineSectionAt, IsFirstFrieze, line_mean, line_total}
use Rattle.line_scans.specs.LineView.{IsLineHeightOf, line_height_of, line_section_of}
use Rattle.line_scans.specs.declared.scan.LineHeight.{LineHeight}
use Rattle.line_scans.specs.declared.scan.LineSection.{LineSection}
use Rattle.line_scans.proofs.LineContexts.{IsLines, line_list, total_is}
use Rattle.line_scans.proofs.LineMeans.{are_scanning}
use Rattle.line_scans.proofs.LineOps.{multiple_in_space}
use Rattle.line_scans.proofs.Multiples.{first_once}
use Rattle.line_scans.proofs.PlaneBridges.{all_by_lines, flat_modulo, pair_motion, special_by_line, stabiliser_by_line}
use Rattle.line_scans.proofs.SectionTypes.{general_motions, general_type, special_motions, special_type}
use Rattle.line_scans.proofs.SpecialLines.{IsSpecialAt, all_of_zip, map_map, same_of_zip, small_ops, special_lists, step_from, steps_of, zip_all}
use Rattle.plane_lattice.proofs.SectionFacts.{special_in_steps}
use Rattle.symmetry.proofs.PlaneLattice.{differs_all, differs_stabiliser}

-- ---- fractions of an array

map_same : {A : Type 0} (xs : List A) → map (λ x. x) xs ≡ xs
map_same [] = refl
map_same (x ∷ xs) = ap (λ l. x ∷ l) (map_same xs)

-- ---- classes

module _ (d : ℤ) (special : List SpecialHeight) (s : Height) (i : ℕ) (k : ℤ) where
  bottom : SpecialHeight
  bottom = record { height = record { num = pos 0; den = pos 1 }; ops = [] }

  height_is : i < length special → height_at (scans.heights_of special) i ≡ (special_at special i).height
  height_is h = get_or-map (λ (t : SpecialHeight). t.height) special i (record { height = record { num = pos 0; den = pos 1 }; ops = [] }) (record { num = pos 0; den = pos 1 }) h

  stands_below : scans.StandsAt d special s i k → StandsAt d (scans.heights_of special) s i k
  stands_below at = record {
    within = subst (λ n. i < n) (sym (length-map special (λ (t : SpecialHeight). t.height))) at.within;
    is = subst (λ t. SameFraction s (scans.raised_height d k t)) (sym (height_is at.within)) at.is;
  }

  stands_above : StandsAt d (scans.heights_of special) s i k → scans.StandsAt d special s i k
  stands_above at =
      let within = subst (λ n. i < n) (length-map special (λ (t : SpecialHeight). t.height)) at.within in
      record { within = within; is = subst (λ t. SameFraction s (scans.raised_height d k t)) (height_is within) at.is }

module _ (group : Group) (frame : Frame) (flat : IsFlatGroup (group_listing group)) (line : frame.plane.l ≡ pos 0) where
  abbrev f : Basis
  f = basis_of_frame frame

  abbrev r : Pair
  r = first_two (row_of frame.plane)

  abbrev a : Pair
  a = first_two (parts frame.a)

  abbrev tau : Pair
  tau = first_two (parts frame.tau)

  abbrev d : ℤ
  d = frame.period.0

  row_is : row_of frame.plane ≡ in_space r
  row_is = vector_path refl refl line

  module _ (g : Listing) (of : IsGroupOf g group) (made : IsLineFrameOf g frame.plane frame) where
    f_a : parts frame.a ≡ in_space a
    f_a = vector_path refl refl made.a_flat

    f_tau : parts frame.tau ≡ in_space tau
    f_tau = vector_path refl refl made.tau_flat

    pub context : IsLines g r a tau d f made.scanning
    context = record {
      group = of.is_group;
      coprime = subst IsCoprime row_is frame.plane.coprime;
      flat = flat_modulo g (group_listing group) of.alike flat;
      frame = subst (λ v. IsFrame g v f) row_is made.is_frame;
      f_a = f_a;
      f_tau = f_tau;
      across = made.across;
      along = made.line.along;
      tau_in = made.line.tau_in;
      tau_gives = made.line.tau_gives;
      are_scanning = subst (λ v. AreScanning g v made.scanning) row_is made.are_scanning;
      once_a = λ k l e.
          first_once f frame.right_handed k l
          (ap (multiple k) f_a ∙ multiple_in_space k a ∙ ap in_space e ∙ sym (multiple_in_space l a) ∙ ap (multiple l) (sym f_a));
    }

    period_is : dot (in_space r) f.tau ≡ d
    period_is = ap (λ v. dot v (parts frame.tau)) (sym row_is) ∙ frame.tau_gives

    abbrev ops : List PlaneMotion
    ops = map pair_motion made.scanning

    lowest_mean : IsInLowestForm (line_mean r tau ops) (record { x = fraction_at frame.c 0; y = fraction_at frame.c 1 })
    lowest_mean = record {
      x = record { positive = fraction_at-positive frame.c 0; lowest = fraction_at-lowest frame.c 0; same = subst (λ v. SameFraction (fraction_at frame.c 0) (record { num = v.x; den = UNIT *ℤ pos (length ops) })) total (over (λ n. SameFraction (fraction_at frame.c 0) (record { num = (total_up (row_of frame.plane) (parts frame.tau) made.scanning).x; den = UNIT *ℤ pos n })) made.mean.x) };
      y = record { positive = fraction_at-positive frame.c 1; lowest = fraction_at-lowest frame.c 1; same = subst (λ v. SameFraction (fraction_at frame.c 1) (record { num = v.y; den = UNIT *ℤ pos (length ops) })) total (over (λ n. SameFraction (fraction_at frame.c 1) (record { num = (total_up (row_of frame.plane) (parts frame.tau) made.scanning).y; den = UNIT *ℤ pos n })) made.mean.y) };
    }
      where
        total : total_up (row_of frame.plane) (parts frame.tau) made.scanning ≡ in_space (line_total r tau ops)
        total = ap (λ v. total_up v (parts frame.tau) made.scanning) row_is ∙ total_is g r a tau d f made.scanning context

        over : (P : ℕ → Type 0) → P (length made.scanning) → P (length ops)
        over P h = subst P (sym (length-map made.scanning pair_motion)) h

    module _ (scan : Scan) (same : scan.frame ≡ frame) (at_row : IsScan g (row_of frame.plane) f (scan_of scan)) where
      is : IsScan g (in_space r) f (scan_of scan)
      is = subst (λ v. IsScan g v f (scan_of scan)) row_is at_row

      specials : All (λ h. IsSpecialAt g (in_space r) f (special_of h)) scan.special.items
      specials = special_lists g (in_space r) f scan is

      -- ---- what the code asks

      pub general_ready : AreLineMotions (row_of frame.plane) f (pos 0) (map motion_of scan.general.items)
      general_ready =
          subst (λ v. AreLineMotions v f (pos 0) (map motion_of scan.general.items)) (sym row_is)
          (general_motions g r a tau d f made.scanning context (map motion_of scan.general.items) is.general
          (small_ops (map motion_of scan.general.items) scan.general_small))

      pub steps_ready : All (λ h. (k : ℤ) × IsStep d h.level k) scan.special.items
      steps_ready i e h =
          let t = get_or scan.special.items i e in
          let at = specials i e h in
          let (k, from, below, same) = special_in_steps g (in_space r) f of.is_group context.coprime context.frame (fraction_of t.s) at.in_period at.special in
          (k, step_from d t k at.in_period.positive from below (subst (λ p. SameFraction (fraction_of t.s) (height_in_steps p k)) period_is same))

      pub motions_ready : All (λ h. (k : ℤ) → IsStep d h.level k → AreLineMotions (row_of frame.plane) f k (map motion_of h.ops.items)) scan.special.items
      motions_ready i e h k step =
          let t = get_or scan.special.items i e in
          let at = specials i e h in
          subst (λ v. AreLineMotions v f k (map motion_of t.ops.items)) (sym row_is)
          (special_motions g r a tau d f made.scanning context (fraction_of t.s) at.in_period.positive k (steps_of d t k step) (map motion_of t.ops.items) at.list at.small)

      -- ---- what the code makes

      pairs_of : (k : ℤ) (ms : List Motion) (section : LineSection) → IsSectionOf (row_of frame.plane) f k ms section → map pair_motion ms ≡ map plane_of section.ops.items
      pairs_of k ms section at =
          ap (map pair_motion) at.pairs ∙ map_map plane_block pair_motion (map plane_of section.ops.items) ∙ map_same (map plane_of section.ops.items)

      module _ (general : LineSection) (general_is : IsSectionOf (row_of frame.plane) f (pos 0) (map motion_of scan.general.items) general)
          (hs : List LineHeight) (heights_are : AllZip (IsLineHeightOf (row_of frame.plane) f d) scan.special.items hs) where
        abbrev pub told : lines.LineScan
        told = record {
          row = r;
          a = a;
          tau = tau;
          period = d;
          mean = record { x = fraction_at frame.c 0; y = fraction_at frame.c 1 };
          general = line_section_of general;
          heights = map line_height_of hs;
        }

        heights_same : heights_of (map line_height_of hs) ≡ heights_of_specials scan.special.items
        heights_same =
            map_map line_height_of (λ (h : lines.LineHeight). h.height) hs
            ∙ same_of_zip (IsLineHeightOf (row_of frame.plane) f d) (λ (h : CodeHeight). fraction_of h.s) (λ (h : LineHeight). fraction_of h.s) (λ h l at. at.height) scan.special.items hs heights_are
            ∙ sym (map_map special_of (λ (h : SpecialHeight). h.height) scan.special.items)

        class_of : (s : Height) → scans.IsInOneClass g (in_space r) d (specials_of scan.special.items) s
            → lines.IsInOneClass g r d (heights_of_specials scan.special.items) s
        class_of s (scans.IsInOneClass.general not none) =
            lines.IsInOneClass.general (λ special. not ((special_by_line g context.flat r s).1 special))
            (λ i k at. none i k (stands_above d (specials_of scan.special.items) s i k at))
        class_of s (scans.IsInOneClass.special i k special at only) =
            lines.IsInOneClass.special i k ((special_by_line g context.flat r s).0 special) (stands_below d (specials_of scan.special.items) s i k at)
            (λ j l at'. only j l (stands_above d (specials_of scan.special.items) s j l at'))

        general_list : IsLineList g a tau (FixesEveryLine g r) (map plane_of general.ops.items)
        general_list =
            subst (IsLineList g a tau (FixesEveryLine g r)) (pairs_of (pos 0) (map motion_of scan.general.items) general general_is)
            (line_list g r a tau d f made.scanning context (FixesEveryPlane g (in_space r)) (FixesEveryLine g r) (all_by_lines g context.flat r) (λ m in_it. in_it.0)
            (differs_all g (in_space r)) (map motion_of scan.general.items) is.general)

        abbrev Both : CodeHeight → LineHeight → Type 0
        Both h l = IsSpecialAt g (in_space r) f (special_of h) × IsLineHeightOf (row_of frame.plane) f d h l

        zipped : AllZip Both scan.special.items hs
        zipped = zip_all (λ h. IsSpecialAt g (in_space r) f (special_of h)) (IsLineHeightOf (row_of frame.plane) f d) scan.special.items hs specials heights_are

        list_at : (h : CodeHeight) (l : LineHeight) → Both h l → IsLineList g a tau (InLineStabiliser g r (fraction_of l.s)) (map plane_of l.section.ops.items)
        list_at h l (at, told) =
            subst (λ s. IsLineList g a tau (InLineStabiliser g r s) (map plane_of l.section.ops.items)) (sym told.height)
            (subst (IsLineList g a tau (InLineStabiliser g r (fraction_of h.s))) (pairs_of told.step (map motion_of h.ops.items) l.section told.section)
            (line_list g r a tau d f made.scanning context (InStabiliser g (in_space r) (fraction_of h.s)) (InLineStabiliser g r (fraction_of h.s))
            (stabiliser_by_line g context.flat r (fraction_of h.s)) (λ m in_it. in_it.0) (differs_stabiliser g (in_space r) (fraction_of h.s))
            (map motion_of h.ops.items) at.list))

        type_at : (h : CodeHeight) (l : LineHeight) → Both h l
            → IsFirstFrieze (InLineSectionAt g r a tau d (line_mean r tau ops) (fraction_of l.s)) (line_section_of l.section).found
        type_at h l (at, told) =
            subst (λ s. IsFirstFrieze (InLineSectionAt g r a tau d (line_mean r tau ops) s) (line_section_of l.section).found) (sym told.height)
            (special_type g r a tau d f made.scanning context (fraction_of h.s) at.in_period.positive told.step (steps_of d h told.step told.is_step)
            (map motion_of h.ops.items) at.list told.section.list
            (subst (λ v. AllZip (IsLineOp v f told.step) (map motion_of h.ops.items) told.section.list) row_is told.section.listed)
            (line_section_of l.section).found told.section.first)

        pub told_is : IsLineScan g r told
        told_is = record {
          row = refl;
          frame = made.line;
          scanning = ops;
          are_scanning = are_scanning g r context.flat made.scanning context.are_scanning;
          mean = lowest_mean;
          in_period = subst (All (IsInPeriod d)) (sym heights_same) (subst (λ n. All (IsInPeriod n) (heights_of_specials scan.special.items)) period_is is.in_period);
          rising = subst (AllPairs IsLower) (sym heights_same) is.rising;
          classes = λ s high.
              subst (λ heights. lines.IsInOneClass g r d heights s) (sym heights_same)
              (class_of s (subst (λ n. scans.IsInOneClass g (in_space r) n (specials_of scan.special.items) s) period_is (is.classes s high)));
          general = general_list;
          lists = all_of_zip Both (λ (h : lines.LineHeight). IsLineList g a tau (InLineStabiliser g r h.height) h.section.ops) line_height_of list_at scan.special.items hs zipped;
          general_type =
              general_type g r a tau d f made.scanning context (map motion_of scan.general.items) is.general general_is.list
              (subst (λ v. AllZip (IsLineOp v f (pos 0)) (map motion_of scan.general.items) general_is.list) row_is general_is.listed)
              (line_section_of general).found general_is.first;
          types = all_of_zip Both
              (λ (h : lines.LineHeight). IsFirstFrieze (InLineSectionAt g r a tau d (line_mean r tau ops) h.height) h.section.found) line_height_of type_at scan.special.items hs zipped;
        }

-- the indices, and the fractions of c', however they are written
pub told_so : (g : Listing) (frame : Frame) (c : List Ratio) {h k : ℤ} {general : lines.LineSection} {heights : List lines.LineHeight}
    → h ≡ frame.plane.h → k ≡ frame.plane.k → fraction_at c 0 ≡ fraction_at frame.c 0 → fraction_at c 1 ≡ fraction_at frame.c 1
    → IsLineScan g (first_two (row_of frame.plane)) (record {
      row = first_two (row_of frame.plane);
      a = first_two (parts frame.a);
      tau = first_two (parts frame.tau);
      period = frame.period.0;
      mean = record { x = fraction_at frame.c 0; y = fraction_at frame.c 1 };
      general = general;
      heights = heights;
    })
    → IsLineScan g (first_two (row_of frame.plane)) (record {
      row = record { x = h; y = k };
      a = first_two (parts frame.a);
      tau = first_two (parts frame.tau);
      period = frame.period.0;
      mean = record { x = fraction_at c 0; y = fraction_at c 1 };
      general = general;
      heights = heights;
    })
told_so g frame c {h} {k} {general} {heights} e e' x y so =
    subst (IsLineScan g (first_two (row_of frame.plane))) (λ i. record {
      row = record { x = sym e i; y = sym e' i };
      a = first_two (parts frame.a);
      tau = first_two (parts frame.tau);
      period = frame.period.0;
      mean = record { x = sym x i; y = sym y i };
      general = general;
      heights = heights;
    }) so
