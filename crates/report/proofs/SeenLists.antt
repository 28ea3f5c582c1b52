-- Lists of the motions of a plane, as they are seen, and what is found of the sets that they stand for.
use Rattle.std.proofs.Common.{◌≡◌, ◌↔◌, ℤ, pos, ◌*ℤ◌, ◌≤ℤ◌, List, [], ◌∷◌, get_or, Option, Some, None, Result, Ok, Err, refl, sym, subst, ◌∙◌, arith}
use Rattle.std.specs.Prelude.{All, IfOk, IfSome, IsNone, option_map}
use Rattle.std.specs.List.{AllZip}
use Rattle.std.proofs.lemmas.Int.{ints}
use Rattle.std.proofs.lemmas.List.Elements.{All-from_get_or}
use Rattle.std.proofs.lemmas.Slice.Zip.{AllZip-long}
use Rattle.integers.proofs.Order.{mul_left_cancel_pos, one-le-mul}
use Rattle.integers.proofs.Solver.{Expr.{var, num, ◌⊗◌}, linear, given}
use Rattle.fractions.specs.declared.part.TheConstants.{UNIT}
use Rattle.symmetry.specs.Vectors.{Vector, dot}
use Rattle.symmetry.specs.Motions.{Motion, identity}
use Rattle.symmetry.specs.Planes.{Height, IsHeight}
use Rattle.symmetry.specs.Groups.{Listing, FixesEveryPlane, InStabiliser, SameModulo}
use Rattle.symmetry.specs.Frames.{Basis, IsAtHome, IsFrame, mean_of}
use Rattle.symmetry.specs.Lists.{AreScanning, ListsInPlane}
use Rattle.symmetry.specs.Scans.{SpecialHeight}
use Rattle.symmetry.proofs.HomeLaws.{has_one_at_home}
use Rattle.symmetry.proofs.ListLaws.{lists_in_plane}
use Rattle.symmetry.proofs.PlaneLattice.{differs_all, differs_stabiliser}
use Rattle.quotient.proofs.Zips.{zip_at}
use Rattle.motions.specs.declared.layer.LayerMotion.{LayerMotion}
use Rattle.motions.specs.Rationals.{InSection}
use Rattle.motions.specs.Views.{row_of}
use Rattle.closure.specs.declared.group.Group.{Group}
use Rattle.closure.specs.Groups.{group_listing}
use Rattle.closure.proofs.OwnLattice.{own_group}
use Rattle.plane_lattice.specs.declared.frame.Frame.{Frame}
use Rattle.plane_lattice.specs.FrameOf.{IsMadeFor}
use Rattle.plane_lattice.specs.FrameView.{basis_of_frame}
use Rattle.plane_lattice.specs.Sections.{AreSeenAs, InGeneralSection, InSectionAt, height_in_steps, in_cell, point_at}
use Rattle.plane_lattice.proofs.MadeFrames.{made_frame}
use Rattle.plane_lattice.proofs.SectionFacts.{special_in_steps}
use Rattle.plane_lattice.proofs.SectionLaws.{all_by_list, all_once, keeps_same, stabiliser_by_list, stabiliser_once}
use Rattle.recognition.specs.declared.found.Found.{Found}
use Rattle.recognition.specs.Order.{Change, HasNoChange, IsFirstChange}
use Rattle.recognition.specs.Search.{change_of}
use Rattle.recognition.specs.Sections.{IsSection, IsSmallMotion}
use Rattle.report.specs.FoundChanges.{IsFound, IsGeneralType, IsTypeAt}
use Rattle.report.specs.SectionTypes.{IsAtStep, IsGeneralList, IsOnPlane, IsSeen, IsSpecialList}
use Rattle.report.proofs.SameSets.{first_of_list, found_same}

-- ---- steps

-- the step of a height, told by its numbers and the period
pub step_divides : (d k : ℤ) (s : Height) → IsAtStep d s k → s.den *ℤ d *ℤ k ≡ s.num *ℤ (pos 2 *ℤ UNIT *ℤ UNIT)
step_divides d k s at =
    linear (d ∷ k ∷ s.num ∷ s.den ∷ []) (var 3 ⊗ var 0 ⊗ var 1) (var 2 ⊗ num (pos 2 *ℤ UNIT *ℤ UNIT))
    (given (num (pos 1)) (var 1 ⊗ var 0 ⊗ var 3) (var 2 ⊗ num (pos 2 *ℤ UNIT *ℤ UNIT)) ∷ []) tt (sym at.is, tt)

-- so the quotient is the step
pub step_found : (d k q : ℤ) (s : Height) → pos 1 ≤ℤ d → IsHeight s → IsAtStep d s k → s.den *ℤ d *ℤ q ≡ s.num *ℤ (pos 2 *ℤ UNIT *ℤ UNIT) → q ≡ k
step_found d k q s above high at e = mul_left_cancel_pos (s.den *ℤ d) q k (one-le-mul s.den d high above) (e ∙ sym (step_divides d k s at))

-- ---- sections

module _ (group : Group) (frame : Frame) (made : IsMadeFor group frame) where
  abbrev g : Listing
  g = group_listing group

  abbrev r : Vector
  r = row_of frame.plane

  abbrev f : Basis
  f = basis_of_frame frame

  is_frame : IsFrame g r f
  is_frame = made_frame group frame made

  some_scanning : (ms : List Motion) × AreScanning g r ms
  some_scanning =
      let of = made.2 in
      (of.scanning, subst (λ p. AreScanning g (row_of p) of.scanning) (sym of.plane) of.are_scanning)

  seen_as : (k : ℤ) (ops : List Motion) (section : List LayerMotion) → AllZip (IsSeen g r f k) ops section → (ms : List Motion) → AreScanning g r ms
      → AreSeenAs f (mean_of r f.tau ms) (point_at (dot r f.tau) (height_in_steps (dot r f.tau) k) (in_cell f.tau)) ops section
  seen_as k ops section seen ms scanning = record {
    count = AllZip-long (IsSeen g r f k) ops section seen;
    each = λ i d l. zip_at (IsSeen g r f k) ops section seen i identity d (omega (arith, l, AllZip-long (IsSeen g r f k) ops section seen)) ms scanning;
  }

  step_high : (k : ℤ) → IsHeight (height_in_steps (dot r f.tau) k)
  step_high k = omega (arith, ints)

  -- ---- the general section

  module _ (ops : List Motion) (is : IsGeneralList g r f ops) where
    pub general_on_plane : (k : ℤ) → All (IsOnPlane g r f (height_in_steps (dot r f.tau) k)) ops
    general_on_plane k = All-from_get_or (IsOnPlane g r f (height_in_steps (dot r f.tau) k)) ops identity (λ i l. record {
      small = is.small i identity l;
      home = (is.list.listed i l).1;
      member = (is.list.listed i l).0.0;
      keeps = (is.list.listed i l).0.1 (height_in_steps (dot r f.tau) k) (step_high k);
    })

    general_lists : ListsInPlane g r (FixesEveryPlane g r) ops
    general_lists =
        lists_in_plane (SameModulo g) g.ops (IsAtHome f) (FixesEveryPlane g r) ops g r (has_one_at_home g r f is_frame (FixesEveryPlane g r) (differs_all g r)) is.list

    module _ (section : List LayerMotion) (seen : AllZip (IsSeen g r f (pos 0)) ops section) where
      pub general_section : All IsSmallMotion section → IsSection section
      general_section small = record {
        small = small;
        once = λ i j d before within same.
            all_once g r f some_scanning.0 (own_group group) frame.plane.coprime is_frame some_scanning.1 ops section general_lists
            (seen_as (pos 0) ops section seen some_scanning.0 some_scanning.1) i j d before within
            (record { matrix = same.matrix; side = same.side; translation = same.translation });
      }

      pub general_found : (o : Option Change) → IsFound (InSection section) o → IsGeneralType g r f o
      general_found o h ms scanning s high =
          found_same (InSection section) (InGeneralSection g r f (mean_of r f.tau ms) s)
          (λ op. let by_list = all_by_list g r f ms (own_group group) frame.plane.coprime is_frame scanning s high ops section general_lists
          (seen_as (pos 0) ops section seen ms scanning) op in (by_list.1, by_list.0)) o h

  -- ---- the section of a special height

  module _ (h : SpecialHeight) (is : IsSpecialList g r f h) where
    abbrev s : Height
    s = h.height

    abbrev ops : List Motion
    ops = h.ops

    pub some_step : (k : ℤ) × IsAtStep (dot r f.tau) s k
    some_step =
        let step = special_in_steps g r f (own_group group) frame.plane.coprime is_frame s is.in_period is.special in
        (step.0, record { from = step.1; below = step.2; is = step.3 })

    special_lists : ListsInPlane g r (InStabiliser g r s) ops
    special_lists =
        lists_in_plane (SameModulo g) g.ops (IsAtHome f) (InStabiliser g r s) ops g r
        (has_one_at_home g r f is_frame (InStabiliser g r s) (differs_stabiliser g r s)) is.list

    module _ (k : ℤ) (at : IsAtStep (dot r f.tau) s k) where
      pub special_on_plane : All (IsOnPlane g r f (height_in_steps (dot r f.tau) k)) ops
      special_on_plane = All-from_get_or (IsOnPlane g r f (height_in_steps (dot r f.tau) k)) ops identity (λ i l. record {
        small = is.small i identity l;
        home = (is.list.listed i l).1;
        member = (is.list.listed i l).0.0;
        keeps = keeps_same r s (height_in_steps (dot r f.tau) k) is.in_period.positive (step_high k) at.is (get_or ops i identity) (is.list.listed i l).0.1;
      })

      module _ (section : List LayerMotion) (seen : AllZip (IsSeen g r f k) ops section) where
        pub special_section : All IsSmallMotion section → IsSection section
        special_section small = record {
          small = small;
          once = λ i j d before within same.
              stabiliser_once g r f some_scanning.0 (own_group group) frame.plane.coprime is_frame some_scanning.1 s (height_in_steps (dot r f.tau) k)
              is.in_period.positive (step_high k) at.is ops section special_lists (seen_as k ops section seen some_scanning.0 some_scanning.1)
              i j d before within (record { matrix = same.matrix; side = same.side; translation = same.translation });
        }

        pub special_found : (o : Option Change) → IsFound (InSection section) o → IsTypeAt g r f s o
        special_found o found ms scanning =
            found_same (InSection section) (InSectionAt g r f (mean_of r f.tau ms) s)
            (λ op. let by_list = stabiliser_by_list g r f ms (own_group group) frame.plane.coprime is_frame scanning s (height_in_steps (dot r f.tau) k)
            is.in_period.positive (step_high k) at.is ops section special_lists (seen_as k ops section seen ms scanning) op in (by_list.1, by_list.0)) o found

-- ---- what recognition answers

answered : (section : List LayerMotion) (o : Option Found) → IfSome o (λ f. IsFirstChange section (change_of f)) → (IsNone o ↔ HasNoChange section)
    → IsFound (InSection section) (option_map change_of o)
answered section (Some f) first none = first_of_list section (change_of f) first
answered section None first none = none.0 refl

-- what follows from the first change of a section, or from its want
pub found_in : {E : Type 0} (section : List LayerMotion) (result : Result (Option Found) E) (P : Option Change → Type 0)
    → ((o : Option Change) → IsFound (InSection section) o → P o)
    → IfOk result (λ o. IfSome o (λ f. IsFirstChange section (change_of f))) → IfOk result (λ o. IsNone o ↔ HasNoChange section)
    → IfOk result (λ o. P (option_map change_of o))
found_in section (Ok o) P follows first none = follows (option_map change_of o) (answered section o first none)
found_in section (Err e) P follows first none = tt
