-- The sections of a plane group along its lines, and their first changes onto frieze types.
use Rattle.std.proofs.Common.{◌≡◌, ◌↔◌, ℕ, ◌<◌, ℤ, pos, ◌*ℤ◌, ◌≤ℤ◌, List, get_or, length, map, refl, sym, subst, ◌∙◌, arith}
use Rattle.std.specs.List.{AllZip}
use Rattle.std.specs.Prelude.{All}
use Rattle.std.proofs.lemmas.Int.{ints}
use Rattle.std.proofs.lemmas.List.{get_or_default}
use Rattle.std.proofs.lemmas.Slice.Zip.{AllZip-long}
use Rattle.fractions.specs.declared.part.TheConstants.{UNIT}
use Rattle.fractions.specs.Fraction.{SameFraction}
use Rattle.integers.proofs.Order.{one-le-mul}
use Rattle.symmetry.specs.Motions.{Motion, identity}
use Rattle.symmetry.specs.Planes.{Height, IsHeight}
use Rattle.symmetry.specs.Groups.{Listing, FixesEveryPlane, InStabiliser, IsMember, SameModulo}
use Rattle.symmetry.specs.Frames.{Basis, DiffersInPlane, IsAtHome}
use Rattle.symmetry.specs.Lists.{IsListOf, motion_at}
use Rattle.symmetry.specs.Sizes.{IsSmall}
use Rattle.symmetry.proofs.PlaneLattice.{differs_all, differs_stabiliser}
use Rattle.quotient.proofs.Zips.{zip_at}
use Rattle.motions.specs.PlaneMatrices.{Pair, in_space}
use Rattle.plane_lattice.specs.Sections.{height_in_steps}
use Rattle.plane_motions.specs.PlaneMotions.{IsFlat, PlaneMotion, plane_block}
use Rattle.friezes.specs.declared.line_op.LineOp.{LineOp}
use Rattle.friezes.specs.Lines.{line_of}
use Rattle.friezes.specs.RationalLines.{IsListedLine, IsRationalLine, RationalLine}
use Rattle.friezes.specs.Changes.{CarriesOnto, grid_part}
use Rattle.friezes.specs.Order.{Change, IsFirst}
use Rattle.friezes.specs.Sections.{IsSection}
use Rattle.friezes.specs.Types.{HasChange, IsOfFriezeType}
use Rattle.line_scans.specs.Lines.{FixesEveryLine, InLineStabiliser, PlanePoint}
use Rattle.line_scans.specs.LineLists.{plane_at}
use Rattle.line_scans.specs.LineOps.{AreLineMotions, HasLineOp, IsLineOp}
use Rattle.line_scans.specs.LineSections.{ActsAlong, ActsFrom, InGeneralLineSection, InLineSectionAt, IsFirstFrieze, in_edges2, point_at2}
use Rattle.line_scans.proofs.LineActions.{rational_line}
use Rattle.line_scans.proofs.LineContexts.{IsLines, above_d, block_at, c, count, flat_at, level_a, listed_at, mean_kept, mean_stays, once, over_c, up}
use Rattle.line_scans.proofs.LineGroups.{IsLineGroup, is_section, section_is}
use Rattle.line_scans.proofs.LineOps.{acts_at, acts_generally, some_op}
use Rattle.line_scans.proofs.LineStabilisers.{all_group, stabiliser_group}
use Rattle.line_scans.proofs.PlaneBridges.{all_by_lines, pair_motion, stabiliser_by_line}

-- sets of the same motions have the same first change
first_same : (Has Other : RationalLine → Type 0) → ((op : RationalLine) → IsRationalLine op → Has op ↔ Other op) → (change : Change)
    → IsFirstFrieze Has change → IsFirstFrieze Other change
first_same Has Other same change h = record {
  bounded = h.bounded;
  has = to change h.has;
  first = λ d bounded has. h.first d bounded (from d has);
}
  where
    to : (d : Change) → CarriesOnto Has (IsOfFriezeType d.number) (grid_part d.x) → CarriesOnto Other (IsOfFriezeType d.number) (grid_part d.x)
    to d h op rational = (λ is. (h op rational).0 ((same op rational).1 is), λ like. (same op rational).0 ((h op rational).1 like))

    from : (d : Change) → CarriesOnto Other (IsOfFriezeType d.number) (grid_part d.x) → CarriesOnto Has (IsOfFriezeType d.number) (grid_part d.x)
    from d h op rational = (λ is. (h op rational).0 ((same op rational).0 is), λ like. (same op rational).1 ((h op rational).1 like))

module _ (g : Listing) (r a tau : Pair) (d : ℤ) (f : Basis) (scanning : List Motion) (x : IsLines g r a tau d f scanning) where
  abbrev mean : PlanePoint
  mean = c g r a tau d f scanning x

  -- the list of a set of members, seen k steps along tau, where what is told of each is what it does from the point o
  module _ (S : Motion → Type 0) (S2 : PlaneMotion → Type 0) (same : (m : PlaneMotion) → S (plane_block m) ↔ S2 m) (members : (m : Motion) → S m → IsMember g m)
      (closed : (m n : Motion) → DiffersInPlane g (in_space r) m n → S m → S n) (group : IsLineGroup a S2)
      (ms : List Motion) (list : IsListOf (SameModulo g) g.ops (IsAtHome f) S ms)
      (k : ℤ) (o : PlanePoint) (above : pos 1 ≤ℤ o.over)
      (acts : (m : PlaneMotion) (op : LineOp) → S2 m → IsLineOp (in_space r) f k (plane_block m) op → ActsAlong a mean o m (rational_line (line_of op))) where
    each : (ops : List LineOp) → AllZip (IsLineOp (in_space r) f k) ms ops → (i : ℕ) (d : LineOp) → i < length (map pair_motion ms)
        → ActsAlong a mean o (plane_at (map pair_motion ms) i) (rational_line (line_of (get_or ops i d)))
    each ops zip i e h =
        let l : i < length ms = subst (λ n. i < n) (count g r a tau d f scanning x S S2 same members closed ms list) h in
        acts (plane_at (map pair_motion ms) i) (get_or ops i e) (listed_at g r a tau d f scanning x S S2 same members closed ms list i l)
        (subst (λ m. IsLineOp (in_space r) f k m (get_or ops i e)) (block_at g r a tau d f scanning x S S2 same members closed ms list i l)
        (zip_at (IsLineOp (in_space r) f k) ms ops zip i identity e (omega (arith, l, AllZip-long (IsLineOp (in_space r) f k) ms ops zip))))

    counted : (ops : List LineOp) → AllZip (IsLineOp (in_space r) f k) ms ops → length ops ≡ length (map pair_motion ms)
    counted ops zip = AllZip-long (IsLineOp (in_space r) f k) ms ops zip ∙ sym (count g r a tau d f scanning x S S2 same members closed ms list)

    listed : (i : ℕ) → i < length (map pair_motion ms) → S2 (plane_at (map pair_motion ms) i)
    listed i h = listed_at g r a tau d f scanning x S S2 same members closed ms list i (subst (λ n. i < n) (count g r a tau d f scanning x S S2 same members closed ms list) h)

    pub told_section : (ops : List LineOp) → AllZip (IsLineOp (in_space r) f k) ms ops → IsSection ops
    told_section ops zip =
        is_section r a mean o (level_a g r a tau d f scanning x) (up g r a tau d f scanning x) above x.once_a S2 group (map pair_motion ms) ops listed
        (once g r a tau d f scanning x S S2 same members closed ms list) (counted ops zip) (each ops zip)

    pub first_told : (ops : List LineOp) → AllZip (IsLineOp (in_space r) f k) ms ops → (change : Change) → IsFirst (HasChange ops) change
        → IsFirstFrieze (ActsFrom S2 a mean o) change
    first_told ops zip change first =
        first_same (IsListedLine ops) (ActsFrom S2 a mean o)
        (section_is r a mean o (level_a g r a tau d f scanning x) (up g r a tau d f scanning x) above x.once_a S2 group (map pair_motion ms) ops listed
        (once g r a tau d f scanning x S S2 same members closed ms list) (counted ops zip) (each ops zip))
        change (record { bounded = first.bounded; has = first.has; first = first.first })

    pub line_motions : All IsSmall ms → ((m : PlaneMotion) → S2 m → HasLineOp (in_space r) f k (plane_block m)) → AreLineMotions (in_space r) f k ms
    line_motions small have = record {
      small = small;
      flat = λ i e h. subst IsFlat (sym (at i e h)) (flat_at g r a tau d f scanning x S S2 same members closed ms list i h);
      have = λ i e h.
          subst (HasLineOp (in_space r) f k) (sym (at i e h ∙ block_at g r a tau d f scanning x S S2 same members closed ms list i h))
          (have (plane_at (map pair_motion ms) i) (listed_at g r a tau d f scanning x S S2 same members closed ms list i h));
      section = told_section;
    }
      where
        at : (i : ℕ) (e : Motion) → i < length ms → get_or ms i e ≡ motion_at ms i
        at i e h = get_or_default ms i e identity h

  -- ---- at a height that is k steps above the origin

  module _ (s : Height) (high : IsHeight s) (k : ℤ) (steps : SameFraction s (height_in_steps d k)) (ms : List Motion)
      (list : IsListOf (SameModulo g) g.ops (IsAtHome f) (InStabiliser g (in_space r) s) ms) where
    abbrev at : PlanePoint
    at = point_at2 d s (in_edges2 tau)

    above_at : pos 1 ≤ℤ at.over
    above_at = one-le-mul (s.den *ℤ d) UNIT (one-le-mul s.den d high (above_d g r a tau d f scanning x)) (omega (arith, ints))

    acts_here : (m : PlaneMotion) (op : LineOp) → InLineStabiliser g r s m → IsLineOp (in_space r) f k (plane_block m) op
        → ActsAlong a mean at m (rational_line (line_of op))
    acts_here m op in_it is =
        acts_at r a tau d mean f x.f_a x.f_tau m k op is (mean_kept g r a tau d f scanning x m in_it.0 op.e is.across) s steps

    pub special_motions : All IsSmall ms → AreLineMotions (in_space r) f k ms
    special_motions small =
        line_motions (InStabiliser g (in_space r) s) (InLineStabiliser g r s) (stabiliser_by_line g x.flat r s) (λ m in_it. in_it.0) (differs_stabiliser g (in_space r) s)
        (stabiliser_group g r a x.group x.coprime x.flat x.along s high) ms list k at above_at acts_here small
        (λ m in_it. some_op g r a tau d x.group x.coprime x.flat x.along x.once_a x.tau_in x.tau_gives f x.f_a x.f_tau s high k steps m in_it)

    pub special_type : (ops : List LineOp) → AllZip (IsLineOp (in_space r) f k) ms ops → (change : Change) → IsFirst (HasChange ops) change
        → IsFirstFrieze (InLineSectionAt g r a tau d mean s) change
    special_type =
        first_told (InStabiliser g (in_space r) s) (InLineStabiliser g r s) (stabiliser_by_line g x.flat r s) (λ m in_it. in_it.0) (differs_stabiliser g (in_space r) s)
        (stabiliser_group g r a x.group x.coprime x.flat x.along s high) ms list k at above_at acts_here

  -- ---- in general

  module _ (ms : List Motion) (list : IsListOf (SameModulo g) g.ops (IsAtHome f) (FixesEveryPlane g (in_space r)) ms) where
    abbrev bottom : Height
    bottom = height_in_steps d (pos 0)

    high_bottom : IsHeight bottom
    high_bottom = omega (arith, ints)

    above_general : (s : Height) → IsHeight s → pos 1 ≤ℤ (point_at2 d s mean).over
    above_general s high = one-le-mul (s.den *ℤ d) mean.over (one-le-mul s.den d high (above_d g r a tau d f scanning x)) (over_c g r a tau d f scanning x)

    acts_there : (s : Height) (m : PlaneMotion) (op : LineOp) → FixesEveryLine g r m → IsLineOp (in_space r) f (pos 0) (plane_block m) op
        → ActsAlong a mean (point_at2 d s mean) m (rational_line (line_of op))
    acts_there s m op fixes is =
        acts_generally r a tau d mean f x.f_a x.f_tau m (pos 0) op is (mean_kept g r a tau d f scanning x m fixes.0 op.e is.across) refl
        (mean_stays g r a tau d f scanning x m fixes op.e is.across) s

    pub general_motions : All IsSmall ms → AreLineMotions (in_space r) f (pos 0) ms
    general_motions small =
        line_motions (FixesEveryPlane g (in_space r)) (FixesEveryLine g r) (all_by_lines g x.flat r) (λ m in_it. in_it.0) (differs_all g (in_space r))
        (all_group g r a x.group x.coprime x.flat x.along) ms list (pos 0) (point_at2 d bottom mean) (above_general bottom high_bottom) (acts_there bottom) small
        (λ m fixes. some_op g r a tau d x.group x.coprime x.flat x.along x.once_a x.tau_in x.tau_gives f x.f_a x.f_tau bottom high_bottom (pos 0) refl m
        (fixes.0, fixes.1 bottom high_bottom))

    pub general_type : (ops : List LineOp) → AllZip (IsLineOp (in_space r) f (pos 0)) ms ops → (change : Change) → IsFirst (HasChange ops) change
        → (s : Height) → IsHeight s → IsFirstFrieze (InGeneralLineSection g r a d mean s) change
    general_type ops zip change first s high =
        first_told (FixesEveryPlane g (in_space r)) (FixesEveryLine g r) (all_by_lines g x.flat r) (λ m in_it. in_it.0) (differs_all g (in_space r))
        (all_group g r a x.group x.coprime x.flat x.along) ms list (pos 0) (point_at2 d s mean) (above_general s high) (acts_there s) ops zip change first
