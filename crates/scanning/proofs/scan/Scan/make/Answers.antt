-- What is made of the motions at home is a scan.
use Rattle.std.proofs.Common.{map, refl, subst, sym}
use Rattle.symmetry.proofs.AlikeScans.{scan_from}
use Rattle.motions.specs.Views.{motion_of, row_of}
use Rattle.closure.specs.Groups.{group_listing}
use Rattle.plane_lattice.specs.FrameView.{basis_of_frame}
use Rattle.scanning.specs.Members.{AreSameMotions}
use Rattle.scanning.proofs.MadeHeights.{are_in_period, are_rising}
use Rattle.scanning.proofs.MadeScans.{general_list, general_rows, general_small, made_scan, special_rows, special_small}
use Rattle.scanning.proofs.scan.Scan.make.Goals as goal

pub invariant_of-result : goal.invariant_of-result
invariant_of-result c =
    let group = c.args.group.now in
    let frame = c.args.frame.now in
    let g = group_listing group in
    let known = c.homes.ensures.group in
    let homes = map motion_of c.deref.result.now in
    let homes' = map motion_of c.deref-2.result.now in
    let same : AreSameMotions g g.ops homes =
    subst (λ ms. AreSameMotions g g.ops (map motion_of ms)) (sym c.deref.ensures.value) c.in_ok-homes.ensures.same in
    let same' : AreSameMotions g g.ops homes' =
    subst (λ ms. AreSameMotions g g.ops (map motion_of ms)) (sym c.deref-2.ensures.value) c.in_ok-homes.ensures.same in
    let general = c.in_ok-general.general.items in
    let special = c.in_ok-special.special.items in
    let are = c.in_ok-special.ensures in record {
      in_period = are_in_period frame homes' special are;
      rising = are_rising frame homes' special are;
      general_small = general_small frame g c.requires known group.apart homes same general c.in_ok-general.ensures group.small;
      special_small = special_small frame g c.requires known group.apart homes' same' special are group.small;
      general_rows = ∣ general_rows frame g c.requires known group.apart homes same general c.in_ok-general.ensures ∣₁;
      special_rows = ∣ special_rows frame g c.requires known group.apart homes' same' special are ∣₁;
    }

pub returns : goal.returns
returns c = λ h of.
    let group = c.args.group.now in
    let frame = c.args.frame.now in
    let g = group_listing group in
    let known = c.homes.ensures.group in
    let homes = map motion_of c.deref.result.now in
    let homes' = map motion_of c.deref-2.result.now in
    let same : AreSameMotions g g.ops homes =
    subst (λ ms. AreSameMotions g g.ops (map motion_of ms)) (sym c.deref.ensures.value) c.in_ok-homes.ensures.same in
    let same' : AreSameMotions g g.ops homes' =
    subst (λ ms. AreSameMotions g g.ops (map motion_of ms)) (sym c.deref-2.ensures.value) c.in_ok-homes.ensures.same in
    let general = c.in_ok-general.general.items in record {
      frame_is = refl;
      is = scan_from h g of.alike (row_of frame.plane) (basis_of_frame frame) _
          (made_scan frame g c.requires known group.apart homes' same' c.in_ok-special.special.items c.in_ok-special.ensures general
          (general_list frame g c.requires known group.apart homes same general c.in_ok-general.ensures));
    }
