use Rattle.std.proofs.Common.{map, refl, sym, ap, subst, ◌∙◌}
use Rattle.std.specs.Prelude.{All}
use Rattle.symmetry.specs.Scans.{IsInPeriod}
use Rattle.motions.specs.Views.{motion_of}
use Rattle.scanning.specs.HeightView.{IsInHalves}
use Rattle.scanning.proofs.MadeHeights.{in_halves}
use Rattle.report.specs.Reports.{block_orbits, special_of_block}
use Rattle.report.specs.SectionView.{block_of, levels_of_sections}
use Rattle.report.proofs.NumberedHeights.{levels_of_numbered, orbits_of_numbered, specials_of_numbered}
use Rattle.report.proofs.make.show.Goals as goal

pub invariant_of-result : goal.invariant_of-result
invariant_of-result c =
    let scan = c.args.scan in
    let levels = sym (ap levels_of_sections c.in_ok-numbered.ensures
    ∙ levels_of_numbered scan.special.items c.args.orbits.of.items c.args.types.items c.requires.orbits c.requires.types) in
    record {
      in_period = subst (All (IsInPeriod scan.frame.period.0)) levels scan.in_period;
      halves = subst (All IsInHalves) levels (in_halves scan.special.items);
    }

pub returns : goal.returns
returns c =
    let scan = c.args.scan in
    let of = c.args.orbits.of.items in
    let types = c.args.types.items in
    record {
      same_frame = refl;
      same_scan = ap (λ hs. record { general = map motion_of scan.general.items; special = map special_of_block (map block_of hs) }) c.in_ok-numbered.ensures
          ∙ ap (λ hs. record { general = map motion_of scan.general.items; special = hs })
          (specials_of_numbered scan.special.items of types c.requires.orbits c.requires.types);
      same_orbits = ap (λ hs. block_orbits (map block_of hs)) c.in_ok-numbered.ensures
          ∙ orbits_of_numbered scan.special.items of types c.requires.orbits c.requires.types;
      same_planes = refl;
      same_general = refl;
      same_heights = c.in_ok-numbered.ensures;
    }
