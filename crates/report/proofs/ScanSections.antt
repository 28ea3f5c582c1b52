-- What a scan tells of the sections.
use Rattle.std.proofs.Common.{ℕ, ◌<◌, ℤ, pos, [], ◌∷◌, length, map, subst, arith}
use Rattle.std.specs.Prelude.{All}
use Rattle.std.proofs.lemmas.List.{get_or-map, length-map}
use Rattle.std.proofs.lemmas.List.Elements.{All-weaker}
use Rattle.integers.proofs.Solver.{Expr.{var, num, ◌⊕◌, ◌⊗◌}, ring}
use Rattle.fractions.specs.declared.part.TheConstants.{UNIT}
use Rattle.fractions.specs.Fraction.{SameFraction}
use Rattle.symmetry.specs.Vectors.{Vector, dot}
use Rattle.symmetry.specs.Motions.{Motion}
use Rattle.symmetry.specs.Planes.{Height}
use Rattle.symmetry.specs.Groups.{Listing}
use Rattle.symmetry.specs.Frames.{Basis, IsSpecial}
use Rattle.symmetry.specs.Scans.{IsInOneClass, IsScan, Scan as ScanOfPlanes, SpecialHeight, raised_height, special_at}
use Rattle.symmetry.specs.Sizes.{IsSmall}
use Rattle.symmetry.proofs.Heights.{at_in_period}
use Rattle.motions.specs.Views.{motion_of}
use Rattle.closure.specs.Operations.{HasSmallEntries}
use Rattle.scanning.specs.declared.scan.Scan.{Scan}
use Rattle.scanning.specs.HeightView.{special_of, specials_of}
use Rattle.scanning.specs.ScanView.{scan_of}
use Rattle.report.specs.SectionTypes.{IsGeneralList, IsSpecialList}

-- a height stands over itself
over_itself : (d : ℤ) (s : Height) → SameFraction s (raised_height d (pos 0) s)
over_itself d s =
    ring (s.num ∷ s.den ∷ d ∷ []) (var 0 ⊗ (var 1 ⊗ num UNIT)) ((var 0 ⊗ num UNIT ⊕ num (pos 0) ⊗ var 2 ⊗ var 1) ⊗ var 1) tt

-- what stands at no place of a list
abbrev no_height : SpecialHeight
no_height = record { height = record { num = pos 0; den = pos 1 }; ops = [] }

module _ (g : Listing) (r : Vector) (f : Basis) where
  -- a listed height is special
  listed_special : (scan : ScanOfPlanes) → IsScan g r f scan → (i : ℕ) → i < length scan.special → IsSpecial g r (special_at scan.special i).height
  listed_special scan is i l =
      let s = (special_at scan.special i).height in
      of_class (is.classes s (at_in_period (dot r f.tau) scan.special is.in_period is.rising i l).positive)
    where
      of_class : IsInOneClass g r (dot r f.tau) scan.special (special_at scan.special i).height → IsSpecial g r (special_at scan.special i).height
      of_class (IsInOneClass.general not none) =
          absurd (none i (pos 0) (record { within = l; is = over_itself (dot r f.tau) (special_at scan.special i).height }))
      of_class (IsInOneClass.special j k special stands only) = special

  module _ (scan : Scan) (is : IsScan g r f (scan_of scan)) where
    pub general_list : IsGeneralList g r f (map motion_of scan.general.items)
    general_list = record {
      small = All-weaker HasSmallEntries IsSmall (λ (m : Motion) (small : HasSmallEntries m). small.small) (map motion_of scan.general.items) scan.general_small;
      list = is.general;
    }

    pub special_lists : All (λ h. IsSpecialList g r f (special_of h)) scan.special.items
    special_lists i d l =
        let hs = scan.special.items in
        let within : i < length (specials_of hs) = omega (arith, length-map hs special_of) in
        subst (IsSpecialList g r f) (get_or-map special_of hs i d no_height l)
        (record {
          small = λ k m h. (scan.special_small i no_height within k m h).small;
          list = is.lists i no_height within;
          in_period = at_in_period (dot r f.tau) (specials_of hs) is.in_period is.rising i within;
          special = listed_special (scan_of scan) is i within;
        })
