-- Special heights, the numbers of their orbits and their types, place by place.
use Rattle.std.proofs.Common.{◌≡◌, ℕ, List, [], ◌∷◌, length, map, Option, refl, ap, arith}
use Rattle.std.specs.Prelude.{All, option_map}
use Rattle.std.specs.List.{AllZip, zip}
use Rattle.std.proofs.lemmas.List.Elements.{All-cons}
use Rattle.fractions.specs.FractionOf.{fraction_of}
use Rattle.symmetry.specs.Planes.{Height as HeightOfPlane}
use Rattle.recognition.specs.declared.found.Found.{Found}
use Rattle.recognition.specs.Order.{Change}
use Rattle.recognition.specs.Search.{change_of}
use Rattle.scanning.specs.declared.height.Height.{Height}
use Rattle.scanning.specs.HeightView.{heights_of_specials, special_of, specials_of}
use Rattle.report.specs.Numbered.{numbered}
use Rattle.report.specs.Reports.{HeightBlock, block_orbits, special_of_block}
use Rattle.report.specs.SectionView.{block_of, levels_of_sections}

pub specials_of_numbered : (hs : List Height) (ns : List ℕ) (os : List (Option Found)) → length ns ≡ length hs → length os ≡ length hs
    → map special_of_block (map block_of (map numbered (zip hs (zip ns os)))) ≡ specials_of hs
specials_of_numbered [] ns os e l = refl
specials_of_numbered (h ∷ hs) [] os e l = absurd (omega arith)
specials_of_numbered (h ∷ hs) (n ∷ ns) [] e l = absurd (omega arith)
specials_of_numbered (h ∷ hs) (n ∷ ns) (o ∷ os) e l = ap (λ xs. special_of h ∷ xs) (specials_of_numbered hs ns os (omega arith) (omega arith))

pub levels_of_numbered : (hs : List Height) (ns : List ℕ) (os : List (Option Found)) → length ns ≡ length hs → length os ≡ length hs
    → levels_of_sections (map numbered (zip hs (zip ns os))) ≡ heights_of_specials hs
levels_of_numbered [] ns os e l = refl
levels_of_numbered (h ∷ hs) [] os e l = absurd (omega arith)
levels_of_numbered (h ∷ hs) (n ∷ ns) [] e l = absurd (omega arith)
levels_of_numbered (h ∷ hs) (n ∷ ns) (o ∷ os) e l = ap (λ xs. (special_of h).height ∷ xs) (levels_of_numbered hs ns os (omega arith) (omega arith))

pub orbits_of_numbered : (hs : List Height) (ns : List ℕ) (os : List (Option Found)) → length ns ≡ length hs → length os ≡ length hs
    → block_orbits (map block_of (map numbered (zip hs (zip ns os)))) ≡ ns
orbits_of_numbered [] [] os e l = refl
orbits_of_numbered [] (n ∷ ns) os e l = absurd (omega arith)
orbits_of_numbered (h ∷ hs) [] os e l = absurd (omega arith)
orbits_of_numbered (h ∷ hs) (n ∷ ns) [] e l = absurd (omega arith)
orbits_of_numbered (h ∷ hs) (n ∷ ns) (o ∷ os) e l = ap (λ xs. n ∷ xs) (orbits_of_numbered hs ns os (omega arith) (omega arith))

-- what holds of each height and what was found there holds of each block
pub types_of_numbered : (P : HeightOfPlane → Option Change → Type 0) (hs : List Height) (ns : List ℕ) (os : List (Option Found))
    → AllZip (λ h o. P (fraction_of h.s) (option_map change_of o)) hs os
    → All (λ (block : HeightBlock). P block.height block.section.found) (map block_of (map numbered (zip hs (zip ns os))))
types_of_numbered P [] ns os h = λ k d l. absurd (omega arith)
types_of_numbered P (x ∷ hs) [] os h = λ k d l. absurd (omega arith)
types_of_numbered P (x ∷ hs) (n ∷ ns) [] h = λ k d l. absurd (omega arith)
types_of_numbered P (x ∷ hs) (n ∷ ns) (o ∷ os) h =
    All-cons (λ (block : HeightBlock). P block.height block.section.found) (block_of (numbered (x, (n, o)))) (map block_of (map numbered (zip hs (zip ns os)))) h.0
    (types_of_numbered P hs ns os h.1)
