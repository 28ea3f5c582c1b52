-- What is written of a slab.
use Rattle.std.specs.Prelude.{ℕ, List, ◌++◌, codes, flat_map}
use Rattle.fractions.specs.RatioText.{ratio_text}
use Rattle.symmetry.specs.Motions.{Motion}
use Rattle.symmetry.specs.Planes.{Height}
use Rattle.slabs.specs.Slabs.{half_sum}
use Rattle.report.specs.Texts.{operation_line}

-- the heights of the slab, that of its middle, the operations, one a line, and the end
abbrev pub slab_text : Height → Height → List Motion → List ℕ
slab_text low high ops =
    codes "slab " ++ ratio_text low ++ codes " " ++ ratio_text high ++ codes "\n" ++
    codes "middle " ++ ratio_text (half_sum low high) ++ codes "\n" ++ flat_map operation_line ops ++ codes "end\n"
