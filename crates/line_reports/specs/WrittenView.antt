-- What the values say that are written.
use Rattle.std.specs.Prelude.{List}
use Rattle.fractions.specs.declared.ratio.Ratio.{Ratio}
use Rattle.fractions.specs.FractionOf.{fraction_of}
use Rattle.fractions.specs.Fractions.{fraction_at}
use Rattle.motions.specs.PlaneMatrices.{Pair}
use Rattle.line_scans.specs.LineScans.{TwoFractions}
use Rattle.line_reports.specs.declared.written.InEdges.{InEdges}
use Rattle.line_reports.specs.declared.written.InParts.{InParts}
use Rattle.line_reports.specs.declared.written.Indices.{Indices}

-- the two entries of an array of ratios
abbrev pub two_fractions_of : List Ratio → TwoFractions
two_fractions_of c = record { x = fraction_at c 0; y = fraction_at c 1 }

-- the vector, in parts
abbrev pub parts_of : InParts → Pair
parts_of v = record { x = v.x.0; y = v.y.0 }

-- the vector, in cell edges
abbrev pub edges_of : InEdges → TwoFractions
edges_of v = record { x = fraction_of v.x; y = fraction_of v.y }

-- the two numbers
abbrev pub indices_of : Indices → Pair
indices_of v = record { x = v.h; y = v.k }
