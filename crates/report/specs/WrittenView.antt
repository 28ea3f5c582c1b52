-- What the values say that are written.
use Rattle.std.specs.Prelude.{if◌then◌else◌}
use Rattle.fractions.specs.FractionOf.{fraction_of}
use Rattle.fractions.specs.Fractions.{Fractions}
use Rattle.symmetry.specs.Vectors.{Vector}
use Rattle.report.specs.TypeVectors.{opposite_fractions}
use Rattle.report.specs.declared.written.Directed.{Directed}
use Rattle.report.specs.declared.written.InParts.{InParts}
use Rattle.report.specs.declared.written.InEdges.{InEdges}
use Rattle.report.specs.declared.written.Indices.{Indices}

-- the vector, in parts
abbrev pub parts_of : InParts → Vector
parts_of v = record { x = v.x.0; y = v.y.0; z = v.z.0 }

-- the vector, in cell edges
abbrev pub edges_of : InEdges → Fractions
edges_of v = record { x = fraction_of v.x; y = fraction_of v.y; z = fraction_of v.z }

-- the vector or the opposite one, in cell edges
abbrev pub directed_of : Directed → Fractions
directed_of d = if d.opposite then opposite_fractions (edges_of d.v) else edges_of d.v

-- the three numbers
abbrev pub indices_of : Indices → Vector
indices_of v = record { x = v.h; y = v.k; z = v.l }
