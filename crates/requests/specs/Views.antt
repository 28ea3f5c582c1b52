-- What the values of the code say.
use Rattle.std.specs.Prelude.{ℕ}
use Rattle.std.specs.Option.{option_map}
use Rattle.fractions.specs.FractionOf.{fraction_of}
use Rattle.fractions.specs.declared.ratio.Ratio.{Ratio}
use Rattle.fractions.specs.Fractions.{Fractions}
use Rattle.motions.specs.Views.{parts, row_of}
use Rattle.motions.specs.BasisView.{basis_of}
use Rattle.penetration.specs.DirectionView.{direction_of}
use Rattle.triplets.specs.declared.notation.Notation.TheVariants.{Pairs}
use Rattle.requests.specs.declared.request.Format.TheVariants.{GroupText}
use Rattle.requests.specs.declared.words.VectorWord.{VectorWord}
use Rattle.requests.specs.declared.words.FrameWord.{FrameWord}
use Rattle.requests.specs.declared.words.IndexWords.{IndexWords}
use Rattle.requests.specs.declared.limits.PlaneWords.{PlaneWords as ReadPlaneWords}
use Rattle.requests.specs.declared.limits.Planes.{Planes as ReadPlanes}
use Rattle.requests.specs.declared.slab_limits.SlabWords.{SlabWords as ReadSlabWords}
use Rattle.requests.specs.declared.request.Question.{Question as ReadQuestion}
use Rattle.requests.specs.declared.request.Question.TheVariants as questions
use Rattle.requests.specs.declared.request.Table.{Table as ReadTable}
use Rattle.requests.specs.declared.request.Table.TheVariants as tables
use Rattle.requests.specs.declared.request.Request.{Request}
use Rattle.requests.specs.declared.request.Request.TheVariants as requests
use Rattle.requests.specs.Words.{FrameWords, Indices, Placed}
use Rattle.requests.specs.Limits.{PlaneWords, Planes}
use Rattle.requests.specs.SlabLimits.{SlabWords}
use Rattle.requests.specs.Questions.{Question, Table, Asked, at_height, between_heights, all_heights, image_rows, survey_within, along_line, all_lines, of_type, of_sample, about, tabulate}

-- a ratio, and the place behind it
abbrev pub placed : Ratio × ℕ → Placed
placed read = record { ratio = fraction_of read.0; behind = read.1 }

-- the three ratios
abbrev pub fractions_of : VectorWord → Fractions
fractions_of v = record { x = fraction_of v.x; y = fraction_of v.y; z = fraction_of v.z }

-- the three vectors of a frame
abbrev pub frame_of : FrameWord → FrameWords
frame_of f = record { a = fractions_of f.a; b = fractions_of f.b; tau = fractions_of f.tau }

-- the indices
abbrev pub indices_of : IndexWords → Indices
indices_of p = record { row = record { x = p.h; y = p.k; z = p.l }; third = p.i }

-- what words say of a plane
abbrev pub plane_words : ReadPlaneWords → PlaneWords
plane_words w = record { indices = indices_of w.indices; frame = option_map frame_of w.frame; height = option_map fraction_of w.s }

-- what words say of a slab
abbrev pub slab_words : ReadSlabWords → SlabWords
slab_words w = record {
  indices = indices_of w.indices;
  frame = option_map frame_of w.frame;
  low = fraction_of w.low;
  high = fraction_of w.high;
}

-- the orientation and the vectors
abbrev pub planes_of : ReadPlanes → Planes
planes_of p = record { row = row_of p.plane; basis = basis_of p.basis }

-- what a question asks
abbrev pub question_of : ReadQuestion → Question
question_of (questions.At plane basis s) = at_height (row_of plane) (basis_of basis) (fraction_of s)
question_of (questions.Slab plane basis low high) = between_heights (row_of plane) (basis_of basis) (fraction_of low) (fraction_of high)
question_of (questions.Layers plane basis form) = all_heights (row_of plane) (basis_of basis) form
question_of (questions.Images plane) = image_rows (row_of plane)
question_of (questions.Survey n) = survey_within n
question_of (questions.Rod direction basis point) = along_line (direction_of direction) (parts basis.a) (parts basis.b) (parts point)

-- what a table asks
abbrev pub table_of : ReadTable → Table
table_of (tables.Type kind n) = of_type kind n
table_of (tables.Sample n) = of_sample n

-- what a request asks
abbrev pub asked_of : Request → Asked
asked_of (requests.About format question) = about format (question_of question)
asked_of (requests.Lines plane) = about (GroupText Pairs) (all_lines (row_of plane))
asked_of (requests.Tabulate table) = tabulate (table_of table)
