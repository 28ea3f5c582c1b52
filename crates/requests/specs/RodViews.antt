-- What the values of the code say of a line.
use Rattle.std.specs.Option.{option_map}
use Rattle.symmetry.specs.Vectors.{Vector}
use Rattle.motions.specs.Views.{parts}
use Rattle.penetration.specs.DirectionView.{direction_of}
use Rattle.penetration.specs.declared.frame.RodBasis.{RodBasis}
use Rattle.requests.specs.declared.rod_words.DirectionWord.{DirectionWord}
use Rattle.requests.specs.declared.rod_words.RodFrameWord.{RodFrameWord}
use Rattle.requests.specs.declared.rod_limits.LineWords.{LineWords as ReadLineWords}
use Rattle.requests.specs.declared.rod_limits.Line.{Line as ReadLine}
use Rattle.requests.specs.RodWords.{RodFrameWords}
use Rattle.requests.specs.RodLimits.{Line, LineWords, RodVectors}
use Rattle.requests.specs.Views.{fractions_of}

-- the direction that words give
abbrev pub direction_word : DirectionWord → Vector
direction_word d = record { x = d.u; y = d.v; z = d.w }

-- the two vectors of a rod frame
abbrev pub rod_frame_of : RodFrameWord → RodFrameWords
rod_frame_of f = record { a = fractions_of f.a; b = fractions_of f.b }

-- the same in parts
abbrev pub rod_vectors_of : RodBasis → RodVectors
rod_vectors_of basis = record { a = parts basis.a; b = parts basis.b }

-- what words say of a line
abbrev pub line_words : ReadLineWords → LineWords
line_words w = record { direction = direction_word w.direction; frame = option_map rod_frame_of w.frame; point = fractions_of w.point }

-- the line and the vectors
abbrev pub line_of : ReadLine → Line
line_of l = record { direction = direction_of l.direction; basis = rod_vectors_of l.basis; point = parts l.point }
