-- The limits of a line and of its rod frame.
use Rattle.std.specs.Prelude.{Option, Some, None, option_and_then, option_map, Result, Ok, Err}
use Rattle.fractions.specs.Fractions.{Fractions}
use Rattle.symmetry.specs.Vectors.{Vector}
use Rattle.motions.specs.declared.miller.PlaneFault.{PlaneFault}
use Rattle.requests.specs.declared.refusal.Refusal.{Refusal}
use Rattle.requests.specs.declared.refusal.Refusal.TheVariants.{FrameLimit, PointLimit}
use Rattle.requests.specs.RodWords.{RodFrameWords}
use Rattle.requests.specs.Limits.{edges_basis, plane_fault, plane_refusal, vector_parts}

-- the vectors a and b of a rod frame, in parts
pub record RodVectors : Type 0 where
  pub a : Vector
  pub b : Vector

-- the cell edges a and b
abbrev pub edges_across : RodVectors
edges_across = record { a = edges_basis.a; b = edges_basis.b }

-- the vectors that the words give, in parts, or the cell edges
abbrev pub rod_vectors : Option RodFrameWords → Option RodVectors
rod_vectors None = Some edges_across
rod_vectors (Some f) = option_and_then (λ a. option_map (λ b. record { a = a; b = b }) (vector_parts f.b)) (vector_parts f.a)

-- what words say of a line: its direction, a point of it, and the vectors of a rod frame where they have them
pub record LineWords : Type 0 where
  pub direction : Vector
  pub frame : Option RodFrameWords
  pub point : Fractions

-- a line: its direction and a point of it, in parts, with the vectors of a rod frame
pub record Line : Type 0 where
  pub direction : Vector
  pub basis : RodVectors
  pub point : Vector

-- the direction, if it is one, with the vectors and the point, if these are in range, else the first that is wrong
abbrev pub first_line_limit : Vector → Option PlaneFault → Option RodVectors → Option Vector → Result Line Refusal
first_line_limit direction (Some fault) basis point = Err (plane_refusal fault)
first_line_limit direction None None point = Err FrameLimit
first_line_limit direction None (Some basis) None = Err PointLimit
first_line_limit direction None (Some basis) (Some point) = Ok (record { direction = direction; basis = basis; point = point })

-- the line and the rod frame of the words, or the first limit that they pass. A direction is refused as Miller indices are
abbrev pub within_line_limits : LineWords → Result Line Refusal
within_line_limits w = first_line_limit w.direction (plane_fault w.direction) (rod_vectors w.frame) (vector_parts w.point)
