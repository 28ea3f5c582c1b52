-- The frame of a group and an orientation, or why there is none.
use Rattle.std.specs.Prelude.{◌≡◌, ◌⊎◌, ℕ, List}
use Rattle.symmetry.specs.Vectors.{Vector}
use Rattle.symmetry.specs.Groups.{Listing}
use Rattle.symmetry.specs.Frames.{Basis, IsSkewed}
use Rattle.reduction.specs.Reduced.{IsReducedFrame}
use Rattle.reduction.specs.ReducedFrames.{IsInRange, IsReductionFault}
use Rattle.reduction.specs.declared.reduced.ReductionFault.{ReductionFault}
use Rattle.reduction.specs.declared.reduced.ReductionFault.TheVariants.{OutOfRange, Skewed}
use Rattle.report.specs.Texts.{frame_line}
use Rattle.requests.specs.declared.request.Format.{Format}
use Rattle.requests.specs.declared.refusal.Refusal.{Refusal}
use Rattle.requests.specs.declared.refusal.Refusal.TheVariants.{FrameLimit, SkewFrame}
use Rattle.requests.specs.Inputs.{IsRefusedInput, IsShort, ListsGroup, ListsSome}

-- ---- of a group

-- the text is the line of a reduced frame of the group and the orientation, which is in range and not skewed
pub record IsFrameAnswer (g : Listing) (row : Vector) (text : List ℕ) : Type 0 where
  pub basis : Basis
  pub reduced : IsReducedFrame g row basis
  pub in_range : IsInRange basis
  pub not_skewed : ¬ IsSkewed g row basis
  pub is_text : text ≡ frame_line basis

-- the refusal of a reduced frame
abbrev pub refusal_of_reduction : ReductionFault → Refusal
refusal_of_reduction OutOfRange = FrameLimit
refusal_of_reduction Skewed = SkewFrame

-- why none is given: a reduced frame is out of range, or skewed
abbrev pub RefusesReduced : Listing → Vector → Refusal → Type 0
RefusesReduced g row refusal = (fault : ReductionFault) × IsReductionFault g row fault × (refusal ≡ refusal_of_reduction fault)

-- ---- of an input

-- the text is the line of a frame of the group that the input lists
pub record AnswersInput (format : Format) (row : Vector) (input text : List ℕ) : Type 0 where
  pub short : IsShort format input
  pub group : Listing
  pub lists : ListsGroup format input group
  pub answers : IsFrameAnswer group row text

-- why there is none: the input gives no group, or one whose reduced frame is refused
abbrev pub RefusesInput : Format → Vector → List ℕ → Refusal → Type 0
RefusesInput format row input refusal =
    IsRefusedInput format input refusal
    ⊎ (IsShort format input × ListsSome format input × ((g : Listing) → ListsGroup format input g → RefusesReduced g row refusal))
