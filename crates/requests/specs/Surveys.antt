-- The survey of the orientations of a group.
use Rattle.std.specs.Prelude.{◌≡◌, ℕ, ℤ, unsigned_abs, List}
use Rattle.symmetry.specs.Groups.{Listing}
use Rattle.surveys.specs.Surveys.{IsSurvey, SurveyedPlane}
use Rattle.report.specs.SurveyTexts.{survey_text}

-- the text is that of one orientation of each class of equivalent ones, with indices at most n in size
pub record IsSurveyAnswer (g : Listing) (n : ℤ) (text : List ℕ) : Type 0 where
  pub list : List SurveyedPlane
  pub is_survey : IsSurvey g (unsigned_abs n) list
  pub is_text : text ≡ survey_text list
