-- What the code says of an orientation.
use Rattle.motions.specs.Views.{row_of}
use Rattle.surveys.specs.declared.surveyed.Surveyed.{Surveyed}
use Rattle.surveys.specs.Surveys.{SurveyedPlane}

-- the row (hkl) and the two numbers
abbrev pub surveyed_of : Surveyed → SurveyedPlane
surveyed_of s = record { plane = row_of s.plane; images = s.images; special = s.special }
