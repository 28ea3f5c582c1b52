-- What is written of a survey.
use Rattle.std.specs.Prelude.{ℕ, List, ◌++◌, codes, decimal, flat_map}
use Rattle.surveys.specs.Surveys.{SurveyedPlane}
use Rattle.report.specs.Texts.{indices_text}

-- the line of an orientation: its indices and its two numbers
abbrev pub surveyed_line : SurveyedPlane → List ℕ
surveyed_line p =
    codes "plane" ++ indices_text p.plane ++ codes " images " ++ decimal p.images ++ codes " special " ++ decimal p.special ++ codes "\n"

-- the orientations, one a line, and the end
abbrev pub survey_text : List SurveyedPlane → List ℕ
survey_text list = flat_map surveyed_line list ++ codes "end\n"
