use Rattle.std.proofs.Common.{pos, map}
use Rattle.closure.specs.Groups.{group_listing}
use Rattle.surveys.specs.SurveyView.{surveyed_of}
use Rattle.surveys.proofs.PartialSurveys.{IsSurveyedTo}
use Rattle.surveys.proofs.surveying.survey.Given as goal

-- the triples at the places so far are surveyed
abbrev pub invariant-loop-place : goal.invariant-loop-place
invariant-loop-place l = IsSurveyedTo (group_listing l.fn.group) l.fn.n (pos l.place) (map surveyed_of l.list.items)
