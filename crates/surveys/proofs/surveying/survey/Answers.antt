use Rattle.std.proofs.Common.{pos, ◌+◌, map, Vec, List, [], ◌∷◌, true, false, unsigned_abs, refl, sym, subst, ap, arith, ◌≡◌, ◌∙◌}
use Rattle.std.proofs.lemmas.Int.{ints}
use Rattle.std.proofs.lemmas.List.{map-append}
use Rattle.integers.proofs.Coded.{again}
use Rattle.closure.specs.Groups.{group_listing}
use Rattle.motions.specs.Views.{row_of}
use Rattle.surveys.specs.declared.surveyed.Surveyed.{Surveyed}
use Rattle.surveys.specs.Places.{place_of}
use Rattle.surveys.specs.SurveyView.{surveyed_of}
use Rattle.surveys.specs.Surveys.{IsRepresentative}
use Rattle.surveys.proofs.Digits.{one_triple}
use Rattle.surveys.proofs.PartialSurveys.{IsSurveyedTo, all_places, all_surveyed, begins, number_from, number_is, passed, survey_alike, taken}
use Rattle.surveys.proofs.surveying.survey.Goals.{in-Some+then-is_representative+in_ok-surveyed+in_ok-push, in-Some+else-is_representative, in_default}
use Rattle.surveys.proofs.surveying.survey.Goals as goal

pub loop-place-init : goal.loop-place-init
loop-place-init c =
    begins (again c.args.n) (number_from c.args.n c.requires.from c.requires.most) (group_listing c.args.group.now) (map surveyed_of c.new-list.result.items) (ap (map surveyed_of) c.new-list.ensures.items)

pub loop-place-preserved : goal.loop-place-preserved
loop-place-preserved c =
    let n = again c.args.n in
    let from = number_from c.args.n c.requires.from c.requires.most in
    let g = group_listing c.args.group.now in
    let p = c.loop-place.place in
    let so_far = λ (items : List Surveyed). IsSurveyedTo g n (pos (p + 1)) (map surveyed_of items) in
    elim c.match-plane_at.branch [
      | in-Some+then-is_representative+in_ok-surveyed+in_ok-push w ↦
          let is = w.in_ok-surveyed.ensures.plane in
          let first : IsRepresentative g (unsigned_abs n) (row_of w.in-Some.plane) =
          subst (λ k. IsRepresentative g k (row_of w.in-Some.plane)) w.unsigned_abs.ensures.value (w.if-is_representative.ensures.0 refl) in
          let more = taken n from g p (map surveyed_of c.loop-place.list.items) (surveyed_of w.in_ok-surveyed.field-0) (subst (IsRepresentative g (unsigned_abs n)) (sym is) first)
          (ap (place_of n) is ∙ w.in-Some.ensures.1) w.in_ok-surveyed.ensures.counts c.loop-place.invariant in
          subst so_far (sym (ap (λ (l : Vec Surveyed _). l.items) w.list-is ∙ w.in_ok-push.ensures.items))
          (subst (IsSurveyedTo g n (pos (p + 1))) (sym (map-append surveyed_of c.loop-place.list.items (w.in_ok-surveyed.field-0 ∷ []))) more)
      | in-Some+else-is_representative w ↦
          subst so_far (sym (ap (λ (l : Vec Surveyed _). l.items) w.list-is)) (passed n from g p _ (λ r is here.
          let same : r ≡ row_of w.in-Some.plane = one_triple n from r (row_of w.in-Some.plane) is.within.size w.in-Some.ensures.0 (here ∙ sym w.in-Some.ensures.1) in
          let no : false ≡ true =
          w.if-is_representative.ensures.1 (subst (λ k. IsRepresentative g k (row_of w.in-Some.plane)) (sym w.unsigned_abs.ensures.value) (subst (IsRepresentative g (unsigned_abs n)) same is)) in cc)
          c.loop-place.invariant)
      | in_default w ↦ subst so_far (sym (ap (λ (l : Vec Surveyed _). l.items) w.list-is)) (passed n from g p _ (λ r is. w.in_default.ensures r is.within) c.loop-place.invariant)
    ]

pub returns : goal.returns
returns c g of =
    let same = number_is c.args.n c.requires.from c.requires.most in
    let h = group_listing c.args.group.now in
    survey_alike g h of.alike _ _
    (all_surveyed c.args.n c.requires.from h c.loop-place.place _
    (all_places c.args.n c.loop-place.place _ (omega (arith, ints, c.requires.from, c.requires.most)) c.loop-place-test.false)
    (subst (λ z. IsSurveyedTo h z (pos c.loop-place.place) (map surveyed_of c.loop-place.list.items)) same c.loop-place.invariant))
