-- Each of the members maps the line to itself, so that it does something along it.
use Rattle.std.proofs.Common.{ap, ◌∙◌, sym, subst, map, get_or, List}
use Rattle.std.specs.Prelude.{All}
use Rattle.std.proofs.lemmas.List.{take_all}
use Rattle.std.proofs.lemmas.List.Elements.{All-push}
use Rattle.motions.specs.RodMotions.{rod_of}
use Rattle.motions.specs.Views.{motion_of, parts}
use Rattle.motions.specs.declared.motion.Motion3.{Motion3}
use Rattle.recognition.specs.RodTests.{IsSmallRod}
use Rattle.penetration.specs.DirectionView.{direction_of}
use Rattle.penetration.specs.RodFrameView.{basis_of_rod}
use Rattle.penetration.specs.RodSections.{AreSections, counted}
use Rattle.penetration.proofs.SectionLists.{near_parts_within, sections_more}
use Rattle.penetration.proofs.section_lists.sections.Goals as goal
use Rattle.penetration.proofs.section_lists.sections.Goals.{in-Some+in_ok-push, in_default}

pub loop-m-preserved : goal.loop-m-preserved
loop-m-preserved c =
    let q = c.args.frame.now in
    let u = direction_of q.direction in
    let f = basis_of_rod q in
    let at = parts c.args.point.now in
    let i = c.loop-m.m-index in
    elim c.match-section.branch [
      | in-Some+in_ok-push w ↦
          let is = ap (λ v. v.items) w.section-is ∙ w.in_ok-push.ensures.items in
          let n = w.in-Some.n in
          let near = c.requires.near i _ c.loop-m-test.true in
          let small : IsSmallRod n = record {
            matrix = w.in-Some.ensures.matrix;
            translation = near_parts_within f at (motion_of (get_or c.args.members.now i _)) n.t q.right_handed q.axis_in_range near w.in-Some.ensures.along;
          } in
          record {
            acts = λ rods are.
                sections_more u f rods (counted at) c.args.members.now i _ c.loop-m.section.items _ n is c.loop-m-test.true (c.loop-m.invariant.acts rods are)
                (w.in-Some.ensures.acts rods are);
            small = subst (All IsSmallRod) (sym is) (All-push IsSmallRod c.loop-m.section.items n c.loop-m.invariant.small small);
          }
      | in_default w ↦ absurd (w.in_default.ensures.exact (c.requires.in_stabiliser i _ c.loop-m-test.true).1)
    ]

pub returns-clause-acts : goal.returns-clause-acts
returns-clause-acts c = λ rods are.
    let q = c.args.frame.now in
    subst (λ (ms : List Motion3). AreSections (direction_of q.direction) (basis_of_rod q) rods (counted (parts c.args.point.now)) (map motion_of ms) (map rod_of c.loop-m.section.items))
    (take_all c.loop-m.m-index c.args.members.now c.loop-m-test.false) (c.loop-m.invariant.acts rods are)
