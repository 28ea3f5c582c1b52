use Rattle.std.proofs.Common.{◌≡◌, Bool, ℕ, List, Some, subst}
use Rattle.std.proofs.lemmas.Result.{err_from_is_err_and}
use Rattle.motions.specs.Views.{listing_of}
use Rattle.triplets.specs.Texts.{IsGroupText}
use Rattle.requests.specs.declared.request.Format.TheVariants.{GroupText}
use Rattle.requests.specs.Inputs.{IsShort}
use Rattle.requests.proofs.InputGroups.{group_listed, group_generated}
use Rattle.requests.proofs.PlaneGroups.{generated_in, made_in}
use Rattle.requests.proofs.Reading.{generators_obstacle, group_obstacle}
use Rattle.requests.proofs.input.group_of_text.Goals as goal

pub returns-in_err-generated-clause-obstacle : goal.returns-in_err-generated-clause-obstacle
returns-in_err-generated-clause-obstacle g c =
    let left = g.S.Source.left c.args.source.now in
    let listing = listing_of c.in_ok-listed.listed in
    let lists = λ (b : Bool). (input : List ℕ) → left ≡ Some input → IsShort (GroupText c.args.notation) input × IsGroupText c.args.notation input b listing in
    let p = err_from_is_err_and c.from_residual-in_err-generated.result c.from_residual-in_err-generated.ensures.1 in
    rw (p.1, p.2) (generators_obstacle left _ _ c.in_ok-listed.ensures.unfailed c.args.notation listing
    (subst lists c.if-listed.true c.in_ok-listed.ensures.text) c.in_err-generated.field-0.0 c.in_err-generated.ensures.refused)

pub returns-in_err-make-clause-obstacle : goal.returns-in_err-make-clause-obstacle
returns-in_err-make-clause-obstacle g c =
    let left = g.S.Source.left c.args.source.now in
    let listing = listing_of c.in_ok-listed.listed in
    let lists = λ (b : Bool). (input : List ℕ) → left ≡ Some input → IsShort (GroupText c.args.notation) input × IsGroupText c.args.notation input b listing in
    let p = err_from_is_err_and c.from_residual-in_err-make.result c.from_residual-in_err-make.ensures.1 in
    rw (p.1, p.2) (group_obstacle left _ _ c.in_ok-listed.ensures.unfailed (GroupText c.args.notation) listing
    (subst lists c.if-listed.false c.in_ok-listed.ensures.text) c.in_err-make.field-0.0 c.in_err-make.ensures.refused)

pub returns-in_ok-generated-clause-group : goal.returns-in_ok-generated-clause-group
returns-in_ok-generated-clause-group g c input is =
    let text = c.in_ok-listed.ensures.text input is in
    let listing = listing_of c.in_ok-listed.listed in
    group_generated c.args.notation input c.in_ok-generated.field-0 text.0 listing (subst (λ (b : Bool). IsGroupText c.args.notation input b listing) c.if-listed.true text.1)
    c.in_ok-generated.ensures.limits c.in_ok-generated.ensures.listing

pub returns-in_ok-make-clause-group : goal.returns-in_ok-make-clause-group
returns-in_ok-make-clause-group g c input is =
    let text = c.in_ok-listed.ensures.text input is in
    let listing = listing_of c.in_ok-listed.listed in
    group_listed c.args.notation input c.in_ok-make.field-0 text.0 listing (subst (λ (b : Bool). IsGroupText c.args.notation input b listing) c.if-listed.false text.1)
    c.in_ok-make.ensures.limits c.in_ok-make.ensures.made

pub returns-in_ok-generated-clause-flat : goal.returns-in_ok-generated-clause-flat
returns-in_ok-generated-clause-flat g c =
    generated_in c.args.notation (listing_of c.in_ok-listed.listed) c.in_ok-generated.field-0 c.in_ok-listed.ensures.flat c.in_ok-generated.ensures.listing

pub returns-in_ok-make-clause-flat : goal.returns-in_ok-make-clause-flat
returns-in_ok-make-clause-flat g c =
    made_in c.args.notation (listing_of c.in_ok-listed.listed) c.in_ok-make.field-0 c.in_ok-listed.ensures.flat c.in_ok-make.ensures.made
