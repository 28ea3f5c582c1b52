use Rattle.std.proofs.Common.{Err, List, Ok, subst, ℕ}
use Rattle.std.proofs.lemmas.Result.{err_from_is_err_and}
use Rattle.motions.specs.Views.{listing_of}
use Rattle.cif_symops.specs.Answers.{IsAnswer}
use Rattle.requests.specs.declared.request.Format.TheVariants.{Cif}
use Rattle.requests.proofs.CifFiles as files
use Rattle.requests.proofs.Reading.{group_obstacle}
use Rattle.requests.proofs.cif_input.group_of_file.Goals as goal

pub returns-in_err-listed-clause-obstacle : goal.returns-in_err-listed-clause-obstacle
returns-in_err-listed-clause-obstacle g c =
    let fault = c.in_err-listed.field-0.0 in
    let answer = subst (λ (bytes : List ℕ). IsAnswer bytes (Err fault)) c.deref.ensures.value c.in_err-listed.ensures.answer in
    let p = err_from_is_err_and c.from_residual-in_err-listed.result c.from_residual-in_err-listed.ensures.1 in
    rw (p.1, p.2) (files.file_obstacle (g.S.Source.left c.args.source.now) c.in_ok-file.file.items c.in_ok-file.ensures.short c.in_ok-file.ensures.file
    _ _ c.in_ok-file.ensures.unfailed fault answer)

pub returns-in_err-make-clause-obstacle : goal.returns-in_err-make-clause-obstacle
returns-in_err-make-clause-obstacle g c =
    let listed = c.in_ok-listed.listed in
    let answer = subst (λ (bytes : List ℕ). IsAnswer bytes (Ok listed)) c.deref.ensures.value c.in_ok-listed.ensures.answer in
    let left = g.S.Source.left c.args.source.now in
    let p = err_from_is_err_and c.from_residual-in_err-make.result c.from_residual-in_err-make.ensures.1 in
    rw (p.1, p.2) (group_obstacle left _ _ c.in_ok-file.ensures.unfailed Cif (listing_of listed)
    (files.file_lists left c.in_ok-file.file.items c.in_ok-file.ensures.short c.in_ok-file.ensures.file listed answer)
    c.in_err-make.field-0.0 c.in_err-make.ensures.refused)

pub returns-clause-group : goal.returns-clause-group
returns-clause-group g c = λ input is.
    let listed = c.in_ok-listed.listed in
    let answer = subst (λ (bytes : List ℕ). IsAnswer bytes (Ok listed)) c.deref.ensures.value c.in_ok-listed.ensures.answer in
    files.group_of_file input c.in_ok-make.field-0 (listing_of listed)
    (files.file_lists (g.S.Source.left c.args.source.now) c.in_ok-file.file.items c.in_ok-file.ensures.short c.in_ok-file.ensures.file listed answer input is)
    c.in_ok-make.ensures.limits c.in_ok-make.ensures.made
